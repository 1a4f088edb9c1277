-- A reply is whole within the limit, and else truncated.
use Rattle.std.proofs.Common.{◌≡◌, ℕ, ◌≤◌, true, false, List, ◌++◌, length, Option, Some, None, is_none, inl, inr, refl, sym, ◌∙◌, ap, subst}
use Rattle.std.specs.Prelude.{nat_le, slice_set, slice_index_or, if◌then◌else◌}
use Rattle.std.specs.List.{flat_map}
use Rattle.std.proofs.lemmas.Bool.Decides.{leb_tells}
use Rattle.byteorder.specs.Endian.{big_bytes}
use Rattle.reply_core.specs.Count.{count16, HasPut}
use Rattle.reply_core.specs.Draft.{Contents, within, put, set_octet, blank, octets_of}
use Rattle.reply_core.specs.Reply.{ReplyRecord, record_octets, header_octets}
use Rattle.reply_core.proofs.DraftLemmas.{put-put, put-blank, fits}
use Rattle.reply_core.proofs.RecordLemmas.{put-records}
use Rattle.reply_core.proofs.CountLemmas.{big_bytes-low16}

written-whole : (limit : ℕ) (whole truncated : List ℕ) (draft : Contents) → draft ≡ put (blank limit) whole → is_none draft.written ≡ false → draft.written ≡ Some (if nat_le (length whole) limit then whole else truncated)
written-whole limit whole truncated draft is some =
    let held : draft.written ≡ within limit whole = ap (λ s. s.written) (is ∙ put-blank limit whole) in
    elim (leb_tells (length whole) limit) [
      | inl whole_fits ↦ held ∙ (rw whole_fits.0 refl)
      | inr too_long ↦ let lost : draft.written ≡ None = held ∙ (rw too_long.0 refl) in let bad = rw lost at some in cc
    ]

written-truncated : (limit : ℕ) (whole truncated : List ℕ) (tried draft : Contents) → tried ≡ put (blank limit) whole → is_none tried.written ≡ true → draft ≡ put (blank limit) truncated → length truncated ≤ limit → draft.written ≡ Some (if nat_le (length whole) limit then whole else truncated)
written-truncated limit whole truncated tried draft was none is small =
    let held : draft.written ≡ within limit truncated = ap (λ s. s.written) (is ∙ put-blank limit truncated) in
    let lost : tried.written ≡ within limit whole = ap (λ s. s.written) (was ∙ put-blank limit whole) in
    elim (leb_tells (length whole) limit) [
      | inl whole_fits ↦ let kept : tried.written ≡ Some whole = lost ∙ (rw whole_fits.0 refl) in let bad = rw kept at none in cc
      | inr too_long ↦ held ∙ fits limit truncated small ∙ (rw too_long.0 refl)
    ]

-- what was not beyond the limit is within it
whole-within : (limit : ℕ) (whole truncated : List ℕ) (draft : Contents) → draft ≡ put (blank limit) whole → is_none draft.written ≡ false → length (if nat_le (length whole) limit then whole else truncated) ≤ limit
whole-within limit whole truncated draft is some =
    let held : draft.written ≡ within limit whole = ap (λ s. s.written) (is ∙ put-blank limit whole) in
    elim (leb_tells (length whole) limit) [
      | inl whole_fits ↦ rw whole_fits.0 whole_fits.1
      | inr too_long ↦ let lost : draft.written ≡ None = held ∙ (rw too_long.0 refl) in let bad = rw lost at some in cc
    ]

either-within : (limit : ℕ) (whole truncated : List ℕ) → length truncated ≤ limit → length (if nat_le (length whole) limit then whole else truncated) ≤ limit
either-within limit whole truncated small =
    elim (leb_tells (length whole) limit) [ inl whole_fits ↦ rw whole_fits.0 whole_fits.1 | inr too_long ↦ rw too_long.0 small ]

-- a draft's octets are the whole where that is within the limit, else the truncated, and within it themselves
pub record IsSent (limit : ℕ) (whole truncated : List ℕ) (draft : Contents) : Type 0 where
  pub octets : octets_of draft.written ≡ (if nat_le (length whole) limit then whole else truncated)
  pub within_limit : length (octets_of draft.written) ≤ limit

sent : (limit : ℕ) (whole truncated : List ℕ) (draft : Contents) → draft.written ≡ Some (if nat_le (length whole) limit then whole else truncated) → length (if nat_le (length whole) limit then whole else truncated) ≤ limit → IsSent limit whole truncated draft
sent limit whole truncated draft is small = record {
  octets = ap octets_of is;
  within_limit = subst (λ (octets : Option (List ℕ)). length (octets_of octets) ≤ limit) (sym is) small;
}

pub sent-whole : (limit : ℕ) (whole truncated : List ℕ) (draft : Contents) → draft ≡ put (blank limit) whole → is_none draft.written ≡ false → IsSent limit whole truncated draft
sent-whole limit whole truncated draft is some =
    sent limit whole truncated draft (written-whole limit whole truncated draft is some) (whole-within limit whole truncated draft is some)

pub sent-truncated : (limit : ℕ) (whole truncated : List ℕ) (tried draft : Contents) → tried ≡ put (blank limit) whole → is_none tried.written ≡ true → draft ≡ put (blank limit) truncated → length truncated ≤ limit → IsSent limit whole truncated draft
sent-truncated limit whole truncated tried draft was none is small =
    sent limit whole truncated draft (written-truncated limit whole truncated tried draft was none is small) (either-within limit whole truncated small)

-- a header with these octets as numbers of records
abbrev header_with : ℕ → ℕ → ℕ → ℕ → List ℕ → List ℕ → List ℕ
header_with id flags questions additionals answers authorities =
    big_bytes 2 id ++ big_bytes 2 flags ++ big_bytes 2 questions ++ answers ++ authorities ++ big_bytes 2 additionals

-- a header has the numbers of records by their low 16 bits
pub header-counts : {T : Type 0} (id flags questions additionals : ℕ) (answers authorities : List T) → header_octets id flags questions (count16 answers) (count16 authorities) additionals ≡ header_octets id flags questions (length answers) (length authorities) additionals
header-counts id flags questions additionals answers authorities =
    ap (λ n. header_with id flags questions additionals n (big_bytes 2 (count16 authorities))) (big_bytes-low16 (length answers))
    ∙ ap (header_with id flags questions additionals (big_bytes 2 (length answers))) (big_bytes-low16 (length authorities))

-- a reply's parts, one after the other
pub put-parts : (ttl : ℕ) (blank with_head asked with_answers with_both all : Contents) (head question opt : List ℕ) (a b : ℕ) (answers authorities : List ReplyRecord)
    → with_head ≡ put blank head → asked ≡ put with_head question
    → HasPut ttl asked with_answers a answers → HasPut ttl with_answers with_both b authorities → all ≡ put with_both opt
    → all ≡ put blank (head ++ question ++ flat_map (record_octets ttl) (answers ++ authorities) ++ opt)
put-parts ttl blank with_head asked with_answers with_both all head question opt a b answers authorities is1 is2 one two is3 =
    rw (is3, two.octets, one.octets, is2, is1, put-records ttl (put (put blank head) question) answers authorities) (simp put-put)

-- numbers of answers and authorities over those of a header
abbrev set_four : List ℕ → ℕ → ℕ → ℕ → ℕ → List ℕ
set_four octets a b c d = slice_set (slice_set (slice_set (slice_set octets 6 a) 7 b) 8 c) 9 d

set_four-header : (id flags questions additionals answers authorities : ℕ) (first second rest : List ℕ)
    → first ≡ big_bytes 2 answers → second ≡ big_bytes 2 authorities
    → set_four (header_octets id flags questions 0 0 additionals ++ rest) (slice_index_or first 0 0) (slice_index_or first 1 0) (slice_index_or second 0 0) (slice_index_or second 1 0)
    ≡ header_octets id flags questions answers authorities additionals ++ rest
set_four-header id flags questions additionals answers authorities first second rest is1 is2 = rw (is1, is2) refl

set_four-within : (limit : ℕ) (octets : List ℕ) (a b c d : ℕ) → length (set_four octets a b c d) ≡ length octets
    → set_octet (set_octet (set_octet (set_octet (record { limit = limit; written = within limit octets }) 6 a) 7 b) 8 c) 9 d
    ≡ record { limit = limit; written = within limit (set_four octets a b c d) }
set_four-within limit octets a b c d same =
    elim (leb_tells (length octets) limit) [
      | inl le ↦ rw (same, le.0) refl
      | inr gt ↦ rw (same, gt.0) refl
    ]

pub counts-set : (limit id flags questions additionals answers authorities : ℕ) (first second rest : List ℕ) (before after : Contents)
    → first ≡ big_bytes 2 answers → second ≡ big_bytes 2 authorities
    → after ≡ set_octet (set_octet (set_octet (set_octet before 6 (slice_index_or first 0 0)) 7 (slice_index_or first 1 0)) 8 (slice_index_or second 0 0)) 9 (slice_index_or second 1 0)
    → before ≡ put (blank limit) (header_octets id flags questions 0 0 additionals ++ rest)
    → after ≡ put (blank limit) (header_octets id flags questions answers authorities additionals ++ rest)
counts-set limit id flags questions additionals answers authorities first second rest before after is1 is2 is was =
    let octets = header_octets id flags questions 0 0 additionals ++ rest in
    let a = slice_index_or first 0 0 in
    let b = slice_index_or first 1 0 in
    let c = slice_index_or second 0 0 in
    let d = slice_index_or second 1 0 in
    is
    ∙ ap (λ draft. set_octet (set_octet (set_octet (set_octet draft 6 a) 7 b) 8 c) 9 d) (was ∙ put-blank limit octets)
    ∙ set_four-within limit octets a b c d refl
    ∙ ap (λ octets. record { limit = limit; written = within limit octets }) (set_four-header id flags questions additionals answers authorities first second rest is1 is2)
    ∙ sym (put-blank limit (header_octets id flags questions answers authorities additionals ++ rest))
