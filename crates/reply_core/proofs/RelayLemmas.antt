-- The records of a section that are relayed, and when a relay is whole.
use Rattle.std.proofs.Common.{◌≡◌, ℕ, ◌+◌, ◌%◌, ◌^◌, ◌<◌, Bool, true, false, List, [], ◌∷◌, ◌++◌, length, get_or, take, drop, Some, None, is_none, refl, sym, ◌∙◌, ap, cond, arith, append-nil, inl, inr}
use Rattle.std.specs.Prelude.{not, nat_le, filter}
use Rattle.std.specs.List.{flat_map}
use Rattle.std.proofs.lemmas.Bool.Decides.{leb_tells}
use Rattle.std.proofs.lemmas.Grind.{flat_map-append}
use Rattle.std.proofs.lemmas.List.{take-append-drop}
use Rattle.std.proofs.lemmas.List.Elements.{filter-append, filter_more}
use Rattle.byteorder.specs.Endian.{big_bytes}
use Rattle.dnswire.specs.declared.rr.Rr.{Rr}
use Rattle.reply_core.specs.Count.{count16}
use Rattle.reply_core.specs.Draft.{Contents, within, put, blank}
use Rattle.reply_core.specs.Relay.{rr_octets}
use Rattle.reply_core.specs.Reply.{header_octets}
use Rattle.reply_core.proofs.CountLemmas.{big_bytes-low16, count16-append}
use Rattle.reply_core.proofs.DraftLemmas.{put-put, put-lost, put-blank}
use Rattle.reply_core.proofs.ReplyLemmas.{header-counts}

-- records that are put after records
pub put-rrs : (draft : Contents) (first second : List Rr) → put (put draft (flat_map rr_octets first)) (flat_map rr_octets second) ≡ put draft (flat_map rr_octets (first ++ second))
put-rrs draft first second = put-put draft _ _ ∙ ap (put draft) (sym (flat_map-append rr_octets first second))

-- one record more, which passes the test
pub one_passes : (passes : Rr → Bool) (items : List Rr) (i : ℕ) (rr : Rr) → i < length items → rr ≡ get_or items i rr → passes rr ≡ true → filter passes (take (i + 1) items) ≡ filter passes (take i items) ++ rr ∷ []
one_passes passes items i rr inside at passed =
    filter_more passes items i rr inside ∙ ap (λ x. filter passes (take i items) ++ cond (passes x) (x ∷ []) []) (sym at) ∙ ap (λ test. filter passes (take i items) ++ cond test (rr ∷ []) []) passed

-- one record more, which doesn't
pub one_fails : (passes : Rr → Bool) (items : List Rr) (i : ℕ) (rr : Rr) → i < length items → rr ≡ get_or items i rr → passes rr ≡ false → filter passes (take (i + 1) items) ≡ filter passes (take i items)
one_fails passes items i rr inside at failed =
    filter_more passes items i rr inside ∙ ap (λ x. filter passes (take i items) ++ cond (passes x) (x ∷ []) []) (sym at) ∙ ap (λ test. filter passes (take i items) ++ cond test (rr ∷ []) []) failed ∙ append-nil (filter passes (take i items))

pub put-one_passes : (passes : Rr → Bool) (items : List Rr) (i : ℕ) (rr : Rr) (start before after : Contents)
    → i < length items → rr ≡ get_or items i rr → passes rr ≡ true
    → before ≡ put start (flat_map rr_octets (filter passes (take i items)))
    → after ≡ put before (rr_octets rr)
    → after ≡ put start (flat_map rr_octets (filter passes (take (i + 1) items)))
put-one_passes passes items i rr start before after inside at passed was is =
    is ∙ ap (λ draft. put draft (rr_octets rr)) was
    ∙ ap (put (put start (flat_map rr_octets (filter passes (take i items))))) (sym (append-nil (rr_octets rr)))
    ∙ put-rrs start (filter passes (take i items)) (rr ∷ [])
    ∙ ap (λ rrs. put start (flat_map rr_octets rrs)) (sym (one_passes passes items i rr inside at passed))

pub put-one_fails : (passes : Rr → Bool) (items : List Rr) (i : ℕ) (rr : Rr) (start now : Contents)
    → i < length items → rr ≡ get_or items i rr → passes rr ≡ false
    → now ≡ put start (flat_map rr_octets (filter passes (take i items)))
    → now ≡ put start (flat_map rr_octets (filter passes (take (i + 1) items)))
put-one_fails passes items i rr start now inside at failed was =
    was ∙ ap (λ rrs. put start (flat_map rr_octets rrs)) (sym (one_fails passes items i rr inside at failed))

-- beyond the limit the other records need not be put
pub put-stopped_among : (passes : Rr → Bool) (items : List Rr) (i : ℕ) (start now : Contents)
    → now ≡ put start (flat_map rr_octets (filter passes (take i items)))
    → is_none now.written ≡ true
    → now ≡ put start (flat_map rr_octets (filter passes items))
put-stopped_among passes items i start now was lost =
    sym (put-lost now (flat_map rr_octets (filter passes (drop i items))) lost)
    ∙ ap (λ draft. put draft (flat_map rr_octets (filter passes (drop i items)))) was
    ∙ put-rrs start (filter passes (take i items)) (filter passes (drop i items))
    ∙ ap (λ rrs. put start (flat_map rr_octets rrs)) (sym (filter-append passes (take i items) (drop i items)) ∙ ap (filter passes) (take-append-drop i items))

pub count-one_passes : (passes : Rr → Bool) (items : List Rr) (i count : ℕ) (rr : Rr) → i < length items → rr ≡ get_or items i rr → passes rr ≡ true → count ≡ count16 (filter passes (take i items)) → (count + 1) % 2 ^ 16 ≡ count16 (filter passes (take (i + 1) items))
count-one_passes passes items i count rr inside at passed was =
    ap (λ n. (n + 1) % 2 ^ 16) was ∙ sym (count16-append (filter passes (take i items)) (rr ∷ [])) ∙ ap count16 (sym (one_passes passes items i rr inside at passed))

pub put-relay : (draft : Contents) (head asked opt : List ℕ) (answers authorities additionals : List Rr)
    → put (put (put (put (put (put draft head) asked) (flat_map rr_octets answers)) (flat_map rr_octets authorities)) (flat_map rr_octets additionals)) opt
    ≡ put draft (head ++ asked ++ flat_map rr_octets (answers ++ authorities ++ additionals) ++ opt)
put-relay draft head asked opt answers authorities additionals =
    rw (put-rrs (put (put draft head) asked) answers authorities, put-rrs (put (put draft head) asked) (answers ++ authorities) additionals) (simp put-put)

-- two octets hold the low 16 bits of a number of records and one more
sum-low16 : (number more : ℕ) → big_bytes 2 ((number % 2 ^ 16 + more) % 2 ^ 16) ≡ big_bytes 2 (number + more)
sum-low16 number more =
    let same : (number % 2 ^ 16 + more) % 2 ^ 16 ≡ (number + more) % 2 ^ 16 = omega arith in
    ap (big_bytes 2) same ∙ big_bytes-low16 (number + more)

-- a header has the numbers of records by their low 16 bits
pub header-sections : (id flags questions opts : ℕ) (answers authorities additionals : List Rr) → header_octets id flags questions (count16 answers) (count16 authorities) ((count16 additionals + opts) % 2 ^ 16) ≡ header_octets id flags questions (length answers) (length authorities) (length additionals + opts)
header-sections id flags questions opts answers authorities additionals =
    header-counts id flags questions ((count16 additionals + opts) % 2 ^ 16) answers authorities
    ∙ ap (λ last. big_bytes 2 id ++ big_bytes 2 flags ++ big_bytes 2 questions ++ big_bytes 2 (length answers) ++ big_bytes 2 (length authorities) ++ last) (sum-low16 (length additionals) opts)

-- the draft has the whole exactly where that is within its limit
pub is_within : (limit : ℕ) (whole : List ℕ) (draft : Contents) → draft ≡ put (blank limit) whole → not (is_none draft.written) ≡ nat_le (length whole) limit
is_within limit whole draft is =
    let held : draft.written ≡ within limit whole = ap (λ s. s.written) (is ∙ put-blank limit whole) in
    elim (leb_tells (length whole) limit) [
      | inl le ↦ ap (λ w. not (is_none w)) held ∙ (rw le.0 refl)
      | inr gt ↦ ap (λ w. not (is_none w)) held ∙ (rw gt.0 refl)
    ]

pub has_whole : (limit : ℕ) (whole : List ℕ) (draft : Contents) → draft ≡ put (blank limit) whole → not (is_none draft.written) ≡ true → draft.written ≡ Some whole
has_whole limit whole draft is some =
    let held : draft.written ≡ within limit whole = ap (λ s. s.written) (is ∙ put-blank limit whole) in
    elim (leb_tells (length whole) limit) [
      | inl le ↦ held ∙ (rw le.0 refl)
      | inr gt ↦ let lost : draft.written ≡ None = held ∙ (rw gt.0 refl) in let bad = rw lost at some in cc
    ]
