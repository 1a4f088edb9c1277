-- The octets of records, one record more at a time, and how many they are.
use Rattle.std.proofs.Common.{◌≡◌, subst, false, ℕ, ◌+◌, ◌%◌, ◌^◌, ◌<◌, length, List, [], ◌∷◌, ◌++◌, refl, sym, ◌∙◌, ap, arith, append-nil, append_assoc}
use Rattle.std.specs.List.{flat_map}
use Rattle.std.proofs.lemmas.Grind.{flat_map-append}
use Rattle.std.proofs.lemmas.List.{length-map}
use Rattle.dname.specs.Name.{Label}
use Rattle.reply_core.specs.Count.{count16, HasPut}
use Rattle.reply_core.specs.Draft.{Contents, put}
use Rattle.denial_records.specs.declared.record.Record.{Record}
use Rattle.reply_core.specs.Reply.{ReplyRecord, record_octets, records_of, proof_records}
use Rattle.reply_core.proofs.CountLemmas.{count16-append}
use Rattle.reply_core.proofs.DraftLemmas.{put-put, put-nil}

-- records that are put after records
pub put-records : (ttl : ℕ) (draft : Contents) (first second : List ReplyRecord) → put (put draft (flat_map (record_octets ttl) first)) (flat_map (record_octets ttl) second) ≡ put draft (flat_map (record_octets ttl) (first ++ second))
put-records ttl draft first second = put-put draft _ _ ∙ ap (put draft) (sym (flat_map-append (record_octets ttl) first second))

pub has_put-none : (ttl : ℕ) (draft : Contents) → HasPut ttl draft draft 0 []
has_put-none ttl draft = record { octets = sym (put-nil draft); count = refl }

pub has_put-both : (ttl : ℕ) (before between after : Contents) (count more sum : ℕ) (first second : List ReplyRecord)
    → HasPut ttl before between count first → HasPut ttl between after more second → sum ≡ (count + more) % 2 ^ 16
    → HasPut ttl before after sum (first ++ second)
has_put-both ttl before between after count more sum first second one two is = record {
  octets =
      two.octets ∙ ap (λ draft. put draft (flat_map (record_octets ttl) second)) one.octets ∙ put-records ttl before first second;
  count =
      is
      ∙ ap (λ n. (n + more) % 2 ^ 16) one.count
      ∙ ap (λ n. (count16 first + n) % 2 ^ 16) two.count
      ∙ sym (count16-append first second);
}

pub has_put-one : (ttl : ℕ) (before after : Contents) (r : ReplyRecord) → after ≡ put before (record_octets ttl r) → HasPut ttl before after 1 (r ∷ [])
has_put-one ttl before after r is = record { octets = is ∙ ap (put before) (sym (append-nil (record_octets ttl r))); count = refl }

-- a record, and others after it
pub has_put-more : (ttl : ℕ) (before between after : Contents) (count sum : ℕ) (r : ReplyRecord) (records : List ReplyRecord)
    → between ≡ put before (record_octets ttl r) → HasPut ttl between after count records → sum ≡ (count + 1) % 2 ^ 16
    → HasPut ttl before after sum (r ∷ records)
has_put-more ttl before between after count sum r records is others total =
    has_put-both ttl before between after 1 count sum (r ∷ []) records (has_put-one ttl before between r is) others (omega (arith, total))

-- so many were put on the way from a start, that with the rest all are
pub record PutsAll (ttl : ℕ) (owner : List Label) (rtype : ℕ) (all : List (List ℕ)) (start : Contents) (rest : List (List ℕ)) (here : Contents) (number : ℕ) : Type 0 where
  pub octets : put here (flat_map (record_octets ttl) (records_of owner rtype rest)) ≡ put start (flat_map (record_octets ttl) (records_of owner rtype all))
  pub count : (number + length rest) % 2 ^ 16 ≡ count16 all

pub puts_all-first : (ttl : ℕ) (owner : List Label) (rtype : ℕ) (all : List (List ℕ)) (start : Contents) → PutsAll ttl owner rtype all start all start 0
puts_all-first ttl owner rtype all start = record { octets = refl; count = omega arith }

pub puts_all-next : (ttl : ℕ) (owner : List Label) (rtype : ℕ) (all : List (List ℕ)) (start : Contents) (item : List ℕ) (whole rest : List (List ℕ)) (here there : Contents) (count more : ℕ)
    → whole ≡ item ∷ rest → there ≡ put here (record_octets ttl (record { owner = owner; rtype = rtype; rdata = item })) → more ≡ (count + 1) % 2 ^ 16
    → PutsAll ttl owner rtype all start whole here count → PutsAll ttl owner rtype all start rest there more
puts_all-next ttl owner rtype all start item whole rest here there count more split is one before = record {
  octets =
      ap (λ draft. put draft (flat_map (record_octets ttl) (records_of owner rtype rest))) is
      ∙ put-put here (record_octets ttl (record { owner = owner; rtype = rtype; rdata = item })) (flat_map (record_octets ttl) (records_of owner rtype rest))
      ∙ ap (λ items. put here (flat_map (record_octets ttl) (records_of owner rtype items))) (sym split)
      ∙ before.octets;
  count =
      let same : (more + length rest) % 2 ^ 16 ≡ (count + length whole) % 2 ^ 16 = rw split (omega (arith, one)) in
      same ∙ before.count;
}

pub puts_all-last : (ttl : ℕ) (owner : List Label) (rtype : ℕ) (all : List (List ℕ)) (start : Contents) (rest : List (List ℕ)) (here : Contents) (count : ℕ)
    → rest ≡ [] → count < 2 ^ 16 → PutsAll ttl owner rtype all start rest here count → HasPut ttl start here count (records_of owner rtype all)
puts_all-last ttl owner rtype all start rest here count done small goes = record {
  octets =
      sym (put-nil here)
      ∙ ap (λ items. put here (flat_map (record_octets ttl) (records_of owner rtype items))) (sym done)
      ∙ goes.octets;
  count =
      let left : length rest ≡ 0 = ap length done in
      let same : count ≡ count16 all = omega (arith, goes.count) in
      same ∙ ap (λ n. n % 2 ^ 16) (sym (length-map all (λ rdata. record { owner = owner; rtype = rtype; rdata = rdata })));
}

proof-records : (f : Record → List ReplyRecord) (soa : List ReplyRecord) (first second third : List Record) → ((soa ++ flat_map f first) ++ flat_map f second) ++ flat_map f third ≡ soa ++ flat_map f (first ++ second ++ third)
proof-records f soa first second third = rw (flat_map-append f (first ++ second) third, flat_map-append f first second) (simp append_assoc)

-- the records of the SOA set, and those of three places of a proof
pub has_put-proof : (ttl : ℕ) (f : Record → List ReplyRecord) (draft first second third fourth : Contents) (a b c d ab abc abcd : ℕ) (soa : List ReplyRecord) (x y z : List Record)
    → HasPut ttl draft first a soa → HasPut ttl first second b (flat_map f x) → HasPut ttl second third c (flat_map f y) → HasPut ttl third fourth d (flat_map f z)
    → ab ≡ (a + b) % 2 ^ 16 → abc ≡ (ab + c) % 2 ^ 16 → abcd ≡ (abc + d) % 2 ^ 16
    → HasPut ttl draft fourth abcd (soa ++ flat_map f (x ++ y ++ z))
has_put-proof ttl f draft first second third fourth a b c d ab abc abcd soa x y z one two three four is1 is2 is3 =
    let up_to_two = has_put-both ttl draft first second a b ab soa (flat_map f x) one two is1 in
    let up_to_three = has_put-both ttl draft second third ab c abc (soa ++ flat_map f x) (flat_map f y) up_to_two three is2 in
    subst (HasPut ttl draft fourth abcd) (proof-records f soa x y z)
    (has_put-both ttl draft third fourth abc d abcd ((soa ++ flat_map f x) ++ flat_map f y) (flat_map f z) up_to_three four is3)

-- a client that doesn't want a proof gets none
pub no-proof : (denials : List Record) → flat_map (proof_records false) denials ≡ []
no-proof [] = refl
no-proof (denial ∷ denials) = no-proof denials
