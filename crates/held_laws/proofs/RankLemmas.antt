-- Which of two records goes first is an order, and so no more are held than the limit.
use Rattle.std.proofs.Common.{◌≡◌, ℕ, ◌≤◌, true, false, List, [], length, fold, refl, sym, ◌∙◌, ap, subst, arith}
use Rattle.std.specs.Ordering.{nat_cmp, is_lt, ordering_then, then_cmp, on}
use Rattle.std.specs.Cmp.{IsTotalOrder}
use Rattle.std.specs.Cmp.Lexicographic.{slice_cmp}
use Rattle.std.specs.declared.cmp.Ordering.{Ordering}
use Rattle.std.specs.declared.cmp.Ordering.TheVariants.{Less, Equal, Greater}
use Rattle.std.proofs.lemmas.Cmp.{then_total, on_total, nat_cmp_total, nat_list_cmp_total, tied_itself}
use Rattle.dname.specs.Name.{Label, canonical_cmp}
use Rattle.dname.specs.Order.{canonical_total}
use Rattle.denial_records.specs.declared.batch.Batch.{Batch}
use Rattle.denial_records.specs.declared.record.Record.{Record}
use Rattle.denial_records.specs.declared.record.Record.TheVariants.{Set, Nsec, Nsec3}
use Rattle.cache_meaning.specs.Held.{Held, zone_of, expiry_of, key_cmp, goes_before, most_records, is_usable, held_where, held_with, within_limit, held_of}
use Rattle.facts.proofs.Orderings.{less_from}
use Rattle.held_laws.proofs.KeptLemmas.{held_keeps}
use Rattle.held_laws.proofs.LimitLemmas.{limit_holds}

-- ---- the parts of a key, in their order

-- sets come first
abbrev denial_part : Record → ℕ
denial_part (Set set) = 0
denial_part (Nsec nsec) = 1
denial_part (Nsec3 nsec3) = 1

abbrev hashed_part : Record → ℕ
hashed_part (Set set) = 0
hashed_part (Nsec nsec) = 0
hashed_part (Nsec3 nsec3) = 1

abbrev owner_part : Record → List Label
owner_part (Set set) = set.owner
owner_part (Nsec nsec) = nsec.owner
owner_part (Nsec3 nsec3) = []

abbrev number_part : Record → ℕ
number_part (Set set) = set.rtype
number_part (Nsec nsec) = 0
number_part (Nsec3 nsec3) = nsec3.iterations

abbrev salt_part : Record → List ℕ
salt_part (Set set) = []
salt_part (Nsec nsec) = []
salt_part (Nsec3 nsec3) = nsec3.salt

abbrev hash_part : Record → List ℕ
hash_part (Set set) = []
hash_part (Nsec nsec) = []
hash_part (Nsec3 nsec3) = nsec3.hash

abbrev parts_cmp : Record → Record → Ordering
parts_cmp =
    then_cmp (on denial_part nat_cmp) (then_cmp (on zone_of canonical_cmp) (then_cmp (on hashed_part nat_cmp)
    (then_cmp (on owner_part canonical_cmp) (then_cmp (on number_part nat_cmp)
    (then_cmp (on salt_part (slice_cmp nat_cmp)) (on hash_part (slice_cmp nat_cmp)))))))

parts_total : IsTotalOrder parts_cmp
parts_total =
    then_total (on_total denial_part nat_cmp_total) (then_total (on_total zone_of canonical_total) (then_total (on_total hashed_part nat_cmp_total)
    (then_total (on_total owner_part canonical_total) (then_total (on_total number_part nat_cmp_total)
    (then_total (on_total salt_part nat_list_cmp_total) (on_total hash_part nat_list_cmp_total))))))

no_more : (o : Ordering) → o ≡ ordering_then o Equal
no_more Less = refl
no_more Equal = refl
no_more Greater = refl

key_parts : (one other : Record) → key_cmp one other ≡ parts_cmp one other
key_parts (Set one) (Set other) = ap (λ o. ordering_then (canonical_cmp one.zone other.zone) (ordering_then (canonical_cmp one.owner other.owner) o)) (no_more (nat_cmp one.rtype other.rtype))
key_parts (Set one) (Nsec other) = refl
key_parts (Set one) (Nsec3 other) = refl
key_parts (Nsec one) (Set other) = refl
key_parts (Nsec one) (Nsec other) = ap (λ o. ordering_then (canonical_cmp one.zone other.zone) o) (no_more (canonical_cmp one.owner other.owner))
key_parts (Nsec one) (Nsec3 other) = refl
key_parts (Nsec3 one) (Set other) = refl
key_parts (Nsec3 one) (Nsec other) = refl
key_parts (Nsec3 one) (Nsec3 other) = refl

pub key_total : IsTotalOrder key_cmp
key_total = subst IsTotalOrder (λ i one other. sym (key_parts one other) i) parts_total

-- ---- which goes first

abbrev going_cmp : Record → Record → Ordering
going_cmp = then_cmp (on expiry_of nat_cmp) parts_cmp

going_total : IsTotalOrder going_cmp
going_total = then_total (on_total expiry_of nat_cmp_total) parts_total

goes_by : (one other : Record) → goes_before one other ≡ is_lt (going_cmp one other)
goes_by one other = ap (λ o. is_lt (ordering_then (nat_cmp (expiry_of one) (expiry_of other)) o)) (key_parts one other)

not_before_itself : (one : Record) → goes_before one one ≡ false
not_before_itself one = goes_by one one ∙ ap is_lt (tied_itself going_total one)

before_through : (x y z : Record) → goes_before x y ≡ true → goes_before y z ≡ true → goes_before x z ≡ true
before_through x y z is are =
    goes_by x z ∙ ap is_lt (going_total.trans x y z (less_from _ (sym (goes_by x y) ∙ is)) (less_from _ (sym (goes_by y z) ∙ are)))

limit_kept : (held : Held) → length (within_limit held).records ≤ most_records
limit_kept held = limit_holds goes_before not_before_itself before_through most_records held.records

pub all_within : (batches : List Batch) → length (held_of batches).records ≤ most_records
all_within = held_keeps (λ (held : Held). length held.records ≤ most_records) (omega arith) (λ held batch h.
    limit_kept (fold held_with (held_where (is_usable batch.now) held) batch.records))
