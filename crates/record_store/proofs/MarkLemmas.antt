-- Sets by their numbers.
use Rattle.std.proofs.Common.{◌≡◌, ℕ, suc, ◌/◌, ◌≤◌, true, nat_lt, List, length, drop, refl, sym, ◌∙◌, ap, arith}
use Rattle.std.specs.Ordering.{nat_cmp, is_le, ordering_then}
use Rattle.std.specs.declared.cmp.Ordering.{Ordering}
use Rattle.std.specs.declared.cmp.Ordering.TheVariants.{Equal, Greater}
use Rattle.std.proofs.lemmas.Bool.Decides.{nat_tests}
use Rattle.std.proofs.lemmas.Cmp.{nat_cmp_total, tied_itself}
use Rattle.std.proofs.lemmas.Grind.{common_steps}
use Rattle.std.proofs.lemmas.List.{length-drop}
use Rattle.facts.proofs.Orderings.{both_equal}
use Rattle.dname.specs.Name.{Label}
use Rattle.dname.specs.Order.{canonical_equal}
use Rattle.denial_records.specs.declared.set_rec.SetRec.{SetRec}
use Rattle.denial_records.specs.declared.record.Record.{Record}
use Rattle.denial_records.specs.declared.record.Record.TheVariants.{Set, Nsec, Nsec3}
use Rattle.cache_meaning.specs.Held.{key_cmp}
use Rattle.record_store.specs.Marks.{mixed, word_of, words_mixed, set_number, set_mark}
use Rattle.record_store.specs.LookUp.{set_like}
use Rattle.record_store.specs.Ranks.{set_cmp}

-- ---- a word more

pub one_word : (octets : List ℕ) (hash : ℕ) → 8 ≤ length octets → words_mixed (length (drop 8 octets) / 8) (drop 8 octets) (mixed hash (word_of octets)) ≡ words_mixed (length octets / 8) octets hash
one_word octets hash long = ap (λ n. words_mixed n octets hash) count
  where
    count : suc (length (drop 8 octets) / 8) ≡ length octets / 8
    count = omega (arith, length-drop 8 octets, long)

-- ---- sets of one key have one number

level_is : (n m : ℕ) → nat_cmp n m ≡ Equal → n ≡ m
level_is n m is = grind (arith, nat_tests, common_steps)

above : (n : ℕ) → nat_lt 0 n ≡ is_le (ordering_then (nat_cmp 0 n) Greater)
above n = grind (arith, nat_tests, common_steps)

pub key_mark : (one other : Record) → key_cmp one other ≡ Equal → set_mark one ≡ set_mark other
key_mark (Set one) (Set other) is =
    let zones = both_equal _ _ is in
    let owners = both_equal _ _ zones.1 in
    λ i. set_number (canonical_equal one.zone other.zone zones.0 i) (canonical_equal one.owner other.owner owners.0 i) (level_is one.rtype other.rtype owners.1 i)
key_mark (Set one) (Nsec other) is = cc
key_mark (Set one) (Nsec3 other) is = cc
key_mark (Nsec one) (Set other) is = cc
key_mark (Nsec one) (Nsec other) is = refl
key_mark (Nsec one) (Nsec3 other) is = refl
key_mark (Nsec3 one) (Set other) is = cc
key_mark (Nsec3 one) (Nsec other) is = refl
key_mark (Nsec3 one) (Nsec3 other) is = refl

pub set_tied : (one other : Record) → key_cmp one other ≡ Equal → set_cmp one other ≡ Equal
set_tied one other is =
    ap (λ n. ordering_then (nat_cmp n (set_mark other)) (key_cmp one other)) (key_mark one other is)
    ∙ (ap (λ o. ordering_then o (key_cmp one other)) (tied_itself nat_cmp_total (set_mark other)) ∙ is)

pub key_tied : (one other : Record) → set_cmp one other ≡ Equal → key_cmp one other ≡ Equal
key_tied one other is = (both_equal _ _ is).1

pub set_untied : (one other : Record) (mark mark' : ℕ) → mark ≡ set_mark one → mark' ≡ set_mark other → ordering_then (nat_cmp mark mark') (key_cmp one other) ≡ set_cmp one other
set_untied one other mark mark' is are = λ i. ordering_then (nat_cmp (is i) (are i)) (key_cmp one other)

-- ---- a record, and a set that is sought

pub no_set_upto : (item : Record) → ((set : SetRec) → item ≡ Set set → ⊥) → (zone owner : List Label) (rtype number : ℕ) → number ≡ set_number zone owner rtype → nat_lt 0 number ≡ is_le (set_cmp item (set_like zone owner rtype))
no_set_upto (Set set) none zone owner rtype number is = absurd (none set refl)
no_set_upto (Nsec nsec) none zone owner rtype number is = above number ∙ ap (λ n. is_le (ordering_then (nat_cmp 0 n) Greater)) is
no_set_upto (Nsec3 nsec3) none zone owner rtype number is = above number ∙ ap (λ n. is_le (ordering_then (nat_cmp 0 n) Greater)) is

pub set_level : (set : SetRec) (zone owner : List Label) (rtype : ℕ) (o : Ordering) → o ≡ key_cmp (Set set) (set_like zone owner rtype) → o ≡ Equal → true ≡ is_le (set_cmp (Set set) (set_like zone owner rtype))
set_level set zone owner rtype o by_key at = sym (ap is_le (set_tied (Set set) (set_like zone owner rtype) (sym by_key ∙ at)))
