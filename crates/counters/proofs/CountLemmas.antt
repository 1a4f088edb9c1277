-- What a count says.
use Rattle.std.proofs.Common.{◌≡◌, ◌≢◌, ℕ, ◌+◌, ◌%◌, ◌^◌, ◌<◌, Bool, true, false, nat_eq, if◌then◌else◌, List, [], ◌∷◌, length, get_or, set, refl, sym, ap, ◌∙◌, arith}
use Rattle.std.specs.Prelude.{fold}
use Rattle.std.proofs.Math.Nat.{mod-add-mod, mod-eq_of_lt}
use Rattle.std.proofs.lemmas.Bool.Decides.{nat_tests}
use Rattle.std.proofs.lemmas.List.{get_or-replicate, get_or-set_other, get_or-set_same, length-replicate, length-set, set-get_or}
use Rattle.counters.specs.Counts.{EachCountIsASum, Tally, count_of, counted, index_of, no_counts, number_for, times, with_tally}
use Rattle.counters.specs.declared.counter.Counter.{Counter}
use Rattle.counters.specs.declared.counter.Counter.TheVariants as counters
use Rattle.counters.specs.declared.counter.TheConstants.{COUNTERS}

pub is_within : (counter : Counter) → index_of counter < COUNTERS
is_within counters.Dropped = omega arith
is_within counters.FormatError = omega arith
is_within counters.NotImplemented = omega arith
is_within counters.BadVersion = omega arith
is_within counters.Set = omega arith
is_within counters.NoData = omega arith
is_within counters.NameError = omega arith
is_within counters.Wildcard = omega arith
is_within counters.Alias = omega arith
is_within counters.Redirection = omega arith
is_within counters.Joined = omega arith
is_within counters.Asked = omega arith
is_within counters.AskedAgain = omega arith
is_within counters.AskedByStream = omega arith
is_within counters.Late = omega arith
is_within counters.Full = omega arith
is_within counters.Unreadable = omega arith
is_within counters.RelayedNoError = omega arith
is_within counters.RelayedServerFailure = omega arith
is_within counters.RelayedNameError = omega arith
is_within counters.RelayedRefused = omega arith
is_within counters.RelayedOther = omega arith
is_within counters.Ignored = omega arith
is_within counters.Unread = omega arith
is_within counters.Stored = omega arith
is_within counters.Passed = omega arith
is_within counters.Unstored = omega arith
is_within counters.Malformed = omega arith
is_within counters.NotResponse = omega arith
is_within counters.Truncated = omega arith
is_within counters.OtherRcode = omega arith
is_within counters.NotAuthentic = omega arith
is_within counters.NothingToStore = omega arith

-- one more tally, of a counter at i, seen at j
count_step : (counts : List ℕ) (i j number sum size : ℕ) (same : Bool) → nat_eq i j ≡ same → i < length counts → get_or counts j 0 ≡ sum % size
    → get_or (set counts i ((get_or counts i 0 + number) % size)) j 0 ≡ (sum + (if same then number else 0)) % size
count_step counts i j number sum size true is within so_far =
    let one : i ≡ j = grind (arith, nat_tests, is) in
    ap (λ k. get_or (set counts i ((get_or counts i 0 + number) % size)) k 0) (sym one)
    ∙ get_or-set_same counts i ((get_or counts i 0 + number) % size) 0 within
    ∙ ap (λ k. (get_or counts k 0 + number) % size) one
    ∙ ap (λ count. (count + number) % size) so_far
    ∙ mod-add-mod sum size number
count_step counts i j number sum size false is within so_far =
    let other : j ≢ i = grind (arith, nat_tests, is) in
    let none : sum ≡ sum + 0 = omega arith in
    get_or-set_other counts i j ((get_or counts i 0 + number) % size) 0 other
    ∙ so_far
    ∙ ap (λ all. all % size) none

-- with the tallies before them
counted_after : (counter : Counter) (tallies : List Tally) (counts : List ℕ) (sum : ℕ) → length counts ≡ COUNTERS → count_of counts counter ≡ sum % 2 ^ 64
    → count_of (counted tallies counts) counter ≡ fold (λ a tally. a + number_for counter tally) sum tallies % 2 ^ 64
counted_after counter [] counts sum size so_far = so_far
counted_after counter (tally ∷ more) counts sum size so_far =
    let within : index_of tally.counter < length counts = omega (arith, size, is_within tally.counter) in
    counted_after counter more (with_tally counts tally) (sum + number_for counter tally)
    (length-set counts (index_of tally.counter) ((count_of counts tally.counter + tally.number) % 2 ^ 64) ∙ size)
    (count_step counts (index_of tally.counter) (index_of counter) tally.number sum (2 ^ 64) (nat_eq (index_of tally.counter) (index_of counter)) refl within so_far)

pub each_is_a_sum : EachCountIsASum
unfolding no_counts
each_is_a_sum tallies counter =
    counted_after counter tallies no_counts 0 (length-replicate {A = ℕ} COUNTERS 0) (get_or-replicate {A = ℕ} COUNTERS (index_of counter) 0 0 (is_within counter))

-- none more leaves all as they are
pub none_more : (counts : List ℕ) (counter : Counter) → count_of counts counter < 2 ^ 64 → with_tally counts (times 0 counter) ≡ counts
none_more counts counter small =
    let none : count_of counts counter + 0 ≡ count_of counts counter = omega arith in
    ap (λ count. set counts (index_of counter) (count % 2 ^ 64)) none
    ∙ ap (set counts (index_of counter)) (mod-eq_of_lt small)
    ∙ set-get_or counts (index_of counter) 0
