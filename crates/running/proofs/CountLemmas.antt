-- The frames of an output, counted one after the other.
use Rattle.std.proofs.Common.{◌≡◌, ℕ, ◌+◌, ◌<◌, ◌≤◌, Bool, true, false, cond, List, [], ◌∷◌, ◌++◌, length, sym, ◌∙◌, ap, arith}
use Rattle.std.specs.Prelude.{codes, filter}
use Rattle.std.specs.List.{All}
use Rattle.std.proofs.lemmas.List.Elements.{All-head, All-tail}
use Rattle.replay_meaning.specs.OutFrame.{Output, IsOutput, out_number, output_spelling, outputs_spelling}
use Rattle.running.specs.Summary.{counts_as, is_counted, count_of, line, summary}
use Rattle.running.specs.declared.summary.Counted.{Counted}
use Rattle.running.specs.declared.summary.Counted.TheVariants.{Batches, Answers, NoData, NameErrors, Forwards}

-- ---- counting

abbrev pub IsAtFront : ℕ → List ℕ → List ℕ → List ℕ → Type 0
IsAtFront kind body octets after =
    (output : Output) (rest : List ℕ) → IsOutput output → octets ≡ output_spelling output ++ rest
    → (kind ≡ out_number output.kind) × (body ≡ output.body) × (after ≡ rest)

-- so many frames before the rest count
pub record HasCounted (counted : Counted) (octets rest : List ℕ) (number : ℕ) : Type 0 where
  pub few : number + length rest ≤ length octets
  pub goes :
      (outputs : List Output) → All IsOutput outputs → octets ≡ outputs_spelling outputs
      → (behind : List Output) × All IsOutput behind × (rest ≡ outputs_spelling behind) × (number + count_of counted behind ≡ count_of counted outputs)

pub none_counted : (counted : Counted) (octets : List ℕ) → HasCounted counted octets octets 0
none_counted counted octets = record { few = omega arith; goes = λ outputs valid is. (outputs, valid, is, omega arith) }

count_step : (counted : Counted) (output : Output) (more : List Output) (test : Bool) → is_counted counted output ≡ test → count_of counted (output ∷ more) ≡ cond test 1 0 + count_of counted more
count_step counted output more test is = ap (λ b. length (cond b (output ∷ filter (is_counted counted) more) (filter (is_counted counted) more))) is ∙ by test
  where
    by : (test : Bool) → length (cond test (output ∷ filter (is_counted counted) more) (filter (is_counted counted) more)) ≡ cond test 1 0 + count_of counted more
    by true = omega arith
    by false = omega arith

one_counted : (counted : Counted) (octets rest after body : List ℕ) (kind number next : ℕ) (test : Bool) → HasCounted counted octets rest number → length after < length rest → IsAtFront kind body rest after → test ≡ counts_as counted kind body → next ≡ cond test 1 0 + number → next ≤ 1 + number → HasCounted counted octets after next
one_counted counted octets rest after body kind number next test has shorter front test_is next_is small = record {
  few = omega (arith, has.few, shorter, small);
  goes = λ outputs valid is. let (behind, all, spelled, total) = has.goes outputs valid is in by behind (count_of counted outputs) all spelled total;
}
  where
    by : (behind : List Output) (whole : ℕ) → All IsOutput behind → rest ≡ outputs_spelling behind → number + count_of counted behind ≡ whole
        → (behind : List Output) × All IsOutput behind × (after ≡ outputs_spelling behind) × (next + count_of counted behind ≡ whole)
    by [] whole all spelled total = absurd (omega (arith, shorter, ap length spelled))
    by (output ∷ more) whole all spelled total =
        let (kind_is, body_is, after_is) = front output (outputs_spelling more) (All-head IsOutput output more all) spelled in
        let counts : is_counted counted output ≡ test = sym (test_is ∙ (λ i. counts_as counted (kind_is i) (body_is i))) in
        (more, All-tail IsOutput output more all, after_is, omega (arith, total, count_step counted output more test counts, next_is))

pub this_counted : (counted : Counted) (octets rest after body : List ℕ) (kind number : ℕ) (test : Bool) → HasCounted counted octets rest number → length after < length rest → IsAtFront kind body rest after → test ≡ counts_as counted kind body → test ≡ true → HasCounted counted octets after (number + 1)
this_counted counted octets rest after body kind number test has shorter front test_is yes_it_is = one_counted counted octets rest after body kind number (number + 1) true has shorter front (sym yes_it_is ∙ test_is) (omega arith) (omega arith)

pub other_passed : (counted : Counted) (octets rest after body : List ℕ) (kind number : ℕ) (test : Bool) → HasCounted counted octets rest number → length after < length rest → IsAtFront kind body rest after → test ≡ counts_as counted kind body → test ≡ false → HasCounted counted octets after number
other_passed counted octets rest after body kind number test has shorter front test_is no_it_is = one_counted counted octets rest after body kind number number false has shorter front (sym no_it_is ∙ test_is) (omega arith) (omega arith)

-- where no frame is at the front, all are counted
pub all_counted : (counted : Counted) (octets rest : List ℕ) (number : ℕ) → HasCounted counted octets rest number → ((output : Output) (back : List ℕ) → IsOutput output → rest ≡ output_spelling output ++ back → ⊥) → (outputs : List Output) → All IsOutput outputs → octets ≡ outputs_spelling outputs → number ≡ count_of counted outputs
all_counted counted octets rest number has none outputs valid is = let (behind, all, spelled, total) = has.goes outputs valid is in by behind all spelled total
  where
    by : (behind : List Output) → All IsOutput behind → rest ≡ outputs_spelling behind → number + count_of counted behind ≡ count_of counted outputs → number ≡ count_of counted outputs
    by [] all spelled total = omega (arith, total)
    by (output ∷ more) all spelled total = absurd (none output (outputs_spelling more) (All-head IsOutput output more all) spelled)

-- ---- lines

-- seven lines, put one after the other
pub seven_put : (a b c d e f g one two three four five six seven zero : List ℕ) → zero ≡ [] → one ≡ zero ++ a → two ≡ one ++ b → three ≡ two ++ c → four ≡ three ++ d → five ≡ four ++ e → six ≡ five ++ f → seven ≡ six ++ g → seven ≡ a ++ b ++ c ++ d ++ e ++ f ++ g
seven_put a b c d e f g one two three four five six seven zero z is1 is2 is3 is4 is5 is6 is7 =
    is7 ∙ ap (λ l. l ++ g) (is6 ∙ ap (λ l. l ++ f) (is5 ∙ ap (λ l. l ++ e) (is4 ∙ ap (λ l. l ++ d) (is3 ∙ ap (λ l. l ++ c) (is2 ∙ ap (λ l. l ++ b) (is1 ∙ ap (λ l. l ++ a) z))))))

pub summary_put : (names queries : ℕ) (outputs : List Output) (batches answers no_data name_errors forwards : ℕ) (zero one two three four five six seven : List ℕ)
    → batches ≡ count_of Batches outputs → answers ≡ count_of Answers outputs → no_data ≡ count_of NoData outputs → name_errors ≡ count_of NameErrors outputs → forwards ≡ count_of Forwards outputs
    → zero ≡ [] → one ≡ zero ++ line (codes "names") names → two ≡ one ++ line (codes "batches") batches → three ≡ two ++ line (codes "queries") queries → four ≡ three ++ line (codes "answers") answers
    → five ≡ four ++ line (codes "no-data") no_data → six ≡ five ++ line (codes "name-errors") name_errors → seven ≡ six ++ line (codes "forwards") forwards → seven ≡ summary names queries outputs
unfolding summary
summary_put names queries outputs batches answers no_data name_errors forwards zero one two three four five six seven b a n e f z is1 is2 is3 is4 is5 is6 is7 =
    seven_put (line (codes "names") names) (line (codes "batches") (count_of Batches outputs)) (line (codes "queries") queries) (line (codes "answers") (count_of Answers outputs))
    (line (codes "no-data") (count_of NoData outputs)) (line (codes "name-errors") (count_of NameErrors outputs)) (line (codes "forwards") (count_of Forwards outputs))
    one two three four five six seven zero z is1 (is2 ∙ ap (λ k. one ++ line (codes "batches") k) b) is3 (is4 ∙ ap (λ k. three ++ line (codes "answers") k) a)
    (is5 ∙ ap (λ k. four ++ line (codes "no-data") k) n) (is6 ∙ ap (λ k. five ++ line (codes "name-errors") k) e) (is7 ∙ ap (λ k. six ++ line (codes "forwards") k) f)
