-- An upstream answer's octets make one next state, or have one fault.
use Rattle.std.proofs.Common.{◌≡◌, ◌⊎◌, inl, inr, ℕ, List, refl, sym, ◌∙◌, ap, subst}
use Rattle.std.specs.Prelude.{Result, Ok, Err, IfOk, IfErr}
use Rattle.intake.specs.Batch.{Gives, IsFault, IsTaken}
use Rattle.intake.specs.declared.taken.Taken.{Taken}
use Rattle.intake.specs.declared.intake_fault.IntakeFault.{IntakeFault}
use Rattle.intake.specs.declared.intake_fault.IntakeFault.TheVariants.{OutOfMemory}
use Rattle.intake.proofs.BatchLemmas.{every}
use Rattle.cache_meaning.specs.Held.{Held}
use Rattle.held_laws.specs.KeyOrder.{kept_after}
use Rattle.resolver.specs.Inserted.{IsInserted, counts_of}
use Rattle.resolver.specs.OctetLaws.{InsertsHaveOneOutcome}
use Rattle.resolver.specs.declared.counts.Counts.{Counts}

-- ---- octets give one batch or one fault

settled : (octets : List ℕ) (now : ℕ) (given other : Result Taken IntakeFault) → Gives octets now given → (given ≡ other) ⊎ (given ≡ Err OutOfMemory) → given ≡ other
settled octets now given other gives (inl same) = same
settled octets now given other gives (inr out) = absurd (subst (Gives octets now) out gives)

one_given : (octets : List ℕ) (now : ℕ) (given other : Result Taken IntakeFault) → Gives octets now given → Gives octets now other → given ≡ other
one_given octets now (Ok taken) other gives gives' = settled octets now (Ok taken) other gives (every octets now (Ok taken) other gives tt gives')
one_given octets now (Err fault) other gives gives' = settled octets now (Err fault) other gives (every octets now (Err fault) other tt (inr gives) gives')

one_taken : (octets : List ℕ) (now : ℕ) (one other : Taken) → IsTaken octets now one → IsTaken octets now other → one ≡ other
one_taken octets now one other is is' = let both : (let a : Result Taken IntakeFault = Ok one in let b : Result Taken IntakeFault = Ok other in a ≡ b) = one_given octets now (Ok one) (Ok other) is is' in cc

one_fault : (octets : List ℕ) (now : ℕ) (one other : IntakeFault) → IsFault octets now one → IsFault octets now other → one ≡ other
one_fault octets now one other is is' = let both : (let a : Result Taken IntakeFault = Err one in let b : Result Taken IntakeFault = Err other in a ≡ b) = one_given octets now (Err one) (Err other) is is' in cc

not_both : (octets : List ℕ) (now : ℕ) (taken : Taken) (fault : IntakeFault) → IsTaken octets now taken → IsFault octets now fault → ⊥
not_both octets now taken fault is is' = let both : (let a : Result Taken IntakeFault = Ok taken in let b : Result Taken IntakeFault = Err fault in a ≡ b) = one_given octets now (Ok taken) (Err fault) is is' in absurd cc

-- ---- and make one state

one_state : (held : Held) (octets : List ℕ) (now : ℕ) (one other : Held) (counts counts' : Counts) → IsInserted held octets now one counts → IsInserted held octets now other counts' → (one ≡ other) × (counts ≡ counts')
one_state held octets now one other counts counts' is is' =
    let same = one_taken octets now is.taken is'.taken is.takes is'.takes in
    (is.after_is ∙ ap (λ (t : Taken). kept_after held t.batch) same ∙ sym is'.after_is, is.counts_are ∙ ap counts_of same ∙ sym is'.counts_are)

pub one_insert : InsertsHaveOneOutcome
one_insert = record {
  states = one_state;
  faults = one_fault;
  apart = λ held octets now after counts fault is. not_both octets now is.taken fault is.takes;
}

-- ---- what comes where the octets give it

pub every_state : (held : Held) (octets : List ℕ) (now : ℕ) (answer : Result (Held × Counts) IntakeFault) (after : Held) (counts : Counts)
    → IfOk answer (λ made. IsInserted held octets now made.0 made.1) → IfErr answer (λ fault. (fault ≡ OutOfMemory) ⊎ IsFault octets now fault) → IsInserted held octets now after counts
    → (answer ≡ Ok (after, counts)) ⊎ (answer ≡ Err OutOfMemory)
every_state held octets now (Ok made) after counts stored refused is =
    let same = one_state held octets now made.0 after made.1 counts stored is in
    inl (λ i. Ok (same.0 i, same.1 i))
every_state held octets now (Err fault) after counts stored refused is = elim refused [
  | inl memory ↦ inr (ap (λ x. Err x) memory)
  | inr faulty ↦ absurd (not_both octets now is.taken fault is.takes faulty)
]

pub every_fault : (held : Held) (octets : List ℕ) (now : ℕ) (answer : Result (Held × Counts) IntakeFault) (fault : IntakeFault)
    → IfOk answer (λ made. IsInserted held octets now made.0 made.1) → IfErr answer (λ met. (met ≡ OutOfMemory) ⊎ IsFault octets now met) → IsFault octets now fault
    → (answer ≡ Err fault) ⊎ (answer ≡ Err OutOfMemory)
every_fault held octets now (Ok made) fault stored refused is = absurd (not_both octets now stored.taken fault stored.takes is)
every_fault held octets now (Err met) fault stored refused is = elim refused [
  | inl memory ↦ inr (ap (λ x. Err x) memory)
  | inr faulty ↦ inl (ap (λ x. Err x) (one_fault octets now met fault faulty is))
]
