-- Outputs of each worker, one for each of its inputs, can be merged.
use Rattle.std.proofs.Common.{◌≡◌, ℕ, zero, suc, ◌<◌, Bool, true, false, ◌==◌, cond, List, [], ◌∷◌, length, get_or, refl, sym, ◌∙◌, ap, subst, arith}
use Rattle.std.specs.List.{All, AllZip}
use Rattle.std.proofs.lemmas.Bool.{false≢true}
use Rattle.std.proofs.lemmas.Bool.Decides.{Decides-eqb}
use Rattle.std.proofs.lemmas.List.{nil_from_length}
use Rattle.std.proofs.lemmas.List.Elements.{All-nil, All-cons, All-head, All-tail}
use Rattle.replay_meaning.specs.Frame.{Input}
use Rattle.replay_meaning.specs.OutFrame.{Output, IsOutput, outputs_spelling}
use Rattle.worker_seats.specs.Merge.{AreOutputsOf, CanBeMerged}
use Rattle.worker_seats.specs.Workers.{HasSameWorker, inputs_of, outputs_of}
use Rattle.worker_seats.proofs.OwnLemmas.{own_here, own_other}

abbrev worker_in : Input → ℕ
worker_in input = input.worker

abbrev worker_out : Output → ℕ
worker_out output = output.worker

-- one thing for each number
chosen : {X : Type 0} (d : X) (P : ℕ → X → Type 0) (n : ℕ) (x : X) (xs : List X) → P zero x → ((k : ℕ) → k < n → P (suc k) (get_or xs k d)) → (k : ℕ) → k < suc n → P k (get_or (x ∷ xs) k d)
chosen d P n x xs first rest zero lt = first
chosen d P n x xs first rest (suc k) lt = rest k (omega (arith, lt))

choose : {X : Type 0} (d : X) (n : ℕ) (P : ℕ → X → Type 0) → ((k : ℕ) → k < n → (x : X) × P k x) → (xs : List X) × ((k : ℕ) → k < n → P k (get_or xs k d))
choose d zero P f = ([], λ k lt. absurd (omega (arith, lt)))
choose d (suc n) P f =
    let first = f zero (omega arith) in
    let rest = choose d n (λ k. P (suc k)) (λ k lt. f (suc k) (omega (arith, lt))) in
    (first.0 ∷ rest.0, chosen d P n first.0 rest.0 first.1 rest.1)

-- outputs of a worker, one for each of its inputs
record AreFor (worker : ℕ) (inputs : List Input) (outputs : List Output) : Type 0 where
  valid : All IsOutput outputs
  own : All (λ output. output.worker ≡ worker) outputs
  many : length outputs ≡ length (inputs_of worker inputs)

record AreAll (n : ℕ) (inputs : List Input) (outputs_for : ℕ → List Output) : Type 0 where
  outputs : List Output
  valid : All IsOutput outputs
  same : AllZip HasSameWorker inputs outputs
  each : (worker : ℕ) → worker < n → outputs_for worker ≡ outputs_of worker outputs

-- the others, where the first input's output is taken
abbrev less : (input : Input) (more : List Output) (outputs_for : ℕ → List Output) → ℕ → List Output
less input more outputs_for worker = cond (input.worker == worker) more (outputs_for worker)

for_less : (input : Input) (inputs : List Input) (output : Output) (more : List Output) (outputs_for : ℕ → List Output) (worker : ℕ) → outputs_for input.worker ≡ output ∷ more → AreFor worker (input ∷ inputs) (outputs_for worker)
    → (b : Bool) → (input.worker == worker) ≡ b → AreFor worker inputs (cond b more (outputs_for worker))
for_less input inputs output more outputs_for worker is for true mine =
    let own : input.worker ≡ worker = (Decides-eqb input.worker worker).0 mine in
    let here : outputs_for worker ≡ output ∷ more = ap outputs_for (sym own) ∙ is in
    record {
      valid = All-tail IsOutput output more (subst (All IsOutput) here for.valid);
      own = All-tail (λ (o : Output). o.worker ≡ worker) output more (subst (All (λ o. o.worker ≡ worker)) here for.own);
      many = omega (arith, for.many, ap length here, ap length (own_here worker_in worker input inputs own));
    }
for_less input inputs output more outputs_for worker is for false mine =
    let other : input.worker ≡ worker → ⊥ = λ own. false≢true (sym mine ∙ (Decides-eqb input.worker worker).1 own) in
    record { valid = for.valid; own = for.own; many = for.many ∙ ap length (own_other worker_in worker input inputs other) }

each_more : (input : Input) (output : Output) (more outputs : List Output) (outputs_for : ℕ → List Output) (worker : ℕ) → output.worker ≡ input.worker → outputs_for input.worker ≡ output ∷ more
    → (b : Bool) → (input.worker == worker) ≡ b → cond b more (outputs_for worker) ≡ outputs_of worker outputs → outputs_for worker ≡ outputs_of worker (output ∷ outputs)
each_more input output more outputs outputs_for worker same is true mine rest =
    let own : input.worker ≡ worker = (Decides-eqb input.worker worker).0 mine in
    ap outputs_for (sym own) ∙ is ∙ ap (λ l. output ∷ l) rest ∙ sym (own_here worker_out worker output outputs (same ∙ own))
each_more input output more outputs outputs_for worker same is false mine rest =
    let other : input.worker ≡ worker → ⊥ = λ own. false≢true (sym mine ∙ (Decides-eqb input.worker worker).1 own) in
    rest ∙ sym (own_other worker_out worker output outputs (λ own. other (sym same ∙ own)))

first_of : (n : ℕ) (input : Input) (inputs : List Input) (outputs_for : ℕ → List Output) (xs : List Output) → outputs_for input.worker ≡ xs → input.worker < n
    → ((worker : ℕ) → worker < n → AreFor worker (input ∷ inputs) (outputs_for worker))
    → ((less_for : ℕ → List Output) → ((worker : ℕ) → worker < n → AreFor worker inputs (less_for worker)) → AreAll n inputs less_for)
    → AreAll n (input ∷ inputs) outputs_for
first_of n input inputs outputs_for [] is below for rest =
    absurd (omega (arith, (for input.worker below).many, ap length is, ap length (own_here worker_in input.worker input inputs refl)))
first_of n input inputs outputs_for (output ∷ more) is below for rest =
    let mine = for input.worker below in
    let same : output.worker ≡ input.worker = All-head (λ (o : Output). o.worker ≡ input.worker) output more (subst (All (λ o. o.worker ≡ input.worker)) is mine.own) in
    let others = rest (less input more outputs_for) (λ worker lt. for_less input inputs output more outputs_for worker is (for worker lt) (input.worker == worker) refl) in
    record {
      outputs = output ∷ others.outputs;
      valid = All-cons IsOutput output others.outputs (All-head IsOutput output more (subst (All IsOutput) is mine.valid)) others.valid;
      same = (same, others.same);
      each = λ worker lt. each_more input output more others.outputs outputs_for worker same is (input.worker == worker) refl (others.each worker lt);
    }

all_of : (n : ℕ) (inputs : List Input) → All (λ input. input.worker < n) inputs → (outputs_for : ℕ → List Output) → ((worker : ℕ) → worker < n → AreFor worker inputs (outputs_for worker)) → AreAll n inputs outputs_for
all_of n [] below outputs_for for = record {
  outputs = [];
  valid = All-nil IsOutput;
  same = tt;
  each = λ worker lt. nil_from_length (outputs_for worker) (for worker lt).many;
}
all_of n (input ∷ inputs) below outputs_for for =
    first_of n input inputs outputs_for (outputs_for input.worker) refl (All-head (λ (i : Input). i.worker < n) input inputs below) for
    (λ less_for. all_of n inputs (All-tail (λ (i : Input). i.worker < n) input inputs below) less_for)

pub can_merge : (parts : List (List ℕ)) (inputs : List Input) → All (λ input. input.worker < length parts) inputs → ((worker : ℕ) (d : List ℕ) → worker < length parts → AreOutputsOf worker inputs (get_or parts worker d)) → CanBeMerged parts inputs
can_merge parts inputs below each =
    let picked = choose [] (length parts) (λ worker xs. ((d : List ℕ) → get_or parts worker d ≡ outputs_spelling xs) × AreFor worker inputs xs)
    (λ worker lt. let one = each worker [] lt in (one.outputs, ((λ d. same_at parts worker d [] lt ∙ one.written), record { valid = one.valid; own = one.own; many = one.many }))) in
    let merged = all_of (length parts) inputs below (λ worker. get_or picked.0 worker []) (λ worker lt. (picked.1 worker lt).1) in (
      outputs_spelling merged.outputs,
      record {
        outputs = merged.outputs;
        written = refl;
        valid = merged.valid;
        same = merged.same;
        each = λ worker d lt. (picked.1 worker lt).0 d ∙ ap outputs_spelling (merged.each worker lt);
      },
    )
  where
    same_at : (xs : List (List ℕ)) (k : ℕ) (d e : List ℕ) → k < length xs → get_or xs k d ≡ get_or xs k e
    same_at [] k d e lt = absurd (omega arith)
    same_at (x ∷ xs) zero d e lt = refl
    same_at (x ∷ xs) (suc k) d e lt = same_at xs k d e (omega arith)
