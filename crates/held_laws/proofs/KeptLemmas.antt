-- What each batch keeps holds of every state.
use Rattle.std.proofs.Common.{List, [], ◌∷◌, fold, arith}
use Rattle.denial_records.specs.declared.batch.Batch.{Batch}
use Rattle.cache_meaning.specs.Held.{Held, nothing_held, held_after, held_of}
use Rattle.cache_meaning.specs.Zones.{TwoChains}
use Rattle.cache_meaning.proofs.TwoChainsLemmas.{two_chains_after}

-- what each item of a list keeps holds after all of them
pub fold_keeps : {A B : Type 0} (P : A → Type 0) (f : A → B → A) → ((a : A) (b : B) → P a → P (f a b)) → (a : A) (bs : List B) → P a → P (fold f a bs)
fold_keeps P f keeps a [] holds = holds
fold_keeps P f keeps a (b ∷ bs) holds = fold_keeps P f keeps (f a b) bs (keeps a b holds)

pub held_keeps : (P : Held → Type 0) → P nothing_held → ((held : Held) (batch : Batch) → P held → P (held_after held batch)) → (batches : List Batch) → P (held_of batches)
held_keeps P first keeps batches = fold_keeps P held_after keeps nothing_held batches first

pub two_chains : (batches : List Batch) → TwoChains (held_of batches)
two_chains = held_keeps TwoChains (λ zone. omega arith) two_chains_after
