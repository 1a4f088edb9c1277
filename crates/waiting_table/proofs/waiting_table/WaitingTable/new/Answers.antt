use Rattle.std.proofs.Common.{◌≡◌, ℕ, arith, ap, ◌∙◌, subst, List, length, replicate, None}
use Rattle.std.proofs.lemmas.List.{length-replicate}
use Rattle.waiting_table.specs.Waiting.{Slot, empty_table, slot_at}
use Rattle.waiting_table.proofs.SlotLemmas.{free_at}
use Rattle.waiting_table.proofs.IndexLemmas.{index_new}
use Rattle.waiting_table.proofs.waiting_table.WaitingTable.new.Goals as goal

pub returns : goal.returns
unfolding empty_table
returns c =
    let all : c.loop.counter ≡ 256 = omega arith in
    subst (λ (n : ℕ). c.loop.held.items ≡ replicate {A = Slot} n None) all c.loop.invariant

pub invariant_of-result : goal.invariant_of-result
invariant_of-result c =
    let all : c.loop.counter ≡ 256 = omega arith in
    let free : c.loop.held.items ≡ replicate {A = Slot} 256 None = subst (λ (n : ℕ). c.loop.held.items ≡ replicate {A = Slot} n None) all c.loop.invariant in
    rw c.new-2.ensures (index_new c.loop.held.items (ap length free ∙ length-replicate {A = Slot} 256 None) (λ k h. ap (λ (t : List Slot). slot_at t k) free ∙ free_at 256 k))
