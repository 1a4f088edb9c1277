use Rattle.std.proofs.Common.{refl}
use Rattle.intake.proofs.StoredLemmas.{not_stored, group_of_pile, stored_class, stored_agreed}
use Rattle.intake.proofs.OnceLemmas.{true_or_false}
use Rattle.intake.proofs.stored.stored.Goals as goal

pub returns-in_default : goal.returns-in_default
returns-in_default c = λ group of taken stored.
    let agreed = stored_agreed c.args.now group c.args.pile taken c.in_ok-signatures.signatures of c.in_ok-signatures.ensures stored in
    c.in_default.ensures agreed.0 (rw c.as_slice.ensures agreed.1)

pub returns-else-passes : goal.returns-else-passes
returns-else-passes c = λ group of taken stored.
    not_stored c.args.now _ c.in_ok-items.items c.in_ok-signatures.signatures
    (λ passes. true_or_false c.passes.result c.if-passes.false (c.passes.ensures.1 passes))
    group
    (group_of_pile c.args.now group c.args.pile _ c.in_ok-items.items c.in_ok-signatures.signatures of (stored_class c.args.now group c.args.pile taken of stored)
    refl refl refl refl c.len.ensures c.in_ok-items.ensures c.in_ok-signatures.ensures (rw c.as_slice.ensures at c.in-Some.ensures))
    taken stored
