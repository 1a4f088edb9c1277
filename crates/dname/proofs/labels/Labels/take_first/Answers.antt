use Rattle.std.proofs.Common.{◌<◌, length, sym, ◌∙◌, subst}
use Rattle.dname.specs.Name.{wire_of}
use Rattle.dname.proofs.WireLemmas.{steps_to, not_root}
use Rattle.dname.proofs.labels.Labels.take_first.Goals as goal

pub invariant_of-self : goal.invariant_of-self
invariant_of-self c =
    (steps_to _ _ _ c.self.invariant (not_root _ c.self.invariant (subst (λ n. 1 < length (wire_of n)) (sym c.self.view_is) c.requires)) c.split_label.ensures.label c.split_label.ensures.rest).wire

pub returns : goal.returns
returns c =
    sym c.self.view_is
    ∙ (steps_to _ _ _ c.self.invariant (not_root _ c.self.invariant (subst (λ n. 1 < length (wire_of n)) (sym c.self.view_is) c.requires)) c.split_label.ensures.label c.split_label.ensures.rest).labels
