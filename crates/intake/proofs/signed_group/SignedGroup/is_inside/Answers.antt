use Rattle.std.proofs.Common.{not, sym, ap, ◌∙◌}
use Rattle.std.specs.Cmp.Lexicographic.{pointwise_decides, bytes_decides}
use Rattle.std.proofs.lemmas.Bool.{false_from_ne_true}
use Rattle.intake.proofs.OnceLemmas.{true_or_false}
use Rattle.intake.proofs.signed_group.SignedGroup.is_inside.Goals as goal

pub returns-then-is_under : goal.returns-then-is_under
returns-then-is_under c = (
  λ apart. record {
    under = rw c.name-owner.ensures at c.is_under.ensures.0 c.if-is_under.true;
    below = λ is_ds same. true_or_false c.ne.result (c.ne.ensures ∙ ap not ((pointwise_decides bytes_decides c.name-owner.result.now c.args.self.now.agreed.signer).1 (c.name-owner.ensures ∙ same))) apart;
    apex = λ apex. absurd (true_or_false _ (sym c.if-is_apex_type.ensures) apex);
  },
  λ inside. c.ne.ensures ∙ ap not (false_from_ne_true _ (λ same. inside.below c.if-self-eq-DS_TYPE.true (sym c.name-owner.ensures ∙ (pointwise_decides bytes_decides c.name-owner.result.now c.args.self.now.agreed.signer).0 same))),
)
