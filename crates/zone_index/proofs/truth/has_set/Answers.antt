use Rattle.std.proofs.Common.{refl, sym, ◌∙◌}
use Rattle.std.proofs.lemmas.Bool.{false≢true}
use Rattle.zone_index.proofs.truth.has_set.Goals as goal

pub returns-then-is_beyond : goal.returns-then-is_beyond
returns-then-is_beyond c = (
  λ e. absurd (false≢true e),
  λ is. absurd (c.if-is_beyond.ensures.beyond refl (λ cut. c.rtype.ensures ∙ is.authority cut)),
)

pub returns : goal.returns
returns c = (
  λ t. record { just = c.in_ok-just.ensures.0 t; authority = λ cut. sym c.rtype.ensures ∙ c.if-is_beyond.ensures.within refl cut },
  λ is. c.in_ok-just.ensures.1 is.just,
)
