use Rattle.std.proofs.Common.{ap, ◌∙◌}
use Rattle.dname.specs.Tests.{same_name}
use Rattle.intake.proofs.TableLemmas.{has_all}
use Rattle.intake.proofs.pile.Pile.has.Goals as goal

pub returns : goal.returns
returns c = rw (← c.key.view_is) (has_all (record { owner = c.key.inside.owner.now; class = c.key.inside.class; rtype = c.key.inside.rtype }) c.args.self.now c.eq.result c.if-key-self.false c.if-key-self-2.false (c.eq.ensures.value ∙ ap (same_name c.key.inside.owner.now) c.name.ensures))
