use Rattle.std.proofs.Common.{true, false, sym, ◌∙◌}
use Rattle.resolver.specs.Lent.{end_by}
use Rattle.resolver.proofs.OriginLemmas.{has_by}
use Rattle.resolver.proofs.origin.has_denials.Goals as goal

pub returns-then-has_denials_before : goal.returns-then-has_denials_before
returns-then-has_denials_before c = λ name last.
    let some = c.if-has_denials_before.true in
    some ∙ has_by name c.args.links.now (end_by last c.args.end.now) true (sym some ∙ c.has_denials_before.ensures)

pub returns-else-has_denials_before : goal.returns-else-has_denials_before
returns-else-has_denials_before c = λ name last.
    c.has_denials_at.ensures last
    ∙ has_by name c.args.links.now (end_by last c.args.end.now) false (sym c.if-has_denials_before.false ∙ c.has_denials_before.ensures)
