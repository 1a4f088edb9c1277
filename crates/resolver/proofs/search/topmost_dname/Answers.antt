use Rattle.std.proofs.Common.{◌<◌, length, ◌∙◌, sym, ap, arith}
use Rattle.resolver.specs.Dname.{dname_at}
use Rattle.resolver.proofs.SearchLemmas.{found_here, none_here}
use Rattle.resolver.proofs.search.topmost_dname.Goals as goal

pub returns-in-Some : goal.returns-in-Some
returns-in-Some c =
    let zone = c.args.zone.now in
    let less : c.loop-labels.labels < length c.args.name.now = omega (arith, c.loop-labels-test.true, c.labels-labels-end.ensures.value) in
    found_here zone.held c.args.now zone.apex c.args.name.now c.loop-labels.labels c.in-Some.dname less c.loop-labels.invariant
    (sym c.in-Some.is ∙ c.dname_at.ensures ∙ ap (dname_at zone.held c.args.now zone.apex) c.last.ensures)

pub loop-labels-preserved : goal.loop-labels-preserved
loop-labels-preserved c =
    let zone = c.args.zone.now in
    let less : c.loop-labels.labels < length c.args.name.now = omega (arith, c.loop-labels-test.true, c.labels-labels-end.ensures.value) in
    none_here zone.held c.args.now zone.apex c.args.name.now c.loop-labels.labels less c.loop-labels.invariant
    (sym c.in_default.is ∙ c.dname_at.ensures ∙ ap (dname_at zone.held c.args.now zone.apex) c.last.ensures)
