use Rattle.std.proofs.Common.{◌==◌, false, sym, ◌∙◌, ap, rules, tests}
use Rattle.command_line.specs.Words.{without_dot}
use Rattle.command_line.proofs.NameTextLemmas.{dot_last, no_dot_last}
use Rattle.command_line.proofs.name_text.without_dot.Goals as goal

pub returns-then-last-eq46 : goal.returns-then-last-eq46
returns-then-last-eq46 c = dot_last c.args.octets.now c.in-Some.front.now c.in-Some.last.now c.in-Some.ensures.cases.0 c.if-last-eq46.true

pub returns-else-last-eq46 : goal.returns-else-last-eq46
returns-else-last-eq46 c = no_dot_last c.args.octets.now c.in-Some.front.now c.in-Some.last.now c.in-Some.ensures.cases.0 c.if-last-eq46.false
