use Rattle.std.proofs.Common.{◌∙◌, ◌++◌, ap, arith}
use Rattle.std.specs.List.{filter_map}
use Rattle.std.proofs.lemmas.List.{take_all}
use Rattle.dname.specs.NameData.{name_in}
use Rattle.forwarding.proofs.PassedLemmas.{given_next}
use Rattle.forwarding.proofs.passed_names.PassedNames.pass_all.Goals as goal

pub loop-i-preserved : goal.loop-i-preserved
loop-i-preserved c =
    given_next (λ wire. name_in wire.now) c.args.wires.now c.loop-i.i _ c.args.self.now c.loop-i.self c.pass_read.new.self (omega arith) c.loop-i.invariant c.in_ok-pass_read.ensures

pub returns : goal.returns
returns c =
    c.loop-i.invariant
    ∙ ap (λ l. c.args.self.now ++ filter_map (λ wire. name_in wire.now) l) (take_all c.loop-i.i c.args.wires.now c.loop-i-test.false)
