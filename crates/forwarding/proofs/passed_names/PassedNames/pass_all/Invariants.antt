use Rattle.std.proofs.Common.{◌≡◌, ◌++◌, take}
use Rattle.std.specs.List.{filter_map}
use Rattle.dname.specs.NameData.{name_in}
use Rattle.forwarding.proofs.passed_names.PassedNames.pass_all.Given as goal

abbrev pub invariant-loop-i : goal.invariant-loop-i
invariant-loop-i l = l.self ≡ l.initial.self ++ filter_map (λ wire. name_in wire.now) (take l.i l.wires)
