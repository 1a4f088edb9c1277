use Rattle.std.proofs.Common.{◌≡◌, drop}
use Rattle.dname.specs.Name.{wire_of}
use Rattle.waiting_table.specs.Index.{mark_from, mark_of}
use Rattle.waiting_table.proofs.mark.mark_of.Given as goal

abbrev pub invariant-loop-octet : goal.invariant-loop-octet
invariant-loop-octet l =
    mark_from l.mark (drop l.octet-index (wire_of l.question.name)) ≡ mark_of l.question.name l.question.qtype
