use Rattle.std.proofs.Common.{◌≡◌, length}
use Rattle.dnswire.specs.Expansions.{IsTableOf}
use Rattle.dnswire.specs.InTurn.{StandInTurn}
use Rattle.dnswire.specs.Message.{IsRr}
use Rattle.dnswire.proofs.section.read_section.Given as goal

abbrev pub invariant-loop : goal.invariant-loop
invariant-loop l = record {
  reads : StandInTurn (IsRr l.message) l.at l.rrs l.here;
  count : length l.rrs ≡ l.counter;
  table : IsTableOf l.message l.table;
}
