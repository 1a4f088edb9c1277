use Rattle.std.proofs.Common.{◌≡◌}
use Rattle.outside_core.specs.Told.{append_told, prepend_told}
use Rattle.outside_core_tests.proofs.streams.read_to_end.Given as goal

abbrev pub invariant-pieces : goal.invariant-pieces
invariant-pieces g l = record {
  taken : g.S.Source.taken l.source ≡ append_told (g.S.Source.taken l.fn.source) l.input.items;
  left : g.S.Source.left l.fn.source ≡ prepend_told l.input.items (g.S.Source.left l.source);
  faults : g.S.Source.faults l.source ≡ g.S.Source.faults l.fn.source;
}
