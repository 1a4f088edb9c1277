use Rattle.std.proofs.Common.{◌≡◌, length}
use Rattle.dnswire.specs.Runs.{AreSizes}
use Rattle.dnswire.proofs.QueryLemmas.{HasPassed}
use Rattle.dnswire.proofs.query_read.skip_rrs.Given as goal

abbrev pub invariant-loop : goal.invariant-loop
invariant-loop l = record {
  passed : HasPassed l.octets l.at l.counter l.here;
  sizes : AreSizes l.octets l.sizes;
  room : length l.sizes ≡ length l.initial.sizes;
}
