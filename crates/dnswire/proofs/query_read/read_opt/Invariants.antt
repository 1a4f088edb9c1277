use Rattle.std.proofs.Common.{◌≡◌, length}
use Rattle.dnswire.specs.Runs.{AreSizes}
use Rattle.dnswire.proofs.QueryLemmas.{HasSaid}
use Rattle.dnswire.proofs.query_read.read_opt.Given as goal

abbrev pub invariant-loop : goal.invariant-loop
invariant-loop l = record {
  has : HasSaid l.octets l.at l.counter l.here l.said.edns l.said.version;
  sizes : AreSizes l.octets l.sizes;
  room : length l.sizes ≡ length l.initial.sizes;
}
