use Rattle.std.proofs.Common.{drop}
use Rattle.dnswire.specs.Expansions.{IsTableOf}
use Rattle.dnswire.proofs.DataLemmas.{HasWritten}
use Rattle.dnswire.proofs.data.read_fields.Given as goal

abbrev pub invariant-loop-field : goal.invariant-loop-field
invariant-loop-field l = record {
  wrote : HasWritten l.message l.end l.fields l.at (drop l.field-index l.fields) l.here l.octets;
  table : IsTableOf l.message l.table;
}
