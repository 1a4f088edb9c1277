use Rattle.std.proofs.Common.{ap, Err}
use Rattle.dnswire.proofs.RunLemmas.{no_sizes}
use Rattle.dnswire.proofs.query_read.read_dear_records.Goals as goal

pub pass_records-requires : goal.pass_records-requires
pass_records-requires c = no_sizes _ 0x4000

pub returns-in-Err-Faulty-clause-none : goal.returns-in-Err-Faulty-clause-none
returns-in-Err-Faulty-clause-none c edns version has =
    c.in-Err-Faulty.ensures.faulty (ap Err c.in-Err-Faulty.field-0-is) edns version has
