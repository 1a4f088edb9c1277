use Rattle.std.proofs.Common.{ap, Err}
use Rattle.dnswire.proofs.query_read.read_records.Goals as goal

pub returns-in-Err-Faulty-clause-none : goal.returns-in-Err-Faulty-clause-none
returns-in-Err-Faulty-clause-none c edns version has =
    c.in-Err-Faulty.ensures.faulty (ap Err c.in-Err-Faulty.field-0-is) edns version has
