-- What is to be done of a query.
use Rattle.std.specs.Prelude.{◌≡◌, ℕ, List, Option, Some, None}
use Rattle.dnswire.specs.Query.{IsReadAs}
use Rattle.dnswire.specs.declared.query_read.QueryRead.{QueryRead}
use Rattle.dnswire.specs.declared.query_read.QueryRead.TheVariants as reads
use Rattle.reply_core.specs.Error.{error_octets, plain_octets}
use Rattle.reply_core.specs.declared.rcode.TheConstants.{BAD_VERSION, FORMAT_ERROR, NOT_IMPLEMENTED}
use Rattle.resolver.specs.declared.query_step.QueryStep.{QueryStep}
use Rattle.resolver.specs.declared.query_step.QueryStep.TheVariants.{Dropped, Error, Query}

-- some octets are read as this
abbrev pub WasRead : QueryRead → Type 0
WasRead read = (octets : List ℕ) × IsReadAs octets read

-- the octets that tell a fault: RCODE 4 of another opcode than that of a standard query, 1 of what can't be read (RFC 1035,
-- section 4.1.1), 16 of an OPT record of another version than 0 (RFC 6891, section 6.1.3)
abbrev pub fault_octets : QueryRead → Option (List ℕ)
fault_octets reads.Dropped = None
fault_octets (reads.NotImp head) = Some (error_octets head NOT_IMPLEMENTED)
fault_octets (reads.FormErr head) = Some (error_octets head FORMAT_ERROR)
fault_octets (reads.BadVers question) = Some (plain_octets question BAD_VERSION)
fault_octets (reads.Query question) = None

-- what gets no reply is dropped, a fault is told by these octets, and a question is asked of the cache
abbrev pub IsStep : QueryRead → QueryStep → List ℕ → Type 0
IsStep read Dropped octets = read ≡ reads.Dropped
IsStep read Error octets = fault_octets read ≡ Some octets
IsStep read (Query question) octets = read ≡ reads.Query question.now
