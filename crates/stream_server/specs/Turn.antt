-- What a message of a stream is answered, by the batches of one version.
use Rattle.std.specs.Prelude.{◌≡◌, ℕ, List, [], Option, Some, None}
use Rattle.std.specs.Option.{option_map}
use Rattle.dnswire.specs.Query.{IsReadAs}
use Rattle.dnswire.specs.declared.question.Question.{Question}
use Rattle.dnswire.specs.declared.query_read.QueryRead.{QueryRead}
use Rattle.dnswire.specs.declared.query_read.QueryRead.TheVariants as reads
use Rattle.denial_records.specs.Proof.{Proof}
use Rattle.denial_records.specs.declared.batch.Batch.{Batch}
use Rattle.cache_meaning.specs.Held.{Held, held_of}
use Rattle.cache_meaning.specs.Ttl.{ttl_of}
use Rattle.reply_core.specs.Answered.{proof_in}
use Rattle.reply_core.specs.Error.{error_octets, plain_octets}
use Rattle.reply_core.specs.Reply.{long_octets}
use Rattle.reply_core.specs.declared.rcode.TheConstants.{FORMAT_ERROR, SERVER_FAILURE, NOT_IMPLEMENTED, BAD_VERSION}
use Rattle.resolver.specs.Replies.{IsSoundAt}
use Rattle.stream_front.specs.Split.{framed}

-- the reply that a proof gives at a moment, with the TTL that it then has
abbrev pub long_proof_octets : Question → ℕ → Proof → List ℕ
long_proof_octets question now proof = long_octets question proof (ttl_of now proof)

-- the reply, or none where the held records prove nothing
abbrev pub long_reply_in : Held → Question → ℕ → Option (List ℕ)
long_reply_in held question now = option_map (long_proof_octets question now) (proof_in held question now)

-- where they prove nothing the client is told of a failed server (RFC 1035, section 4.1.1)
abbrev pub reply_or_failure : Question → Option (List ℕ) → List ℕ
reply_or_failure question (Some reply) = reply
reply_or_failure question None = plain_octets question SERVER_FAILURE

-- What goes back, after its length: nothing, a fault that is told at once, or the reply to a query. The RCODE is 4 for another
-- opcode than that of a standard query, 1 for what can't be read (RFC 1035, section 4.1.1), 16 for an OPT record of another version
-- than 0 (RFC 6891, section 6.1.3)
abbrev pub answer_of : List Batch → ℕ → QueryRead → List ℕ
answer_of seen now reads.Dropped = []
answer_of seen now (reads.NotImp head) = framed (error_octets head NOT_IMPLEMENTED)
answer_of seen now (reads.FormErr head) = framed (error_octets head FORMAT_ERROR)
answer_of seen now (reads.BadVers question) = framed (plain_octets question BAD_VERSION)
answer_of seen now (reads.Query question) =
    framed (reply_or_failure question (long_reply_in (held_of seen) question now))

-- what a query is answered is sound: every zone of which the proof's records are true says so too
abbrev pub IsSoundRead : List Batch → ℕ → QueryRead → Type 0
IsSoundRead seen now reads.Dropped = Unit {0}
IsSoundRead seen now (reads.NotImp head) = Unit {0}
IsSoundRead seen now (reads.FormErr head) = Unit {0}
IsSoundRead seen now (reads.BadVers question) = Unit {0}
IsSoundRead seen now (reads.Query question) = IsSoundAt seen question now

-- a message is answered so, where these batches make the version
abbrev pub IsAnswered : List Batch → ℕ → List ℕ → List ℕ → Type 0
IsAnswered seen now message octets =
    (read : QueryRead) × IsReadAs message read × (octets ≡ answer_of seen now read) × IsSoundRead seen now read
