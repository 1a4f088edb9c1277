-- What octets are as a query: dropped, refused, or a question (RFC 1035, section 4.1; RFC 6891, section 6.1).
use Rattle.std.specs.Prelude.{◌≡◌, ◌≢◌, ℕ, ◌+◌, ◌-◌, ◌/◌, ◌%◌, ◌^◌, ◌<◌, ◌⊎◌, max, true, false, nat_eq, List, [], ◌∷◌, length, take, drop, filter, Option, Some, None}
use Rattle.dname.specs.Read.{Spells}
use Rattle.dname.specs.declared.types.TheConstants.{OPT_TYPE}
use Rattle.dnswire.specs.Header.{IsHeader, is_response, opcode_of, has_rd, has_ad, has_cd, is_set, head_of}
use Rattle.dnswire.specs.InTurn.{StandInTurn}
use Rattle.dnswire.specs.Question.{AreQuestionFields}
use Rattle.dnswire.specs.RrHead.{RrHead, IsRrHead}
use Rattle.dnswire.specs.declared.edns.Edns.{Edns}
use Rattle.dnswire.specs.declared.edns.TheConstants.{DO, LEAST_PAYLOAD}
use Rattle.dnswire.specs.declared.header.Header.{Header}
use Rattle.dnswire.specs.declared.header.TheConstants.{HEADER_OCTETS}
use Rattle.dnswire.specs.declared.header_flags.TheConstants.{STANDARD_QUERY}
use Rattle.dnswire.specs.declared.question.Question.{Question}
use Rattle.dnswire.specs.declared.question_fields.QuestionFields.{QuestionFields}
use Rattle.dnswire.specs.declared.query_read.QueryRead.{QueryRead}
use Rattle.dnswire.specs.declared.query_read.QueryRead.TheVariants.{Dropped, NotImp, FormErr, BadVers, Query}
use Rattle.dnswire.specs.declared.rr_fields.RrFields.{RrFields}

-- the OPT records
abbrev pub opts_of : List RrHead → List RrHead
opts_of heads = filter (λ head. nat_eq head.fields.rtype OPT_TYPE) heads

-- what an OPT record says: its class is the payload size, of which less than 512 counts as 512; bit 15 of its TTL is DO
-- (RFC 6891, sections 6.1.3, 6.1.4 and 6.2.3)
abbrev pub edns_of : RrFields → Edns
edns_of opt = record { size = max LEAST_PAYLOAD opt.class; dnssec = is_set DO opt.ttl }

-- the second octet of its TTL is the version (RFC 6891, section 6.1.3)
abbrev pub version_of : RrFields → ℕ
version_of opt = opt.ttl / 2 ^ 16 % 2 ^ 8

-- these are all OPT records of the additional section: none, or one, whose owner is the root (RFC 6891, section 6.1.1);
-- without one the version is 0
abbrev pub AreOpts : List RrHead → Option Edns → ℕ → Type 0
AreOpts [] edns version = (edns ≡ None) × (version ≡ 0)
AreOpts (opt ∷ []) edns version =
    (opt.owner ≡ []) × (edns ≡ Some (edns_of opt.fields)) × (version ≡ version_of opt.fields)
AreOpts (first ∷ second ∷ more) edns version = ⊥

-- The octets are a query of this question, whose OPT record has the version. The question's name has no pointers; the
-- data of records isn't read, and octets after the last record are passed over.
pub record IsQuery (octets : List ℕ) (header : Header) (question : Question) (version : ℕ) : Type 0 where
  pub one : header.questions ≡ 1
  pub id : question.id ≡ header.id
  pub rd : question.rd ≡ has_rd header.flags
  pub ad : question.ad ≡ has_ad header.flags
  pub cd : question.cd ≡ has_cd header.flags
  pub taken : ℕ
  pub name : Spells (drop HEADER_OCTETS octets) question.name taken
  pub fields : QuestionFields
  pub reads : AreQuestionFields octets (HEADER_OCTETS + taken) fields
  pub qtype : question.qtype ≡ fields.qtype
  pub qclass : question.qclass ≡ fields.qclass
  pub asked : question.asked.items ≡ take (fields.end - HEADER_OCTETS) (drop HEADER_OCTETS octets)
  pub passed : List RrHead
  pub additional_at : ℕ
  pub front : StandInTurn (IsRrHead octets) fields.end passed additional_at
  pub passed_are : length passed ≡ header.answers + header.authorities
  pub additional : List RrHead
  pub end : ℕ
  pub back : StandInTurn (IsRrHead octets) additional_at additional end
  pub additional_are : length additional ≡ header.additionals
  pub opts : AreOpts (opts_of additional) question.edns version

-- the octets have a header of a query, which isn't a response, with this opcode
pub record HasQueryHeader (octets : List ℕ) (header : Header) (opcode : ℕ) : Type 0 where
  pub head : IsHeader octets header
  pub query : is_response header.flags ≡ false
  pub opcode_is : opcode_of header.flags ≡ opcode

-- what becomes of the octets
abbrev pub IsReadAs : List ℕ → QueryRead → Type 0
-- fewer than 12 octets, or a response
IsReadAs octets Dropped =
    (length octets < HEADER_OCTETS)
    ⊎ ((header : Header) × IsHeader octets header × (is_response header.flags ≡ true))
-- another opcode than that of a standard query
IsReadAs octets (NotImp head) =
    (header : Header) × (opcode : ℕ) × HasQueryHeader octets header opcode × (opcode ≢ STANDARD_QUERY)
    × (head ≡ head_of header)
-- no question can be read from it, of any version
IsReadAs octets (FormErr head) =
    (header : Header) × HasQueryHeader octets header STANDARD_QUERY × (head ≡ head_of header)
    × ((question : Question) (version : ℕ) → IsQuery octets header question version → ⊥)
-- a question with an OPT record of another version than 0 (RFC 6891, section 6.1.3)
IsReadAs octets (BadVers question) =
    (header : Header) × (version : ℕ) × HasQueryHeader octets header STANDARD_QUERY
    × IsQuery octets header question version × (version ≢ 0)
IsReadAs octets (Query question) =
    (header : Header) × HasQueryHeader octets header STANDARD_QUERY × IsQuery octets header question 0
