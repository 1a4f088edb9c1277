-- A whole message of one question (RFC 1035, section 4.1), and the first fault of octets that aren't one.
use Rattle.std.specs.Prelude.{◌≡◌, ◌≢◌, ℕ, ◌+◌, ◌*◌, ◌/◌, ◌^◌, ◌<◌, Bool, true, false, nat_eq, ◌&&◌, if◌then◌else◌, List, [], ◌∷◌, length}
use Rattle.dname.specs.Name.{Label}
use Rattle.dname.specs.declared.types.TheConstants.{OPT_TYPE}
use Rattle.dnswire.specs.Header.{IsHeader, low_rcode}
use Rattle.dnswire.specs.MessageName.{NameAt}
use Rattle.dnswire.specs.Question.{AreQuestionFields}
use Rattle.dnswire.specs.RrHead.{RrHead, IsRrHead, HasNoName, IsTruncated}
use Rattle.dnswire.specs.Data.{layout_of, IsData, HasNoData}
use Rattle.dnswire.specs.InTurn.{StandInTurn}
use Rattle.dnswire.specs.declared.header.Header.{Header}
use Rattle.dnswire.specs.declared.header.TheConstants.{HEADER_OCTETS}
use Rattle.dnswire.specs.declared.question_fields.QuestionFields.{QuestionFields}
use Rattle.dnswire.specs.declared.question_fields.TheConstants.{QUESTION_FIELDS_OCTETS}
use Rattle.dnswire.specs.declared.rr.Rr.{Rr}
use Rattle.dnswire.specs.declared.message.Message.{Message}
use Rattle.dnswire.specs.declared.wire_fault.WireFault.{WireFault}
use Rattle.dnswire.specs.declared.wire_fault.WireFault.TheVariants.{Short, BadCount, BadName, BadData}

-- at the offset stands the record, whose data ends before `end`
pub record IsRr (message : List ℕ) (at : ℕ) (rr : Rr) (end : ℕ) : Type 0 where
  pub head : RrHead
  pub reads : IsRrHead message at head end
  pub owner : rr.owner ≡ head.owner
  pub rtype : rr.rtype ≡ head.fields.rtype
  pub class : rr.class ≡ head.fields.class
  pub ttl : rr.ttl ≡ head.fields.ttl
  pub rdata : IsData message head.fields.end (layout_of head.fields.rtype) head.fields.data_at rr.octets

-- the name of the root
abbrev pub is_root : List Label → Bool
is_root [] = true
is_root (label ∷ more) = false

-- the upper eight bits of the RCODE, from the first OPT record of the root; 0 without one (RFC 6891, section 6.1.3)
abbrev pub upper_rcode : List Rr → ℕ
upper_rcode [] = 0
upper_rcode (rr ∷ more) = if nat_eq rr.rtype OPT_TYPE && is_root rr.owner then rr.ttl / 2 ^ 24 else upper_rcode more

-- the octets have one question by their header, whose name ends before the offset
pub record HasQuestionName (octets : List ℕ) (header : Header) (name : List Label) (end : ℕ) : Type 0 where
  pub head : IsHeader octets header
  pub one : header.questions ≡ 1
  pub name_at : NameAt octets HEADER_OCTETS name end

-- the octets have this one question
pub record HasQuestion (octets : List ℕ) (header : Header) (name : List Label) (fields : QuestionFields) : Type 0 where
  pub fields_at : ℕ
  pub named : HasQuestionName octets header name fields_at
  pub fields_are : AreQuestionFields octets fields_at fields

-- the octets are the message; octets after its last record are passed over
pub record IsMessage (octets : List ℕ) (message : Message) : Type 0 where
  pub header : Header
  pub fields : QuestionFields
  pub question : HasQuestion octets header message.name fields
  pub id : message.id ≡ header.id
  pub flags : message.flags ≡ header.flags
  pub rcode : message.rcode ≡ 16 * upper_rcode message.additional + low_rcode header.flags
  pub qtype : message.qtype ≡ fields.qtype
  pub qclass : message.qclass ≡ fields.qclass
  pub authority_at : ℕ
  pub additional_at : ℕ
  pub end : ℕ
  pub answer : StandInTurn (IsRr octets) fields.end message.answer authority_at
  pub answers : length message.answer ≡ header.answers
  pub authority : StandInTurn (IsRr octets) authority_at message.authority additional_at
  pub authorities : length message.authority ≡ header.authorities
  pub additional : StandInTurn (IsRr octets) additional_at message.additional end
  pub additionals : length message.additional ≡ header.additionals

-- the record that begins at the offset has the fault: it can't be read up to the end of its data, or the data hasn't the
-- layout of its type
pub data HasRrFault (message : List ℕ) (at : ℕ) (fault : WireFault) : Type 0 where
  no_owner : HasNoName message at → fault ≡ BadName at → HasRrFault message at fault
  truncated :
      (owner : List Label) (fields_at : ℕ) → NameAt message at owner fields_at → IsTruncated message fields_at
      → fault ≡ Short → HasRrFault message at fault
  no_data :
      (head : RrHead) (end : ℕ) → IsRrHead message at head end
      → HasNoData message head.fields.end (layout_of head.fields.rtype) head.fields.data_at
      → fault ≡ BadData head.fields.data_at → HasRrFault message at fault

-- of so many records from the offset on, the first that can't be read has the fault
pub record HasFaultAmong (message : List ℕ) (at count : ℕ) (fault : WireFault) : Type 0 where
  pub before : List Rr
  pub here : ℕ
  pub reads : StandInTurn (IsRr message) at before here
  pub few : length before < count
  pub faulty : HasRrFault message here fault

-- the first fault from the front on
pub data IsFaultOf (octets : List ℕ) (fault : WireFault) : Type 0 where
  no_header : length octets < HEADER_OCTETS → fault ≡ Short → IsFaultOf octets fault
  not_one : (header : Header) → IsHeader octets header → header.questions ≢ 1 → fault ≡ BadCount → IsFaultOf octets fault
  no_name :
      (header : Header) → IsHeader octets header → header.questions ≡ 1 → HasNoName octets HEADER_OCTETS
      → fault ≡ BadName HEADER_OCTETS → IsFaultOf octets fault
  no_fields :
      (header : Header) (name : List Label) (end : ℕ) → HasQuestionName octets header name end
      → length octets < end + QUESTION_FIELDS_OCTETS → fault ≡ Short → IsFaultOf octets fault
  among :
      (header : Header) (name : List Label) (fields : QuestionFields) → HasQuestion octets header name fields
      → HasFaultAmong octets fields.end (header.answers + header.authorities + header.additionals) fault
      → IsFaultOf octets fault
