-- The octets of a reply, in the order of RFC 1035, section 4.1. Numbers are big-endian.
use Rattle.std.specs.Prelude.{ℕ, ◌+◌, ◌*◌, Bool, true, false, ◌||◌, if◌then◌else◌, nat_le, min, max, List, [], ◌++◌, length, map, Option, Some, None}
use Rattle.std.specs.List.{flat_map}
use Rattle.byteorder.specs.Endian.{big_bytes}
use Rattle.dname.specs.Name.{Label, wire_of}
use Rattle.dname.specs.declared.types.TheConstants.{IN_CLASS, OPT_TYPE, RRSIG_TYPE}
use Rattle.dnswire.specs.declared.edns.Edns.{Edns}
use Rattle.dnswire.specs.declared.head.Head.{Head}
use Rattle.dnswire.specs.declared.question.Question.{Question}
use Rattle.denial_records.specs.Proof.{Proof}
use Rattle.denial_records.specs.declared.record.Record.{Record}
use Rattle.denial_records.specs.declared.verdict.Kind.{Kind}
use Rattle.denial_records.specs.declared.verdict.Kind.TheVariants.{Answer, NoData, NxDomain}
use Rattle.dnswire.specs.declared.edns.TheConstants.{DO, LEAST_PAYLOAD}
use Rattle.dnswire.specs.declared.flags.TheConstants.{QR, TC, RD, RA, AD, CD}
use Rattle.reply_core.specs.Kept.{owner_of, rtype_of, items_of, signatures_of, listed}
use Rattle.reply_core.specs.declared.draft.TheConstants.{MAX_REPLY, MAX_LONG_REPLY}
use Rattle.reply_core.specs.declared.rcode.TheConstants.{NO_ERROR, NAME_ERROR}

-- DO, which the query's OPT record has (RFC 3225, section 3)
abbrev pub dnssec_in : Option Edns → Bool
dnssec_in None = false
dnssec_in (Some edns) = edns.dnssec

-- the client wants the DNSSEC records
abbrev pub wants_dnssec : Question → Bool
wants_dnssec question = dnssec_in question.edns

-- a flag's bit where it is set
abbrev pub flag : Bool → ℕ → ℕ
flag set bit = if set then bit else 0

-- the RCODE (RFC 1035, section 4.1.1)
abbrev pub rcode_of : Kind → ℕ
rcode_of NxDomain = NAME_ERROR
rcode_of NoData = NO_ERROR
rcode_of Answer = NO_ERROR

-- what a reply takes over from the header of a question's query, whose opcode is 0
abbrev pub head_of : Question → Head
head_of question = record { id = question.id; opcode = 0; rd = question.rd; cd = question.cd }

-- QR and RA are set; AA, TC, Z and AD zero; opcode, RD and CD are the query's (RFC 1035, section
-- 4.1.1; RFC 4035, section 3.2.2)
abbrev pub flags_of : Head → ℕ → ℕ
flags_of head rcode = QR + RA + head.opcode * 0x800 + flag head.rd RD + flag head.cd CD + rcode

-- those flags, with TC where the reply is truncated, and AD where the query had AD or DO (RFC 4035,
-- sections 3.1.6 and 3.2.3; RFC 6840, section 5.8)
abbrev pub reply_flags : Question → Kind → Bool → ℕ
reply_flags question kind truncated =
    flags_of (head_of question) (rcode_of kind) + flag truncated TC
    + flag (question.ad || wants_dnssec question) AD

-- the number of OPT records, which is that of the query (RFC 6891, section 6.1.1)
abbrev pub opt_count : Option Edns → ℕ
opt_count None = 0
opt_count (Some edns) = 1

-- ID, flags, and the numbers of questions and of the records of the three sections (RFC 1035, section
-- 4.1.1)
abbrev pub header_octets : ℕ → ℕ → ℕ → ℕ → ℕ → ℕ → List ℕ
header_octets id flags questions answers authorities additionals =
    big_bytes 2 id ++ big_bytes 2 flags ++ big_bytes 2 questions
    ++ big_bytes 2 answers ++ big_bytes 2 authorities ++ big_bytes 2 additionals

-- a record but for its class and TTL
pub record ReplyRecord : Type 0 where
  pub owner : List Label
  pub rtype : ℕ
  pub rdata : List ℕ

-- owner uncompressed, type, class IN, TTL, the data's length, data (RFC 1035, section 4.1.3)
abbrev pub record_octets : ℕ → ReplyRecord → List ℕ
record_octets ttl r =
    wire_of r.owner ++ big_bytes 2 r.rtype ++ big_bytes 2 IN_CLASS ++ big_bytes 4 ttl
    ++ big_bytes 2 (length r.rdata) ++ r.rdata

-- a record for each item
abbrev pub records_of : List Label → ℕ → List (List ℕ) → List ReplyRecord
records_of owner rtype items =
    map (λ rdata. record { owner = owner; rtype = rtype; rdata = rdata }) items

-- the set's signatures, for a client that wants them (RFC 4035, section 3.1.1)
abbrev pub signature_records : Bool → List Label → List (List ℕ) → List ReplyRecord
signature_records dnssec owner signatures =
    if dnssec then records_of owner RRSIG_TYPE signatures else []

-- a kept set's or denial's records with this owner, and its signatures after them
abbrev pub set_records : Bool → List Label → Record → List ReplyRecord
set_records dnssec owner kept =
    records_of owner (rtype_of kept) (items_of kept)
    ++ signature_records dnssec owner (signatures_of kept)

-- a record of a proof of denial and its signatures, for a client that wants them (RFC 4035, section
-- 3.1.3; RFC 5155, section 7.2)
abbrev pub proof_records : Bool → Record → List ReplyRecord
proof_records dnssec denial = if dnssec then set_records true (owner_of denial) denial else []

-- the set that answers, with the query's name as owner
abbrev pub answer_records : Question → Proof → List ReplyRecord
answer_records question proof =
    flat_map (set_records (wants_dnssec question) question.name) (listed proof.answer)

-- the SOA set, and the proof of denial
abbrev pub authority_records : Question → Proof → List ReplyRecord
authority_records question proof =
    flat_map (λ soa. set_records (wants_dnssec question) (owner_of soa) soa) (listed proof.soa)
    ++ flat_map (proof_records (wants_dnssec question)) proof.denials

-- root owner, type OPT, 1232 octets of payload; the upper bits of the RCODE, version 0, DO as the
-- query had it; no data (RFC 6891, sections 6.1.2 to 6.1.4)
abbrev pub opt_octets : ℕ → Option Edns → List ℕ
opt_octets upper None = []
opt_octets upper (Some edns) =
    wire_of [] ++ big_bytes 2 OPT_TYPE ++ big_bytes 2 MAX_REPLY
    ++ big_bytes 1 upper ++ big_bytes 1 0 ++ big_bytes 2 (flag edns.dnssec DO) ++ big_bytes 2 0

-- the reply with all its records, which have this TTL
abbrev pub whole_octets : Question → Proof → ℕ → List ℕ
whole_octets question proof ttl =
    let answers : List ReplyRecord = answer_records question proof in
    let authorities : List ReplyRecord = authority_records question proof in
    header_octets question.id (reply_flags question proof.kind false)
    1 (length answers) (length authorities) (opt_count question.edns)
    ++ question.asked.items
    ++ flat_map (record_octets ttl) (answers ++ authorities)
    ++ opt_octets 0 question.edns

-- a reply without records but OPT, with these flags and upper bits of the RCODE
abbrev pub bare_octets : Question → ℕ → ℕ → List ℕ
bare_octets question flags upper =
    header_octets question.id flags 1 0 0 (opt_count question.edns)
    ++ question.asked.items
    ++ opt_octets upper question.edns

-- the reply without records but OPT, and with TC (RFC 2181, section 9)
abbrev pub truncated_octets : Question → Kind → List ℕ
truncated_octets question kind = bare_octets question (reply_flags question kind true) 0

-- the octets that a reply has at most: 512 without OPT (RFC 1035, section 4.2.1); else what the
-- client takes, of which less than 512 counts as 512 (RFC 6891, section 6.2.3), and no more than 1232
abbrev pub limit_of : Option Edns → ℕ
limit_of None = LEAST_PAYLOAD
limit_of (Some edns) = min MAX_REPLY (max LEAST_PAYLOAD edns.size)

-- the reply that a proof gives, with this TTL: whole where that is within the limit, else truncated
abbrev pub limited_octets : ℕ → Question → Proof → ℕ → List ℕ
limited_octets limit question proof ttl =
    if nat_le (length (whole_octets question proof ttl)) limit
    then whole_octets question proof ttl
    else truncated_octets question proof.kind

-- within what a datagram of the client takes
abbrev pub reply_octets : Question → Proof → ℕ → List ℕ
reply_octets question proof ttl = limited_octets (limit_of question.edns) question proof ttl

-- within what a message on a stream can have, whatever the client takes by datagrams (RFC 1035, section 4.2.2)
abbrev pub long_octets : Question → Proof → ℕ → List ℕ
long_octets question proof ttl = limited_octets MAX_LONG_REPLY question proof ttl
