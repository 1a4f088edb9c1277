-- The octets of the reply by which an upstream server's message is relayed to a client.
use Rattle.std.specs.Prelude.{ℕ, ◌+◌, ◌/◌, ◌%◌, Bool, true, false, ◌||◌, ◌&&◌, not, if◌then◌else◌, nat_eq, nat_lt, nat_le, List, ◌++◌, length, filter, is_none}
use Rattle.std.specs.List.{flat_map}
use Rattle.byteorder.specs.Endian.{big_bytes}
use Rattle.dname.specs.Name.{wire_of}
use Rattle.dname.specs.declared.types.TheConstants.{OPT_TYPE, RRSIG_TYPE, NSEC_TYPE, NSEC3_TYPE, ANY_TYPE}
use Rattle.dnswire.specs.Header.{is_set, has_ad}
use Rattle.dnswire.specs.declared.flags.TheConstants.{TC, AD}
use Rattle.dnswire.specs.declared.message.Message.{Message}
use Rattle.dnswire.specs.declared.question.Question.{Question}
use Rattle.dnswire.specs.declared.rr.Rr.{Rr}
use Rattle.reply_core.specs.Reply.{wants_dnssec, flag, head_of, flags_of, opt_count, header_octets, opt_octets, bare_octets, limit_of}
use Rattle.reply_core.specs.declared.rcode.TheConstants.{SERVER_FAILURE}

-- the types of signatures and of proofs of denial (RFC 4034, sections 3 and 4; RFC 5155, section 3)
abbrev pub is_proof_type : ℕ → Bool
is_proof_type rtype = nat_eq rtype RRSIG_TYPE || nat_eq rtype NSEC_TYPE || nat_eq rtype NSEC3_TYPE

-- the client asked for records of the type, by its number or by that of all types (RFC 1035, section 3.2.3)
abbrev pub asks_for : Question → ℕ → Bool
asks_for question rtype = nat_eq question.qtype rtype || nat_eq question.qtype ANY_TYPE

-- OPT speaks of the hop alone (RFC 6891, section 6.1.1). Signatures and proofs go to a client that wants
-- them, or that asked for them (RFC 4035, section 3.2.1)
abbrev pub is_relayed : Question → Rr → Bool
is_relayed question rr =
    not (nat_eq rr.rtype OPT_TYPE)
    && (wants_dnssec question || not (is_proof_type rr.rtype) || asks_for question rr.rtype)

-- the records of a section that the client gets, in their order
abbrev pub relayed : Question → List Rr → List Rr
relayed question section = filter (is_relayed question) section

-- owner uncompressed, type, class, TTL, the data's length, data (RFC 1035, section 4.1.3)
abbrev pub rr_octets : Rr → List ℕ
rr_octets rr =
    wire_of rr.owner ++ big_bytes 2 rr.rtype ++ big_bytes 2 rr.class ++ big_bytes 4 rr.ttl
    ++ big_bytes 2 (length rr.octets) ++ rr.octets

-- the message's RCODE; one of more than four bits needs OPT (RFC 6891, section 6.1.3), and without it
-- becomes that of a failed server
abbrev pub relay_rcode : Question → Message → ℕ
relay_rcode question message =
    if is_none question.edns && nat_lt 15 message.rcode then SERVER_FAILURE else message.rcode

-- AD is the message's, for a client that had AD or DO (RFC 4035, section 3.2.3; RFC 6840, section 5.8)
abbrev pub relay_ad : Question → Message → Bool
relay_ad question message = has_ad message.flags && (question.ad || wants_dnssec question)

-- the flags of a reply with the RCODE's low four bits, with AD, and with TC where it is truncated
abbrev pub relay_flags : Question → Message → Bool → ℕ
relay_flags question message truncated =
    flags_of (head_of question) (relay_rcode question message % 16)
    + flag truncated TC + flag (relay_ad question message) AD

-- the RCODE's upper bits, for OPT (RFC 6891, section 6.1.3)
abbrev pub relay_upper : Question → Message → ℕ
relay_upper question message = relay_rcode question message / 16

-- the reply with all records of the three sections that the client gets, and an OPT record of its own
abbrev pub whole_relay : Question → Message → List ℕ
whole_relay question message =
    let answers : List Rr = relayed question message.answer in
    let authorities : List Rr = relayed question message.authority in
    let additionals : List Rr = relayed question message.additional in
    header_octets question.id (relay_flags question message false)
    1 (length answers) (length authorities) (length additionals + opt_count question.edns)
    ++ question.asked.items
    ++ flat_map rr_octets (answers ++ authorities ++ additionals)
    ++ opt_octets (relay_upper question message) question.edns

-- the reply without records but OPT, and with TC (RFC 2181, section 9)
abbrev pub truncated_relay : Question → Message → List ℕ
truncated_relay question message =
    bare_octets question (relay_flags question message true) (relay_upper question message)

-- the message came whole, and the whole reply is within the limit
abbrev pub is_whole_within : ℕ → Question → Message → Bool
is_whole_within limit question message =
    not (is_set TC message.flags) && nat_le (length (whole_relay question message)) limit

-- the reply that relays the message: whole where that can be, else truncated
abbrev pub relay_within : ℕ → Question → Message → List ℕ
relay_within limit question message =
    if is_whole_within limit question message then whole_relay question message
    else truncated_relay question message

-- both within what a datagram of the client takes
abbrev pub is_whole : Question → Message → Bool
is_whole question message = is_whole_within (limit_of question.edns) question message

abbrev pub relay_octets : Question → Message → List ℕ
relay_octets question message = relay_within (limit_of question.edns) question message
