-- The messages of a made zone, octet for octet: for each owner its NSEC, as a validating resolver answers.
use Rattle.std.specs.Prelude.{ℕ, ◌+◌, ◌%◌, ◌^◌, zero, suc, List, [], ◌∷◌, ◌++◌, length, map}
use Rattle.std.specs.List.{range_with_len}
use Rattle.byteorder.specs.Endian.{big_bytes}
use Rattle.dname.specs.Name.{Label, wire_of, without_asterisk}
use Rattle.dname.specs.declared.types.TheConstants.{A_TYPE, IN_CLASS, NSEC_TYPE, RRSIG_TYPE, SOA_TYPE}
use Rattle.zone_maker.specs.Made.{made_example, NameKind, Host, Above, Cut, Wild, kind_at, address_at, soa_data, made_owner, next_owner}

-- ---- pieces

-- ID, flags, and the numbers of questions and of the records of the three sections (RFC 1035, section 4.1.1)
abbrev pub header_octets : ℕ → ℕ → ℕ → ℕ → ℕ → List ℕ
header_octets id flags answers authorities additionals =
    big_bytes 2 (id % 2 ^ 16) ++ big_bytes 2 flags ++ big_bytes 2 1 ++ big_bytes 2 answers ++ big_bytes 2 authorities
    ++ big_bytes 2 additionals

-- one question of class IN (RFC 1035, section 4.1.2)
abbrev pub question_octets : List Label → ℕ → List ℕ
question_octets name qtype = wire_of name ++ big_bytes 2 qtype ++ big_bytes 2 IN_CLASS

-- a record of class IN that lives an hour (RFC 1035, section 4.1.3)
abbrev pub record_octets : List Label → ℕ → List ℕ → List ℕ
record_octets owner rtype rdata =
    wire_of owner ++ big_bytes 2 rtype ++ big_bytes 2 IN_CLASS ++ big_bytes 4 3600 ++ big_bytes 2 (length rdata) ++ rdata

-- type covered, algorithm 13, labels, original TTL, expiration and inception, key tag 1, signer, and four octets for a
-- signature, which nobody checks here (RFC 4034, section 3.1)
abbrev pub signature_data : List Label → ℕ → List ℕ
signature_data owner covered =
    big_bytes 2 covered ++ 13 ∷ length (without_asterisk owner) ∷ big_bytes 4 3600 ++ big_bytes 4 2000000000
    ++ big_bytes 4 900000000 ++ big_bytes 2 1 ++ wire_of made_example ++ 0x5a ∷ 0x5a ∷ 0x5a ∷ 0x5a ∷ []

-- a record and its signature
abbrev pub signed_octets : List Label → ℕ → List ℕ → List ℕ
signed_octets owner rtype rdata =
    record_octets owner rtype rdata ++ record_octets owner RRSIG_TYPE (signature_data owner rtype)

-- one block of six octets, of which the last says RRSIG and NSEC (RFC 4034, section 4.1.2)
abbrev pub type_map : ℕ → List ℕ
type_map first = 0 ∷ 6 ∷ first ∷ 0 ∷ 0 ∷ 0 ∷ 0 ∷ 3 ∷ []

-- A, or at a cut NS
abbrev pub first_in : NameKind → ℕ
first_in Host = 0x40
first_in Above = 0x40
first_in Cut = 0x20
first_in Wild = 0x40

-- NS and SOA at the apex
abbrev pub first_of : ℕ → ℕ
first_of zero = 0x22
first_of (suc i) = first_in (kind_at i)

-- the next owner and the owner's types (RFC 4034, section 4.1)
abbrev pub nsec_data : ℕ → ℕ → List ℕ
nsec_data names k = wire_of (next_owner names k) ++ type_map (first_of k)

-- ---- messages

-- the answer that a wildcard gives, and none for the others
abbrev pub answer_in : NameKind → ℕ → ℕ → List ℕ
answer_in Host seed i = []
answer_in Above seed i = []
answer_in Cut seed i = []
answer_in Wild seed i = signed_octets (made_owner (suc i)) A_TYPE (address_at seed i)

abbrev pub answers_in : NameKind → ℕ
answers_in Host = 0
answers_in Above = 0
answers_in Cut = 0
answers_in Wild = 2

abbrev pub answer_of : ℕ → ℕ → List ℕ
answer_of seed zero = []
answer_of seed (suc i) = answer_in (kind_at i) seed i

abbrev pub answers_of : ℕ → ℕ
answers_of zero = 0
answers_of (suc i) = answers_in (kind_at i)

-- QR, RD, RA and AD (RFC 1035, section 4.1.1; RFC 4035, section 3.2.3)
abbrev pub message_flags : ℕ
message_flags = 0x81a0

-- message number k: the owner is asked for A, and the authority section has the SOA and the owner's NSEC
abbrev pub message_at : ℕ → ℕ → ℕ → List ℕ
message_at seed names k =
    header_octets k message_flags (answers_of k) 4 0
    ++ question_octets (made_owner k) A_TYPE
    ++ answer_of seed k
    ++ signed_octets made_example SOA_TYPE soa_data
    ++ signed_octets (made_owner k) NSEC_TYPE (nsec_data names k)

-- one for each owner
abbrev pub messages_of : ℕ → ℕ → List (List ℕ)
messages_of seed names = map (message_at seed names) (range_with_len 0 (names + 1))
