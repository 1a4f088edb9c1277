-- The header of a message and its flags (RFC 1035, section 4.1.1). Numbers are big-endian.
use Rattle.std.specs.Prelude.{◌≡◌, ℕ, ◌/◌, ◌%◌, ◌≤◌, Bool, ◌&&◌, nat_eq, List, length, drop}
use Rattle.byteorder.specs.Endian.{big_number}
use Rattle.dnswire.specs.declared.flags.TheConstants.{QR, TC, RD, AD, CD}
use Rattle.dnswire.specs.declared.header.Header.{Header}
use Rattle.dnswire.specs.declared.header.TheConstants.{HEADER_OCTETS}
use Rattle.dnswire.specs.declared.head.Head.{Head}
use Rattle.dnswire.specs.declared.header_flags.TheConstants.{STANDARD_QUERY}

-- the octets begin with this header: ID, flags, and the numbers of questions and of the records of the three sections
pub record IsHeader (octets : List ℕ) (header : Header) : Type 0 where
  pub whole : HEADER_OCTETS ≤ length octets
  pub id : header.id ≡ big_number 2 octets
  pub flags : header.flags ≡ big_number 2 (drop 2 octets)
  pub questions : header.questions ≡ big_number 2 (drop 4 octets)
  pub answers : header.answers ≡ big_number 2 (drop 6 octets)
  pub authorities : header.authorities ≡ big_number 2 (drop 8 octets)
  pub additionals : header.additionals ≡ big_number 2 (drop 10 octets)

-- the bit of this value is set
abbrev pub is_set : ℕ → ℕ → Bool
is_set bit number = nat_eq (number / bit % 2) 1

abbrev pub is_response : ℕ → Bool
is_response flags = is_set QR flags

-- the four bits after QR
abbrev pub opcode_of : ℕ → ℕ
opcode_of flags = flags / 0x800 % 16

-- a response to a standard query
abbrev pub is_answer : ℕ → Bool
is_answer flags = is_response flags && nat_eq (opcode_of flags) STANDARD_QUERY

-- the message is truncated
abbrev pub has_tc : ℕ → Bool
has_tc flags = is_set TC flags

-- recursion is desired
abbrev pub has_rd : ℕ → Bool
has_rd flags = is_set RD flags

-- of a query, the client takes the bit in a reply (RFC 6840, section 5.7)
abbrev pub has_ad : ℕ → Bool
has_ad flags = is_set AD flags

-- checking is disabled (RFC 4035, section 3.2.2)
abbrev pub has_cd : ℕ → Bool
has_cd flags = is_set CD flags

-- the low four bits of the RCODE
abbrev pub low_rcode : ℕ → ℕ
low_rcode flags = flags % 16

-- what a reply that tells a fault takes over from a query
abbrev pub head_of : Header → Head
head_of header = record { id = header.id; opcode = opcode_of header.flags; rd = has_rd header.flags; cd = has_cd header.flags }
