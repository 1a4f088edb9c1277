-- What stands before the data of a record in a message (RFC 1035, section 4.1.3).
use Rattle.std.specs.Prelude.{◌≡◌, ℕ, ◌+◌, ◌<◌, ◌≤◌, ◌⊎◌, List, length, drop}
use Rattle.byteorder.specs.Endian.{big_number}
use Rattle.dname.specs.Name.{Label}
use Rattle.dnswire.specs.MessageName.{NameAt}
use Rattle.dnswire.specs.declared.rr_fields.RrFields.{RrFields}
use Rattle.dnswire.specs.declared.rr_fields.TheConstants.{RR_FIELDS_OCTETS}

-- at the offset after the owner name stand type, class, TTL and the data's length, and so much data follows
pub record AreRrFields (message : List ℕ) (at : ℕ) (fields : RrFields) : Type 0 where
  pub type_is : fields.rtype ≡ big_number 2 (drop at message)
  pub class_is : fields.class ≡ big_number 2 (drop (at + 2) message)
  pub ttl_is : fields.ttl ≡ big_number 4 (drop (at + 4) message)
  pub data_is : fields.data_at ≡ at + RR_FIELDS_OCTETS
  pub end_is : fields.end ≡ fields.data_at + big_number 2 (drop (at + 8) message)
  pub within : fields.end ≤ length message

-- after the owner name the message ends within those octets, or within the data
abbrev pub IsTruncated : List ℕ → ℕ → Type 0
IsTruncated message at =
    (length message < at + RR_FIELDS_OCTETS)
    ⊎ (length message < at + RR_FIELDS_OCTETS + big_number 2 (drop (at + 8) message))

-- a record but for what its data says
pub record RrHead : Type 0 where
  pub owner : List Label
  pub fields : RrFields

-- at the offset stands the head, whose data ends before `end`
pub record IsRrHead (message : List ℕ) (at : ℕ) (head : RrHead) (end : ℕ) : Type 0 where
  pub fields_at : ℕ
  pub owner : NameAt message at head.owner fields_at
  pub fields : AreRrFields message fields_at head.fields
  pub end_is : end ≡ head.fields.end

-- no name stands at the offset
abbrev pub HasNoName : List ℕ → ℕ → Type 0
HasNoName message at = (name : List Label) (end : ℕ) → NameAt message at name end → ⊥
