-- The question of a message (RFC 1035, section 4.1.2).
use Rattle.std.specs.Prelude.{◌≡◌, ℕ, ◌+◌, ◌≤◌, List, length, drop}
use Rattle.byteorder.specs.Endian.{big_number}
use Rattle.dnswire.specs.declared.question_fields.QuestionFields.{QuestionFields}
use Rattle.dnswire.specs.declared.question_fields.TheConstants.{QUESTION_FIELDS_OCTETS}

-- at the offset after the name stand type and class
pub record AreQuestionFields (octets : List ℕ) (at : ℕ) (fields : QuestionFields) : Type 0 where
  pub type_is : fields.qtype ≡ big_number 2 (drop at octets)
  pub class_is : fields.qclass ≡ big_number 2 (drop (at + 2) octets)
  pub end_is : fields.end ≡ at + QUESTION_FIELDS_OCTETS
  pub within : fields.end ≤ length octets
