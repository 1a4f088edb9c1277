-- What the calls return.
use Rattle.std.specs.Prelude.{◌≡◌, ℤ, pos, neg_ℤ}
use Rattle.intake.specs.declared.intake_fault.IntakeFault.{IntakeFault}
use Rattle.intake.specs.declared.intake_fault.IntakeFault.TheVariants as faults
use Rattle.resolver.specs.declared.query_outcome.QueryOutcome.{QueryOutcome}
use Rattle.resolver.specs.declared.query_outcome.QueryOutcome.TheVariants.{Answered, Forward, Dropped, Error}
use Rattle.dnsreplay_c.specs.declared.code.TheConstants.{DONE, FORWARD, DROPPED, ERROR, NO_MEMORY, NO_ROOM, WRONG_STATE, NOT_A_MESSAGE, NOT_AN_ANSWER, TRUNCATED, NOT_VALIDATED, NOTHING_STORED, OTHER_RCODE}

abbrev pub code_of_outcome : QueryOutcome → ℤ
code_of_outcome Answered = DONE
code_of_outcome Forward = FORWARD
code_of_outcome Dropped = DROPPED
code_of_outcome Error = ERROR

abbrev pub code_of_fault : IntakeFault → ℤ
code_of_fault (faults.Malformed fault) = NOT_A_MESSAGE
code_of_fault faults.NotResponse = NOT_AN_ANSWER
code_of_fault faults.Truncated = TRUNCATED
code_of_fault (faults.Rcode rcode) = OTHER_RCODE
code_of_fault faults.NotAuthentic = NOT_VALIDATED
code_of_fault (faults.Nothing skipped) = NOTHING_STORED
code_of_fault faults.OutOfMemory = NO_MEMORY

-- the numbers of the header, by which a program in C tells the codes; those of refusals are -16 less the code of a refused frame
-- (docs/FRAMES.md)
pub record CodesAreTheHeaders : Type 0 where
  pub done : DONE ≡ pos 0
  pub forward : FORWARD ≡ pos 1
  pub dropped : DROPPED ≡ pos 2
  pub error : ERROR ≡ pos 3
  pub no_memory : NO_MEMORY ≡ neg_ℤ (pos 1)
  pub no_room : NO_ROOM ≡ neg_ℤ (pos 2)
  pub wrong_state : WRONG_STATE ≡ neg_ℤ (pos 3)
  pub not_a_message : NOT_A_MESSAGE ≡ neg_ℤ (pos 17)
  pub not_an_answer : NOT_AN_ANSWER ≡ neg_ℤ (pos 18)
  pub truncated : TRUNCATED ≡ neg_ℤ (pos 19)
  pub not_validated : NOT_VALIDATED ≡ neg_ℤ (pos 20)
  pub nothing_stored : NOTHING_STORED ≡ neg_ℤ (pos 21)
  pub other_rcode : OTHER_RCODE ≡ neg_ℤ (pos 23)
