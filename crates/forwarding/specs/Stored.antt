-- No public clause cites this module. What is stored of an answer, by the history after it.
use Rattle.std.specs.Prelude.{◌≡◌, ℕ, Bool, List, length, Result}
use Rattle.counters.specs.declared.counter.Counter.{Counter}
use Rattle.dname.specs.Name.{Label}
use Rattle.denial_records.specs.declared.batch.Batch.{Batch}
use Rattle.intake.specs.Batch.{Gives}
use Rattle.intake.specs.declared.taken.Taken.{Taken}
use Rattle.intake.specs.declared.intake_fault.IntakeFault.{IntakeFault}
use Rattle.forwarding.specs.Done.{IsStoringOf, Storing, storing_in}
use Rattle.forwarding.specs.Turn.{IsKeptAt}
use Rattle.forwarding.specs.declared.want.Want.{Want}

-- the batch, if there is one, is kept, and this is what it is counted as
pub record IsStored (stored : Storing) (history : List Batch) (counter : Counter) : Type 0 where
  pub counted : counter ≡ stored.counter
  pub placed : Bool
  pub kept : IsKeptAt history (length history) stored.batch placed

-- so is the batch that intake takes of the octets
pub record IsStoredIn (passed : List (List Label)) (octets : List ℕ) (now : ℕ) (history : List Batch) (counter : Counter) : Type 0 where
  pub given : Result Taken IntakeFault
  pub gives : Gives octets now given
  pub stored : IsStored (storing_in passed given) history counter

-- or memory is wanted for it
pub record IsStoring (passed : List (List Label)) (octets : List ℕ) (now : ℕ) (history : List Batch) (counter : Counter) : Type 0 where
  pub want : Want
  pub storing : Storing
  pub is : IsStoringOf passed octets now want storing
  pub stored : IsStored storing history counter
