-- What a run of `forward` says by its status. It ends only where it can't begin.
use Rattle.std.specs.Prelude.{◌≡◌, ℕ, ◌⊎◌, Bool, true, false, MatchBool, List, ◌++◌, map}
use Rattle.dname.specs.Name.{Label}
use Rattle.forwarding.specs.Passed.{AreNamesOf}
use Rattle.forwarding.specs.declared.own_names.TheConstants.{OWN_NAMES}
use Rattle.outside_core.specs.Fault.{Rose}
use Rattle.running.specs.declared.forward.outlet_fault.OutletFault.{OutletFault}
use Rattle.running.specs.declared.forward.outlet_fault.OutletFault.TheVariants as faults
use Rattle.running.specs.declared.status.Status.{Status}
use Rattle.running.specs.declared.status.Status.TheVariants.{ListenFault, OutOfMemory, ThreadFault}

-- there was no memory, or no thread
abbrev pub IsWant : Status → Type 0
IsWant status = (status ≡ OutOfMemory) ⊎ (status ≡ ThreadFault)

-- or the outlets couldn't be opened
abbrev pub IsOfForward : Status → Type 0
IsOfForward status = IsWant status ⊎ (status ≡ ListenFault)

-- it is no refusal of the system, but want of memory
abbrev pub is_want : OutletFault → Bool
is_want (faults.Ids cause) = false
is_want (faults.Poll cause) = false
is_want (faults.Address address carrier cause) = false
is_want faults.OutOfMemory = true

-- a refusal has made the count of faults rise, and want of memory has left it as it was
abbrev pub CountsFault : ℕ → ℕ → OutletFault → Type 0
CountsFault before after fault = MatchBool (is_want fault) (after ≡ before) (Rose before after)

-- the names that resolvers answer themselves, and then these, are passed
abbrev pub ArePassedFor : List (List Label) → List (List Label) → Type 0
ArePassedFor more passed =
    (own : List (List Label)) × AreNamesOf (map (λ wire. wire.now) OWN_NAMES) own
    × (passed ≡ own ++ more)
