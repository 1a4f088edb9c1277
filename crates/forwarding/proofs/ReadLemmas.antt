-- What can't be read.
use Rattle.std.proofs.Common.{◌≡◌, ℕ, ◌⊎◌, inl, inr, List, None}
use Rattle.std.specs.Prelude.{Result, Ok, Err}
use Rattle.dnswire.specs.Message.{IsMessage}
use Rattle.dnswire.specs.declared.message.Message.{Message}
use Rattle.dnswire.specs.declared.wire_fault.WireFault.{WireFault}
use Rattle.dnswire.specs.declared.wire_fault.WireFault.TheVariants.{OutOfMemory}
use Rattle.forwarding.specs.Done.{IsAnswer}

abbrev as_read : Message → Result Message WireFault
as_read message = Ok message

abbrev as_fault : WireFault → Result Message WireFault
as_fault fault = Err fault

-- unless for want of memory, it is no answer
pub unread_is_none : (octets : List ℕ) (fault : WireFault) → (fault ≡ OutOfMemory → ⊥) → ((message : Message) → IsMessage octets message → (as_fault fault ≡ as_read message) ⊎ (as_fault fault ≡ as_fault OutOfMemory)) → IsAnswer octets None
unread_is_none octets fault some every message is answer = by (every message is)
  where
    by : (as_fault fault ≡ as_read message) ⊎ (as_fault fault ≡ as_fault OutOfMemory) → ⊥
    by (inl same) = absurd (cc same)
    by (inr same) = let is : fault ≡ OutOfMemory = cc same in some is
