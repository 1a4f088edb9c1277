-- What is read of a source.
use Rattle.std.specs.Prelude.{◌≡◌, ℕ, List, [], ◌++◌, length, Option, IfSome, Result, Ok, Err}
use Rattle.outside_core.specs.Fault.{Rose}
use Rattle.outside_core.specs.Told.{append_told, prepend_told}
use Rattle.stream_front.specs.declared.read_fault.ReadFault.{ReadFault}
use Rattle.stream_front.specs.declared.read_fault.ReadFault.TheVariants as fault

-- the source's next octets, so many, stand behind those that were there; that there are none is its end
pub record HasTaken (before after : List ℕ) (taken taken' left left' : Option (List ℕ)) (count : ℕ) : Type 0 where
  pub octets : List ℕ
  pub many : length octets ≡ count
  pub last : after ≡ before ++ octets
  pub taken_are : taken' ≡ append_told taken octets
  pub left_are : left ≡ prepend_told octets left'
  pub end : count ≡ 0 → IfSome left' (λ later. later ≡ [])

-- the source's count of faults rises where it failed, and else stays
abbrev pub HasReadCause : ℕ → ℕ → Result ℕ ReadFault → Type 0
HasReadCause faults faults' (Ok count) = faults' ≡ faults
HasReadCause faults faults' (Err fault.Source) = Rose faults faults'
HasReadCause faults faults' (Err fault.OutOfMemory) = faults' ≡ faults
