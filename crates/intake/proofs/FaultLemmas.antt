-- The faults of octets that are no message, and of headers.
use Rattle.std.proofs.Common.{◌≡◌, ◌⊎◌, inl, inr, ℕ, Bool, true, false, if◌then◌else◌, List, Option, Some, None, Result, Ok, Err, IfOk, IfErr, IsErrAnd, refl, sym, subst}
use Rattle.dnswire.specs.Message.{IsMessage, IsFaultOf}
use Rattle.dnswire.specs.declared.message.Message.{Message}
use Rattle.dnswire.specs.declared.wire_fault.WireFault.{WireFault}
use Rattle.dnswire.specs.declared.wire_fault.WireFault.TheVariants as wire
use Rattle.intake.specs.WireFault.{fault_of}
use Rattle.intake.specs.Batch.{header_fault, IsRefused, IsTaken, IsFault, GivesAsRead}
use Rattle.intake.specs.declared.taken.Taken.{Taken}
use Rattle.intake.specs.declared.intake_fault.IntakeFault.{IntakeFault}
use Rattle.intake.specs.declared.intake_fault.IntakeFault.TheVariants.{Malformed, NotResponse, Truncated, Rcode, NotAuthentic, Nothing, OutOfMemory}

pub wire_refused : (octets : List ℕ) (now : ℕ) (fault : WireFault) → (fault ≡ wire.OutOfMemory) ⊎ IsFaultOf octets fault → (fault_of fault ≡ OutOfMemory) ⊎ IsFault octets now (fault_of fault)
wire_refused octets now wire.OutOfMemory h = inl refl
wire_refused octets now wire.Short h = elim h [ inl e ↦ absurd (cc) | inr is ↦ inr is ]
wire_refused octets now wire.BadCount h = elim h [ inl e ↦ absurd (cc) | inr is ↦ inr is ]
wire_refused octets now (wire.BadName at) h = elim h [ inl e ↦ absurd (cc) | inr is ↦ inr is ]
wire_refused octets now (wire.BadData at) h = elim h [ inl e ↦ absurd (cc) | inr is ↦ inr is ]

abbrev pub IsOfHeader : IntakeFault → Type 0
IsOfHeader (Malformed fault) = ⊥
IsOfHeader NotResponse = Unit {0}
IsOfHeader Truncated = Unit {0}
IsOfHeader (Rcode rcode) = Unit {0}
IsOfHeader NotAuthentic = Unit {0}
IsOfHeader (Nothing skipped) = ⊥
IsOfHeader OutOfMemory = ⊥

some_same : (f g : IntakeFault) → (let a : Option IntakeFault = Some f in let b : Option IntakeFault = Some g in a ≡ b) → f ≡ g
some_same f g h = cc

of_header : (a b c d : Bool) (rcode : ℕ) (fault : IntakeFault)
    → (if a then Some NotResponse else if b then Some Truncated else if c then Some (Rcode rcode) else if d then Some NotAuthentic else None) ≡ Some fault → IsOfHeader fault
of_header true b c d rcode fault h = subst IsOfHeader (some_same NotResponse fault h) tt
of_header false true c d rcode fault h = subst IsOfHeader (some_same Truncated fault h) tt
of_header false false true d rcode fault h = subst IsOfHeader (some_same (Rcode rcode) fault h) tt
of_header false false false true rcode fault h = subst IsOfHeader (some_same NotAuthentic fault h) tt
of_header false false false false rcode fault h = absurd (cc)

refused_by : (octets : List ℕ) (now : ℕ) (fault : IntakeFault) → IsOfHeader fault → IsRefused octets fault → IsFault octets now fault
refused_by octets now (Malformed fault) header is = absurd header
refused_by octets now NotResponse header is = is
refused_by octets now Truncated header is = is
refused_by octets now (Rcode rcode) header is = is
refused_by octets now NotAuthentic header is = is
refused_by octets now (Nothing skipped) header is = absurd header
refused_by octets now OutOfMemory header is = absurd header

pub header_refused : (octets : List ℕ) (now : ℕ) (message : Message) (fault : IntakeFault) → IsMessage octets message → header_fault message ≡ Some fault → IsFault octets now fault
header_refused octets now message fault reads faulty = refused_by octets now fault (of_header _ _ _ _ message.rcode fault faulty) record { message = message; reads = reads; faulty = faulty }

-- ---- a result that a fault of the reader gives

pub no_taken : (result : Result Taken IntakeFault) (fault : WireFault) (P : Taken → Type 0) → IsErrAnd result (λ e. e ≡ fault_of fault) → IfOk result P
no_taken (Ok taken) fault P given = absurd given
no_taken (Err e) fault P given = tt

pub wire_told : (octets : List ℕ) (now : ℕ) (result : Result Taken IntakeFault) (fault : WireFault) → IsErrAnd result (λ e. e ≡ fault_of fault) → (fault ≡ wire.OutOfMemory) ⊎ IsFaultOf octets fault
    → IfErr result (λ e. (e ≡ OutOfMemory) ⊎ IsFault octets now e)
wire_told octets now (Ok taken) fault given is = absurd given
wire_told octets now (Err e) fault given is = subst (λ f. (f ≡ OutOfMemory) ⊎ IsFault octets now f) (sym given) (wire_refused octets now fault is)

-- ---- what octets give, by their message

pub taken_read : (octets : List ℕ) (now : ℕ) (message : Message) (result : Result Taken IntakeFault) → IsMessage octets message → IfOk result (λ taken. GivesAsRead message now (Ok taken)) → IfOk result (IsTaken octets now)
taken_read octets now message (Ok taken) reads gives = gives octets reads
taken_read octets now message (Err fault) reads gives = tt

pub refused_read : (octets : List ℕ) (now : ℕ) (message : Message) (result : Result Taken IntakeFault) → IsMessage octets message → IfErr result (λ fault. (fault ≡ OutOfMemory) ⊎ GivesAsRead message now (Err fault))
    → IfErr result (λ fault. (fault ≡ OutOfMemory) ⊎ IsFault octets now fault)
refused_read octets now message (Ok taken) reads gives = tt
refused_read octets now message (Err fault) reads gives = elim gives [
  | inl memory ↦ inl memory
  | inr given ↦ inr (given octets reads)
]
