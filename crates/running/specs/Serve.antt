-- What a run says by its status of the links that it served over.
use Rattle.std.specs.Prelude.{◌≡◌, ℕ, ◌⊎◌, List, Option}
use Rattle.outside_core.specs.Returned.{Returned}
use Rattle.serving.specs.declared.service.Service.{Service}
use Rattle.serving.specs.Back.{NoneServed, OneFailed, OneUnbound, ServedInWant}
use Rattle.running.specs.declared.status.Status.{Status}
use Rattle.running.specs.declared.status.Status.TheVariants.{Good, HarborFault, OutOfMemory}

-- what the words of `serve` ask for
abbrev pub service_of : ℕ → ℕ → ℕ → ℕ → Service
service_of listen upstream workers datagrams = record {
  listen = listen;
  upstream = upstream;
  workers = workers;
  datagrams = datagrams;
}

-- all links served, whether or not one failed; or there was no memory
abbrev pub IsOfServe : Status → Type 0
IsOfServe status = (status ≡ Good) ⊎ (status ≡ HarborFault) ⊎ (status ≡ OutOfMemory)

-- all links served and one failed, or one couldn't be bound and none served
abbrev pub ServedInPart : Service → Option ℕ → List Returned → Type 0
ServedInPart service moment links = OneFailed service moment links ⊎ OneUnbound service links

-- memory was wanted while all links served, or before any did
abbrev pub EndedInWant : Service → Option ℕ → List Returned → Type 0
EndedInWant service moment links = ServedInWant service moment links ⊎ NoneServed service links
