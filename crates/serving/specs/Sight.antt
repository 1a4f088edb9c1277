-- What shows of links, whether they tell what went over them or not.
use Rattle.std.specs.Prelude.{◌≡◌, ℕ, ◌+◌, ◌<◌, ◌≤◌, ◌⊎◌, List, length, slice_index_or, Option, Some}
use Rattle.std.specs.List.{AllZip, sum_by}
use Rattle.outside_core.specs.Event.{TellsNone}
use Rattle.outside_core.specs.Fault.{Rose}
use Rattle.outside_core.specs.Returned.{Returned, returned_of}
use Rattle.outside_core.specs.declared.event.Event.{Event}

pub record Sight : Type 0 where
  pub port : ℕ
  pub upstream : ℕ
  pub events : Option (List Event)
  pub faults : ℕ

-- what shows of it once it has come back, where it tells its events
abbrev pub returned : Sight → Option Returned
returned link = returned_of link.port link.upstream link.events link.faults

-- bound at these ports, without a fault; where it tells its events, there are none
pub record IsNew (port upstream : ℕ) (link : Sight) : Type 0 where
  pub port_is : link.port ≡ port
  pub upstream_is : link.upstream ≡ upstream
  pub events : TellsNone link.events
  pub unfailed : link.faults ≡ 0

-- new links of the ports from this one on, in their order
abbrev pub AreNew : ℕ → ℕ → List Sight → Type 0
AreNew listen upstream links =
    (place : ℕ) (d : Sight) → place < length links → IsNew (listen + place) upstream (slice_index_or links place d)

-- how often calls of the links have failed
abbrev pub faults_of : List Sight → ℕ
faults_of links = sum_by (λ link. link.faults) links

-- the links came back as these, in this order
abbrev pub AreBack : List Sight → List Returned → Type 0
AreBack links came = AllZip (λ link back. returned link ≡ Some back) links came

-- a harbor's count of faults rose where links came back on which calls have failed, and else stayed
abbrev pub IsCounted : ℕ → ℕ → ℕ → Type 0
IsCounted failed before after = ((failed ≡ 0) × (after ≡ before)) ⊎ ((1 ≤ failed) × Rose before after)
