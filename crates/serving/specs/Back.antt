-- What comes back to a harbor from a forwarder that has ended.
use Rattle.std.specs.Prelude.{◌≡◌, ℕ, ◌+◌, ◌<◌, ◌≤◌, ◌⊎◌, List, ◌++◌, length, slice_index_or, true, false, Option, Some, IfSome}
use Rattle.std.specs.List.{All, sum_by}
use Rattle.denial_records.specs.declared.batch.Batch.{Batch}
use Rattle.outside_core.specs.Event.{received_in}
use Rattle.outside_core.specs.Fault.{Rose}
use Rattle.outside_core.specs.Returned.{Returned, unused}
use Rattle.serving.specs.Links.{LinksServe}
use Rattle.serving.specs.declared.service.Service.{Service}
use Rattle.serving.specs.declared.serve_error.ServeError.{ServeError}
use Rattle.serving.specs.declared.serve_error.ServeError.TheVariants.{Harbor, OutOfMemory}

-- where the harbor tells what came back, it told it before, and these came back since
abbrev pub CameBack : Option (List Returned) → Option (List Returned) → (List Returned → Type 0) → Type 0
CameBack told told' Are = IfSome told' (λ all.
    (before links : List Returned) × (told ≡ Some before) × (all ≡ before ++ links) × Are links)

-- ---- the links

pub record IsAt (port upstream : ℕ) (link : Returned) : Type 0 where
  pub port_is : link.port ≡ port
  pub upstream_is : link.upstream ≡ upstream

-- the links of the ports from the first one on, in their order
abbrev pub AreAt : Service → List Returned → Type 0
AreAt service links =
    (place : ℕ) (d : Returned) → place < length links
    → IsAt (service.listen + place) service.upstream (slice_index_or links place d)

abbrev pub Unfailed : Returned → Type 0
Unfailed link = link.faults ≡ 0

-- it received as many datagrams as it was to, unless it failed
abbrev pub IsWhole : Service → Returned → Type 0
IsWhole service link = link.faults ≡ 0 → length (received_in link.events) ≡ service.datagrams

-- it received and sent nothing, and didn't fail
abbrev pub IsUnused : Returned → Type 0
IsUnused link = link ≡ unused link.port link.upstream

-- ---- how they come back

-- All links served. What went over each is what its rounds say, where each datagram has a moment of its own, which is the one moment
-- that the clock tells, if it tells one. All go by one list of batches, and each reply that records prove is sound. Of a link that
-- failed it is a prefix of that, a strict one where the link received all its datagrams
pub record AllServed (service : Service) (moment : Option ℕ) (links : List Returned) : Type 0 where
  pub all : length links ≡ service.workers
  pub at : AreAt service links
  pub whole : All (IsWhole service) links
  pub serve : (journal : List Batch) × LinksServe false service.datagrams moment journal links

-- all links served, and none failed
pub record AllServedWhole (service : Service) (moment : Option ℕ) (links : List Returned) : Type 0 where
  pub served : AllServed service moment links
  pub unfailed : All Unfailed links

-- all links served, and one failed
pub record OneFailed (service : Service) (moment : Option ℕ) (links : List Returned) : Type 0 where
  pub served : AllServed service moment links
  pub failed : 1 ≤ sum_by (λ link. link.faults) links

-- the link after these couldn't be bound, and none of them served
pub record OneUnbound (service : Service) (links : List Returned) : Type 0 where
  pub some : length links < service.workers
  pub at : AreAt service links
  pub idle : All IsUnused links

-- All links served, and memory was wanted: what went over each is what its rounds say, all by one list of batches, or the link failed,
-- and it is a prefix of that. Where its own worker wanted memory, the last datagram that was waited for may be left out
pub record ServedInWant (service : Service) (moment : Option ℕ) (links : List Returned) : Type 0 where
  pub all : length links ≡ service.workers
  pub at : AreAt service links
  pub serve : (journal : List Batch) × LinksServe true service.datagrams moment journal links

-- memory was wanted before any served
pub record NoneServed (service : Service) (links : List Returned) : Type 0 where
  pub all : length links ≡ service.workers
  pub at : AreAt service links
  pub idle : All IsUnused links

-- ---- why the forwarder ended early

-- a link failed or couldn't be bound, and the harbor's count of faults rose; or memory was wanted: before the first link was bound,
-- or else all came back
abbrev pub EndsEarly : {H : Type 0} → Service → Option ℕ → H → H → Option (List Returned) → Option (List Returned) → ℕ → ℕ → ServeError → Type 0
EndsEarly service moment harbor harbor' told told' faults faults' Harbor =
    Rose faults faults'
    × CameBack told told' (λ links. OneFailed service moment links ⊎ OneUnbound service links)
EndsEarly service moment harbor harbor' told told' faults faults' OutOfMemory =
    (harbor' ≡ harbor)
    ⊎ CameBack told told' (λ links. ServedInWant service moment links ⊎ NoneServed service links)
