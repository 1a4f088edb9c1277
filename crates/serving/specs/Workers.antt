-- No public clause cites this module. What the workers did, each over its seat and its link.
use Rattle.std.specs.Prelude.{◌≡◌, ℕ, ◌<◌, ◌≤◌, ◌⊎◌, Bool, true, false, List, length, slice_index_or, Option, Result, Ok, Err}
use Rattle.std.specs.List.{All, count_by}
use Rattle.denial_records.specs.declared.batch.Batch.{Batch}
use Rattle.cache_meaning.specs.Held.{Held}
use Rattle.cache_versions.specs.declared.state.State.{Ghosts}
use Rattle.cache_versions.specs.declared.seat.Seat.{Seat}
use Rattle.resolver.specs.Caches.{IsSeatOf}
use Rattle.resolver.specs.declared.shared_cache.SharedCache.{SharedCache}
use Rattle.outside_core.specs.Returned.{Returned}
use Rattle.serving.specs.Worker.{HasFaults, HasServed}
use Rattle.serving.specs.declared.serve_fault.ServeFault.{ServeFault}
use Rattle.serving.specs.declared.serve_fault.ServeFault.TheVariants.{Link, OutOfMemory}
use Rattle.serving.specs.declared.service.Service.{Service}
use Rattle.serving.specs.Back.{AllServed, NoneServed, ServedInWant}
use Rattle.serving.specs.Sight.{Sight, AreBack, faults_of}

-- ---- how work ends

abbrev pub End : Type 0
End = Result (Unit {0}) ServeFault

-- want of memory is worse than a link that failed, and that is worse than none
abbrev pub worse : End → End → End
worse (Err OutOfMemory) other = Err OutOfMemory
worse (Err Link) (Err OutOfMemory) = Err OutOfMemory
worse (Err Link) (Err Link) = Err Link
worse (Err Link) (Ok done) = Err Link
worse (Ok done) other = other

abbrev pub has_failed : End → Bool
has_failed (Err Link) = true
has_failed (Err OutOfMemory) = false
has_failed (Ok done) = false

abbrev pub has_wanted : End → Bool
has_wanted (Err Link) = false
has_wanted (Err OutOfMemory) = true
has_wanted (Ok done) = false

-- it is the worst where so many links failed, and so many workers wanted memory
abbrev pub IsWorstOf : End → ℕ → ℕ → Type 0
IsWorstOf (Ok done) failed wanted = (failed ≡ 0) × (wanted ≡ 0)
IsWorstOf (Err Link) failed wanted = (1 ≤ failed) × (wanted ≡ 0)
IsWorstOf (Err OutOfMemory) failed wanted = 1 ≤ wanted

abbrev pub IsWorst : End → List End → Type 0
IsWorst ended each = IsWorstOf ended (count_by has_failed each) (count_by has_wanted each)

-- ---- one worker

module _ {g : Ghosts Held Batch (Unit {0})} where
  -- a worker served over its seat and its link, and ended so
  pub record HasWorked (datagrams : ℕ) (moment : Option ℕ) (before after : Seat Held Batch (Unit {0}) g) (link link' : Sight) (ended : End) : Type 0 where
    pub port : link'.port ≡ link.port
    pub upstream : link'.upstream ≡ link.upstream
    pub faults : HasFaults link.faults link'.faults ended
    pub served : HasServed datagrams moment before after link.events link'.events ended

  -- and leaves this seat of the cache
  pub record HasWorkedOver (cache : SharedCache) (datagrams : ℕ) (moment : Option ℕ) (before after : Seat Held Batch (Unit {0}) g) (link link' : Sight) (ended : End) : Type 0 where
    pub object : IsSeatOf cache after
    pub worked : HasWorked datagrams moment before after link link' ended

  -- ---- all workers

  -- each worker served over the seat and the link at its place
  abbrev pub EachWorked :
      ℕ → Option ℕ → List (Seat Held Batch (Unit {0}) g) → List (Seat Held Batch (Unit {0}) g) → List Sight → List Sight → List End → Type 0
  EachWorked datagrams moment before after links links' ends =
      (place : ℕ) (d d' : Seat Held Batch (Unit {0}) g) (e e' : Sight) (f : End) → place < length links
      → HasWorked datagrams moment (slice_index_or before place d) (slice_index_or after place d')
      (slice_index_or links place e) (slice_index_or links' place e') (slice_index_or ends place f)

  -- and they leave these seats of the cache and these links, and this is how the worst of their work ended
  pub record HaveEnded (cache : SharedCache) (datagrams : ℕ) (moment : Option ℕ) (before after : List (Seat Held Batch (Unit {0}) g)) (links links' : List Sight) (ended : End) : Type 0 where
    pub seats : length after ≡ length before
    pub all : length links' ≡ length links
    pub object : All (IsSeatOf cache) after
    pub ends : List End
    pub many : length ends ≡ length links
    pub each : EachWorked datagrams moment before after links links' ends
    pub worst : IsWorst ended ends

-- the links have served, whatever they come back as
abbrev pub HaveServed : Service → Option ℕ → List Sight → End → Type 0
HaveServed service moment links (Ok done) =
    (faults_of links ≡ 0)
    × ((came : List Returned) → AreBack links came → AllServed service moment came)
HaveServed service moment links (Err Link) =
    (1 ≤ faults_of links)
    × ((came : List Returned) → AreBack links came → AllServed service moment came)
HaveServed service moment links (Err OutOfMemory) =
    (came : List Returned) → AreBack links came
    → ServedInWant service moment came ⊎ NoneServed service came
