-- What an operator can rely on.
use Rattle.std.specs.Prelude.{◌≡◌, ℕ, ◌+◌, ◌≤◌, ◌==◌, Bool, true, false, Option, Some, None, List, [], ◌∷◌, ◌++◌, filter, get_or}
use Rattle.std.specs.List.{count_by, flat_map}
use Rattle.counters.specs.Counts.{index_of}
use Rattle.counters.specs.declared.counter.Counter.{Counter}
use Rattle.counters.specs.declared.counter.TheConstants.Counter as counter
use Rattle.forward_report.specs.Calls.{place_of}
use Rattle.forward_report.specs.Notices.{Memory, failures_of, looked, nothing_told, notices_at}
use Rattle.forward_report.specs.Status.{case_of, family_of, is_of, name_of}
use Rattle.forward_report.specs.declared.call.Call.{Call}
use Rattle.forward_report.specs.declared.call.TheConstants.{CALLS}
use Rattle.forward_report.specs.declared.family.TheConstants.Family as family
use Rattle.forward_report.specs.declared.notice.Notice.{Notice}
use Rattle.forward_report.specs.declared.notice.What.{What}
use Rattle.forward_report.specs.declared.notice.What.TheVariants.{Silent, Back}
use Rattle.forward_report.specs.declared.told.TheConstants.{MINUTE}
use Rattle.forward_report.specs.declared.worker_report.WorkerReport.{WorkerReport}

-- ---- the status

-- the counters of one worker, name by name, as they are shown
unfoldable pub shown : List Counter
shown = flat_map (λ family. filter (is_of family) counter.ALL) family.ALL

-- each is shown once
abbrev pub EachCounterIsShownOnce : Type 0
EachCounterIsShownOnce = (counter : Counter) → count_by (λ other. index_of other == index_of counter) shown ≡ 1

-- no two in one way
abbrev pub NoTwoCountersAreAlike : Type 0
NoTwoCountersAreAlike =
    (one other : Counter) → name_of (family_of one) ≡ name_of (family_of other) → case_of one ≡ case_of other → one ≡ other

-- ---- the lines, over a run of looks

pub record Look : Type 0 where
  pub now : ℕ
  pub workers : List WorkerReport

-- a line on a call: when it came, what it counts, and how often the call had failed by then
pub record Line : Type 0 where
  pub at : ℕ
  pub count : ℕ
  pub failures : ℕ

abbrev pub line_of : Look → Call → Option Notice → List Line
line_of look call None = []
line_of look call (Some notice) =
    record { at = look.now; count = notice.count; failures = failures_of look.workers call } ∷ []

abbrev pub lines_on : Call → Memory → List Look → List Line
lines_on call memory [] = []
lines_on call memory (look ∷ looks) =
    line_of look call (get_or (notices_at look.now look.workers memory) (place_of call) None)
    ++ lines_on call (looked look.now look.workers memory) looks

-- between one and the next lies a minute
abbrev pub AreMinutesApart : List Line → Type 0
AreMinutesApart [] = Unit {0}
AreMinutesApart (one ∷ []) = Unit {0}
AreMinutesApart (one ∷ next ∷ rest) = (one.at + MINUTE ≤ next.at) × AreMinutesApart (next ∷ rest)

abbrev pub LinesAreMinutesApart : Type 0
LinesAreMinutesApart =
    (start : ℕ) (looks : List Look) (call : Call) → AreMinutesApart (lines_on call (nothing_told start) looks)

-- each counts what has failed since the one before
abbrev pub AreCountedFrom : ℕ → List Line → Type 0
AreCountedFrom before [] = Unit {0}
AreCountedFrom before (line ∷ rest) = (before + line.count ≡ line.failures) × AreCountedFrom line.failures rest

abbrev pub LinesCountWhatIsNew : Type 0
LinesCountWhatIsNew =
    (start : ℕ) (looks : List Look) (call : Call) → AreCountedFrom 0 (lines_on call (nothing_told start) looks)

-- what was told of the upstream
abbrev pub what_of : Option Notice → List What
what_of None = []
what_of (Some notice) = notice.what ∷ []

abbrev pub told_of_upstream : Memory → List Look → List What
told_of_upstream memory [] = []
told_of_upstream memory (look ∷ looks) =
    what_of (get_or (notices_at look.now look.workers memory) CALLS None)
    ++ told_of_upstream (looked look.now look.workers memory) looks

-- that it is silent, that it is back, and so on in turn
abbrev pub TakeTurns : Bool → List What → Type 0
TakeTurns silent [] = Unit {0}
TakeTurns false (what ∷ rest) = (what ≡ Silent) × TakeTurns true rest
TakeTurns true (what ∷ rest) = (what ≡ Back) × TakeTurns false rest

abbrev pub SilenceAndReturnTakeTurns : Type 0
SilenceAndReturnTakeTurns = (start : ℕ) (looks : List Look) → TakeTurns false (told_of_upstream (nothing_told start) looks)
