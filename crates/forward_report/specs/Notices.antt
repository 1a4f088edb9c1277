-- What is noticed, by what the workers have counted and what was told before.
use Rattle.std.specs.Prelude.{ℕ, ◌-◌, ◌^◌, ◌==◌, ◌&&◌, ◌||◌, not, if◌then◌else◌, Bool, true, false, Option, Some, None, List, [], ◌∷◌, ◌++◌, get_or, map, min, nat_le, nat_lt, replicate, sum_by}
use Rattle.counters.specs.Counts.{count_of}
use Rattle.counters.specs.declared.counter.Counter.{Counter}
use Rattle.counters.specs.declared.counter.Counter.TheVariants as counters
use Rattle.forward_report.specs.Calls.{failures_in, place_of}
use Rattle.forward_report.specs.declared.call.Call.{Call}
use Rattle.forward_report.specs.declared.call.TheConstants.{CALLS}
use Rattle.forward_report.specs.declared.call.TheConstants.Call as call
use Rattle.forward_report.specs.declared.heard.Heard.{Heard}
use Rattle.forward_report.specs.declared.heard.TheConstants.{SILENCE}
use Rattle.forward_report.specs.declared.notice.Notice.{Notice}
use Rattle.forward_report.specs.declared.notice.What.TheVariants.{Failed, Silent, Back}
use Rattle.forward_report.specs.declared.told.Told.{Told}
use Rattle.forward_report.specs.declared.told.TheConstants.{MINUTE}
use Rattle.forward_report.specs.declared.worker_report.WorkerReport.{WorkerReport}

-- ---- all workers together

-- a sum that stays where it is at 2^64 - 1
abbrev pub capped : ℕ → ℕ
capped number = min number (2 ^ 64 - 1)

abbrev pub failures_of : List WorkerReport → Call → ℕ
failures_of workers call = capped (sum_by (λ report. failures_in report.faults call) workers)

abbrev pub counted_of : List WorkerReport → Counter → ℕ
counted_of workers counter = capped (sum_by (λ report. count_of report.counts counter) workers)

-- clients that got an answer of the upstream
abbrev pub answers_of : List WorkerReport → ℕ
answers_of workers =
    capped (sum_by (counted_of workers)
    (counters.RelayedNoError ∷ counters.RelayedServerFailure ∷ counters.RelayedNameError
    ∷ counters.RelayedRefused ∷ counters.RelayedOther ∷ []))

-- ---- one call: it is told of where it has failed more often, and a minute after its last line

abbrev pub is_minute_past : ℕ → Option ℕ → Bool
is_minute_past now None = true
is_minute_past now (Some at) = nat_le MINUTE (now - at)

abbrev pub is_due : ℕ → ℕ → Told → Bool
is_due now failures told = nat_lt told.failures failures && is_minute_past now told.at

abbrev pub call_notice : ℕ → Call → ℕ → Told → Option Notice
call_notice now call failures told =
    if is_due now failures told
    then Some (record { what = Failed call; count = failures - told.failures })
    else None

abbrev pub told_after : ℕ → ℕ → Told → Told
told_after now failures told =
    if is_due now failures told then record { at = Some now; failures = failures } else told

-- ---- the upstream: it is silent where clients had to be told so since its last answer, which is 5 seconds old

abbrev pub falls_silent : ℕ → ℕ → Heard → Bool
falls_silent now late heard =
    not heard.is_silent && nat_lt heard.late late && nat_le SILENCE (now - heard.at)

abbrev pub upstream_notice : ℕ → ℕ → ℕ → Heard → Option Notice
upstream_notice now answers late heard =
    if answers == heard.answers
    then (if falls_silent now late heard then Some (record { what = Silent; count = late - heard.late }) else None)
    else (if heard.is_silent then Some (record { what = Back; count = late - heard.late }) else None)

abbrev pub heard_after : ℕ → ℕ → ℕ → Heard → Heard
heard_after now answers late heard =
    if answers == heard.answers
    then record heard { is_silent = heard.is_silent || falls_silent now late heard }
    else record { at = now; answers = answers; late = late; is_silent = false }

-- ---- all of it

-- what was told of each call, at its place, and what was heard of the upstream
pub record Memory : Type 0 where
  pub told : List Told
  pub heard : Heard

abbrev pub never_told : Told
never_told = record { at = None; failures = 0 }

unfoldable pub nothing_told : ℕ → Memory
nothing_told now = record {
  told = replicate CALLS never_told;
  heard = record { at = now; answers = 0; late = 0; is_silent = false };
}

abbrev pub told_of : Memory → Call → Told
told_of memory call = get_or memory.told (place_of call) never_told

abbrev pub notice_on : ℕ → List WorkerReport → Memory → Call → Option Notice
notice_on now workers memory call = call_notice now call (failures_of workers call) (told_of memory call)

abbrev pub told_then : ℕ → List WorkerReport → Memory → Call → Told
told_then now workers memory call = told_after now (failures_of workers call) (told_of memory call)

-- the lines that are due: those on calls, and that on the upstream
unfoldable pub notices_at : ℕ → List WorkerReport → Memory → List (Option Notice)
notices_at now workers memory =
    map (notice_on now workers memory) call.ALL
    ++ upstream_notice now (answers_of workers) (counted_of workers counters.Late) memory.heard ∷ []

-- and what was told then
unfoldable pub looked : ℕ → List WorkerReport → Memory → Memory
looked now workers memory = record {
  told = map (told_then now workers memory) call.ALL;
  heard = heard_after now (answers_of workers) (counted_of workers counters.Late) memory.heard;
}
