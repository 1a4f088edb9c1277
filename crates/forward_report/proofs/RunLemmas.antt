-- The lines over a run of looks.
use Rattle.std.proofs.Common.{◌≡◌, ℕ, ◌-◌, Bool, true, false, nat_lt, nat_le, if◌then◌else◌, Option, Some, None, List, [], ◌∷◌, ◌++◌, get_or, refl, sym, subst, arith}
use Rattle.std.specs.Prelude.{◌==◌, ◌&&◌, ◌||◌, not}
use Rattle.counters.specs.declared.counter.Counter.TheVariants as counters
use Rattle.std.proofs.lemmas.Bool.Decides.{nat_tests}
use Rattle.forward_report.specs.Calls.{place_of}
use Rattle.forward_report.specs.Laws.{AreCountedFrom, AreMinutesApart, Line, Look, TakeTurns, line_of, lines_on, told_of_upstream, what_of}
use Rattle.forward_report.specs.Notices.{Memory, answers_of, counted_of, failures_of, falls_silent, is_due, is_minute_past, looked, never_told, nothing_told, notice_on, notices_at, told_of, told_then, upstream_notice}
use Rattle.forward_report.specs.declared.call.Call.{Call}
use Rattle.forward_report.specs.declared.call.Call.TheVariants as calls
use Rattle.forward_report.specs.declared.call.TheConstants.{CALLS}
use Rattle.forward_report.specs.declared.notice.Notice.{Notice}
use Rattle.forward_report.specs.declared.notice.What.{What}
use Rattle.forward_report.specs.declared.notice.What.TheVariants.{Failed, Silent, Back}
use Rattle.forward_report.specs.declared.told.Told.{Told}
use Rattle.forward_report.specs.declared.told.TheConstants.{MINUTE}
use Rattle.forward_report.specs.declared.worker_report.WorkerReport.{WorkerReport}

-- ---- one call's part of a look

noticed_on : (now : ℕ) (workers : List WorkerReport) (memory : Memory) (call : Call) → get_or (notices_at now workers memory) (place_of call) None ≡ notice_on now workers memory call
unfolding notices_at
noticed_on now workers memory calls.Wait = refl
noticed_on now workers memory calls.ReceiveQuery = refl
noticed_on now workers memory calls.ReceiveAnswer = refl
noticed_on now workers memory calls.Reply = refl
noticed_on now workers memory calls.Socket = refl
noticed_on now workers memory calls.Bind = refl
noticed_on now workers memory calls.Connect = refl
noticed_on now workers memory calls.Watch = refl
noticed_on now workers memory calls.Send = refl
noticed_on now workers memory calls.Accept = refl
noticed_on now workers memory calls.ConnectStream = refl
noticed_on now workers memory calls.ReadStream = refl
noticed_on now workers memory calls.WriteStream = refl

told_then_of : (now : ℕ) (workers : List WorkerReport) (memory : Memory) (call : Call) → told_of (looked now workers memory) call ≡ told_then now workers memory call
unfolding looked
told_then_of now workers memory calls.Wait = refl
told_then_of now workers memory calls.ReceiveQuery = refl
told_then_of now workers memory calls.ReceiveAnswer = refl
told_then_of now workers memory calls.Reply = refl
told_then_of now workers memory calls.Socket = refl
told_then_of now workers memory calls.Bind = refl
told_then_of now workers memory calls.Connect = refl
told_then_of now workers memory calls.Watch = refl
told_then_of now workers memory calls.Send = refl
told_then_of now workers memory calls.Accept = refl
told_then_of now workers memory calls.ConnectStream = refl
told_then_of now workers memory calls.ReadStream = refl
told_then_of now workers memory calls.WriteStream = refl

nothing_told_of : (start : ℕ) (call : Call) → told_of (nothing_told start) call ≡ never_told
unfolding nothing_told
nothing_told_of start calls.Wait = refl
nothing_told_of start calls.ReceiveQuery = refl
nothing_told_of start calls.ReceiveAnswer = refl
nothing_told_of start calls.Reply = refl
nothing_told_of start calls.Socket = refl
nothing_told_of start calls.Bind = refl
nothing_told_of start calls.Connect = refl
nothing_told_of start calls.Watch = refl
nothing_told_of start calls.Send = refl
nothing_told_of start calls.Accept = refl
nothing_told_of start calls.ConnectStream = refl
nothing_told_of start calls.ReadStream = refl
nothing_told_of start calls.WriteStream = refl

-- ---- lines on one call

right : (p q : Bool) → p && q ≡ true → q ≡ true
right true q both = both
right false q both = cc

left : (p q : Bool) → p && q ≡ true → p ≡ true
left true q both = refl
left false q both = cc

-- the lines come a minute after the last one at least, and are minutes apart
AreLater : Option ℕ → List Line → Type 0
AreLater before [] = Unit {0}
AreLater before (line ∷ rest) = (is_minute_past line.at before ≡ true) × AreMinutesApart (line ∷ rest)

first_apart : (line : Line) (rest : List Line) → AreLater (Some line.at) rest → AreMinutesApart (line ∷ rest)
unfolding AreLater
first_apart line [] later = tt
first_apart line (next ∷ rest) later =
    let past : nat_le MINUTE (next.at - line.at) ≡ true = later.0 in
    (grind (arith, nat_tests, past), later.1)

apart_step : (due : Bool) (look : Look) (call : Call) (told new : Told) (rest : List Line)
    → is_due look.now (failures_of look.workers call) told ≡ due → new ≡ (if due then record { at = Some look.now; failures = failures_of look.workers call } else told)
    → AreLater new.at rest
    → AreLater told.at (line_of look call (if due then Some (record { what = Failed call; count = failures_of look.workers call - told.failures }) else None) ++ rest)
unfolding AreLater
apart_step true look call told new rest is new_is later =
    let line : Line = record { at = look.now; count = failures_of look.workers call - told.failures; failures = failures_of look.workers call } in (
      right (nat_lt told.failures (failures_of look.workers call)) (is_minute_past look.now told.at) is,
      first_apart line rest (subst (λ (t : Told). AreLater t.at rest) new_is later),
    )
apart_step false look call told new rest is new_is later = subst (λ (t : Told). AreLater t.at rest) new_is later

are_later : (looks : List Look) (call : Call) (memory : Memory) → AreLater (told_of memory call).at (lines_on call memory looks)
unfolding AreLater
are_later [] call memory = tt
are_later (look ∷ looks) call memory =
    let rest = lines_on call (looked look.now look.workers memory) looks in
    let step = apart_step (is_due look.now (failures_of look.workers call) (told_of memory call)) look call (told_of memory call) _ rest refl
    (told_then_of look.now look.workers memory call) (are_later looks call (looked look.now look.workers memory)) in
    subst (λ (notice : Option Notice). AreLater (told_of memory call).at (line_of look call notice ++ rest)) (sym (noticed_on look.now look.workers memory call)) step

later_apart : (before : Option ℕ) (lines : List Line) → AreLater before lines → AreMinutesApart lines
unfolding AreLater
later_apart before [] later = tt
later_apart before (line ∷ rest) later = later.1

pub minutes_apart : (start : ℕ) (looks : List Look) (call : Call) → AreMinutesApart (lines_on call (nothing_told start) looks)
minutes_apart start looks call = later_apart _ _ (are_later looks call (nothing_told start))

counted_step : (due : Bool) (look : Look) (call : Call) (told new : Told) (rest : List Line)
    → is_due look.now (failures_of look.workers call) told ≡ due → new ≡ (if due then record { at = Some look.now; failures = failures_of look.workers call } else told)
    → AreCountedFrom new.failures rest
    → AreCountedFrom told.failures (line_of look call (if due then Some (record { what = Failed call; count = failures_of look.workers call - told.failures }) else None) ++ rest)
counted_step true look call told new rest is new_is counted =
    let more = left (nat_lt told.failures (failures_of look.workers call)) (is_minute_past look.now told.at) is in
    (grind (arith, nat_tests, more), subst (λ (t : Told). AreCountedFrom t.failures rest) new_is counted)
counted_step false look call told new rest is new_is counted = subst (λ (t : Told). AreCountedFrom t.failures rest) new_is counted

counted_from : (looks : List Look) (call : Call) (memory : Memory) → AreCountedFrom (told_of memory call).failures (lines_on call memory looks)
counted_from [] call memory = tt
counted_from (look ∷ looks) call memory =
    let rest = lines_on call (looked look.now look.workers memory) looks in
    let step = counted_step (is_due look.now (failures_of look.workers call) (told_of memory call)) look call (told_of memory call) _ rest refl
    (told_then_of look.now look.workers memory call) (counted_from looks call (looked look.now look.workers memory)) in
    subst (λ (notice : Option Notice). AreCountedFrom (told_of memory call).failures (line_of look call notice ++ rest)) (sym (noticed_on look.now look.workers memory call)) step

pub what_is_new : (start : ℕ) (looks : List Look) (call : Call) → AreCountedFrom 0 (lines_on call (nothing_told start) looks)
what_is_new start looks call =
    subst (λ (t : Told). AreCountedFrom t.failures (lines_on call (nothing_told start) looks)) (nothing_told_of start call) (counted_from looks call (nothing_told start))

-- ---- lines on the upstream

turn : (silent falls same waits old : Bool) (late_count back_count : ℕ) (rest : List What)
    → falls ≡ (not silent && waits && old)
    → TakeTurns (if same then silent || falls else false) rest
    → TakeTurns silent (what_of (if same then (if falls then Some (record { what = Silent; count = late_count }) else None) else (if silent then Some (record { what = Back; count = back_count }) else None)) ++ rest)
turn true true same waits old l b rest is turns = cc
turn false true true waits old l b rest is turns = (refl, turns)
turn true false true waits old l b rest is turns = turns
turn false false true waits old l b rest is turns = turns
turn true false false waits old l b rest is turns = (refl, turns)
turn false falls false waits old l b rest is turns = turns

noticed_of_upstream : (now : ℕ) (workers : List WorkerReport) (memory : Memory)
    → get_or (notices_at now workers memory) CALLS None ≡ upstream_notice now (answers_of workers) (counted_of workers counters.Late) memory.heard
unfolding notices_at
noticed_of_upstream now workers memory = refl

heard_then : (now : ℕ) (workers : List WorkerReport) (memory : Memory)
    → (looked now workers memory).heard.is_silent ≡ (if answers_of workers == memory.heard.answers then memory.heard.is_silent || falls_silent now (counted_of workers counters.Late) memory.heard else false)
unfolding looked
heard_then now workers memory = by (answers_of workers == memory.heard.answers)
  where
    by : (same : Bool) → (if same then record memory.heard { is_silent = memory.heard.is_silent || falls_silent now (counted_of workers counters.Late) memory.heard } else record { at = now; answers = answers_of workers; late = counted_of workers counters.Late; is_silent = false }).is_silent
        ≡ (if same then memory.heard.is_silent || falls_silent now (counted_of workers counters.Late) memory.heard else false)
    by true = refl
    by false = refl

pub turns : (looks : List Look) (memory : Memory) → TakeTurns memory.heard.is_silent (told_of_upstream memory looks)
turns [] memory = by memory.heard.is_silent
  where
    by : (silent : Bool) → TakeTurns silent []
    by true = tt
    by false = tt
turns (look ∷ looks) memory =
    let rest = told_of_upstream (looked look.now look.workers memory) looks in
    let later : TakeTurns (if answers_of look.workers == memory.heard.answers then memory.heard.is_silent || falls_silent look.now (counted_of look.workers counters.Late) memory.heard else false) rest =
    subst (λ (silent : Bool). TakeTurns silent rest) (heard_then look.now look.workers memory) (turns looks (looked look.now look.workers memory)) in
    subst (λ (notice : Option Notice). TakeTurns memory.heard.is_silent (what_of notice ++ rest)) (sym (noticed_of_upstream look.now look.workers memory))
    (turn memory.heard.is_silent (falls_silent look.now (counted_of look.workers counters.Late) memory.heard) (answers_of look.workers == memory.heard.answers) _ _ _ _ rest refl later)

pub take_turns : (start : ℕ) (looks : List Look) → TakeTurns false (told_of_upstream (nothing_told start) looks)
unfolding nothing_told
take_turns start looks = turns looks (nothing_told start)
