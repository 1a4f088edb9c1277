-- The calls looked at, one after the other.
use Rattle.std.proofs.Common.{◌≡◌, ℕ, ◌+◌, ◌<◌, ◌≤◌, suc, zero, List, [], ◌∷◌, ◌++◌, length, take, drop, get_or, set, replicate, Option, None, refl, sym, ap, ◌∙◌, arith}
use Rattle.std.specs.Prelude.{map}
use Rattle.std.proofs.lemmas.List.{append_assoc, drop_all, drop_more, get_or_at, length-map, length-take-le, map_more, set_at}
use Rattle.counters.specs.declared.counter.Counter.TheVariants as counters
use Rattle.forward_report.specs.Calls.{place_of}
use Rattle.forward_report.specs.declared.call.Call.TheVariants as calls
use Rattle.forward_report.specs.Notices.{Memory, answers_of, call_notice, counted_of, failures_of, heard_after, looked, never_told, notice_on, notices_at, told_after, told_of, told_then, upstream_notice}
use Rattle.forward_report.specs.declared.call.Call.{Call}
use Rattle.forward_report.specs.declared.call.TheConstants.{CALLS}
use Rattle.forward_report.specs.declared.call.TheConstants.Call as call
use Rattle.forward_report.specs.declared.heard.Heard.{Heard}
use Rattle.forward_report.specs.declared.notice.Notice.{Notice}
use Rattle.forward_report.specs.declared.notices.TheConstants.{NOTICES}
use Rattle.forward_report.specs.declared.told.Told.{Told}
use Rattle.forward_report.specs.declared.worker_report.WorkerReport.{WorkerReport}

-- ---- each call stands at its place

abbrev AreFrom : ℕ → List Call → Type 0
AreFrom i [] = Unit {0}
AreFrom i (first ∷ rest) = (place_of first ≡ i) × AreFrom (suc i) rest

place_from : (i j : ℕ) (calls : List Call) (d : Call) → AreFrom i calls → j < length calls → place_of (get_or calls j d) ≡ i + j
place_from i j [] d are within = absurd (omega arith)
place_from i zero (first ∷ rest) d are within = are.0 ∙ omega arith
place_from i (suc j) (first ∷ rest) d are within = place_from (suc i) j rest d are.1 (omega arith) ∙ omega arith

pub place_at : (i : ℕ) (d : Call) → i < CALLS → place_of (get_or call.ALL i d) ≡ i
place_at i d within = place_from 0 i call.ALL d (refl, (refl, (refl, (refl, (refl, (refl, (refl, (refl, (refl, (refl, (refl, (refl, (refl, tt))))))))))))) within ∙ omega arith

-- ---- a list whose front is made anew

module _ {X Y : Type 0} (f : X → Y) (xs : List X) (old new : List Y) (i : ℕ) (d : X) (e : Y) (within : i < length xs) (room : i < length old) (so_far : new ≡ map f (take i xs) ++ drop i old) where
  front_length : length (map f (take i xs)) ≡ i
  front_length = length-map (take i xs) f ∙ length-take-le i xs (omega arith)

  split : new ≡ map f (take i xs) ++ get_or old i e ∷ drop (i + 1) old
  split = so_far ∙ ap (λ back. map f (take i xs) ++ back) (drop_more old i e room)

  pub made_next : set new i (f (get_or xs i d)) ≡ map f (take (i + 1) xs) ++ drop (i + 1) old
  made_next =
      ap (λ all. set all i (f (get_or xs i d))) split
      ∙ set_at (map f (take i xs)) (get_or old i e) (drop (i + 1) old) (f (get_or xs i d)) i front_length
      ∙ sym (append_assoc (map f (take i xs)) (f (get_or xs i d) ∷ []) (drop (i + 1) old))
      ∙ ap (λ front. front ++ drop (i + 1) old) (sym (map_more f xs i d within))

  pub not_yet_made : get_or new i e ≡ get_or old i e
  not_yet_made = ap (λ all. get_or all i e) split ∙ get_or_at (map f (take i xs)) (get_or old i e) (drop (i + 1) old) e i front_length

-- ---- the calls before i have been looked at

pub record HasLookedAt (now : ℕ) (workers : List WorkerReport) (memory : Memory) (i : ℕ) (notices : List (Option Notice)) (told : List Told) (heard : Heard) : Type 0 where
  pub noticed : notices ≡ map (notice_on now workers memory) (take i call.ALL) ++ drop i (replicate NOTICES None)
  pub kept : told ≡ map (told_then now workers memory) (take i call.ALL) ++ drop i memory.told
  pub same : heard ≡ memory.heard

module _ (now : ℕ) (workers : List WorkerReport) (memory : Memory) (all : length memory.told ≡ CALLS) where
  pub none_looked_at : HasLookedAt now workers memory 0 (replicate NOTICES None) memory.told memory.heard
  none_looked_at = record { noticed = refl; kept = refl; same = refl }

  pub one_looked_at : (i place failures : ℕ) (notices : List (Option Notice)) (told : List Told) (heard : Heard) (notice : Option Notice) (after : Told)
      → i < CALLS → HasLookedAt now workers memory i notices told heard → place ≡ place_of (get_or call.ALL i calls.Wait) → failures ≡ failures_of workers (get_or call.ALL i calls.Wait)
      → notice ≡ call_notice now (get_or call.ALL i calls.Wait) failures (get_or told place never_told) → after ≡ told_after now failures (get_or told place never_told)
      → HasLookedAt now workers memory (i + 1) (set notices place notice) (set told place after) heard
  one_looked_at i place failures notices told heard notice after within has place_is failures_is notice_is after_is =
      let this = get_or call.ALL i calls.Wait in
      let here : place ≡ i = place_is ∙ place_at i calls.Wait within in
      let read : get_or told place never_told ≡ told_of memory this =
      ap (λ k. get_or told k never_told) here
      ∙ not_yet_made (told_then now workers memory) call.ALL memory.told told i calls.Wait never_told within (omega arith) has.kept
      ∙ ap (λ k. get_or memory.told k never_told) (sym (place_at i calls.Wait within)) in
      let noticed : notice ≡ notice_on now workers memory this = notice_is ∙ (λ j. call_notice now this (failures_is j) (read j)) in
      let kept : after ≡ told_then now workers memory this = after_is ∙ (λ j. told_after now (failures_is j) (read j)) in
      record {
        noticed = (λ j. set notices (here j) (noticed j)) ∙ made_next (notice_on now workers memory) call.ALL (replicate NOTICES None) notices i calls.Wait None within (omega arith) has.noticed;
        kept = (λ j. set told (here j) (kept j)) ∙ made_next (told_then now workers memory) call.ALL memory.told told i calls.Wait never_told within (omega arith) has.kept;
        same = has.same;
      }

  pub all_noticed : (i answers late : ℕ) (notices : List (Option Notice)) (told : List Told) (heard : Heard) (last : Option Notice)
      → CALLS ≤ i → i ≤ CALLS → HasLookedAt now workers memory i notices told heard → answers ≡ answers_of workers → late ≡ counted_of workers counters.Late
      → last ≡ upstream_notice now answers late heard → set notices CALLS last ≡ notices_at now workers memory
  unfolding notices_at
  all_noticed i answers late notices told heard last over within has answers_is late_is last_is =
      let here : i ≡ CALLS = omega arith in
      (λ j. set ((has.noticed ∙ ap (λ k. map (notice_on now workers memory) (take k call.ALL) ++ drop k (replicate NOTICES None)) here) j) CALLS last)
      ∙ (λ j. set (map (notice_on now workers memory) call.ALL ++ None ∷ []) CALLS ((last_is ∙ (λ k. upstream_notice now (answers_is k) (late_is k) (has.same k))) j))

  every_kept : (i : ℕ) (notices : List (Option Notice)) (told : List Told) (heard : Heard)
      → CALLS ≤ i → i ≤ CALLS → HasLookedAt now workers memory i notices told heard → told ≡ map (told_then now workers memory) call.ALL
  every_kept i notices told heard over within has =
      let here : i ≡ CALLS = omega arith in
      has.kept ∙ ap (λ k. map (told_then now workers memory) (take k call.ALL) ++ drop k memory.told) here
      ∙ ap (λ back. map (told_then now workers memory) call.ALL ++ back) (drop_all CALLS memory.told (omega arith))

  pub all_kept : (i answers late : ℕ) (notices : List (Option Notice)) (told : List Told) (heard after : Heard)
      → CALLS ≤ i → i ≤ CALLS → HasLookedAt now workers memory i notices told heard → answers ≡ answers_of workers → late ≡ counted_of workers counters.Late
      → after ≡ heard_after now answers late heard → record { told = told; heard = after } ≡ looked now workers memory
  unfolding looked
  all_kept i answers late notices told heard after over within has answers_is late_is after_is =
      λ j. record {
        told = every_kept i notices told heard over within has j;
        heard = (after_is ∙ (λ k. heard_after now (answers_is k) (late_is k) (has.same k))) j;
      }

  pub all_told : (i : ℕ) (notices : List (Option Notice)) (told : List Told) (heard : Heard)
      → CALLS ≤ i → i ≤ CALLS → HasLookedAt now workers memory i notices told heard → length told ≡ CALLS
  all_told i notices told heard over within has = ap length (every_kept i notices told heard over within has)
