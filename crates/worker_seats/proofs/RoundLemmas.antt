-- Ranges whose outputs are written one after the other.
use Rattle.std.proofs.Common.{◌≡◌, ℕ, ◌+◌, ◌*◌, ◌<◌, ◌≤◌, List, [], ◌∷◌, ◌++◌, length, take, drop, get_or, Option, refl, sym, ◌∙◌, ap, subst, arith, append_assoc, length-append}
use Rattle.std.specs.Prelude.{Result, Ok, IfOk}
use Rattle.std.proofs.lemmas.List.{take-append-drop}
use Rattle.std.proofs.lemmas.List.Concat.{flat_map-append}
use Rattle.facts.proofs.Lists.{some_of}
use Rattle.outside_core.specs.Told.{append_told}
use Rattle.outside_core.proofs.ToldLemmas.{append_told-append_told}
use Rattle.replay_meaning.specs.Frame.{Input}
use Rattle.replay_meaning.specs.OutFrame.{output_spelling, outputs_spelling}
use Rattle.worker_seats.specs.Cuts.{cuts_in}
use Rattle.worker_seats.specs.Gather.{IsPartWritten}
use Rattle.worker_seats.specs.Merge.{AreWritten, AreWrittenInPart, CanBeMerged}
use Rattle.worker_seats.specs.Ranges.{AreOfRange, WritesInPart, WritesRanges, WritesRest}
use Rattle.worker_seats.specs.declared.cut.TheConstants.{RANGE}
use Rattle.worker_seats.proofs.GatherLemmas.{part_within, told_none}
use Rattle.worker_seats.proofs.MergeLemmas.{all_done}

module _ (parts : List (List ℕ)) (inputs : List Input) where
  module _ (first next : ℕ) (old now now' : Option (List ℕ)) (so_far : WritesRanges parts inputs first next old now) where
    module _ (buffer : List ℕ) (range : AreOfRange parts inputs next buffer) where
      pub range_told : now' ≡ append_told now buffer → WritesRanges parts inputs first (next + 1) old now'
      range_told is = λ octets merged before begins.
          is ∙ ap (λ o. append_told o buffer) (so_far octets merged before begins)
          ∙ append_told-append_told before (outputs_spelling (take (RANGE * next) merged.outputs)) buffer ∙ ap (append_told before) (sym (range octets merged))

      pub range_cut : IsPartWritten buffer now now' → WritesInPart parts inputs first old now'
      range_cut part = λ octets merged before begins.
          let gone = outputs_spelling (take (RANGE * next) merged.outputs) in
          let more = outputs_spelling (drop (RANGE * (next + 1)) merged.outputs) in
          let whole : octets ≡ gone ++ (buffer ++ more) =
          merged.written ∙ ap outputs_spelling (sym (take-append-drop (RANGE * (next + 1)) merged.outputs))
          ∙ flat_map-append output_spelling (take (RANGE * (next + 1)) merged.outputs) (drop (RANGE * (next + 1)) merged.outputs)
          ∙ ap (λ l. l ++ more) (range octets merged) ∙ append_assoc gone buffer more in
          part_within octets gone buffer more before now now' whole (so_far octets merged before begins) part

    -- and then more
    pub ranges_more : (reached : ℕ) → WritesRanges parts inputs next reached now now' → WritesRanges parts inputs first reached old now'
    ranges_more reached more = λ octets merged before begins. more octets merged before (so_far octets merged before begins)

    pub ranges_rest : WritesRest parts inputs next now now' → WritesRest parts inputs first old now'
    ranges_rest more = λ octets merged before begins. more octets merged before (so_far octets merged before begins)

    pub ranges_cut : WritesInPart parts inputs next now now' → WritesInPart parts inputs first old now'
    ranges_cut more = λ octets merged before begins. more octets merged before (so_far octets merged before begins)

  -- the ranges are all that there is
  pub ranges_all : (first ranges : ℕ) (old now : Option (List ℕ)) → cuts_in (length inputs) + 1 ≤ ranges → WritesRanges parts inputs first ranges old now → WritesRest parts inputs first old now
  ranges_all first ranges old now all so_far = λ octets merged before begins.
      so_far octets merged before begins ∙ ap (append_told before) (all_done parts inputs octets merged (RANGE * ranges) (omega (arith, all)))

  pub rest_written : (old now : Option (List ℕ)) → CanBeMerged parts inputs → WritesRest parts inputs 0 old now → AreWritten parts inputs old now
  rest_written old now (octets, merged) rest = record { octets = octets; merged = merged; written = rest octets merged old (told_none old) }

  pub rest_in_part : (old now : Option (List ℕ)) → CanBeMerged parts inputs → WritesInPart parts inputs 0 old now → AreWrittenInPart parts inputs old now
  rest_in_part old now (octets, merged) part = record { octets = octets; merged = merged; part = part octets merged old (told_none old) }

-- ---- results

seam : {X : Type 0} (front : List X) (x : X) (back : List X) (d : X) → get_or (front ++ x ∷ back) (length front) d ≡ x
seam [] x back d = refl
seam (y ∷ front) x back d = seam front x back d

-- the next result is that of the next range
pub next_range : {T E J : Type 0} (parts : List (List ℕ)) (inputs : List Input) (items : T → List ℕ) (range : J → ℕ) (jobs : List J) (yielded back results : List (Result T E)) (result : Result T E) (buffer : T) (octets : List ℕ) (first next : ℕ)
    → ((place : ℕ) (d : J) → place < length jobs → range (get_or jobs place d) ≡ first + place)
    → ((place : ℕ) (d : Result T E) (e : J) → place < length jobs → IfOk (get_or results place d) (λ b. AreOfRange parts inputs (range (get_or jobs place e)) (items b)))
    → length results ≡ length jobs → yielded ++ result ∷ back ≡ results → result ≡ Ok buffer → next ≡ first + length yielded → octets ≡ items buffer → AreOfRange parts inputs next octets
next_range parts inputs items range jobs yielded back results result buffer octets first next ranges each all are is at same =
    let lt : length yielded < length jobs = omega (arith, all, ap length are, length-append yielded (result ∷ back)) in
    let e = some_of jobs (length yielded) lt in
    let here : get_or results (length yielded) result ≡ Ok buffer = ap (λ l. get_or l (length yielded) result) (sym are) ∙ seam yielded result back result ∙ is in
    subst (AreOfRange parts inputs next) (sym same) (subst (λ n. AreOfRange parts inputs n (items buffer)) (ranges (length yielded) e lt ∙ sym at)
    (subst (λ r. IfOk r (λ b. AreOfRange parts inputs (range (get_or jobs (length yielded) e)) (items b))) here (each (length yielded) result e lt)))
