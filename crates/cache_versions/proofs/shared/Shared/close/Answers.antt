use Rattle.std.proofs.Common.{◌≡◌, ◌+◌, ◌++◌, ◌∷◌, [], List, All, length, append_assoc, ap, ◌∙◌, subst, arith}
use Rattle.std.proofs.lemmas.List.{flat_map_more, length_push}
use Rattle.std.proofs.lemmas.List.Elements.{All-push}
use Rattle.std.specs.List.{flat_map}
use Rattle.std.specs.Vec.Iter.{into_iter_items}
use mathlib.Core.List.{IsPrefix}
use Rattle.cache_versions.specs.declared.seat.Seat.{Seat}
use Rattle.cache_versions.specs.Hands.{AreAllBelow, both_in_hand, in_hand}
use Rattle.cache_versions.specs.Kin.{journal_of}
use Rattle.cache_versions.specs.Seats.{places_by, seen_by}
use Rattle.cache_versions.proofs.Rows.{yielded_all}
use Rattle.cache_versions.proofs.shared.Shared.close.Goals as goal

pub loop-seat-preserved : goal.loop-seat-preserved
loop-seat-preserved g c =
    let at = c.loop-seat in
    let seat = c.in-Some.seat in
    let steps : into_iter_items at.seat-iterator ≡ seat ∷ into_iter_items c.next.new.self = c.in-Some.ensures.steps.0 in
    let P : Seat g.row.S.Denot g.row.S-Batch.Denot g.row.S-Fault.Denot g.S.State → Type 0 = λ s. IsPrefix (seen_by s) (journal_of c.last-held.result.recorded) in (
      append_assoc at.yielded (seat ∷ []) _ ∙ rw (← steps) at.invariant.0,
      (let was = at.invariant.1 in let gone = c.in-Some.ensures.steps.1 in let short = ap length steps in omega arith),
      All-push P at.yielded seat at.invariant.2 c.end_seat.ensures.begins,
      c.end_seat.ensures.all
          ∙ ap (λ h. both_in_hand h (in_hand 1 (places_by seat))) at.invariant.3
          ∙ ap (λ ps. in_hand (length at.yielded + 1) ps) (flat_map_more places_by [] at.yielded seat)
          ∙ ap (λ n. in_hand n (flat_map places_by (at.yielded ++ seat ∷ []))) (omega (arith, length_push at.yielded seat)),
      c.end_seat.ensures.dealer ∙ at.invariant.4,
    )

pub returns-clause-seen : goal.returns-clause-seen
returns-clause-seen g c =
    let at = c.loop-seat in
    let all = yielded_all _ _ _ _ at.invariant.0 at.invariant.1 c.in-None.ensures.steps.0 ∙ c.into_iter-seat-iterator.ensures.into_iter_gives.0 in
    subst (λ (ss : List (Seat g.row.S.Denot g.row.S-Batch.Denot g.row.S-Fault.Denot g.S.State)). All (λ s. IsPrefix (seen_by s) (journal_of c.last-held.result.recorded)) ss) all at.invariant.2

pub returns-clause-places : goal.returns-clause-places
returns-clause-places g c =
    let at = c.loop-seat in
    let all = yielded_all _ _ _ _ at.invariant.0 at.invariant.1 c.in-None.ensures.steps.0 ∙ c.into_iter-seat-iterator.ensures.into_iter_gives.0 in
    subst (λ ps. AreAllBelow (length (journal_of c.last-held.result.recorded)) ps) (ap (λ d. d.places) at.invariant.3 ∙ ap (flat_map places_by) all) c.ask_dealt.ensures
