use Rattle.std.proofs.Common.{◌≡◌, ◌++◌, ◌∙◌, ℕ, List, [], ◌∷◌, length, map, refl, sym, ap, arith}
use Rattle.std.specs.Vec.Iter.{into_iter_items}
use Rattle.std.proofs.lemmas.List.{append-nil}
use Rattle.running.proofs.forward.workers_of.Goals as goal

-- where nothing is left, all is done
whole : {X : Type 0} (done rest given all : List X) → length rest ≡ 0 → done ++ rest ≡ given → given ≡ all → done ≡ all
whole done [] given all none is same = sym (append-nil done) ∙ is ∙ same
whole done (x ∷ rest) given all none is same = absurd (omega arith)

pub loop-seat-init : goal.loop-seat-init
loop-seat-init g c =
    let none = c.in_ok-workers.ensures.items in
    let seats = c.into_iter-seat-iterator.ensures.into_iter_gives in record {
      rest = refl;
      len = seats.1 ∙ c.args.seats.ok.0 ∙ sym (ap length seats.0);
      seats = ap (map (λ worker. worker.seat)) none;
      outlets = ap (λ workers. map (λ worker. worker.outlet) workers ++ into_iter_items c.into_iter-opened.result) none;
      same = ap length c.into_iter-opened.ensures.rest ∙ c.requires.all ∙ sym (ap length seats.0);
    }

pub returns-clause-outlets : goal.returns-clause-outlets
returns-clause-outlets g c =
    let at = c.loop-seat.invariant in
    whole _ _ _ _ (at.same ∙ sym at.len ∙ c.in-None.ensures.steps.0) at.outlets c.into_iter-opened.ensures.rest
