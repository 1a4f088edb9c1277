use Rattle.std.proofs.Common.{sym, arith, ◌∙◌}
use Rattle.std.proofs.lemmas.Bool.{false≢true}
use Rattle.zone_index.proofs.LiveLemmas.{has_none, has_last, positive, places_are}
use Rattle.zone_index.proofs.live_names.places_of.Goals as goal

pub returns-then-upto-eq0-clause-none : goal.returns-then-upto-eq0-clause-none
returns-then-upto-eq0-clause-none c = has_none c.args.names.now c.requires c.args.name.now c.place_behind-upto.result c.place_behind-upto.ensures.point (λ lt. omega (arith, lt, c.if-upto-eq0.true))

pub returns-then-not-same-clause-none : goal.returns-then-not-same-clause-none
returns-then-not-same-clause-none c =
    let h = has_last c.args.names.now c.requires c.args.name.now c.place_behind-upto.result c.place_behind-upto.ensures.point c.place_behind-upto.ensures.bound (positive _ c.if-upto-eq0.false) c.index-names-upto.result c.index-names-upto.is in
    λ has. false≢true (sym c.if-not-same.true ∙ c.eq-same.ensures.same.1 (h.0 has))

pub returns-clause-some : goal.returns-clause-some
returns-clause-some c =
    places_are c.args.names.now c.requires c.args.name.now c.place_behind-upto.result c.next_place.result c.place_behind-upto.ensures.point c.place_behind-upto.ensures.bound (positive _ c.if-upto-eq0.false) c.index-names-upto.result c.index-names-upto.is (c.eq-same.ensures.same.0 c.if-not-same.false) c.next_place.ensures.next c.next_place.ensures.first
