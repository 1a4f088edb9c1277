use Rattle.std.proofs.Common.{rules}
use Rattle.left_right.specs.Sides.{view}
use Rattle.cache_versions.specs.Kin.{EachKin}
use Rattle.cache_versions.proofs.Kins.{looks, kin_refl, met_kin}
use Rattle.cache_versions.proofs.seat.steps.look.Goals as goal

pub enter_as-requires : goal.enter_as-requires
enter_as-requires g c x = looks g.S.State.after g.S.State.BATCHES _ _ x x (kin_refl x) (λ h. h)

pub beyond-found-requires-clause-kin : goal.beyond-found-requires-clause-kin
beyond-found-requires-clause-kin g c _ _ =
    let held = c.args.held.now.recorded in
    let shown = c.get.result.now in
    let all : EachKin (view c.args.place.place) shown = search rules in
    met_kin (view c.args.place.place) held shown c.requires all
