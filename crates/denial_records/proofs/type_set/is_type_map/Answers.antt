use Rattle.std.proofs.Common.{subst, sym, refl, ◌+◌}
use Rattle.std.proofs.lemmas.Bool.{false≢true}
use Rattle.denial_records.proofs.TypeSetLemmas.{HasLeft, left_less, no_forms, forms_none, map_from_forms, forms_from_map, empty_from, some_from}
use Rattle.denial_records.proofs.type_set.is_type_map.Goals as goal

pub loop-rest-preserved : goal.loop-rest-preserved
loop-rest-preserved c =
    subst (λ n. HasLeft c.args.octets.now (n + 1) c.in-Some.after.now) (sym c.from-least.ensures)
    (left_less c.args.octets.now c.loop-rest.least c.loop-rest.rest.now c.in-Some.block.window c.in-Some.block.bitmap.now c.in-Some.after.now c.loop-rest.invariant c.in-Some.ensures)

pub returns-in-None : goal.returns-in-None
returns-in-None c = (
  λ is. absurd (false≢true is),
  λ map. absurd (no_forms c.loop-rest.least c.loop-rest.rest.now (some_from c.loop-rest.rest.now c.loop-rest-test.ensures) c.in-None.ensures (c.loop-rest.invariant.back (forms_from_map c.args.octets.now map.0 map.1))),
)

pub returns : goal.returns
returns c = (
  λ _. map_from_forms c.args.octets.now (c.loop-rest.invariant.into (forms_none c.loop-rest.least c.loop-rest.rest.now (empty_from c.loop-rest.rest.now c.loop-rest-test.ensures))),
  λ _. refl,
)
