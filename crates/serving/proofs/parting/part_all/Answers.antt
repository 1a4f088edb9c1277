use Rattle.std.proofs.Common.{rules, ◌≡◌, ◌∷◌, [], ◌++◌, length, refl, sym, ap, ◌∙◌, arith, append_assoc}
use Rattle.std.specs.Vec.Iter.{into_iter_items}
use Rattle.serving.proofs.BackLemmas.{counted_more, counted_none, none_back, one_back}
use Rattle.serving.proofs.parting.part_all.Goals as goal

pub loop-link-preserved : goal.loop-link-preserved
loop-link-preserved g c =
    let at = c.loop-link in
    let link = c.in-Some.link in
    let steps : into_iter_items at.link-iterator ≡ link ∷ into_iter_items c.next.new.self = c.in-Some.ensures.steps.0 in
    record {
      rest = append_assoc at.yielded (link ∷ []) _ ∙ ap (λ l. at.yielded ++ l) (sym steps) ∙ at.invariant.rest;
      len = (let was = at.invariant.len in let gone = c.in-Some.ensures.steps.1 in let short = ap length steps in omega arith);
      came = one_back _ _ _ at.yielded link at.invariant.came c.part.ensures.came_back;
      counted = counted_more at.yielded link _ _ _ at.invariant.counted c.part.ensures.unfailing c.part.ensures.failed;
    }

pub loop-link-init : goal.loop-link-init
loop-link-init g c = record {
  rest = refl;
  len = search rules;
  came = none_back _;
  counted = counted_none _;
}
