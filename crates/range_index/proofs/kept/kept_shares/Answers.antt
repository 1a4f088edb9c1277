use Rattle.std.proofs.Common.{map, ap, sym, ◌∙◌}
use Rattle.std.specs.Arc.{arc_value}
use Rattle.range_index.proofs.KeptLemmas.{HasKept-none, HasKept-next, HasKept-stays, HasKept-goes, HasKept-arcs, HasKept-all, answered, mapped_more}
use Rattle.range_index.proofs.kept.kept_shares.Goals as goal

pub loop-share-init : goal.loop-share-init
loop-share-init g c = rw (ap (map arc_value) c.new-made.ensures.items) (HasKept-none _ _ _ _ c.args.list.now _ c.requires.arcs (c.into_iter-share-iterator.ensures.into_iter_gives ∙ c.iter-share-items.ensures))

pub loop-share-preserved-in_ok-push : goal.loop-share-preserved-in_ok-push
loop-share-preserved-in_ok-push g c =
    HasKept-stays _ _ _ _ c.args.list.now (map arc_value c.loop-share.made.items) _ c.deref.result.now _ (HasKept-next _ _ _ _ c.args.list.now (map arc_value c.loop-share.made.items) _ c.deref.result.now _ _ c.loop-share.invariant c.in-Some.ensures.steps c.deref.ensures)
    (answered g.F.Fn c.args.keep c.deref.result _ _ c.keep.ensures c.if-keep.true)
    (mapped_more arc_value c.loop-share.made.items _ _ c.deref.result.now c.in_ok-push.ensures.items (c.in_ok-try_clone.ensures ∙ sym c.deref.ensures))

pub loop-share-preserved : goal.loop-share-preserved
loop-share-preserved g c =
    HasKept-goes _ _ _ _ c.args.list.now (map arc_value c.loop-share.made.items) c.deref.result.now _ (HasKept-next _ _ _ _ c.args.list.now (map arc_value c.loop-share.made.items) _ c.deref.result.now _ _ c.loop-share.invariant c.in-Some.ensures.steps c.deref.ensures)
    (answered g.F.Fn c.args.keep c.deref.result _ _ c.keep.ensures c.if-keep.false)

pub returns-clause-arcs : goal.returns-clause-arcs
returns-clause-arcs g c = HasKept-arcs _ _ _ _ c.args.list.now (map arc_value c.loop-share.made.items) _ c.loop-share.invariant c.in-None.ensures.steps.0

pub returns-clause-exact : goal.returns-clause-exact
returns-clause-exact g c = HasKept-all _ _ _ _ c.args.list.now (map arc_value c.loop-share.made.items) _ c.loop-share.invariant c.in-None.ensures.steps.0
