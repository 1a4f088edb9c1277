use Rattle.std.proofs.lemmas.Result.{IfOk-weaker}
use Rattle.cache_meaning.specs.Held.{chain_of}
use Rattle.zone_chains.specs.Zone.{chains_in, third_for}
use Rattle.record_store.specs.Holding.{AreLeft}
use Rattle.record_store.proofs.GoneLemmas.{displaced_same, left_are}
use Rattle.record_store.proofs.gone.without_gone.Goals as goal

pub without_displaced-requires-clause-same : goal.without_displaced-requires-clause-same
without_displaced-requires-clause-same c =
    displaced_same c.args.new.now c.args.zone.now c.args.goings c.in_ok-goings.goings c.requires.denial c.requires.zone c.in_ok-goings.ensures

pub returns : goal.returns
returns c =
    let third = third_for (chains_in c.args.zone.now) (chain_of c.args.new.now) in
    IfOk-weaker c.without_displaced.result _ (λ left. AreLeft c.args.new.now third c.args.goings left)
    (λ left clear. left_are c.args.new.now c.args.zone.now c.args.goings c.in_ok-goings.goings c.requires.denial c.requires.zone c.in_ok-goings.ensures left clear) c.without_displaced.ensures
