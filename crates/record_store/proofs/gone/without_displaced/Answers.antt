use Rattle.std.proofs.Common.{subst}
use Rattle.std.proofs.lemmas.Result.{IfOk-weaker}
use Rattle.record_store.specs.Holding.{AreCleared, IsAt, AreElsewhere}
use Rattle.record_store.proofs.GoneLemmas.{met_some, met_none, front_there, back_there, displaced_once, cleared_are, none_gone}
use Rattle.record_store.proofs.gone.without_displaced.Goals as goal

pub without_places-requires-clause-there : goal.without_places-requires-clause-there
without_places-requires-clause-there c =
    front_there c.args.new.now c.args.zone.now c.requires.whole c.in-Some.chain.now c.in-Some.met.from c.in-Some.met.to c.in-Some.met.last (met_some (λ met. met.0.now) (λ met. met.1.from) (λ met. met.1.to) (λ met. met.1.last) c.args.new.now c.args.zone.now _ _ c.in-Some.is c.requires.met) c.args.goings c.requires.same

pub without_places-requires-clause-once : goal.without_places-requires-clause-once
without_places-requires-clause-once c =
    displaced_once c.args.new.now c.args.zone.now c.requires.whole c.in-Some.chain.now c.in-Some.met.from c.in-Some.met.to c.in-Some.met.last (met_some (λ met. met.0.now) (λ met. met.1.from) (λ met. met.1.to) (λ met. met.1.last) c.args.new.now c.args.zone.now _ _ c.in-Some.is c.requires.met) c.args.goings c.requires.same

pub without_places-requires-in-Some-clause-there :
    goal.without_places-requires-in-Some-clause-there
without_places-requires-in-Some-clause-there c item here =
    back_there c.args.new.now c.args.zone.now c.requires.whole c.in-Some.chain.now c.in-Some.met.from c.in-Some.met.to c.in-Some.met.last (met_some (λ met. met.0.now) (λ met. met.1.from) (λ met. met.1.to) (λ met. met.1.last) c.args.new.now c.args.zone.now _ _ c.in-Some.is c.requires.met) c.args.goings c.requires.same
    c.in_ok-goings-in-Some.goings c.in_ok-goings-in-Some.ensures item (subst (λ n. IsAt c.in-Some.chain.now.records c.in-Some.met.last n item) c.len.ensures here)

pub without_places-requires-in-Some-clause-once : goal.without_places-requires-in-Some-clause-once
without_places-requires-in-Some-clause-once c =
    displaced_once c.args.new.now c.args.zone.now c.requires.whole c.in-Some.chain.now c.in-Some.met.from c.in-Some.met.to c.in-Some.met.last (met_some (λ met. met.0.now) (λ met. met.1.from) (λ met. met.1.to) (λ met. met.1.last) c.args.new.now c.args.zone.now _ _ c.in-Some.is c.requires.met) c.args.goings c.requires.same

pub returns-in_ok-goings-in-Some : goal.returns-in_ok-goings-in-Some
returns-in_ok-goings-in-Some c =
    let first = c.in_ok-goings-in-Some.goings in
    IfOk-weaker c.without_places-in-Some.result _ (λ left. AreCleared c.args.new.now c.args.goings left)
    (λ left elsewhere. cleared_are c.args.new.now c.args.zone.now c.requires.whole c.in-Some.chain.now c.in-Some.met.from c.in-Some.met.to c.in-Some.met.last (met_some (λ met. met.0.now) (λ met. met.1.from) (λ met. met.1.to) (λ met. met.1.last) c.args.new.now c.args.zone.now _ _ c.in-Some.is c.requires.met) c.args.goings c.requires.same
    first c.in_ok-goings-in-Some.ensures left
    (subst (λ n. AreElsewhere c.in-Some.chain.now.records c.in-Some.met.last n first left) c.len.ensures elsewhere)) c.without_places-in-Some.ensures

pub returns-in-None : goal.returns-in-None
returns-in-None c = none_gone c.args.new.now c.args.zone.now c.args.goings c.requires.same (met_none (λ met. met.0.now) (λ met. met.1.from) (λ met. met.1.to) (λ met. met.1.last) c.args.new.now c.args.zone.now _ c.in-None.is c.requires.met)
