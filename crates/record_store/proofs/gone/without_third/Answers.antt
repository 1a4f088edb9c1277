use Rattle.std.proofs.Common.{IfOk, subst}
use Rattle.record_store.specs.Holding.{AreWithout}
use Rattle.record_store.proofs.ZoneLemmas.{chain_there, chain_its, chain_once, chain_all}
use Rattle.record_store.proofs.gone.without_third.Goals as goal

pub without_chain-requires-clause-there : goal.without_chain-requires-clause-there
without_chain-requires-clause-there c = chain_there c.args.goings c.args.zone.now c.requires.whole c.requires.zone c.in-Some.third.now c.in-Some.ensures.held

pub without_chain-requires-clause-all : goal.without_chain-requires-clause-all
without_chain-requires-clause-all c = chain_all c.args.goings c.args.zone.now c.requires.whole c.requires.zone c.in-Some.third.now c.in-Some.ensures.held

pub without_chain-requires-clause-its : goal.without_chain-requires-clause-its
without_chain-requires-clause-its c = chain_its c.args.goings c.args.zone.now c.requires.whole c.requires.zone c.in-Some.third.now c.in-Some.ensures.held

pub without_chain-requires-clause-once : goal.without_chain-requires-clause-once
without_chain-requires-clause-once c = chain_once c.args.goings c.args.zone.now c.requires.whole c.requires.zone c.in-Some.third.now c.in-Some.ensures.held

pub returns-in-Some : goal.returns-in-Some
returns-in-Some c = subst (λ o. IfOk c.without_chain.result (λ left. AreWithout o c.args.goings left)) c.in-Some.ensures.chain c.without_chain.ensures
