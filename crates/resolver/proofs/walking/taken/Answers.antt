use Rattle.std.proofs.Common.{◌≡◌, sym, subst}
use Rattle.std.specs.Option.{option_map}
use Rattle.resolver.specs.Walk.{taken}
use Rattle.resolver.specs.Lent.{walk_by, step_by, within, Leads, TellsStep}
use Rattle.resolver.specs.declared.step.Step.{Step}
use Rattle.resolver.proofs.WalkLemmas.{ended_here}
use Rattle.resolver.proofs.walking.taken.Goals as goal

pub returns-in-Ends-clause-walk : goal.returns-in-Ends-clause-walk
returns-in-Ends-clause-walk c = λ links some.
    (ended_here c.args.rule c.args.store.now c.args.now c.args.qtype c.args.name.now links c.args.step c.in-Ends.end c.ended.result c.new.result.items c.copy.result c.in-Ends.is c.requires.ttl
    c.new.ensures c.copy.ensures c.ended.ensures.name c.ended.ensures.links c.ended.ensures.last c.ended.ensures.end c.ended.ensures.ttl).is

pub returns-in-Ends-clause-ttl : goal.returns-in-Ends-clause-ttl
returns-in-Ends-clause-ttl c =
    (ended_here c.args.rule c.args.store.now c.args.now c.args.qtype c.args.name.now 0 c.args.step c.in-Ends.end c.ended.result c.new.result.items c.copy.result c.in-Ends.is c.requires.ttl
    c.new.ensures c.copy.ensures c.ended.ensures.name c.ended.ensures.links c.ended.ensures.last c.ended.ensures.end c.ended.ensures.ttl).lives

pub behind-requires-clause-leads : goal.behind-requires-clause-leads
behind-requires-clause-leads c = subst (Leads c.args.name.now) c.in-Onto.is c.requires.leads

pub behind-requires-clause-ttl : goal.behind-requires-clause-ttl
behind-requires-clause-ttl c = subst (TellsStep c.args.now) c.in-Onto.is c.requires.ttl

pub returns-in-Onto-clause-walk : goal.returns-in-Onto-clause-walk
returns-in-Onto-clause-walk c = λ links some.
    subst (λ (step : Step). option_map walk_by c.behind.result ≡ taken (within links c.args.rule c.args.store.now c.args.now c.args.qtype) c.args.name.now (step_by c.args.name.now step)) (sym c.in-Onto.is)
    (c.behind.ensures.walk links some)
