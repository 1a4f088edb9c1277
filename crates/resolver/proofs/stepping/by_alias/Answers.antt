use Rattle.std.proofs.Common.{◌∙◌, refl}
use Rattle.dname.specs.declared.types.TheConstants.{CNAME_TYPE}
use Rattle.cache_meaning.specs.Prove.{zone_proof}
use Rattle.resolver.proofs.StepLemmas.{alias_in}
use Rattle.resolver.proofs.WalkLemmas.{shown}
use Rattle.resolver.proofs.stepping.by_alias.Goals as goal

pub returns-clause-step : goal.returns-clause-step
returns-clause-step c =
    let zone = c.args.zone.now in
    let name = c.args.name.now in
    let verdict = c.in_ok-verdict.verdict in
    let found = zone_proof zone.held c.args.now zone.apex name CNAME_TYPE in
    let is = shown c.args.now found verdict c.in_ok-verdict.ensures.proved (c.in_ok-verdict.ensures.exact.0 refl) in
    c.alias_step.ensures.step name
    ∙ alias_in zone.held c.args.now c.args.qtype name zone.apex _ c.if-qtype-eq-DS_TYPE.false c.requires is.proved

pub returns-clause-ttl : goal.returns-clause-ttl
returns-clause-ttl c =
    let zone = c.args.zone.now in
    let verdict = c.in_ok-verdict.verdict in
    let is = shown c.args.now (zone_proof zone.held c.args.now zone.apex c.args.name.now CNAME_TYPE) verdict c.in_ok-verdict.ensures.proved (c.in_ok-verdict.ensures.exact.0 refl) in
    c.alias_step.ensures.ttl c.args.now is.lives

pub returns-clause-leads : goal.returns-clause-leads
returns-clause-leads c = c.alias_step.ensures.leads c.args.name.now
