use Rattle.std.proofs.Common.{◌∙◌, nat_lt, Option, Some, None, refl, sym, ap, subst}
use Rattle.std.specs.Prelude.{◌↔◌, IfSome, IsSome}
use Rattle.denial_records.specs.Proof.{Proof}
use Rattle.denial_records.specs.declared.set_rec.SetRec.{SetRec}
use Rattle.cache_meaning.specs.Evidence.{that}
use Rattle.cache_meaning.specs.Verdict.{IsVerdictOf}
use Rattle.resolver.proofs.WalkLemmas.{proved_by}
use Rattle.resolver.proofs.walk_replying.prove_with.Goals as goal

pub returns-in-Some-clause-proved : goal.returns-in-Some-clause-proved
returns-in-Some-clause-proved c =
    let zone = c.args.zone.now in
    let question = c.args.question.now in
    let set = c.in-Some.ensures ∙ ap (that (λ (set : SetRec). nat_lt c.args.now set.expiry)) c.requires in
    subst (λ (found : Option Proof). IsVerdictOf c.args.now found c.answer_by_set.result)
    (sym (proved_by zone.held c.args.now zone.apex question.name question.qtype (Some c.in-Some.set.now) set)) c.answer_by_set.ensures

pub returns-in-Some-clause-exact : goal.returns-in-Some-clause-exact
returns-in-Some-clause-exact c =
    let zone = c.args.zone.now in
    let question = c.args.question.now in
    let set = c.in-Some.ensures ∙ ap (that (λ (set : SetRec). nat_lt c.args.now set.expiry)) c.requires in
    let proved = proved_by zone.held c.args.now zone.apex question.name question.qtype (Some c.in-Some.set.now) set in
    subst (λ (found : Option Proof). IsSome (Some c.answer_by_set.result) ↔ IsSome found) (sym proved) (λ some. refl, λ some. refl)

pub returns-clause-proved : goal.returns-clause-proved
returns-clause-proved c =
    let zone = c.args.zone.now in
    let question = c.args.question.now in
    let none = c.in_default.ensures ∙ ap (that (λ (set : SetRec). nat_lt c.args.now set.expiry)) c.requires in
    subst (λ (found : Option Proof). IfSome c.prove_by_chains.result (IsVerdictOf c.args.now found))
    (sym (proved_by zone.held c.args.now zone.apex question.name question.qtype None none)) c.prove_by_chains.ensures.proved

pub returns-clause-exact : goal.returns-clause-exact
returns-clause-exact c =
    let zone = c.args.zone.now in
    let question = c.args.question.now in
    let none = c.in_default.ensures ∙ ap (that (λ (set : SetRec). nat_lt c.args.now set.expiry)) c.requires in
    subst (λ (found : Option Proof). IsSome c.prove_by_chains.result ↔ IsSome found)
    (sym (proved_by zone.held c.args.now zone.apex question.name question.qtype None none)) c.prove_by_chains.ensures.exact
