use Rattle.std.proofs.Common.{sym, ◌∙◌}
use Rattle.audit_source.proofs.PieceLemmas.{name_whole, no_name}
use Rattle.audit_source.proofs.reading.first_name.Goals as goal

pub returns-in_err-name-clause-none : goal.returns-in_err-name-clause-none
returns-in_err-name-clause-none c = λ _.
    no_name c.args.octets.now c.in_ok-form.form.now c.in_ok-form.rest.now c.in_ok-form.ensures.some (sym c.name_in.ensures ∙ c.in_err-name.was)

pub returns-clause-some : goal.returns-clause-some
returns-clause-some c =
    name_whole c.args.octets.now c.in_ok-form.form.now c.in_ok-form.rest.now c.in_ok-name.name c.in_ok-form.ensures.some (sym c.name_in.ensures ∙ c.in_ok-name.was)
