use Rattle.std.proofs.Common.{◌≡◌, ◌∙◌, take, ap, sym, Ok, Err}
use Rattle.std.proofs.lemmas.List.{take_at}
use Rattle.std.proofs.lemmas.Result.{err_from_is_err_and}
use Rattle.dname.specs.Name.{wire_of}
use Rattle.dname.proofs.ReadLemmas.{one_name, one_stop, name_or_fault}
use Rattle.dname.proofs.name.Name.read.Goals as goal

pub returns-in_err-taken-clause-every_name : goal.returns-in_err-taken-clause-every_name
returns-in_err-taken-clause-every_name c name taken spells = absurd (name_or_fault _ _ _ _ spells c.in_err-taken.ensures.refused)

pub returns-in_err-taken-clause-every_fault : goal.returns-in_err-taken-clause-every_fault
returns-in_err-taken-clause-every_fault c fault stops =
    let p = err_from_is_err_and c.from_residual.result c.from_residual.ensures.1 in
    p.1 ∙ ap Err (p.2 ∙ one_stop _ _ _ c.in_err-taken.ensures.refused stops)

pub returns-clause-every_name : goal.returns-clause-every_name
returns-clause-every_name c name taken spells =
    let found = c.in_ok-taken.ensures.read.1 in
    let same = one_name _ _ _ _ _ found spells in
    let form : take c.in_ok-taken.taken c.args.octets.now ≡ wire_of found.labels =
    ap (take c.in_ok-taken.taken) found.spelled ∙ take_at (wire_of found.labels) found.rest c.in_ok-taken.taken (sym found.size) in
    let name_is : c.of_wire.result ≡ name = c.of_wire.ensures found.labels form found.sizes ∙ sym found.lower ∙ same.0 in
    λ i. Ok (name_is i, same.1 i)

pub returns-clause-every_fault : goal.returns-clause-every_fault
returns-clause-every_fault c fault stops = absurd (name_or_fault _ _ _ _ c.in_ok-taken.ensures.read.1 stops)
