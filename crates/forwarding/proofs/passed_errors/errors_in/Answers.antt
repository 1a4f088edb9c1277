use Rattle.std.proofs.Common.{◌-◌, length, ◌∙◌, sym, arith}
use Rattle.forwarding.proofs.ErrorLemmas.{goes_on, none_more, none_left}
use Rattle.forwarding.proofs.passed_errors.errors_in.Goals as goal

pub returns-in_default : goal.returns-in_default
returns-in_default c =
    let at = c.loop-passed in
    sym (none_more (length c.args.octets.now - at._passed) c.args.room at.rest.now at.errors.items (sym c.option_size.ensures.value ∙ c.in_default.is)) ∙ at.invariant

pub loop-passed-preserved : goal.loop-passed-preserved
loop-passed-preserved c =
    let at = c.loop-passed in
    goes_on c.args.octets.now at.rest.now c.octets_from-rest.result.now c.octets_between.result.now at.errors.items c.put_error.new.errors.items at._passed c.args.room c.in-Some.size c.loop-passed-test.true (sym c.option_size.ensures.value ∙ c.in-Some.is) c.octets_between.ensures c.octets_from-rest.ensures c.put_error.ensures at.invariant

pub returns : goal.returns
returns c =
    let at = c.loop-passed in
    sym (none_left (length c.args.octets.now - at._passed) c.args.room at.rest.now at.errors.items (omega (arith, c.loop-passed-test.false))) ∙ at.invariant
