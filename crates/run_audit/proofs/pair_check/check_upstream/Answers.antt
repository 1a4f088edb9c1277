use Rattle.std.specs.Prelude.{Ok}
use Rattle.run_audit.specs.Pairs.{input_in, output_in}
use Rattle.run_audit.proofs.CheckLemmas.{answer_does, stored_checked, refused_told}
use Rattle.run_audit.proofs.pair_check.check_upstream.Goals as goal

pub returns-in-Ok : goal.returns-in-Ok
returns-in-Ok c = λ zone placed number.
    stored_checked zone placed c.args.number (input_in c.args.pair.now) (output_in c.args.pair.now) c.in-Ok.taken c.check_stored.result number (answer_does (input_in c.args.pair.now) (Ok c.in-Ok.taken) c.requires.kind c.in-Ok.ensures.taken)
    c.check_stored.ensures

pub returns-in-Some : goal.returns-in-Some
returns-in-Some c = λ zone placed number.
    refused_told zone placed (input_in c.args.pair.now) (output_in c.args.pair.now) c.in-Err.fault c.in-Some.code c.says.result c.told.result c.requires.kind c.in-Some.ensures.0 c.in-Err.ensures.refused c.in-Some.ensures.1 c.says.ensures c.told.ensures
