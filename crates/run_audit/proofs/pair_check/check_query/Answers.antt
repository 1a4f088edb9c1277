use Rattle.dnswire.specs.declared.query_read.QueryRead.TheVariants as reads
use Rattle.run_audit.specs.Pairs.{input_in, output_in}
use Rattle.run_audit.proofs.CheckLemmas.{query_told}
use Rattle.run_audit.proofs.pair_check.check_query.Goals as goal

pub returns-in-Dropped-clause-checked : goal.returns-in-Dropped-clause-checked
returns-in-Dropped-clause-checked c = λ placed store number.
    query_told c.args.search.now placed (input_in c.args.pair.now) (output_in c.args.pair.now) reads.Dropped _ _ tt c.requires.kind c.in-Dropped.ensures.read c.says.ensures c.told.ensures

pub returns-in-NotImp-clause-checked : goal.returns-in-NotImp-clause-checked
returns-in-NotImp-clause-checked c = λ placed store number.
    query_told c.args.search.now placed (input_in c.args.pair.now) (output_in c.args.pair.now) (reads.NotImp c.in-NotImp.head) _ _ tt c.requires.kind c.in-NotImp.ensures.read c.says_error.ensures c.told-in-NotImp.ensures

pub returns-in-FormErr-clause-checked : goal.returns-in-FormErr-clause-checked
returns-in-FormErr-clause-checked c = λ placed store number.
    query_told c.args.search.now placed (input_in c.args.pair.now) (output_in c.args.pair.now) (reads.FormErr c.in-FormErr.head) _ _ tt c.requires.kind c.in-FormErr.ensures.read c.says_error-in-FormErr.ensures c.told-in-FormErr.ensures

pub returns-in-BadVers-clause-checked : goal.returns-in-BadVers-clause-checked
returns-in-BadVers-clause-checked c = λ placed store number.
    query_told c.args.search.now placed (input_in c.args.pair.now) (output_in c.args.pair.now) (reads.BadVers c.in-BadVers.question) _ _ tt c.requires.kind c.in-BadVers.ensures.read c.says_bad_version.ensures c.told-in-BadVers.ensures
