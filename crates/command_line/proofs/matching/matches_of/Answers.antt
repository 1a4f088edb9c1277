use Rattle.clap.specs.Words.{app_of}
use Rattle.std.proofs.lemmas.Bool.{false≢true}
use Rattle.std.proofs.Common.{sym, ◌∙◌}
use Rattle.command_line.specs.Words.{texts}
use Rattle.command_line.proofs.GivenLemmas.{dashes_refuse, found_every, found_read, no_dashes, refused_every}
use Rattle.command_line.proofs.matching.matches_of.Goals as goal

pub returns-then-has_dashes-clause-every : goal.returns-then-has_dashes-clause-every
returns-then-has_dashes-clause-every c = dashes_refuse c.args.settings.now c.args.words.now c.has_dashes.result c.requires c.has_dashes.ensures c.if-has_dashes.true

pub returns-in-Ok-clause-read : goal.returns-in-Ok-clause-read
returns-in-Ok-clause-read c =
    found_read c.args.settings.now (texts c.args.words.now) (app_of c.in_ok-program.program) c.in_ok-program.ensures c.requires c.in-Ok.matches
    (no_dashes c.args.words.now c.has_dashes.result c.has_dashes.ensures c.if-has_dashes.false) c.in-Ok.ensures.kinds c.in-Ok.ensures.matches

pub returns-in-Ok-clause-every : goal.returns-in-Ok-clause-every
returns-in-Ok-clause-every c =
    found_every c.args.settings.now (texts c.args.words.now) (app_of c.in_ok-program.program) c.in_ok-program.ensures c.requires c.in-Ok.matches c.in-Ok.ensures.matches

pub returns-else-is_out_of_memory-clause-every : goal.returns-else-is_out_of_memory-clause-every
returns-else-is_out_of_memory-clause-every c =
    refused_every c.args.settings.now (texts c.args.words.now) (app_of c.in_ok-program.program) c.in_ok-program.ensures c.requires c.in-Err.error c.in-Err.ensures.kinds
    (λ is. false≢true (sym c.if-is_out_of_memory.false ∙ c.is_out_of_memory.ensures.1 is))
