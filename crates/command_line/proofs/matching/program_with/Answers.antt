use Rattle.std.proofs.Common.{[]}
use Rattle.clap.specs.Words.{app_of}
use Rattle.command_line.proofs.GivenLemmas.{next_option}
use Rattle.command_line.proofs.matching.program_with.Goals as goal

pub loop-setting-preserved : goal.loop-setting-preserved
loop-setting-preserved c =
    next_option c.args.settings.now c.loop-setting.setting-index (record { name = record { ref_ptr = (0, 0); now = [] }; least = 0; most = 0 }) (app_of c.loop-setting.program) (app_of c.in_ok-program.program)
    c.loop-setting-test.true c.loop-setting.invariant c.in_ok-program.ensures
