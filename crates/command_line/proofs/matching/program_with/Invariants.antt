use Rattle.std.proofs.Common.{◌≡◌, map, take}
use Rattle.clap.specs.Words.{app_of}
use Rattle.command_line.specs.Options.{app_with, name_of}
use Rattle.command_line.proofs.matching.program_with.Given as goal

abbrev pub invariant-loop-setting : goal.invariant-loop-setting
invariant-loop-setting l = app_of l.program ≡ app_with (map name_of (take l.setting-index l.settings))
