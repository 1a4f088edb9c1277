-- What is told by `--help` and `--version`.
use Rattle.std.specs.Prelude.{Option, Some, None}
use Rattle.command_line.specs.Words.{Word}
use Rattle.command_line.specs.declared.help.TheConstants.{PROGRAM, REPLAY, SELFRUN, SERVE, CHASE, REDIRECT, FOLLOW, TCP, AUDIT, FORWARD, VERSION_LINE}
use Rattle.command_line.specs.declared.topic.Topic.{Topic}
use Rattle.command_line.specs.declared.topic.Topic.TheVariants.{Replay, Selfrun, Serve, Chase, Redirect, Follow, Tcp, Audit, Forward}

-- the text about a command, or the program
abbrev pub help_of : Option Topic → Word
help_of None = PROGRAM.now
help_of (Some Replay) = REPLAY.now
help_of (Some Selfrun) = SELFRUN.now
help_of (Some Serve) = SERVE.now
help_of (Some Chase) = CHASE.now
help_of (Some Redirect) = REDIRECT.now
help_of (Some Follow) = FOLLOW.now
help_of (Some Tcp) = TCP.now
help_of (Some Audit) = AUDIT.now
help_of (Some Forward) = FORWARD.now

-- the line about the version
abbrev pub version_line : Word
version_line = VERSION_LINE.now
