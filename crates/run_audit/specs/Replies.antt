-- Which output frames are replies.
use Rattle.std.specs.Prelude.{Bool, true, false}
use Rattle.replay_meaning.specs.OutFrame.{Output}
use Rattle.replay_meaning.specs.declared.out_frame.OutKind.{OutKind}
use Rattle.replay_meaning.specs.declared.out_frame.OutKind.TheVariants.{Reply, Forward, Stored, Refused, Dropped, Error}

abbrev pub replies : OutKind → Bool
replies Reply = true
replies Forward = false
replies Stored = false
replies Refused = false
replies Dropped = false
replies Error = false

abbrev pub is_reply : Output → Bool
is_reply output = replies output.kind
