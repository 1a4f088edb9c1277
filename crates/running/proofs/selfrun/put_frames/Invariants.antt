use Rattle.std.proofs.Common.{◌≡◌, ◌++◌, map, take}
use Rattle.replay_meaning.specs.Frame.{inputs_spelling}
use Rattle.running.specs.Made.{made_input}
use Rattle.running.proofs.selfrun.put_frames.Given as goal

abbrev pub invariant-loop-message : goal.invariant-loop-message
invariant-loop-message l = l.octets.items ≡ l.initial.octets.items ++ inputs_spelling (map (made_input l.kind l.now) (take l.message-index l.messages))
