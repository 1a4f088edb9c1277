use Rattle.std.proofs.Common.{◌≡◌, take}
use Rattle.reply_core.specs.Count.{count16}
use Rattle.reply_core.specs.Relay.{relayed}
use Rattle.reply_core.proofs.relay.count_section.Given as goal

abbrev pub invariant-loop-rr : goal.invariant-loop-rr
invariant-loop-rr l = l.count ≡ count16 (relayed l.question (take l.rr-index l.section))
