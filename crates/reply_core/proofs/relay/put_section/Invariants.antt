use Rattle.std.proofs.Common.{◌≡◌, take}
use Rattle.std.specs.List.{flat_map}
use Rattle.reply_core.specs.Draft.{put}
use Rattle.reply_core.specs.Relay.{rr_octets, relayed}
use Rattle.reply_core.proofs.relay.put_section.Given as goal

abbrev pub invariant-loop-rr : goal.invariant-loop-rr
invariant-loop-rr g l = l.draft ≡ put l.initial.draft (flat_map rr_octets (relayed l.question (take l.rr-index l.section)))
