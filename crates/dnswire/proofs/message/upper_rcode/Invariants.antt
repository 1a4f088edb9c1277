use Rattle.std.proofs.Common.{◌≡◌, drop}
use Rattle.dnswire.specs.Message.{upper_rcode}
use Rattle.dnswire.proofs.message.upper_rcode.Given as goal

abbrev pub invariant-loop-rr : goal.invariant-loop-rr
invariant-loop-rr l = upper_rcode (drop l.rr-index l.additional) ≡ upper_rcode l.additional
