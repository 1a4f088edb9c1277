use Rattle.std.proofs.Common.{◌≡◌, drop}
use Rattle.forwarding.specs.Options.{opt_data}
use Rattle.forwarding.proofs.opt_options.opt_data.Given as goal

abbrev pub invariant-loop-rr : goal.invariant-loop-rr
invariant-loop-rr l = opt_data (drop l.rr-index l.additional) ≡ opt_data l.additional
