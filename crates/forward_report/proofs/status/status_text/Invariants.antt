use Rattle.std.proofs.Common.{◌≡◌, take}
use Rattle.std.specs.Prelude.{string_bytes}
use Rattle.std.specs.List.{flat_map}
use Rattle.forward_report.specs.Status.{family_text}
use Rattle.forward_report.specs.declared.family.TheConstants.Family as family
use Rattle.forward_report.proofs.status.status_text.Given as goal

abbrev pub invariant-loop-family : goal.invariant-loop-family
invariant-loop-family l = string_bytes l.text ≡ flat_map (family_text l.workers) (take l.family-index family.ALL)
