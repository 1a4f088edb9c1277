use Rattle.std.proofs.Common.{refl}
use Rattle.forward_report.specs.Notices.{nothing_told}
use Rattle.forward_report.proofs.notices.Notices.new.Goals as goal

pub returns : goal.returns
unfolding nothing_told
returns c = refl
