use Rattle.std.proofs.Common.{◌≡◌, take, false}
use Rattle.std.specs.List.{list_any}
use Rattle.denial_records.specs.Proof.{denied_by}
use Rattle.resolver.specs.WalkReply.{same_denial}
use Rattle.resolver.specs.Lent.{denials_by}
use Rattle.resolver.proofs.once.is_among.Given as goal

abbrev pub invariant-loop-way : goal.invariant-loop-way
invariant-loop-way l = list_any (λ each. same_denial each (denied_by l.denial)) (denials_by (take l.way-index l.links)) ≡ false
