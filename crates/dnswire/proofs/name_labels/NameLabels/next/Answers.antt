use Rattle.std.proofs.Common.{drop, subst, ◌≤◌}
use Rattle.dnswire.specs.MessageName.{BeginsWithEnd}
use Rattle.dnswire.specs.NameLabels.{HasNoPiece}
use Rattle.dnswire.proofs.NameLabelsLemmas.{left_end, same_end, same_none, none_piece}
use Rattle.dnswire.proofs.name_labels.NameLabels.next.Goals.{in_default-via-in-Some-Label+else-take, in_default-via-in-Some-Pointer+else-follow, in_default-via-in_default}
use Rattle.dnswire.proofs.name_labels.NameLabels.next.Goals as goal

pub returns-in-Some-End : goal.returns-in-Some-End
returns-in-Some-End c =
    let ends = subst (λ left. BeginsWithEnd (drop left.at left.message)) c.self.view_is (rw c.in-Some-End.field-0-is at c.in-Some-End.ensures.read) in
    let small = subst (λ left. left.size ≤ 254) c.self.view_is c.self.invariant in
    rw c.end.ensures (same_end _ _ _ c.loop-self.invariant.same (left_end c.loop-self.self ends small))

pub returns-in_default : goal.returns-in_default
returns-in_default c = same_none _ c.loop-self.self c.loop-self.invariant.same (elim c.in_default.branch [
  | in_default-via-in-Some-Label+else-take w ↦ w.take.ensures.no w.if-take.false
  | in_default-via-in-Some-Pointer+else-follow w ↦ w.follow.ensures.no w.if-follow.false
  | in_default-via-in_default w ↦ none_piece c.loop-self.self (subst (λ left. HasNoPiece (drop left.at left.message)) c.self.view_is (rw w.in_default.is at c.piece_at.ensures.none))
])
