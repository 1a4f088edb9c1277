use Rattle.std.proofs.Common.{List, sym, ap, subst}
use mathlib.Core.List.{IsPrefix}
use Rattle.cache_versions.specs.Seats.{noted_by}
use Rattle.cache_versions.proofs.Fronts.{prefix_self}
use Rattle.cache_versions.proofs.shared.Shared.learn.Goals as goal

pub returns-then-reaches-clause-learnt : goal.returns-then-reaches-clause-learnt
returns-then-reaches-clause-learnt g c =
    subst (λ (l : List g.row.S-Batch.Denot). IsPrefix (noted_by c.args.note) l) (sym (ap (λ h. h.recorded.front.log) c.go_on.ensures.held)) (prefix_self (noted_by c.args.note))
