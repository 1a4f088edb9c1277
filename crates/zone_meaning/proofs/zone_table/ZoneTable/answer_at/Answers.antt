use Rattle.std.proofs.Common.{◌≡◌, ℕ, List, false, subst}
use Rattle.std.specs.List.{Contains}
use Rattle.std.specs.Ordering.{nat_cmp, is_gt}
use Rattle.std.specs.Cmp.Lexicographic.{slice_cmp}
use Rattle.std.proofs.lemmas.List.Elements.{All-contains}
use Rattle.facts.proofs.Lists.{nothing_in}
use Rattle.zone_meaning.proofs.SomeAnswer.{not_greater}
use Rattle.zone_meaning.proofs.zone_table.ZoneTable.answer_at.Goals as goal

pub least-requires : goal.least-requires
least-requires c =
    let at = c.in-Some-data.ensures.some in
    λ e. nothing_in at.0.0 (subst (λ (items : List (List ℕ)). Contains items at.0.0) e ((at.1 at.0.0).1 at.0.1))

pub returns-in-Some-data : goal.returns-in-Some-data
returns-in-Some-data c =
    let at = c.in-Some-data.ensures.some in
    let low = c.least.result.now in (
      c.in_default.ensures.none,
      (at.1 low).0 c.least.ensures.among,
      λ others has. not_greater (slice_cmp nat_cmp low others) (All-contains (λ (item : List ℕ). is_gt (slice_cmp nat_cmp low item) ≡ false) c.in-Some-data.items.now others c.least.ensures.least ((at.1 others).1 has)),
    )
