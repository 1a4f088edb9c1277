-- Marks agree with the order of starts.
use Rattle.std.proofs.Common.{◌≡◌, ℕ, ◌<◌, false, List, Contains, ap, subst, arith}
use Rattle.std.specs.List.Sorted.{IsPartitionedBy}
use Rattle.std.specs.Cmp.{IsTotalOrder}
use Rattle.std.specs.Ordering.{is_lt, is_le}
use Rattle.std.specs.declared.cmp.Ordering.{Ordering}
use Rattle.std.specs.declared.cmp.Ordering.TheVariants.{Less, Greater}
use Rattle.std.proofs.lemmas.Grind.{common_steps}
use Rattle.std.proofs.lemmas.List.Elements.{All-contains}
use Rattle.page_list.specs.Marks.{PartsAtMark}
use Rattle.range_index.specs.Arcs.{AreOfOrigin}
use Rattle.range_index.specs.Steps.{Tell}

module _ {S F K : Type 0} (cmp : K → K → Ordering) (total : IsTotalOrder cmp) (start : S → K) (origin_of : S → F) (mark : F → K → ℕ)
    (rise : (origin : F) (one other : K) → mark origin one < mark origin other → cmp one other ≡ Less) (origin : F) (key : K) where
  abbrev mark_of : S → ℕ
  mark_of span = mark (origin_of span) (start span)

  after_is_not_upto : (one other : K) → cmp one other ≡ Less → is_le (cmp other one) ≡ false
  after_is_not_upto one other less = grind (arith, common_steps, total)

  after_is_not_before : (one other : K) → cmp one other ≡ Less → is_lt (cmp other one) ≡ false
  after_is_not_before one other less = grind (arith, common_steps, total)

  module _ (xs : List S) (all : AreOfOrigin origin_of mark origin xs) where
    of_origin : (x : S) → Contains xs x → mark_of x ≡ mark origin (start x)
    of_origin x has = All-contains (λ span. (other : K) → mark (origin_of span) other ≡ mark origin other) xs x all has (start x)

    lesser : (x : S) → Contains xs x → mark_of x < mark origin key → cmp (start x) key ≡ Less
    lesser x has less = rise origin (start x) key (subst (λ n. n < mark origin key) (of_origin x has) less)

    greater : (x : S) → Contains xs x → mark origin key < mark_of x → cmp key (start x) ≡ Less
    greater x has less = rise origin key (start x) (subst (λ n. mark origin key < n) (of_origin x has) less)

    pub upto_parts : IsPartitionedBy (λ x. is_le (cmp (start x) key)) xs → PartsAtMark mark_of (mark origin key) (λ x. is_le (cmp (start x) key)) xs
    upto_parts first = record {
      first = first;
      lesser = λ x has less. ap is_le (lesser x has less);
      greater = λ x has less. after_is_not_upto key (start x) (greater x has less);
    }

    pub before_parts : IsPartitionedBy (λ x. is_lt (cmp (start x) key)) xs → PartsAtMark mark_of (mark origin key) (λ x. is_lt (cmp (start x) key)) xs
    before_parts first = record {
      first = first;
      lesser = λ x has less. ap is_lt (lesser x has less);
      greater = λ x has less. after_is_not_before key (start x) (greater x has less);
    }

  flipped : (one other : K) → cmp one other ≡ Less → cmp other one ≡ Greater
  flipped one other less = grind (arith, common_steps, total)

  -- what the marks of a span in the list tell
  pub tells : (end : S → K) (xs : List S) → AreOfOrigin origin_of mark origin xs → (x : S) → Contains xs x → (m a b : ℕ) → m ≡ mark origin key → a ≡ mark (origin_of x) (start x) → b ≡ mark (origin_of x) (end x) → Tell cmp start end key x m a b
  tells end xs all x has m a b m_is a_is b_is =
      let at : (other : K) → mark (origin_of x) other ≡ mark origin other = All-contains (λ span. (other : K) → mark (origin_of span) other ≡ mark origin other) xs x all has in
      record {
        starts = λ less. rise origin (start x) key (omega (arith, a_is, at (start x), m_is));
        ends_behind = λ less. flipped key (end x) (rise origin key (end x) (omega (arith, b_is, at (end x), m_is)));
        ends_before = λ less. rise origin (end x) key (omega (arith, b_is, at (end x), m_is));
        plain = λ less. rise origin (start x) (end x) (omega (arith, a_is, at (start x), b_is, at (end x)));
        over = λ less. flipped (end x) (start x) (rise origin (end x) (start x) (omega (arith, a_is, at (start x), b_is, at (end x))));
      }

-- equal marks tell nothing
pub silent : {S K : Type 0} (cmp : K → K → Ordering) (start end : S → K) (key : K) (span : S) → Tell cmp start end key span 0 0 0
silent cmp start end key span = record {
  starts = λ less. absurd (omega arith);
  ends_behind = λ less. absurd (omega arith);
  ends_before = λ less. absurd (omega arith);
  plain = λ less. absurd (omega arith);
  over = λ less. absurd (omega arith);
}
