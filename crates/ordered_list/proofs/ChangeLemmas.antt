-- What stands in a list in order, and in the lists that its changes make.
use Rattle.std.proofs.Common.{◌≡◌, ◌≢◌, ◌⊎◌, ◌↔◌, ℕ, ◌+◌, ◌≤◌, Bool, true, false, not, List, [], ◌∷◌, ◌++◌, length, Contains, filter, Option, Some, None, inl, inr, refl, sym, ap, ◌∙◌, subst, arith}
use Rattle.std.specs.List.{slice_get}
use Rattle.std.specs.Option.{MatchOption}
use Rattle.std.specs.Cmp.{IsTotalOrder}
use Rattle.std.specs.Ordering.{is_lt, is_eq, is_gt}
use Rattle.std.specs.declared.cmp.Ordering.{Ordering}
use Rattle.std.specs.declared.cmp.Ordering.TheVariants.{Less, Equal, Greater}
use Rattle.std.proofs.lemmas.Grind.{common_steps}
use Rattle.std.proofs.lemmas.List.{length-append}
use Rattle.std.proofs.lemmas.List.Elements.{Contains-append_left, Contains-append_right, Contains-append_cases, Contains-get_or}
use Rattle.std.proofs.lemmas.List.Filters.{length-filter_both}
use Rattle.ordered_list.specs.Order.{IsInOrder, entry_at, with_entry, without_entry}
use Rattle.facts.proofs.Lists.{here, there, here_or_there}
use Rattle.facts.proofs.Filters.{kept, was_kept, filter_all}
use Rattle.facts.proofs.Orderings.{equal_from}
use Rattle.ordered_list.proofs.FilterLemmas.{find_is_first, find_none, find_some}
use Rattle.ordered_list.proofs.OrderLemmas.{one_of_rank, with_in_order, filter_in_order}
use Rattle.ordered_list.proofs.PlaceLemmas.{parts, few_level}

not_equal_if_less : (r : Ordering) → is_lt r ≡ true → r ≢ Equal
not_equal_if_less r less equal = let both : is_lt r ≡ false = ap is_lt equal in cc

not_equal_if_greater : (r : Ordering) → is_gt r ≡ true → r ≢ Equal
not_equal_if_greater r greater equal = let both : is_gt r ≡ false = ap is_gt equal in cc

other_rank : (r : Ordering) → r ≢ Equal → not (is_eq r) ≡ true
other_rank Less apart = refl
other_rank Equal apart = absurd (apart refl)
other_rank Greater apart = refl

not_equal_from : (r : Ordering) → not (is_eq r) ≡ true → r ≢ Equal
not_equal_from r other equal = let both : not (is_eq r) ≡ false = ap (λ o. not (is_eq o)) equal in cc

module _ {X : Type 0} (cmp : X → X → Ordering) where
  pub with_members : (e : X) (xs : List X) (x : X) → Contains (with_entry cmp e xs) x ↔ ((x ≡ e) ⊎ (Contains xs x × (cmp x e ≢ Equal)))
  with_members e xs x = (to, from)
    where
      low : X → Bool
      low y = is_lt (cmp y e)

      high : X → Bool
      high y = is_gt (cmp y e)

      to_high : (e ≡ x) ⊎ Contains (filter high xs) x → (x ≡ e) ⊎ (Contains xs x × (cmp x e ≢ Equal))
      to_high (inl same) = inl (sym same)
      to_high (inr has) = let was = was_kept high xs x has in inr (was.0, not_equal_if_greater (cmp x e) was.1)

      to : Contains (with_entry cmp e xs) x → (x ≡ e) ⊎ (Contains xs x × (cmp x e ≢ Equal))
      to has = elim (Contains-append_cases (filter low xs) (e ∷ filter high xs) x has) [
        | inl h ↦ (let was = was_kept low xs x h in inr (was.0, not_equal_if_less (cmp x e) was.1))
        | inr h ↦ to_high (here_or_there e (filter high xs) x h)
      ]

      by : (rank : Ordering) → cmp x e ≡ rank → Contains xs x → cmp x e ≢ Equal → Contains (with_entry cmp e xs) x
      by Less is has apart = Contains-append_left (filter low xs) (e ∷ filter high xs) x (kept low xs x has (ap is_lt is))
      by Equal is has apart = absurd (apart is)
      by Greater is has apart = Contains-append_right (filter low xs) (e ∷ filter high xs) x (there e (filter high xs) x (kept high xs x has (ap is_gt is)))

      from : (x ≡ e) ⊎ (Contains xs x × (cmp x e ≢ Equal)) → Contains (with_entry cmp e xs) x
      from (inl same) = subst (Contains (with_entry cmp e xs)) (sym same) (Contains-append_right (filter low xs) (e ∷ filter high xs) e (here e (filter high xs)))
      from (inr both) = by (cmp x e) refl both.0 both.1

  pub without_members : (like : X) (xs : List X) (x : X) → Contains (without_entry cmp like xs) x ↔ (Contains xs x × (cmp x like ≢ Equal))
  without_members like xs x =
      let other : X → Bool = λ y. not (is_eq (cmp y like)) in
      (λ has. (let was = was_kept other xs x has in (was.0, not_equal_from (cmp x like) was.1)), λ both. kept other xs x both.0 (other_rank (cmp x like) both.1))

  pub entry_some : (like : X) (xs : List X) (x : X) → entry_at cmp like xs ≡ Some x → Contains xs x × (cmp x like ≡ Equal)
  entry_some like xs x is = let found = find_some (λ y. is_eq (cmp y like)) xs x is in (found.0, equal_from (cmp x like) found.1)

  pub entry_none : (like : X) (xs : List X) → entry_at cmp like xs ≡ None → (x : X) → Contains xs x → cmp x like ≢ Equal
  entry_none like xs none x has equal = let missed = find_none (λ y. is_eq (cmp y like)) xs none x has in let tied : is_eq (cmp x like) ≡ true = ap is_eq equal in cc

  -- a list without what isn't in it
  pub without_none : (like : X) (xs : List X) → entry_at cmp like xs ≡ None → without_entry cmp like xs ≡ xs
  without_none like xs none = filter_all (λ y. not (is_eq (cmp y like))) xs (λ k d lt. other_rank _ (entry_none like xs none _ (Contains-get_or xs k d lt)))

  module _ (total : IsTotalOrder cmp) where
    level_turned : (x y z : X) → cmp x z ≡ Equal → cmp y z ≡ Equal → cmp x y ≡ Equal
    level_turned x y z tie tie' = grind (arith, common_steps, total)

    level_across : (x e like : X) → cmp x e ≡ Equal → cmp x like ≡ Equal → cmp e like ≡ Equal
    level_across x e like tie tie' = grind (arith, common_steps, total)

    pub entry_is : (like : X) (xs : List X) → IsInOrder cmp xs → (x : X) → Contains xs x → cmp x like ≡ Equal → entry_at cmp like xs ≡ Some x
    entry_is like xs h x has tie = by (entry_at cmp like xs) refl
      where
        by : (o : Option X) → entry_at cmp like xs ≡ o → entry_at cmp like xs ≡ Some x
        by None is = absurd (entry_none like xs is x has tie)
        by (Some y) is =
            let found = entry_some like xs y is in
            is ∙ ap Some (one_of_rank cmp total xs h y x found.0 has (level_turned y x like found.1 tie))

    -- lists that have the same entries of the rank
    pub entry_same : (like : X) (xs ys : List X) → IsInOrder cmp xs → IsInOrder cmp ys → ((x : X) → cmp x like ≡ Equal → Contains xs x ↔ Contains ys x) → entry_at cmp like xs ≡ entry_at cmp like ys
    entry_same like xs ys h h' same = by (entry_at cmp like xs) (entry_at cmp like ys) refl refl
      where
        by : (o o' : Option X) → entry_at cmp like xs ≡ o → entry_at cmp like ys ≡ o' → entry_at cmp like xs ≡ entry_at cmp like ys
        by (Some x) o' is is' =
            let found = entry_some like xs x is in
            is ∙ sym (entry_is like ys h' x ((same x found.1).0 found.0) found.1)
        by None None is is' = is ∙ sym is'
        by None (Some y) is is' =
            let found = entry_some like ys y is' in
            absurd (entry_none like xs is y ((same y found.1).1 found.0) found.1)

    -- what a search finds after a change
    pub entry_at_with : (e : X) (xs : List X) → IsInOrder cmp xs → (like : X) → cmp e like ≡ Equal → entry_at cmp like (with_entry cmp e xs) ≡ Some e
    entry_at_with e xs h like tie = entry_is like (with_entry cmp e xs) (with_in_order cmp total e xs h) e ((with_members e xs e).1 (inl refl)) tie

    pub entry_at_with_other : (e : X) (xs : List X) → IsInOrder cmp xs → (like : X) → cmp e like ≢ Equal → entry_at cmp like (with_entry cmp e xs) ≡ entry_at cmp like xs
    entry_at_with_other e xs h like apart = entry_same like (with_entry cmp e xs) xs (with_in_order cmp total e xs h) h (λ x tie. (to x tie, from x tie))
      where
        to : (x : X) → cmp x like ≡ Equal → Contains (with_entry cmp e xs) x → Contains xs x
        to x tie has = elim ((with_members e xs x).0 has) [
          | inl same ↦ absurd (apart (subst (λ z. cmp z like ≡ Equal) same tie))
          | inr both ↦ both.0
        ]

        from : (x : X) → cmp x like ≡ Equal → Contains xs x → Contains (with_entry cmp e xs) x
        from x tie has = (with_members e xs x).1 (inr (has, λ tie'. apart (level_across x e like tie' tie)))

    pub entry_at_without : (like : X) (xs : List X) → entry_at cmp like (without_entry cmp like xs) ≡ None
    entry_at_without like xs = by (entry_at cmp like (without_entry cmp like xs)) refl
      where
        by : (o : Option X) → entry_at cmp like (without_entry cmp like xs) ≡ o → entry_at cmp like (without_entry cmp like xs) ≡ None
        by None is = is
        by (Some y) is =
            let found = entry_some like (without_entry cmp like xs) y is in
            absurd (((without_members like xs y).0 found.0).1 found.1)

    pub entry_at_without_other : (gone : X) (xs : List X) → IsInOrder cmp xs → (like : X) → cmp gone like ≢ Equal → entry_at cmp like (without_entry cmp gone xs) ≡ entry_at cmp like xs
    entry_at_without_other gone xs h like apart =
        entry_same like (without_entry cmp gone xs) xs (filter_in_order cmp (λ y. not (is_eq (cmp y gone))) xs h) h
        (λ x tie. (λ has. ((without_members gone xs x).0 has).0, λ has. (without_members gone xs x).1 (has, λ tie'. apart (level_across x gone like tie' tie))))

    -- how long a change makes the list
    pub with_length : (e : X) (xs : List X) → IsInOrder cmp xs → MatchOption (entry_at cmp e xs) (length (with_entry cmp e xs) ≡ length xs + 1) (λ _. length (with_entry cmp e xs) ≡ length xs)
    with_length e xs h =
        let low : List X = filter (λ x. is_lt (cmp x e)) xs in
        let level : List X = filter (λ x. is_eq (cmp x e)) xs in
        let high : List X = filter (λ x. is_gt (cmp x e)) xs in
        let made : length (with_entry cmp e xs) ≡ length low + length (e ∷ high) = length-append low (e ∷ high) in
        let one : length (e ∷ high) ≡ length high + 1 = omega arith in
        let all : length xs ≡ length low + (length level + length high) = ap length (parts cmp total e xs h) ∙ (length-append low (level ++ high) ∙ ap (λ n. length low + n) (length-append level high)) in
        subst (λ o. MatchOption o (length (with_entry cmp e xs) ≡ length xs + 1) (λ _. length (with_entry cmp e xs) ≡ length xs)) (sym (find_is_first (λ x. is_eq (cmp x e)) xs))
        (by_few level _ _ (few_level cmp total e xs h) (omega (arith, made, one, all)))
      where
        by_few : (ls : List X) (a b : ℕ) → length ls ≤ 1 → a + length ls ≡ b + 1 → MatchOption (slice_get ls 0) (a ≡ b + 1) (λ _. a ≡ b)
        by_few [] a b few sum = omega arith
        by_few (x ∷ ls) a b few sum = omega arith

    pub without_length : (like : X) (xs : List X) → IsInOrder cmp xs → MatchOption (entry_at cmp like xs) (length (without_entry cmp like xs) ≡ length xs) (λ _. length (without_entry cmp like xs) + 1 ≡ length xs)
    without_length like xs h =
        let both : length (filter (λ x. is_eq (cmp x like)) xs) + length (without_entry cmp like xs) ≡ length xs = length-filter_both (λ x. is_eq (cmp x like)) (λ x. not (is_eq (cmp x like))) (λ _. refl) xs in
        subst (λ o. MatchOption o (length (without_entry cmp like xs) ≡ length xs) (λ _. length (without_entry cmp like xs) + 1 ≡ length xs)) (sym (find_is_first (λ x. is_eq (cmp x like)) xs))
        (by_few (filter (λ x. is_eq (cmp x like)) xs) _ _ (few_level cmp total like xs h) (omega (arith, both)))
      where
        by_few : (ls : List X) (a b : ℕ) → length ls ≤ 1 → a + length ls ≡ b → MatchOption (slice_get ls 0) (a ≡ b) (λ _. a + 1 ≡ b)
        by_few [] a b few sum = omega arith
        by_few (x ∷ ls) a b few sum = omega arith
