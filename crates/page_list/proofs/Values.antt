-- Values and their marks.
use Rattle.std.proofs.Common.{◌≡◌, ℕ, ◌+◌, ◌<◌, Bool, if◌then◌else◌, List, [], ◌∷◌, ◌++◌, length, get_or, take, drop, map, Contains, append_assoc, refl, sym, ap, ◌∙◌, subst, arith}
use Rattle.std.specs.List.{All, prefix_len}
use Rattle.std.specs.List.Sorted.{IsPartitionedBy}
use Rattle.std.proofs.lemmas.List.{append-nil, map-append, length-map, get_or-map, take-map, drop-map}
use Rattle.std.proofs.lemmas.List.Elements.{All-nil, All-cons, All-contains}
use Rattle.page_list.specs.Marks.{Marked, mark_of, note_of, value_of, marked_by, PartsAtMark}

-- ---- a test of what is seen of the entries

pub parted_of : {X A : Type 0} (v : X → A) (p : A → Bool) (xs : List X) → IsPartitionedBy p (map v xs) → IsPartitionedBy (λ x. p (v x)) xs
parted_of v p xs h i j d le lt passes =
    let at : (k : ℕ) → k < length xs → get_or (map v xs) k (v d) ≡ v (get_or xs k d) = λ k within. get_or-map v xs k d (v d) within in
    ap p (sym (at i (omega arith))) ∙ h i j (v d) le (omega (arith, length-map xs v)) (ap p (at j lt) ∙ passes)

pub prefix_of : {X A : Type 0} (v : X → A) (p : A → Bool) (xs : List X) → prefix_len (λ x. p (v x)) xs ≡ prefix_len p (map v xs)
prefix_of v p [] = refl
prefix_of v p (x ∷ xs) = ap (λ n. if p (v x) then 1 + n else 0) (prefix_of v p xs)

contains_of : {X A : Type 0} (v : X → A) (xs : List X) (x : X) → Contains xs x → Contains (map v xs) (v x)
contains_of v xs x has = (has.0, omega (arith, has.1, length-map xs v), get_or-map v xs has.0 x (v x) has.1 ∙ ap v has.2)

module _ {X : Type 0} (mark note : X → ℕ) where
  abbrev pub IsMarked : List (Marked X) → Type 0
  IsMarked entries = entries ≡ map (marked_by mark note) (map value_of entries)

  values_of : (xs : List X) → map value_of (map (marked_by mark note) xs) ≡ xs
  values_of [] = refl
  values_of (x ∷ xs) = ap (λ zs. x ∷ zs) (values_of xs)

  own_marks : (xs : List X) → All (λ entry. mark_of entry ≡ mark (value_of entry)) (map (marked_by mark note) xs)
  own_marks [] = All-nil (λ entry. mark_of entry ≡ mark (value_of entry))
  own_marks (x ∷ xs) = All-cons (λ entry. mark_of entry ≡ mark (value_of entry)) (marked_by mark note x) (map (marked_by mark note) xs) refl (own_marks xs)

  pub own_mark : (entries : List (Marked X)) → IsMarked entries → (entry : Marked X) → Contains entries entry → mark_of entry ≡ mark (value_of entry)
  own_mark entries marked entry has =
      All-contains (λ each. mark_of each ≡ mark (value_of each)) (map (marked_by mark note) (map value_of entries)) entry (own_marks (map value_of entries)) (subst (λ l. Contains l entry) marked has)

  own_notes : (xs : List X) → All (λ entry. note_of entry ≡ note (value_of entry)) (map (marked_by mark note) xs)
  own_notes [] = All-nil (λ entry. note_of entry ≡ note (value_of entry))
  own_notes (x ∷ xs) = All-cons (λ entry. note_of entry ≡ note (value_of entry)) (marked_by mark note x) (map (marked_by mark note) xs) refl (own_notes xs)

  pub own_note : (entries : List (Marked X)) → IsMarked entries → (entry : Marked X) → Contains entries entry → note_of entry ≡ note (value_of entry)
  own_note entries marked entry has =
      All-contains (λ each. note_of each ≡ note (value_of each)) (map (marked_by mark note) (map value_of entries)) entry (own_notes (map value_of entries)) (subst (λ l. Contains l entry) marked has)

  -- a test of values that marks agree with, as one of entries
  pub parts_of : (sought : ℕ) (p : X → Bool) (entries : List (Marked X)) → IsMarked entries → PartsAtMark mark sought p (map value_of entries) → PartsAtMark mark_of sought (λ entry. p (value_of entry)) entries
  parts_of sought p entries marked parts = record {
    first = parted_of value_of p entries parts.first;
    lesser = λ entry has less. parts.lesser (value_of entry) (contains_of value_of entries entry has) (subst (λ n. n < sought) (own_mark entries marked entry has) less);
    greater = λ entry has more. parts.greater (value_of entry) (contains_of value_of entries entry has) (subst (λ n. sought < n) (own_mark entries marked entry has) more);
  }

  module _ (entries items made : List (Marked X)) (xs : List X) (from to : ℕ) (is : made ≡ take from entries ++ items ++ drop to entries) (are : items ≡ map (marked_by mark note) xs) where
    pub replaced_values : map value_of made ≡ take from (map value_of entries) ++ xs ++ drop to (map value_of entries)
    replaced_values =
        ap (map value_of) is
        ∙ (map-append value_of (take from entries ++ items) (drop to entries)
        ∙ (ap (λ z. z ++ map value_of (drop to entries)) (map-append value_of (take from entries) items)
        ∙ (ap (λ z. (z ++ map value_of items) ++ map value_of (drop to entries)) (sym (take-map value_of from entries))
        ∙ (ap (λ z. (take from (map value_of entries) ++ map value_of items) ++ z) (sym (drop-map value_of to entries))
        ∙ ap (λ z. (take from (map value_of entries) ++ z) ++ drop to (map value_of entries)) (ap (map value_of) are ∙ values_of xs)))))

    pub replaced_marked : IsMarked entries → IsMarked made
    replaced_marked marked =
        let vs : List X = map value_of entries in
        let front : take from entries ≡ map (marked_by mark note) (take from vs) = ap (take from) marked ∙ take-map (marked_by mark note) from vs in
        let back : drop to entries ≡ map (marked_by mark note) (drop to vs) = ap (drop to) marked ∙ drop-map (marked_by mark note) to vs in
        is
        ∙ (ap (λ z. (z ++ items) ++ drop to entries) front
        ∙ (ap (λ z. (map (marked_by mark note) (take from vs) ++ z) ++ drop to entries) are
        ∙ (ap (λ z. (map (marked_by mark note) (take from vs) ++ map (marked_by mark note) xs) ++ z) back
        ∙ (ap (λ z. z ++ map (marked_by mark note) (drop to vs)) (sym (map-append (marked_by mark note) (take from vs) xs))
        ∙ (sym (map-append (marked_by mark note) (take from vs ++ xs) (drop to vs)) ∙ ap (map (marked_by mark note)) (sym replaced_values))))))

  -- one value in place of a run
  pub one_value : (entries items made : List (Marked X)) (x : X) (from to : ℕ) → made ≡ take from entries ++ items ++ drop to entries → items ≡ marked_by mark note x ∷ [] → map value_of made ≡ take from (map value_of entries) ++ x ∷ drop to (map value_of entries)
  one_value entries items made x from to is are =
      replaced_values entries items made (x ∷ []) from to is are ∙ append_assoc (take from (map value_of entries)) (x ∷ []) (drop to (map value_of entries))

  pub no_value : (entries none made : List (Marked X)) (from to : ℕ) → made ≡ take from entries ++ none ++ drop to entries → none ≡ [] → map value_of made ≡ take from (map value_of entries) ++ drop to (map value_of entries)
  no_value entries none made from to is empty =
      replaced_values entries none made [] from to is empty ∙ ap (λ z. z ++ drop to (map value_of entries)) (append-nil (take from (map value_of entries)))

  -- the one entry that comes in
  pub marked_item : (x read read' : X) (m n : ℕ) (entry : Marked X) (items : List (Marked X)) → read ≡ x → m ≡ mark read → read' ≡ x → n ≡ note read' → entry ≡ record { mark = m; note = n; value = x } → items ≡ entry ∷ [] → items ≡ marked_by mark note x ∷ []
  marked_item x read read' m n entry items same told same' told' made is =
      is
      ∙ ap (λ z. z ∷ [])
      (made ∙ (ap (λ k. record { mark = k; note = n; value = x }) (told ∙ ap mark same) ∙ ap (λ k. record { mark = mark x; note = k; value = x }) (told' ∙ ap note same')))
