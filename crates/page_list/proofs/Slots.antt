-- Blocks in a row with their ends and marks.
use Rattle.std.proofs.Common.{◌≡◌, ℕ, suc, ◌+◌, ◌-◌, ◌<◌, ◌≤◌, List, [], ◌∷◌, ◌++◌, length, get_or, set, take, drop, map, append_assoc, length-append, inl, inr, arith, refl, sym, ap, ◌∙◌, subst}
use Rattle.std.proofs.lemmas.List.{append-nil, map-append, length-map, get_or-map, get_or-take, get_or-drop, get_or-append_right, get_or_append_left, length-take, length-drop, take-map, drop-map, take-set, drop-set, take-append-drop}
use Rattle.std.proofs.Math.Seq.{get_or-append_seam}
use Rattle.std.specs.List.{flat_map}
use Rattle.page_list.specs.Rows.{IsEnds, IsFirstMarks, IsShelf, IsShelved, Shelved, block_of, end_of, first_mark_of, shifted}
use Rattle.page_list.proofs.Rows.{AreMoved, HasEnds, HasEnds-push, IsEnds-set, at_mapped, block_end, end_is_past, length_more, nat_cases}
use Rattle.page_list.proofs.Marks.{IsFirstMarks-push, IsFirstMarks-set, starts_with}

-- what is seen of slots that are taken from others
pub seen_before : {X : Type 0} (slots front all : List (Shelved X)) (xs : List X) (p : ℕ) → front ≡ take p all → all ≡ slots → map block_of slots ≡ xs → map block_of front ≡ take p xs
seen_before slots front all xs p is same shown =
    ap (map block_of) (is ∙ ap (take p) same) ∙ (sym (take-map block_of p slots) ∙ ap (take p) shown)

pub seen_from : {X : Type 0} (slots back all : List (Shelved X)) (xs : List X) (p : ℕ) → back ≡ drop p all → all ≡ slots → map block_of slots ≡ xs → map block_of back ≡ drop p xs
seen_from slots back all xs p is same shown =
    ap (map block_of) (is ∙ ap (drop p) same) ∙ (sym (drop-map block_of p slots) ∙ ap (drop p) shown)

-- the slots made so far, and the end of the last of them
pub record HasSlots {X A : Type 0} (mark_of : A → ℕ) (f : X → List A) (slots : List (Shelved X)) (end : ℕ) : Type 0 where
  pub ends : HasEnds f (map block_of slots) (map end_of slots) end
  pub marks : IsFirstMarks mark_of f (map block_of slots) (map first_mark_of slots)

pub HasSlots-none : {X A : Type 0} (mark_of : A → ℕ) (f : X → List A) → HasSlots mark_of f [] 0
HasSlots-none mark_of f = record {
  ends = record { all = record { one_each = refl; sums = λ k lt. absurd (omega arith) }; last = refl };
  marks = record { one_each = refl; some = λ k d lt. absurd (omega arith); first = λ k d a lt. absurd (omega arith) };
}

pub HasSlots-push : {X A : Type 0} (mark_of : A → ℕ) (f : X → List A) (slots slots' : List (Shelved X)) (end end' : ℕ) (slot : Shelved X) (b : X) → slots' ≡ slots ++ slot ∷ [] → end' ≡ slot.end → IsShelved mark_of f b end slot → HasSlots mark_of f slots end → HasSlots mark_of f slots' end'
HasSlots-push mark_of f slots slots' end end' slot b new e is was =
    let blocks : map block_of slots' ≡ map block_of slots ++ slot.block ∷ [] = ap (map block_of) new ∙ map-append block_of slots (slot ∷ []) in
    let ends' : map end_of slots' ≡ map end_of slots ++ end' ∷ [] = ap (map end_of) new ∙ (map-append end_of slots (slot ∷ []) ∙ ap (λ n. map end_of slots ++ n ∷ []) (sym e)) in
    let marks' : map first_mark_of slots' ≡ map first_mark_of slots ++ slot.mark ∷ [] = ap (map first_mark_of) new ∙ map-append first_mark_of slots (slot ∷ []) in
    record {
      ends = rw (blocks, ends') (HasEnds-push f (map block_of slots) (map end_of slots) end (length (f slot.block)) end' slot.block refl (e ∙ (is.long ∙ ap (λ z. end + length (f z)) (sym is.same))) was.ends);
      marks = rw (blocks, marks') (IsFirstMarks-push mark_of f (map block_of slots) (map first_mark_of slots) slot.block slot.mark (subst (λ z. 0 < length (f z)) (sym is.same) is.some) (λ a. is.first a ∙ ap (λ z. mark_of (get_or (f z) 0 a)) (sym is.same)) was.marks);
    }

pub HasSlots-done : {X A : Type 0} (mark_of : A → ℕ) (f : X → List A) (slots : List (Shelved X)) (end : ℕ) → HasSlots mark_of f slots end → IsShelf mark_of f slots
HasSlots-done mark_of f slots end has = record { ends = has.ends.all; marks = has.marks }

in_slots : {X : Type 0} (slots : List (Shelved X)) (xs : List X) (p : ℕ) → map block_of slots ≡ xs → p < length xs → p < length slots
in_slots slots xs p shown h = omega (arith, ap length shown, length-map slots block_of)

-- where the block p starts there is an entry, whose mark stands in the slot
pub shelf_first : {X A : Type 0} (mark_of : A → ℕ) (f : X → List A) (slots : List (Shelved X)) (xs : List X) (p own : ℕ) (slot : Shelved X) → map block_of slots ≡ xs → IsShelf mark_of f slots → p < length xs → slot ≡ get_or slots p slot → own ≡ slot.mark → (length (flat_map f (take p xs)) < length (flat_map f xs)) × ((a : A) → own ≡ mark_of (get_or (flat_map f xs) (length (flat_map f (take p xs))) a))
shelf_first mark_of f slots xs p own slot shown shelf h is e =
    starts_with mark_of f xs (map first_mark_of slots) p own (subst (λ z. IsFirstMarks mark_of f z (map first_mark_of slots)) shown shelf.marks) h (sym (at_mapped first_mark_of slots p slot own (in_slots slots xs p shown h) is e own))

pub shelf_end : {X A : Type 0} (mark_of : A → ℕ) (f : X → List A) (slots : List (Shelved X)) (xs : List X) (p end : ℕ) (slot : Shelved X) → map block_of slots ≡ xs → IsShelf mark_of f slots → p < length xs → slot ≡ get_or slots p slot → end ≡ slot.end → end ≡ length (flat_map f (take (p + 1) xs))
shelf_end mark_of f slots xs p end slot shown shelf h is e =
    block_end f xs (map end_of slots) p end (subst (λ z. IsEnds f z (map end_of slots)) shown shelf.ends) h (sym (at_mapped end_of slots p slot end (in_slots slots xs p shown h) is e end))

pub parts_set : {Y : Type 0} (ys : List Y) (p : ℕ) (y : Y) → p < length ys → take p ys ++ y ∷ drop (p + 1) ys ≡ set ys p y
parts_set ys p y h =
    ap (λ z. z ++ y ∷ drop (p + 1) ys) (sym (take-set ys p y)) ∙ (ap (λ z. take p (set ys p y) ++ z) (sym (drop-set ys p y h)) ∙ take-append-drop p (set ys p y))

stays : {X Y : Type 0} (v : Shelved X → Y) → ((slot : Shelved X) (old new : ℕ) → v (shifted old new slot) ≡ v slot) → (old new : ℕ) (slots : List (Shelved X)) → map v (map (shifted old new) slots) ≡ map v slots
stays v same old new [] = refl
stays v same old new (slot ∷ slots) =
    ap (λ z. z ∷ map v (map (shifted old new) slots)) (same slot old new) ∙ ap (λ z. v slot ∷ z) (stays v same old new slots)

abbrev pub shift_end : ℕ → ℕ → ℕ → ℕ
shift_end old new end = end - old + new

ends_move : {X : Type 0} (old new : ℕ) (slots : List (Shelved X)) → map end_of (map (shifted old new) slots) ≡ map (shift_end old new) (map end_of slots)
ends_move old new [] = refl
ends_move old new (slot ∷ slots) = ap (λ z. (slot.end - old + new) ∷ z) (ends_move old new slots)

ends_stay : (ends : List ℕ) → map (shift_end 0 0) ends ≡ ends
ends_stay [] = refl
ends_stay (end ∷ ends) =
    let same : shift_end 0 0 end ≡ end = unmoved end in
    ap (λ z. z ∷ map (shift_end 0 0) ends) same ∙ ap (λ z. end ∷ z) (ends_stay ends)
  where
    unmoved : (n : ℕ) → n - 0 + 0 ≡ n
    unmoved n = omega arith

moved_parts : (ends : List ℕ) (p old new end was : ℕ) → p < length ends → was ≡ get_or ends p 0 → end + old ≡ was + new → ((k : ℕ) → p ≤ k → k < length ends → old ≤ get_or ends k 0) → AreMoved ends p old new (take p ends ++ end ∷ map (shift_end old new) (drop (p + 1) ends))
moved_parts ends p old new end was h is e past =
    let back : List ℕ = map (shift_end old new) (drop (p + 1) ends) in
    let long : length (take p ends) ≡ p = omega (arith, length-take p ends) in
    record {
      one_each = omega (arith, length-append (take p ends) (end ∷ back), long, length-map (drop (p + 1) ends) (shift_end old new), length-drop (p + 1) ends);
      before = λ k lt. get_or_append_left (take p ends) (end ∷ back) 0 k (omega (arith, long)) ∙ get_or-take p ends k 0 lt;
      behind = λ k le lt. elim (nat_cases k p) [
        | inl same ↦
            (let at : get_or (take p ends ++ end ∷ back) k 0 ≡ end =
            ap (λ n. get_or (take p ends ++ end ∷ back) n 0) (same ∙ sym long) ∙ get_or-append_seam (take p ends) end back 0 in
            let old_at : get_or ends k 0 ≡ was = ap (λ n. get_or ends n 0) same ∙ sym is in
            omega (arith, at, old_at, e))
        | inr apart ↦
            (let j : ℕ = k - p - 1 in
            let next : k - p ≡ suc j = omega arith in
            let at : get_or (take p ends ++ end ∷ back) k 0 ≡ get_or back j 0 =
            get_or-append_right (take p ends) (end ∷ back) p k 0 long le ∙ ap (λ n. get_or (end ∷ back) n 0) next in
            let in_back : j < length (drop (p + 1) ends) = omega (arith, length-drop (p + 1) ends) in
            let mapped : get_or back j 0 ≡ shift_end old new (get_or (drop (p + 1) ends) j 0) = get_or-map (shift_end old new) (drop (p + 1) ends) j 0 0 in_back in
            let dropped : get_or (drop (p + 1) ends) j 0 ≡ get_or ends k 0 = get_or-drop (p + 1) ends j 0 ∙ ap (λ n. get_or ends n 0) (back_at p k le apart) in
            let moved : shift_end old new (get_or (drop (p + 1) ends) j 0) ≡ get_or ends k 0 - old + new = ap (shift_end old new) dropped in
            omega (arith, at, mapped, moved, past k le lt))
      ];
    }
  where
    back_at : (p k : ℕ) → p ≤ k → (k ≡ p → ⊥) → p + 1 + (k - p - 1) ≡ k
    back_at p k le apart = elim (nat_cases k p) [ inl same ↦ absurd (apart same) | inr _ ↦ omega arith ]

-- the slots of a row in which a block stands in the place of another one
module _ {X A : Type 0} (mark_of : A → ℕ) (f : X → List A) (slots all : List (Shelved X)) (xs : List X) (p old new start : ℕ) (slot : Shelved X) (b b' : X) (shown : map block_of slots ≡ xs) (h : p < length xs) (whole : all ≡ map (shifted 0 0) (take p slots) ++ slot ∷ map (shifted old new) (drop (p + 1) slots)) (is' : IsShelved mark_of f b' start slot) where
  seen_set : {Y : Type 0} (v : Shelved X → Y) → ((s : Shelved X) (o n : ℕ) → v (shifted o n s) ≡ v s) → map v all ≡ set (map v slots) p (v slot)
  seen_set v same =
      ap (map v) whole
      ∙ (map-append v (map (shifted 0 0) (take p slots)) (slot ∷ map (shifted old new) (drop (p + 1) slots))
      ∙ (ap (λ z. z ++ v slot ∷ map v (map (shifted old new) (drop (p + 1) slots))) (stays v same 0 0 (take p slots))
      ∙ (ap (λ z. map v (take p slots) ++ v slot ∷ z) (stays v same old new (drop (p + 1) slots))
      ∙ (ap (λ z. z ++ v slot ∷ map v (drop (p + 1) slots)) (sym (take-map v p slots))
      ∙ (ap (λ z. take p (map v slots) ++ v slot ∷ z) (sym (drop-map v (p + 1) slots)) ∙ parts_set (map v slots) p (v slot) (rw (length-map slots v) (in_slots slots xs p shown h)))))))

  pub exchanged_blocks : map block_of all ≡ set xs p b'
  exchanged_blocks = seen_set block_of (λ s o n. refl) ∙ (ap (λ z. set (map block_of slots) p z) is'.same ∙ ap (λ z. set z p b') shown)

  pub exchanged_shelf : IsShelf mark_of f slots → start ≡ length (flat_map f (take p xs)) → b ≡ get_or xs p b → old ≡ length (f b) → new ≡ length (f b') → IsShelf mark_of f all
  exchanged_shelf shelf is_start is is_old is_new =
      let ends : IsEnds f xs (map end_of slots) = subst (λ z. IsEnds f z (map end_of slots)) shown shelf.ends in
      let marks : IsFirstMarks mark_of f xs (map first_mark_of slots) = subst (λ z. IsFirstMarks mark_of f z (map first_mark_of slots)) shown shelf.marks in
      let parts : map end_of all ≡ take p (map end_of slots) ++ slot.end ∷ map (shift_end old new) (drop (p + 1) (map end_of slots)) =
      ap (map end_of) whole
      ∙ (map-append end_of (map (shifted 0 0) (take p slots)) (slot ∷ map (shifted old new) (drop (p + 1) slots))
      ∙ (ap (λ z. z ++ slot.end ∷ map end_of (map (shifted old new) (drop (p + 1) slots))) (ends_move 0 0 (take p slots) ∙ (ends_stay (map end_of (take p slots)) ∙ sym (take-map end_of p slots)))
      ∙ ap (λ z. take p (map end_of slots) ++ slot.end ∷ z) (ends_move old new (drop (p + 1) slots) ∙ ap (map (shift_end old new)) (sym (drop-map end_of (p + 1) slots))))) in
      let in_ends : p < length (map end_of slots) = rw (length-map slots end_of) (in_slots slots xs p shown h) in
      let there : slot.end + old ≡ get_or (map end_of slots) p 0 + new = omega (arith, is'.long, is_start, is_old, is_new, ends.sums p h, length_more f xs p b h (sym is)) in
      let moved : AreMoved (map end_of slots) p old new (map end_of all) =
      subst (AreMoved (map end_of slots) p old new) (sym parts) (moved_parts (map end_of slots) p old new slot.end (get_or (map end_of slots) p 0) in_ends refl there (λ k le lt. end_is_past f xs (map end_of slots) p old k b h is is_old ends le lt)) in
      record {
        ends = subst (λ z. IsEnds f z (map end_of all)) (sym exchanged_blocks) (IsEnds-set f xs (map end_of slots) (map end_of all) p old new b b' h is is_old is_new moved ends);
        marks = rw (exchanged_blocks, seen_set first_mark_of (λ s o n. refl)) (IsFirstMarks-set mark_of f xs (map first_mark_of slots) p slot.mark b' h is'.some is'.first marks);
      }

pub three_parts : {X : Type 0} (none one two all first last : List X) (x : X) → none ≡ [] → one ≡ none ++ first → two ≡ one ++ x ∷ [] → all ≡ two ++ last → all ≡ first ++ x ∷ last
three_parts none one two all first last x e0 e1 e2 e3 =
    e3 ∙ (ap (λ z. z ++ last) (e2 ∙ ap (λ z. z ++ x ∷ []) (e1 ∙ ap (λ z. z ++ first) e0)) ∙ append_assoc first (x ∷ []) last)

-- one block more is shelved
pub shelved_more : {X Y Z : Type 0} (v : X → Y) (w : Z → Y) (os os' : List X) (rest rest' : List Z) (whole : List Y) (x : X) (z : Z) → os' ≡ os ++ x ∷ [] → rest ≡ z ∷ rest' → v x ≡ w z → map v os ++ map w rest ≡ whole → map v os' ++ map w rest' ≡ whole
shelved_more v w os os' rest rest' whole x z new next same was =
    ap (λ l. map v l ++ map w rest') new
    ∙ (ap (λ l. l ++ map w rest') (map-append v os (x ∷ []))
    ∙ (append_assoc (map v os) (v x ∷ []) (map w rest')
    ∙ (ap (λ y. map v os ++ y ∷ map w rest') same ∙ (ap (λ l. map v os ++ map w l) (sym next) ∙ was))))

pub shelved_done : {Y Z : Type 0} (ys : List Y) (w : Z → Y) (rest : List Z) (whole : List Y) → rest ≡ [] → ys ++ map w rest ≡ whole → ys ≡ whole
shelved_done ys w rest whole none was = sym (append-nil ys) ∙ (ap (λ l. ys ++ map w l) (sym none) ∙ was)
