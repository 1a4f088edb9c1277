-- Rows that are changed where they lie.
use Rattle.std.proofs.Common.{◌≡◌, ℕ, ◌+◌, ◌-◌, ◌^◌, ◌<◌, ◌≤◌, List, [], ◌∷◌, ◌++◌, length, get_or, set, take, drop, map, append_assoc, arith, refl, sym, ap, ◌∙◌}
use Rattle.std.proofs.lemmas.List.{append-nil, length-map, get_or-map, get_or_read, length-set, get_or-set_same, get_or-set_other, take_more_set, drop-set-lt, drop_more, drop_all, take_all}
use Rattle.std.specs.List.{flat_map}
use Rattle.page_list.specs.Rows.{IsSeam, IsShelf, IsShelved, Shelved, block_of, end_of, shifted}
use Rattle.page_list.proofs.Rows.{length_all, length_along, length_more, mapped_in, replaced_whole}
use Rattle.page_list.proofs.Marks.{length_replaced}
use Rattle.page_list.proofs.Slots.{exchanged_blocks, exchanged_shelf}

-- the values from a place on are changed, up to the place i
pub record HasChanged {Y : Type 0} (w : Y → Y) (was : List Y) (from i : ℕ) (now : List Y) : Type 0 where
  pub order : from ≤ i
  pub long : length now ≡ length was
  pub rest : (k : ℕ) (d : Y) → i ≤ k → get_or now k d ≡ get_or was k d
  pub whole : take i now ++ map w (drop i now) ≡ take from was ++ map w (drop from was)

pub HasChanged-none : {Y : Type 0} (w : Y → Y) (was : List Y) (from : ℕ) → HasChanged w was from from was
HasChanged-none w was from = record { order = omega arith; long = refl; rest = λ k d le. refl; whole = refl }

pub HasChanged-more : {Y : Type 0} (w : Y → Y) (was now now' : List Y) (from i : ℕ) (x y : Y) → i < length now → x ≡ get_or now i x → y ≡ w x → now' ≡ set now i y → HasChanged w was from i now → HasChanged w was from (i + 1) now'
HasChanged-more w was now now' from i x y lt is e new has = record {
  order = omega (arith, has.order);
  long = ap length new ∙ (length-set now i y ∙ has.long);
  rest = λ k d le. ap (λ z. get_or z k d) new ∙ (get_or-set_other now i k y d (λ same. omega (arith, same)) ∙ has.rest k d (omega arith));
  whole =
      ap (λ z. take (i + 1) z ++ map w (drop (i + 1) z)) new
      ∙ (ap (λ z. z ++ map w (drop (i + 1) (set now i y))) (take_more_set now i y lt)
      ∙ (ap (λ z. (take i now ++ y ∷ []) ++ map w z) (drop-set-lt (i + 1) now i y (omega arith))
      ∙ (append_assoc (take i now) (y ∷ []) (map w (drop (i + 1) now))
      ∙ (ap (λ z. take i now ++ z ∷ map w (drop (i + 1) now)) (e ∙ ap w is) ∙ (ap (λ z. take i now ++ map w z) (sym (drop_more now i x lt)) ∙ has.whole)))));
}

pub HasChanged-end : {Y : Type 0} (w : Y → Y) (was now : List Y) (from i : ℕ) → length now ≤ i → HasChanged w was from i now → now ≡ take from was ++ map w (drop from was)
HasChanged-end w was now from i le has =
    sym (ap (λ z. z ++ map w (drop i now)) (take_all i now le) ∙ (ap (λ z. now ++ map w z) (drop_all i now le) ∙ append-nil now)) ∙ has.whole

-- the block in a slot is that of the row
block_is : {X : Type 0} (slots : List (Shelved X)) (p : ℕ) (was : Shelved X) → p < length slots → was ≡ get_or slots p was → was.block ≡ get_or (map block_of slots) p was.block
block_is slots p was h is = ap block_of is ∙ sym (get_or-map block_of slots p was was.block h)

slot_end : {X A : Type 0} (mark_of : A → ℕ) (f : X → List A) (slots : List (Shelved X)) (k : ℕ) (d : Shelved X) → IsShelf mark_of f slots → k < length slots → (get_or slots k d).end ≡ length (flat_map f (take (k + 1) (map block_of slots)))
slot_end mark_of f slots k d shelf h = sym (get_or-map end_of slots k d 0 h) ∙ shelf.ends.sums k (mapped_in block_of slots k h)

-- where the block in a slot starts
pub slot_start : {X A : Type 0} (mark_of : A → ℕ) (f : X → List A) (slots : List (Shelved X)) (p old : ℕ) (was : Shelved X) → IsShelf mark_of f slots → p < length slots → was ≡ get_or slots p was → old ≡ length (f was.block) → was.end ≡ length (flat_map f (take p (map block_of slots))) + old
slot_start mark_of f slots p old was shelf h is is_old =
    ap end_of is
    ∙ (slot_end mark_of f slots p was shelf h
    ∙ (length_more f (map block_of slots) p was.block (mapped_in block_of slots p h) (sym (block_is slots p was h is)) ∙ ap (λ n. length (flat_map f (take p (map block_of slots))) + n) (sym is_old)))

-- no end is greater than that of all
pub slot_total : {X A : Type 0} (mark_of : A → ℕ) (f : X → List A) (slots : List (Shelved X)) (k : ℕ) (d : Shelved X) → IsShelf mark_of f slots → k < length slots → (get_or slots k d).end ≤ length (flat_map f (map block_of slots))
slot_total mark_of f slots k d shelf h =
    let xs : List _ = map block_of slots in
    omega (arith, slot_end mark_of f slots k d shelf h, length-map slots block_of, length_along f xs (k + 1) (length xs) (omega (arith, mapped_in block_of slots k h)), length_all f xs (length xs) (omega arith))

-- each end from a block's on is no less than its length
slot_past : {X A : Type 0} (mark_of : A → ℕ) (f : X → List A) (slots : List (Shelved X)) (p old k : ℕ) (was d : Shelved X) → IsShelf mark_of f slots → p < length slots → was ≡ get_or slots p was → old ≡ length (f was.block) → p ≤ k → k < length slots → old ≤ (get_or slots k d).end
slot_past mark_of f slots p old k was d shelf h is is_old le lt =
    omega (arith, slot_start mark_of f slots p old was shelf h is is_old, ap end_of is, slot_end mark_of f slots p was shelf h, slot_end mark_of f slots k d shelf lt, length_along f (map block_of slots) (p + 1) (k + 1) (omega arith))

end_behind : {X : Type 0} (slots now : List (Shelved X)) (p k : ℕ) (slot d : Shelved X) → now ≡ set slots p slot → p + 1 ≤ k → (get_or now k d).end ≡ (get_or slots k d).end
end_behind slots now p k slot d new le =
    ap (λ z. (get_or z k d).end) new ∙ ap end_of (get_or-set_other slots p k slot d (λ same. omega (arith, same)))

pub long_behind : {X A : Type 0} (mark_of : A → ℕ) (f : X → List A) (slots now : List (Shelved X)) (p old : ℕ) (was slot : Shelved X) → IsShelf mark_of f slots → p < length slots → was ≡ get_or slots p was → old ≡ length (f was.block) → now ≡ set slots p slot → (k : ℕ) (d : Shelved X) → p + 1 ≤ k → k < length now → old ≤ (get_or now k d).end
long_behind mark_of f slots now p old was slot shelf h is is_old new k d le lt =
    omega (arith, end_behind slots now p k slot d new le, slot_past mark_of f slots p old k was d shelf h is is_old (omega arith) (omega (arith, ap length new, length-set slots p slot)))

pub room_behind : {X A : Type 0} (mark_of : A → ℕ) (f : X → List A) (slots now : List (Shelved X)) (p old new n : ℕ) (was slot : Shelved X) → IsShelf mark_of f slots → p < length slots → was ≡ get_or slots p was → old ≡ length (f was.block) → now ≡ set slots p slot → new ≤ old + n → length (flat_map f (map block_of slots)) + n < 2 ^ 64 → (k : ℕ) (d : Shelved X) → p + 1 ≤ k → k < length now → (get_or now k d).end - old + new < 2 ^ 64
room_behind mark_of f slots now p old new n was slot shelf h is is_old e few room k d le lt =
    let in_slots : k < length slots = omega (arith, ap length e, length-set slots p slot) in
    omega (arith, end_behind slots now p k slot d e le, slot_past mark_of f slots p old k was d shelf h is is_old (omega arith) in_slots, slot_total mark_of f slots k d shelf in_slots)

-- what a slot is read as, twice
pub read_same : {X : Type 0} (xs : List X) (p : ℕ) (x y : X) → p < length xs → x ≡ get_or xs p x → y ≡ get_or xs p y → x ≡ y
read_same xs p x y h is_x is_y = get_or_read xs p x h is_x y ∙ sym is_y

pub old_is : {X A : Type 0} (f : X → List A) (slots : List (Shelved X)) (p old : ℕ) (read was : Shelved X) (block shared : X) → p < length slots → read ≡ get_or slots p read → was ≡ get_or slots p was → block ≡ shared → shared ≡ read.block → old ≡ length (f block) → old ≡ length (f was.block)
old_is f slots p old read was block shared h is_read is same has e =
    e ∙ ap (λ z. length (f z)) (same ∙ (has ∙ ap block_of (read_same slots p read was h is_read is)))

pub new_is : {X A : Type 0} (f : X → List A) (slots : List (Shelved X)) (p new : ℕ) (read slot : Shelved X) (block shared : X) → p < length slots → read ≡ get_or (set slots p slot) p read → block ≡ shared → shared ≡ read.block → new ≡ length (f block) → new ≡ length (f slot.block)
new_is f slots p new read slot block shared h is_read same has e =
    e ∙ ap (λ z. length (f z)) (same ∙ (has ∙ ap block_of (is_read ∙ get_or-set_same slots p slot read h)))

-- a block doesn't grow by more than what comes in
pub few_more : {X A : Type 0} (f : X → List A) (slots : List (Shelved X)) (p old new x y : ℕ) (items : List A) (was slot : Shelved X) → was ≡ get_or slots p was → old ≡ length (f was.block) → new ≡ length (f slot.block) → x ≤ y → ((d : Shelved X) → y ≤ length (f (get_or slots p d).block)) → f slot.block ≡ take x (f was.block) ++ items ++ drop y (f was.block) → new ≤ old + length items
few_more f slots p old new x y items was slot is is_old is_new order in_block made =
    let within : y ≤ length (f was.block) = omega (arith, in_block was, ap (λ z. length (f z.block)) is) in
    omega (arith, is_old, is_new, within, order, length_replaced (f was.block) items (f slot.block) x y (length items) (x + length items + (length (f was.block) - y)) made order within refl refl)

same_slots : {X : Type 0} (slots : List (Shelved X)) → map (shifted 0 0) slots ≡ slots
same_slots [] = refl
same_slots (slot ∷ slots) =
    ap (λ n. record { block = slot.block; end = n; mark = slot.mark } ∷ map (shifted 0 0) slots) (unmoved slot.end) ∙ ap (λ z. slot ∷ z) (same_slots slots)
  where
    unmoved : (n : ℕ) → n - 0 + 0 ≡ n
    unmoved n = omega arith

-- a slot stands in the place of another one, and those behind it are shifted
slots_whole : {X : Type 0} (slots now all : List (Shelved X)) (p old new : ℕ) (slot : Shelved X) → p < length slots → now ≡ set slots p slot → all ≡ take (p + 1) now ++ map (shifted old new) (drop (p + 1) now) → all ≡ map (shifted 0 0) (take p slots) ++ slot ∷ map (shifted old new) (drop (p + 1) slots)
slots_whole slots now all p old new slot h e whole =
    whole
    ∙ (ap (λ z. take (p + 1) z ++ map (shifted old new) (drop (p + 1) z)) e
    ∙ (ap (λ z. z ++ map (shifted old new) (drop (p + 1) (set slots p slot))) (take_more_set slots p slot h)
    ∙ (ap (λ z. (take p slots ++ slot ∷ []) ++ map (shifted old new) z) (drop-set-lt (p + 1) slots p slot (omega arith))
    ∙ (append_assoc (take p slots) (slot ∷ []) (map (shifted old new) (drop (p + 1) slots)) ∙ ap (λ z. z ++ slot ∷ map (shifted old new) (drop (p + 1) slots)) (sym (same_slots (take p slots)))))))

module _ {X A : Type 0} (mark_of : A → ℕ) (f : X → List A) (slots now all : List (Shelved X)) (p old new start : ℕ) (was slot : Shelved X) (h : p < length slots) (is : was ≡ get_or slots p was) (e : now ≡ set slots p slot) (whole : all ≡ take (p + 1) now ++ map (shifted old new) (drop (p + 1) now)) (is' : IsShelved mark_of f slot.block start slot) where
  pub changed_shelf : IsShelf mark_of f slots → start + old ≡ was.end → old ≡ length (f was.block) → new ≡ length (f slot.block) → IsShelf mark_of f all
  changed_shelf shelf is_start is_old is_new =
      exchanged_shelf mark_of f slots all (map block_of slots) p old new start slot was.block slot.block refl (mapped_in block_of slots p h) (slots_whole slots now all p old new slot h e whole) is' shelf
      (omega (arith, slot_start mark_of f slots p old was shelf h is is_old)) (block_is slots p was h is) is_old is_new

  pub changed_entries : (items : List A) (x y from to : ℕ) → f slot.block ≡ take x (f was.block) ++ items ++ drop y (f was.block) → IsSeam f (map block_of slots) from p x → IsSeam f (map block_of slots) to p y → flat_map f (map block_of all) ≡ take from (flat_map f (map block_of slots)) ++ items ++ drop to (flat_map f (map block_of slots))
  changed_entries items x y from to made first last =
      replaced_whole f (map block_of slots) (map block_of all) items from to p x y was.block slot.block first last (block_is slots p was h is) made
      (exchanged_blocks mark_of f slots all (map block_of slots) p old new start slot was.block slot.block refl (mapped_in block_of slots p h) (slots_whole slots now all p old new slot h e whole) is')
