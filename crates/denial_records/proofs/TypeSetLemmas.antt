-- Reading type bit maps block by block, and what the blocks that are left say of a type.
use Rattle.std.proofs.Common.{◌≡◌, ◌≢◌, ◌⊎◌, ℕ, ◌+◌, ◌*◌, ◌/◌, ◌%◌, ◌^◌, ◌<◌, ◌≤◌, zero, suc, Bool, true, false, not, eqb, bit_and, List, [], ◌∷◌, ◌++◌, length, take, drop, get_or, Contains, Decides, refl, sym, ◌∙◌, ap, subst, arith, inl, inr, length-append}
use Rattle.std.specs.List.{range_with_len}
use Rattle.std.proofs.lemmas.List.{take_at, drop_at, get_or_past, nil_from_length}
use Rattle.std.proofs.lemmas.List.Elements.{Contains-append_left, Contains-append_right, Contains-append_cases}
use Rattle.std.proofs.lemmas.Nat.{and_le_l}
use Rattle.std.proofs.lemmas.Bool.{eq-eqb, eqb-true, cases_lt, true≢false}
use Rattle.facts.proofs.Lists.{here, there, here_or_there, nothing_in}
use Rattle.facts.proofs.Filters.{kept, was_kept}
use Rattle.facts.proofs.Maps.{into_map, from_map}
use Rattle.denial_records.specs.TypeSet.{Block, map_of, AreBlocksFrom, has_bit, bits_of, types_of_block, types_of, IsTypeMap, blocks_within, types_in, BeginsWith}

-- ---- blocks give their octets, and octets their blocks

length-map_of : (blocks : List Block) → length blocks ≤ length (map_of blocks)
length-map_of [] = omega arith
length-map_of (block ∷ rest) = omega (arith, length-append block.bitmap (map_of rest), length-map_of rest)

blocks_within-map_of : (n : ℕ) (blocks : List Block) → length blocks ≤ n → blocks_within n (map_of blocks) ≡ blocks
blocks_within-map_of zero [] enough = refl
blocks_within-map_of (suc n) [] enough = refl
blocks_within-map_of zero (block ∷ rest) enough = absurd (omega arith)
blocks_within-map_of (suc n) (block ∷ rest) enough =
    let front = take_at block.bitmap (map_of rest) (length block.bitmap) refl in
    let after : blocks_within n (drop (length block.bitmap) (block.bitmap ++ map_of rest)) ≡ rest =
    ap (blocks_within n) (drop_at block.bitmap (map_of rest) (length block.bitmap) refl) ∙ blocks_within-map_of n rest (omega arith) in
    λ i. record { window = block.window; bitmap = front i } ∷ after i

-- what blocks are written as gives their types back
pub types_in-map_of : (blocks : List Block) → types_in (map_of blocks) ≡ types_of blocks
types_in-map_of blocks = ap types_of (blocks_within-map_of (length (map_of blocks)) blocks (length-map_of blocks))

pub types_in_map : (octets types : List ℕ) → IsTypeMap octets types → types_in octets ≡ types
types_in_map octets types is = ap types_in is.written ∙ types_in-map_of is.blocks ∙ sym is.meaning

pub one_meaning : (octets types types' : List ℕ) → IsTypeMap octets types → IsTypeMap octets types' → types ≡ types'
one_meaning octets types types' is is' = sym (types_in_map octets types is) ∙ types_in_map octets types' is'

pub map_in : (octets types : List ℕ) → IsTypeMap octets types → IsTypeMap octets (types_in octets)
map_in octets types is = subst (IsTypeMap octets) (sym (types_in_map octets types is)) is

-- ---- block by block

-- blocks that begin at or after a window
pub record FormsFrom (least : ℕ) (octets : List ℕ) : Type 0 where
  pub blocks : List Block
  pub written : octets ≡ map_of blocks
  pub formed : AreBlocksFrom least blocks

pub forms_none : (least : ℕ) (octets : List ℕ) → octets ≡ [] → FormsFrom least octets
forms_none least octets none = record { blocks = []; written = none; formed = tt }

pub forms_more : (least : ℕ) (octets : List ℕ) (window : ℕ) (bitmap rest : List ℕ) → BeginsWith least octets window bitmap rest → FormsFrom (window + 1) rest → FormsFrom least octets
forms_more least octets window bitmap rest begins forms = record {
  blocks = record { window = window; bitmap = bitmap } ∷ forms.blocks;
  written = begins.spelled ∙ ap (λ l. window ∷ length bitmap ∷ bitmap ++ l) forms.written;
  formed = (begins.rises, begins.formed, forms.formed);
}

-- one way to read the block at the front
record SameFront (window window' : ℕ) (bitmap bitmap' rest rest' : List ℕ) : Type 0 where
  pub windows : window ≡ window'
  pub bitmaps : bitmap ≡ bitmap'
  pub rests : rest ≡ rest'

one_front : (window window' : ℕ) (bitmap bitmap' rest rest' : List ℕ) → window ∷ length bitmap ∷ bitmap ++ rest ≡ window' ∷ length bitmap' ∷ bitmap' ++ rest' → SameFront window window' bitmap bitmap' rest rest'
one_front window window' bitmap bitmap' rest rest' same =
    let sizes : length bitmap ≡ length bitmap' = cc in
    let tails : bitmap ++ rest ≡ bitmap' ++ rest' = ap (drop 2) same in
    record {
      windows = cc;
      bitmaps = sym (take_at bitmap rest (length bitmap) refl) ∙ ap (take (length bitmap)) tails ∙ take_at bitmap' rest' (length bitmap) (sym sizes);
      rests = sym (drop_at bitmap rest (length bitmap) refl) ∙ ap (drop (length bitmap)) tails ∙ drop_at bitmap' rest' (length bitmap) (sym sizes);
    }

forms_rest_of : (least : ℕ) (window : ℕ) (bitmap rest : List ℕ) (blocks : List Block) → window ∷ length bitmap ∷ bitmap ++ rest ≡ map_of blocks → AreBlocksFrom least blocks → FormsFrom (window + 1) rest
forms_rest_of least window bitmap rest [] written formed = cc
forms_rest_of least window bitmap rest (block ∷ blocks) written formed =
    let same = one_front window block.window bitmap block.bitmap rest (map_of blocks) written in
    record { blocks = blocks; written = same.rests; formed = subst (λ w. AreBlocksFrom (w + 1) blocks) (sym same.windows) formed.2 }

pub forms_rest : (least : ℕ) (octets : List ℕ) (window : ℕ) (bitmap rest : List ℕ) → BeginsWith least octets window bitmap rest → FormsFrom least octets → FormsFrom (window + 1) rest
forms_rest least octets window bitmap rest begins forms =
    forms_rest_of least window bitmap rest forms.blocks (sym begins.spelled ∙ forms.written) forms.formed

begins_of : (least : ℕ) (octets : List ℕ) (blocks : List Block) → octets ≡ map_of blocks → AreBlocksFrom least blocks → octets ≢ [] → ((window : ℕ) (bitmap rest : List ℕ) → ¬ BeginsWith least octets window bitmap rest) → ⊥
begins_of least octets [] written formed some none = some written
begins_of least octets (block ∷ blocks) written formed some none =
    none block.window block.bitmap (map_of blocks) (record { spelled = written; rises = formed.0; formed = formed.1 })

-- octets are blocks only if a block stands at their front
pub no_forms : (least : ℕ) (octets : List ℕ) → octets ≢ [] → ((window : ℕ) (bitmap rest : List ℕ) → ¬ BeginsWith least octets window bitmap rest) → FormsFrom least octets → ⊥
no_forms least octets some none forms = begins_of least octets forms.blocks forms.written forms.formed some none

-- octets are blocks where what is left of them is
pub record HasLeft (octets : List ℕ) (least : ℕ) (rest : List ℕ) : Type 0 where
  pub into : FormsFrom least rest → FormsFrom 0 octets
  pub back : FormsFrom 0 octets → FormsFrom least rest

pub left_all : (octets : List ℕ) → HasLeft octets 0 octets
left_all octets = record { into = λ h. h; back = λ h. h }

pub left_less : (octets : List ℕ) (least : ℕ) (rest : List ℕ) (window : ℕ) (bitmap after : List ℕ) → HasLeft octets least rest → BeginsWith least rest window bitmap after → HasLeft octets (window + 1) after
left_less octets least rest window bitmap after left begins = record {
  into = λ h. left.into (forms_more least rest window bitmap after begins h);
  back = λ h. forms_rest least rest window bitmap after begins (left.back h);
}

pub map_from_forms : (octets : List ℕ) → FormsFrom 0 octets → (types : List ℕ) × IsTypeMap octets types
map_from_forms octets forms = (types_of forms.blocks, record { blocks = forms.blocks; written = forms.written; formed = forms.formed; meaning = refl })

pub forms_from_map : (octets types : List ℕ) → IsTypeMap octets types → FormsFrom 0 octets
forms_from_map octets types is = record { blocks = is.blocks; written = is.written; formed = is.formed }

-- ---- what stands in a range

in_range : (a n x : ℕ) → Contains (range_with_len a n) x → (a ≤ x) × (x < a + n)
in_range a zero x h = absurd (nothing_in x h)
in_range a (suc n) x h = elim (here_or_there a (range_with_len (a + 1) n) x h) [
  | inl is ↦ (omega (arith, is), omega (arith, is))
  | inr h ↦ (let more = in_range (a + 1) n x h in (omega (arith, more.0), omega (arith, more.1)))
]

to_range : (a n x : ℕ) → a ≤ x → x < a + n → Contains (range_with_len a n) x
to_range a zero x low high = absurd (omega arith)
to_range a (suc n) x low high = elim (cases_lt a x) [
  | inl above ↦ there a (range_with_len (a + 1) n) x (to_range (a + 1) n x (omega (arith, above)) (omega (arith, high)))
  | inr at ↦ (let is : a ≡ x = omega (arith, at, low) in subst (Contains (a ∷ range_with_len (a + 1) n)) is (here a (range_with_len (a + 1) n)))
]

-- ---- the types of a block

-- past the bitmap's end no bit is set
no_octet : (bitmap : List ℕ) (bit : ℕ) → length bitmap ≤ bit / 8 → has_bit bitmap bit ≡ false
no_octet bitmap bit past =
    let octet = get_or_past bitmap (bit / 8) 0 past in
    let none : bit_and (get_or bitmap (bit / 8) 0) (128 / 2 ^ (bit % 8)) ≡ 0 =
    omega (arith, octet, and_le_l (get_or bitmap (bit / 8) 0) (128 / 2 ^ (bit % 8))) in
    ap not (eq-eqb _ 0 none)

pub bit_within : (bitmap : List ℕ) (bit : ℕ) → has_bit bitmap bit ≡ true → bit < 8 * length bitmap
bit_within bitmap bit is = elim (cases_lt bit (8 * length bitmap)) [
  | inl within ↦ within
  | inr past ↦ absurd (true≢false (sym is ∙ no_octet bitmap bit (omega (arith, past))))
]

in_block : (window : ℕ) (bitmap : List ℕ) (t : ℕ) → length bitmap ≤ 32 → Contains (types_of_block (record { window = window; bitmap = bitmap })) t → (window ≡ t / 256) × (has_bit bitmap (t % 256) ≡ true)
in_block window bitmap t short h =
    let found = from_map (λ bit. 256 * window + bit) (bits_of bitmap) t h in
    let set = was_kept (has_bit bitmap) (range_with_len 0 (8 * length bitmap)) found.0 found.1 in
    let within = in_range 0 (8 * length bitmap) found.0 set.0 in
    let bit : found.0 ≡ t % 256 = omega (arith, found.2, within.1, short) in
    (omega (arith, found.2, within.1, short), subst (λ b. has_bit bitmap b ≡ true) bit set.1)

to_block : (window : ℕ) (bitmap : List ℕ) (t : ℕ) → window ≡ t / 256 → has_bit bitmap (t % 256) ≡ true → Contains (types_of_block (record { window = window; bitmap = bitmap })) t
to_block window bitmap t same set =
    let within : t % 256 < 8 * length bitmap = bit_within bitmap (t % 256) set in
    let found = kept (has_bit bitmap) (range_with_len 0 (8 * length bitmap)) (t % 256) (to_range 0 (8 * length bitmap) (t % 256) (omega arith) (omega (arith, within))) set in
    let is : 256 * window + t % 256 ≡ t = omega (arith, same) in
    subst (Contains (types_of_block (record { window = window; bitmap = bitmap }))) is (into_map (λ bit. 256 * window + bit) (bits_of bitmap) (t % 256) found)

-- types are in windows at or after the first block's
in_blocks : (least : ℕ) (blocks : List Block) (t : ℕ) → AreBlocksFrom least blocks → Contains (types_of blocks) t → least ≤ t / 256
in_blocks least [] t formed h = absurd (nothing_in t h)
in_blocks least (block ∷ rest) t formed h = elim (Contains-append_cases (types_of_block block) (types_of rest) t h) [
  | inl h ↦ omega (arith, formed.0, (in_block block.window block.bitmap t formed.1.short h).0)
  | inr h ↦ omega (arith, formed.0, in_blocks (block.window + 1) rest t formed.2 h)
]

-- ---- looking a type up

-- the type is in the set where it is in what is left of the blocks
pub record IsLookedUpIn (types : List ℕ) (t : ℕ) (rest : List ℕ) : Type 0 where
  pub least : ℕ
  pub blocks : List Block
  pub written : rest ≡ map_of blocks
  pub formed : AreBlocksFrom least blocks
  pub into : Contains (types_of blocks) t → Contains types t
  pub back : Contains types t → Contains (types_of blocks) t

pub look_first : (octets types : List ℕ) (t : ℕ) → IsTypeMap octets types → IsLookedUpIn types t octets
look_first octets types t is = record {
  least = 0;
  blocks = is.blocks;
  written = is.written;
  formed = is.formed;
  into = subst (λ l. Contains l t) (sym is.meaning);
  back = subst (λ l. Contains l t) is.meaning;
}

-- the block at the front is the first of the blocks that are left
record SplitsBlock (window : ℕ) (bitmap after : List ℕ) (blocks : List Block) : Type 0 where
  pub more : List Block
  pub is : blocks ≡ record { window = window; bitmap = bitmap } ∷ more
  pub written : after ≡ map_of more
  pub formed : AreBlocksFrom (window + 1) more

splits_block : (least window : ℕ) (bitmap after : List ℕ) (blocks : List Block) → window ∷ length bitmap ∷ bitmap ++ after ≡ map_of blocks → AreBlocksFrom least blocks → SplitsBlock window bitmap after blocks
splits_block least window bitmap after [] written formed = cc
splits_block least window bitmap after (block ∷ blocks) written formed =
    let same = one_front window block.window bitmap block.bitmap after (map_of blocks) written in
    let windows = sym same.windows in
    let bitmaps = sym same.bitmaps in
    record {
      more = blocks;
      is = λ i. record { window = windows i; bitmap = bitmaps i } ∷ blocks;
      written = same.rests;
      formed = subst (λ w. AreBlocksFrom (w + 1) blocks) windows formed.2;
    }

split_left : (types : List ℕ) (t : ℕ) (rest : List ℕ) (window : ℕ) (bitmap after : List ℕ) (left : IsLookedUpIn types t rest) → BeginsWith 0 rest window bitmap after → SplitsBlock window bitmap after left.blocks
split_left types t rest window bitmap after left begins =
    splits_block left.least window bitmap after left.blocks (sym begins.spelled ∙ left.written) left.formed

in_first : (window : ℕ) (bitmap : List ℕ) (more : List Block) (t : ℕ) → Contains (types_of (record { window = window; bitmap = bitmap } ∷ more)) t → Contains (types_of_block (record { window = window; bitmap = bitmap })) t ⊎ Contains (types_of more) t
in_first window bitmap more t h = Contains-append_cases (types_of_block (record { window = window; bitmap = bitmap })) (types_of more) t h

-- a type that is in no window before the front's block is in that block
pub found_here : (types : List ℕ) (t : ℕ) (rest : List ℕ) (window : ℕ) (bitmap after : List ℕ) → IsLookedUpIn types t rest → BeginsWith 0 rest window bitmap after → t / 256 ≤ window → Contains types t → (window ≡ t / 256) × (has_bit bitmap (t % 256) ≡ true)
found_here types t rest window bitmap after left begins low h =
    let split = split_left types t rest window bitmap after left begins in
    elim (in_first window bitmap split.more t (subst (λ b. Contains (types_of b) t) split.is (left.back h))) [
      | inl h ↦ in_block window bitmap t begins.formed.short h
      | inr h ↦ (let later = in_blocks (window + 1) split.more t split.formed h in absurd (omega (arith, later, low)))
    ]

-- the block of the type's window decides
pub look_here : (types : List ℕ) (t : ℕ) (rest : List ℕ) (window : ℕ) (bitmap after : List ℕ) (r : Bool) → IsLookedUpIn types t rest → BeginsWith 0 rest window bitmap after → window ≡ t / 256 → r ≡ has_bit bitmap (t % 256) → Decides r (Contains types t)
look_here types t rest window bitmap after r left begins same is =
    let split = split_left types t rest window bitmap after left begins in (
      λ set. left.into (subst (λ b. Contains (types_of b) t) (sym split.is)
          (Contains-append_left (types_of_block (record { window = window; bitmap = bitmap })) (types_of split.more) t (to_block window bitmap t same (sym is ∙ set)))),
      λ h. is ∙ (found_here types t rest window bitmap after left begins (omega (arith, same)) h).1,
    )

-- a block that hasn't the type says nothing of it
pub look_past_none : (types : List ℕ) (t : ℕ) (rest : List ℕ) (window : ℕ) (bitmap after : List ℕ) → IsLookedUpIn types t rest → BeginsWith 0 rest window bitmap after → (window ≡ t / 256 → has_bit bitmap (t % 256) ≡ true → ⊥) → IsLookedUpIn types t after
look_past_none types t rest window bitmap after left begins none =
    let split = split_left types t rest window bitmap after left begins in
    record {
      least = window + 1;
      blocks = split.more;
      written = split.written;
      formed = split.formed;
      into = λ h. left.into (subst (λ b. Contains (types_of b) t) (sym split.is)
          (Contains-append_right (types_of_block (record { window = window; bitmap = bitmap })) (types_of split.more) t h));
      back = λ h. elim (in_first window bitmap split.more t (subst (λ b. Contains (types_of b) t) split.is (left.back h))) [
        | inl h ↦ (let at = in_block window bitmap t begins.formed.short h in absurd (none at.0 at.1))
        | inr h ↦ h
      ];
    }

-- a block of another window says nothing of it
pub look_past : (types : List ℕ) (t : ℕ) (rest : List ℕ) (window : ℕ) (bitmap after : List ℕ) → IsLookedUpIn types t rest → BeginsWith 0 rest window bitmap after → window ≢ t / 256 → IsLookedUpIn types t after
look_past types t rest window bitmap after left begins other = look_past_none types t rest window bitmap after left begins (λ same _. other same)

none_left : (least : ℕ) (rest : List ℕ) (blocks : List Block) (t : ℕ) → rest ≡ map_of blocks → AreBlocksFrom least blocks → ((window : ℕ) (bitmap after : List ℕ) → ¬ BeginsWith 0 rest window bitmap after) → Contains (types_of blocks) t → ⊥
none_left least rest [] t written formed none h = nothing_in t h
none_left least rest (block ∷ blocks) t written formed none h =
    none block.window block.bitmap (map_of blocks) (record { spelled = written; rises = omega arith; formed = formed.1 })

-- where no block is left, it isn't in the set
pub look_end : (types : List ℕ) (t : ℕ) (rest : List ℕ) → IsLookedUpIn types t rest → ((window : ℕ) (bitmap after : List ℕ) → ¬ BeginsWith 0 rest window bitmap after) → Contains types t → ⊥
look_end types t rest left none h = none_left left.least rest left.blocks t left.written left.formed none (left.back h)

-- what `is_empty` says of octets
pub empty_from : (octets : List ℕ) → true ≡ eqb (length octets) 0 → octets ≡ []
empty_from octets is = nil_from_length octets (eqb-true (length octets) 0 (sym is))

pub some_from : (octets : List ℕ) → false ≡ eqb (length octets) 0 → octets ≢ []
some_from octets is none = true≢false (sym (eq-eqb (length octets) 0 (ap length none)) ∙ sym is)
