-- Where clap's walk finds no fault, the words give each option its value.
use Rattle.std.proofs.Common.{◌≡◌, inl, inr, ℕ, Bool, true, false, cond, not, List, [], ◌∷◌, ◌++◌, map, filter, fold, Option, None, Some, refl, sym, ◌∙◌, ap, subst, option_and_then, slice_get, unwrap_or}
use Rattle.std.specs.List.{list_any}
use Rattle.std.specs.Option.{option_map_or}
use Rattle.std.specs.Str.{bytes_eq}
use Rattle.std.proofs.lemmas.Bool.{or_parts}
use Rattle.std.proofs.lemmas.Option.{none-some}
use Rattle.clap.specs.Lexer.{long_of, short_of}
use Rattle.clap.specs.Walk.{Row, Rule, Walk, idle, arg_by_long, first_of, has_row, settled, settled_rows, used_by_id, walked}
use Rattle.clap.specs.Faults.{react_fault, settle_fault, turn_fault, use_fault, walk_fault}
use Rattle.clap.specs.declared.error.kind.ErrorKind.TheVariants as kind
use Rattle.command_line.specs.Words.{Word, Setting, IsValue, Sets, two, one, Gives, nothing, first}
use Rattle.command_line.specs.Options.{dashed, dashes, plain_name}
use Rattle.command_line.proofs.LexerLemmas.{Lexed, alone, joined, hyphen, plain, lexed, differs, equal, apart}
use Rattle.command_line.proofs.BuildLemmas.{IsFound, Passes, end_of, built_option, first_use, found, left_none, look, look_kept, look_last, no_index, no_short, options, other_row, right_none, row, shape, some_kind, this_row, used_once}
use Rattle.command_line.proofs.StepLemmas.{alone_fault, alone_next, at, held, joined_fault, joined_next, mid, never_settles, raw, stray_hyphen, stray_plain, unknown_fault, waits}

abbrev pub Given : Type 0
Given = Setting × ℕ

abbrev pub name_in : Given → Word
name_in given = plain_name given.0

-- the options that have no row yet
abbrev pub left : List Given → List Row → List Given
left all rows = filter (λ given. not (has_row (name_in given) rows)) all

-- the name is none of theirs
abbrev pub Apart : Word → List Given → Type 0
Apart name [] = Unit {0}
Apart name (given ∷ all) = (bytes_eq name (name_in given) ≡ false) × Apart name all

-- no two have one name
abbrev pub Distinct : List Given → Type 0
Distinct [] = Unit {0}
Distinct (given ∷ all) = Apart (name_in given) all × Distinct all

-- the text in the option's row
abbrev pub text_in : Word → List Row → Word
text_in name rows = unwrap_or (first_of name rows) []

-- in the end the option's row has its value
pub record IsGood (last : List Row) (given : Given) : Type 0 where
  pub named : given.0.name ≡ dashed (name_in given)
  pub has : has_row (name_in given) last ≡ true
  pub value : IsValue given.0 (text_in (name_in given) last) given.1

abbrev pub AllGood : List Row → List Given → Type 0
AllGood last [] = Unit {0}
AllGood last (given ∷ all) = IsGood last given × AllGood last all

-- ---- an option that has no row yet

pub record IsLeft (all : List Given) (rows last : List Row) (name text : Word) : Type 0 where
  pub before : List Given
  pub after : List Given
  pub given : Given
  pub is : name_in given ≡ name
  pub good : IsGood last given
  pub now : left all rows ≡ before ++ given ∷ after
  pub next : left all (rows ++ row name text ∷ []) ≡ before ++ after

unchanged : (all : List Given) (rows : List Row) (name text : Word) → Apart name all → left all (rows ++ row name text ∷ []) ≡ left all rows
unchanged [] rows name text other = refl
unchanged (given ∷ all) rows name text other =
    λ i. cond (not (other_row name (name_in given) text rows other.0 i)) (given ∷ unchanged all rows name text other.1 i) (unchanged all rows name text other.1 i)

one_more : (t : Bool) (given : Given) (xs before : List Given) (x : Given) (after : List Given) → xs ≡ before ++ x ∷ after → cond t (given ∷ xs) xs ≡ cond t (given ∷ before) before ++ x ∷ after
one_more true given xs before x after is = ap (λ l. given ∷ l) is
one_more false given xs before x after is = is

one_less : (t : Bool) (given : Given) (xs before after : List Given) → xs ≡ before ++ after → cond t (given ∷ xs) xs ≡ cond t (given ∷ before) before ++ after
one_less true given xs before after is = ap (λ l. given ∷ l) is
one_less false given xs before after is = is

left_here : (given : Given) (all : List Given) (rows last : List Row) (name text : Word) → Apart (name_in given) all → IsGood last given → has_row name rows ≡ false → name_in given ≡ name → IsLeft (given ∷ all) rows last name text
left_here given all rows last name text other good none is =
    let here : has_row (name_in given) rows ≡ false = ap (λ n. has_row n rows) is ∙ none in
    let then : has_row (name_in given) (rows ++ row name text ∷ []) ≡ true = ap (λ n. has_row n (rows ++ row name text ∷ [])) is ∙ this_row name text rows in
    record {
      before = [];
      after = left all rows;
      given = given;
      is = is;
      good = good;
      now = ap (λ t. cond (not t) (given ∷ left all rows) (left all rows)) here;
      next = ap (λ t. cond (not t) (given ∷ left all (rows ++ row name text ∷ [])) (left all (rows ++ row name text ∷ []))) then
          ∙ unchanged all rows name text (subst (λ n. Apart n all) is other);
    }

left_later : (given : Given) (all : List Given) (rows last : List Row) (name text : Word) → bytes_eq (name_in given) name ≡ false → IsLeft all rows last name text → IsLeft (given ∷ all) rows last name text
left_later given all rows last name text unlike l =
    let t = not (has_row (name_in given) rows) in
    let unlike' : bytes_eq name (name_in given) ≡ false = differs name (name_in given) (λ e. apart (name_in given) name unlike (sym e)) in
    record {
      before = cond t (given ∷ l.before) l.before;
      after = l.after;
      given = l.given;
      is = l.is;
      good = l.good;
      now = one_more t given (left all rows) l.before l.given l.after l.now;
      next = ap (λ b. cond (not b) (given ∷ left all (rows ++ row name text ∷ [])) (left all (rows ++ row name text ∷ []))) (other_row name (name_in given) text rows unlike')
          ∙ one_less t given (left all (rows ++ row name text ∷ [])) l.before l.after l.next;
    }

abbrev pub names_of : List Given → List Word
names_of all = map name_in all

left_by : (t : Bool) (given : Given) (all : List Given) (rows last : List Row) (name text : Word) → bytes_eq (name_in given) name ≡ t → Distinct (given ∷ all) → AllGood last (given ∷ all)
    → arg_by_long (options (names_of (given ∷ all))) name ≡ Some (built_option name) → has_row name rows ≡ false
    → (arg_by_long (options (names_of all)) name ≡ Some (built_option name) → IsLeft all rows last name text) → IsLeft (given ∷ all) rows last name text
left_by true given all rows last name text e distinct good is none later = left_here given all rows last name text distinct.0 good.0 none (equal (name_in given) name e)
left_by false given all rows last name text e distinct good is none later = left_later given all rows last name text e (later (rw e at is))

pub is_left : (all : List Given) (rows last : List Row) (name text : Word) → Distinct all → AllGood last all → arg_by_long (options (names_of all)) name ≡ Some (built_option name) → has_row name rows ≡ false → IsLeft all rows last name text
is_left [] rows last name text distinct good is none = absurd (none-some (built_option name) is)
is_left (given ∷ all) rows last name text distinct good is none =
    left_by (bytes_eq (name_in given) name) given all rows last name text refl distinct good is none (λ here. is_left all rows last name text distinct.1 good.1 here none)

-- in the end none is left, and at first all are
none_left : (all : List Given) (last : List Row) → AllGood last all → left all last ≡ []
none_left [] last good = refl
none_left (given ∷ all) last good = ap (λ t. cond (not t) (given ∷ left all last) (left all last)) good.0.has ∙ none_left all last good.1

pub all_left : (all : List Given) → left all [] ≡ all
all_left [] = refl
all_left (given ∷ all) = ap (λ l. given ∷ l) (all_left all)

-- ---- the walk

-- what the words give from here on, where the walk over them finds no fault
pub record Reads (all : List Given) (last rows : List Row) (pending : Option (Word × Word)) (words : List Word) : Type 0 where
  pub settles : settle_fault (options (names_of all)) false (held rows (raw pending)) ≡ []
  pub gives : Gives (left all (settled_rows (options (names_of all)) (raw pending) rows)) words
  pub kept : (name : Word) (r : Row) → look name (settled_rows (options (names_of all)) (raw pending) rows) ≡ Some r → look name last ≡ Some r

module _ (all : List Given) (last : List Row) (distinct : Distinct all) (good : AllGood last all) where
  abbrev rules : List Rule
  rules = options (names_of all)

  abbrev Sound : List Word → Type 0
  Sound words = (rows : List Row) (pending : Option (Word × Word)) → list_any (λ word. bytes_eq word dashes) words ≡ false
      → walk_fault (shape rules) [] (at rows (raw pending) idle) words ≡ []
      → settle_fault rules false (fold (walked rules []) (at rows (raw pending) idle) words).held ≡ []
      → (settled rules (fold (walked rules []) (at rows (raw pending) idle) words).held).rows ≡ last → Reads all last rows pending words

  sound_none : Sound []
  sound_none rows pending bare passed settles is = record {
    settles = settles;
    gives = nothing (left all (settled_rows rules (raw pending) rows)) [] (ap (left all) is ∙ none_left all last good) refl;
    kept = λ name r there. subst (λ x. look name x ≡ Some r) is there;
  }

  -- a word that is a fault
  stray : (word : Word) (rest : List Word) → ((rows : List Row) (pending : Option (Word × Word)) → bytes_eq word dashes ≡ false → turn_fault (shape rules) [] (at rows (raw pending) idle) word ≡ kind.UnknownArgument ∷ []) → Sound (word ∷ rest)
  unfolding walk_fault
  stray word rest fault rows pending bare passed settles is =
      absurd (some_kind kind.UnknownArgument []
      (sym (fault rows pending (or_parts (bytes_eq word dashes) (list_any (λ w. bytes_eq w dashes) rest) bare).0)
      ∙ left_none (turn_fault (shape rules) [] (at rows (raw pending) idle) word) (walk_fault (shape rules) [] (walked rules [] (at rows (raw pending) idle) word) rest) passed))

  -- one more option has its text
  pub record Goes (rows : List Row) (front rest : List Word) : Type 0 where
    pub gives : Gives (left all rows) (front ++ rest)
    pub kept : (name : Word) (r : Row) → look name rows ≡ Some r → look name last ≡ Some r

  goes : (rows : List Row) (name text : Word) (front rest : List Word) → arg_by_long rules name ≡ Some (built_option name) → has_row name rows ≡ false
      → ((setting : Setting) (value : ℕ) → setting.name ≡ dashed name → IsValue setting text value → Sets setting value front)
      → Gives (left all (rows ++ row name text ∷ [])) rest
      → ((other : Word) (r : Row) → look other (rows ++ row name text ∷ []) ≡ Some r → look other last ≡ Some r) → Goes rows front rest
  goes rows name text front rest found none sets gives kept =
      let l = is_left all rows last name text distinct good found none in
      let seen = kept name (row name text) (look_last name text rows none) in
      let spelled : text_in (name_in l.given) last ≡ text = ap (λ n. text_in n last) l.is ∙ ap (λ o. unwrap_or (option_and_then (λ (r : Row). slice_get r.values 0) o) []) seen in
      record {
        gives = first (left all rows) l.before l.after l.given.0 l.given.1 (front ++ rest) front rest l.now refl
            (sets l.given.0 l.given.1 (l.good.named ∙ ap dashed l.is) (subst (λ t. IsValue l.given.0 t l.given.1) spelled l.good.value))
            (subst (λ g. Gives g rest) l.next gives);
        kept = λ other r there. kept other r (look_kept other rows (row name text ∷ []) r there);
      }

  -- a word and the rest of the walk pass together
  turned : (walk : Walk) (word : Word) (rest : List Word) → walk_fault (shape rules) [] walk (word ∷ rest) ≡ []
      → (turn_fault (shape rules) [] walk word ≡ []) × (walk_fault (shape rules) [] (walked rules [] walk word) rest ≡ [])
  unfolding walk_fault
  turned walk word rest passed = (
    left_none (turn_fault (shape rules) [] walk word) (walk_fault (shape rules) [] (walked rules [] walk word) rest) passed,
    right_none (turn_fault (shape rules) [] walk word) (walk_fault (shape rules) [] (walked rules [] walk word) rest) passed,
  )

  abbrev passes_from : List Word → Walk → Type 0
  passes_from words walk = walk_fault (shape rules) [] walk words ≡ []

  abbrev settles_from : List Word → Walk → Type 0
  settles_from words walk = settle_fault rules false (fold (walked rules []) walk words).held ≡ []

  abbrev ends_from : List Word → Walk → Type 0
  ends_from words walk = (settled rules (fold (walked rules []) walk words).held).rows ≡ last

  -- `--name=text`
  joined_step : (word : Word) (rest : List Word) (name text : Word) → word ≡ dashed name ++ 61 ∷ text → long_of word ≡ Some (name, Some text) → IsFound (names_of all) name → Sound rest → Sound (word ∷ rest)
  joined_step word rest name text spelled long (inl none) more = stray word rest (λ rows pending other. unknown_fault rules rows (raw pending) idle word other name (Some text) long none)
  joined_step word rest name text spelled long (inr some) more = λ rows pending bare passed settles is.
      let bares = or_parts (bytes_eq word dashes) (list_any (λ w. bytes_eq w dashes) rest) bare in
      let after = settled_rows rules (raw pending) rows in
      let turn = turned (at rows (raw pending) idle) word rest passed in
      let react = left_none (react_fault rules false (built_option name) (text ∷ []) (held rows (raw pending))) [] (sym (joined_fault rules rows (raw pending) idle word bares.0 name text long some.0) ∙ turn.0) in
      let none = first_use name text after (right_none (settle_fault rules false (held rows (raw pending))) (use_fault false (built_option name) (text ∷ []) after) react) in
      let next = joined_next rules rows (raw pending) idle word bares.0 name text long some.0 ∙ ap (λ r. at r None idle) (used_once name text after none) in
      let ih = more (after ++ row name text ∷ []) None bares.1 (subst (passes_from rest) next turn.1) (subst (settles_from rest) next settles) (subst (ends_from rest) next is) in
      let g = goes after name text (word ∷ []) rest some.0 none (λ setting value named valued. one text valued (ap (λ w. w ∷ []) (spelled ∙ ap (λ n. n ++ 61 ∷ text) (sym named)))) ih.gives ih.kept in
      record {
        settles = left_none (settle_fault rules false (held rows (raw pending))) (use_fault false (built_option name) (text ∷ []) after) react;
        gives = g.gives;
        kept = g.kept;
      }

  -- `--name` with nothing behind
  alone_last : (word name : Word) → long_of word ≡ Some (name, None) → IsFound (names_of all) name → Sound (word ∷ [])
  alone_last word name long (inl none) = stray word [] (λ rows pending other. unknown_fault rules rows (raw pending) idle word other name None long none)
  alone_last word name long (inr some) = λ rows pending bare passed settles is.
      let other = (or_parts (bytes_eq word dashes) (list_any (λ w. bytes_eq w dashes) []) bare).0 in
      absurd (never_settles rules (settled_rows rules (raw pending) rows) name some.1
      (subst (settles_from []) (alone_next rules rows (raw pending) idle word other name long some.0) settles))

  -- `--name text`
  alone_step : (word second : Word) (rest : List Word) (name : Word) → word ≡ dashed name → long_of word ≡ Some (name, None) → IsFound (names_of all) name → Sound rest → Sound (word ∷ second ∷ rest)
  alone_step word second rest name spelled long (inl none) more = stray word (second ∷ rest) (λ rows pending other. unknown_fault rules rows (raw pending) idle word other name None long none)
  alone_step word second rest name spelled long (inr some) more = λ rows pending bare passed settles is.
      let bares = or_parts (bytes_eq word dashes) (list_any (λ w. bytes_eq w dashes) (second ∷ rest)) bare in
      let others = or_parts (bytes_eq second dashes) (list_any (λ w. bytes_eq w dashes) rest) bares.1 in
      let after = settled_rows rules (raw pending) rows in
      let turn = turned (at rows (raw pending) idle) word (second ∷ rest) passed in
      let next = alone_next rules rows (raw pending) idle word bares.0 name long some.0 in
      let turn' = turned (waits after name) second rest (subst (passes_from (second ∷ rest)) next turn.1) in
      let next' = mid (names_of all) after name second others.0 some.1 turn'.0 in
      let both = ap (λ walk. walked rules [] walk second) next ∙ next' in
      let ih = more after (Some (name, second)) others.1 (subst (passes_from rest) next' turn'.1) (subst (settles_from rest) both settles) (subst (ends_from rest) both is) in
      let none = first_use name second after (ap (λ o. option_map_or (λ (a : Rule). use_fault false a (second ∷ []) after) o []) (sym some.1) ∙ ih.settles) in
      let then : settled_rows rules (raw (Some (name, second))) after ≡ after ++ row name second ∷ [] = ap (λ o. used_by_id o (second ∷ []) after) some.1 ∙ used_once name second after none in
      let g = goes after name second (word ∷ second ∷ []) rest some.0 none (λ setting value named valued. two second valued (ap (λ w. w ∷ second ∷ []) (spelled ∙ sym named)))
      (subst (λ r. Gives (left all r) rest) then ih.gives) (λ other r there. ih.kept other r (subst (λ x. look other x ≡ Some r) (sym then) there)) in
      record {
        settles = left_none (settle_fault rules false (held rows (raw pending))) [] (sym (alone_fault rules rows (raw pending) idle word bares.0 name long some.0) ∙ turn.0);
        gives = g.gives;
        kept = g.kept;
      }

  stray_by : (word : Word) (rest : List Word) (octet : ℕ) (flags : Word) → long_of word ≡ None → short_of word ≡ Some (octet ∷ flags) → Sound (word ∷ rest)
  stray_by word rest octet flags long short = stray word rest (λ rows pending other. stray_hyphen rules rows (raw pending) word other long (no_index (names_of all) 1) octet flags short (no_short (names_of all)))

  stray_plainly : (word : Word) (rest : List Word) → long_of word ≡ None → short_of word ≡ None → Sound (word ∷ rest)
  stray_plainly word rest long short = stray word rest (λ rows pending other. stray_plain rules rows (raw pending) word other long (no_index (names_of all) 1) short)

  sound_one : (word : Word) → Lexed word → Sound (word ∷ [])
  sound_one word (alone name spelled long) = alone_last word name long (found (names_of all) name)
  sound_one word (joined name text spelled long) = joined_step word [] name text spelled long (found (names_of all) name) sound_none
  sound_one word (hyphen octet flags long short) = stray_by word [] octet flags long short
  sound_one word (plain long short) = stray_plainly word [] long short

  sound_more : (word second : Word) (rest : List Word) → Lexed word → Sound rest → Sound (second ∷ rest) → Sound (word ∷ second ∷ rest)
  sound_more word second rest (alone name spelled long) more next = alone_step word second rest name spelled long (found (names_of all) name) more
  sound_more word second rest (joined name text spelled long) more next = joined_step word (second ∷ rest) name text spelled long (found (names_of all) name) next
  sound_more word second rest (hyphen octet flags long short) more next = stray_by word (second ∷ rest) octet flags long short
  sound_more word second rest (plain long short) more next = stray_plainly word (second ∷ rest) long short

  sound : (words : List Word) → Sound words
  sound [] = sound_none
  sound (word ∷ []) = sound_one word (lexed word)
  sound (word ∷ second ∷ rest) = sound_more word second rest (lexed word) (sound rest) (sound (second ∷ rest))

  -- without a fault, the words give each option its value
  pub all_given : (words : List Word) → list_any (λ word. bytes_eq word dashes) words ≡ false → Passes (names_of all) words → (settled rules (end_of rules words)).rows ≡ last → Gives all words
  all_given words bare passed is = subst (λ l. Gives l words) (all_left all) (sound words [] None bare passed.walked passed.settles is).gives
