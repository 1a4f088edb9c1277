-- Where the words give each option its value, clap's walk finds no fault, and these values.
use Rattle.std.proofs.Common.{◌≡◌, ℕ, true, false, List, [], ◌∷◌, ◌++◌, fold, Option, None, Some, refl, sym, ◌∙◌, ap, subst}
use Rattle.std.specs.List.{list_any}
use Rattle.std.specs.Option.{option_map_or}
use Rattle.std.specs.Str.{bytes_eq}
use Rattle.std.proofs.lemmas.Bool.{or_from}
use Rattle.clap.specs.Walk.{Row, Rule, Walk, idle, arg_by_id, arg_by_long, has_row, settled, settled_rows, used_by_id, walked}
use Rattle.clap.specs.Faults.{react_fault, settle_fault, turn_fault, use_fault, walk_fault}
use Rattle.command_line.specs.Words.{Word, Setting, IsValue, Sets, two, one, Gives, nothing, first}
use Rattle.command_line.specs.Options.{dashed, dashes, is_name, plain_name}
use Rattle.command_line.proofs.LexerLemmas.{differs, apart, joined_not_dashes, long_alone, long_joined, name_not_dashes, numeral_plain}
use Rattle.command_line.proofs.BuildLemmas.{Passes, both_none, built_option, end_of, look, look_kept, look_last, no_fault, options, other_row, row, shape, used_once}
use Rattle.command_line.proofs.StepLemmas.{alone_fault, alone_next, at, held, joined_fault, joined_next, raw, taken_fault, taken_next, takes, waits}
use Rattle.command_line.proofs.SoundLemmas.{Apart, Given, name_in}

abbrev pub IsKnown : List Word → Word → Type 0
IsKnown names name = (arg_by_long (options names) name ≡ Some (built_option name)) × (arg_by_id (options names) name ≡ Some (built_option name))

-- an option of the program that has no row yet
pub record IsReady (names : List Word) (rows : List Row) (given : Given) : Type 0 where
  pub named : given.0.name ≡ dashed (name_in given)
  pub proper : is_name (name_in given) ≡ true
  pub known : IsKnown names (name_in given)
  pub free : has_row (name_in given) rows ≡ false

abbrev pub Ready : List Word → List Row → List Given → Type 0
Ready names rows [] = Unit {0}
Ready names rows (given ∷ all) = IsReady names rows given × Apart (name_in given) all × Ready names rows all

-- in the end the option's row has the value's text
pub record IsDone (last : List Row) (given : Given) : Type 0 where
  pub text : Word
  pub seen : look (name_in given) last ≡ Some (row (name_in given) text)
  pub value : IsValue given.0 text given.1

abbrev pub AllDone : List Row → List Given → Type 0
AllDone last [] = Unit {0}
AllDone last (given ∷ all) = IsDone last given × AllDone last all

-- ---- one option is taken out, and put back

still_ready : (names : List Word) (rows : List Row) (name text : Word) (given : Given) → bytes_eq name (name_in given) ≡ false → IsReady names rows given → IsReady names (rows ++ row name text ∷ []) given
still_ready names rows name text given other ready = record { named = ready.named; proper = ready.proper; known = ready.known; free = other_row name (name_in given) text rows other ∙ ready.free }

all_still : (names : List Word) (rows : List Row) (name text : Word) (all : List Given) → Apart name all → Ready names rows all → Ready names (rows ++ row name text ∷ []) all
all_still names rows name text [] other ready = tt
all_still names rows name text (given ∷ all) other ready = (still_ready names rows name text given other.0 ready.0, ready.1, all_still names rows name text all other.1 ready.2)

apart_at : (name : Word) (before : List Given) (given : Given) (after : List Given) → Apart name (before ++ given ∷ after) → (bytes_eq name (name_in given) ≡ false) × Apart name (before ++ after)
apart_at name [] given after other = other
apart_at name (b ∷ before) given after other = let rest = apart_at name before given after other.1 in (rest.0, (other.0, rest.1))

swapped : (a b : Word) → bytes_eq a b ≡ false → bytes_eq b a ≡ false
swapped a b e = differs b a (λ is. apart a b e (sym is))

take_out : (names : List Word) (rows : List Row) (before : List Given) (given : Given) (after : List Given) (text : Word) → Ready names rows (before ++ given ∷ after)
    → IsReady names rows given × Ready names (rows ++ row (name_in given) text ∷ []) (before ++ after)
take_out names rows [] given after text ready = (ready.0, all_still names rows (name_in given) text after ready.1 ready.2)
take_out names rows (b ∷ before) given after text ready =
    let others = apart_at (name_in b) before given after ready.1 in
    let rest = take_out names rows before given after text ready.2 in
    (rest.0, (still_ready names rows (name_in given) text b (swapped (name_in b) (name_in given) others.0) ready.0, others.1, rest.1))

put_in : (last : List Row) (before : List Given) (given : Given) (after : List Given) → IsDone last given → AllDone last (before ++ after) → AllDone last (before ++ given ∷ after)
put_in last [] given after done all = (done, all)
put_in last (b ∷ before) given after done all = (all.0, put_in last before given after done all.1)

-- ---- the walk

module _ (names : List Word) where
  abbrev rules : List Rule
  rules = options names

  abbrev end_from : Walk → List Word → List Row
  end_from walk words = (settled rules (fold (walked rules []) walk words).held).rows

  pub record Done (rows : List Row) (all : List Given) (walk : Walk) (words : List Word) : Type 0 where
    pub bare : list_any (λ word. bytes_eq word dashes) words ≡ false
    pub passes : walk_fault (shape rules) [] walk words ≡ []
    pub settles : settle_fault rules false (fold (walked rules []) walk words).held ≡ []
    pub read : AllDone (end_from walk words) all
    pub kept : (name : Word) (r : Row) → look name rows ≡ Some r → look name (end_from walk words) ≡ Some r

  -- one more word
  onward : (walk next : Walk) (word : Word) (words : List Word) → turn_fault (shape rules) [] walk word ≡ [] → walked rules [] walk word ≡ next → walk_fault (shape rules) [] next words ≡ [] → walk_fault (shape rules) [] walk (word ∷ words) ≡ []
  unfolding walk_fault
  onward walk next word words turn is rest = both_none (turn_fault (shape rules) [] walk word) (walk_fault (shape rules) [] (walked rules [] walk word) words) turn (ap (λ w. walk_fault (shape rules) [] w words) is ∙ rest)

  -- the option with which the words go on is put in
  goes_on : (rows : List Row) (before : List Given) (given : Given) (after : List Given) (text : Word) (walk : Walk) (words : List Word) → has_row (name_in given) rows ≡ false → IsValue given.0 text given.1
      → AllDone (end_from walk words) (before ++ after) → ((name : Word) (r : Row) → look name (rows ++ row (name_in given) text ∷ []) ≡ Some r → look name (end_from walk words) ≡ Some r)
      → AllDone (end_from walk words) (before ++ given ∷ after)
  goes_on rows before given after text walk words none value read kept =
      put_in (end_from walk words) before given after
      (record { text = text; seen = kept (name_in given) (row (name_in given) text) (look_last (name_in given) text rows none); value = value }) read

  abbrev pub Full : List Given → List Word → Type 0
  Full all words = (rows : List Row) (pending : Option (Word × Word)) → settle_fault rules false (held rows (raw pending)) ≡ [] → Ready names (settled_rows rules (raw pending) rows) all
      → Done (settled_rows rules (raw pending) rows) all (at rows (raw pending) idle) words

  full_none : Full [] []
  unfolding walk_fault
  full_none rows pending settles ready = record { bare = refl; passes = refl; settles = settles; read = tt; kept = λ name r there. there }

  -- `--name=text`
  full_joined : (before after : List Given) (setting : Setting) (value : ℕ) (text : Word) (back : List Word) → IsValue setting text value → Full (before ++ after) back
      → Full (before ++ (setting, value) ∷ after) ((dashed (plain_name setting) ++ 61 ∷ text) ∷ back)
  full_joined before after setting value text back is more = λ rows pending settles ready.
      let name = plain_name setting in
      let word = dashed name ++ 61 ∷ text in
      let now = settled_rows rules (raw pending) rows in
      let parts = take_out names now before (setting, value) after text ready in
      let proper = parts.0.proper in
      let other = joined_not_dashes name text proper in
      let long = long_joined name text proper in
      let next = joined_next rules rows (raw pending) idle word other name text long parts.0.known.0 ∙ ap (λ r. at r None idle) (used_once name text now parts.0.free) in
      let turn = joined_fault rules rows (raw pending) idle word other name text long parts.0.known.0
      ∙ both_none (react_fault rules false (built_option name) (text ∷ []) (held rows (raw pending))) []
      (both_none (settle_fault rules false (held rows (raw pending))) (use_fault false (built_option name) (text ∷ []) now) settles (no_fault name text now parts.0.free)) refl in
      let ih = more (now ++ row name text ∷ []) None refl parts.1 in
      let end : end_from (at (now ++ row name text ∷ []) None idle) back ≡ end_from (at rows (raw pending) idle) (word ∷ back) = ap (λ w. end_from w back) (sym next) in
      record {
        bare = or_from (bytes_eq word dashes) (list_any (λ w. bytes_eq w dashes) back) other ih.bare;
        passes = onward (at rows (raw pending) idle) (at (now ++ row name text ∷ []) None idle) word back turn next ih.passes;
        settles = subst (λ w. settle_fault rules false (fold (walked rules []) w back).held ≡ []) (sym next) ih.settles;
        read = subst (λ l. AllDone l (before ++ (setting, value) ∷ after)) end (goes_on now before (setting, value) after text (at (now ++ row name text ∷ []) None idle) back parts.0.free is ih.read ih.kept);
        kept = λ n r there. subst (λ l. look n l ≡ Some r) end (ih.kept n r (look_kept n now (row name text ∷ []) r there));
      }

  -- `--name text`
  full_alone : (before after : List Given) (setting : Setting) (value : ℕ) (text : Word) (back : List Word) → IsValue setting text value → Full (before ++ after) back
      → Full (before ++ (setting, value) ∷ after) (dashed (plain_name setting) ∷ text ∷ back)
  full_alone before after setting value text back is more = λ rows pending settles ready.
      let name = plain_name setting in
      let word = dashed name in
      let now = settled_rows rules (raw pending) rows in
      let parts = take_out names now before (setting, value) after text ready in
      let proper = parts.0.proper in
      let other = name_not_dashes name proper in
      let long = long_alone name proper in
      let simple = numeral_plain text is.digits in
      let next = alone_next rules rows (raw pending) idle word other name long parts.0.known.0 in
      let turn = alone_fault rules rows (raw pending) idle word other name long parts.0.known.0 ∙ both_none (settle_fault rules false (held rows (raw pending))) [] settles refl in
      let next' = taken_next rules now name text simple.dashes simple.long parts.0.known.1 simple.short in
      let turn' = taken_fault rules now name text simple.dashes simple.long parts.0.known.1 simple.short in
      let both = ap (λ w. walked rules [] w text) next ∙ next' in
      let then : settled_rows rules (raw (Some (name, text))) now ≡ now ++ row name text ∷ [] = ap (λ o. used_by_id o (text ∷ []) now) parts.0.known.1 ∙ used_once name text now parts.0.free in
      let ih = more now (Some (name, text))
      (ap (λ o. option_map_or (λ (a : Rule). use_fault false a (text ∷ []) now) o []) parts.0.known.1 ∙ no_fault name text now parts.0.free)
      (subst (λ r. Ready names r (before ++ after)) (sym then) parts.1) in
      let kept = λ (n : Word) (r : Row) (there : look n (now ++ row name text ∷ []) ≡ Some r). ih.kept n r (subst (λ x. look n x ≡ Some r) (sym then) there) in
      let end : end_from (takes now name text) back ≡ end_from (at rows (raw pending) idle) (word ∷ text ∷ back) = ap (λ w. end_from w back) (sym both) in
      record {
        bare = or_from (bytes_eq word dashes) (list_any (λ w. bytes_eq w dashes) (text ∷ back)) other (or_from (bytes_eq text dashes) (list_any (λ w. bytes_eq w dashes) back) simple.dashes ih.bare);
        passes = onward (at rows (raw pending) idle) (waits now name) word (text ∷ back) turn next (onward (waits now name) (takes now name text) text back turn' next' ih.passes);
        settles = subst (λ w. settle_fault rules false (fold (walked rules []) w back).held ≡ []) (sym both) ih.settles;
        read = subst (λ l. AllDone l (before ++ (setting, value) ∷ after)) end (goes_on now before (setting, value) after text (takes now name text) back parts.0.free is ih.read kept);
        kept = λ n r there. subst (λ l. look n l ≡ Some r) end (kept n r (look_kept n now (row name text ∷ []) r there));
      }

  -- the words as they are
  by_sets : (before after : List Given) (setting : Setting) (value : ℕ) (front back : List Word) → Sets setting value front → Full (before ++ after) back → Full (before ++ (setting, value) ∷ after) (front ++ back)
  by_sets before after setting value front back (two text read is) more = λ rows pending settles ready.
      let named = (take_out names (settled_rows rules (raw pending) rows) before (setting, value) after text ready).0.named in
      subst (λ words. Done (settled_rows rules (raw pending) rows) (before ++ (setting, value) ∷ after) (at rows (raw pending) idle) words)
      (sym (ap (λ f. f ++ back) (is ∙ ap (λ n. n ∷ text ∷ []) named))) (full_alone before after setting value text back read more rows pending settles ready)
  by_sets before after setting value front back (one text read is) more = λ rows pending settles ready.
      let named = (take_out names (settled_rows rules (raw pending) rows) before (setting, value) after text ready).0.named in
      subst (λ words. Done (settled_rows rules (raw pending) rows) (before ++ (setting, value) ∷ after) (at rows (raw pending) idle) words)
      (sym (ap (λ f. f ++ back) (is ∙ ap (λ n. (n ++ 61 ∷ text) ∷ []) named))) (full_joined before after setting value text back read more rows pending settles ready)

  full : (all : List Given) (words : List Word) → Gives all words → Full all words
  full all words (nothing given every none is) = subst (λ a. Full a words) (sym none) (subst (Full []) (sym is) full_none)
  full all words (first given before after setting value every front back lacks joined sets others) =
      subst (λ a. Full a words) (sym lacks) (subst (Full (before ++ (setting, value) ∷ after)) (sym joined)
      (by_sets before after setting value front back sets (full (before ++ after) back others)))

  -- what the words give is found, without a fault
  pub record IsRead (all : List Given) (words : List Word) : Type 0 where
    pub bare : list_any (λ word. bytes_eq word dashes) words ≡ false
    pub passes : Passes names words
    pub done : AllDone (settled rules (end_of rules words)).rows all

  pub all_read : (all : List Given) (words : List Word) → Ready names [] all → Gives all words → IsRead all words
  all_read all words ready gives =
      let d = full all words gives [] None refl ready in
      record { bare = d.bare; passes = record { walked = d.passes; settles = d.settles }; done = d.read }
