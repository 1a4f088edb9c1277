-- The program that is built of options alone, and its rows.
use Rattle.std.proofs.Common.{◌≡◌, ◌⊎◌, inl, inr, ℕ, ◌&&◌, ◌||◌, Bool, true, false, not, cond, List, [], ◌∷◌, ◌++◌, length, map, find, Option, None, Some, is_some, refl, sym, ◌∙◌, ap, subst, arith, append-nil, fold}
use Rattle.std.specs.List.{list_any, list_all, count_by}
use Rattle.std.specs.Option.{option_map_or}
use Rattle.std.specs.Str.{bytes_eq}
use Rattle.std.proofs.lemmas.Bool.{false≢true, or_parts, or_from}
use Rattle.std.proofs.lemmas.Option.{none-some}
use Rattle.clap.specs.Facts.{explicit_source}
use Rattle.clap.specs.Walk.{Held, Row, Rule, Text, arg_by_id, arg_by_index, arg_by_long, arg_by_short, at_row, has_row, is_early_multiple, more_values, nothing_held, finished, with_default, reading_by, settled, used, walk, walk_from}
use Rattle.clap.specs.Simple.{App, Shape, built, entered, filled_from, is_buildable, is_ready, is_ready_leaf, matches_of, names_of}
use Rattle.clap.specs.Takes.{is_given}
use Rattle.clap.specs.Kinds.{Kinds, or_else}
use Rattle.clap.specs.Faults.{default_fault, defaults_fault, entered_fault, fault_of, built_fault, given_default_fault, is_free_app, is_simple_and_free, level_fault, settle_fault, use_fault, walk_fault}
use Rattle.clap.specs.declared.builder.action.ArgAction.TheVariants.{Set}
use Rattle.clap.specs.declared.builder.value_parser.ValueParser.TheVariants as vp
use Rattle.clap.specs.declared.error.kind.ErrorKind.{ErrorKind}
use Rattle.clap.specs.declared.error.kind.ErrorKind.TheVariants as kind
use Rattle.clap.specs.declared.parser.matches.ValueSource.TheVariants.{CommandLine}
use Rattle.command_line.specs.Words.{Word}
use Rattle.command_line.specs.Options.{app_with, option_rule}
use Rattle.command_line.proofs.LexerLemmas.{equal, same}

-- ---- what building makes of the options

abbrev pub built_option : Word → Rule
built_option name = record (option_rule name) {
  action = Some Set;
  range = Some (record { start_inclusive = 1; end_inclusive = 1 });
  parser = Some vp.String;
}

abbrev pub options : List Word → List Rule
options names = map built_option names

abbrev pub shape : List Rule → Shape
shape rules = record ((app_with []).top) { rules = rules; is_built = true; disable_help_subcommand = true }

abbrev app : List Rule → App
app rules = record { top = shape rules; subs = [] }

fill : (names : List Word) → filled_from 1 (map option_rule names) ≡ options names
fill [] = refl
fill (name ∷ names) = ap (λ rules. built_option name ∷ rules) (fill names)

pub built_is : (names : List Word) → built (app_with names) ≡ app (options names)
built_is names = ap app (fill names)

simple_before : (names : List Word) → list_all (λ (a : Rule). a.is_simple) (map option_rule names) ≡ true
simple_before [] = refl
simple_before (name ∷ names) = simple_before names

simple_after : (names : List Word) → list_all (λ (a : Rule). a.is_simple) (options names) ≡ true
simple_after [] = refl
simple_after (name ∷ names) = simple_after names

free_after : (names : List Word) → list_all (λ (a : Rule). a.is_free) (options names) ≡ true
free_after [] = refl
free_after (name ∷ names) = free_after names

in_order : (k : ℕ) (names : List Word) → list_any (is_early_multiple k) (options names) ≡ false
in_order k [] = refl
in_order k (name ∷ names) = in_order k names

abbrev tests : App → App → Bool
tests a b = (is_buildable a && (is_ready b.top && list_all is_ready_leaf b.subs)) && is_free_app b

pub simple_and_free : (names : List Word) → is_simple_and_free (app_with names) ≡ true
simple_and_free names = ap (tests (app_with names)) (built_is names)
    ∙ (λ i. ((simple_before names i && true) && ((simple_after names i && not (in_order (count_by (λ (a : Rule). is_some a.index) (options names)) names i)) && true)) && (free_after names i && true))

-- ---- options found by name

-- an option of the program, or none
abbrev pub IsFound : List Word → Word → Type 0
IsFound names name = (arg_by_long (options names) name ≡ None) ⊎ ((arg_by_long (options names) name ≡ Some (built_option name)) × (arg_by_id (options names) name ≡ Some (built_option name)))

pub found : (names : List Word) (name : Word) → IsFound names name
found [] name = inl refl
found (other ∷ names) name = by (bytes_eq other name) refl (found names name)
  where
    by : (t : Bool) → bytes_eq other name ≡ t → IsFound names name → IsFound (other ∷ names) name
    by true e rest = let is = ap (λ n. Some (built_option n)) (equal other name e) in inr (rw e is, rw e is)
    by false e (inl none) = inl (rw e none)
    by false e (inr some) = inr (rw e some.0, rw e some.1)

pub no_short : (names : List Word) (x : ℕ) → arg_by_short (options names) x ≡ None
no_short [] x = refl
no_short (name ∷ names) x = no_short names x

pub no_index : (names : List Word) (i : ℕ) → arg_by_index (options names) i ≡ None
no_index [] i = refl
no_index (name ∷ names) i = no_index names i

-- ---- kinds of faults

pub some_kind : (k : ErrorKind) (ks : Kinds) → k ∷ ks ≡ [] → ⊥
some_kind k ks e = absurd (omega (arith, ap length e))

pub left_none : (a b : Kinds) → or_else a b ≡ [] → a ≡ []
left_none [] b e = refl
left_none (k ∷ ks) b e = absurd (some_kind k ks e)

pub right_none : (a b : Kinds) → or_else a b ≡ [] → b ≡ []
right_none [] b e = e
right_none (k ∷ ks) b e = absurd (some_kind k ks e)

pub both_none : (a b : Kinds) → a ≡ [] → b ≡ [] → or_else a b ≡ []
both_none a b e f = ap (λ x. or_else x b) e ∙ f

-- ---- rows

abbrev pub row : Word → Word → Row
row name text = record { id = name; values = text ∷ []; count = None; source = Some CommandLine; reading = reading_by (built_option name) }

none_at : (id : Word) (change : Row → List Row) (missing rows : List Row) → has_row id rows ≡ false → at_row id change missing rows ≡ rows ++ missing
none_at id change missing [] none = refl
none_at id change missing (r ∷ rows) none =
    let parts = or_parts (bytes_eq r.id id) (has_row id rows) none in
    rw parts.0 (ap (λ l. r ∷ l) (none_at id change missing rows parts.1))

-- one more option is used
pub used_once : (name text : Word) (rows : List Row) → has_row name rows ≡ false → used (built_option name) (text ∷ []) rows ≡ rows ++ row name text ∷ []
used_once name text rows none =
    let without : at_row name (λ _. []) [] rows ≡ rows = none_at name (λ _. []) [] rows none ∙ append-nil rows in
    rw without (none_at name (more_values CommandLine (text ∷ [])) (row name text ∷ []) rows none)

-- only a first use is no fault
pub first_use : (name text : Word) (rows : List Row) → use_fault false (built_option name) (text ∷ []) rows ≡ [] → has_row name rows ≡ false
first_use name text rows e = by (has_row name rows) e
  where
    by : (b : Bool) → or_else (cond (b && true) (kind.ArgumentConflict ∷ []) []) [] ≡ [] → b ≡ false
    by true e = absurd (some_kind kind.ArgumentConflict [] e)
    by false e = refl

pub no_fault : (name text : Word) (rows : List Row) → has_row name rows ≡ false → use_fault false (built_option name) (text ∷ []) rows ≡ []
no_fault name text rows none = ap (λ b. or_else (cond (b && true) (kind.ArgumentConflict ∷ []) []) []) none

abbrev pub look : Word → List Row → Option Row
look id rows = find (λ r. bytes_eq r.id id) rows

pub look_kept : (id : Word) (rows more : List Row) (r : Row) → look id rows ≡ Some r → look id (rows ++ more) ≡ Some r
look_kept id [] more r is = absurd (none-some r is)
look_kept id (x ∷ rows) more r is = by (bytes_eq x.id id) (look id rows) (look id (rows ++ more)) is (look_kept id rows more r)
  where
    by : (t : Bool) (before after : Option Row) → cond t (Some x) before ≡ Some r → (before ≡ Some r → after ≡ Some r) → cond t (Some x) after ≡ Some r
    by true before after is more = is
    by false before after is more = more is

-- a row that stands last
pub look_last : (name text : Word) (rows : List Row) → has_row name rows ≡ false → look name (rows ++ row name text ∷ []) ≡ Some (row name text)
look_last name text [] none = rw (same name name refl) refl
look_last name text (r ∷ rows) none =
    let parts = or_parts (bytes_eq r.id name) (has_row name rows) none in
    rw parts.0 (look_last name text rows parts.1)

-- and the others are where they were
pub other_row : (name other text : Word) (rows : List Row) → bytes_eq name other ≡ false → has_row other (rows ++ row name text ∷ []) ≡ has_row other rows
other_row name other text [] unlike = ap (λ b. b || false) unlike
other_row name other text (r ∷ rows) unlike = ap (λ b. bytes_eq r.id other || b) (other_row name other text rows unlike)

pub this_row : (name text : Word) (rows : List Row) → has_row name (rows ++ row name text ∷ []) ≡ true
this_row name text [] = ap (λ b. b || false) (same name name refl)
this_row name text (r ∷ rows) = by (bytes_eq r.id name) (this_row name text rows)
  where
    by : (t : Bool) {b : Bool} → b ≡ true → (t || b) ≡ true
    by true e = refl
    by false e = e

-- where an option has a row, it was given
pub has_looked : (id : Word) (rows : List Row) (r : Row) → look id rows ≡ Some r → has_row id rows ≡ true
has_looked id [] r is = absurd (none-some r is)
has_looked id (x ∷ rows) r is = by (bytes_eq x.id id) is (has_looked id rows r)
  where
    by : (t : Bool) → cond t (Some x) (look id rows) ≡ Some r → (look id rows ≡ Some r → has_row id rows ≡ true) → (t || has_row id rows) ≡ true
    by true is rest = refl
    by false is rest = rest is

given_row : (id : Word) (rows : List Row) → is_given id rows ≡ true → has_row id rows ≡ true
given_row id rows given = by (look id rows) refl given
  where
    by : (o : Option Row) → look id rows ≡ o → option_map_or (λ (r : Row). explicit_source r.source) o false ≡ true → has_row id rows ≡ true
    by None e given = absurd (false≢true given)
    by (Some r) e given = has_looked id rows r e

-- ---- after the walk

no_default : (rows : List Row) (name : Word) → with_default rows (built_option name) ≡ rows
no_default rows name = by (has_row name rows)
  where
    by : (t : Bool) → cond t rows rows ≡ rows
    by true = refl
    by false = refl

pub no_defaults : (rows : List Row) (names : List Word) → fold with_default rows (options names) ≡ rows
no_defaults rows [] = refl
no_defaults rows (name ∷ names) = ap (λ r. fold with_default r (options names)) (no_default rows name) ∙ no_defaults rows names

no_default_fault : (rows : List Row) (name : Word) → default_fault rows (built_option name) ≡ []
no_default_fault rows name = by (has_row name rows) (given_default_fault (built_option name) [])
  where
    by : (t : Bool) (k : Kinds) → cond (t || true) [] k ≡ []
    by true k = refl
    by false k = refl

no_defaults_fault : (rows : List Row) (names : List Word) → defaults_fault rows (options names) ≡ []
unfolding defaults_fault
no_defaults_fault rows [] = refl
no_defaults_fault rows (name ∷ names) =
    both_none (default_fault rows (built_option name)) (defaults_fault (with_default rows (built_option name)) (options names)) (no_default_fault rows name)
    (ap (λ r. defaults_fault r (options names)) (no_default rows name) ∙ no_defaults_fault rows names)

-- each of the names has a row
abbrev pub AllGiven : List Word → List Row → Type 0
AllGiven [] rows = Unit {0}
AllGiven (name ∷ names) rows = (has_row name rows ≡ true) × AllGiven names rows

abbrev lacks_one : List Row → List Rule → Bool
lacks_one rows rules = list_any (λ a. a.required && not (is_given a.id rows)) rules

all_given : (names : List Word) (rows : List Row) → lacks_one rows (options names) ≡ false → AllGiven names rows
all_given [] rows none = tt
all_given (name ∷ names) rows none =
    let parts = or_parts (not (is_given name rows)) (lacks_one rows (options names)) none in
    (given_row name rows (by (is_given name rows) parts.0), all_given names rows parts.1)
  where
    by : (t : Bool) → not t ≡ false → t ≡ true
    by true e = refl
    by false e = absurd (false≢true (sym e))

-- each of the names has a row of its own making
abbrev pub AllLooked : List Word → List Row → Type 0
AllLooked [] rows = Unit {0}
AllLooked (name ∷ names) rows = ((text : Word) × (look name rows ≡ Some (row name text))) × AllLooked names rows

none_lacks : (names : List Word) (rows : List Row) → AllLooked names rows → lacks_one rows (options names) ≡ false
none_lacks [] rows all = refl
none_lacks (name ∷ names) rows all =
    or_from (not (is_given name rows)) (lacks_one rows (options names))
    (ap (λ o. not (option_map_or (λ (r : Row). explicit_source r.source) o false)) all.0.1)
    (none_lacks names rows all.1)

no_stop : (rules : List Rule) (stop : Option (Text × List Text)) → is_some (entered (app rules) stop) ≡ false
no_stop rules None = refl
no_stop rules (Some stop) = refl

no_stop_fault : (rules : List Rule) (stop : Option (Text × List Text)) → entered_fault (app rules) stop ≡ []
no_stop_fault rules None = refl
no_stop_fault rules (Some stop) = refl

-- where the walk over the words ends
abbrev pub end_of : List Rule → List Word → Held
end_of rules words = (walk rules [] nothing_held words).held

-- what is left of the walk for the check whether all is given
abbrev checked : List Rule → Held → Kinds
checked rules end = or_else (settle_fault rules false end)
    (or_else (defaults_fault (settled rules end).rows rules) (cond (lacks_one (finished rules end) rules) (kind.MissingRequiredArgument ∷ []) []))

fault_is : (names : List Word) (words : List Word) → fault_of (app_with names) words ≡ or_else (walk_fault (shape (options names)) [] (walk_from nothing_held) words) (checked (options names) (end_of (options names) words))
fault_is names words =
    let rules = options names in
    let stop = (walk rules [] nothing_held words).stopped in
    ap (λ a. built_fault a nothing_held words) (built_is names)
    ∙ (λ i. level_fault (shape rules) [] nothing_held words (no_stop rules stop i) (no_stop_fault rules stop i))

-- what no fault means
pub record Passes (names : List Word) (words : List Word) : Type 0 where
  pub walked : walk_fault (shape (options names)) [] (walk_from nothing_held) words ≡ []
  pub settles : settle_fault (options names) false (end_of (options names) words) ≡ []

pub rows_are : (names : List Word) (words : List Word) → matches_of (app_with names) words ≡ (settled (options names) (end_of (options names) words)).rows
rows_are names words = ap (λ (a : App). finished a.top.rules (walk a.top.rules (names_of a) nothing_held words).held) (built_is names)
    ∙ no_defaults (settled (options names) (end_of (options names) words)).rows names

pub passes : (names : List Word) (words : List Word) → fault_of (app_with names) words ≡ [] → Passes names words × AllGiven names (matches_of (app_with names) words)
passes names words none =
    let rules = options names in
    let end = end_of rules words in
    let all = sym (fault_is names words) ∙ none in
    let after = right_none (walk_fault (shape rules) [] (walk_from nothing_held) words) (checked rules end) all in
    let last = right_none (defaults_fault (settled rules end).rows rules) (cond (lacks_one (finished rules end) rules) (kind.MissingRequiredArgument ∷ []) [])
    (right_none (settle_fault rules false end) (or_else (defaults_fault (settled rules end).rows rules) (cond (lacks_one (finished rules end) rules) (kind.MissingRequiredArgument ∷ []) [])) after) in (
      record {
        walked = left_none (walk_fault (shape rules) [] (walk_from nothing_held) words) (checked rules end) all;
        settles = left_none (settle_fault rules false end) (or_else (defaults_fault (settled rules end).rows rules) (cond (lacks_one (finished rules end) rules) (kind.MissingRequiredArgument ∷ []) [])) after;
      },
      subst (AllGiven names) (no_defaults (settled rules end).rows names ∙ sym (rows_are names words)) (all_given names (finished rules end) (by (lacks_one (finished rules end) rules) last)),
    )
  where
    by : (t : Bool) → cond t (kind.MissingRequiredArgument ∷ []) [] ≡ [] → t ≡ false
    by true e = absurd (some_kind kind.MissingRequiredArgument [] e)
    by false e = refl

pub faultless : (names : List Word) (words : List Word) → Passes names words → AllLooked names (settled (options names) (end_of (options names) words)).rows → fault_of (app_with names) words ≡ []
faultless names words p all =
    let rules = options names in
    let end = end_of rules words in
    fault_is names words
    ∙ both_none (walk_fault (shape rules) [] (walk_from nothing_held) words) (checked rules end) p.walked
    (both_none (settle_fault rules false end) (or_else (defaults_fault (settled rules end).rows rules) (cond (lacks_one (finished rules end) rules) (kind.MissingRequiredArgument ∷ []) [])) p.settles
    (both_none (defaults_fault (settled rules end).rows rules) (cond (lacks_one (finished rules end) rules) (kind.MissingRequiredArgument ∷ []) []) (no_defaults_fault (settled rules end).rows names)
    (ap (λ t. cond t (kind.MissingRequiredArgument ∷ []) []) (ap (λ r. lacks_one r rules) (no_defaults (settled rules end).rows names) ∙ none_lacks names (settled rules end).rows all))))
