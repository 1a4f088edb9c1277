-- What clap finds for a list of settings is what the words give.
use Rattle.std.proofs.Common.{◌≡◌, ◌<◌, ◌+◌, ℕ, zero, suc, ◌&&◌, Bool, true, false, not, List, [], ◌∷◌, ◌++◌, length, map, take, get_or, Some, refl, sym, ◌∙◌, ap, subst, arith, unwrap_or, option_and_then, slice_get, ⊎_elim, string_bytes, String, Global}
use Rattle.std.specs.List.{list_any}
use Rattle.std.specs.Str.{bytes_eq}
use Rattle.std.proofs.lemmas.Bool.{false≢true, or_parts}
use Rattle.facts.proofs.Lists.{same_head, same_tail}
use Rattle.clap.specs.Words.{HasKind, HasMatchesOf, found_of, is_simple, kind_of, with_rule}
use Rattle.clap.specs.Walk.{Row, rows_of, settled}
use Rattle.clap.specs.Simple.{App, built, matches_of}
use Rattle.clap.specs.Faults.{fault_of, is_free_app, is_simple_and_free}
use Rattle.clap.specs.declared.error.Error.{Error}
use Rattle.clap.specs.declared.error.kind.ErrorKind.TheVariants as kind
use Rattle.clap.specs.declared.parser.matches.ArgMatches.{ArgMatches}
use Rattle.clap.proofs.WalkLemmas.{both, first_value-rows, list_any-map}
use Rattle.clap.proofs.SimpleLemmas.{is_false}
use Rattle.command_line.specs.Words.{Word, Setting, IsValue, Gives, texts}
use Rattle.command_line.specs.Options.{AreRead, app_with, are_names, dashed, dashes, is_name, name_of, option_rule, plain_name, setting_of, text_of}
use Rattle.command_line.specs.declared.setting.Setting as program
use Rattle.command_line.proofs.LexerLemmas.{equal, same}
use Rattle.command_line.proofs.BuildLemmas.{AllGiven, AllLooked, built_option, end_of, faultless, options, passes, rows_are, simple_and_free}
use Rattle.command_line.proofs.SoundLemmas.{AllGood, Apart, Distinct, Given, all_given, name_in, names_of, text_in}
use Rattle.command_line.proofs.FullLemmas.{AllDone, IsKnown, Ready, all_read}

-- ---- the names of the settings

abbrev Fits : List program.Setting → List Given → Type 0
Fits settings given = map (λ g. g.0) given ≡ map setting_of settings

abbrev AllNamed : List Given → Type 0
AllNamed [] = Unit {0}
AllNamed (g ∷ given) = (g.0.name ≡ dashed (name_in g)) × AllNamed given

names_are : (settings : List program.Setting) (given : List Given) → Fits settings given → names_of given ≡ map name_of settings
names_are [] [] e = refl
names_are [] (g ∷ given) e = absurd (omega (arith, ap length e))
names_are (s ∷ settings) [] e = absurd (omega (arith, ap length e))
names_are (s ∷ settings) (g ∷ given) e =
    let head = same_head g.0 (setting_of s) (map (λ x. x.0) given) (map setting_of settings) e in
    let rest = names_are settings given (same_tail g.0 (setting_of s) (map (λ x. x.0) given) (map setting_of settings) e) in
    λ i. plain_name (head i) ∷ rest i

all_named : (settings : List program.Setting) (given : List Given) → Fits settings given → AllNamed given
all_named [] [] e = tt
all_named [] (g ∷ given) e = absurd (omega (arith, ap length e))
all_named (s ∷ settings) [] e = absurd (omega (arith, ap length e))
all_named (s ∷ settings) (g ∷ given) e =
    let head = same_head g.0 (setting_of s) (map (λ x. x.0) given) (map setting_of settings) e in (
      subst (λ (x : Setting). x.name ≡ dashed (plain_name x)) (sym head) refl,
      all_named settings given (same_tail g.0 (setting_of s) (map (λ x. x.0) given) (map setting_of settings) e),
    )

apart_from : (name : Word) (given : List Given) → list_any (bytes_eq name) (names_of given) ≡ false → Apart name given
apart_from name [] none = tt
apart_from name (g ∷ given) none =
    let parts = or_parts (bytes_eq name (name_in g)) (list_any (bytes_eq name) (names_of given)) none in
    (parts.0, apart_from name given parts.1)

abbrev others_of : Word → List Word → Bool
others_of name names = not (list_any (bytes_eq name) names) && are_names names

distinct : (given : List Given) → are_names (names_of given) ≡ true → Distinct given
distinct [] are = tt
distinct (g ∷ given) are =
    let parts = both (not (list_any (bytes_eq (name_in g)) (names_of given))) (are_names (names_of given)) (both (is_name (name_in g)) (others_of (name_in g) (names_of given)) are).1 in
    (apart_from (name_in g) given (is_false (list_any (bytes_eq (name_in g)) (names_of given)) parts.0), distinct given parts.1)

-- ---- the program knows its options

known_here : (name : Word) (names : List Word) → IsKnown (name ∷ names) name
known_here name names = (rw (same name name refl) refl, rw (same name name refl) refl)

known_by : (t : Bool) (other name : Word) (names : List Word) → bytes_eq other name ≡ t → IsKnown names name → IsKnown (other ∷ names) name
known_by true other name names e known = let is = ap (λ n. Some (built_option n)) (equal other name e) in (rw e is, rw e is)
known_by false other name names e known = (rw e known.0, rw e known.1)

abbrev AllKnown : List Word → List Given → Type 0
AllKnown names [] = Unit {0}
AllKnown names (g ∷ given) = IsKnown names (name_in g) × AllKnown names given

known_more : (other : Word) (names : List Word) (given : List Given) → AllKnown names given → AllKnown (other ∷ names) given
known_more other names [] known = tt
known_more other names (g ∷ given) known = (known_by (bytes_eq other (name_in g)) other (name_in g) names refl known.0, known_more other names given known.1)

all_known : (given : List Given) → AllKnown (names_of given) given
all_known [] = tt
all_known (g ∷ given) = (known_here (name_in g) (names_of given), known_more (name_in g) (names_of given) given (all_known given))

ready : (names : List Word) (given : List Given) → AllNamed given → are_names (names_of given) ≡ true → AllKnown names given → Ready names [] given
ready names [] named are known = tt
ready names (g ∷ given) named are known =
    let proper = both (is_name (name_in g)) (others_of (name_in g) (names_of given)) are in
    let rest = both (not (list_any (bytes_eq (name_in g)) (names_of given))) (are_names (names_of given)) proper.1 in (
      record { named = named.0; proper = proper.0; known = known.0; free = refl },
      apart_from (name_in g) given (is_false (list_any (bytes_eq (name_in g)) (names_of given)) rest.0),
      ready names given named.1 rest.1 known.1,
    )

-- ---- texts

text_is : (matches : ArgMatches) (setting : Setting) (last : List Row) → rows_of (found_of matches) ≡ last → text_of matches setting ≡ text_in (plain_name setting) last
text_is matches setting last rows = ap (λ o. unwrap_or o []) (first_value-rows (found_of matches) (plain_name setting)) ∙ ap (text_in (plain_name setting)) rows

all_good : (matches : ArgMatches) (last : List Row) (given : List Given) → rows_of (found_of matches) ≡ last → AllNamed given → AllGiven (names_of given) last → AreRead matches given → AllGood last given
all_good matches last [] rows named has read = tt
all_good matches last (g ∷ given) rows named has read = (
  record { named = named.0; has = has.0; value = subst (λ t. IsValue g.0 t g.1) (text_is matches g.0 last rows) read.0 },
  all_good matches last given rows named.1 has.1 read.1,
)

looked : (last : List Row) (given : List Given) → AllDone last given → AllLooked (names_of given) last
looked last [] done = tt
looked last (g ∷ given) done = ((done.0.text, done.0.seen), looked last given done.1)

all_read_in : (matches : ArgMatches) (last : List Row) (given : List Given) → rows_of (found_of matches) ≡ last → AllDone last given → AreRead matches given
all_read_in matches last [] rows done = tt
all_read_in matches last (g ∷ given) rows done = (
  subst (λ t. IsValue g.0 t g.1)
      (sym (text_is matches g.0 last rows ∙ ap (λ o. unwrap_or (option_and_then (λ (r : Row). slice_get r.values 0) o) []) done.0.seen)) done.0.value,
  all_read_in matches last given rows done.1,
)

-- ---- both directions

pub read_given : (settings : List program.Setting) (words : List Word) (matches : ArgMatches) → are_names (map name_of settings) ≡ true → list_any (λ word. bytes_eq word dashes) words ≡ false
    → fault_of (app_with (map name_of settings)) words ≡ [] → rows_of (found_of matches) ≡ matches_of (app_with (map name_of settings)) words
    → (given : List Given) → map (λ g. g.0) given ≡ map setting_of settings → AreRead matches given → Gives given words
read_given settings words matches are bare none rows given fits read =
    let names = names_are settings given fits in
    let none' = subst (λ ns. fault_of (app_with ns) words ≡ []) (sym names) none in
    let rows' = subst (λ ns. rows_of (found_of matches) ≡ matches_of (app_with ns) words) (sym names) rows in
    let are' = subst (λ ns. are_names ns ≡ true) (sym names) are in
    let p = passes (names_of given) words none' in
    let last = matches_of (app_with (names_of given)) words in
    all_given given last (distinct given are') (all_good matches last given rows' (all_named settings given fits) p.1 read) words bare p.0 (sym (rows_are (names_of given) words))

-- what holds of words that give each option its value
pub record IsGiven (settings : List program.Setting) (given : List Given) (words : List Word) : Type 0 where
  pub bare : list_any (λ word. bytes_eq word dashes) words ≡ false
  pub none : fault_of (app_with (map name_of settings)) words ≡ []
  pub read : (matches : ArgMatches) → rows_of (found_of matches) ≡ matches_of (app_with (map name_of settings)) words → AreRead matches given

pub every_given : (settings : List program.Setting) (words : List Word) → are_names (map name_of settings) ≡ true → (given : List Given) → map (λ g. g.0) given ≡ map setting_of settings → Gives given words → IsGiven settings given words
every_given settings words are given fits gives =
    let names = names_are settings given fits in
    let are' = subst (λ ns. are_names ns ≡ true) (sym names) are in
    let r = all_read (names_of given) given words (ready (names_of given) given (all_named settings given fits) are' (all_known given)) gives in
    let last = (settled (options (names_of given)) (end_of (options (names_of given)) words)).rows in
    record {
      bare = r.bare;
      none = subst (λ ns. fault_of (app_with ns) words ≡ []) names (faultless (names_of given) words r.passes (looked last given r.done));
      read = λ matches rows. all_read_in matches last given (rows ∙ ap (λ ns. matches_of (app_with ns) words) (sym names) ∙ rows_are (names_of given) words) r.done;
    }

-- ---- the program is made option by option

option_more : (names : List Word) (name : Word) → map option_rule names ++ option_rule name ∷ [] ≡ map option_rule (names ++ name ∷ [])
option_more [] name = refl
option_more (n ∷ names) name = ap (λ l. option_rule n ∷ l) (option_more names name)

pub app_more : (names : List Word) (name : Word) → with_rule (app_with names) (option_rule name) ≡ app_with (names ++ name ∷ [])
app_more names name = ap (λ rules. record { top = record ((app_with []).top) { rules = rules }; subs = [] }) (option_more names name)

take_next : (settings : List program.Setting) (i : ℕ) (d : program.Setting) → i < length settings → map name_of (take i settings) ++ name_of (get_or settings i d) ∷ [] ≡ map name_of (take (suc i) settings)
take_next [] i d within = absurd (omega (arith, within))
take_next (x ∷ settings) zero d within = refl
take_next (x ∷ settings) (suc i) d within = ap (λ l. name_of x ∷ l) (take_next settings i d (omega (arith, within)))

pub next_option : (settings : List program.Setting) (i : ℕ) (d : program.Setting) (before after : App) → i < length settings → before ≡ app_with (map name_of (take i settings))
    → after ≡ with_rule before (option_rule (name_of (get_or settings i d))) → after ≡ app_with (map name_of (take (i + 1) settings))
next_option settings i d before after within so_far made =
    let more : suc i ≡ i + 1 = omega arith in
    made ∙ ap (λ a. with_rule a (option_rule (name_of (get_or settings i d)))) so_far ∙ app_more (map name_of (take i settings)) (name_of (get_or settings i d))
    ∙ ap app_with (take_next settings i d within ∙ ap (λ k. map name_of (take k settings)) more)

-- ---- what clap's clauses say of this program

module _ (settings : List program.Setting) (words : List Word) (app : App) (is : app ≡ app_with (map name_of settings)) (are : are_names (map name_of settings) ≡ true) where
  simple : is_simple_and_free app ≡ true
  simple = subst (λ a. is_simple_and_free a ≡ true) (sym is) (simple_and_free (map name_of settings))

  rows_in : (matches : ArgMatches) → HasMatchesOf app words matches → rows_of (found_of matches) ≡ matches_of (app_with (map name_of settings)) words
  rows_in matches has = subst (λ a. rows_of (found_of matches) ≡ matches_of a words) is (has (both (is_simple app) (is_free_app (built app)) simple).0).0

  pub found_read : (matches : ArgMatches) → list_any (λ word. bytes_eq word dashes) words ≡ false → (is_simple_and_free app ≡ true → fault_of app words ≡ []) → HasMatchesOf app words matches
      → (given : List Given) → map (λ g. g.0) given ≡ map setting_of settings → AreRead matches given → Gives given words
  found_read matches bare kinds has =
      read_given settings words matches are bare (subst (λ a. fault_of a words ≡ []) is (kinds simple)) (rows_in matches has)

  pub found_every : (matches : ArgMatches) → HasMatchesOf app words matches → (given : List Given) → map (λ g. g.0) given ≡ map setting_of settings → Gives given words → AreRead matches given
  found_every matches has given fits gives = (every_given settings words are given fits gives).read matches (rows_in matches has)

  -- what isn't want of memory is a fault, and words that give all have none
  pub refused_every : (e : Error) → (is_simple_and_free app ≡ true → HasKind (fault_of app words) e) → (kind_of e ≡ kind.OutOfMemory → ⊥)
      → (given : List Given) → map (λ g. g.0) given ≡ map setting_of settings → Gives given words → ⊥
  refused_every e kinds other given fits gives =
      let none = (every_given settings words are given fits gives).none in
      ⊎_elim other (λ bad. bad) (subst (λ ks. HasKind ks e) none (subst (λ a. HasKind (fault_of a words) e) is (kinds simple)))

-- no word is `--`
pub no_dashes : (words : List (String Global)) (r : Bool) → r ≡ list_any (λ word. bytes_eq (string_bytes word) dashes) words → r ≡ false → list_any (λ word. bytes_eq word dashes) (texts words) ≡ false
no_dashes words r is none = sym (list_any-map (λ w. bytes_eq w dashes) string_bytes words) ∙ sym is ∙ none

pub dashes_refuse : (settings : List program.Setting) (words : List (String Global)) (r : Bool) → are_names (map name_of settings) ≡ true → r ≡ list_any (λ word. bytes_eq (string_bytes word) dashes) words → r ≡ true
    → (given : List Given) → map (λ g. g.0) given ≡ map setting_of settings → Gives given (texts words) → ⊥
dashes_refuse settings words r are is some given fits gives =
    false≢true (sym (every_given settings (texts words) are given fits gives).bare ∙ sym (list_any-map (λ w. bytes_eq w dashes) string_bytes words) ∙ sym is ∙ some)
