-- Words behind `forward` are options in one way alone.
use Rattle.std.proofs.Common.{◌≡◌, ℕ, ◌==◌, true, false, if◌then◌else◌, suc, List, [], ◌∷◌, ◌++◌, length, get_or, drop, refl, sym, ◌∙◌, ap, subst, arith, append-nil, map, zero, ◌+◌, ◌<◌, string_bytes, String, Global}
use Rattle.std.proofs.lemmas.Bool.{false≢true}
use Rattle.std.proofs.lemmas.List.{map-append}
use Rattle.facts.proofs.Lists.{same_head, same_tail}
use Rattle.command_line.specs.Words.{AreOptions, BeginsWith, Choice, Word, begins_with_hyphen, flag_name, one, texts, two}
use Rattle.command_line.specs.Faults.{HasNoValue, IsStray}
use Rattle.command_line.specs.Options.{choice_of}
use Rattle.command_line.specs.declared.choosing.Chosen.{Chosen}
use Rattle.command_line.specs.declared.flag.Flag.{Flag}
use Rattle.command_line.specs.declared.flag.Flag.TheVariants.{Listen, Upstream, Workers, Pass, Status}
use Rattle.command_line.proofs.LexerLemmas.{equals_in, has_equals}

-- ---- the names of the options

-- by its first letter
flag_by : Word → Flag
flag_by word =
    let letter = get_or word 2 0 in
    if letter == 108 then Listen else (if letter == 117 then Upstream else (if letter == 119 then Workers else (if letter == 112 then Pass else Status)))

named_by : (flag : Flag) (more : Word) → flag_by (flag_name flag ++ more) ≡ flag
unfolding flag_by
named_by Listen more = refl
named_by Upstream more = refl
named_by Workers more = refl
named_by Pass more = refl
named_by Status more = refl

after_name : Flag → Word → Word
after_name flag word = drop (length (flag_name flag)) word

after_is : (flag : Flag) (more : Word) → after_name flag (flag_name flag ++ more) ≡ more
unfolding after_name
after_is Listen more = refl
after_is Upstream more = refl
after_is Workers more = refl
after_is Pass more = refl
after_is Status more = refl

-- what a word begins with tells the option, and with it what follows
flag_same : (flag other : Flag) (more rest : Word) → flag_name flag ++ more ≡ flag_name other ++ rest → flag ≡ other
flag_same flag other more rest e = sym (named_by flag more) ∙ ap flag_by e ∙ named_by other rest

more_same : (flag other : Flag) (more rest : Word) → flag_name flag ++ more ≡ flag_name other ++ rest → more ≡ rest
more_same flag other more rest e =
    sym (after_is flag more) ∙ ap (after_name flag) e ∙ ap (λ f. after_name f (flag_name other ++ rest)) (flag_same flag other more rest e) ∙ after_is other rest

name_same : (flag other : Flag) → flag_name flag ≡ flag_name other → flag ≡ other
name_same flag other e = flag_same flag other [] [] (ap (λ w. w ++ []) e)

-- '=' stands in no name
no_equals : (flag : Flag) → has_equals (flag_name flag) ≡ false
no_equals Listen = refl
no_equals Upstream = refl
no_equals Workers = refl
no_equals Pass = refl
no_equals Status = refl

alone_not_joined : (flag other : Flag) (text : Word) → flag_name flag ≡ flag_name other ++ 61 ∷ text → ⊥
alone_not_joined flag other text e = false≢true (sym (no_equals flag) ∙ ap has_equals e ∙ equals_in (flag_name other) text)

-- ---- the words at a place

-- a word, and those behind it
pub word_at : (words : List (String Global)) (at : ℕ) (word : String Global) (text : Word) → at < length words → word ≡ get_or words at word → text ≡ string_bytes word
    → drop at (texts words) ≡ text ∷ drop (at + 1) (texts words)
word_at [] at word text within is text_is = absurd (omega (arith, within))
word_at (first ∷ words) zero word text within is text_is = ap (λ t. t ∷ texts words) (sym (text_is ∙ ap string_bytes is))
word_at (first ∷ words) (suc at) word text within is text_is =
    let further : suc at + 1 ≡ suc (at + 1) = omega arith in
    word_at words at word text (omega (arith, within)) is text_is ∙ ap (λ n. text ∷ drop n (texts (first ∷ words))) (sym further)

-- ---- one option more

pub joined_begins : (flag : Flag) (text word : Word) (words : List Word) (at : ℕ) → drop at words ≡ word ∷ drop (at + 1) words → word ≡ flag_name flag ++ 61 ∷ text
    → BeginsWith (flag, text) (drop (at + 1) words) (drop at words)
joined_begins flag text word words at is joined = one (is ∙ ap (λ w. w ∷ drop (at + 1) words) joined)

pub alone_begins : (flag : Flag) (text word : Word) (words : List Word) (at : ℕ) → drop at words ≡ word ∷ drop (at + 1) words → word ≡ flag_name flag
    → begins_with_hyphen text ≡ false → drop (at + 1) words ≡ text ∷ drop (at + 1 + 1) words → BeginsWith (flag, text) (drop (at + 2) words) (drop at words)
alone_begins flag text word words at is alone plain next =
    let further : at + 1 + 1 ≡ at + 2 = omega arith in
    two plain (is ∙ (λ i. alone i ∷ (next ∙ ap (λ n. text ∷ drop n words) further) i))

options_more : (choices : List Choice) (choice : Choice) (rest behind words : List Word) → AreOptions choices rest words → BeginsWith choice behind rest → AreOptions (choices ++ choice ∷ []) behind words
options_more [] choice rest behind words are begins = (behind, subst (BeginsWith choice behind) (sym are) begins, refl)
options_more (first ∷ more) choice rest behind words (next, begun, are) begins = (next, begun, options_more more choice rest behind next are begins)

pub chosen_more : (items : List Chosen) (chosen : Chosen) (rest behind words : List Word) → AreOptions (map choice_of items) rest words → BeginsWith (choice_of chosen) behind rest
    → AreOptions (map choice_of (items ++ chosen ∷ [])) behind words
chosen_more items chosen rest behind words are begins =
    subst (λ choices. AreOptions choices behind words) (sym (map-append choice_of items (chosen ∷ []))) (options_more (map choice_of items) (choice_of chosen) rest behind words are begins)

-- ---- there is one way alone

record IsSameStart (one other : Choice) (rest behind : List Word) : Type 0 where
  flag : one.0 ≡ other.0
  text : one.1 ≡ other.1
  next : rest ≡ behind

begins_same : (first other : Choice) (rest behind words : List Word) → BeginsWith first rest words → BeginsWith other behind words → IsSameStart first other rest behind
begins_same first other rest behind words (two plain is) (two plain' is') =
    let e = sym is ∙ is' in
    let back = same_tail (flag_name first.0) (flag_name other.0) (first.1 ∷ rest) (other.1 ∷ behind) e in
    record {
      flag = name_same first.0 other.0 (same_head (flag_name first.0) (flag_name other.0) (first.1 ∷ rest) (other.1 ∷ behind) e);
      text = same_head first.1 other.1 rest behind back;
      next = same_tail first.1 other.1 rest behind back;
    }
begins_same first other rest behind words (two plain is) (one is') =
    absurd (alone_not_joined first.0 other.0 other.1 (same_head (flag_name first.0) (flag_name other.0 ++ 61 ∷ other.1) (first.1 ∷ rest) behind (sym is ∙ is')))
begins_same first other rest behind words (one is) (two plain' is') =
    absurd (alone_not_joined other.0 first.0 first.1 (same_head (flag_name other.0) (flag_name first.0 ++ 61 ∷ first.1) (other.1 ∷ behind) rest (sym is' ∙ is)))
begins_same first other rest behind words (one is) (one is') =
    let e = sym is ∙ is' in
    let word = same_head (flag_name first.0 ++ 61 ∷ first.1) (flag_name other.0 ++ 61 ∷ other.1) rest behind e in
    record {
      flag = flag_same first.0 other.0 (61 ∷ first.1) (61 ∷ other.1) word;
      text = same_tail 61 61 first.1 other.1 (more_same first.0 other.0 (61 ∷ first.1) (61 ∷ other.1) word);
      next = same_tail (flag_name first.0 ++ 61 ∷ first.1) (flag_name other.0 ++ 61 ∷ other.1) rest behind e;
    }

-- words that begin with an option are some
begins_some : (choice : Choice) (rest words : List Word) → BeginsWith choice rest words → words ≡ [] → ⊥
begins_some choice rest words (two plain is) none = absurd (omega (arith, ap length (sym none ∙ is)))
begins_some choice rest words (one is) none = absurd (omega (arith, ap length (sym none ∙ is)))

-- the options go through each place to which some of them lead
record GoesThrough (choices all : List Choice) (rest : List Word) : Type 0 where
  others : List Choice
  joined : all ≡ choices ++ others
  given : AreOptions others [] rest

options_cut : (choices all : List Choice) (rest words : List Word) → AreOptions choices rest words → AreOptions all [] words → GoesThrough choices all rest
options_cut [] all rest words are whole = record { others = all; joined = refl; given = subst (AreOptions all []) are whole }
options_cut (first ∷ more) [] rest words (next, begins, are) whole = absurd (begins_some first next words begins whole)
options_cut (first ∷ more) (other ∷ all) rest words (next, begins, are) (behind, begins', whole) =
    let s = begins_same first other next behind words begins begins' in
    let g = options_cut more all rest next are (subst (AreOptions all []) (sym s.next) whole) in
    record { others = g.others; joined = λ i. (sym s.flag i, sym s.text i) ∷ g.joined i; given = g.given }

pub options_same : (choices all : List Choice) (words : List Word) → AreOptions choices [] words → AreOptions all [] words → choices ≡ all
options_same choices all words are whole = by (options_cut choices all [] words are whole)
  where
    by : GoesThrough choices all [] → choices ≡ all
    by g = sym (g.joined ∙ none g.others g.given)
      where
        none : (others : List Choice) → AreOptions others [] [] → choices ++ others ≡ choices
        none [] given = append-nil choices
        none (other ∷ others) (behind, begins, given) = absurd (begins_some other behind [] begins refl)

-- ---- words that are no options

stray_first : (others : List Choice) (word : Word) (rest : List Word) → AreOptions others [] (word ∷ rest) → IsStray word → ⊥
stray_first [] word rest given stray = absurd (omega (arith, ap length given))
stray_first (other ∷ others) word rest (behind, two plain is, given) stray = stray.alone other.0 (same_head word (flag_name other.0) rest (other.1 ∷ behind) is)
stray_first (other ∷ others) word rest (behind, one is, given) stray = stray.joined other.0 other.1 (same_head word (flag_name other.0 ++ 61 ∷ other.1) rest behind is)

pub stray_refutes : (choices all : List Choice) (word : Word) (rest words : List Word) → AreOptions choices (word ∷ rest) words → IsStray word → AreOptions all [] words → ⊥
stray_refutes choices all word rest words are stray whole =
    let g = options_cut choices all (word ∷ rest) words are whole in
    stray_first g.others word rest g.given stray

no_value : (rest behind : List Word) (text : Word) → rest ≡ text ∷ behind → begins_with_hyphen text ≡ false → HasNoValue rest → ⊥
no_value rest behind text is plain none = false≢true (sym plain ∙ subst HasNoValue is none)

valueless_first : (others : List Choice) (flag : Flag) (rest : List Word) → AreOptions others [] (flag_name flag ∷ rest) → HasNoValue rest → ⊥
valueless_first [] flag rest given none = absurd (omega (arith, ap length given))
valueless_first (other ∷ others) flag rest (behind, two plain is, given) none =
    no_value rest behind other.1 (same_tail (flag_name flag) (flag_name other.0) rest (other.1 ∷ behind) is) plain none
valueless_first (other ∷ others) flag rest (behind, one is, given) none =
    alone_not_joined flag other.0 other.1 (same_head (flag_name flag) (flag_name other.0 ++ 61 ∷ other.1) rest behind is)

pub valueless_refutes : (choices all : List Choice) (flag : Flag) (rest words : List Word) → AreOptions choices (flag_name flag ∷ rest) words → HasNoValue rest → AreOptions all [] words → ⊥
valueless_refutes choices all flag rest words are none whole =
    let g = options_cut choices all (flag_name flag ∷ rest) words are whole in
    valueless_first g.others flag rest g.given none
