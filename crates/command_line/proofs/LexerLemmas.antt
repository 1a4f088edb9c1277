-- Words as clap's lexer takes them apart.
use Rattle.std.proofs.Common.{◌≡◌, ◌⊎◌, inl, inr, ℕ, ◌<◌, ◌==◌, ◌||◌, Bool, true, false, not, [], ◌∷◌, ◌++◌, length, get_or, None, Some, refl, sym, ◌∙◌, ap, subst, arith, suc, zero}
use Rattle.std.specs.List.{list_any}
use Rattle.std.specs.Str.{bytes_eq}
use Rattle.std.specs.Str.Parse.{IsNumeral}
use Rattle.std.specs.Char.{digit_value}
use Rattle.std.proofs.lemmas.Bool.{false≢true, eqb-true, eqb-false, or_right}
use Rattle.std.proofs.lemmas.Slice.Eq.{bytes_eq-Decides}
use Rattle.clap.specs.Lexer.{long_of, short_of, name_and_value}
use Rattle.clap.proofs.CutLemmas.{Lacks}
use Rattle.clap.proofs.LexerLemmas.{name_and_value-at, name_and_value-without}
use Rattle.command_line.specs.Words.{Word}
use Rattle.command_line.specs.Options.{dashed, dashes, is_name}

abbrev pub has_equals : Word → Bool
has_equals text = list_any (λ o. o == 61) text

abbrev is_bare : Word → Bool
is_bare text = not (has_equals text)

-- a word that joins a value to a name
pub equals_in : (name text : Word) → has_equals (name ++ 61 ∷ text) ≡ true
equals_in [] text = refl
equals_in (octet ∷ name) text = or_right (octet == 61) (has_equals (name ++ 61 ∷ text)) (equals_in name text)

-- ---- equal words

pub same : (a b : Word) → a ≡ b → bytes_eq a b ≡ true
same a b e = (bytes_eq-Decides a b).1 e

pub differs : (a b : Word) → (a ≡ b → ⊥) → bytes_eq a b ≡ false
differs a b unlike = by (bytes_eq a b) refl
  where
    by : (t : Bool) → bytes_eq a b ≡ t → bytes_eq a b ≡ false
    by true e = absurd (unlike ((bytes_eq-Decides a b).0 e))
    by false e = e

pub equal : (a b : Word) → bytes_eq a b ≡ true → a ≡ b
equal a b e = (bytes_eq-Decides a b).0 e

pub apart : (a b : Word) → bytes_eq a b ≡ false → a ≡ b → ⊥
apart a b e is = false≢true (sym e ∙ same a b is)

-- ---- names without '='

or_head : (a b : Bool) → not (a || b) ≡ true → a ≡ true → ⊥
or_head true b none some = false≢true none
or_head false b none some = false≢true some

or_rest : (a b : Bool) → not (a || b) ≡ true → not b ≡ true
or_rest true b none = absurd (false≢true none)
or_rest false b none = none

is_61 : (x : ℕ) → x ≡ 61 → (x == 61) ≡ true
is_61 x e = ap (λ y. y == 61) e

bare_lacks : (text : Word) → is_bare text ≡ true → Lacks 61 text
bare_lacks [] bare i within = absurd (omega (arith, within))
bare_lacks (x ∷ text) bare zero within = λ is. or_head (x == 61) (list_any (λ o. o == 61) text) bare (is_61 x is)
bare_lacks (x ∷ text) bare (suc i) within = bare_lacks text (or_rest (x == 61) (list_any (λ o. o == 61) text) bare) i (omega (arith, within))

-- `--name`
pub long_alone : (name : Word) → is_name name ≡ true → long_of (dashed name) ≡ Some (name, None)
long_alone [] is = absurd (false≢true is)
long_alone (octet ∷ name) is = ap Some (name_and_value-without (octet ∷ name) (bare_lacks (octet ∷ name) is))

-- `--name=text`
pub long_joined : (name text : Word) → is_name name ≡ true → long_of (dashed name ++ 61 ∷ text) ≡ Some (name, Some text)
long_joined [] text is = absurd (false≢true is)
long_joined (octet ∷ name) text is = ap Some (name_and_value-at (octet ∷ name) text (bare_lacks (octet ∷ name) is))

-- a name isn't `--`, alone or with a value
pub name_not_dashes : (name : Word) → is_name name ≡ true → bytes_eq (dashed name) dashes ≡ false
name_not_dashes [] is = absurd (false≢true is)
name_not_dashes (octet ∷ name) is = differs (dashed (octet ∷ name)) dashes (λ e. absurd (omega (arith, ap length e)))

pub joined_not_dashes : (name text : Word) → is_name name ≡ true → bytes_eq (dashed name ++ 61 ∷ text) dashes ≡ false
joined_not_dashes [] text is = absurd (false≢true is)
joined_not_dashes (octet ∷ name) text is = differs (dashed (octet ∷ name) ++ 61 ∷ text) dashes (λ e. absurd (omega (arith, ap length e)))

-- ---- each word is one of these

record Cut (text : Word) : Type 0 where
  front : Word
  back : Word
  lacks : Lacks 61 front
  is : text ≡ front ++ 61 ∷ back

lacks_more : (x : ℕ) (text : Word) → (x ≡ 61 → ⊥) → Lacks 61 text → Lacks 61 (x ∷ text)
lacks_more x text other lacks zero within = other
lacks_more x text other lacks (suc i) within = lacks i (omega (arith, within))

cut_more : (x : ℕ) (text : Word) (t : Bool) → (x == 61) ≡ t → Lacks 61 text ⊎ Cut text → Lacks 61 (x ∷ text) ⊎ Cut (x ∷ text)
cut_more x text true e rest = inr (record { front = []; back = text; lacks = λ i within. absurd (omega (arith, within)); is = ap (λ y. y ∷ text) (eqb-true x 61 e) })
cut_more x text false e (inl lacks) = inl (lacks_more x text (eqb-false x 61 e) lacks)
cut_more x text false e (inr c) = inr (record { front = x ∷ c.front; back = c.back; lacks = lacks_more x c.front (eqb-false x 61 e) c.lacks; is = ap (λ l. x ∷ l) c.is })

cut : (text : Word) → Lacks 61 text ⊎ Cut text
cut [] = inl (λ i within. absurd (omega (arith, within)))
cut (x ∷ text) = cut_more x text (x == 61) refl (cut text)

-- `--name`; `--name=text`; `-abc`; none of these
pub data Lexed (word : Word) : Type 0 where
  alone : (name : Word) → word ≡ dashed name → long_of word ≡ Some (name, None) → Lexed word
  joined : (name text : Word) → word ≡ dashed name ++ 61 ∷ text → long_of word ≡ Some (name, Some text) → Lexed word
  hyphen : (octet : ℕ) (flags : Word) → long_of word ≡ None → short_of word ≡ Some (octet ∷ flags) → Lexed word
  plain : long_of word ≡ None → short_of word ≡ None → Lexed word

long_word : (x y z : ℕ) (more : Word) → (x == 45) ≡ true → (y == 45) ≡ true → Lacks 61 (z ∷ more) ⊎ Cut (z ∷ more) → Lexed (x ∷ y ∷ z ∷ more)
long_word x y z more e f (inl lacks) =
    alone (z ∷ more) (λ i. eqb-true x 45 e i ∷ eqb-true y 45 f i ∷ z ∷ more) (rw (e, f) (ap Some (name_and_value-without (z ∷ more) lacks)))
long_word x y z more e f (inr c) =
    joined c.front c.back (λ i. eqb-true x 45 e i ∷ eqb-true y 45 f i ∷ c.is i)
    (rw (e, f) (ap Some (ap name_and_value c.is ∙ name_and_value-at c.front c.back c.lacks)))

second : (x y : ℕ) (more : Word) (t : Bool) → (x == 45) ≡ true → (y == 45) ≡ t → Lexed (x ∷ y ∷ more)
second x y more false e f = hyphen y more (rw (e, f) refl) (rw (e, f) refl)
second x y [] true e f = plain (rw (e, f) refl) (rw (e, f) refl)
second x y (z ∷ more) true e f = long_word x y z more e f (cut (z ∷ more))

first : (x : ℕ) (more : Word) (t : Bool) → (x == 45) ≡ t → Lexed (x ∷ more)
first x more false e = plain (rw e refl) (rw e refl)
first x [] true e = plain (rw e refl) (rw e refl)
first x (y ∷ more) true e = second x y more (y == 45) e refl

pub lexed : (word : Word) → Lexed word
lexed [] = plain refl refl
lexed (x ∷ more) = first x more (x == 45) refl

-- ---- numerals

-- what stands where a value is wanted and is none of clap's flags
pub record IsPlain (word : Word) : Type 0 where
  pub long : long_of word ≡ None
  pub short : short_of word ≡ None
  pub dashes : bytes_eq word dashes ≡ false

no_hyphen : (x : ℕ) → digit_value x < 10 → x ≡ 45 → ⊥
no_hyphen x digit is =
    let of_hyphen : digit_value 45 < 10 = subst (λ y. digit_value y < 10) is digit in
    absurd (omega (arith, of_hyphen))

pub numeral_plain : (text : Word) → IsNumeral 10 text → IsPlain text
numeral_plain [] is = absurd (omega (arith, is.0))
numeral_plain (x ∷ more) is = by (x == 45) refl
  where
    by : (t : Bool) → (x == 45) ≡ t → IsPlain (x ∷ more)
    by true e = absurd (no_hyphen x is.1.0 (eqb-true x 45 e))
    by false e = record {
      long = rw e refl;
      short = rw e refl;
      dashes = differs (x ∷ more) dashes (λ same. no_hyphen x is.1.0 (ap (λ l. get_or l 0 0) same));
    }
