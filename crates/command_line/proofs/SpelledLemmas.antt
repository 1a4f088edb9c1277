-- Texts that spell values, one by one.
use Rattle.std.proofs.Common.{◌≡◌, suc, List, [], ◌∷◌, ◌++◌, length, map, filter, refl, sym, ◌∙◌, ap, subst, inl, inr, ⊎_elim}
use Rattle.std.specs.List.{Contains}
use Rattle.std.specs.Str.{bytes_eq}
use Rattle.std.proofs.lemmas.List.{append-nil, map-append}
use Rattle.std.proofs.lemmas.List.Elements.{filter-append}
use Rattle.facts.proofs.Lists.{first_or_there, here, nothing_in, there}
use Rattle.command_line.specs.Words.{AreSpelled, Choice, Word, flag_name, texts_of}
use Rattle.command_line.specs.declared.flag.Flag.{Flag}

-- ---- the texts of an option

pub texts_append : (flag : Flag) (one other : List Choice) → texts_of flag (one ++ other) ≡ texts_of flag one ++ texts_of flag other
texts_append flag one other =
    let own = λ (choice : Choice). bytes_eq (flag_name flag) (flag_name choice.0) in
    ap (map (λ choice. choice.1)) (filter-append own one other) ∙ map-append (λ (choice : Choice). choice.1) (filter own one) (filter own other)

-- another option adds nothing
pub texts_kept : (flag : Flag) (choices : List Choice) (choice : Choice) → texts_of flag (choice ∷ []) ≡ [] → texts_of flag (choices ++ choice ∷ []) ≡ texts_of flag choices
texts_kept flag choices choice none = texts_append flag choices (choice ∷ []) ∙ ap (λ ts. texts_of flag choices ++ ts) none ∙ append-nil (texts_of flag choices)

module _ {A : Type 0} (Spells : Word → A → Type 0) where
  -- what spells the front, and what spells the rest
  pub record IsSplit (front back : List Word) (values : List A) : Type 0 where
    pub first : List A
    pub last : List A
    pub joined : values ≡ first ++ last
    pub spelled_first : AreSpelled Spells front first
    pub spelled_last : AreSpelled Spells back last

  pub spelled_append : (front back : List Word) (first last : List A) → AreSpelled Spells front first → AreSpelled Spells back last → AreSpelled Spells (front ++ back) (first ++ last)
  spelled_append [] back [] last is more = more
  spelled_append [] back (value ∷ first) last is more = absurd is
  spelled_append (text ∷ front) back [] last is more = absurd is
  spelled_append (text ∷ front) back (value ∷ first) last is more = (is.0, spelled_append front back first last is.1 more)

  pub spelled_split : (front back : List Word) (values : List A) → AreSpelled Spells (front ++ back) values → IsSplit front back values
  spelled_split [] back values is = record { first = []; last = values; joined = refl; spelled_first = tt; spelled_last = is }
  spelled_split (text ∷ front) back [] is = absurd is
  spelled_split (text ∷ front) back (value ∷ values) is =
      let s = spelled_split front back values is.1 in
      record { first = value ∷ s.first; last = s.last; joined = ap (λ l. value ∷ l) s.joined; spelled_first = (is.0, s.spelled_first); spelled_last = s.spelled_last }

  pub spelled_length : (texts : List Word) (values : List A) → AreSpelled Spells texts values → length texts ≡ length values
  spelled_length [] [] is = refl
  spelled_length [] (value ∷ values) is = absurd is
  spelled_length (text ∷ texts) [] is = absurd is
  spelled_length (text ∷ texts) (value ∷ values) is = ap suc (spelled_length texts values is.1)

  -- each value has a text, and each text a value
  pub text_of_value : (texts : List Word) (values : List A) (value : A) → AreSpelled Spells texts values → Contains values value → (text : Word) × Contains texts text × Spells text value
  text_of_value [] [] value is among = absurd (nothing_in value among)
  text_of_value [] (other ∷ values) value is among = absurd is
  text_of_value (text ∷ texts) [] value is among = absurd is
  text_of_value (text ∷ texts) (other ∷ values) value is among =
      ⊎_elim (λ e. (text, here text texts, subst (Spells text) (sym e) is.0))
      (λ more. let found = text_of_value texts values value is.1 more in (found.0, there text texts found.0 found.1, found.2))
      (first_or_there other values value among)

  pub value_of_text : (texts : List Word) (values : List A) (text : Word) → AreSpelled Spells texts values → Contains texts text → (value : A) × Contains values value × Spells text value
  value_of_text [] [] text is among = absurd (nothing_in text among)
  value_of_text [] (value ∷ values) text is among = absurd is
  value_of_text (other ∷ texts) [] text is among = absurd is
  value_of_text (other ∷ texts) (value ∷ values) text is among =
      ⊎_elim (λ e. (value, here value values, subst (λ t. Spells t value) (sym e) is.0))
      (λ more. let found = value_of_text texts values text is.1 more in (found.0, there value values found.0 found.1, found.2))
      (first_or_there other texts text among)

  -- where a text spells one value alone, texts spell one list
  pub spelled_same : ((text : Word) (one other : A) → Spells text one → Spells text other → one ≡ other) → (texts : List Word) (values others : List A) → AreSpelled Spells texts values → AreSpelled Spells texts others → values ≡ others
  spelled_same unique [] [] [] is same = refl
  spelled_same unique [] [] (other ∷ others) is same = absurd same
  spelled_same unique [] (value ∷ values) others is same = absurd is
  spelled_same unique (text ∷ texts) [] others is same = absurd is
  spelled_same unique (text ∷ texts) (value ∷ values) [] is same = absurd same
  spelled_same unique (text ∷ texts) (value ∷ values) (other ∷ others) is same =
      λ i. unique text value other is.0 same.0 i ∷ spelled_same unique texts values others is.1 same.1 i
