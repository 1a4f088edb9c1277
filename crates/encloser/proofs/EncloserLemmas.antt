-- Common enclosers, next closer names and the room for a wildcard.
use Rattle.std.proofs.Common.{◌≡◌, ◌≢◌, ℕ, ◌+◌, ◌-◌, ◌<◌, ◌≤◌, suc, Bool, true, false, ◌||◌, List, [], ◌∷◌, ◌++◌, length, drop, refl, sym, ◌∙◌, ap, subst, arith, leb, length-append, ◌⊎◌, inl, inr, ⊎_elim}
use Rattle.std.specs.Prelude.{if◌then◌else◌}
use Rattle.std.specs.Bool.{Decides}
use Rattle.std.specs.List.{All}
use Rattle.std.proofs.lemmas.Bool.Decides.{Decides-or, not_from_Decides, leb_tells}
use Rattle.std.proofs.lemmas.List.Elements.{All-nil, All-cons, All-head, All-drop}
use Rattle.std.proofs.lemmas.List.Prefix.{end_rest}
use Rattle.dname.specs.Name.{Label, IsLabel, IsName, IsUnder, IsCommon, asterisk, wire_of}
use Rattle.dname.specs.Tests.{is_under}
use Rattle.encloser.specs.Encloser.{IsCommonEncloser, longest_with, encloser_of, IsNextCloser, next_closer_of}
use Rattle.dname.proofs.UnderLemmas.{under_decides, under_itself, under_root, under_through, under_longer, under_is_longer, under_step, longer_is_under, under_both}

-- ---- common enclosers

pub one_encloser : (name owner next encloser other : List Label) → IsCommonEncloser name owner next encloser → IsCommonEncloser name owner next other → encloser ≡ other
one_encloser name owner next encloser other is is' =
    under_both encloser other (is.longest other is'.above is'.shared) (is'.longest encloser is.above is.shared)

module _ (P : List Label → Type 0) (test : List Label → Bool) (decides : (x : List Label) → Decides (test x) (P x)) (root : P []) where
  abbrev IsLongest : List Label → List Label → Type 0
  IsLongest name found = IsUnder name found × P found × ((y : List Label) → IsUnder name y → P y → IsUnder found y)

  longest_is : (name : List Label) → IsLongest name (longest_with test name)
  longest_is [] = (under_itself [], root, λ y under is. under)
  longest_is (label ∷ rest) = by (test (label ∷ rest)) (decides (label ∷ rest)) (longest_with test rest) (longest_is rest)
    where
      by : (b : Bool) → Decides b (P (label ∷ rest)) → (found : List Label) → IsLongest rest found → IsLongest (label ∷ rest) (if b then label ∷ rest else found)
      by true d found h = (under_itself (label ∷ rest), d.0 refl, λ y under is. under)
      by false d found h = (
        under_longer label rest found h.0,
        h.1,
        λ y under is. ⊎_elim (λ same. absurd (not_from_Decides false d refl (subst P (sym same) is))) (λ up. h.2 y up is) (under_step label rest y under),
      )

pub encloser_is : (name owner next : List Label) → IsCommonEncloser name owner next (encloser_of name owner next)
encloser_is name owner next =
    let h = longest_is (λ above. IsUnder owner above ⊎ IsUnder next above) (λ above. is_under owner above || is_under next above)
    (λ above. Decides-or (is_under owner above) (is_under next above) (under_decides owner above) (under_decides next above))
    (inl (under_root owner)) name in
    record { above = h.0; shared = h.1; longest = h.2 }

-- a name above one name and one of two others, as long as two given names
abbrev IsAsLong : List Label → List Label → List Label → List Label → List Label → List Label → Type 0
IsAsLong name owner next first second other =
    ((length first ≤ length other) × (length second ≤ length other)) × IsUnder name other × (IsUnder owner other ⊎ IsUnder next other)

-- of the longest common ancestors, the longer
pub longer_is : (name owner next first second longer : List Label) → IsCommon name owner first → IsCommon name next second → (IsUnder first second → longer ≡ first) → ((IsUnder first second → ⊥) → longer ≡ second) → IsCommonEncloser name owner next longer
longer_is name owner next first second longer common common' first_is second_is = record {
  above = it.1;
  shared = it.2;
  longest = λ another under ends. ⊎_elim
      (λ up. under_through longer first another (longer_is_under name longer first it.1 common.first it.0.0) (common.longest another under up))
      (λ up. under_through longer second another (longer_is_under name longer second it.1 common'.first it.0.1) (common'.longest another under up))
      ends;
}
  where
    it : IsAsLong name owner next first second longer
    it = ⊎_elim
        (λ (h : (leb (length second) (length first) ≡ true) × (length second ≤ length first)).
        let under = longer_is_under name first second common.first common'.first h.1 in
        subst (IsAsLong name owner next first second) (sym (first_is under)) ((omega arith, h.1), common.first, inl common.second))
        (λ (h : (leb (length second) (length first) ≡ false) × (length first < length second)).
        let apart : IsUnder first second → ⊥ = λ under. omega (arith, h.1, under_is_longer first second under) in
        subst (IsAsLong name owner next first second) (sym (second_is apart)) ((omega (arith, h.1), omega arith), common'.first, inr common'.second))
        (leb_tells (length second) (length first))

-- ---- next closer names

pub closer_is : (name encloser : List Label) → IsUnder name encloser → name ≢ encloser → IsNextCloser name encloser (next_closer_of name encloser)
closer_is name encloser under apart = by under.0 under.1
  where
    last : (label : Label) (front : List Label) → IsNextCloser (label ∷ front ++ encloser) encloser (drop (length front) (label ∷ front ++ encloser))
    last label [] = record { above = under_itself (label ∷ encloser); one_more = (label, refl) }
    last label (next ∷ front) = let h = last next front in
        record { above = under_longer label (next ∷ front ++ encloser) (drop (length front) (next ∷ front ++ encloser)) h.above; one_more = h.one_more }

    by : (front : List Label) → name ≡ front ++ encloser → IsNextCloser name encloser (next_closer_of name encloser)
    by [] is = absurd (apart is)
    by (label ∷ front) is = subst (λ n. IsNextCloser n encloser (next_closer_of n encloser)) (sym is)
        (subst (λ k. IsNextCloser (label ∷ front ++ encloser) encloser (drop k (label ∷ front ++ encloser))) {x = length front} {y = length (label ∷ front ++ encloser) - suc (length encloser)} (omega (arith, length-append front encloser)) (last label front))

pub closer_by_count : (name encloser closer : List Label) (labels : ℕ) → IsUnder name encloser → name ≢ encloser → labels ≡ length encloser → closer ≡ drop (length name - (labels + 1)) name → IsNextCloser name encloser closer
closer_by_count name encloser closer labels under apart count is = subst (IsNextCloser name encloser)
    (ap (λ k. drop k name) {x = length name - suc (length encloser)} {y = length name - (labels + 1)} (omega (arith, count)) ∙ sym is)
    (closer_is name encloser under apart)

pub one_closer : (name encloser closer other : List Label) → IsNextCloser name encloser closer → IsNextCloser name encloser other → closer ≡ other
one_closer name encloser closer other is is' =
    let same : length closer ≡ length other = ap length is.one_more.1 ∙ sym (ap length is'.one_more.1) in
    under_both closer other
    (longer_is_under name closer other is.above is'.above (omega (arith, same)))
    (longer_is_under name other closer is'.above is.above (omega (arith, same)))

-- ---- wildcards

at_least : (front rest : List Label) → length (wire_of rest) ≤ length (wire_of (front ++ rest))
at_least [] rest = omega arith
at_least (label ∷ front) rest = omega (arith, length-append label (wire_of (front ++ rest)), at_least front rest)

-- a label in front takes two octets at least
longer_by : (front rest : List Label) → All IsLabel (front ++ rest) → front ≢ [] → length (wire_of rest) + 2 ≤ length (wire_of (front ++ rest))
longer_by [] rest each some = absurd (some refl)
longer_by (label ∷ front) rest each some =
    let size = (All-head IsLabel label (front ++ rest) each).size in
    omega (arith, length-append label (wire_of (front ++ rest)), at_least front rest)

pub wildcard_room : (name encloser : List Label) → IsName name → IsUnder name encloser → name ≢ encloser → length (wire_of encloser) ≤ 253
wildcard_room name encloser is under apart =
    let longer = longer_by under.0 encloser (subst (All IsLabel) under.1 is.each) (λ e. apart (under.1 ∙ ap (λ (front : List Label). front ++ encloser) e)) in
    omega (arith, longer, ap (λ (n : List Label). length (wire_of n)) under.1, is.fits)

pub wildcard_is_name : (name encloser : List Label) → IsName name → IsUnder name encloser → name ≢ encloser → IsName (asterisk ∷ encloser)
wildcard_is_name name encloser is under apart = record {
  each = All-cons IsLabel asterisk encloser
      (record { size = (omega arith, omega arith); octets = All-cons (λ octet. octet < 256) 42 [] (omega arith) (All-nil (λ octet. octet < 256)); lower = refl })
      (subst (All IsLabel) (end_rest name encloser under.0 under.1) (All-drop IsLabel (length name - length encloser) name is.each));
  fits = omega (arith, wildcard_room name encloser is under apart);
}
