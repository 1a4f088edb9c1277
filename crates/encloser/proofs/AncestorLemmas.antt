-- The names above a name, in turn.
use Rattle.std.proofs.Common.{◌≡◌, ◌≢◌, ℕ, get_or, ◌+◌, ◌-◌, ◌≤◌, ◌↔◌, Bool, true, false, List, [], ◌∷◌, ◌++◌, length, drop, refl, sym, ◌∙◌, ap, subst, arith, length-append, length-drop, ◌⊎◌, ⊎_elim}
use Rattle.std.specs.Prelude.{if◌then◌else◌}
use Rattle.std.specs.Bool.{Decides}
use Rattle.std.specs.List.{Contains}
use Rattle.std.proofs.lemmas.List.{drop_more}
use Rattle.facts.proofs.Lists.{here, there, here_or_there, nothing_in}
use Rattle.dname.specs.Name.{Label, IsUnder}
use Rattle.dname.specs.Tests.{is_under}
use Rattle.encloser.specs.Encloser.{last_labels, IsNextCloser, ancestors}
use Rattle.dname.proofs.UnderLemmas.{under_decides, under_itself, under_through, under_longer, under_is_longer, under_drop, longer_is_under}

-- ---- one ancestor after the other

pub next_ancestor : (label : Label) (rest apex : List Label) → IsUnder rest apex → ancestors (label ∷ rest) apex ≡ rest ∷ ancestors rest apex
next_ancestor label rest apex under = ap (λ b. if b then rest ∷ ancestors rest apex else []) ((under_decides rest apex).1 under)

pub no_ancestor : (apex : List Label) → ancestors apex apex ≡ []
no_ancestor [] = refl
no_ancestor (label ∷ rest) = by (is_under rest (label ∷ rest)) (under_decides rest (label ∷ rest))
  where
    by : (b : Bool) → Decides b (IsUnder rest (label ∷ rest)) → (if b then rest ∷ ancestors rest (label ∷ rest) else []) ≡ []
    by true d = absurd (omega (arith, under_is_longer rest (label ∷ rest) (d.0 refl)))
    by false d = refl

-- from so many of a name's last labels
pub fewer_labels : (name : List Label) (labels least : ℕ) → least ≤ labels → labels ≤ length name → labels ≢ least
    → ancestors (last_labels name labels) (last_labels name least) ≡ last_labels name (labels - 1) ∷ ancestors (last_labels name (labels - 1)) (last_labels name least)
fewer_labels name labels least enough few apart =
    let k = length name - labels in
    let k' = length name - (labels - 1) in
    let is : drop k name ≡ get_or name k [] ∷ drop k' name =
    drop_more name k [] (omega arith) ∙ ap (λ n. get_or name k [] ∷ drop n name) {x = k + 1} {y = k'} (omega arith) in
    ap (λ (n : List Label). ancestors n (last_labels name least)) is
    ∙ next_ancestor (get_or name k []) (drop k' name) (last_labels name least)
    (longer_is_under name (drop k' name) (last_labels name least) (under_drop k' name) (under_drop (length name - least) name)
    (omega (arith, length-drop k' name, length-drop (length name - least) name)))

-- ---- which names they are

-- those of a name are its parent and the parent's, where the apex is above the parent
module _ (label : Label) (rest apex : List Label) where
  parent_or_above : (other : List Label) → Contains (ancestors (label ∷ rest) apex) other → IsUnder rest apex × ((rest ≡ other) ⊎ Contains (ancestors rest apex) other)
  parent_or_above other = by (is_under rest apex) (under_decides rest apex)
    where
      by : (b : Bool) → Decides b (IsUnder rest apex) → Contains (if b then rest ∷ ancestors rest apex else []) other → IsUnder rest apex × ((rest ≡ other) ⊎ Contains (ancestors rest apex) other)
      by true d in' = (d.0 refl, here_or_there rest (ancestors rest apex) other in')
      by false d in' = absurd (nothing_in other in')

  in_front : (front : List (List Label)) → ancestors (label ∷ rest) apex ≡ front → front ≢ [] → front ≡ rest ∷ ancestors rest apex
  in_front front = by (is_under rest apex)
    where
      by : (b : Bool) → (if b then rest ∷ ancestors rest apex else []) ≡ front → front ≢ [] → front ≡ rest ∷ ancestors rest apex
      by true is some = sym is
      by false is some = absurd (some (sym is))

are_above : (name apex other : List Label) → Contains (ancestors name apex) other → IsUnder name other × (name ≢ other) × IsUnder other apex
are_above [] apex other in' = absurd (nothing_in other in')
are_above (label ∷ rest) apex other in' =
    let h = parent_or_above label rest apex other in' in
    ⊎_elim
    (λ same. subst (λ o. IsUnder (label ∷ rest) o × (label ∷ rest ≢ o) × IsUnder o apex) same (longer rest (under_itself rest) h.0))
    (λ more. let up = are_above rest apex other more in longer other up.0 up.2)
    h.1
  where
    longer : (o : List Label) → IsUnder rest o → IsUnder o apex → IsUnder (label ∷ rest) o × (label ∷ rest ≢ o) × IsUnder o apex
    longer o under within = (under_longer label rest o under, λ e. omega (arith, ap length e, under_is_longer rest o under), within)

above_are_in : (name apex other : List Label) → IsUnder name other → name ≢ other → IsUnder other apex → Contains (ancestors name apex) other
above_are_in name apex other under apart within = below name under.0 under.1 apart
  where
    parent : (label : Label) (rest front : List Label) → rest ≡ front ++ other → (rest ≢ other → Contains (ancestors rest apex) other) → Contains (rest ∷ ancestors rest apex) other
    parent label rest [] is further = subst (λ r. Contains (r ∷ ancestors r apex) other) (sym is) (here other (ancestors other apex))
    parent label rest (x ∷ front) is further = there rest (ancestors rest apex) other (further (λ e. omega (arith, ap length is, ap length e, length-append front other)))

    below : (name front : List Label) → name ≡ front ++ other → name ≢ other → Contains (ancestors name apex) other
    below name [] is apart = absurd (apart is)
    below [] (x ∷ front) is apart = absurd (cc)
    below (label ∷ rest) (x ∷ front) is apart =
        let up : rest ≡ front ++ other = cc in
        subst (λ (l : List (List Label)). Contains l other) (sym (next_ancestor label rest apex (under_through rest other apex (front, up) within)))
        (parent label rest front up (below rest front up))

pub all_ancestors : (name apex other : List Label) → Contains (ancestors name apex) other ↔ (IsUnder name other × (name ≢ other) × IsUnder other apex)
all_ancestors name apex other = (are_above name apex other, λ h. above_are_in name apex other h.0 h.1 h.2)

-- each has one label less than the one before
pub in_turn : (name apex closer encloser : List Label) (front rest : List (List Label)) → name ∷ ancestors name apex ≡ front ++ closer ∷ encloser ∷ rest → IsNextCloser name encloser closer
in_turn [] apex closer encloser [] rest is = absurd (cc)
in_turn [] apex closer encloser (x ∷ []) rest is = absurd (cc)
in_turn [] apex closer encloser (x ∷ y ∷ front) rest is = absurd (cc)
in_turn (label ∷ name) apex closer encloser [] rest is =
    let parent : encloser ∷ rest ≡ name ∷ ancestors name apex = in_front label name apex (encloser ∷ rest) (cc) (λ e. cc) in
    let same : label ∷ name ≡ closer = cc in
    let up : name ≡ encloser = cc in
    record { above = ([], same); one_more = (label, sym same ∙ ap (λ (n : List Label). label ∷ n) up) }
in_turn (label ∷ name) apex closer encloser (x ∷ front) rest is =
    let tail : ancestors (label ∷ name) apex ≡ front ++ closer ∷ encloser ∷ rest = cc in
    let parent : front ++ closer ∷ encloser ∷ rest ≡ name ∷ ancestors name apex =
    in_front label name apex (front ++ closer ∷ encloser ∷ rest) tail (λ e. omega (arith, ap length e, length-append front (closer ∷ encloser ∷ rest))) in
    let h = in_turn name apex closer encloser front rest (sym parent) in
    record { above = under_longer label name closer h.above; one_more = h.one_more }

pub first_ancestor : (name apex encloser : List Label) (rest : List (List Label)) → ancestors name apex ≡ encloser ∷ rest → IsNextCloser name encloser name × (rest ≡ ancestors encloser apex)
first_ancestor [] apex encloser rest is = absurd (cc)
first_ancestor (label ∷ name) apex encloser rest is =
    let parts : encloser ∷ rest ≡ name ∷ ancestors name apex = in_front label name apex (encloser ∷ rest) is (λ e. cc) in
    let up : encloser ≡ name = cc in
    let left : rest ≡ ancestors name apex = cc in
    (record { above = under_itself (label ∷ name); one_more = (label, ap (λ (n : List Label). label ∷ n) (sym up)) }, left ∙ ap (λ (n : List Label). ancestors n apex) (sym up))
