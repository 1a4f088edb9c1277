-- Names above one another.
use Rattle.std.proofs.Common.{◌≡◌, ℕ, ◌+◌, ◌-◌, ◌≤◌, List, [], ◌∷◌, ◌++◌, length, take, drop, refl, sym, ◌∙◌, ap, arith, length-append, append_assoc, ◌⊎◌, inl, inr}
use Rattle.std.specs.Bool.{Decides}
use Rattle.std.specs.Cmp.Lexicographic.{bytes_decides}
use Rattle.std.proofs.lemmas.List.{append-nil, drop-drop, take-append-drop}
use Rattle.std.proofs.lemmas.List.Prefix.{end_rest}
use Rattle.std.proofs.lemmas.Slice.Eq.{ends_is}
use Rattle.dname.specs.Name.{Label, IsUnder}
use Rattle.dname.specs.Tests.{is_under}

pub under_decides : (name other : List Label) → Decides (is_under name other) (IsUnder name other)
under_decides name other =
    let h = ends_is bytes_decides name other (is_under name other) refl in
    (λ yes. (take (length name - length other) name, h.0 yes), λ under. h.1 under.0 under.1)

pub under_itself : (name : List Label) → IsUnder name name
under_itself name = ([], refl)

pub under_root : (name : List Label) → IsUnder name []
under_root name = (name, sym (append-nil name))

pub under_through : (name middle other : List Label) → IsUnder name middle → IsUnder middle other → IsUnder name other
under_through name middle other under up =
    (under.0 ++ up.0, under.1 ∙ ap (λ rest. under.0 ++ rest) up.1 ∙ sym (append_assoc under.0 up.0 other))

pub under_longer : (label : Label) (name other : List Label) → IsUnder name other → IsUnder (label ∷ name) other
under_longer label name other under = (label ∷ under.0, ap (λ (l : List Label). label ∷ l) under.1)

pub under_is_longer : (name other : List Label) → IsUnder name other → length other ≤ length name
under_is_longer name other under = omega (arith, ap length under.1, length-append under.0 other)

-- a name that is under another is the other or one whose parent is under it
pub under_step : (label : Label) (rest other : List Label) → IsUnder (label ∷ rest) other → (label ∷ rest ≡ other) ⊎ IsUnder rest other
under_step label rest other under = by under.0 under.1
  where
    by : (front : List Label) → label ∷ rest ≡ front ++ other → (label ∷ rest ≡ other) ⊎ IsUnder rest other
    by [] is = inl is
    by (x ∷ front) is = inr (front, cc)

-- of two names above one, the longer is under the shorter
pub longer_is_under : (name long short : List Label) → IsUnder name long → IsUnder name short → length short ≤ length long → IsUnder long short
longer_is_under name long short under under' fits =
    let at : length name - length long ≤ length name - length short = omega (arith, under_is_longer name long under) in
    let n = length long - length short in
    let is : drop n long ≡ short =
    ap (drop n) (sym (end_rest name long under.0 under.1)) ∙ drop-drop n (length name - length long) name
    ∙ ap (λ k. drop k name) {x = length name - length long + n} {y = length name - length short} (omega (arith, under_is_longer name long under))
    ∙ end_rest name short under'.0 under'.1 in
    (take n long, sym (take-append-drop n long) ∙ ap (λ (rest : List Label). take n long ++ rest) is)

-- names under one another are one
pub under_both : (x y : List Label) → IsUnder x y → IsUnder y x → x ≡ y
under_both x y under under' = by under.0 under.1
  where
    by : (front : List Label) → x ≡ front ++ y → x ≡ y
    by [] is = is
    by (label ∷ front) is = absurd (omega (arith, ap length is, length-append front y, under_is_longer y x under'))

pub under_drop : (n : ℕ) (name : List Label) → IsUnder name (drop n name)
under_drop n name = (take n name, sym (take-append-drop n name))
