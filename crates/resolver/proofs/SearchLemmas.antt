-- The search for a DNAME, from the shortest of the names above.
use Rattle.std.proofs.Common.{◌≡◌, ◌∙◌, ℕ, ◌+◌, ◌-◌, ◌<◌, ◌≤◌, zero, suc, List, [], ◌∷◌, length, drop, get_or, Some, None, sym, ap, subst, arith, drop-cons}
use Rattle.std.specs.Option.{option_or}
use Rattle.std.proofs.lemmas.List.{drop_all}
use Rattle.dname.specs.Name.{Label}
use Rattle.cache_meaning.specs.Held.{Held}
use Rattle.resolver.specs.Dname.{Dname, dname_at, topmost_dname}

-- the last so many labels
abbrev pub last_labels : ℕ → List Label → List Label
last_labels n name = drop (length name - n) name

-- of one more label
one_more : (n : ℕ) (name : List Label) → n < length name → last_labels (n + 1) name ≡ get_or name (length name - (n + 1)) [] ∷ last_labels n name
one_more n name less =
    let next : suc (length name - (n + 1)) ≡ length name - n = omega (arith, less) in
    drop-cons name (length name - (n + 1)) [] (omega (arith, less))
    ∙ ap (λ k. get_or name (length name - (n + 1)) [] ∷ drop k name) next

module _ (held : Held) (now : ℕ) (zone : List Label) where
  pub nothing_yet : (name : List Label) → topmost_dname held now zone (last_labels 0 name) ≡ None
  nothing_yet name = ap (topmost_dname held now zone) (drop_all (length name - 0) name (omega arith))

  pub none_here : (name : List Label) (n : ℕ) → n < length name → topmost_dname held now zone (last_labels n name) ≡ None → None ≡ dname_at held now zone (last_labels n name)
      → topmost_dname held now zone (last_labels (n + 1) name) ≡ None
  none_here name n less before here =
      ap (topmost_dname held now zone) (one_more n name less)
      ∙ (λ i. option_or (before i) (sym here i))

  longer_too : (k : ℕ) (name : List Label) (dname : Dname) → topmost_dname held now zone (drop k name) ≡ Some dname → topmost_dname held now zone name ≡ Some dname
  longer_too zero name dname is = is
  longer_too (suc k) [] dname is = is
  longer_too (suc k) (label ∷ rest) dname is = ap (λ o. option_or o (dname_at held now zone rest)) (longer_too k rest dname is)

  pub found_here : (name : List Label) (n : ℕ) (dname : Dname) → n < length name → topmost_dname held now zone (last_labels n name) ≡ None → Some dname ≡ dname_at held now zone (last_labels n name)
      → Some dname ≡ topmost_dname held now zone name
  found_here name n dname less before here =
      sym (longer_too (length name - (n + 1)) name dname
      (ap (topmost_dname held now zone) (one_more n name less) ∙ (λ i. option_or (before i) (sym here i))))

  pub none_at_all : (name : List Label) (n : ℕ) → length name ≤ n → topmost_dname held now zone (last_labels n name) ≡ None → None ≡ topmost_dname held now zone name
  none_at_all name n all none =
      let whole : length name - n ≡ 0 = omega (arith, all) in
      sym (subst (λ k. topmost_dname held now zone (drop k name) ≡ None) whole none)
