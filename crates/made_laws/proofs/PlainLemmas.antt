-- The names of a made zone are plain: short, and without capitals.
use Rattle.std.proofs.Common.{◌≡◌, ℕ, zero, suc, ◌<◌, ◌≤◌, ⊎_elim, List, [], ◌∷◌, length, refl, sym, ◌∙◌, ap, subst, arith}
use Rattle.std.specs.Prelude.{codes}
use Rattle.std.proofs.lemmas.List.Elements.{All-nil, All-cons}
use Rattle.dname.specs.Name.{Label, HasLabelLength, asterisk, lowered, wire_of}
use Rattle.zone_maker.specs.Made.{made_example, name_at, NameKind, Host, Above, Cut, Wild, kind_at, owner_in, made_owner, next_owner}
use Rattle.zone_maker.proofs.NameLemmas.{label_at, label_lower}
use Rattle.made_laws.proofs.TrueLemmas.{next_by}
use Rattle.made_laws.proofs.WrittenLemmas.{IsPlain}

plain_more : (label : Label) (rest : List Label) → HasLabelLength label → lowered label ≡ label → IsPlain rest → length (wire_of (label ∷ rest)) ≤ 255 → IsPlain (label ∷ rest)
plain_more label rest size low plain fits = record {
  sizes = All-cons HasLabelLength label rest size plain.sizes;
  fits = fits;
  lower = ap (λ l. l ∷ rest) (sym low) ∙ ap (λ ls. lowered label ∷ ls) plain.lower;
}

pub plain_apex : IsPlain made_example
plain_apex = record {
  sizes = All-cons HasLabelLength (codes "made") (codes "example" ∷ []) (omega arith, omega arith)
      (All-cons HasLabelLength (codes "example") [] (omega arith, omega arith) (All-nil HasLabelLength));
  fits = omega arith;
  lower = refl;
}

plain_name : (i : ℕ) → IsPlain (name_at i)
plain_name i = plain_more (label_at i) made_example (omega arith, omega arith) (label_lower i) plain_apex (omega arith)

plain_in : (kind : NameKind) (i : ℕ) → IsPlain (owner_in kind (name_at i))
plain_in Host i = plain_name i
plain_in Above i = plain_more (codes "x") (name_at i) (omega arith, omega arith) refl (plain_name i) (omega arith)
plain_in Cut i = plain_name i
plain_in Wild i = plain_more asterisk (name_at i) (omega arith, omega arith) refl (plain_name i) (omega arith)

pub plain_owner : (k : ℕ) → IsPlain (made_owner k)
plain_owner zero = plain_apex
plain_owner (suc i) = plain_in (kind_at i) i

pub plain_next : (names k : ℕ) → k ≤ names → IsPlain (next_owner names k)
plain_next names k small = ⊎_elim
    (λ (h : (k < names) × (next_owner names k ≡ made_owner (suc k))). subst IsPlain (sym h.1) (plain_owner (suc k)))
    (λ (h : (k ≡ names) × (next_owner names k ≡ made_example)). subst IsPlain (sym h.1) plain_apex)
    (next_by names k small)
