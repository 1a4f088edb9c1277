-- The walk over the ancestors of a name.
use Rattle.std.proofs.Common.{◌≡◌, ◌≢◌, Bool, true, false, ℕ, zero, Contains, List, [], ◌∷◌, ◌++◌, length, Option, Some, None, refl, sym, ◌∙◌, ap, subst, arith, append_assoc}
use Rattle.std.specs.Option.{option_and_then}
use Rattle.std.proofs.lemmas.List.{length-append}
use Rattle.dname.specs.Name.{Label, IsUnder}
use Rattle.dname.specs.Tests.{is_under}
use Rattle.denial_records.specs.Proof.{Proof}
use Rattle.encloser.specs.Encloser.{IsNextCloser, ancestors}
use Rattle.encloser.proofs.AncestorLemmas.{all_ancestors, first_ancestor}
use Rattle.encloser.proofs.EncloserLemmas.{one_closer}
use Rattle.dname.proofs.UnderLemmas.{under_decides}
use Rattle.cache_meaning.specs.Nsec3Steps.{by_cover, by_enclosers}
use Rattle.cache_meaning.proofs.StepLemmas.{encloser_gives, encloser_fails}
use Rattle.synth_nsec3.specs.ChainAt.{ChainAt, speaker}
use Rattle.synth_nsec3.specs.Nsec3Evidence.{IsAskedOf}
use Rattle.synth_nsec3.specs.declared.nsec3_evidence.Asked.{Asked}

-- what the enclosers of the name prove
abbrev pub proof_of : ChainAt → ℕ → List Label → Option Proof
proof_of chain qtype name = by_enclosers chain.held chain.moment chain.apex chain.parameters qtype name

-- what the record that speaks of the next closer name proves
abbrev pub at_closer : ChainAt → ℕ → List Label → List Label → Option Proof
at_closer chain qtype closer encloser = option_and_then (by_cover chain.held chain.moment chain.apex chain.parameters qtype closer encloser) (speaker chain closer)

-- the walk has come to a name whose ancestors are those that are left, and whose enclosers prove what the first name's do
pub record Walks (chain : ChainAt) (qtype : ℕ) (name : List Label) (asked : Asked) (left : List (List Label)) : Type 0 where
  pub closer : List Label
  pub under : IsUnder name closer
  pub left_is : left ≡ ancestors closer chain.apex
  pub goes_on : proof_of chain qtype name ≡ proof_of chain qtype closer
  pub asked_of : IsAskedOf chain closer asked

-- no ancestor is left
none_left : (chain : ChainAt) (qtype : ℕ) (name : List Label) → ancestors name chain.apex ≡ [] → proof_of chain qtype name ≡ None
none_left chain qtype [] none = refl
none_left chain qtype (label ∷ rest) none = by (is_under rest chain.apex) refl
  where
    by : (b : Bool) → is_under rest chain.apex ≡ b → proof_of chain qtype (label ∷ rest) ≡ None
    by true under = absurd (nothing (rw under at none))
      where
        nothing : rest ∷ ancestors rest chain.apex ≡ [] → ⊥
        nothing is = omega (arith, ap length is)
    by false apart = rw apart refl

pub walk_ends : {chain : ChainAt} {qtype : ℕ} {name : List Label} {asked : Asked} {left : List (List Label)} → Walks chain qtype name asked left → left ≡ [] → None ≡ proof_of chain qtype name
walk_ends {chain} {qtype} walk none = sym (walk.goes_on ∙ none_left chain qtype walk.closer (sym walk.left_is ∙ none))

-- a name that isn't under the apex has no ancestor there
pub apart_proves_nothing : (chain : ChainAt) (qtype : ℕ) (name : List Label) → (IsUnder name chain.apex → ⊥) → None ≡ proof_of chain qtype name
apart_proves_nothing chain qtype [] apart = refl
apart_proves_nothing chain qtype (label ∷ rest) apart = by (is_under rest chain.apex) refl
  where
    by : (b : Bool) → is_under rest chain.apex ≡ b → None ≡ proof_of chain qtype (label ∷ rest)
    by true under = absurd (apart (let above = (under_decides rest chain.apex).0 under in (label ∷ above.0, ap (λ l. label ∷ l) above.1)))
    by false other = rw other refl

-- an ancestor is left
module _ {chain : ChainAt} {qtype : ℕ} {name : List Label} {asked : Asked} {left : List (List Label)} (walk : Walks chain qtype name asked left) {encloser : List Label} {rest : List (List Label)} (is : left ≡ encloser ∷ rest) where
  first : IsNextCloser walk.closer encloser walk.closer × (rest ≡ ancestors encloser chain.apex)
  first = first_ancestor walk.closer chain.apex encloser rest (sym walk.left_is ∙ is)

  label : Label
  label = first.0.one_more.0

  longer : walk.closer ≡ label ∷ encloser
  unfolding label first
  longer = first.0.one_more.1

  pub walk_under : IsUnder name encloser
  walk_under = (walk.under.0 ++ label ∷ [], walk.under.1 ∙ (ap (λ l. walk.under.0 ++ l) longer ∙ sym (append_assoc walk.under.0 (label ∷ []) encloser)))

  pub walk_apart : name ≢ encloser
  walk_apart same = omega (arith, ap length same, ap length walk.under.1, length-append walk.under.0 walk.closer, ap length longer)

  module _ {next : List Label} (next_is : IsNextCloser name encloser next) where
    same_closer : next ≡ walk.closer
    same_closer = one_closer name encloser next walk.closer next_is (record { above = walk.under; one_more = (label, longer) })

    pub walk_asked : IsAskedOf chain next asked
    walk_asked = subst (λ n. IsAskedOf chain n asked) (sym same_closer) walk.asked_of

    under_apex : is_under encloser chain.apex ≡ true
    under_apex =
        let first_in : Contains (encloser ∷ rest) encloser = (zero, omega arith, refl) in
        (under_decides encloser chain.apex).1
        ((all_ancestors walk.closer chain.apex encloser).0 (subst (λ l. Contains l encloser) (sym is ∙ walk.left_is) first_in)).2

    pub walk_gives : {it : Proof} → Some it ≡ at_closer chain qtype next encloser → Some it ≡ proof_of chain qtype name
    walk_gives {it} gives =
        encloser_gives chain.held chain.moment chain.apex chain.parameters qtype label encloser walk.closer longer under_apex it
        (gives ∙ ap (λ n. at_closer chain qtype n encloser) same_closer)
        ∙ sym walk.goes_on

    pub walk_goes_on : {asked' : Asked} → None ≡ at_closer chain qtype next encloser → IsAskedOf chain encloser asked' → Walks chain qtype name asked' rest
    walk_goes_on fails asked_of = record {
      closer = encloser;
      under = walk_under;
      left_is = first.1;
      goes_on =
          walk.goes_on
          ∙ encloser_fails chain.held chain.moment chain.apex chain.parameters qtype label encloser walk.closer longer under_apex
          (fails ∙ ap (λ n. at_closer chain qtype n encloser) same_closer);
      asked_of = asked_of;
    }
