-- What the tests of a type bit map decide.
use Rattle.std.proofs.Common.{◌≡◌, ℕ, true, List, [], ◌∷◌, ◌⊎◌, inl, inr, ⊎_elim}
use Rattle.std.specs.Prelude.{◌&&◌, ◌||◌, ◌==◌}
use Rattle.std.specs.List.{Contains}
use Rattle.std.proofs.lemmas.Bool.{and_parts, or_cases, or_left, or_right}
use Rattle.std.proofs.lemmas.Bool.Decides.{Decides-eqb}
use Rattle.facts.proofs.Lists.{here_or_there, nothing_in}
use Rattle.dname.specs.Name.{Label}
use Rattle.dname.specs.Tests.{same_name}
use Rattle.dname.proofs.SameLemmas.{name_equal}
use Rattle.dname.specs.declared.types.TheConstants.{NS_TYPE, CNAME_TYPE, DNAME_TYPE, DS_TYPE}
use Rattle.zone_meaning.specs.Zone.{IsProofType}
use Rattle.zone_meaning.specs.Denial.{DeniesType, DeniesSynthesis}
use Rattle.cache_meaning.specs.Evidence.{has_type, lacks_type, deny_type, deny_type_below, hand_nothing_on}
use Rattle.soundness.proofs.TestLemmas.{not_both}

member_has : (types : List ℕ) (rtype : ℕ) → Contains types rtype → has_type types rtype ≡ true
member_has [] rtype member = absurd (nothing_in rtype member)
member_has (x ∷ types) rtype member = by (here_or_there x types rtype member) (member_has types rtype)
  where
    by : (x ≡ rtype) ⊎ Contains types rtype → (Contains types rtype → has_type types rtype ≡ true) → has_type (x ∷ types) rtype ≡ true
    by (inl same) others = or_left (x == rtype) (has_type types rtype) ((Decides-eqb x rtype).1 same)
    by (inr later) others = or_right (x == rtype) (has_type types rtype) (others later)

lacks : (types : List ℕ) (rtype : ℕ) → lacks_type types rtype ≡ true → Contains types rtype → ⊥
lacks types rtype test member = not_both (has_type types rtype) test (member_has types rtype member)

pub denies_type : (types : List ℕ) (apex name : List Label) (qtype : ℕ) → (IsProofType qtype → ⊥) → deny_type types apex name qtype ≡ true → DeniesType types name apex qtype
denies_type types apex name qtype ordinary test =
    let at_cut = same_name name apex || (qtype == DS_TYPE) in
    let own = and_parts (lacks_type types qtype) (lacks_type types CNAME_TYPE && (lacks_type types NS_TYPE || at_cut)) test in
    let others = and_parts (lacks_type types CNAME_TYPE) (lacks_type types NS_TYPE || at_cut) own.1 in
    record {
      no_type = lacks types qtype own.0;
      no_cname = lacks types CNAME_TYPE others.0;
      side = λ member apart. ⊎_elim
          (λ no_ns. absurd (lacks types NS_TYPE no_ns member))
          (λ more. ⊎_elim
          (λ same. absurd (apart (name_equal name apex same)))
          (λ ds. (Decides-eqb qtype DS_TYPE).0 ds)
          (or_cases (same_name name apex) (qtype == DS_TYPE) more))
          (or_cases (lacks_type types NS_TYPE) at_cut others.1);
      ordinary = ordinary;
    }

pub denies_synthesis : (types : List ℕ) (qtype : ℕ) → (IsProofType qtype → ⊥) → deny_type_below types qtype ≡ true → DeniesSynthesis types qtype
denies_synthesis types qtype ordinary test =
    let own = and_parts (lacks_type types qtype) (lacks_type types CNAME_TYPE && (lacks_type types NS_TYPE && lacks_type types DNAME_TYPE)) test in
    let others = and_parts (lacks_type types CNAME_TYPE) (lacks_type types NS_TYPE && lacks_type types DNAME_TYPE) own.1 in
    let bars = and_parts (lacks_type types NS_TYPE) (lacks_type types DNAME_TYPE) others.1 in
    record {
      no_type = lacks types qtype own.0;
      no_cname = lacks types CNAME_TYPE others.0;
      no_ns = lacks types NS_TYPE bars.0;
      no_dname = lacks types DNAME_TYPE bars.1;
      ordinary = ordinary;
    }

pub hands_nothing_on : (types : List ℕ) (apex name : List Label) → hand_nothing_on types apex name ≡ true → (Contains types DNAME_TYPE → ⊥) × (Contains types NS_TYPE → name ≡ apex)
hands_nothing_on types apex name test =
    let both = and_parts (lacks_type types DNAME_TYPE) (lacks_type types NS_TYPE || same_name name apex) test in (
      lacks types DNAME_TYPE both.0,
      λ member. ⊎_elim
          (λ no_ns. absurd (lacks types NS_TYPE no_ns member))
          (λ same. name_equal name apex same)
          (or_cases (lacks_type types NS_TYPE) (same_name name apex) both.1),
    )
