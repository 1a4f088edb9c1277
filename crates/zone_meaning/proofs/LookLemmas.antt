-- How the steps of a lookup make its answer.
use Rattle.std.proofs.Common.{◌≡◌, ℕ, ◌<◌, List, length, take, drop, refl, sym, subst, arith, ⊎_elim, take-append-drop}
use Rattle.std.specs.Prelude.{Option, Some, None, IfNone}
use Rattle.dname.specs.Name.{Label, IsUnder}
use Rattle.dname.specs.declared.types.TheConstants.{DNAME_TYPE, NS_TYPE}
use Rattle.dname.proofs.UnderLemmas.{under_is_longer}
use Rattle.zone_meaning.specs.Zone.{Zone, IsZone, HasType, IsCut, IsOwner, Exists}
use Rattle.zone_meaning.specs.Lookup.{Looked, NoData, Referral, Redirect, MeetsCut, MeetsDname, Meets, MeetsFirst, AnswersAt, Synthesizes, by_its_dname, as_itself, LooksUp, at_a_cut, at_a_dname}
use Rattle.zone_meaning.specs.ZoneTable.{looked_of}
use Rattle.zone_meaning.specs.declared.looked.Looked as lent
use Rattle.zone_meaning.specs.declared.looked.Looked.TheVariants as lends
use Rattle.zone_meaning.proofs.ZoneLemmas.{so_or_not}
use Rattle.zone_meaning.proofs.ZoneTests.{has_type, has_type_decides, is_cut, cut_decides}
use Rattle.zone_meaning.proofs.UnbarredLemmas.{owner_under}

pub none_or_some : {T : Type 0} (P : Type 0) (r : Option T) → P → IfNone r P
none_or_some P None p = p
none_or_some P (Some x) p = tt

-- the last labels of a name are above it
pub last_above : (name : List Label) (n : ℕ) → IsUnder name (drop n name)
last_above name n = (take n name, sym (take-append-drop n name))

met_owner : (zone : Zone) (name : List Label) (rtype : ℕ) (other : List Label) → Meets zone name rtype other → IsOwner zone other
met_owner zone name rtype other met = ⊎_elim (λ (cut : MeetsCut zone name rtype other). (NS_TYPE, cut.parted.1)) (λ (dname : MeetsDname zone name other). (DNAME_TYPE, dname.there)) met

-- nothing is met above the apex
pub none_above_apex : (zone : Zone) → IsZone zone → (name : List Label) (rtype : ℕ) (other : List Label) → Meets zone name rtype other → length other < length zone.apex → ⊥
none_above_apex zone is name rtype other met short = omega (arith, short, under_is_longer other zone.apex (owner_under zone is other (met_owner zone name rtype other met)))

pub looks_first : (zone : Zone) (name : List Label) (rtype : ℕ) (other : List Label) (answer : Looked) → IsUnder name zone.apex → MeetsFirst zone name rtype other → (IsCut zone other → answer ≡ Referral other) → ((IsCut zone other → ⊥) → answer ≡ Redirect other) → LooksUp zone name rtype answer
looks_first zone name rtype other answer within first cut dname = ⊎_elim
    (λ parted. subst (LooksUp zone name rtype) (sym (cut parted)) (record { within = within; found = at_a_cut other first parted }))
    (λ whole. subst (LooksUp zone name rtype) (sym (dname whole)) (record { within = within; found = at_a_dname other first whole }))
    (so_or_not (is_cut zone other) (cut_decides zone other))

pub lends_no_data : (answer : lent.Looked) → looked_of answer ≡ NoData → answer ≡ lends.NoData
lends_no_data (lends.Answer items) e = cc
lends_no_data (lends.Alias octets) e = cc
lends_no_data lends.NoData e = refl
lends_no_data lends.NxDomain e = cc
lends_no_data (lends.Referral cut) e = cc
lends_no_data (lends.Redirect owner) e = cc
lends_no_data lends.Undefined e = cc

pub made_without : (zone : Zone) (source : List Label) (rtype : ℕ) (answer : lent.Looked) → Exists zone source → (HasType zone source NS_TYPE → ⊥) → AnswersAt zone source rtype NoData → (HasType zone source DNAME_TYPE → answer ≡ lends.Undefined) → ((HasType zone source DNAME_TYPE → ⊥) → answer ≡ lends.NoData) → Synthesizes zone source rtype (looked_of answer)
made_without zone source rtype answer there no_ns at dname none = ⊎_elim
    (λ has. subst (λ (a : lent.Looked). Synthesizes zone source rtype (looked_of a)) (sym (dname has)) (by_its_dname there has at))
    (λ lacks. subst (λ (a : lent.Looked). Synthesizes zone source rtype (looked_of a)) (sym (none lacks)) (as_itself NoData there no_ns at (λ _. lacks)))
    (so_or_not (has_type zone source DNAME_TYPE) (has_type_decides zone source DNAME_TYPE))
