-- A CNAME that is looked up leads on every other type, where it stands alone.
use Rattle.std.proofs.Common.{◌≡◌, ◌≢◌, ℕ, List, [], ◌∷◌, refl, subst, arith, ⊎_elim, inl, inr}
use Rattle.std.specs.List.{Contains}
use Rattle.std.specs.declared.cmp.Ordering.{Ordering}
use Rattle.std.specs.Ordering.{nat_cmp, ordering_reverse}
use Rattle.std.specs.Cmp.Lexicographic.{slice_cmp, nat_list_cmp_total}
use Rattle.std.specs.declared.cmp.Ordering.TheVariants.{Less, Equal, Greater}
use Rattle.std.proofs.lemmas.List.Elements.{Contains-push, Contains-push_cases}
use Rattle.dname.specs.Name.{Label, asterisk}
use Rattle.dname.specs.declared.types.TheConstants.{CNAME_TYPE}
use Rattle.zone_meaning.specs.Zone.{Zone}
use Rattle.zone_meaning.specs.Lookup.{Looked, Answer, Alias, MeetsCut, MeetsDname, Meets, MeetsNothing, AnswersAt, Synthesizes, by_no_source, by_its_ns, by_its_dname, as_itself, Finds, at_a_cut, at_a_dname, at_the_name, by_a_wildcard, with_no_encloser, LooksUp}
use Rattle.resolver.specs.SoundWalk.{AliasesStandAlone}

-- what is on the way for a type but DS is on the way for a CNAME
meets_too : (zone : Zone) (name : List Label) (qtype : ℕ) (other : List Label) → Meets zone name qtype other → Meets zone name CNAME_TYPE other
meets_too zone name qtype other met = ⊎_elim
    (λ (cut : MeetsCut zone name qtype other). inl (record { parted = cut.parted; above = cut.above; asked = λ same is. omega (arith, is) }))
    (λ (dname : MeetsDname zone name other). inr dname)
    met

free_too : (zone : Zone) (name : List Label) (qtype : ℕ) → MeetsNothing zone name CNAME_TYPE → MeetsNothing zone name qtype
free_too zone name qtype free other met = free other (meets_too zone name qtype other met)

one_item : (octets others : List ℕ) → Contains (octets ∷ []) others → octets ≡ others
one_item octets others has = ⊎_elim (λ (none : Contains [] others). absurd (omega (arith, none.1))) (λ same. same) (Contains-push_cases [] octets others has)

turned : (r : Ordering) → r ≡ ordering_reverse r → r ≢ Greater
turned Less back = λ is. cc
turned Equal back = λ is. cc
turned Greater back = λ is. cc

-- octets aren't greater than themselves
not_above : (octets others : List ℕ) → octets ≡ others → slice_cmp nat_cmp octets others ≢ Greater
not_above octets others same = subst (λ it. slice_cmp nat_cmp octets it ≢ Greater) same (turned (slice_cmp nat_cmp octets octets) (nat_list_cmp_total.antisymm octets octets))

-- the one CNAME is the alias of each type that the name doesn't have
alias_at : (zone : Zone) (name : List Label) (qtype : ℕ) (octets : List ℕ) → qtype ≢ CNAME_TYPE → AliasesStandAlone zone → AnswersAt zone name CNAME_TYPE (Answer (octets ∷ [])) → AnswersAt zone name qtype (Alias octets)
alias_at zone name qtype octets other alone at =
    (λ has. other (alone name qtype at.0 has), (at.1 octets).0 (Contains-push [] octets), λ others there. not_above octets others (one_item octets others ((at.1 others).1 there)))

alias_made : (zone : Zone) (source : List Label) (qtype : ℕ) (octets : List ℕ) (answer : Looked) → qtype ≢ CNAME_TYPE → AliasesStandAlone zone → answer ≡ Answer (octets ∷ []) → Synthesizes zone source CNAME_TYPE answer → Synthesizes zone source qtype (Alias octets)
alias_made zone source qtype octets _ other alone is (by_no_source missing) = cc
alias_made zone source qtype octets _ other alone is (by_its_ns there ns) = cc
alias_made zone source qtype octets _ other alone is (by_its_dname there dname none) = cc
alias_made zone source qtype octets _ other alone is (as_itself answer there no_ns at undirected) =
    as_itself (Alias octets) there no_ns (alias_at zone source qtype octets other alone (subst (AnswersAt zone source CNAME_TYPE) is at)) (λ none. cc)

alias_found : (zone : Zone) (name : List Label) (qtype : ℕ) (octets : List ℕ) (answer : Looked) → qtype ≢ CNAME_TYPE → AliasesStandAlone zone → answer ≡ Answer (octets ∷ []) → Finds zone name CNAME_TYPE answer → Finds zone name qtype (Alias octets)
alias_found zone name qtype octets _ other alone is (at_a_cut cut first parted) = cc
alias_found zone name qtype octets _ other alone is (at_a_dname owner first whole) = cc
alias_found zone name qtype octets _ other alone is (at_the_name answer free there at) =
    at_the_name (Alias octets) (free_too zone name qtype free) there (alias_at zone name qtype octets other alone (subst (AnswersAt zone name CNAME_TYPE) is at))
alias_found zone name qtype octets _ other alone is (by_a_wildcard answer encloser free missing closest made) =
    by_a_wildcard (Alias octets) encloser (free_too zone name qtype free) missing closest (alias_made zone (asterisk ∷ encloser) qtype octets answer other alone is made)
alias_found zone name qtype octets _ other alone is (with_no_encloser free none) = cc

pub leads_on : (zone : Zone) (name : List Label) (qtype : ℕ) (octets : List ℕ) → qtype ≢ CNAME_TYPE → AliasesStandAlone zone
    → LooksUp zone name CNAME_TYPE (Answer (octets ∷ [])) → LooksUp zone name qtype (Alias octets)
leads_on zone name qtype octets other alone looked =
    record { within = looked.within; found = alias_found zone name qtype octets (Answer (octets ∷ [])) other alone refl looked.found }
