-- A lookup has an answer.
use Rattle.std.proofs.Common.{◌≡◌, ◌≢◌, ℕ, true, false, List, [], ◌∷◌, refl, sym, ◌∙◌, ap, subst, ◌⊎◌, inl, inr, ⊎_elim}
use Rattle.std.specs.Prelude.{◌↔◌}
use Rattle.std.specs.List.{Contains}
use Rattle.std.specs.declared.cmp.Ordering.{Ordering}
use Rattle.std.specs.declared.cmp.Ordering.TheVariants.{Less, Equal, Greater}
use Rattle.std.specs.Ordering.{nat_cmp, is_gt, ordering_reverse}
use Rattle.std.specs.Cmp.Lexicographic.{slice_cmp, nat_list_cmp_total}
use Rattle.std.proofs.lemmas.Cmp.{tied_itself, upto}
use Rattle.std.proofs.lemmas.Bool.{cases_Bool}
use Rattle.facts.proofs.Lists.{here, there, nothing_in, here_or_there}
use Rattle.dname.specs.Name.{Label, IsUnder, asterisk}
use Rattle.dname.specs.declared.types.TheConstants.{CNAME_TYPE, DNAME_TYPE, NS_TYPE}
use Rattle.zone_meaning.specs.Zone.{Zone, ZoneRecord, HasData, HasType, IsBelow, Exists}
use Rattle.zone_meaning.specs.Lookup.{Looked, Answer, Alias, NoData, NxDomain, Referral, Redirect, Undefined, Meets, MeetsFirst, MeetsNothing, AnswersAt, Synthesizes, by_no_source, by_its_ns, by_its_dname, as_itself, at_a_cut, at_a_dname, at_the_name, by_a_wildcard, with_no_encloser, LooksUp}
use Rattle.zone_meaning.proofs.ZoneLemmas.{so_or_not}
use Rattle.zone_meaning.proofs.ZoneTests.{is_at, at_decides, record_at, has_type, has_type_decides, is_cut, cut_decides, does_exist, exists_decides}
use Rattle.zone_meaning.proofs.AncestorLemmas.{topmost_or_none, lowest_or_none}
use Rattle.zone_meaning.proofs.LookupTests.{meets, meets_decides}
use Rattle.zone_meaning.proofs.LookupLemmas.{met_above}

-- ---- at a name

collected : (owner : List Label) (rtype : ℕ) (records : List ZoneRecord) → (items : List (List ℕ)) × ((octets : List ℕ) → Contains items octets ↔ Contains records (record { owner = owner; rtype = rtype; octets = octets }))
collected owner rtype [] = ([], λ octets. (λ in'. absurd (nothing_in octets in'), λ in'. absurd (nothing_in _ in')))
collected owner rtype (r ∷ records) =
    let rest : (items : List (List ℕ)) × ((octets : List ℕ) → Contains items octets ↔ Contains records (record { owner = owner; rtype = rtype; octets = octets })) = collected owner rtype records in
    ⊎_elim
    (λ (at : (r.owner ≡ owner) × (r.rtype ≡ rtype)). (
      r.octets ∷ rest.0,
      λ octets. (
        λ in'. ⊎_elim
            (λ same. subst (Contains (r ∷ records)) (record_at r owner rtype at.0 at.1 ∙ ap (λ (o : List ℕ). let x : ZoneRecord = record { owner = owner; rtype = rtype; octets = o } in x) same) (here r records))
            (λ more. there r records _ ((rest.1 octets).0 more))
            (here_or_there r.octets rest.0 octets in'),
        λ in'. ⊎_elim
            (λ same. subst (Contains (r.octets ∷ rest.0)) (ap (λ (x : ZoneRecord). x.octets) same) (here r.octets rest.0))
            (λ more. there r.octets rest.0 octets ((rest.1 octets).1 more))
            (here_or_there r records _ in'),
      ),
    ))
    (λ elsewhere. (
      rest.0,
      λ octets. (
        λ in'. there r records _ ((rest.1 octets).0 in'),
        λ in'. ⊎_elim
            (λ same. absurd (elsewhere (ap (λ (x : ZoneRecord). x.owner) same, ap (λ (x : ZoneRecord). x.rtype) same)))
            (λ more. (rest.1 octets).1 more)
            (here_or_there r records _ in'),
      ),
    ))
    (so_or_not (is_at owner rtype r) (at_decides owner rtype r))

pub turned_back : (r s : Ordering) → r ≡ ordering_reverse s → is_gt r ≡ true → is_gt s ≡ false
turned_back Less s back greater = cc
turned_back Equal s back greater = cc
turned_back Greater Less back greater = refl
turned_back Greater Equal back greater = refl
turned_back Greater Greater back greater = cc

pub not_greater : (r : Ordering) → is_gt r ≡ false → r ≢ Greater
not_greater r most e = differs (sym (ap is_gt e) ∙ most)
  where
    differs : true ≡ false → ⊥
    differs e = cc

-- of octets that are not none, the least
least : (x : List ℕ) (items : List (List ℕ)) → (low : List ℕ) × Contains (x ∷ items) low × ((octets : List ℕ) → Contains (x ∷ items) octets → is_gt (slice_cmp nat_cmp low octets) ≡ false)
least x [] = (x, here x [], λ octets in'. ⊎_elim (λ same. by_tie octets same) (λ none. absurd (nothing_in octets none)) (here_or_there x [] octets in'))
  where
    by_tie : (octets : List ℕ) → x ≡ octets → is_gt (slice_cmp nat_cmp x octets) ≡ false
    by_tie octets same = ap is_gt (subst (λ o. slice_cmp nat_cmp x o ≡ Equal) same (tied_itself nat_list_cmp_total x))
least x (y ∷ ys) = by (least y ys) (cases_Bool (is_gt (slice_cmp nat_cmp x (least y ys).0)))
  where
    by : (h : (low : List ℕ) × Contains (y ∷ ys) low × ((octets : List ℕ) → Contains (y ∷ ys) octets → is_gt (slice_cmp nat_cmp low octets) ≡ false)) → (is_gt (slice_cmp nat_cmp x h.0) ≡ true) ⊎ (is_gt (slice_cmp nat_cmp x h.0) ≡ false) → (low : List ℕ) × Contains (x ∷ y ∷ ys) low × ((octets : List ℕ) → Contains (x ∷ y ∷ ys) octets → is_gt (slice_cmp nat_cmp low octets) ≡ false)
    by h (inl greater) = (h.0, there x (y ∷ ys) h.0 h.1, λ octets in'. ⊎_elim (λ same. subst (λ o. is_gt (slice_cmp nat_cmp h.0 o) ≡ false) same (turned greater)) (λ more. h.2 octets more) (here_or_there x (y ∷ ys) octets in'))
      where
        turned : is_gt (slice_cmp nat_cmp x h.0) ≡ true → is_gt (slice_cmp nat_cmp h.0 x) ≡ false
        turned greater = turned_back (slice_cmp nat_cmp x h.0) (slice_cmp nat_cmp h.0 x) (nat_list_cmp_total.antisymm x h.0) greater
    by h (inr most) = (x, here x (y ∷ ys), λ octets in'. ⊎_elim (λ same. subst (λ o. is_gt (slice_cmp nat_cmp x o) ≡ false) same (ap is_gt (tied_itself nat_list_cmp_total x))) (λ more. upto nat_list_cmp_total x h.0 octets most (h.2 octets more)) (here_or_there x (y ∷ ys) octets in'))

some_at : (zone : Zone) (name : List Label) (rtype : ℕ) → (answer : Looked) × AnswersAt zone name rtype answer
some_at zone name rtype = ⊎_elim
    (λ has. let all = collected name rtype zone.records in (Answer all.0, (has, all.1)))
    (λ none. ⊎_elim
    (λ cname. let all = collected name CNAME_TYPE zone.records in by_alias none all.0 all.1 cname)
    (λ no_cname. (NoData, (none, no_cname)))
    (so_or_not (has_type zone name CNAME_TYPE) (has_type_decides zone name CNAME_TYPE)))
    (so_or_not (has_type zone name rtype) (has_type_decides zone name rtype))
  where
    by_alias : (HasType zone name rtype → ⊥) → (items : List (List ℕ)) → ((octets : List ℕ) → Contains items octets ↔ HasData zone name CNAME_TYPE octets) → HasType zone name CNAME_TYPE → (answer : Looked) × AnswersAt zone name rtype answer
    by_alias none [] all cname = absurd (nothing_in cname.0 ((all cname.0).1 cname.1))
    by_alias none (x ∷ items) all cname =
        let low = least x items in
        (Alias low.0, (none, (all low.0).0 low.1, λ others has. not_greater (slice_cmp nat_cmp low.0 others) (low.2 others ((all others).1 has))))

no_data_or_not : (answer : Looked) → (answer ≡ NoData) ⊎ (answer ≢ NoData)
no_data_or_not (Answer items) = inr (λ e. cc)
no_data_or_not (Alias octets) = inr (λ e. cc)
no_data_or_not NoData = inl refl
no_data_or_not NxDomain = inr (λ e. cc)
no_data_or_not (Referral cut) = inr (λ e. cc)
no_data_or_not (Redirect owner) = inr (λ e. cc)
no_data_or_not Undefined = inr (λ e. cc)

some_synthesis : (zone : Zone) (source : List Label) (rtype : ℕ) → (answer : Looked) × Synthesizes zone source rtype answer
some_synthesis zone source rtype = ⊎_elim
    (λ there. ⊎_elim
    (λ ns. (Undefined, by_its_ns there ns))
    (λ no_ns. ⊎_elim
    (λ dname. directed there no_ns dname (some_at zone source rtype))
    (λ no_dname. let at = some_at zone source rtype in (at.0, as_itself at.0 there no_ns at.1 (λ _. no_dname)))
    (so_or_not (has_type zone source DNAME_TYPE) (has_type_decides zone source DNAME_TYPE)))
    (so_or_not (has_type zone source NS_TYPE) (has_type_decides zone source NS_TYPE)))
    (λ missing. (NxDomain, by_no_source missing))
    (so_or_not (does_exist zone source) (exists_decides zone source))
  where
    directed : Exists zone source → (HasType zone source NS_TYPE → ⊥) → HasType zone source DNAME_TYPE → (answer : Looked) × AnswersAt zone source rtype answer → (answer : Looked) × Synthesizes zone source rtype answer
    directed there no_ns dname at = ⊎_elim
        (λ same. (Undefined, by_its_dname there dname (subst (AnswersAt zone source rtype) same at.1)))
        (λ (unlike : at.0 ≢ NoData). (at.0, as_itself at.0 there no_ns at.1 (λ same _. unlike same)))
        (no_data_or_not at.0)

pub some_answer : (zone : Zone) (name : List Label) (rtype : ℕ) → IsUnder name zone.apex → (answer : Looked) × LooksUp zone name rtype answer
some_answer zone name rtype within = ⊎_elim
    (λ (h : (x : List Label) × IsUnder name x × Meets zone name rtype x × ((y : List Label) → Meets zone name rtype y → IsBelow x y → ⊥)). met h.0 (record { met = h.2; topmost = h.3 }))
    (λ none. unmet (λ other met. none other (met_above zone name rtype other met) met))
    (topmost_or_none (Meets zone name rtype) (meets zone name rtype) (meets_decides zone name rtype) name)
  where
    met : (other : List Label) → MeetsFirst zone name rtype other → (answer : Looked) × LooksUp zone name rtype answer
    met other first = ⊎_elim
        (λ cut. (Referral other, record { within = within; found = at_a_cut other first cut }))
        (λ whole. (Redirect other, record { within = within; found = at_a_dname other first whole }))
        (so_or_not (is_cut zone other) (cut_decides zone other))

    unmet : MeetsNothing zone name rtype → (answer : Looked) × LooksUp zone name rtype answer
    unmet nothing = ⊎_elim
        (λ there. let at = some_at zone name rtype in (at.0, record { within = within; found = at_the_name at.0 nothing there at.1 }))
        (λ (missing : Exists zone name → ⊥). ⊎_elim
        (λ (h : (x : List Label) × IsUnder name x × Exists zone x × ((y : List Label) → Exists zone y → IsUnder name y → IsUnder x y)).
        let made = some_synthesis zone (asterisk ∷ h.0) rtype in (
          made.0,
          record {
            within = within;
            found = by_a_wildcard made.0 h.0 nothing missing
                (record { there = h.2; above = (h.1, λ same. missing (subst (Exists zone) (sym same) h.2)); longest = λ another there below. h.3 another there below.0 })
                made.1;
          },
        ))
        (λ none. (NxDomain, record { within = within; found = with_no_encloser nothing (λ other under there. none other under there) }))
        (lowest_or_none (Exists zone) (does_exist zone) (exists_decides zone) name))
        (so_or_not (does_exist zone name) (exists_decides zone name))
