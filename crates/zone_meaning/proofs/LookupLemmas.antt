-- A lookup has one answer.
use Rattle.std.proofs.Common.{◌≡◌, ◌≢◌, ℕ, List, ◌∷◌, refl, sym, ap, subst, ⊎_elim}
use Rattle.std.specs.declared.cmp.Ordering.{Ordering}
use Rattle.std.specs.Ordering.{nat_cmp, ordering_reverse}
use Rattle.std.specs.Cmp.Lexicographic.{slice_cmp, nat_list_cmp_total}
use Rattle.std.specs.declared.cmp.Ordering.TheVariants.{Less, Equal, Greater}
use Rattle.std.specs.FinMap.{slice_cmp-IsAntisymmetric, nat_cmp-IsAntisymmetric}
use Rattle.dname.specs.Name.{Label, IsUnder, asterisk}
use Rattle.dname.specs.declared.types.TheConstants.{DNAME_TYPE}
use Rattle.dname.proofs.SameLemmas.{same_or_not}
use Rattle.dname.proofs.UnderLemmas.{under_itself, under_both}
use Rattle.zone_meaning.specs.Zone.{Zone, HasType, IsCut}
use Rattle.zone_meaning.specs.Lookup.{Looked, Answer, Alias, NoData, NxDomain, Referral, Redirect, Undefined, MeetsCut, MeetsDname, Meets, MeetsFirst, AnswersAt, IsClosestEncloser, Synthesizes, by_no_source, by_its_ns, by_its_dname, as_itself, Finds, at_a_cut, at_a_dname, at_the_name, by_a_wildcard, with_no_encloser, LooksUp, IsSameAnswer}
use Rattle.zone_meaning.proofs.ZoneLemmas.{above_one_name}

pub met_above : (zone : Zone) (name : List Label) (rtype : ℕ) (other : List Label) → Meets zone name rtype other → IsUnder name other
met_above zone name rtype other met = ⊎_elim (λ (cut : MeetsCut zone name rtype other). cut.above) (λ (dname : MeetsDname zone name other). dname.above.0) met

-- what is met first is one name
pub one_first : (zone : Zone) (name : List Label) (rtype : ℕ) (x y : List Label) → MeetsFirst zone name rtype x → MeetsFirst zone name rtype y → x ≡ y
one_first zone name rtype x y first first' = ⊎_elim
    (λ same. same)
    (λ (apart : x ≢ y). ⊎_elim
    (λ under. absurd (first.topmost y first'.met (under, apart)))
    (λ under. absurd (first'.topmost x first.met (under, λ e. apart (sym e))))
    (above_one_name name x y (met_above zone name rtype x first.met) (met_above zone name rtype y first'.met)))
    (same_or_not x y)

pub one_encloser : (zone : Zone) (name x y : List Label) → IsClosestEncloser zone name x → IsClosestEncloser zone name y → x ≡ y
one_encloser zone name x y is is' = under_both x y (is.longest y is'.there is'.above) (is'.longest x is.there is.above)

-- of octets of which each is the least of both, there is one
tied : (r s : Ordering) → r ≡ ordering_reverse s → r ≢ Greater → s ≢ Greater → r ≡ Equal
tied Equal s back le ge = refl
tied Greater s back le ge = absurd (le refl)
tied Less Less back le ge = cc
tied Less Equal back le ge = cc
tied Less Greater back le ge = absurd (ge refl)

one_least : (x y : List ℕ) → slice_cmp nat_cmp x y ≢ Greater → slice_cmp nat_cmp y x ≢ Greater → x ≡ y
one_least x y le ge = slice_cmp-IsAntisymmetric nat_cmp-IsAntisymmetric x y (tied (slice_cmp nat_cmp x y) (slice_cmp nat_cmp y x) (nat_list_cmp_total.antisymm x y) le ge)

pub one_at : (zone : Zone) (name : List Label) (rtype : ℕ) (a b : Looked) → AnswersAt zone name rtype a → AnswersAt zone name rtype b → IsSameAnswer a b
one_at zone name rtype (Answer items) (Answer others) h g = λ octets. (λ has. (g.1 octets).1 ((h.1 octets).0 has), λ has. (h.1 octets).1 ((g.1 octets).0 has))
one_at zone name rtype (Answer items) (Alias octets) h g = absurd (g.0 h.0)
one_at zone name rtype (Answer items) NoData h g = absurd (g.0 h.0)
one_at zone name rtype (Alias octets) (Answer items) h g = absurd (h.0 g.0)
one_at zone name rtype (Alias octets) (Alias others) h g = ap Alias (one_least octets others (h.2 others g.1) (g.2 octets h.1))
one_at zone name rtype (Alias octets) NoData h g = absurd (g.1 (octets, h.1))
one_at zone name rtype NoData (Answer items) h g = absurd (h.0 g.0)
one_at zone name rtype NoData (Alias octets) h g = absurd (h.1 (octets, g.1))
one_at zone name rtype NoData NoData h g = refl
one_at zone name rtype NxDomain b h g = absurd h
one_at zone name rtype (Referral cut) b h g = absurd h
one_at zone name rtype (Redirect owner) b h g = absurd h
one_at zone name rtype Undefined b h g = absurd h
one_at zone name rtype a NxDomain h g = absurd g
one_at zone name rtype a (Referral cut) h g = absurd g
one_at zone name rtype a (Redirect owner) h g = absurd g
one_at zone name rtype a Undefined h g = absurd g

no_data_alone : (zone : Zone) (name : List Label) (rtype : ℕ) (a : Looked) → AnswersAt zone name rtype NoData → AnswersAt zone name rtype a → a ≡ NoData
no_data_alone zone name rtype (Answer items) none at = absurd (none.0 at.0)
no_data_alone zone name rtype (Alias octets) none at = absurd (none.1 (octets, at.1))
no_data_alone zone name rtype NoData none at = refl
no_data_alone zone name rtype NxDomain none at = absurd at
no_data_alone zone name rtype (Referral cut) none at = absurd at
no_data_alone zone name rtype (Redirect owner) none at = absurd at
no_data_alone zone name rtype Undefined none at = absurd at

not_itself : (zone : Zone) (source : List Label) (rtype : ℕ) (a : Looked) → HasType zone source DNAME_TYPE → AnswersAt zone source rtype NoData → AnswersAt zone source rtype a → (a ≡ NoData → HasType zone source DNAME_TYPE → ⊥) → ⊥
not_itself zone source rtype a dname none at undirected = undirected (no_data_alone zone source rtype a none at) dname

one_synthesis : (zone : Zone) (source : List Label) (rtype : ℕ) (a b : Looked) → Synthesizes zone source rtype a → Synthesizes zone source rtype b → IsSameAnswer a b
one_synthesis zone source rtype _ _ (by_no_source missing) (by_no_source missing') = refl
one_synthesis zone source rtype _ _ (by_no_source missing) (by_its_ns there ns) = absurd (missing there)
one_synthesis zone source rtype _ _ (by_no_source missing) (by_its_dname there dname none) = absurd (missing there)
one_synthesis zone source rtype _ _ (by_no_source missing) (as_itself b there no_ns at undirected) = absurd (missing there)
one_synthesis zone source rtype _ _ (by_its_ns there ns) (by_no_source missing) = absurd (missing there)
one_synthesis zone source rtype _ _ (by_its_ns there ns) (by_its_ns there' ns') = refl
one_synthesis zone source rtype _ _ (by_its_ns there ns) (by_its_dname there' dname none) = refl
one_synthesis zone source rtype _ _ (by_its_ns there ns) (as_itself b there' no_ns at undirected) = absurd (no_ns ns)
one_synthesis zone source rtype _ _ (by_its_dname there dname none) (by_no_source missing) = absurd (missing there)
one_synthesis zone source rtype _ _ (by_its_dname there dname none) (by_its_ns there' ns) = refl
one_synthesis zone source rtype _ _ (by_its_dname there dname none) (by_its_dname there' dname' none') = refl
one_synthesis zone source rtype _ _ (by_its_dname there dname none) (as_itself b there' no_ns at undirected) = absurd (not_itself zone source rtype b dname none at undirected)
one_synthesis zone source rtype _ _ (as_itself a there no_ns at undirected) (by_no_source missing) = absurd (missing there)
one_synthesis zone source rtype _ _ (as_itself a there no_ns at undirected) (by_its_ns there' ns) = absurd (no_ns ns)
one_synthesis zone source rtype _ _ (as_itself a there no_ns at undirected) (by_its_dname there' dname none) = absurd (not_itself zone source rtype a dname none at undirected)
one_synthesis zone source rtype _ _ (as_itself a there no_ns at undirected) (as_itself b there' no_ns' at' undirected') = one_at zone source rtype a b at at'

one_find : (zone : Zone) (name : List Label) (rtype : ℕ) (a b : Looked) → Finds zone name rtype a → Finds zone name rtype b → IsSameAnswer a b
one_find zone name rtype _ _ (at_a_cut cut first parted) (at_a_cut cut' first' parted') = ap Referral (one_first zone name rtype cut cut' first first')
one_find zone name rtype _ _ (at_a_cut cut first parted) (at_a_dname owner' first' whole') = absurd (whole' (subst (IsCut zone) (one_first zone name rtype cut owner' first first') parted))
one_find zone name rtype _ _ (at_a_cut cut first parted) (at_the_name b nothing' there' at') = absurd (nothing' cut first.met)
one_find zone name rtype _ _ (at_a_cut cut first parted) (by_a_wildcard b encloser' nothing' missing' closest' made') = absurd (nothing' cut first.met)
one_find zone name rtype _ _ (at_a_cut cut first parted) (with_no_encloser nothing' none') = absurd (nothing' cut first.met)
one_find zone name rtype _ _ (at_a_dname owner first whole) (at_a_cut cut' first' parted') = absurd (whole (subst (IsCut zone) (sym (one_first zone name rtype owner cut' first first')) parted'))
one_find zone name rtype _ _ (at_a_dname owner first whole) (at_a_dname owner' first' whole') = ap Redirect (one_first zone name rtype owner owner' first first')
one_find zone name rtype _ _ (at_a_dname owner first whole) (at_the_name b nothing' there' at') = absurd (nothing' owner first.met)
one_find zone name rtype _ _ (at_a_dname owner first whole) (by_a_wildcard b encloser' nothing' missing' closest' made') = absurd (nothing' owner first.met)
one_find zone name rtype _ _ (at_a_dname owner first whole) (with_no_encloser nothing' none') = absurd (nothing' owner first.met)
one_find zone name rtype _ _ (at_the_name a nothing there at) (at_a_cut cut' first' parted') = absurd (nothing cut' first'.met)
one_find zone name rtype _ _ (at_the_name a nothing there at) (at_a_dname owner' first' whole') = absurd (nothing owner' first'.met)
one_find zone name rtype _ _ (at_the_name a nothing there at) (at_the_name b nothing' there' at') = one_at zone name rtype a b at at'
one_find zone name rtype _ _ (at_the_name a nothing there at) (by_a_wildcard b encloser' nothing' missing' closest' made') = absurd (missing' there)
one_find zone name rtype _ _ (at_the_name a nothing there at) (with_no_encloser nothing' none') = absurd (none' name (under_itself name) there)
one_find zone name rtype _ _ (by_a_wildcard a encloser nothing missing closest made) (at_a_cut cut' first' parted') = absurd (nothing cut' first'.met)
one_find zone name rtype _ _ (by_a_wildcard a encloser nothing missing closest made) (at_a_dname owner' first' whole') = absurd (nothing owner' first'.met)
one_find zone name rtype _ _ (by_a_wildcard a encloser nothing missing closest made) (at_the_name b nothing' there' at') = absurd (missing there')
one_find zone name rtype _ _ (by_a_wildcard a encloser nothing missing closest made) (by_a_wildcard b encloser' nothing' missing' closest' made') = one_synthesis zone (asterisk ∷ encloser) rtype a b made (subst (λ e. Synthesizes zone (asterisk ∷ e) rtype b) (one_encloser zone name encloser' encloser closest' closest) made')
one_find zone name rtype _ _ (by_a_wildcard a encloser nothing missing closest made) (with_no_encloser nothing' none') = absurd (none' encloser closest.above.0 closest.there)
one_find zone name rtype _ _ (with_no_encloser nothing none) (at_a_cut cut' first' parted') = absurd (nothing cut' first'.met)
one_find zone name rtype _ _ (with_no_encloser nothing none) (at_a_dname owner' first' whole') = absurd (nothing owner' first'.met)
one_find zone name rtype _ _ (with_no_encloser nothing none) (at_the_name b nothing' there' at') = absurd (none name (under_itself name) there')
one_find zone name rtype _ _ (with_no_encloser nothing none) (by_a_wildcard b encloser' nothing' missing' closest' made') = absurd (none encloser' closest'.above.0 closest'.there)
one_find zone name rtype _ _ (with_no_encloser nothing none) (with_no_encloser nothing' none') = refl

pub one_answer : (zone : Zone) (name : List Label) (rtype : ℕ) (a b : Looked) → LooksUp zone name rtype a → LooksUp zone name rtype b → IsSameAnswer a b
one_answer zone name rtype a b looked looked' = one_find zone name rtype a b looked.found looked'.found
