-- Records of which none displaces another have one order by their keys, and chains one by their zones.
use Rattle.std.proofs.Common.{◌≡◌, ◌≢◌, ◌⊎◌, ◌↔◌, ℕ, ◌||◌, inl, inr, Bool, true, false, true≢false, List, [], ◌∷◌, length, get_or, cond, Contains, filter, count_by, refl, sym, ◌∙◌, ap, subst, ◌++◌, All, ⊎_elim}
use Rattle.std.specs.List.{AllPairs}
use Rattle.std.specs.Ordering.{nat_cmp, is_lt, is_le, is_gt, ordering_then, ordering_reverse}
use Rattle.std.specs.Cmp.{IsTotalOrder}
use Rattle.std.specs.Cmp.Lexicographic.{slice_cmp}
use Rattle.std.specs.FinMap.{slice_cmp-IsAntisymmetric, nat_cmp-IsAntisymmetric}
use Rattle.std.specs.declared.cmp.Ordering.{Ordering}
use Rattle.std.specs.declared.cmp.Ordering.TheVariants.{Less, Equal, Greater}
use Rattle.std.proofs.lemmas.Bool.{and_from}
use Rattle.std.proofs.lemmas.Bool.Decides.{Decides-eqb}
use Rattle.std.proofs.lemmas.Cmp.{on_total, tied_itself, nat_list_cmp_total}
use Rattle.std.proofs.lemmas.List.Elements.{All-contains, Contains-push, Contains-append_left, Contains-push_cases}
use Rattle.std.proofs.lemmas.List.Kept.{AllPairs-cons, AllPairs-filter}
use Rattle.std.proofs.lemmas.List.Quantifiers.{all_pairs_push}
use Rattle.dname.specs.Arc.{arc_has}
use Rattle.dname.specs.Name.{Label, canonical_cmp}
use Rattle.dname.specs.Order.{canonical_total, canonical_equal, canonical_same}
use Rattle.dname.specs.Tests.{same_name}
use Rattle.dname.proofs.SameLemmas.{name_equal, name_itself, same_names}
use Rattle.denial_records.specs.declared.record.Record.{Record}
use Rattle.denial_records.specs.declared.record.Record.TheVariants.{Set, Nsec, Nsec3}
use Rattle.cache_meaning.specs.Held.{ZoneChain, same_parameters, parameters_of, key_cmp, displaces}
use Rattle.cache_meaning.proofs.ChainLemmas.{parameters_itself}
use Rattle.facts.proofs.Filters.{kept, was_kept}
use Rattle.facts.proofs.Lists.{here, there, here_or_there, nothing_in, same_head, same_tail}
use Rattle.facts.proofs.Orderings.{both_equal}
use Rattle.facts.proofs.Pairs.{pairs_head, pairs_tail}
use Rattle.held_laws.specs.HeldLaws.{IsApart, NoneDisplaces}
use Rattle.held_laws.specs.KeyOrder.{placed, sorted, zone_cmp, IsInKeyOrder, IsInZoneOrder}
use Rattle.held_laws.proofs.ListLemmas.{filtered}
use Rattle.held_laws.proofs.RankLemmas.{key_total}
use Rattle.held_laws.proofs.SameLemmas.{one_of_key}
use Rattle.held_laws.proofs.SortLemmas.{sorted_members, sorted_length, sorted_count, sorted_filter, sorted_order, sorted_rises, rising_one}

-- ---- of two records with one key each displaces the other

never : (a b : Ordering) → ordering_then a b ≡ Equal → b ≢ Equal → ⊥
never a b is not = not (both_equal a b is).1

less_is_no_tie : Less ≢ Equal
less_is_no_tie is = true≢false (ap is_lt is)

greater_is_no_tie : Greater ≢ Equal
greater_is_no_tie is = true≢false (ap is_gt is)

-- an arc has its start
arc_itself : {K : Type 0} (cmp : K → K → Ordering) → IsTotalOrder cmp → (start end : K) → arc_has cmp start end start ≡ true
arc_itself cmp total start end = by (is_lt (cmp start end)) refl
  where
    from : is_le (cmp start start) ≡ true
    from = ap is_le (tied_itself total start)

    by : (b : Bool) → is_lt (cmp start end) ≡ b → arc_has cmp start end start ≡ true
    by true is = rw (is, from) refl
    by false is = rw (is, from) refl

-- so two with one start meet
arcs_from_one : {K : Type 0} (cmp : K → K → Ordering) → IsTotalOrder cmp → (start end start' end' : K) → start ≡ start' → (arc_has cmp start end start' || arc_has cmp start' end' start) ≡ true
arcs_from_one cmp total start end start' end' same =
    ap (λ b. b || arc_has cmp start' end' start) (subst (λ key. arc_has cmp start end key ≡ true) same (arc_itself cmp total start end))

names_tie : (x y : List Label) → canonical_cmp x y ≡ Equal → same_name x y ≡ true
names_tie x y tie = same_names x y (canonical_equal x y tie)

octets_equal : (x y : List ℕ) → slice_cmp nat_cmp x y ≡ Equal → x ≡ y
octets_equal = slice_cmp-IsAntisymmetric nat_cmp-IsAntisymmetric

pub one_key_displaces : (one other : Record) → key_cmp one other ≡ Equal → displaces one other ≡ true
one_key_displaces (Set one) (Set other) tie =
    let zones = both_equal _ _ tie in
    let owners = both_equal _ _ zones.1 in
    and_from _ _ (names_tie one.zone other.zone zones.0) (and_from _ _ (names_tie one.owner other.owner owners.0)
    ((Decides-eqb one.rtype other.rtype).1 (nat_cmp-IsAntisymmetric one.rtype other.rtype owners.1)))
one_key_displaces (Set one) (Nsec other) tie = absurd (less_is_no_tie tie)
one_key_displaces (Set one) (Nsec3 other) tie = absurd (less_is_no_tie tie)
one_key_displaces (Nsec one) (Set other) tie = absurd (greater_is_no_tie tie)
one_key_displaces (Nsec one) (Nsec other) tie =
    let parts = both_equal _ _ tie in
    and_from _ _ (names_tie one.zone other.zone parts.0)
    (arcs_from_one canonical_cmp canonical_total one.owner one.next other.owner other.next (canonical_equal one.owner other.owner parts.1))
one_key_displaces (Nsec one) (Nsec3 other) tie = absurd (never _ _ tie less_is_no_tie)
one_key_displaces (Nsec3 one) (Set other) tie = absurd (greater_is_no_tie tie)
one_key_displaces (Nsec3 one) (Nsec other) tie = absurd (never _ _ tie greater_is_no_tie)
one_key_displaces (Nsec3 one) (Nsec3 other) tie =
    let zones = both_equal _ _ tie in
    let numbers = both_equal _ _ zones.1 in
    let salts = both_equal _ _ numbers.1 in
    let chains : parameters_of one ≡ parameters_of other =
    λ i. record { salt = octets_equal one.salt other.salt salts.0 i; iterations = nat_cmp-IsAntisymmetric one.iterations other.iterations numbers.0 i } in
    and_from _ _ (names_tie one.zone other.zone zones.0) (and_from _ _ (subst (λ p. same_parameters (parameters_of one) p ≡ true) chains (parameters_itself (parameters_of one)))
    (arcs_from_one (slice_cmp nat_cmp) nat_list_cmp_total one.hash one.next other.hash other.next (octets_equal one.hash other.hash salts.1)))

-- of records of which none displaces another, one has a key
pub one_has_the_key : (xs : List Record) → NoneDisplaces xs → (x y : Record) → Contains xs x → Contains xs y → key_cmp x y ≡ Equal → x ≡ y
one_has_the_key xs apart x y has has' tie = one_of_key xs apart x y has has' (one_key_displaces x y tie)

pub keys_differ : (xs : List Record) → NoneDisplaces xs → AllPairs (λ x y. key_cmp x y ≢ Equal) xs
keys_differ xs apart i j d below within tie = true≢false (sym (one_key_displaces (get_or xs i d) (get_or xs j d) tie) ∙ (apart i j d below within).0)

-- ---- records of one order

pub sorted_in_key_order : (xs : List Record) → NoneDisplaces xs → IsInKeyOrder (sorted key_cmp xs)
sorted_in_key_order xs apart = sorted_rises key_cmp key_total xs (keys_differ xs apart)

-- what is in the order of keys and has the same records is the sorted list
pub sorted_is : (xs ys : List Record) → NoneDisplaces xs → IsInKeyOrder ys → ((x : Record) → Contains xs x ↔ Contains ys x) → sorted key_cmp xs ≡ ys
sorted_is xs ys apart rising same =
    rising_one key_cmp key_total (sorted key_cmp xs) ys (sorted_in_key_order xs apart) rising (λ x.
    (λ has. (same x).0 ((sorted_members key_cmp xs x).1 has), λ has. (sorted_members key_cmp xs x).0 ((same x).1 has)))

-- two lists of the same records are sorted alike
pub sorted_alike : (xs ys : List Record) → NoneDisplaces xs → NoneDisplaces ys → ((x : Record) → Contains xs x ↔ Contains ys x) → sorted key_cmp xs ≡ sorted key_cmp ys
sorted_alike xs ys apart apart' same =
    sorted_is xs (sorted key_cmp ys) apart (sorted_in_key_order ys apart') (λ x.
    (λ has. (sorted_members key_cmp ys x).0 ((same x).0 has), λ has. (same x).1 ((sorted_members key_cmp ys x).1 has)))

-- so as many pass a test, and they are as many
pub count_alike : (p : Record → Bool) (xs ys : List Record) → NoneDisplaces xs → NoneDisplaces ys → ((x : Record) → Contains xs x ↔ Contains ys x) → count_by p xs ≡ count_by p ys
count_alike p xs ys apart apart' same = sym (sorted_count key_cmp p xs) ∙ ap (count_by p) (sorted_alike xs ys apart apart' same) ∙ sorted_count key_cmp p ys

pub length_alike : (xs ys : List Record) → NoneDisplaces xs → NoneDisplaces ys → ((x : Record) → Contains xs x ↔ Contains ys x) → length xs ≡ length ys
length_alike xs ys apart apart' same = sym (sorted_length key_cmp xs) ∙ ap length (sorted_alike xs ys apart apart' same) ∙ sorted_length key_cmp ys

-- what is in the order of keys is sorted
pub sorted_already : (xs : List Record) → NoneDisplaces xs → IsInKeyOrder xs → sorted key_cmp xs ≡ xs
sorted_already xs apart rising = sorted_is xs xs apart rising (λ x. (λ has. has, λ has. has))

-- it may be filtered before it is sorted, or after
pub sorted_filtered : (p : Record → Bool) (xs : List Record) → NoneDisplaces xs → sorted key_cmp (filter p xs) ≡ filter p (sorted key_cmp xs)
sorted_filtered p xs apart =
    sorted_is (filter p xs) (filter p (sorted key_cmp xs)) (AllPairs-filter IsApart p xs apart) (AllPairs-filter (λ one other. key_cmp one other ≡ Less) p (sorted key_cmp xs) (sorted_in_key_order xs apart))
    (filtered p p (λ x. refl) xs (sorted key_cmp xs) (sorted_members key_cmp xs))

-- what is put last is placed
pub sorted_pushed : (xs : List Record) (new : Record) → NoneDisplaces xs → All (IsApart new) xs → sorted key_cmp (xs ++ new ∷ []) ≡ placed key_cmp new (sorted key_cmp xs)
sorted_pushed xs new apart from_all =
    sorted_alike (xs ++ new ∷ []) (new ∷ xs)
    (all_pairs_push IsApart xs new apart (λ k d within. let one = from_all k d within in (one.1, one.0)))
    (AllPairs-cons IsApart new xs from_all apart) (λ x. (
      λ has. ⊎_elim (there new xs x) (λ same. subst (Contains (new ∷ xs)) same (here new xs)) (Contains-push_cases xs new x has),
      λ has. ⊎_elim (λ same. subst (Contains (xs ++ new ∷ [])) same (Contains-push xs new)) (Contains-append_left xs (new ∷ []) x) (here_or_there new xs x has),
    ))

-- ---- chains of one order

abbrev pub in_zone : List Label → ZoneChain → Bool
in_zone zone chain = same_name chain.zone zone

-- each zone lists the same chains in the same order
abbrev pub ListAlike : List ZoneChain → List ZoneChain → Type 0
ListAlike xs ys = (zone : List Label) → filter (in_zone zone) xs ≡ filter (in_zone zone) ys

pub zone_total : IsTotalOrder zone_cmp
zone_total = on_total (λ (chain : ZoneChain). chain.zone) canonical_total

pub grouped_keeps : (xs : List ZoneChain) → ListAlike (sorted zone_cmp xs) xs
grouped_keeps xs zone =
    sorted_filter zone_cmp (in_zone zone) (λ x y has has'. ap is_gt (canonical_same x.zone y.zone (name_equal x.zone zone has ∙ sym (name_equal y.zone zone has')))) xs

pub grouped_in_zone_order : (xs : List ZoneChain) → IsInZoneOrder (sorted zone_cmp xs)
grouped_in_zone_order = sorted_order zone_cmp zone_total

-- what a list has is its first, or comes after it
first_of_zones : (y : ZoneChain) (ys : List ZoneChain) → IsInZoneOrder (y ∷ ys) → (x : ZoneChain) → Contains (y ∷ ys) x → is_gt (zone_cmp y x) ≡ false
first_of_zones y ys up x has = by (here_or_there y ys x has)
  where
    by : (y ≡ x) ⊎ Contains ys x → is_gt (zone_cmp y x) ≡ false
    by (inl same) = subst (λ z. is_gt (zone_cmp y z) ≡ false) same (ap is_gt (tied_itself zone_total y))
    by (inr h) = All-contains (λ z. is_gt (zone_cmp y z) ≡ false) ys x (pairs_head (λ a b. is_gt (zone_cmp a b) ≡ false) y ys up) h

its_zone_has : (x : ZoneChain) (xs ys : List ZoneChain) → ListAlike (x ∷ xs) ys → Contains ys x
its_zone_has x xs ys alike =
    (was_kept (in_zone x.zone) ys x (subst (λ (l : List ZoneChain). Contains l x) (alike x.zone) (kept (in_zone x.zone) (x ∷ xs) x (here x xs) (name_itself x.zone)))).0

neither_after : (o o' : Ordering) → o ≡ ordering_reverse o' → is_gt o ≡ false → is_gt o' ≡ false → o ≡ Equal
neither_after Less Less turned is are = absurd (true≢false (ap is_lt turned))
neither_after Less Equal turned is are = absurd (true≢false (ap is_lt turned))
neither_after Less Greater turned is are = absurd (true≢false are)
neither_after Equal o' turned is are = refl
neither_after Greater o' turned is are = absurd (true≢false is)

-- two lists in the order of zones that list each zone alike are one
pub grouped_one : (xs ys : List ZoneChain) → IsInZoneOrder xs → IsInZoneOrder ys → ListAlike xs ys → xs ≡ ys
grouped_one [] [] up up' alike = refl
grouped_one [] (y ∷ ys) up up' alike = absurd (nothing_in y (its_zone_has y ys [] (λ zone. sym (alike zone))))
grouped_one (x ∷ xs) [] up up' alike = absurd (nothing_in x (its_zone_has x xs [] alike))
grouped_one (x ∷ xs) (y ∷ ys) up up' alike =
    λ i. first i ∷ grouped_one xs ys (pairs_tail (λ a b. is_gt (zone_cmp a b) ≡ false) x xs up) (pairs_tail (λ a b. is_gt (zone_cmp a b) ≡ false) y ys up') later i
  where
    zones : x.zone ≡ y.zone
    zones =
        canonical_equal x.zone y.zone (neither_after (zone_cmp x y) (zone_cmp y x) (zone_total.antisymm x y)
        (first_of_zones x xs up y (its_zone_has y ys (x ∷ xs) (λ zone. sym (alike zone)))) (first_of_zones y ys up' x (its_zone_has x xs (y ∷ ys) alike)))

    kept_first : (c : ZoneChain) (cs : List ZoneChain) → c.zone ≡ x.zone → filter (in_zone x.zone) (c ∷ cs) ≡ c ∷ filter (in_zone x.zone) cs
    kept_first c cs same = ap (λ b. cond b (c ∷ filter (in_zone x.zone) cs) (filter (in_zone x.zone) cs)) (same_names c.zone x.zone same)

    first : x ≡ y
    first = same_head x y (filter (in_zone x.zone) xs) (filter (in_zone x.zone) ys) (sym (kept_first x xs refl) ∙ alike x.zone ∙ kept_first y ys (sym zones))

    rest : (b : Bool) (l l' : List ZoneChain) → cond b (x ∷ l) l ≡ cond b (y ∷ l') l' → l ≡ l'
    rest true l l' same = same_tail x y l l' same
    rest false l l' same = same

    later : ListAlike xs ys
    later zone =
        rest (in_zone zone x) (filter (in_zone zone) xs) (filter (in_zone zone) ys)
        (alike zone ∙ ap (λ (c : ZoneChain). cond (in_zone zone c) (y ∷ filter (in_zone zone) ys) (filter (in_zone zone) ys)) (sym first))

pub grouped_is : (xs ys : List ZoneChain) → IsInZoneOrder ys → ListAlike xs ys → sorted zone_cmp xs ≡ ys
grouped_is xs ys up alike = grouped_one (sorted zone_cmp xs) ys (grouped_in_zone_order xs) up (λ zone. grouped_keeps xs zone ∙ alike zone)

pub grouped_alike : (xs ys : List ZoneChain) → ListAlike xs ys → sorted zone_cmp xs ≡ sorted zone_cmp ys
grouped_alike xs ys alike = grouped_is xs (sorted zone_cmp ys) (grouped_in_zone_order ys) (λ zone. alike zone ∙ sym (grouped_keeps ys zone))

pub grouped_already : (xs : List ZoneChain) → IsInZoneOrder xs → sorted zone_cmp xs ≡ xs
grouped_already xs up = grouped_is xs xs up (λ zone. refl)
