-- The record that an arc chooses among those of a chain.
use Rattle.std.proofs.Common.{◌≡◌, ℕ, Bool, true, false, true≢false, ◌⊎◌, inl, inr, List, [], ◌∷◌, ◌++◌, cond, filter, Contains, All, MatchOption, Option, Some, None, refl, sym, ◌∙◌, ap, subst}
use Rattle.std.specs.Option.{option_map}
use Rattle.std.specs.Ordering.{nat_cmp}
use Rattle.std.specs.declared.cmp.Ordering.{Ordering}
use Rattle.std.specs.declared.cmp.Ordering.TheVariants.{Less, Equal, Greater}
use Rattle.std.specs.Cmp.Lexicographic.{slice_cmp, pointwise_decides, bytes_decides}
use Rattle.std.specs.Str.{bytes_eq}
use Rattle.std.specs.FinMap.{slice_cmp-IsAntisymmetric, nat_cmp-IsAntisymmetric}
use Rattle.std.proofs.lemmas.Cmp.{nat_list_cmp_total, tied_itself}
use Rattle.std.proofs.lemmas.List.{append-nil}
use Rattle.std.proofs.lemmas.List.Elements.{All-contains, Contains-append_left, Contains-append_right, Contains-append_cases}
use Rattle.facts.proofs.Lists.{here, nothing_in}
use Rattle.dname.specs.Name.{Label, canonical_cmp}
use Rattle.dname.specs.Arc.{arc_has}
use Rattle.dname.specs.Order.{canonical_equal, canonical_same}
use Rattle.dname.specs.Tests.{same_name}
use Rattle.denial_records.specs.declared.nsec_rec.NsecRec.{NsecRec}
use Rattle.denial_records.specs.declared.nsec3_rec.Nsec3Rec.{Nsec3Rec}
use Rattle.denial_records.specs.declared.record.Record.{Record}
use Rattle.denial_records.specs.declared.record.Record.TheVariants.{Nsec, Nsec3}
use Rattle.cache_meaning.specs.Held.{NsecChain, Nsec3Chain, HashParameters, parameters_of, same_parameters, chain_of}
use Rattle.cache_meaning.specs.Zones.{as_nsec_at, as_nsec3_at}
use Rattle.cache_meaning.specs.Evidence.{nsec_matches}
use Rattle.cache_meaning.specs.Lent.{place_by}
use Rattle.cache_meaning.specs.declared.place.Place.{Place}
use Rattle.range_index.specs.declared.place.Place.{Place as RingPlace}
use Rattle.range_index.specs.Place.{place_of}
use Rattle.range_index.specs.Arcs.{span_has}
use Rattle.facts.proofs.Filters.{kept, was_kept}
use Rattle.zone_chains.specs.Zone.{OneChain, IsChosen}
use Rattle.zone_chains.specs.Views.{AreOf, AreNsec3s, IsNsec, IsNsec3, nsec_start, nsec_end, nsec3_start, nsec3_end, placed, AreChains}
use Rattle.zone_chains.proofs.ChainLemmas.{nsec_kind, nsec3_kind}
use Rattle.dname.proofs.SameLemmas.{name_itself}
use Rattle.cache_meaning.proofs.ChainLemmas.{parameters_itself}

-- ---- the choice at a record of the chain

nsec_is : (zone name : List Label) (nsec : NsecRec) → nsec.zone ≡ zone → as_nsec_at zone name (Nsec nsec) ≡ cond (arc_has canonical_cmp nsec.owner nsec.next name) (Some nsec) None
nsec_is zone name nsec zones =
    let same : same_name nsec.zone zone ≡ true = subst (λ z. same_name nsec.zone z ≡ true) zones (name_itself nsec.zone) in
    rw same refl

nsec3_is : (zone : List Label) (parameters : HashParameters) (hash : List ℕ) (nsec3 : Nsec3Rec) → nsec3.zone ≡ zone → parameters_of nsec3 ≡ parameters → as_nsec3_at zone parameters hash (Nsec3 nsec3) ≡ cond (arc_has (slice_cmp nat_cmp) nsec3.hash nsec3.next hash) (Some nsec3) None
nsec3_is zone parameters hash nsec3 zones chains =
    let same : same_name nsec3.zone zone ≡ true = subst (λ z. same_name nsec3.zone z ≡ true) zones (name_itself nsec3.zone) in
    let alike : same_parameters (parameters_of nsec3) parameters ≡ true = subst (λ p. same_parameters (parameters_of nsec3) p ≡ true) chains (parameters_itself (parameters_of nsec3)) in
    rw (same, alike) refl

-- ---- among the records of the chain

-- where the test says for each record whether the choice gives it
module _ {A F : Type 0} (choose : Record → Option A) (as_record : A → Record) (test : Record → Bool) (records : List Record) (each : (item : Record) → Contains records item → (a : A) × (item ≡ as_record a) × (choose item ≡ cond (test item) (Some a) None)) (unique : (a b : A) → as_record a ≡ as_record b → a ≡ b) where
  pub chosen_by : (value : F → A) (o : Option F) → MatchOption o (filter test records ≡ []) (λ found. filter test records ≡ as_record (value found) ∷ []) → IsChosen choose records (option_map value o)
  chosen_by value None is = λ item has. by item has (test item) refl
    where
      by : (item : Record) → Contains records item → (b : Bool) → test item ≡ b → choose item ≡ None
      by item has true passes = absurd (nothing_in item (subst (λ xs. Contains xs item) is (kept test records item has passes)))
      by item has false fails = (each item has).2 ∙ rw fails refl
  chosen_by value (Some found) is =
      let one = was_kept test records (as_record (value found)) (subst (λ xs. Contains xs (as_record (value found))) (sym is) (here (as_record (value found)) [])) in
      let its = each (as_record (value found)) one.0 in
      (as_record (value found), one.0, its.2 ∙ rw one.1 (ap (λ a. Some a) (sym (unique (value found) its.0 its.1))))

pub nsec_chosen : {F : Type 0} (zone name : List Label) (records : List Record) → All (λ item. chain_of item ≡ Some (record { zone = zone; chain = NsecChain })) records → (value : F → NsecRec) (o : Option F) → MatchOption o (filter (span_has canonical_cmp nsec_start nsec_end name) records ≡ []) (λ found. filter (span_has canonical_cmp nsec_start nsec_end name) records ≡ Nsec (value found) ∷ []) → IsChosen (as_nsec_at zone name) records (option_map value o)
nsec_chosen zone name records of_chain value o is =
    chosen_by (as_nsec_at zone name) (λ nsec. Nsec nsec) (span_has canonical_cmp nsec_start nsec_end name) records each (λ a b same. one_nsec a b same) value o is
  where
    one_nsec : (a b : NsecRec) → Nsec a ≡ Nsec b → a ≡ b
    one_nsec a b same = cc

    each : (item : Record) → Contains records item → (nsec : NsecRec) × (item ≡ Nsec nsec) × (as_nsec_at zone name item ≡ cond (span_has canonical_cmp nsec_start nsec_end name item) (Some nsec) None)
    each item has =
        let its = nsec_kind zone item (All-contains (λ item. chain_of item ≡ Some (record { zone = zone; chain = NsecChain })) records item of_chain has) in
        (its.0, its.1, subst (λ r. as_nsec_at zone name r ≡ cond (span_has canonical_cmp nsec_start nsec_end name r) (Some its.0) None) (sym its.1) (nsec_is zone name its.0 its.2))

pub nsec3_chosen : {F : Type 0} (zone : List Label) (parameters : HashParameters) (hash : List ℕ) (records : List Record) → All (λ item. chain_of item ≡ Some (record { zone = zone; chain = Nsec3Chain parameters })) records → (value : F → Nsec3Rec) (o : Option F) → MatchOption o (filter (span_has (slice_cmp nat_cmp) nsec3_start nsec3_end hash) records ≡ []) (λ found. filter (span_has (slice_cmp nat_cmp) nsec3_start nsec3_end hash) records ≡ Nsec3 (value found) ∷ []) → IsChosen (as_nsec3_at zone parameters hash) records (option_map value o)
nsec3_chosen zone parameters hash records of_chain value o is =
    chosen_by (as_nsec3_at zone parameters hash) (λ nsec3. Nsec3 nsec3) (span_has (slice_cmp nat_cmp) nsec3_start nsec3_end hash) records each (λ a b same. one_nsec3 a b same) value o is
  where
    one_nsec3 : (a b : Nsec3Rec) → Nsec3 a ≡ Nsec3 b → a ≡ b
    one_nsec3 a b same = cc

    each : (item : Record) → Contains records item → (nsec3 : Nsec3Rec) × (item ≡ Nsec3 nsec3) × (as_nsec3_at zone parameters hash item ≡ cond (span_has (slice_cmp nat_cmp) nsec3_start nsec3_end hash item) (Some nsec3) None)
    each item has =
        let its = nsec3_kind zone parameters item (All-contains (λ item. chain_of item ≡ Some (record { zone = zone; chain = Nsec3Chain parameters })) records item of_chain has) in
        (its.0, its.1, subst (λ r. as_nsec3_at zone parameters hash r ≡ cond (span_has (slice_cmp nat_cmp) nsec3_start nsec3_end hash r) (Some its.0) None) (sym its.1) (nsec3_is zone parameters hash its.0 its.2 its.3))

-- ---- of two chains

chosen_later : {A : Type 0} (choose : Record → Option A) (xs ys : List Record) (o : Option A) → IsChosen choose xs None → IsChosen choose ys o → IsChosen choose (xs ++ (ys ++ [])) o
chosen_later choose xs ys None none later = λ item has. by item (Contains-append_cases xs (ys ++ []) item has)
  where
    by : (item : Record) → Contains xs item ⊎ Contains (ys ++ []) item → choose item ≡ None
    by item (inl h) = none item h
    by item (inr h) = later item (subst (λ zs. Contains zs item) (append-nil ys) h)
chosen_later choose xs ys (Some found) none later =
    (later.0, Contains-append_right xs (ys ++ []) later.0 (Contains-append_left ys [] later.0 later.1), later.2)

pub chosen_in_older : {A : Type 0} (choose : List Label → Record → Option A) (apex : List Label) (newer older : OneChain) (first o : Option A) → AreChains apex (newer ∷ older ∷ []) → IsChosen (choose newer.chain.zone) newer.records first → first ≡ None → IsChosen (choose older.chain.zone) older.records o → IsChosen (choose apex) (newer.records ++ (older.records ++ [])) o
chosen_in_older choose apex newer older first o are one none other =
    chosen_later (choose apex) newer.records older.records o
    (subst (IsChosen (choose apex) newer.records) none (subst (λ z. IsChosen (choose z) newer.records first) are.0.here one))
    (subst (λ z. IsChosen (choose z) older.records o) are.1.here other)

-- ---- where in its arc

placed_by : (r : Ordering) (b : Bool) → (b ≡ true → r ≡ Equal) → (r ≡ Equal → b ≡ true) → placed (place_of r) ≡ place_by b
placed_by Equal true is from = refl
placed_by Equal false is from = absurd (true≢false (sym (from refl)))
placed_by Less true is from = absurd (differ (is refl))
  where
    differ : Less ≡ Equal → ⊥
    differ h = cc
placed_by Less false is from = refl
placed_by Greater true is from = absurd (differ (is refl))
  where
    differ : Greater ≡ Equal → ⊥
    differ h = cc
placed_by Greater false is from = refl

pub nsec_placed : (place : Place) (ring : RingPlace) (item : Record) (nsec : NsecRec) (name : List Label) → place ≡ placed ring → ring ≡ place_of (canonical_cmp (nsec_start item) name) → Nsec nsec ≡ item → place ≡ place_by (nsec_matches nsec name)
nsec_placed place ring item nsec name is at same =
    is ∙ ap placed (at ∙ ap (λ r. place_of (canonical_cmp (nsec_start r) name)) (sym same))
    ∙ placed_by (canonical_cmp nsec.owner name) (same_name nsec.owner name)
    (λ h. canonical_same nsec.owner name ((pointwise_decides bytes_decides nsec.owner name).0 h))
    (λ h. (pointwise_decides bytes_decides nsec.owner name).1 (canonical_equal nsec.owner name h))

pub nsec3_placed : (place : Place) (ring : RingPlace) (item : Record) (nsec3 : Nsec3Rec) (hash : List ℕ) → place ≡ placed ring → ring ≡ place_of (slice_cmp nat_cmp (nsec3_start item) hash) → Nsec3 nsec3 ≡ item → place ≡ place_by (bytes_eq nsec3.hash hash)
nsec3_placed place ring item nsec3 hash is at same =
    is ∙ ap placed (at ∙ ap (λ r. place_of (slice_cmp nat_cmp (nsec3_start r) hash)) (sym same))
    ∙ placed_by (slice_cmp nat_cmp nsec3.hash hash) (bytes_eq nsec3.hash hash)
    (λ h. subst (λ z. slice_cmp nat_cmp nsec3.hash z ≡ Equal) ((bytes_decides nsec3.hash hash).0 h) (tied_itself nat_list_cmp_total nsec3.hash))
    (λ h. (bytes_decides nsec3.hash hash).1 (slice_cmp-IsAntisymmetric nat_cmp-IsAntisymmetric nsec3.hash hash h))

-- ---- that it is of its kind

found_in : (test : Record → Bool) (records : List Record) (item : Record) → filter test records ≡ item ∷ [] → Contains records item
found_in test records item is = (was_kept test records item (subst (λ xs. Contains xs item) (sym is) (here item []))).0

pub found_nsec : (zone : List Label) (records : List Record) → AreOf (record { zone = zone; chain = NsecChain }) records → (test : Record → Bool) (item : Record) → filter test records ≡ item ∷ [] → IsNsec item
found_nsec zone records all test item is =
    let its = nsec_kind zone item (All-contains (λ item. chain_of item ≡ Some (record { zone = zone; chain = NsecChain })) records item all (found_in test records item is)) in
    subst IsNsec (sym its.1) tt

pub found_nsec3 : (records : List Record) → AreNsec3s records → (test : Record → Bool) (item : Record) → filter test records ≡ item ∷ [] → IsNsec3 item
found_nsec3 records all test item is = All-contains IsNsec3 records item all (found_in test records item is)
