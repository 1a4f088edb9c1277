-- The order of a zone's records, and the records that are looked for.
use Rattle.std.proofs.Common.{◌≡◌, ℕ, ◌↔◌, ◌≤◌, ◌-◌, ◌==◌, List, [], ◌∷◌, length, map, take, drop, get_or, refl, sym, ◌∙◌, ap, subst, arith, ⊎_elim, ◌+◌, Bool, false, true}
use Rattle.std.specs.Prelude.{not}
use Rattle.std.specs.List.{Contains}
use Rattle.std.specs.List.Sorted.{IsSorted}
use Rattle.std.specs.Ordering.{nat_cmp, is_lt, ordering_then}
use Rattle.std.specs.declared.cmp.Ordering.{Ordering}
use Rattle.std.specs.declared.cmp.Ordering.TheVariants.{Less, Equal, Greater}
use Rattle.std.specs.Cmp.{IsTotalOrder}
use Rattle.std.specs.Cmp.Lexicographic.{slice_cmp, nat_list_cmp_total}
use Rattle.std.specs.FinMap.{slice_cmp-IsAntisymmetric, nat_cmp-IsAntisymmetric}
use Rattle.std.proofs.lemmas.Cmp.{nat_cmp_total, on_total, then_total, tied_itself}
use Rattle.std.specs.Fn.{Called, ComparesAs}
use Rattle.std.specs.Cmp.{IsStrictWeakOrder}
use Rattle.std.specs.List.Sorted.{IsPermutation, IsSortedBy}
use Rattle.std.proofs.lemmas.Fn.{always_returns_same}
use Rattle.std.proofs.lemmas.List.Sorted.{ranks_by, sorted_far, IsPermutation-map, IsPermutation-sym, Contains-permutation}
use denote.Ref.{Bor}
use denote.Param.Members.{Mut}
use Rattle.facts.proofs.Orderings.{both_equal}
use Rattle.std.specs.List.{All}
use Rattle.std.specs.Prelude.{IsTrue, ◌<◌, ◌++◌}
use Rattle.std.proofs.lemmas.Bool.{false≢true, cases_lt}
use Rattle.std.proofs.lemmas.Bool.Decides.{Decides-eqb, Decides-not}
use Rattle.std.proofs.lemmas.List.{map-append, length-append, length-drop, length-take, get_or-take, get_or-drop}
use Rattle.std.proofs.lemmas.List.Elements.{All-push, Contains-get_or}
use Rattle.std.proofs.lemmas.List.Prefix.{end_rest}
use Rattle.dname.proofs.UnderLemmas.{under_drop, under_is_longer}
use Rattle.zone_index.specs.Live.{IsBarred}
use Rattle.facts.proofs.Lists.{here, nothing_in}
use Rattle.facts.proofs.Maps.{into_map, from_map}
use Rattle.dname.specs.Name.{Label, IsUnder, canonical_cmp}
use Rattle.dname.specs.Order.{canonical_total, canonical_equal, canonical_same}
use Rattle.zone_meaning.specs.Zone.{Zone, ZoneRecord, IsZone, IsSameZone, IsProofType, HasData, HasType, IsOwner}
use Rattle.zone_meaning.specs.Zone.{IsBar, IsBelow, IsLive}
use Rattle.zone_meaning.specs.ZoneTable.{zone_record}
use Rattle.zone_meaning.proofs.BarLemmas.{bar_owner}
use Rattle.zone_meaning.proofs.UnbarredLemmas.{owner_under}
use Rattle.zone_meaning.proofs.SameRecords.{same_zone}
use Rattle.zone_meaning.proofs.ZoneTests.{record_at}
use Rattle.zone_index.specs.Entries.{record_of, record_cmp, entry_cmp, versus, zone_in, AreIndexed, AreOwners, IsSought, IsRun, Rises}
use Rattle.zone_index.specs.declared.entry.Entry.{Entry}
use Rattle.zone_index.specs.declared.sought.Sought.{Sought}
use Rattle.zone_index.specs.declared.sought.Sought.TheVariants.{AtOwner, OfType, WithData}
use Rattle.zone_index.proofs.SearchLemmas.{keeps, front_keeps, then_keeps, total_carries, IsBefore, IsUpto, in_order, run_has}

pub record_total : IsTotalOrder record_cmp
record_total = then_total (on_total (λ (r : ZoneRecord). r.owner) canonical_total)
    (then_total (on_total (λ (r : ZoneRecord). r.rtype) nat_cmp_total) (on_total (λ (r : ZoneRecord). r.octets) nat_list_cmp_total))

pub entry_total : IsTotalOrder entry_cmp
entry_total = on_total record_of record_total

-- along entries in order, a later one doesn't compare lower with an owner's
pub owners_rise : (owner : Bor (List Label)) (entries : List Entry) → IsSorted entry_cmp entries → Rises (AtOwner owner) entries
owners_rise owner entries sorted i j d le lt =
    front_keeps _ _ _ _ (total_carries canonical_cmp canonical_total (get_or entries i d).owner (get_or entries j d).owner owner.now)
    (sorted_far (λ x y. is_lt (entry_cmp x y)) (ranks_by entry_total (λ y. y)) entries sorted i j d le lt)

-- along one owner's, with those of a type, and with one of it
module _ (zone : Zone) (owner : List Label) (entries : List Entry) (all : AreOwners zone owner entries) where
  owned : (i : ℕ) (d : Entry) → i < length entries → (get_or entries i d).owner ≡ owner
  owned i d lt = ((all.finds (record_of (get_or entries i d))).0 (into_map record_of entries (get_or entries i d) (Contains-get_or entries i d lt))).1

  later : (i j : ℕ) (d : Entry) → i ≤ j → j < length entries → is_lt (ordering_then (nat_cmp (get_or entries j d).rtype (get_or entries i d).rtype) (slice_cmp nat_cmp (get_or entries j d).octets (get_or entries i d).octets)) ≡ false
  later i j d le lt =
      subst (λ o. is_lt (ordering_then o (ordering_then (nat_cmp (get_or entries j d).rtype (get_or entries i d).rtype) (slice_cmp nat_cmp (get_or entries j d).octets (get_or entries i d).octets))) ≡ false)
      (canonical_same (get_or entries j d).owner (get_or entries i d).owner (owned j d lt ∙ sym (owned i d (omega (arith, le, lt)))))
      (sorted_far (λ x y. is_lt (entry_cmp x y)) (ranks_by entry_total (λ y. y)) entries all.sorted i j d le lt)

  pub types_rise : (rtype : ℕ) → Rises (OfType rtype) entries
  types_rise rtype i j d le lt =
      front_keeps _ _ _ _ (total_carries nat_cmp nat_cmp_total (get_or entries i d).rtype (get_or entries j d).rtype rtype) (later i j d le lt)

  pub data_rise : (rtype : ℕ) (octets : Bor (List ℕ)) → Rises (WithData rtype octets) entries
  data_rise rtype octets i j d le lt =
      then_keeps _ _ _ _ _ _ (total_carries nat_cmp nat_cmp_total (get_or entries i d).rtype (get_or entries j d).rtype rtype)
      (keeps _ _ _ (total_carries (slice_cmp nat_cmp) nat_list_cmp_total (get_or entries i d).octets (get_or entries j d).octets octets.now))
      (later i j d le lt)

both_tie : (a b : Ordering) → a ≡ Equal → b ≡ Equal → ordering_then a b ≡ Equal
both_tie Less b p q = p
both_tie Equal b p q = q
both_tie Greater b p q = p

-- those that are looked for are those that tie
pub sought_ties : (sought : Sought) (r : ZoneRecord) → (versus sought r ≡ Equal) ↔ IsSought sought r
sought_ties (AtOwner owner) r = (canonical_equal r.owner owner.now, canonical_same r.owner owner.now)
sought_ties (OfType rtype) r = (
  λ tie. nat_cmp-IsAntisymmetric r.rtype rtype tie,
  λ is. subst (λ t. nat_cmp r.rtype t ≡ Equal) is (tied_itself nat_cmp_total r.rtype),
)
sought_ties (WithData rtype octets) r = (
  λ tie. let g = both_equal _ _ tie in (nat_cmp-IsAntisymmetric r.rtype rtype g.0, slice_cmp-IsAntisymmetric nat_cmp-IsAntisymmetric r.octets octets.now g.1),
  λ is. both_tie _ _ (subst (λ t. nat_cmp r.rtype t ≡ Equal) is.0 (tied_itself nat_cmp_total r.rtype))
      (subst (λ (o : List ℕ). slice_cmp nat_cmp r.octets o ≡ Equal) is.1 (tied_itself nat_list_cmp_total r.octets)),
)

-- of a run's entries, the records
pub run_records : (sought : Sought) (zone : Zone) (entries run : List Entry) → zone.records ≡ map record_of entries → IsRun sought entries run → (r : ZoneRecord) → Contains (map record_of run) r ↔ (Contains zone.records r × IsSought sought r)
run_records sought zone entries run same is r = (
  λ has.
      let e = from_map record_of run r has in
      let h = (is e.0).0 e.1 in
      (subst (λ rs. Contains rs r) (sym same) (subst (Contains (map record_of entries)) e.2 (into_map record_of entries e.0 h.0)), subst (IsSought sought) e.2 h.1),
  λ has.
      let e = from_map record_of entries r (subst (λ rs. Contains rs r) same has.0) in
      subst (Contains (map record_of run)) e.2 (into_map record_of run e.0 ((is e.0).1 (e.1, subst (IsSought sought) (sym e.2) has.1))),
)

-- the run of an owner
pub owners_of : (owner : Bor (List Label)) (zone : Zone) (entries run : List Entry) → zone.records ≡ map record_of entries → IsRun (AtOwner owner) entries run → IsSorted entry_cmp run → AreOwners zone owner.now run
owners_of owner zone entries run same is sorted = record { finds = run_records (AtOwner owner) zone entries run same is; sorted = sorted }

-- a run of an owner's entries has those of the zone's records that are the owner's and are looked for
pub within_run : (sought : Sought) (zone : Zone) (owner : List Label) (entries run : List Entry) → AreOwners zone owner entries → IsRun sought entries run → (r : ZoneRecord) → Contains (map record_of run) r ↔ (Contains zone.records r × ((r.owner ≡ owner) × IsSought sought r))
within_run sought zone owner entries run all is r =
    let found = run_records sought (zone_in [] entries) entries run refl is r in (
      λ has. let h = found.0 has in let g = (all.finds r).0 h.0 in (g.0, (g.1, h.1)),
      λ has. found.1 ((all.finds r).1 (has.0, has.1.0), has.1.1),
    )

-- ---- the places of a run

pub part_sorted : (entries run : List Entry) (from upto : ℕ) → upto ≤ length entries → from ≤ upto → run ≡ take (upto - from) (drop from entries) → IsSorted entry_cmp entries → IsSorted entry_cmp run
part_sorted entries run from upto bound order is sorted =
    subst (IsSorted entry_cmp) (sym is) (λ k d low lt.
    let short : k + 1 < upto - from = omega (arith, lt, length-take (upto - from) (drop from entries), length-drop from entries, bound, order) in
    subst (λ (e : Entry). is_lt (entry_cmp (get_or (take (upto - from) (drop from entries)) (k + 1) d) e) ≡ false) (sym (at k d (omega (arith, short))))
    (subst (λ (e : Entry). is_lt (entry_cmp e (get_or entries (from + k) d)) ≡ false) (ap (λ n. get_or entries n d) {x = from + k + 1} {y = from + (k + 1)} (omega arith) ∙ sym (at (k + 1) d short))
    (sorted (from + k) d (omega arith) (omega (arith, short, bound, order)))))
  where
    at : (n : ℕ) (d : Entry) → n < upto - from → get_or (take (upto - from) (drop from entries)) n d ≡ get_or entries (from + n) d
    at n d lt = get_or-take (upto - from) (drop from entries) n d lt ∙ get_or-drop from entries n d

no_places : (sought : Sought) (from upto : ℕ) → from ≤ 0 → from ≤ upto
no_places sought from upto bound = omega (arith, bound)

pub run_ordered : (sought : Sought) (entries : List Entry) (from upto : ℕ) → from ≤ length entries → IsBefore (λ e. versus sought (record_of e)) entries from → IsUpto (λ e. versus sought (record_of e)) entries upto → from ≤ upto
run_ordered sought [] from upto bound before behind = no_places sought from upto bound
run_ordered sought (e ∷ entries) from upto bound before behind = in_order (λ x. versus sought (record_of x)) (e ∷ entries) from upto bound before behind e

pub run_is : (sought : Sought) (entries : List Entry) (from upto : ℕ) (run : List Entry) → from ≤ length entries → upto ≤ length entries → IsBefore (λ e. versus sought (record_of e)) entries from → IsUpto (λ e. versus sought (record_of e)) entries upto → run ≡ take (upto - from) (drop from entries) → IsRun sought entries run
run_is sought entries from upto run bound bound' before behind is e =
    let h = run_has (λ x. versus sought (record_of x)) entries from upto bound' (run_ordered sought entries from upto bound before behind) before behind e in (
      λ has. let g = h.0 (subst (λ xs. Contains xs e) is has) in (g.0, (sought_ties sought (record_of e)).0 g.1),
      λ has. subst (λ xs. Contains xs e) (sym is) (h.1 (has.0, (sought_ties sought (record_of e)).1 has.1)),
    )

-- ---- the order that a sort makes

pub sorted_from_clause : {F : Type 0} {g : Mut F (Bor Entry × (Bor Entry × Unit {0})) Ordering} {f : F} (xs : List Entry)
    → ((lt : Entry → Entry → Bool) → IsStrictWeakOrder lt → ComparesAs g lt f → IsSortedBy lt xs)
    → ((a : Bor Entry × (Bor Entry × Unit {0})) (r : Ordering) (f' : F) → Called g f a r f' → (r ≡ entry_cmp a.0.now a.1.0.now) × (f' ≡ f))
    → IsSorted entry_cmp xs
sorted_from_clause {g = g} {f = f} xs up h = up (λ x y. is_lt (entry_cmp x y)) (ranks_by entry_total (λ y. y))
    (always_returns_same g (λ a r. is_lt r ≡ is_lt (entry_cmp a.0.now a.1.0.now)) f (λ a r f' k. (ap is_lt (h a r f' k).0, (h a r f' k).1)))

pub moved_zone : (apex : List Label) (xs ys : List Entry) → IsPermutation xs ys → IsSameZone (zone_in apex xs) (zone_in apex ys)
moved_zone apex xs ys moved =
    let records = IsPermutation-map record_of xs ys moved in
    record {
      apex_same = refl;
      records_same = λ r. (Contains-permutation (map record_of xs) (map record_of ys) r records, Contains-permutation (map record_of ys) (map record_of xs) r (IsPermutation-sym (map record_of xs) (map record_of ys) records));
    }

pub moved_index : (apex : List Label) (xs ys : List Entry) → IsPermutation xs ys → IsZone (zone_in apex xs) → IsSorted entry_cmp ys → AreIndexed apex ys
moved_index apex xs ys moved valid sorted = record {
  valid = same_zone (zone_in apex xs) (zone_in apex ys) (moved_zone apex xs ys moved) valid;
  sorted = sorted;
}

-- ---- what the runs tell

abbrev Finds : Zone → Sought → List Entry → Type 0
Finds zone sought run = (r : ZoneRecord) → Contains (map record_of run) r ↔ (Contains zone.records r × IsSought sought r)

-- whether there is one
first_of : (run : List Entry) → not (length run == 0) ≡ true → (e : Entry) × Contains run e
first_of [] some = absurd ((Decides-not (length {A = Entry} [] == 0) (Decides-eqb (length {A = Entry} []) 0)).0 some refl)
first_of (e ∷ run) some = (e, here e run)

some_by : (run : List Entry) (r : ZoneRecord) → Contains (map record_of run) r → not (length run == 0) ≡ true
some_by [] r has = absurd (nothing_in r has)
some_by (e ∷ run) r has = (Decides-not (length (e ∷ run) == 0) (Decides-eqb (length (e ∷ run)) 0)).1 (λ none. omega (arith, none))

module _ (zone : Zone) (run : List Entry) (empty : Bool) (told : empty ≡ (length run == 0)) where
  found : (P : ZoneRecord → Type 0) → ((r : ZoneRecord) → Contains (map record_of run) r ↔ (Contains zone.records r × P r)) → (not empty ≡ true) ↔ ((r : ZoneRecord) × Contains zone.records r × P r)
  found P finds = (
    λ some. let e = first_of run (subst (λ b. not b ≡ true) told some) in let h = (finds (record_of e.0)).0 (into_map record_of run e.0 e.1) in (record_of e.0, h.0, h.1),
    λ has. subst (λ b. not b ≡ true) (sym told) (some_by run has.0 ((finds has.0).1 (has.1, has.2))),
  )

  pub type_there : (owner : List Label) (rtype : ℕ) → ((r : ZoneRecord) → Contains (map record_of run) r ↔ (Contains zone.records r × ((r.owner ≡ owner) × (r.rtype ≡ rtype)))) → (not empty ≡ true) ↔ HasType zone owner rtype
  type_there owner rtype finds =
      let h = found (λ r. (r.owner ≡ owner) × (r.rtype ≡ rtype)) finds in (
        λ some. let g = h.0 some in (g.0.octets, subst (Contains zone.records) (record_at g.0 owner rtype g.2.0 g.2.1) g.1),
        λ has. h.1 (record { owner = owner; rtype = rtype; octets = has.0 }, has.1, (refl, refl)),
      )

  pub owner_there : (owner : List Label) → ((r : ZoneRecord) → Contains (map record_of run) r ↔ (Contains zone.records r × (r.owner ≡ owner))) → (not empty ≡ true) ↔ IsOwner zone owner
  owner_there owner finds =
      let h = found (λ r. r.owner ≡ owner) finds in (
        λ some. let g = h.0 some in (g.0.rtype, (g.0.octets, subst (Contains zone.records) (record_at g.0 owner g.0.rtype g.2 refl) g.1)),
        λ has. h.1 (record { owner = owner; rtype = has.0; octets = has.1.0 }, has.1.1, refl),
      )

  pub data_there : (owner : List Label) (rtype : ℕ) (octets : List ℕ) → ((r : ZoneRecord) → Contains (map record_of run) r ↔ (Contains zone.records r × ((r.owner ≡ owner) × ((r.rtype ≡ rtype) × (r.octets ≡ octets))))) → (not empty ≡ true) ↔ HasData zone owner rtype octets
  data_there owner rtype octets finds =
      let h = found (λ r. (r.owner ≡ owner) × ((r.rtype ≡ rtype) × (r.octets ≡ octets))) finds in (
        λ some. let g = h.0 some in subst (Contains zone.records) (record_at g.0 owner rtype g.2.0 g.2.1.0 ∙ ap (λ (o : List ℕ). let x : ZoneRecord = record { owner = owner; rtype = rtype; octets = o } in x) g.2.1.1) g.1,
        λ has. h.1 (record { owner = owner; rtype = rtype; octets = octets }, has, (refl, (refl, refl))),
      )

-- ---- one more record

pub pushed_zone : (apex : List Label) (entries items : List Entry) (entry : Entry) (owner : List Label) → IsZone (zone_in apex entries) → items ≡ entries ++ entry ∷ [] → entry.owner ≡ owner → IsUnder owner apex → (IsProofType entry.rtype → ⊥) → IsZone (zone_in apex items)
pushed_zone apex entries items entry owner valid is same under plain =
    let r = record_of entry in
    let records : map record_of items ≡ map record_of entries ++ r ∷ [] = ap (map record_of) is ∙ map-append record_of entries (entry ∷ []) in
    record {
      owners = subst (All (λ (x : ZoneRecord). IsUnder x.owner apex)) (sym records) (All-push (λ (x : ZoneRecord). IsUnder x.owner apex) (map record_of entries) r valid.owners (subst (λ o. IsUnder o apex) (sym same) under));
      types = subst (All (λ (x : ZoneRecord). IsProofType x.rtype → ⊥)) (sym records) (All-push (λ (x : ZoneRecord). IsProofType x.rtype → ⊥) (map record_of entries) r valid.types plain);
    }

pub pushed_records : (entries items : List Entry) (entry : Entry) (owner : List Label) → items ≡ entries ++ entry ∷ [] → entry.owner ≡ owner → map record_of items ≡ map record_of entries ++ zone_record owner entry.rtype entry.octets ∷ []
pushed_records entries items entry owner is same =
    ap (map record_of) is ∙ map-append record_of entries (entry ∷ []) ∙ ap (λ (o : List Label). map record_of entries ++ zone_record o entry.rtype entry.octets ∷ []) same

-- ---- live names

-- what is barred isn't live, and an owner is where nothing bars it
pub live_by : (zone : Zone) (name : List Label) (barred : Bool) → IsOwner zone name → (IsTrue barred ↔ IsBarred zone name) → IsTrue (not barred) ↔ IsLive zone name
live_by zone name false owner told = (
  λ free. record { owner = owner; unbarred = λ bar is below. false≢true (told.1 (bar, is, below)) },
  λ live. refl,
)
live_by zone name true owner told = (
  λ free. absurd (false≢true free),
  λ live. let h = told.0 refl in absurd (live.unbarred h.0 h.1 h.2),
)

-- an ancestor at or below the apex is the name's last labels
pub last_is : (name bar last : List Label) (labels : ℕ) → IsBelow name bar → length bar ≡ labels → last ≡ drop (length name - labels) name → last ≡ bar
last_is name bar last labels below long is =
    is ∙ ap (λ n. drop (length name - n) name) (sym long) ∙ end_rest name bar below.0.0 below.0.1

pub below_is_longer : (name bar : List Label) → IsBelow name bar → length bar < length name
below_is_longer name bar below = by below.0.0 below.0.1
  where
    by : (front : List Label) → name ≡ front ++ bar → length bar < length name
    by [] is = absurd (below.1 is)
    by (label ∷ front) is = omega (arith, ap length is, length-append front bar)

pub shorter_is_below : (name : List Label) (labels : ℕ) → labels < length name → IsBelow name (drop (length name - labels) name)
shorter_is_below name labels short = (under_drop (length name - labels) name, λ same. omega (arith, ap length same, length-drop (length name - labels) name, short))

pub bar_is_within : (zone : Zone) → IsZone zone → (bar : List Label) → IsBar zone bar → length zone.apex ≤ length bar
bar_is_within zone is bar bars = under_is_longer bar zone.apex (owner_under zone is bar (bar_owner zone bar bars))

-- a loop over the names above one: none so far is a bar
pub bar_met : (zone : Zone) (name last : List Label) (labels : ℕ) → ((bar : List Label) → IsBar zone bar → IsBelow name bar → length bar < labels → ⊥) → last ≡ drop (length name - labels) name → (IsBar zone last → ⊥) → (bar : List Label) → IsBar zone bar → IsBelow name bar → length bar < labels + 1 → ⊥
bar_met zone name last labels none is free bar bars below short = ⊎_elim
    (λ (less : length bar < labels). none bar bars below less)
    (λ (le : labels ≤ length bar). free (subst (IsBar zone) (sym (last_is name bar last labels below (omega (arith, le, short)) is)) bars))
    (cases_lt (length bar) labels)

pub not_live_outside : (zone : Zone) → IsZone zone → (name : List Label) → (IsUnder name zone.apex → ⊥) → IsLive zone name → ⊥
not_live_outside zone is name outside live = outside (owner_under zone is name live.owner)
