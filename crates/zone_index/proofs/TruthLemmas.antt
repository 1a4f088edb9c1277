-- When kept records are true of a zone, and when no name clashes.
use Rattle.std.proofs.Common.{◌≡◌, ◌≢◌, ℕ, ◌+◌, ◌-◌, ◌<◌, ◌≤◌, ◌↔◌, List, [], ◌∷◌, length, drop, map, get_or, ◌++◌, append_assoc, refl, sym, ◌∙◌, ap, subst, arith, inl, inr, ⊎_elim, Bool, true, false}
use Rattle.std.specs.Prelude.{nat_eq}
use Rattle.std.specs.Bool.{Decides}
use Rattle.std.specs.Cmp.Lexicographic.{pointwise, bytes_decides}
use Rattle.std.specs.List.{All, Any, Contains}
use Rattle.std.proofs.lemmas.Bool.{cases_lt}
use Rattle.std.specs.List.Sorted.{IsPermutation}
use Rattle.std.proofs.lemmas.List.{length-drop, append-nil, map-append, get_or_default}
use Rattle.std.proofs.lemmas.List.Sorted.{IsPermutation-sym, Contains-permutation}
use denote.Ref.{Bor}
use Rattle.std.proofs.lemmas.List.Elements.{All-contains, Contains-push_cases, Contains-append_right}
use Rattle.std.proofs.lemmas.List.Prefix.{end_rest}
use Rattle.facts.proofs.Lists.{all_by_member, here}
use Rattle.facts.proofs.Maps.{into_map, from_map}
use Rattle.dname.specs.Arc.{IsInside}
use Rattle.dname.specs.Name.{Label, IsUnder, asterisk}
use Rattle.dname.proofs.SameLemmas.{same_or_not}
use Rattle.dname.proofs.UnderLemmas.{under_through, under_is_longer, longer_is_under}
use Rattle.nsec3_hash.specs.IteratedHash.{hash_of}
use Rattle.denial_records.specs.declared.nsec3_rec.Nsec3Rec.{Nsec3Rec}
use Rattle.zone_meaning.specs.Zone.{Zone, ZoneRecord, Exists, HasData}
use Rattle.zone_meaning.specs.Hashed.{hash_cmp, IsConsistentNsec3, IsClashFree}
use Rattle.zone_meaning.specs.Consistent.{TypesAgree}
use Rattle.zone_meaning.proofs.ZoneTests.{record_at}
use Rattle.soundness.specs.True.{nsec3_part}
use Rattle.zone_index.specs.Hashes.{IsTableOf, HasClash, HasTypes, HasNamed, Clashes}
use Rattle.zone_index.specs.Entries.{record_of}
use Rattle.zone_index.specs.Truth.{HasJust, HasEach, IsAmong}
use Rattle.zone_index.specs.declared.entry.Entry.{Entry}
use Rattle.zone_index.specs.declared.hash_table.HashTable.{HashTable}
use Rattle.zone_index.specs.declared.hash_table.HashedName.{HashedName}

module _ (zone : Zone) (nsec3 : Nsec3Rec) (table : HashTable) (is : IsTableOf zone nsec3.salt nsec3.iterations table) where
  NoneInside : Type 0
  NoneInside = (e : HashedName) → Contains table.names.items e → IsInside hash_cmp nsec3.hash nsec3.next e.hash → ⊥

  pub nsec3_true : zone.apex ≡ nsec3.zone → HasNamed zone table nsec3.hash nsec3.types → (nsec3.opt_out ≡ false → (e : HashedName) → Contains table.names.items e → IsInside hash_cmp nsec3.hash nsec3.next e.hash → ⊥) → IsConsistentNsec3 zone (nsec3_part nsec3)
  nsec3_true top named none = record {
    apex = top;
    named = named.0.name;
    there = (is.named named.0.name).0 (named.0, named.1, refl);
    hashed = sym (is.hashed named.0 named.1) ∙ named.2;
    types_agree = named.3.agree;
    none_between = λ clear name exists inside.
        let e = (is.named name).1 exists in
        none clear e.0 e.1 (subst (IsInside hash_cmp nsec3.hash nsec3.next) (sym (is.hashed e.0 e.1 ∙ ap (λ (n : List Label). hash_of n nsec3.salt nsec3.iterations) e.2)) inside);
  }

  pub nsec3_named : IsConsistentNsec3 zone (nsec3_part nsec3) → HasNamed zone table nsec3.hash nsec3.types
  nsec3_named holds =
      let e = (is.named holds.named).1 holds.there in
      (e.0, e.1, is.hashed e.0 e.1 ∙ ap (λ (n : List Label). hash_of n nsec3.salt nsec3.iterations) e.2 ∙ holds.hashed, record { agree = subst (λ (n : List Label). TypesAgree zone n nsec3.types) (sym e.2) holds.types_agree })

  pub nsec3_none : IsConsistentNsec3 zone (nsec3_part nsec3) → nsec3.opt_out ≡ false → (e : HashedName) → Contains table.names.items e → IsInside hash_cmp nsec3.hash nsec3.next e.hash → ⊥
  nsec3_none holds clear e has inside =
      holds.none_between clear e.name ((is.named e.name).0 (e, has, refl)) (subst (IsInside hash_cmp nsec3.hash nsec3.next) (is.hashed e has) inside)

-- a run of the hash tells whether a name has it and the types
pub named_by : (zone : Zone) (table : HashTable) (run : List HashedName) (hash found : List ℕ) (types listed : List ℕ) → found ≡ hash → listed ≡ types → ((e : HashedName) → Contains run e ↔ (Contains table.names.items e × (e.hash ≡ found))) → Any (λ e. HasTypes zone e.name listed) run ↔ HasNamed zone table hash types
named_by zone table run hash found types listed is is' finds = (
  λ any. let g = (finds any.1).0 (any.0, any.2, any.3) in (any.1, g.0, g.1 ∙ is, subst (HasTypes zone any.1.name) is' any.4),
  λ named. let at = (finds named.0).1 (named.1, named.2 ∙ sym is) in (at.0, named.0, at.1, at.2, subst (HasTypes zone named.0.name) (sym is') named.3),
)

-- ---- clashes

module _ (zone : Zone) (salt : List ℕ) (iterations : ℕ) (table : HashTable) (is : IsTableOf zone salt iterations table) where
  hash : List Label → List ℕ
  hash name = hash_of name salt iterations

  by_table : (name : List Label) → hash_of name table.salt table.iterations ≡ hash_of name salt iterations
  by_table name = ap (λ (s : List ℕ). hash_of name s table.iterations) is.salt_is ∙ ap (λ (n : ℕ). hash_of name salt n) is.iterations_is

  -- no name of the zone is taken for this one
  alone : (name : List Label) → (HasClash table name → ⊥) → (other : List Label) → Exists zone other → hash_of other salt iterations ≡ hash_of name salt iterations → other ≡ name
  alone name none other exists same = ⊎_elim
      (λ (e : other ≡ name). e)
      (λ (apart : other ≢ name).
      let e = (is.named other).1 exists in
      absurd (none (e.0, e.1, is.hashed e.0 e.1 ∙ ap (λ (n : List Label). hash_of n salt iterations) e.2 ∙ same ∙ sym (by_table name), λ x. apart (sym e.2 ∙ x))))
      (same_or_not other name)

  clash_is : (name : List Label) → HasClash table name → ((other : List Label) → Exists zone other → hash_of other salt iterations ≡ hash_of name salt iterations → other ≡ name) → ⊥
  clash_is name clash all = clash.3 (all clash.0.name ((is.named clash.0.name).0 (clash.0, clash.1, refl)) (sym (is.hashed clash.0 clash.1) ∙ clash.2 ∙ by_table name))

  pub free_by : (name : List Label) → ((above : List Label) → IsUnder name above → length zone.apex ≤ length above → length above < length name + 1 → Clashes table name above → ⊥) → IsClashFree zone (λ n. hash_of n salt iterations) name
  free_by name none = record {
    of_names = λ above other under within exists same.
        alone above (λ clash. none above under (under_is_longer above zone.apex within) (omega (arith, under_is_longer name above under)) (inl clash)) other exists same;
    of_sources = λ above other below within exists same.
        alone (asterisk ∷ above) (λ clash. none above below.0 (under_is_longer above zone.apex within) (omega (arith, under_is_longer name above below.0)) (inr (below.1, clash))) other exists same;
  }

  pub not_free : (name above : List Label) → IsUnder name zone.apex → IsUnder name above → length zone.apex ≤ length above → Clashes table name above → IsClashFree zone (λ n. hash_of n salt iterations) name → ⊥
  not_free name above under up long clashes free =
      let within = longer_is_under name above zone.apex up under long in
      ⊎_elim
      (λ clash. clash_is above clash (λ other exists same. free.of_names above other up within exists same))
      (λ (h : (name ≢ above) × HasClash table (asterisk ∷ above)). clash_is (asterisk ∷ above) h.1 (λ other exists same. free.of_sources above other (up, h.0) within exists same))
      clashes

  pub free_outside : (name : List Label) → (IsUnder name zone.apex → ⊥) → IsClashFree zone (λ n. hash_of n salt iterations) name
  free_outside name outside = record {
    of_names = λ above other under within exists same. absurd (outside (under_through name above zone.apex under within));
    of_sources = λ above other below within exists same. absurd (outside (under_through name above zone.apex below.0 within));
  }

-- a loop over the names at or above one: none so far clashes
pub none_clashes : (table : HashTable) (name last : List Label) (apex labels : ℕ) → ((above : List Label) → IsUnder name above → apex ≤ length above → length above < labels → Clashes table name above → ⊥) → last ≡ drop (length name - labels) name → (Clashes table name last → ⊥) → (above : List Label) → IsUnder name above → apex ≤ length above → length above < labels + 1 → Clashes table name above → ⊥
none_clashes table name last apex labels none is free above under long short clashes = ⊎_elim
    (λ (less : length above < labels). none above under long less clashes)
    (λ (le : labels ≤ length above).
    let same : labels ≡ length above = omega (arith, le, short) in
    free (subst (Clashes table name) (sym (is ∙ ap (λ n. drop (length name - n) name) same ∙ end_rest name above under.0 under.1)) clashes))
    (cases_lt (length above) labels)

-- ---- a set's data

pub just_by : (zone : Zone) (owner : List Label) (rtype : ℕ) (items : List (List ℕ)) (sorted : List (Bor (List ℕ))) (run : List Entry) → items ≢ [] → HasEach zone owner rtype items → ((octets : List ℕ) → IsAmong sorted octets ↔ Contains items octets) → ((r : ZoneRecord) → Contains (map record_of run) r ↔ (Contains zone.records r × ((r.owner ≡ owner) × (r.rtype ≡ rtype)))) → All (λ e. IsAmong sorted e.octets) run ↔ HasJust zone owner rtype items
just_by zone owner rtype items sorted run some each same finds = (
  λ all. (
    some,
    λ octets. (
      each octets,
      λ has.
          let r : ZoneRecord = record { owner = owner; rtype = rtype; octets = octets } in
          let e = from_map record_of run r ((finds r).1 (has, (refl, refl))) in
          (same octets).0 (subst (IsAmong sorted) (ap (λ (x : ZoneRecord). x.octets) e.2) (All-contains (λ (x : Entry). IsAmong sorted x.octets) run e.0 all e.1)),
    ),
  ),
  λ just. all_by_member (λ (x : Entry). IsAmong sorted x.octets) run (λ x in'.
      let h = (finds (record_of x)).0 (into_map record_of run x in') in
      (same x.octets).1 ((just.1 x.octets).1 (subst (Contains zone.records) (record_at (record_of x) owner rtype h.1.0 h.1.1) h.0))),
)

-- one item more is there
pub each_more : (zone : Zone) (owner : List Label) (rtype : ℕ) (initial items rest : List (List ℕ)) (item : List ℕ) → ((done : List (List ℕ)) × (done ++ items ≡ initial) × ((octets : List ℕ) → Contains done octets → HasData zone owner rtype octets)) → items ≡ item ∷ rest → HasData zone owner rtype item → (done : List (List ℕ)) × (done ++ rest ≡ initial) × ((octets : List ℕ) → Contains done octets → HasData zone owner rtype octets)
each_more zone owner rtype initial items rest item (done, is, each) next has = (
  done ++ item ∷ [],
  append_assoc done (item ∷ []) rest ∙ ap (λ (l : List (List ℕ)). done ++ l) (sym next) ∙ is,
  λ octets in'. ⊎_elim (each octets) (λ same. subst (HasData zone owner rtype) same has) (Contains-push_cases done item octets in'),
)

pub each_lacks : (zone : Zone) (owner : List Label) (rtype : ℕ) (initial items rest : List (List ℕ)) (item : List ℕ) → ((done : List (List ℕ)) × (done ++ items ≡ initial) × ((octets : List ℕ) → Contains done octets → HasData zone owner rtype octets)) → items ≡ item ∷ rest → (HasData zone owner rtype item → ⊥) → HasEach zone owner rtype initial → ⊥
each_lacks zone owner rtype initial items rest item (done, is, each) next lacks all =
    lacks (all item (subst (λ l. Contains l item) (ap (λ (l : List (List ℕ)). done ++ l) (sym next) ∙ is) (Contains-append_right done (item ∷ rest) item (here item rest))))

pub each_all : (zone : Zone) (owner : List Label) (rtype : ℕ) (initial items : List (List ℕ)) → ((done : List (List ℕ)) × (done ++ items ≡ initial) × ((octets : List ℕ) → Contains done octets → HasData zone owner rtype octets)) → items ≡ [] → HasEach zone owner rtype initial
each_all zone owner rtype initial items (done, is, each) none octets in' =
    each octets (subst (λ l. Contains l octets) (sym is ∙ ap (λ (l : List (List ℕ)). done ++ l) none ∙ append-nil done) in')

-- the items one by one
pub listed_one : (initial items rest : List (List ℕ)) (list more : List (Bor (List ℕ))) (item : Bor (List ℕ)) → map (λ (b : Bor (List ℕ)). b.now) list ++ items ≡ initial → items ≡ item.now ∷ rest → more ≡ list ++ item ∷ [] → map (λ (b : Bor (List ℕ)). b.now) more ++ rest ≡ initial
listed_one initial items rest list more item is next pushed =
    ap (λ (l : List (Bor (List ℕ))). map (λ (b : Bor (List ℕ)). b.now) l ++ rest) pushed
    ∙ ap (λ (l : List (List ℕ)). l ++ rest) (map-append (λ (b : Bor (List ℕ)). b.now) list (item ∷ []))
    ∙ append_assoc (map (λ (b : Bor (List ℕ)). b.now) list) (item.now ∷ []) rest
    ∙ ap (λ (l : List (List ℕ)). map (λ (b : Bor (List ℕ)). b.now) list ++ l) (sym next) ∙ is

pub listed_all : (initial items : List (List ℕ)) (list : List (Bor (List ℕ))) → map (λ (b : Bor (List ℕ)). b.now) list ++ items ≡ initial → items ≡ [] → map (λ (b : Bor (List ℕ)). b.now) list ≡ initial
listed_all initial items list is none = sym (append-nil (map (λ (b : Bor (List ℕ)). b.now) list)) ∙ ap (λ (l : List (List ℕ)). map (λ (b : Bor (List ℕ)). b.now) list ++ l) (sym none) ∙ is

pub among_sorted : (items : List (List ℕ)) (list sorted : List (Bor (List ℕ))) → map (λ (b : Bor (List ℕ)). b.now) list ≡ items → IsPermutation list sorted → (octets : List ℕ) → IsAmong sorted octets ↔ Contains items octets
among_sorted items list sorted is moved octets = (
  λ in'. subst (λ l. Contains l octets) is (subst (Contains (map (λ (b : Bor (List ℕ)). b.now) list)) in'.2 (into_map (λ (b : Bor (List ℕ)). b.now) list in'.0 (Contains-permutation sorted list in'.0 (IsPermutation-sym list sorted moved) in'.1))),
  λ has. let b = from_map (λ (x : Bor (List ℕ)). x.now) list octets (subst (λ l. Contains l octets) (sym is) has) in (b.0, Contains-permutation list sorted b.0 moved b.1, b.2),
)

pub among_more : (items : List (Bor (List ℕ))) (entries : List Entry) (at : ℕ) (e : Entry) → ((k : ℕ) (d : Entry) → k < at → IsAmong items (get_or entries k d).octets) → at < length entries → IsAmong items (get_or entries at e).octets → (k : ℕ) (d : Entry) → k < at + 1 → IsAmong items (get_or entries k d).octets
among_more items entries at e so_far here has k d lt = ⊎_elim
    (λ (less : k < at). so_far k d less)
    (λ (le : at ≤ k). subst (λ n. IsAmong items (get_or entries n d).octets) {x = at} {y = k} (omega (arith, le, lt)) (subst (λ (x : Entry). IsAmong items x.octets) (get_or_default entries at e d here) has))
    (cases_lt k at)

pub last_long : (name last : List Label) (labels : ℕ) → labels ≤ length name → last ≡ drop (length name - labels) name → length last ≡ labels
last_long name last labels short is = omega (arith, ap length is, length-drop (length name - labels) name, short)

pub item_by : (xs : List (Bor (List ℕ))) (at : ℕ) (octets : List ℕ) (d e : Bor (List ℕ)) (r : Bool) → at < length xs → r ≡ pointwise nat_eq (get_or xs at e).now octets → (r ≡ true) ↔ ((get_or xs at d).now ≡ octets)
item_by xs at octets d e r here is =
    let told = subst (λ b. Decides b ((get_or xs at e).now ≡ octets)) (sym is) (bytes_decides (get_or xs at e).now octets) in
    let same = ap (λ (b : Bor (List ℕ)). b.now) (get_or_default xs at e d here) in
    (λ t. sym same ∙ told.0 t, λ eq. told.1 (same ∙ eq))

-- by the table of a record's chain, that no name clashes by the record
pub free_for : (zone : Zone) (name : List Label) (nsec3 : Nsec3Rec) (table : HashTable) (r : Bool) → IsTableOf zone nsec3.salt nsec3.iterations table → (r ≡ true) ↔ IsClashFree zone (λ n. hash_of n table.salt table.iterations) name → (r ≡ true) ↔ IsClashFree zone (λ n. hash_of n nsec3.salt nsec3.iterations) name
free_for zone name nsec3 table r is told =
    subst (λ (k : ℕ). (r ≡ true) ↔ IsClashFree zone (λ n. hash_of n nsec3.salt k) name) is.iterations_is
    (subst (λ (s : List ℕ). (r ≡ true) ↔ IsClashFree zone (λ n. hash_of n s table.iterations) name) is.salt_is told)
