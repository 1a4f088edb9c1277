-- The live names among the owners of a zone's entries.
use Rattle.std.proofs.Common.{◌≡◌, ℕ, ◌+◌, ◌-◌, ◌<◌, ◌≤◌, ◌↔◌, zero, suc, List, [], ◌∷◌, ◌++◌, length, get_or, refl, sym, ◌∙◌, ap, subst, arith, ⊎_elim, false}
use Rattle.std.specs.List.{Contains}
use Rattle.std.proofs.lemmas.Bool.{cases_lt, false≢true}
use Rattle.std.proofs.lemmas.List.{get_or_default, get_or_append_left, get_or_push, length-append}
use Rattle.std.proofs.lemmas.List.Elements.{Contains-push, Contains-push_cases, Contains-append_left}
use Rattle.std.specs.List.Sorted.{IsSorted, IsPermutation}
use Rattle.std.specs.Ordering.{is_lt, is_le}
use Rattle.std.proofs.lemmas.Cmp.{tied_itself}
use Rattle.std.proofs.lemmas.List.Sorted.{ranks_by, sorted_far, IsPermutation-sym, Contains-permutation}
use Rattle.facts.proofs.Maps.{from_map}
use Rattle.dname.specs.Name.{Label, canonical_cmp}
use Rattle.dname.specs.Order.{canonical_total, canonical_equal}
use Rattle.zone_meaning.specs.Zone.{Zone, ZoneRecord, IsLive, IsOwner}
use Rattle.zone_index.specs.Entries.{record_of, zone_in, AreOwners, AreRuns, IsRepeated}
use Rattle.zone_index.specs.Live.{AreLive, ArePlaces, IsNextOf}
use Rattle.zone_index.specs.declared.entry.Entry.{Entry}
use Rattle.zone_index.proofs.SearchLemmas.{IsUpto, tied_from}
use Rattle.zone_index.proofs.RingLemmas.{next_at, one_next}
use Rattle.dname.specs.Arc.{IsInside}
use Rattle.dname.proofs.SameLemmas.{same_or_not}
use denote.Ref.{Bor}

-- of the owners of the first entries, the live ones were met, and no other
pub record HasMet (zone : Zone) (entries : List Entry) (at : ℕ) (names : List (List Label)) : Type 0 where
  pub sound : (name : List Label) → Contains names name → IsLive zone name
  pub whole : (k : ℕ) (d : Entry) → k < at → IsLive zone (get_or entries k d).owner → Contains names (get_or entries k d).owner

pub met_none : (zone : Zone) (entries : List Entry) → HasMet zone entries 0 []
met_none zone entries = record {
  sound = λ name has. absurd (omega (arith, has.1));
  whole = λ k d lt live. absurd (omega (arith, lt));
}

pub met_push : (zone : Zone) (entries : List Entry) (at : ℕ) (names more : List (List Label)) (e : Entry) (name : List Label) → HasMet zone entries at names → at < length entries → more ≡ names ++ name ∷ [] → e ≡ get_or entries at e → name ≡ e.owner → ((d : Entry) → IsLive zone (get_or entries at d).owner) → HasMet zone entries (at + 1) more
met_push zone entries at names more e name met here is is_e is_name lives = record {
  sound = λ other has. ⊎_elim (λ in'. met.sound other in') (λ same'. subst (IsLive zone) same' (subst (IsLive zone) (same e) (lives e))) (Contains-push_cases names name other (subst (λ ns. Contains ns other) is has));
  whole = λ k d lt live. subst (λ ns. Contains ns (get_or entries k d).owner) (sym is) (⊎_elim
      (λ (less : k < at). Contains-append_left names (name ∷ []) (get_or entries k d).owner (met.whole k d less live))
      (λ (le : at ≤ k). subst (Contains (names ++ name ∷ [])) (sym (same d) ∙ ap (λ n. (get_or entries n d).owner) {x = at} {y = k} (omega (arith, le, lt))) (Contains-push names name))
      (cases_lt k at));
}
  where
    same : (d : Entry) → (get_or entries at d).owner ≡ name
    same d = ap (λ (x : Entry). x.owner) (get_or_default entries at d e here ∙ sym is_e) ∙ sym is_name

-- one that isn't live, or has the owner of the one before
pub met_skip : (zone : Zone) (entries : List Entry) (at : ℕ) (names : List (List Label)) → HasMet zone entries at names → ((d : Entry) → IsLive zone (get_or entries at d).owner → Contains names (get_or entries at d).owner) → HasMet zone entries (at + 1) names
met_skip zone entries at names met skips = record {
  sound = met.sound;
  whole = λ k d lt lives. ⊎_elim
      (λ (less : k < at). met.whole k d less lives)
      (λ (le : at ≤ k). let e : at ≡ k = omega (arith, le, lt) in
      subst (λ n. Contains names (get_or entries n d).owner) e (skips d (subst (λ n. IsLive zone (get_or entries n d).owner) (sym e) lives)))
      (cases_lt k at);
}

pub met_again : (zone : Zone) (entries : List Entry) (at : ℕ) (names : List (List Label)) → HasMet zone entries at names → ((d : Entry) → IsLive zone (get_or entries at d).owner → IsRepeated entries at d) → HasMet zone entries (at + 1) names
met_again zone entries at names met again = met_skip zone entries at names met
    (λ d live. let same = again d live in subst (Contains names) same.1 (met.whole (at - 1) d (omega (arith, same.0)) (subst (IsLive zone) (sym same.1) live)))

pub met_all : (zone : Zone) (apex : List Label) (entries : List Entry) (at : ℕ) (names : List (List Label)) → zone ≡ zone_in apex entries → HasMet zone entries at names → length entries ≤ at → (name : List Label) → Contains names name ↔ IsLive zone name
met_all zone apex entries at names is met long name = (met.sound name, λ live. by live.owner live)
  where
    by : IsOwner zone name → IsLive zone name → Contains names name
    by owner live =
        let e = from_map record_of entries (record { owner = name; rtype = owner.0; octets = owner.1.0 }) (subst (λ (z : Zone). Contains z.records (record { owner = name; rtype = owner.0; octets = owner.1.0 })) is owner.1.1) in
        let same : (get_or entries e.1.0 e.0).owner ≡ name = ap (λ (x : Entry). x.owner) e.1.2 ∙ ap (λ (r : ZoneRecord). r.owner) e.2 in
        subst (Contains names) same (met.whole e.1.0 e.0 (omega (arith, e.1.1, long)) (subst (IsLive zone) (sym same) live))

-- ---- whether a name is among them

module _ (names : List (List Label)) (sorted : IsSorted canonical_cmp names) (name : List Label) (upto : ℕ) (point : IsUpto (λ n. canonical_cmp n name) names upto) where
  -- it stands among those that aren't behind it
  in_front : (k : ℕ) → k < length names → get_or names k name ≡ name → k < upto
  in_front k lt is = ⊎_elim
      (λ (less : k < upto). less)
      (λ (le : upto ≤ k). absurd (false≢true (sym (point.1 k name le lt) ∙ ap is_le (ap (λ n. canonical_cmp n name) is ∙ tied_itself canonical_total name))))
      (cases_lt k upto)

  pub has_none : (0 < upto → ⊥) → Contains names name → ⊥
  has_none none has = none (omega (arith, in_front has.0 has.1 has.2))

  pub has_last : upto ≤ length names → 0 < upto → (last : List Label) → last ≡ get_or names (upto - 1) last → Contains names name ↔ (last ≡ name)
  has_last bound some last is = (
    λ has.
        let less = in_front has.0 has.1 has.2 in
        let later = sorted_far (λ x y. is_lt (canonical_cmp x y)) (ranks_by canonical_total (λ n. n)) names sorted has.0 (upto - 1) name (omega (arith, less)) (omega (arith, some, bound)) in
        let low = subst (λ (n : List Label). is_lt (canonical_cmp (get_or names (upto - 1) name) n) ≡ false) has.2 later in
        at_name ∙ canonical_equal (get_or names (upto - 1) name) name (tied_from (canonical_cmp (get_or names (upto - 1) name) name) low (point.0 (upto - 1) name (omega arith) (omega (arith, some)))),
    λ same. (upto - 1, omega (arith, some, bound), sym at_name ∙ same),
  )
    where
      at_name : last ≡ get_or names (upto - 1) name
      at_name = is ∙ get_or_default names (upto - 1) last name (omega (arith, some, bound))

pub live_sorted : (zone : Zone) (names sorted : List (List Label)) → ((name : List Label) → Contains names name ↔ IsLive zone name) → IsPermutation names sorted → IsSorted canonical_cmp sorted → AreLive zone sorted
live_sorted zone names sorted each moved order = record {
  each = λ name. (
    λ has. (each name).0 (Contains-permutation sorted names name (IsPermutation-sym names sorted moved) has),
    λ live. Contains-permutation names sorted name moved ((each name).1 live),
  );
  sorted = order;
}

pub positive : (n : ℕ) → (n ≡ 0 → ⊥) → 0 < n
positive zero none = absurd (none refl)
positive (suc n) none = omega arith

-- ---- the places of a name and of the next

pub places_are : (names : List (List Label)) → IsSorted canonical_cmp names → (name : List Label) (upto after : ℕ) → IsUpto (λ n. canonical_cmp n name) names upto → upto ≤ length names → 0 < upto → (last : List Label) → last ≡ get_or names (upto - 1) last → last ≡ name → (upto < length names → after ≡ upto) → (length names ≤ upto → after ≡ 0) → ArePlaces names name (upto - 1) after
places_are names sorted name upto after point bound some last is same within past = record {
  within = omega (arith, bound, some);
  here = λ d. sym (is ∙ get_or_default names (upto - 1) last d (omega (arith, bound, some))) ∙ same;
  after_within = ⊎_elim (λ (less : upto < length names). omega (arith, within less, less)) (λ (long : length names ≤ upto). omega (arith, past long, bound, some)) (cases_lt upto (length names));
  next = λ d.
      let next = next_at canonical_cmp canonical_total canonical_equal (λ (n : List Label). n) names sorted name upto point d after (omega (arith, bound, some)) within past in
      record { there = subst (Contains names) next.there.2 next.there.1; none = next.none };
}

-- the name there is the one that ends an arc with none inside
pub ends_by : (names : List (List Label)) (name next end : List Label) (at after : ℕ) → ArePlaces names name at after → ((d : List Label) → next ≡ get_or names after d) → (next ≡ end) ↔ (Contains names end × ((between : List Label) → Contains names between → IsInside canonical_cmp name end between → ⊥))
ends_by names name next end at after places here = (
  λ same. (subst (Contains names) same is.there, λ between has inside. is.none between has (subst (λ n. IsInside canonical_cmp name n between) (sym same) inside)),
  λ ends. sym (one_next canonical_cmp canonical_total canonical_equal name next end (λ x. same_or_not x next) (is.none end ends.0) (ends.1 next is.there)),
)
  where
    is : IsNextOf names name next
    is = subst (IsNextOf names name) (sym (here [])) (places.next [])

pub place_there : (names : List (List Label)) (name : List Label) (at after : ℕ) → ArePlaces names name at after → Contains names name
place_there names name at after places = (at, places.within, places.here name)

-- ---- the entries of each

-- of the first names, each has its entries
pub record HasRuns (zone : Zone) (names : List (List Label)) (at : ℕ) (runs : List (Bor (List Entry))) : Type 0 where
  pub long : length runs ≡ at
  pub each : (k : ℕ) (d : List Label) (e : Bor (List Entry)) → k < at → AreOwners zone (get_or names k d) (get_or runs k e).now

pub runs_none : (zone : Zone) (names : List (List Label)) → HasRuns zone names 0 []
runs_none zone names = record { long = refl; each = λ k d e lt. absurd (omega (arith, lt)) }

pub runs_more : (zone : Zone) (names : List (List Label)) (at : ℕ) (runs more : List (Bor (List Entry))) (run : Bor (List Entry)) (name : List Label) → HasRuns zone names at runs → ((d : List Label) → name ≡ get_or names at d) → AreOwners zone name run.now → more ≡ runs ++ run ∷ [] → HasRuns zone names (at + 1) more
runs_more zone names at runs more run name done is owners pushed = record {
  long = omega (arith, ap length pushed, length-append runs (run ∷ []), done.long);
  each = λ k d e lt. subst (λ (rs : List (Bor (List Entry))). AreOwners zone (get_or names k d) (get_or rs k e).now) (sym pushed) (⊎_elim
      (λ (less : k < at). subst (λ (r : Bor (List Entry)). AreOwners zone (get_or names k d) r.now) (sym (get_or_append_left runs (run ∷ []) e k (omega (arith, less, done.long)))) (done.each k d e less))
      (λ (le : at ≤ k).
      let same : at ≡ k = omega (arith, le, lt) in
      subst (λ n. AreOwners zone (get_or names n d) (get_or (runs ++ run ∷ []) n e).now) same
      (subst (λ (r : Bor (List Entry)). AreOwners zone (get_or names at d) r.now) (sym (last_of e)) (subst (λ (n : List Label). AreOwners zone n run.now) (is d) owners)))
      (cases_lt k at));
}
  where
    last_of : (e : Bor (List Entry)) → get_or (runs ++ run ∷ []) at e ≡ run
    last_of e = get_or_push runs run e at done.long

pub runs_all : (zone : Zone) (names : List (List Label)) (at : ℕ) (runs : List (Bor (List Entry))) → HasRuns zone names at runs → at ≤ length names → length names ≤ at → AreRuns zone names runs
runs_all zone names at runs done end over = record {
  long = omega (arith, done.long, end, over);
  each = λ k d e lt. done.each k d e (omega (arith, done.long, lt));
}

module _ (zone : Zone) (names : List (List Label)) (runs : List (Bor (List Entry))) (name : List Label) (at after : ℕ) (are : AreRuns zone names runs) (places : ArePlaces names name at after) where
  pub run_there : at < length runs
  run_there = omega (arith, places.within, are.long)

  pub run_of : (e : Bor (List Entry)) → AreOwners zone name (get_or runs at e).now
  run_of e = subst (λ (n : List Label). AreOwners zone n (get_or runs at e).now) (places.here []) (are.each at [] e run_there)
