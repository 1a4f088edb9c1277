-- The names that exist in a zone, made from its live names and put in the order of their hashes.
use Rattle.std.proofs.Common.{◌≡◌, ◌≢◌, ℕ, ◌+◌, ◌-◌, ◌<◌, ◌≤◌, ◌↔◌, zero, suc, List, [], ◌∷◌, ◌++◌, length, take, drop, get_or, refl, sym, ◌∙◌, ap, subst, arith, ◌⊎◌, inl, inr, ⊎_elim, true}
use Rattle.std.specs.List.{Any, Contains}
use Rattle.std.specs.List.Sorted.{IsPermutation}
use Rattle.std.specs.Ordering.{is_lt, is_le}
use Rattle.std.specs.declared.cmp.Ordering.TheVariants.{Equal}
use Rattle.std.specs.Cmp.{IsTotalOrder}
use Rattle.std.specs.Cmp.Lexicographic.{nat_list_cmp_total}
use Rattle.std.specs.FinMap.{IsAntisymmetric, slice_cmp-IsAntisymmetric, nat_cmp-IsAntisymmetric}
use Rattle.std.proofs.lemmas.Bool.{cases_lt}
use Rattle.std.proofs.lemmas.Cmp.{on_total, tied_itself}
use Rattle.std.proofs.lemmas.List.{get_or_default, length-drop}
use Rattle.std.proofs.lemmas.List.Elements.{Contains-push, Contains-push_cases, Contains-append_left, Contains-get_or, All-push}
use Rattle.std.proofs.lemmas.List.Prefix.{end_rest}
use Rattle.std.proofs.lemmas.List.Sorted.{IsPermutation-sym, Contains-permutation, searchable_from_sorted}
use Rattle.facts.proofs.Lists.{nothing_in}
use Rattle.dname.specs.Name.{Label, IsUnder, IsCommon}
use Rattle.dname.proofs.UnderLemmas.{under_itself, under_drop, under_through, under_both, under_is_longer, longer_is_under}
use Rattle.nsec3_hash.specs.IteratedHash.{hash_of}
use Rattle.zone_meaning.specs.Zone.{Zone, IsZone, Exists}
use Rattle.zone_meaning.specs.Hashed.{hash_cmp}
use Rattle.zone_meaning.proofs.UnbarredLemmas.{owner_under}
use Rattle.zone_index.specs.Hashes.{IsNamed, HaveHashes, AreByHash, IsTableOf, HasClash, AreKnown, AreTables}
use Rattle.zone_index.specs.Live.{AreLive}
use Rattle.zone_index.specs.declared.hash_table.HashTable.{HashTable}
use Rattle.zone_index.specs.declared.hash_table.HashedName.{HashedName}
use Rattle.zone_index.proofs.SearchLemmas.{IsBefore, IsUpto, before_parted, upto_parted, in_order, run_has}

pub hash_ties : IsAntisymmetric hash_cmp
hash_ties = slice_cmp-IsAntisymmetric nat_cmp-IsAntisymmetric

pub names_total : IsTotalOrder (λ (x y : HashedName). hash_cmp x.hash y.hash)
names_total = on_total (λ (e : HashedName). e.hash) nat_list_cmp_total

-- ---- one more name

named_push : (names : List HashedName) (e : HashedName) (other : List Label) → IsNamed (names ++ e ∷ []) other ↔ (IsNamed names other ⊎ (e.name ≡ other))
named_push names e other = (
  λ h. ⊎_elim (λ in'. inl (h.0, in', h.2)) (λ same. inr (ap (λ (x : HashedName). x.name) same ∙ h.2)) (Contains-push_cases names e h.0 h.1),
  λ h. ⊎_elim (λ (n : IsNamed names other). (n.0, Contains-append_left names (e ∷ []) n.0 n.1, n.2)) (λ same. (e, Contains-push names e, same)) h,
)

-- the name's ancestors with so many labels or more, and fewer than that, were put behind the names
pub record HasPushed (salt : List ℕ) (iterations : ℕ) (name : List Label) (from labels : ℕ) (old names : List HashedName) : Type 0 where
  pub named : (other : List Label) → IsNamed names other ↔ (IsNamed old other ⊎ (IsUnder name other × (from ≤ length other) × (length other < labels)))
  pub hashed : HaveHashes salt iterations old → HaveHashes salt iterations names

module _ (salt : List ℕ) (iterations : ℕ) (name : List Label) (from : ℕ) (old : List HashedName) where
  pub pushed_none : HasPushed salt iterations name from from old old
  pushed_none = record {
    named = λ other. (λ h. inl h, λ h. ⊎_elim (λ n. n) (λ (in' : IsUnder name other × (from ≤ length other) × (length other < from)). absurd (omega (arith, in'.1, in'.2))) h);
    hashed = λ h. h;
  }

  pub pushed_one : (labels : ℕ) (names more : List HashedName) (e : HashedName) (last : List Label) → HasPushed salt iterations name from labels old names → more ≡ names ++ e ∷ [] → last ≡ drop (length name - labels) name → IsCommon name last e.name → e.hash ≡ hash_of last salt iterations → from ≤ labels → labels ≤ length name → HasPushed salt iterations name from (labels + 1) old more
  pushed_one labels names more e last done is last_is common hash low short = record {
    named = λ other. (λ h. into other (subst (λ ns. IsNamed ns other) is h), λ h. subst (λ ns. IsNamed ns other) (sym is) (back other h));
    hashed = λ h. subst (HaveHashes salt iterations) (sym is) (λ x has. ⊎_elim
        (λ in'. done.hashed h x in')
        (λ (same : e ≡ x). subst (λ (y : HashedName). y.hash ≡ hash_of y.name salt iterations) same (hash ∙ ap (λ (n : List Label). hash_of n salt iterations) (sym same_name)))
        (Contains-push_cases names e x has));
  }
    where
      above : IsUnder name last
      above = subst (IsUnder name) (sym last_is) (under_drop (length name - labels) name)

      long : length last ≡ labels
      long = omega (arith, ap length last_is, length-drop (length name - labels) name, short)

      -- the common ancestor of a name and of one above it is that
      same_name : e.name ≡ last
      same_name = under_both e.name last (common.longest last above (under_itself last)) common.second

      into : (other : List Label) → IsNamed (names ++ e ∷ []) other → IsNamed old other ⊎ (IsUnder name other × (from ≤ length other) × (length other < labels + 1))
      into other h = ⊎_elim
          (λ n. ⊎_elim (λ o. inl o) (λ (in' : IsUnder name other × (from ≤ length other) × (length other < labels)). inr (in'.0, in'.1, omega (arith, in'.2))) ((done.named other).0 n))
          (λ (same : e.name ≡ other). let is' = sym same_name ∙ same in inr (subst (IsUnder name) is' above, omega (arith, low, long, ap length is'), omega (arith, long, ap length is')))
          ((named_push names e other).0 h)

      back : (other : List Label) → IsNamed old other ⊎ (IsUnder name other × (from ≤ length other) × (length other < labels + 1)) → IsNamed (names ++ e ∷ []) other
      back other h = (named_push names e other).1 (⊎_elim
          (λ o. inl ((done.named other).1 (inl o)))
          (λ (in' : IsUnder name other × (from ≤ length other) × (length other < labels + 1)). ⊎_elim
          (λ (less : length other < labels). inl ((done.named other).1 (inr (in'.0, in'.1, less))))
          (λ (le : labels ≤ length other).
          let same : labels ≡ length other = omega (arith, le, in'.2) in
          inr (same_name ∙ last_is ∙ ap (λ n. drop (length name - n) name) same ∙ end_rest name other in'.0.0 in'.0.1))
          (cases_lt (length other) labels))
          h)

  pub pushed_all : (labels : ℕ) (names : List HashedName) → HasPushed salt iterations name from labels old names → length name < labels → (other : List Label) → IsNamed names other ↔ (IsNamed old other ⊎ (IsUnder name other × (from ≤ length other)))
  pushed_all labels names done all other = (
    λ h. ⊎_elim (λ o. inl o) (λ (in' : IsUnder name other × (from ≤ length other) × (length other < labels)). inr (in'.0, in'.1)) ((done.named other).0 h),
    λ h. (done.named other).1 (⊎_elim (λ o. inl o) (λ (in' : IsUnder name other × (from ≤ length other)). inr (in'.0, in'.1, omega (arith, under_is_longer name other in'.0, all))) h),
  )

-- ---- all of them

-- the names are the ancestors of the first live names, at or below the apex
pub record HasHashed (salt : List ℕ) (iterations : ℕ) (live : List (List Label)) (apex at : ℕ) (names : List HashedName) : Type 0 where
  pub named : (name : List Label) → IsNamed names name ↔ ((k : ℕ) × (k < at) × IsUnder (get_or live k []) name × (apex ≤ length name))
  pub hashed : HaveHashes salt iterations names

module _ (salt : List ℕ) (iterations : ℕ) (live : List (List Label)) (apex : ℕ) where
  pub hashed_none : HasHashed salt iterations live apex 0 []
  hashed_none = record {
    named = λ name. (λ h. absurd (nothing_in h.0 h.1), λ h. absurd (omega (arith, h.1)));
    hashed = λ e has. absurd (nothing_in e has);
  }

  pub hashed_more : (at from : ℕ) (name : List Label) (names more : List HashedName) → HasHashed salt iterations live apex at names → name ≡ get_or live at [] → apex ≤ from → AreKnown live at apex from → ((other : List Label) → IsNamed more other ↔ (IsNamed names other ⊎ (IsUnder name other × (from ≤ length other)))) → (HaveHashes salt iterations names → HaveHashes salt iterations more) → HasHashed salt iterations live apex (at + 1) more
  hashed_more at from name names more done is least known named hashed = record {
    named = λ other. (
      λ h. ⊎_elim
          (λ n. let g = (done.named other).0 n in (g.0, omega (arith, g.1), g.2, g.3))
          (λ (in' : IsUnder name other × (from ≤ length other)). (at, omega arith, subst (λ n. IsUnder n other) is in'.0, omega (arith, least, in'.1)))
          ((named other).0 h),
      λ h. back other h.0 h.1 h.2 h.3,
    );
    hashed = hashed done.hashed;
  }
    where
      back : (other : List Label) (k : ℕ) → k < at + 1 → IsUnder (get_or live k []) other → apex ≤ length other → IsNamed more other
      back other k lt under long = (named other).1 (⊎_elim
          (λ (less : k < at). inl ((done.named other).1 (k, less, under, long)))
          (λ (le : at ≤ k).
          let same : k ≡ at = omega (arith, le, lt) in
          let here : IsUnder (get_or live at []) other = subst (λ n. IsUnder (get_or live n []) other) same under in
          ⊎_elim
          (λ (less : length other < from). let g = known other here long less in inl ((done.named other).1 (at - 1, omega (arith, g.0), g.1, long)))
          (λ (more' : from ≤ length other). inr (subst (λ n. IsUnder n other) (sym is) here, more'))
          (cases_lt (length other) from))
          (cases_lt k at))

  pub hashed_all : (zone : Zone) → IsZone zone → apex ≡ length zone.apex → AreLive zone live → (at : ℕ) (names : List HashedName) → HasHashed salt iterations live apex at names → at ≡ length live → (name : List Label) → IsNamed names name ↔ Exists zone name
  hashed_all zone is top lives at names done all name = (
    λ h. let g = (done.named name).0 h in into g.0 g.1 g.2 g.3,
    λ exists. (done.named name).1 (back exists ((lives.each exists.owner).1 exists.live)),
  )
    where
      into : (k : ℕ) → k < at → IsUnder (get_or live k []) name → apex ≤ length name → Exists zone name
      into k lt under long =
          let alive = (lives.each (get_or live k [])).0 (Contains-get_or live k [] (omega (arith, lt, all))) in
          record {
            within = longer_is_under (get_or live k []) name zone.apex under (owner_under zone is (get_or live k []) alive.owner) (omega (arith, long, top));
            owner = get_or live k [];
            live = alive;
            under = under;
          }

      back : (exists : Exists zone name) → Contains live exists.owner → (k : ℕ) × (k < at) × IsUnder (get_or live k []) name × (apex ≤ length name)
      back exists at' = (
        at'.0,
        omega (arith, at'.1, all),
        subst (λ (n : List Label). IsUnder n name) (sym at'.2 ∙ get_or_default live at'.0 exists.owner [] at'.1) exists.under,
        omega (arith, top, under_is_longer name zone.apex exists.within),
      )

-- ---- what the live name before it has too

pub known_first : (live : List (List Label)) (apex : ℕ) → AreKnown live 0 apex apex
known_first live apex name under long short = absurd (omega (arith, long, short))

pub known_by_common : (live : List (List Label)) (at apex from : ℕ) (common : List Label) → (at ≡ 0 → ⊥) → IsCommon (get_or live at []) (get_or live (at - 1) []) common → from ≡ length common + 1 → AreKnown live at apex from
known_by_common live at apex from common some is way name under long short =
    (first at some, under_through (get_or live (at - 1) []) common name is.second (longer_is_under (get_or live at []) common name is.first under (omega (arith, way, short))))
  where
    first : (n : ℕ) → (n ≡ 0 → ⊥) → 0 < n
    first zero none = absurd (none refl)
    first (suc n) none = omega arith

-- ---- the table

pub table_of : (zone : Zone) (salt : List ℕ) (iterations : ℕ) (names : List HashedName) (table : HashTable) → IsPermutation names table.names.items → AreByHash table.names.items → table.salt ≡ salt → table.iterations ≡ iterations → ((name : List Label) → IsNamed names name ↔ Exists zone name) → HaveHashes salt iterations names → IsTableOf zone salt iterations table
table_of zone salt iterations names table moved sorted salt_is iterations_is named hashed = record {
  salt_is = salt_is;
  iterations_is = iterations_is;
  named = λ name. (
    λ h. (named name).0 (h.0, Contains-permutation table.names.items names h.0 (IsPermutation-sym names table.names.items moved) h.1, h.2),
    λ exists. let h = (named name).1 exists in (h.0, Contains-permutation names table.names.items h.0 moved h.1, h.2),
  );
  hashed = λ e has. hashed e (Contains-permutation table.names.items names e (IsPermutation-sym names table.names.items moved) has);
  sorted = sorted;
}

pub by_hash_before : (names : List HashedName) (hash : List ℕ) → AreByHash names → (i j : ℕ) (d : HashedName) → i ≤ j → j < length names → is_lt (hash_cmp (get_or names j d).hash hash) ≡ true → is_lt (hash_cmp (get_or names i d).hash hash) ≡ true
by_hash_before names hash sorted = before_parted (λ (e : HashedName). hash_cmp e.hash hash) names (searchable_from_sorted nat_list_cmp_total (λ (e : HashedName). e.hash) names hash sorted)

pub by_hash_upto : (names : List HashedName) (hash : List ℕ) → AreByHash names → (i j : ℕ) (d : HashedName) → i ≤ j → j < length names → is_le (hash_cmp (get_or names j d).hash hash) ≡ true → is_le (hash_cmp (get_or names i d).hash hash) ≡ true
by_hash_upto names hash sorted = upto_parted (λ (e : HashedName). hash_cmp e.hash hash) names (searchable_from_sorted nat_list_cmp_total (λ (e : HashedName). e.hash) names hash sorted)

pub hash_run_ordered : (names : List HashedName) (hash : List ℕ) (from upto : ℕ) → from ≤ length names → IsBefore (λ (e : HashedName). hash_cmp e.hash hash) names from → IsUpto (λ (e : HashedName). hash_cmp e.hash hash) names upto → from ≤ upto
hash_run_ordered [] hash from upto bound before behind = omega (arith, bound)
hash_run_ordered (e ∷ names) hash from upto bound before behind = in_order (λ (x : HashedName). hash_cmp x.hash hash) (e ∷ names) from upto bound before behind e

pub hash_run : (names run : List HashedName) (hash : List ℕ) (from upto : ℕ) → from ≤ length names → upto ≤ length names → IsBefore (λ (e : HashedName). hash_cmp e.hash hash) names from → IsUpto (λ (e : HashedName). hash_cmp e.hash hash) names upto → run ≡ take (upto - from) (drop from names) → (e : HashedName) → Contains run e ↔ (Contains names e × (e.hash ≡ hash))
hash_run names run hash from upto bound bound' before behind is e =
    let h = run_has (λ (x : HashedName). hash_cmp x.hash hash) names from upto bound' (hash_run_ordered names hash from upto bound before behind) before behind e in (
      λ has. let g = h.0 (subst (λ xs. Contains xs e) is has) in (g.0, hash_ties e.hash hash g.1),
      λ has. subst (λ xs. Contains xs e) (sym is) (h.1 (has.0, subst (λ (o : List ℕ). hash_cmp e.hash o ≡ Equal) has.1 (tied_itself nat_list_cmp_total e.hash))),
    )

-- a run of the name's hash tells of a clash
pub clash_by : (table : HashTable) (name : List Label) (hash : List ℕ) (run : List HashedName) → hash ≡ hash_of name table.salt table.iterations → ((e : HashedName) → Contains run e ↔ (Contains table.names.items e × (e.hash ≡ hash))) → Any (λ e. e.name ≢ name) run ↔ HasClash table name
clash_by table name hash run is finds = (
  λ any. let g = (finds any.1).0 (any.0, any.2, any.3) in (any.1, g.0, g.1 ∙ is, any.4),
  λ has. let at = (finds has.0).1 (has.1, has.2 ∙ sym is) in (at.0, has.0, at.1, at.2, has.3),
)

-- ---- tables

pub own_table : (zone : Zone) (salt : List ℕ) (iterations : ℕ) (table : HashTable) → IsTableOf zone salt iterations table → IsTableOf zone table.salt table.iterations table
own_table zone salt iterations table is =
    subst (λ (n : ℕ). IsTableOf zone table.salt n table) (sym is.iterations_is) (subst (λ (s : List ℕ). IsTableOf zone s iterations table) (sym is.salt_is) is)

pub more_tables : (zone : Zone) (salt : List ℕ) (iterations : ℕ) (tables more : List HashTable) (table : HashTable) → AreTables zone tables → IsTableOf zone salt iterations table → more ≡ tables ++ table ∷ [] → AreTables zone more
more_tables zone salt iterations tables more table all is pushed =
    subst (AreTables zone) (sym pushed) (All-push (λ (t : HashTable). IsTableOf zone t.salt t.iterations t) tables table all (own_table zone salt iterations table is))
