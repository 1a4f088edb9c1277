-- The steps of the loops over groups and items.
use Rattle.std.proofs.Common.{◌≡◌, ◌≢◌, ℕ, ◌+◌, ◌<◌, ◌≤◌, true, false, List, length, get_or, refl, sym, ap, subst, arith, ⊎_elim}
use Rattle.std.specs.List.{AllWithin, Any, Contains}
use Rattle.std.specs.Ordering.{nat_cmp, is_gt}
use Rattle.std.specs.Cmp.Lexicographic.{slice_cmp, nat_list_cmp_total}
use Rattle.std.proofs.lemmas.Cmp.{tied_itself, upto}
use Rattle.std.proofs.lemmas.Bool.{cases_lt, cases_Bool}
use Rattle.std.proofs.lemmas.List.Elements.{AllWithin-none, AllWithin-more, at_read}
use Rattle.dname.specs.Name.{Label, IsUnder, IsCommon}
use Rattle.dname.proofs.UnderLemmas.{under_through, longer_is_under}
use Rattle.zone_meaning.specs.declared.group.Group.{Group}
use Rattle.zone_meaning.proofs.SomeAnswer.{turned_back}

-- ---- the nearest name

abbrev pub IsAboveShared : List Label → List Label → Group → Type 0
IsAboveShared name found group = (other : List Label) → IsUnder name other → IsUnder group.owner other → IsUnder found other

-- the longest that the name shares with the apex or one of so many groups
pub record IsNearest (groups : List Group) (apex name : List Label) (count : ℕ) (found : List Label) : Type 0 where
  pub above : IsUnder name found
  pub shared : found ≢ apex → Any (λ group. IsUnder group.owner found) groups
  pub longest : AllWithin (IsAboveShared name found) groups 0 count

module _ (groups : List Group) (apex name : List Label) where
  pub nearest_begins : IsUnder name apex → IsNearest groups apex name 0 apex
  nearest_begins under = record {
    above = under;
    shared = λ apart. absurd (apart refl);
    longest = AllWithin-none (IsAboveShared name apex) groups 0;
  }

  pub nearest_more : (i : ℕ) (g : Group) (found common after : List Label) → i < length groups → g ≡ get_or groups i g → IsCommon name g.owner common → (length common ≤ length found → after ≡ found) → (length found < length common → after ≡ common) → IsNearest groups apex name i found → IsNearest groups apex name (i + 1) after
  nearest_more i g found common after short read is kept replaced nearest = ⊎_elim
      (λ (less : length found < length common). subst (IsNearest groups apex name (i + 1)) (sym (replaced less)) (taken less))
      (λ (most : length common ≤ length found). subst (IsNearest groups apex name (i + 1)) (sym (kept most)) (stays most))
      (cases_lt (length found) (length common))
    where
      taken : length found < length common → IsNearest groups apex name (i + 1) common
      taken less = record {
        above = is.first;
        shared = λ _. (i, g, short, sym read, is.second);
        longest = AllWithin-more (IsAboveShared name common) groups 0 i
            (λ k d low high other under under'. under_through common found other (longer_is_under name common found is.first nearest.above (omega arith)) (nearest.longest k d low high other under under'))
            (at_read groups (IsAboveShared name common) i g short read is.longest);
      }

      stays : length common ≤ length found → IsNearest groups apex name (i + 1) found
      stays most = record {
        above = nearest.above;
        shared = nearest.shared;
        longest = AllWithin-more (IsAboveShared name found) groups 0 i nearest.longest
            (at_read groups (IsAboveShared name found) i g short read (λ other under under'. under_through found common other (longer_is_under name found common nearest.above is.first most) (is.longest other under under')));
      }

-- ---- the least item

abbrev pub IsNotAfter : List ℕ → List ℕ → Type 0
IsNotAfter octets others = is_gt (slice_cmp nat_cmp octets others) ≡ false

pub record IsLeast (items : List (List ℕ)) (count : ℕ) (found : List ℕ) : Type 0 where
  pub among : Contains items found
  pub least : AllWithin (IsNotAfter found) items 0 count

pub least_more : (items : List (List ℕ)) (i : ℕ) (item found after : List ℕ) → i < length items → item ≡ get_or items i item → (is_gt (slice_cmp nat_cmp found item) ≡ false → after ≡ found) → (is_gt (slice_cmp nat_cmp found item) ≡ true → after ≡ item) → IsLeast items i found → IsLeast items (i + 1) after
least_more items i item found after short read kept replaced least = ⊎_elim
    (λ greater. subst (IsLeast items (i + 1)) (sym (replaced greater)) (taken greater))
    (λ most. subst (IsLeast items (i + 1)) (sym (kept most)) (stays most))
    (cases_Bool (is_gt (slice_cmp nat_cmp found item)))
  where
    back : is_gt (slice_cmp nat_cmp found item) ≡ true → is_gt (slice_cmp nat_cmp item found) ≡ false
    back greater = turned_back (slice_cmp nat_cmp found item) (slice_cmp nat_cmp item found) (nat_list_cmp_total.antisymm found item) greater

    taken : is_gt (slice_cmp nat_cmp found item) ≡ true → IsLeast items (i + 1) item
    taken greater = record {
      among = (i, short, sym read);
      least = AllWithin-more (IsNotAfter item) items 0 i
          (λ k d low high. upto nat_list_cmp_total item found (get_or items k d) (back greater) (least.least k d low high))
          (at_read items (IsNotAfter item) i item short read (ap is_gt (tied_itself nat_list_cmp_total item)));
    }

    stays : is_gt (slice_cmp nat_cmp found item) ≡ false → IsLeast items (i + 1) found
    stays most = record {
      among = least.among;
      least = AllWithin-more (IsNotAfter found) items 0 i least.least (at_read items (IsNotAfter found) i item short read most);
    }
