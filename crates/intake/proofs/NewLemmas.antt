-- Which of some octets are new, with a set of those that came before.
use Rattle.std.proofs.Common.{◌≡◌, ℕ, zero, suc, ◌+◌, ◌<◌, ◌≤◌, Bool, true, false, not, ◌||◌, cond, List, [], ◌∷◌, ◌++◌, length, take, get_or, Bor, BTreeSet, if◌then◌else◌, arith, refl, sym, ◌∙◌, ap}
use Rattle.std.specs.List.{list_any}
use Rattle.std.specs.Ordering.{nat_cmp, is_eq}
use Rattle.std.specs.declared.cmp.Ordering.{Ordering}
use Rattle.std.specs.BTreeSet.{contains, Updates}
use Rattle.std.specs.Cmp.Lexicographic.{slice_cmp, bytes_decides}
use Rattle.std.proofs.lemmas.List.{take_more, append_assoc, append-nil, take_all}
use Rattle.std.proofs.lemmas.List.Folds.{list_any-append}
use Rattle.std.proofs.lemmas.Map.Text.{is_eq-slice_cmp}
use Rattle.dname.specs.Tests.{each_once, same_octets}
use Rattle.intake.specs.Once.{news, news_after}
use Rattle.intake.proofs.OnceLemmas.{IsByKey, alike-sym, once_more, new_in}

pub octets_alike : IsByKey same_octets (λ (octets : List ℕ). octets)
octets_alike = record { decides = bytes_decides }

-- ---- what is new

abbrev pub is_new : List (List ℕ) → List ℕ → Bool
is_new before octets = not (list_any (same_octets octets) before)

news_after-push : (before xs : List (List ℕ)) (x : List ℕ) → news_after before (xs ++ x ∷ []) ≡ news_after before xs ++ is_new (before ++ xs) x ∷ []
news_after-push before [] x = ap (λ ys. is_new ys x ∷ []) (sym (append-nil before))
news_after-push before (y ∷ ys) x =
    ap (λ bs. is_new before y ∷ bs) (news_after-push (before ++ y ∷ []) ys x ∙ ap (λ zs. news_after (before ++ y ∷ []) ys ++ is_new zs x ∷ []) (append_assoc before (y ∷ []) ys))

-- ---- the loop

abbrev pub slices_cmp : Bor (List ℕ) → Bor (List ℕ) → Ordering
slices_cmp x y = slice_cmp nat_cmp x.now y.now

-- so many have been looked at
pub record HasLooked (octets : List (List ℕ)) (count : ℕ) (seen : BTreeSet (Bor (List ℕ))) (new : List Bool) : Type 0 where
  pub new_are : new ≡ news (take count octets)
  pub seen_are : (q : Bor (List ℕ)) → contains slices_cmp seen q ≡ list_any (same_octets q.now) (take count octets)

pub looked_none : (octets : List (List ℕ)) (seen : BTreeSet (Bor (List ℕ))) → seen.keys ≡ [] → HasLooked octets 0 seen []
looked_none octets seen empty = record {
  new_are = refl;
  seen_are = λ q. ap (list_any (λ k. is_eq (slices_cmp q k))) empty;
}

found_more : (b b' a : Bool) → b ≡ b' → cond b true a ≡ (a || (b' || false))
found_more true true true h = refl
found_more true true false h = refl
found_more false false true h = refl
found_more false false false h = refl
found_more true false a h = cc
found_more false true a h = cc

pub looked_more : (octets : List (List ℕ)) (i : ℕ) (seen seen' : BTreeSet (Bor (List ℕ))) (new new' : List Bool) (x : List ℕ) (slice : Bor (List ℕ)) (added : Bool)
    → HasLooked octets i seen new → i < length octets → x ≡ get_or octets i x → slice.now ≡ x → added ≡ not (contains slices_cmp seen slice)
    → Updates slices_cmp seen seen' slice true → new' ≡ new ++ added ∷ [] → HasLooked octets (i + 1) seen' new'
looked_more octets i seen seen' new new' x slice added looked below x-is slice-is added-is updates pushed =
    let front : take (i + 1) octets ≡ take i octets ++ x ∷ [] = take_more octets i x below ∙ ap (λ y. take i octets ++ y ∷ []) (sym x-is) in
    let is : added ≡ is_new (take i octets) x = added-is ∙ ap not (looked.seen_are slice) ∙ ap (is_new (take i octets)) slice-is in
    record {
      new_are =
          pushed
          ∙ ap (λ bs. bs ++ added ∷ []) looked.new_are
          ∙ ap (λ b. news (take i octets) ++ b ∷ []) is
          ∙ sym (news_after-push [] (take i octets) x)
          ∙ ap news (sym front);
      seen_are = λ q.
          updates.0 q
          ∙ found_more (is_eq (slices_cmp slice q)) (same_octets q.now x) (contains slices_cmp seen q)
          (is_eq-slice_cmp slice.now q.now ∙ alike-sym same_octets (λ (o : List ℕ). o) octets_alike slice.now q.now ∙ ap (same_octets q.now) slice-is)
          ∙ ap (λ b. b || (same_octets q.now x || false)) (looked.seen_are q)
          ∙ sym (list_any-append (same_octets q.now) (take i octets) (x ∷ []))
          ∙ ap (list_any (same_octets q.now)) (sym front);
    }

pub looked_all : (octets : List (List ℕ)) (i : ℕ) (seen : BTreeSet (Bor (List ℕ))) (new : List Bool) → HasLooked octets i seen new → length octets ≤ i → new ≡ news octets
looked_all octets i seen new looked end = looked.new_are ∙ ap news (take_all i octets end)

-- ---- what is kept

pub length-news_after : (before xs : List (List ℕ)) → length (news_after before xs) ≡ length xs
length-news_after before [] = refl
length-news_after before (x ∷ xs) = ap suc (length-news_after (before ++ x ∷ []) xs)

news_after-get : (before xs : List (List ℕ)) (i : ℕ) (b : Bool) (x : List ℕ) → i < length xs → x ≡ get_or xs i x → get_or (news_after before xs) i b ≡ is_new (before ++ take i xs) x
news_after-get before [] i b x below is = absurd (omega arith)
news_after-get before (y ∷ ys) zero b x below is = ap (is_new before) (sym is) ∙ ap (λ zs. is_new zs x) (sym (append-nil before))
news_after-get before (y ∷ ys) (suc i) b x below is =
    news_after-get (before ++ y ∷ []) ys i b x (omega arith) is ∙ ap (λ zs. is_new zs x) (append_assoc before (y ∷ []) (take i ys))

-- so many have been taken
abbrev pub HasTaken : List (List ℕ) → ℕ → List (List ℕ) → Type 0
HasTaken octets count kept = kept ≡ each_once same_octets (take count octets)

taken_step : (octets : List (List ℕ)) (i : ℕ) (kept : List (List ℕ)) (x : List ℕ) → HasTaken octets i kept → i < length octets → x ≡ get_or octets i x
    → each_once same_octets (take (i + 1) octets) ≡ kept ++ new_in same_octets (take i octets) x
taken_step octets i kept x taken below is =
    ap (each_once same_octets) (take_more octets i x below ∙ ap (λ y. take i octets ++ y ∷ []) (sym is))
    ∙ once_more same_octets (λ (o : List ℕ). o) octets_alike (take i octets) x
    ∙ ap (λ ks. ks ++ new_in same_octets (take i octets) x) (sym taken)

-- the mark of a place tells whether what stands there is new
pub taken_new : (octets : List (List ℕ)) (new : List Bool) (i : ℕ) (kept kept' : List (List ℕ)) (x : List ℕ) (b : Bool) → new ≡ news octets → HasTaken octets i kept → i < length octets → x ≡ get_or octets i x
    → b ≡ get_or new i b → b ≡ true → kept' ≡ kept ++ x ∷ [] → HasTaken octets (i + 1) kept'
taken_new octets new i kept kept' x b new-is taken below is b-is marks pushed =
    let marked : list_any (same_octets x) (take i octets) ≡ false = no_from (list_any (same_octets x) (take i octets)) (sym (news_after-get [] octets i b x below is) ∙ ap (λ bs. get_or bs i b) (sym new-is) ∙ sym b-is ∙ marks) in
    pushed ∙ ap (λ a. kept ++ (if a then [] else x ∷ [])) (sym marked) ∙ sym (taken_step octets i kept x taken below is)
  where
    no_from : (a : Bool) → not a ≡ true → a ≡ false
    no_from true h = cc
    no_from false h = refl

pub taken_old : (octets : List (List ℕ)) (new : List Bool) (i : ℕ) (kept : List (List ℕ)) (x : List ℕ) (b : Bool) → new ≡ news octets → HasTaken octets i kept → i < length octets → x ≡ get_or octets i x
    → b ≡ get_or new i b → b ≡ false → HasTaken octets (i + 1) kept
taken_old octets new i kept x b new-is taken below is b-is marks =
    let marked : list_any (same_octets x) (take i octets) ≡ true = yes_from (list_any (same_octets x) (take i octets)) (sym (news_after-get [] octets i b x below is) ∙ ap (λ bs. get_or bs i b) (sym new-is) ∙ sym b-is ∙ marks) in
    sym (append-nil kept) ∙ ap (λ a. kept ++ (if a then [] else x ∷ [])) (sym marked) ∙ sym (taken_step octets i kept x taken below is)
  where
    yes_from : (a : Bool) → not a ≡ false → a ≡ true
    yes_from true h = refl
    yes_from false h = cc
