use Rattle.std.proofs.Common.{◌≡◌, Bool, true, false, cond, List, [], ◌∷◌, ◌++◌, map, refl, sym, ap, ◌∙◌}
use Rattle.std.specs.declared.cmp.Ordering.{Ordering}
use Rattle.std.specs.List.{filter, All, AllPairs}
use Rattle.std.proofs.lemmas.List.{append-nil, append_assoc, map-append}
use Rattle.std.proofs.lemmas.List.Elements.{All-cons, All-head, All-tail}
use Rattle.std.proofs.lemmas.List.Kept.{AllPairs-cons}
use Rattle.std.proofs.lemmas.Fn.{says_at}
use Rattle.std.specs.Fn.{FnReturnsAt}
use denote.Ref.{Bor}
use denote.Param.Members.{Shared}
use Rattle.range_index.proofs.InsertLemmas.{AllPairs-head, AllPairs-tail}
use Rattle.range_index.specs.Arcs.{starts_before, is_apart, IsArcs}

-- made holds those of the first ones that stay, and the rest is still to be looked at
pub record HasKept {S K : Type 0} (cmp : K → K → Ordering) (start end : S → K) (IsTest : (S → Bool) → Type 0) (xs made rest : List S) : Type 0 where
  pub arcs : IsArcs cmp start end (made ++ rest)
  pub is : (p : S → Bool) → IsTest p → made ++ filter p rest ≡ filter p xs

All-without : {X : Type 0} (P : X → Type 0) (xs : List X) (x : X) (ys : List X) → All P (xs ++ x ∷ ys) → All P (xs ++ ys)
All-without P [] x ys all = All-tail P x ys all
All-without P (z ∷ zs) x ys all = All-cons P z (zs ++ ys) (All-head P z (zs ++ x ∷ ys) all) (All-without P zs x ys (All-tail P z (zs ++ x ∷ ys) all))

AllPairs-without : {X : Type 0} (R : X → X → Type 0) (xs : List X) (x : X) (ys : List X) → AllPairs R (xs ++ x ∷ ys) → AllPairs R (xs ++ ys)
AllPairs-without R [] x ys pairs = AllPairs-tail R x ys pairs
AllPairs-without R (z ∷ zs) x ys pairs =
    AllPairs-cons R z (zs ++ ys) (All-without (R z) zs x ys (AllPairs-head R z (zs ++ x ∷ ys) pairs)) (AllPairs-without R zs x ys (AllPairs-tail R z (zs ++ x ∷ ys) pairs))

module _ {S K : Type 0} (cmp : K → K → Ordering) (start end : S → K) (IsTest : (S → Bool) → Type 0) (xs : List S) where
  pub HasKept-none : (rest : List S) → IsArcs cmp start end xs → rest ≡ xs → HasKept cmp start end IsTest xs [] rest
  HasKept-none rest arcs e = rw e record { arcs = arcs; is = λ p test. refl }

  -- what the iterator gives is the front of the rest
  pub HasKept-next : (made before : List S) (x y : S) (rest : List S) → HasKept cmp start end IsTest xs made before → before ≡ y ∷ rest → x ≡ y → HasKept cmp start end IsTest xs made (x ∷ rest)
  HasKept-next made before x y rest was gives e = rw (gives ∙ ap (λ z. z ∷ rest) (sym e)) at was

  pub HasKept-stays : (made made' : List S) (x : S) (rest : List S) → HasKept cmp start end IsTest xs made (x ∷ rest) → ((p : S → Bool) → IsTest p → p x ≡ true) → made' ≡ made ++ x ∷ [] → HasKept cmp start end IsTest xs made' rest
  HasKept-stays made made' x rest was passes new =
      rw new record {
        arcs = rw (append_assoc made (x ∷ []) rest) was.arcs;
        is = λ p test. append_assoc made (x ∷ []) (filter p rest) ∙ ap (λ b. made ++ cond b (x ∷ filter p rest) (filter p rest)) (sym (passes p test)) ∙ was.is p test;
      }

  pub HasKept-goes : (made : List S) (x : S) (rest : List S) → HasKept cmp start end IsTest xs made (x ∷ rest) → ((p : S → Bool) → IsTest p → p x ≡ false) → HasKept cmp start end IsTest xs made rest
  HasKept-goes made x rest was fails = record {
    arcs = record {
      in_order = AllPairs-without (λ a b. starts_before cmp start b a ≡ true) made x rest was.arcs.in_order;
      apart = AllPairs-without (λ a b. is_apart cmp start end a b ≡ true) made x rest was.arcs.apart;
    };
    is = λ p test. ap (λ b. made ++ cond b (x ∷ filter p rest) (filter p rest)) (sym (fails p test)) ∙ was.is p test;
  }

  pub HasKept-arcs : (made rest : List S) → HasKept cmp start end IsTest xs made rest → rest ≡ [] → IsArcs cmp start end made
  HasKept-arcs made rest was none = rw (ap (λ z. made ++ z) none ∙ append-nil made) at was.arcs

  pub HasKept-all : (made rest : List S) → HasKept cmp start end IsTest xs made rest → rest ≡ [] → (p : S → Bool) → IsTest p → made ≡ filter p xs
  HasKept-all made rest was none p test = sym (append-nil made) ∙ ap (λ z. made ++ filter p z) (sym none) ∙ was.is p test

-- what a call tells of any test that the calls compute
pub answered : {X F : Type 0} (g : Shared F (Bor X × Unit {0}) Bool) (f : F) (y : Bor X) (r b : Bool) → g.post f (y, tt) r → r ≡ b → (p : X → Bool) → ((x : X) (s : Bool) → FnReturnsAt g f x s → s ≡ p x) → p y.now ≡ b
answered g f y r b post e p test = sym (test y.now b (says_at g {f = f} {y = y} {r = r} {v = b} post e))

-- one more share
pub mapped_more : {X Y : Type 0} (v : X → Y) (made made' : List X) (x : X) (y : Y) → made' ≡ made ++ x ∷ [] → v x ≡ y → map v made' ≡ map v made ++ y ∷ []
mapped_more v made made' x y e h = ap (map v) e ∙ map-append v made (x ∷ []) ∙ ap (λ z. map v made ++ z ∷ []) h
