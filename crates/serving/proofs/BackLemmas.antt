-- What comes back of links, and how a harbor counts it.
use Rattle.std.proofs.Common.{◌≡◌, ℕ, zero, suc, ◌+◌, ◌≤◌, inl, inr, List, [], ◌∷◌, ◌++◌, Option, None, Some, refl, sym, ◌∙◌, ap, subst, arith, append_assoc}
use Rattle.std.specs.Prelude.{option_map}
use Rattle.std.specs.List.{All, sum_by}
use Rattle.std.proofs.lemmas.List.{append-nil}
use Rattle.std.proofs.lemmas.List.Elements.{All-nil, All-cons}
use Rattle.std.proofs.lemmas.List.Sums.{sum_by-append, sum_by-cons}
use Rattle.std.proofs.lemmas.Slice.Zip.{all_zipped_more}
use Rattle.std.proofs.lemmas.Option.{none-some, same_Some}
use Rattle.outside_core.specs.Fault.{Rose}
use Rattle.outside_core.specs.Returned.{Returned, TellsAtMost, returned_of, then_returned}
use Rattle.outside_core.specs.declared.event.Event.{Event}
use Rattle.serving.specs.Back.{CameBack, Unfailed}
use Rattle.serving.specs.Sight.{Sight, AreBack, IsCounted, faults_of, returned}

-- ---- one link

-- the link came back as this
pub record IsShown (port upstream : ℕ) (events : Option (List Event)) (faults : ℕ) (back : Returned) : Type 0 where
  pub port_is : back.port ≡ port
  pub upstream_is : back.upstream ≡ upstream
  pub events_are : events ≡ Some back.events
  pub faults_are : back.faults ≡ faults

pub shown : (port upstream : ℕ) (events : Option (List Event)) (faults : ℕ) (back : Returned) → returned_of port upstream events faults ≡ Some back → IsShown port upstream events faults back
shown port upstream None faults back is = absurd (none-some _ is)
shown port upstream (Some told) faults back is =
    let same = same_Some _ _ is in
    record {
      port_is = sym (ap (λ (b : Returned). b.port) same);
      upstream_is = sym (ap (λ (b : Returned). b.upstream) same);
      events_are = ap (λ (b : Returned). Some b.events) same;
      faults_are = sym (ap (λ (b : Returned). b.faults) same);
    }

-- ---- what came back so far

pub none_back : (told : Option (List Returned)) → CameBack told told (AreBack [])
none_back None = tt
none_back (Some all) = (all, [], refl, sym (append-nil all), tt)

then_one : (was all : List Returned) (link : Option Returned) → option_map (λ one. was ++ one ∷ []) link ≡ Some all → (one : Returned) × (link ≡ Some one) × (all ≡ was ++ one ∷ [])
then_one was all None is = absurd (none-some _ is)
then_one was all (Some one) is = (one, refl, sym (same_Some _ _ is))

pub one_back : (before now after : Option (List Returned)) (links : List Sight) (link : Sight) → CameBack before now (AreBack links) → TellsAtMost after (then_returned now (returned link)) → CameBack before after (AreBack (links ++ link ∷ []))
one_back before now None links link came more = tt
one_back before None (Some all) links link came more = absurd (none-some _ more)
one_back before (Some was) (Some all) links link came more =
    let one = then_one was all (returned link) more in (
      came.0,
      came.1 ++ one.0 ∷ [],
      came.2,
      one.2 ∙ ap (λ l. l ++ one.0 ∷ []) came.3 ∙ append_assoc came.0 came.1 (one.0 ∷ []),
      all_zipped_more (λ (l : Sight) (b : Returned). returned l ≡ Some b) links came.1 link one.0 came.4 one.1,
    )

pub came_weaker : (P Q : List Returned → Type 0) (before after : Option (List Returned)) → CameBack before after P → ((links : List Returned) → P links → Q links) → CameBack before after Q
came_weaker P Q before None came f = tt
came_weaker P Q before (Some all) came f = (came.0, came.1, came.2, came.3, f came.1 came.4)

-- ---- counts

rose_then : (a b c : ℕ) → Rose a b → Rose b c → Rose a c
rose_then a b c (inl more) (inl later) = inl (omega (arith, more, later))
rose_then a b c (inl more) (inr full) = inl (omega (arith, more, full.0, full.1))
rose_then a b c (inr full) (inl later) = inl (omega (arith, full.0, full.1, later))
rose_then a b c (inr full) (inr again) = inr (full.0, again.1)

pub rose_counted : (failed a b c : ℕ) → Rose a b → IsCounted failed b c → Rose a c
rose_counted failed a b c rose (inl same) = subst (Rose a) (sym same.1) rose
rose_counted failed a b c rose (inr more) = rose_then a b c rose more.1

pub counted_none : (count : ℕ) → IsCounted 0 count count
counted_none count = inl (refl, refl)

counted_one : (failed one before now after : ℕ) → IsCounted failed before now → (one ≡ 0 → after ≡ now) → (1 ≤ one → Rose now after) → IsCounted (failed + one) before after
counted_one failed zero before now after (inl same) stays rises = inl (omega (arith, same.0), stays refl ∙ same.1)
counted_one failed zero before now after (inr more) stays rises = inr (omega (arith, more.0), subst (Rose before) (sym (stays refl)) more.1)
counted_one failed (suc one) before now after (inl same) stays rises = inr (omega arith, subst (λ n. Rose n after) same.1 (rises (omega arith)))
counted_one failed (suc one) before now after (inr more) stays rises = inr (omega arith, rose_then before now after more.1 (rises (omega arith)))

pub counted_more : (links : List Sight) (link : Sight) (before now after : ℕ) → IsCounted (faults_of links) before now → (link.faults ≡ 0 → after ≡ now) → (1 ≤ link.faults → Rose now after) → IsCounted (faults_of (links ++ link ∷ [])) before after
counted_more links link before now after counted stays rises =
    let split = sum_by-append (λ (l : Sight). l.faults) links (link ∷ []) in
    let last = sum_by-cons (λ (l : Sight). l.faults) link [] in
    let sum : faults_of links + link.faults ≡ faults_of (links ++ link ∷ []) = omega (arith, split, last) in
    subst (λ n. IsCounted n before after) sum (counted_one (faults_of links) link.faults before now after counted stays rises)

-- ---- faults of links that came back

abbrev faults_in : List Returned → ℕ
faults_in came = sum_by (λ link. link.faults) came

pub faults_back : (links : List Sight) (came : List Returned) → AreBack links came → sum_by (λ link. link.faults) came ≡ faults_of links
faults_back [] [] back = refl
faults_back [] (b ∷ came) back = absurd back
faults_back (l ∷ links) [] back = absurd back
faults_back (l ∷ links) (b ∷ came) back =
    let first = shown l.port l.upstream l.events l.faults b back.0 in
    omega (arith, first.faults_are, faults_back links came back.1, sum_by-cons (λ (x : Returned). x.faults) b came, sum_by-cons (λ (x : Sight). x.faults) l links)

pub all_unfailed : (came : List Returned) → sum_by (λ link. link.faults) came ≡ 0 → All Unfailed came
all_unfailed [] none = All-nil Unfailed
all_unfailed (b ∷ came) none =
    let sum = sum_by-cons (λ (x : Returned). x.faults) b came in
    All-cons Unfailed b came (omega (arith, none, sum)) (all_unfailed came (omega (arith, none, sum)))
