-- Connections come back one after the other.
use Rattle.std.proofs.Common.{◌≡◌, ℕ, ◌+◌, ◌≤◌, inl, inr, Bool, true, false, List, [], ◌∷◌, ◌++◌, length, refl, sym, ◌∙◌, ap, subst, arith, Option, Some, None, Ok, Err, append_assoc, length-append}
use Rattle.std.proofs.lemmas.List.{append-nil}
use Rattle.std.proofs.lemmas.List.Elements.{All-nil, All-push, All-weaker}
use mathlib.Core.List.{IsPrefix}
use Rattle.denial_records.specs.declared.batch.Batch.{Batch}
use Rattle.outside_core.specs.Fault.{Rose}
use Rattle.gateway.specs.Connection.{Connection}
use Rattle.stream_server.proofs.TurnLemmas.{turns_more}
use Rattle.stream_server.specs.Served.{AreServed, AreAllServed, CameBack, EndsEarly, IsServed, Unfailed}
use Rattle.stream_server.specs.Next.{HasServedNext, IsOne, noted}
use Rattle.stream_server.specs.declared.connect_fault.ConnectFault.{ConnectFault}
use Rattle.stream_server.specs.declared.connect_fault.ConnectFault.TheVariants as fault
use Rattle.stream_server.specs.declared.connection.Ended.{Ended}
use Rattle.stream_server.specs.declared.connection.Ended.TheVariants as ended

pub came_none : (told : Option (List Connection)) (Are : List Connection → Type 0) → Are [] → CameBack told told Are
came_none None Are are = tt
came_none (Some all) Are are = (all, [], refl, sym (append-nil all), are)

pub came_more : (told told' told2 : Option (List Connection)) (Are Are' : List Connection → Type 0) (Is : Connection → Type 0) → CameBack told told' Are → CameBack told' told2 (IsOne Is) → ((connections : List Connection) (one : Connection) → Are connections → Is one → Are' (connections ++ one ∷ [])) → CameBack told told2 Are'
came_more told told' None Are Are' Is came next more = tt
came_more told None (Some all) Are Are' Is came next more = absurd (none_some next.0 next.2)
  where
    none_some : {X : Type 0} (x : X) → None ≡ Some x → ⊥
    none_some x is = cc
came_more told (Some mid) (Some all) Are Are' Is came next more = (
  came.0,
  came.1 ++ next.4.0 ∷ [],
  came.2,
  next.3 ∙ ap (λ l. l ++ next.1) (some_same (sym next.2) ∙ came.3) ∙ append_assoc came.0 came.1 next.1 ∙ ap (λ l. came.0 ++ (came.1 ++ l)) next.4.1,
  more came.1 next.4.0 came.4 next.4.2,
)
  where
    some_same : {xs ys : List Connection} → Some xs ≡ Some ys → xs ≡ ys
    some_same is = cc

pub came_weaker : (told told' : Option (List Connection)) (Are Are' : List Connection → Type 0) → ((connections : List Connection) → Are connections → Are' connections) → CameBack told told' Are → CameBack told told' Are'
came_weaker told None Are Are' weaker came = tt
came_weaker told (Some all) Are Are' weaker came = (came.0, came.1, came.2, came.3, weaker came.1 came.4)

pub served_more : (moment : Option ℕ) (before before' : ℕ) (seen seen' : List Batch) (one : Connection) → before' ≤ before → IsPrefix seen seen' → IsServed moment before seen one → IsServed moment before' seen' one
served_more moment before before' seen seen' one low begins served = record {
  turns = served.turns;
  rest = served.rest;
  stands = served.stands;
  each = turns_more before before' seen seen' served.turns low begins served.each;
  moments = served.moments;
  part = served.part;
  whole = served.whole;
}

pub none_served : (moment : Option ℕ) (before : ℕ) (seen : List Batch) → AreServed 0 moment before seen []
none_served moment before seen = record { many = refl; each = All-nil (IsServed moment before seen) }

-- one more was served, over more batches
pub are_more : (count : ℕ) (moment : Option ℕ) (before now : ℕ) (seen seen' : List Batch) (connections : List Connection) (one : Connection) → before ≤ now → IsPrefix seen seen' → AreServed count moment before seen connections → IsServed moment now seen' one → AreServed (count + 1) moment before seen' (connections ++ one ∷ [])
are_more count moment before now seen seen' connections one low begins are served = record {
  many = length-append connections (one ∷ []) ∙ ap (λ n. n + 1) are.many;
  each =
      All-push (IsServed moment before seen') connections one
      (All-weaker (IsServed moment before seen) (IsServed moment before seen') (λ c is. served_more moment before before seen seen' c (omega arith) begins is) connections are.each)
      (served_more moment now before seen' seen' one low ([], append-nil seen') served);
}

-- ---- so many connections

-- so many were served, and the flag is up where a call of one has failed
pub record Serving (count : ℕ) (moment : Option ℕ) (before : ℕ) (seen : List Batch) (told told' : Option (List Connection)) (failures failures' faults faults' : ℕ) (failed : Bool) : Type 0 where
  pub came : CameBack told told' (AreServed count moment before seen)
  pub whole : failed ≡ false → CameBack told told' (AreAllServed count moment before seen) × (faults' ≡ faults)
  pub rose : failed ≡ true → Rose faults faults'
  pub same : failures' ≡ failures

false_true : false ≡ true → ⊥
false_true is = cc

pub begun : (moment : Option ℕ) (before : ℕ) (seen : List Batch) (told : Option (List Connection)) (failures faults : ℕ) → Serving 0 moment before seen told told failures failures faults faults false
begun moment before seen told failures faults = record {
  came = came_none told (AreServed 0 moment before seen) (none_served moment before seen);
  whole = λ _. (came_none told (AreAllServed 0 moment before seen) (none_served moment before seen, All-nil Unfailed), refl);
  rose = λ is. absurd (false_true is);
  same = refl;
}

pub rose_more : (a b c : ℕ) → Rose a b → Rose b c → Rose a c
rose_more a b c (inl one) (inl two) = inl (omega (arith, one, two))
rose_more a b c (inl one) (inr two) = inl (omega (arith, one, two.0, two.1))
rose_more a b c (inr one) (inl two) = inl (omega (arith, one.0, one.1, two))
rose_more a b c (inr one) (inr two) = inr (one.0, two.1)

-- over more batches
pub all_more : (count : ℕ) (moment : Option ℕ) (before : ℕ) (seen seen' : List Batch) (connections : List Connection) → IsPrefix seen seen' → AreServed count moment before seen connections → AreServed count moment before seen' connections
all_more count moment before seen seen' connections begins are = record {
  many = are.many;
  each = All-weaker (IsServed moment before seen) (IsServed moment before seen') (λ c is. served_more moment before before seen seen' c (omega arith) begins is) connections are.each;
}

module _ (count : ℕ) (moment : Option ℕ) (before now : ℕ) (seen seen' : List Batch) (told told' told2 : Option (List Connection)) (failures failures' failures2 faults faults' faults2 : ℕ) (low : before ≤ now) (begins : IsPrefix seen seen') where
  -- the counts rise from the beginning on
  rose_since : (failed : Bool) → Serving count moment before seen told told' failures failures' faults faults' failed → Rose faults' faults2 → Rose faults faults2
  rose_since true at rose = rose_more faults faults' faults2 (at.rose refl) rose
  rose_since false at rose = subst (λ n. Rose n faults2) (at.whole refl).1 rose

  step_whole : (failed : Bool) → Serving count moment before seen told told' failures failures' faults faults' failed → HasServedNext moment now seen' told' told2 failures' failures2 faults' faults2 (Ok ended.Whole) → Serving (count + 1) moment before seen' told told2 failures failures2 faults faults2 failed
  step_whole failed at next = record {
    came = came_more told told' told2 (AreServed count moment before seen) (AreServed (count + 1) moment before seen') (λ one. IsServed moment now seen' one × Unfailed one) at.came next.0
        (λ connections one are served. are_more count moment before now seen seen' connections one low begins are served.0);
    whole = λ is. (
      came_more told told' told2 (AreAllServed count moment before seen) (AreAllServed (count + 1) moment before seen') (λ one. IsServed moment now seen' one × Unfailed one) (at.whole is).0 next.0
          (λ connections one are served. (are_more count moment before now seen seen' connections one low begins are.0 served.0, All-push Unfailed connections one are.1 served.1)),
      next.2 ∙ (at.whole is).1,
    );
    rose = λ is. subst (λ n. Rose faults n) (sym next.2) (at.rose is);
    same = next.1 ∙ at.same;
  }

  step_failed : (failed : Bool) → Serving count moment before seen told told' failures failures' faults faults' failed → HasServedNext moment now seen' told' told2 failures' failures2 faults' faults2 (Ok ended.Failed) → Serving (count + 1) moment before seen' told told2 failures failures2 faults faults2 true
  step_failed failed at next = record {
    came = came_more told told' told2 (AreServed count moment before seen) (AreServed (count + 1) moment before seen') (IsServed moment now seen') at.came next.0
        (λ connections one are served. are_more count moment before now seen seen' connections one low begins are served);
    whole = λ is. absurd (false_true (sym is));
    rose = λ _. rose_since failed at next.2;
    same = next.1 ∙ at.same;
  }

  pub step : (failed : Bool) (how : Ended) → Serving count moment before seen told told' failures failures' faults faults' failed → HasServedNext moment now seen' told' told2 failures' failures2 faults' faults2 (Ok how) → Serving (count + 1) moment before seen' told told2 failures failures2 faults faults2 (noted failed how)
  step failed ended.Whole at next = step_whole failed at next
  step failed ended.Failed at next = step_failed failed at next

  -- none could be accepted, or memory was wanted
  pub stopped : (connections : ℕ) (failed : Bool) (why : ConnectFault) → Serving count moment before seen told told' failures failures' faults faults' failed → HasServedNext moment now seen' told' told2 failures' failures2 faults' faults2 (Err why) → EndsEarly connections moment before seen' told told2 failures failures2 faults faults2 why
  stopped connections failed fault.Gateway at next = (
    rose_since failed at next.2,
    inr (
      subst (λ n. Rose n failures2) at.same next.1,
      subst (λ t. CameBack told t (λ all. AreServed (length all) moment before seen' all)) (sym next.0)
          (came_weaker told told' (AreServed count moment before seen) (λ all. AreServed (length all) moment before seen' all)
          (λ all are. let more = all_more count moment before seen seen' all begins are in record { many = refl; each = more.each }) at.came),
    ),
  )
  stopped connections failed fault.OutOfMemory at next = tt
