-- What a stream that was served says of its connection.
use Rattle.std.proofs.Common.{◌≡◌, ℕ, ◌≤◌, ◌⊎◌, inl, inr, List, [], ◌∷◌, ◌++◌, length, refl, sym, ◌∙◌, ap, subst, arith, Option, Some, None, Result, Ok, Err}
use Rattle.std.specs.Option.{IfSome}
use Rattle.std.proofs.lemmas.List.{append-nil}
use mathlib.Core.List.{IsPrefix}
use Rattle.denial_records.specs.declared.batch.Batch.{Batch}
use Rattle.outside_core.specs.Fault.{Rose}
use Rattle.outside_core.specs.Told.{append_told}
use Rattle.gateway.specs.Connection.{Connection, Counts, TellsAtMost, TellsNone, connection_of, then_back}
use Rattle.stream_server.specs.Stream.{Turn, Ends, HasFaults, HasStreamed, sent_of}
use Rattle.stream_server.specs.declared.stream_fault.StreamFault.{StreamFault}
use Rattle.stream_server.specs.declared.stream_fault.StreamFault.TheVariants as fault
use Rattle.stream_server.specs.Served.{CameBack, IsServed, IsReadOut, Unfailed}
use Rattle.stream_server.specs.Next.{HasServedNext, IsOne, ended_as}
use Rattle.stream_server.specs.declared.connection.Ended.TheVariants as ended

-- ---- what is told

-- what shows of a connection, where all of it is told
pub record IsShown (taken left : Option (List ℕ)) (source_faults : ℕ) (written : Option (List ℕ)) (sink_faults : ℕ) (one : Connection) : Type 0 where
  pub taken_is : taken ≡ Some one.taken
  pub left_is : left ≡ Some one.left
  pub written_is : written ≡ Some one.written
  pub source_is : one.source_faults ≡ source_faults
  pub sink_is : one.sink_faults ≡ sink_faults

none_some : {X : Type 0} (x : X) → None ≡ Some x → ⊥
none_some x is = cc

pub one_shown : (taken left : Option (List ℕ)) (source_faults : ℕ) (written : Option (List ℕ)) (sink_faults : ℕ) (one : Connection) → connection_of taken left source_faults written sink_faults ≡ Some one → IsShown taken left source_faults written sink_faults one
one_shown None left source_faults written sink_faults one is = absurd (none_some one is)
one_shown (Some taken) None source_faults written sink_faults one is = absurd (none_some one is)
one_shown (Some taken) (Some left) source_faults None sink_faults one is = absurd (none_some one is)
one_shown (Some taken) (Some left) source_faults (Some written) sink_faults one is =
    let one_is = some_one is in
    record {
      taken_is = ap (λ c. Some c.taken) one_is;
      left_is = ap (λ c. Some c.left) one_is;
      written_is = ap (λ c. Some c.written) one_is;
      source_is = sym (ap (λ c. c.source_faults) one_is);
      sink_is = sym (ap (λ c. c.sink_faults) one_is);
    }
  where
    some_one : {c d : Connection} → Some c ≡ Some d → c ≡ d
    some_one is = cc

-- what came of a stream that told nothing before
pub first_told : (told told' : Option (List ℕ)) (octets all : List ℕ) → TellsNone told → told' ≡ append_told told octets → told' ≡ Some all → all ≡ octets
first_told None told' octets all none is shown = absurd (none_some all (sym is ∙ shown))
first_told (Some before) told' octets all none is shown = some_same (sym shown ∙ is ∙ ap (λ l. Some (l ++ octets)) none)
  where
    some_same : {xs ys : List ℕ} → Some xs ≡ Some ys → xs ≡ ys
    some_same is = cc

-- a connection came back
pub one_back : (told told' : Option (List Connection)) (shown : Option Connection) (Is : Connection → Type 0) → TellsAtMost told' (then_back told shown) → ((one : Connection) → shown ≡ Some one → Is one) → CameBack told told' (IsOne Is)
one_back told None shown Is tells is = tt
one_back None (Some all) shown Is tells is = absurd (none_some all tells)
one_back (Some before) (Some all) None Is tells is = absurd (none_some all tells)
one_back (Some before) (Some all) (Some one) Is tells is = (before, one ∷ [], refl, some_all (sym tells), (one, refl, is one refl))
  where
    some_all : {xs ys : List Connection} → Some xs ≡ Some ys → xs ≡ ys
    some_all is = cc

-- ---- what was served

rose_from_none : (faults : ℕ) → Rose 0 faults → 1 ≤ faults
rose_from_none faults (inl more) = omega (arith, more)
rose_from_none faults (inr last) = absurd (omega (arith, last.0))

module _ (moment : Option ℕ) (seen seen' : List Batch) (one : Connection) (octets rest : List ℕ) (turns : List Turn) (went : List ℕ) where
  pub part_of : (left : Option (List ℕ)) (result : Result ℕ StreamFault) → Ends octets rest left turns went result → IsPrefix went (sent_of turns)
  part_of left (Ok count) ends = ([], append-nil went ∙ ends.3)
  part_of left (Err fault.Source) ends = ([], append-nil went ∙ ends.1)
  part_of left (Err fault.Sink) ends = (ends.rest, ends.whole)
  part_of left (Err (fault.TooSmall size)) ends = ([], append-nil went ∙ ends.1)
  part_of left (Err fault.TooLong) ends = ([], append-nil went ∙ ends.2)
  part_of left (Err fault.OutOfMemory) ends = ([], append-nil went ∙ ends.1)

  pub whole_of : (left : Option (List ℕ)) (result : Result ℕ StreamFault) → Ends octets rest left turns went result → (source sink : ℕ) → HasFaults 0 source 0 sink result → (result ≡ Err fault.OutOfMemory → ⊥) → left ≡ Some one.left → one.taken ≡ octets → one.source_faults ≡ source → one.sink_faults ≡ sink → Unfailed one → (went ≡ sent_of turns) × IsReadOut one rest
  whole_of left (Ok count) ends source sink faults memory left_is taken_is source_is sink_is unfailed =
      (ends.3, inl (subst (λ l. IfSome l (λ after. after ≡ [])) left_is ends.2, ends.1))
  whole_of left (Err fault.Source) ends source sink faults memory left_is taken_is source_is sink_is unfailed =
      absurd (omega (arith, rose_from_none source faults.0, source_is, unfailed.0))
  whole_of left (Err fault.Sink) ends source sink faults memory left_is taken_is source_is sink_is unfailed =
      absurd (omega (arith, rose_from_none sink faults.1, sink_is, unfailed.1))
  whole_of left (Err (fault.TooSmall size)) ends source sink faults memory left_is taken_is source_is sink_is unfailed = (ends.1, inr (inl (size, ends.0)))
  whole_of left (Err fault.TooLong) ends source sink faults memory left_is taken_is source_is sink_is unfailed =
      (ends.2, inr (inr (ends.0, omega (arith, ends.1, ap length taken_is))))
  whole_of left (Err fault.OutOfMemory) ends source sink faults memory left_is taken_is source_is sink_is unfailed = absurd (memory refl)

pub one_served : (moment : Option ℕ) (seen seen' : List Batch) (taken taken' left left' written written' : Option (List ℕ)) (source sink : ℕ) (result : Result ℕ StreamFault) (one : Connection) → TellsNone taken → TellsNone written → HasStreamed moment seen seen' taken taken' left left' written written' result → HasFaults 0 source 0 sink result → (result ≡ Err fault.OutOfMemory → ⊥) → connection_of taken' left' source written' sink ≡ Some one → IsServed moment (length seen) seen' one
one_served moment seen seen' taken taken' left left' written written' source sink result one none none' streamed faults memory shown_is =
    let shown = one_shown taken' left' source written' sink one shown_is in
    let octets_are = first_told taken taken' streamed.octets one.taken none streamed.taken_are shown.taken_is in
    let went_is = first_told written written' streamed.went one.written none' streamed.written_are shown.written_is in
    record {
      turns = streamed.turns;
      rest = streamed.rest;
      stands = rw octets_are streamed.stands;
      each = streamed.each;
      moments = streamed.moments;
      part = rw went_is (part_of moment seen seen' one streamed.octets streamed.rest streamed.turns streamed.went left' result streamed.ends);
      whole = λ unfailed. rw went_is (whole_of moment seen seen' one streamed.octets streamed.rest streamed.turns streamed.went left' result streamed.ends source sink faults memory shown.left_is octets_are shown.source_is shown.sink_is unfailed);
    }

-- no call has failed
pub unfailed_one : (taken left : Option (List ℕ)) (source : ℕ) (written : Option (List ℕ)) (sink : ℕ) (one : Connection) → connection_of taken left source written sink ≡ Some one → source ≡ 0 → sink ≡ 0 → Unfailed one
unfailed_one taken left source written sink one is none none' =
    let shown = one_shown taken left source written sink one is in
    (shown.source_is ∙ none, shown.sink_is ∙ none')

-- ---- the gateway's count

pub counted_none : (source sink before after : ℕ) → source ≡ 0 → sink ≡ 0 → Counts source sink before after → after ≡ before
counted_none source sink before after none none' (inl counts) = counts.2
counted_none source sink before after none none' (inr (inl some, rose)) = absurd (omega (arith, some, none))
counted_none source sink before after none none' (inr (inr some, rose)) = absurd (omega (arith, some, none'))

pub counted_some : (source sink before after : ℕ) → (Rose 0 source ⊎ Rose 0 sink) → Counts source sink before after → Rose before after
counted_some source sink before after failed (inr counts) = counts.1
counted_some source sink before after (inl failed) (inl counts) = absurd (omega (arith, rose_from_none source failed, counts.0))
counted_some source sink before after (inr failed) (inl counts) = absurd (omega (arith, rose_from_none sink failed, counts.1))

-- ---- the next connection

module _ (moment : Option ℕ) (seen seen' : List Batch) (taken taken' left left' written written' : Option (List ℕ)) (source sink : ℕ) (none : TellsNone taken) (none' : TellsNone written)
    (told told' : Option (List Connection)) (tells : TellsAtMost told' (then_back told (connection_of taken' left' source written' sink))) (failures failures' faults faults' : ℕ) (same : failures' ≡ failures) (counts : Counts source sink faults faults') where
  module _ (result : Result ℕ StreamFault) (memory : result ≡ Err fault.OutOfMemory → ⊥) (streamed : HasStreamed moment seen seen' taken taken' left left' written written' result) (has_faults : HasFaults 0 source 0 sink result) where
    served_so : (one : Connection) → connection_of taken' left' source written' sink ≡ Some one → IsServed moment (length seen) seen' one
    served_so one is = one_served moment seen seen' taken taken' left left' written written' source sink result one none none' streamed has_faults memory is

    -- no call of it has failed
    next_whole : source ≡ 0 → sink ≡ 0 → HasServedNext moment (length seen) seen' told told' failures failures' faults faults' (Ok ended.Whole)
    next_whole source_is sink_is = (
      one_back told told' (connection_of taken' left' source written' sink) (λ one. IsServed moment (length seen) seen' one × Unfailed one) tells
          (λ one is. (served_so one is, unfailed_one taken' left' source written' sink one is source_is sink_is)),
      same,
      counted_none source sink faults faults' source_is sink_is counts,
    )

    -- one has
    next_failed : Rose 0 source ⊎ Rose 0 sink → HasServedNext moment (length seen) seen' told told' failures failures' faults faults' (Ok ended.Failed)
    next_failed failed =
        (one_back told told' (connection_of taken' left' source written' sink) (IsServed moment (length seen) seen') tells served_so, same, counted_some source sink faults faults' failed counts)

  pub next_as : (result : Result ℕ StreamFault) → HasStreamed moment seen seen' taken taken' left left' written written' result → HasFaults 0 source 0 sink result → HasServedNext moment (length seen) seen' told told' failures failures' faults faults' (ended_as result)
  next_as (Ok count) streamed has_faults = next_whole (Ok count) (λ is. cc) streamed has_faults has_faults.0 has_faults.1
  next_as (Err fault.Source) streamed has_faults = next_failed (Err fault.Source) (λ is. cc) streamed has_faults (inl has_faults.0)
  next_as (Err fault.Sink) streamed has_faults = next_failed (Err fault.Sink) (λ is. cc) streamed has_faults (inr has_faults.1)
  next_as (Err (fault.TooSmall size)) streamed has_faults = next_whole (Err (fault.TooSmall size)) (λ is. cc) streamed has_faults has_faults.0 has_faults.1
  next_as (Err fault.TooLong) streamed has_faults = next_whole (Err fault.TooLong) (λ is. cc) streamed has_faults has_faults.0 has_faults.1
  next_as (Err fault.OutOfMemory) streamed has_faults = tt
