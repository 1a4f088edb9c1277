-- What a worker has done so far, and how its work ends.
use Rattle.std.proofs.Common.{◌≡◌, ℕ, ◌+◌, ◌≤◌, inl, List, [], ◌∷◌, ◌++◌, length, Option, None, Some, refl, sym, ◌∙◌, ap, subst, arith, append_assoc}
use Rattle.std.specs.Prelude.{IfErr, IfSome, IsErrAnd, Result, Ok, Err}
use Rattle.std.specs.List.{All}
use Rattle.std.proofs.lemmas.Grind.{flat_map-append}
use Rattle.std.proofs.lemmas.List.{append-nil, map-append}
use Rattle.std.proofs.lemmas.List.Elements.{All-nil, All-push}
use mathlib.Core.List.{IsPrefix}
use Rattle.denial_records.specs.declared.batch.Batch.{Batch}
use Rattle.cache_meaning.specs.Held.{Held}
use Rattle.cache_versions.specs.declared.state.State.{Ghosts}
use Rattle.cache_versions.specs.declared.seat.Seat.{Seat}
use Rattle.cache_versions.specs.Kin.{journal_of}
use Rattle.cache_versions.specs.Seats.{kept_by, places_by, seen_by}
use Rattle.cache_versions.proofs.Fronts.{prefix_self, prefix_trans, prefix_length}
use Rattle.serving.specs.Pending.{Slot, empty_table}
use Rattle.outside_core.specs.declared.datagram.Datagram.{Datagram}
use Rattle.outside_core.specs.declared.event.Event.{Event}
use Rattle.serving.specs.declared.deed.Deed.{Deed}
use Rattle.serving.specs.declared.serve_fault.ServeFault.{ServeFault}
use Rattle.serving.specs.declared.serve_fault.ServeFault.TheVariants.{Link, OutOfMemory}
use Rattle.serving.specs.Done.{done_as}
use Rattle.serving.specs.Serves.{DoesServe, IsUnmoved, Serves}
use Rattle.serving.specs.Turn.{Turn, AreTurnsOf, places_of, sent_by}
use Rattle.serving.specs.Rounds.{Round, events_of, turns_in}
use Rattle.serving.specs.Worker.{Ends, HasServed, more_told}
use Rattle.serving.specs.AtWork.{HasDone, HasDoneMore, IsAtWork, WorkerState, left_by, state_of}
use Rattle.serving.proofs.EventLemmas.{datagram_in, received_rounds, told_none}
use Rattle.serving.proofs.TurnLemmas.{left_push, no_turns, places_one_more, turn_of, turns_one_more}

moments_push : (moment : Option ℕ) (turns : List Turn) (turn : Turn) → IfSome moment (λ always. All (λ t. t.now ≡ always) turns) → IfSome moment (λ always. turn.now ≡ always) → IfSome moment (λ always. All (λ t. t.now ≡ always) (turns ++ turn ∷ []))
moments_push None turns turn all one = tt
moments_push (Some always) turns turn all one = All-push (λ t. t.now ≡ always) turns turn all one

moments_none : (moment : Option ℕ) → IfSome moment (λ always. All (λ (t : Turn). t.now ≡ always) [])
moments_none None = tt
moments_none (Some always) = All-nil (λ (t : Turn). t.now ≡ always)

abbrev sent_at : Turn → List Datagram
sent_at turn = sent_by turn.done.deed turn.done.octets

module _ {g : Ghosts Held Batch (Unit {0})} where
  -- ---- turns

  -- nothing was done so far
  none_done : (moment : Option ℕ) (seat : Seat Held Batch (Unit {0}) g) (table : List Slot) → table ≡ empty_table → HasDone moment seat seat table []
  none_done moment seat table left = record {
    moments = moments_none moment;
    begins = prefix_self (seen_by seat);
    placed = [];
    places = sym (append-nil (places_by seat));
    are = no_turns (length (seen_by seat)) (seen_by seat);
    left = left;
  }

  -- one more datagram was done
  one_done : (moment : Option ℕ) (before now after : Seat Held Batch (Unit {0}) g) (table table' : List Slot) (turns : List Turn) (datagram : Datagram) (at_moment : ℕ) (deed : Deed) (octets : List ℕ)
      → IfSome moment (λ always. at_moment ≡ always) → DoesServe at_moment now after table datagram deed octets table' → HasDone moment before now table turns
      → HasDoneMore moment before after table' turns (datagram ∷ []) (sent_by deed octets)
  one_done moment before now after table table' turns datagram at_moment deed octets moment_is does at =
      let begun = left_by empty_table turns in
      let done = done_as deed octets table' does.0 in
      let serves : Serves at_moment now after begun datagram done = subst (λ t. Serves at_moment now after t datagram done) at.left does.1 in
      let turn = turn_of at_moment now after begun datagram done serves in
      record {
        more = turn ∷ [];
        done = record {
          moments = moments_push moment turns turn at.moments moment_is;
          begins = prefix_trans (seen_by before) (seen_by now) (seen_by after) at.begins serves.begins;
          placed = at.placed ++ places_of turn;
          places = places_one_more at_moment now after begun datagram done serves ∙ ap (λ l. l ++ places_of turn) at.places ∙ append_assoc (places_by before) at.placed (places_of turn);
          are = turns_one_more (length (seen_by before)) at_moment now after at.placed turns datagram done (prefix_length (seen_by before) (seen_by now) at.begins) serves at.are;
          left = sym (left_push empty_table turns turn);
        };
        datagrams_are = refl;
        due_is = append-nil (sent_by deed octets);
      }

  -- no datagram was done yet
  pub none_more : (moment : Option ℕ) (before now : Seat Held Batch (Unit {0}) g) (table : List Slot) (turns : List Turn) → HasDone moment before now table turns → HasDoneMore moment before now table turns [] []
  none_more moment before now table turns at = record {
    more = [];
    done = subst (HasDone moment before now table) (sym (append-nil turns)) at;
    datagrams_are = refl;
    due_is = refl;
  }

  -- one datagram was done behind others
  pub one_more_done : (moment : Option ℕ) (before now after : Seat Held Batch (Unit {0}) g) (table table' : List Slot) (turns : List Turn) (datagrams due : List Datagram) (datagram : Datagram) (at_moment : ℕ) (deed : Deed) (octets : List ℕ)
      → IfSome moment (λ always. at_moment ≡ always) → DoesServe at_moment now after table datagram deed octets table' → HasDoneMore moment before now table turns datagrams due
      → HasDoneMore moment before after table' turns (datagrams ++ datagram ∷ []) (due ++ sent_by deed octets)
  one_more_done moment before now after table table' turns datagrams due datagram at_moment deed octets moment_is does so_far =
      let one = one_done moment before now after table table' (turns ++ so_far.more) datagram at_moment deed octets moment_is does so_far.done in
      record {
        more = so_far.more ++ one.more;
        done = subst (HasDone moment before after table') (append_assoc turns so_far.more one.more) one.done;
        datagrams_are = map-append datagram_in so_far.more one.more ∙ (λ i. so_far.datagrams_are i ++ one.datagrams_are i);
        due_is = flat_map-append sent_at so_far.more one.more ∙ (λ i. so_far.due_is i ++ one.due_is i);
      }

  seen_same : (before after : Seat Held Batch (Unit {0}) g) → kept_by after ≡ kept_by before → seen_by after ≡ seen_by before
  seen_same before after same = ap journal_of same

  -- the seat was kept as it was
  pub unmoved_done : (moment : Option ℕ) (before now after : Seat Held Batch (Unit {0}) g) (table : List Slot) (turns : List Turn) → IsUnmoved now after → HasDone moment before now table turns → HasDone moment before after table turns
  unmoved_done moment before now after table turns unmoved at = record {
    moments = at.moments;
    begins = subst (IsPrefix (seen_by before)) (sym (seen_same now after unmoved.0)) at.begins;
    placed = at.placed;
    places = unmoved.1 ∙ at.places;
    are = subst (λ l. AreTurnsOf (length (seen_by before)) l at.placed turns) (sym (seen_same now after unmoved.0)) at.are;
    left = at.left;
  }

  -- ---- rounds

  -- the work begins
  pub none_at_work : (moment : Option ℕ) (seat : Seat Held Batch (Unit {0}) g) (table : List Slot) (events : Option (List Event)) → table ≡ empty_table → IsAtWork 0 moment (state_of seat empty_table events) (state_of seat table events)
  none_at_work moment seat table events left = record {
    fresh = refl;
    rounds = [];
    many = refl;
    done = none_done moment seat table left;
    events_are = told_none events;
  }

  -- ---- how it ends

  pub served_by : (datagrams : ℕ) (moment : Option ℕ) (before after : WorkerState g) (rounds : List Round) (lost : List Datagram) (went : List Event) (result : Result (Unit {0}) ServeFault)
      → HasDone moment before.seat after.seat after.table (turns_in rounds) → after.events ≡ more_told before.events went → Ends datagrams rounds lost went result
      → HasServed datagrams moment before.seat after.seat before.events after.events result
  served_by datagrams moment before after rounds lost went result done events_are ends = record {
    rounds = rounds;
    moments = done.moments;
    begins = done.begins;
    placed = done.placed;
    places = done.places;
    are = done.are;
    lost = lost;
    went = went;
    events_are = events_are;
    ends = ends;
  }

  -- no datagram came
  pub stopped_before : (datagrams n : ℕ) (moment : Option ℕ) (before state : WorkerState g) (events : Option (List Event))
      → n + 1 ≤ datagrams → events ≡ state.events → IsAtWork n moment before state → HasServed datagrams moment before.seat state.seat before.events events (Err Link)
  stopped_before datagrams n moment before state events fewer same at =
      let whole = events_of at.rounds in
      served_by datagrams moment before (state_of state.seat state.table events) at.rounds [] whole (Err Link) at.done (same ∙ at.events_are)
      (omega (arith, fewer, at.many), refl, ([], append-nil whole), received_rounds at.rounds, inl (omega (arith, fewer, at.many)))

  -- there was no memory for the workspace
  pub never_began : (datagrams : ℕ) (moment : Option ℕ) (seat : Seat Held Batch (Unit {0}) g) (events : Option (List Event)) → HasServed datagrams moment seat seat events events (Err OutOfMemory)
  never_began datagrams moment seat events =
      let state = state_of seat empty_table events in
      served_by datagrams moment state state [] [] [] (Err OutOfMemory) (none_done moment seat empty_table refl) (told_none events) (omega arith, omega arith, refl)

-- what an error says
pub if_err : {T E : Type 0} (Q P : E → Type 0) (r : Result T E) → IsErrAnd r Q → ((e : E) → Q e → P e) → IfErr r P
if_err Q P (Ok x) is f = absurd is
if_err Q P (Err e) is f = f e is
