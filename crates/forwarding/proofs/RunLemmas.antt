-- The laws of the table hold of every run of turns.
use Rattle.std.proofs.Common.{◌≡◌, ◌∙◌, ℕ, ◌+◌, ◌<◌, ◌≤◌, inl, inr, List, [], ◌∷◌, ◌++◌, length, take, cond, get_or, refl, sym, ap, subst, arith}
use Rattle.std.specs.Prelude.{◌==◌, nat_lt}
use Rattle.std.specs.List.{All}
use Rattle.std.proofs.lemmas.List.Sums.{sum_by-append, sum_by-cons}
use Rattle.arrivals.specs.declared.came.Came.{Came}
use Rattle.arrivals.specs.declared.came.Came.TheVariants.{Query, Answer, Tick}
use Rattle.arrivals.specs.declared.carrier.Carrier.TheVariants.{Datagram, Stream}
use Rattle.arrivals.specs.declared.moment.Moment.{Moment}
use Rattle.dname.specs.Name.{Label}
use Rattle.denial_records.specs.declared.batch.Batch.{Batch}
use Rattle.waiting_table.specs.Waiting.{Slot, client_of, empty_table}
use Rattle.waiting_table.specs.Steps.{Step, Asked, Answered, AskedByStream, Ticked, after_one, replies_of}
use Rattle.waiting_table.specs.Laws.{AreAskedOnce, IsInTime, asked_by, of_number, waiting_for}
use Rattle.waiting_table.specs.declared.client.Client.{Client}
use Rattle.waiting_table.specs.Laws as tables
use Rattle.waiting_table.proofs.StreamLemmas.{each_by_stream_once}
use Rattle.waiting_table.proofs.OnceLemmas.{all_in_time, length_after, length_empty, none_asked, none_waits_yet, once_after, step_counts}
use Rattle.forwarding.specs.Done.{Done}
use Rattle.forwarding.specs.Turn.{Turn, AreTurns, IsTurn, sends_of}
use Rattle.forwarding.specs.Lawful.{left_by}
use Rattle.forwarding.specs.Laws.{EachIsAskedByStreamOnce, EachQueryIsRepliedToOnce, IsAStepBy, NoneIsAskedTwice, NoneWaitsForLong, Stays, Steps, asker_by, askers_in, asks_of, is_new_in, numbers_of, queries_from, replies_to, streams_since, times_in, told_in}
use Rattle.forwarding.proofs.StepLemmas.{asker_kept, each_turn_steps, kept_query, told_both}

step_of : (passed : List (List Label)) (history : List Batch) (table : List Slot) (turn : Turn) → IsTurn passed history table turn
    → IsAStepBy table turn.event.moment turn.event.octets.items turn.ids turn.event.came turn.done
step_of passed history table turn is = each_turn_steps passed table (take turn.version history) turn.event turn.ids turn.want turn.done is.does

-- ---- what each step keeps

module _ (P : List Slot → Type 0) (each : (step : Step) (table : List Slot) → P table → P (after_one step table)) where
  stays_keep : (table : List Slot) (told : List ℕ) (done : Done) → Stays table told done → P table → P done.table
  stays_keep table told done is = subst P (sym is.table_is)

  steps_keep : (table : List Slot) (step : Step) (done : Done) → Steps table step done → P table → P done.table
  steps_keep table step done is p = subst P (sym is.table_is) (each step table p)

  turn_keeps : (table : List Slot) (moment : Moment) (octets ids : List ℕ) (came : Came) (done : Done) → IsAStepBy table moment octets ids came done → P table → P done.table
  turn_keeps table moment octets ids (Query client carrier) done (inl is) = stays_keep table (asker_by octets (Query client carrier)) done is
  turn_keeps table moment octets ids (Query client carrier) done (inr is) = steps_keep table (Asked moment.millis (get_or ids 0 0) (client_of client carrier is.question)) done is.steps
  turn_keeps table moment octets ids (Answer slot carrier) done (inl is) = stays_keep table [] done is
  turn_keeps table moment octets ids (Answer slot carrier) done (inr (inl is)) = steps_keep table (Answered slot) done is
  turn_keeps table moment octets ids (Answer slot carrier) done (inr (inr is)) = steps_keep table (AskedByStream slot (get_or ids 0 0)) done is
  turn_keeps table moment octets ids Tick done is = steps_keep table (Ticked moment.millis ids) done is

  turns_keep : (passed : List (List Label)) (history : List Batch) (table : List Slot) (turns : List Turn) → AreTurns passed history table turns → P table → P (left_by table turns)
  turns_keep passed history table [] are p = p
  turns_keep passed history table (turn ∷ later) are p =
      turns_keep passed history turn.done.table later are.1
      (turn_keeps table turn.event.moment turn.event.octets.items turn.ids turn.event.came turn.done (step_of passed history table turn are.0) p)

pub none_twice : NoneIsAskedTwice
none_twice passed history turns are = turns_keep AreAskedOnce once_after passed history empty_table turns are none_asked

-- the table has slots
some_after : (step : Step) (table : List Slot) → 0 < length table → 0 < length (after_one step table)
some_after step table some = omega (arith, length_after step table)

-- ---- replied to once

module _ (number : ℕ) where
  times_both : (first more : List ℕ) → times_in number (first ++ more) ≡ times_in number first + times_in number more
  times_both first more = sum_by-append (λ (other : ℕ). cond (other == number) 1 0) first more

  -- numbers count as their clients
  times_numbers : (clients : List Client) → times_in number (numbers_of clients) ≡ of_number number clients
  times_numbers [] = refl
  times_numbers (client ∷ more) =
      sum_by-cons (λ (other : ℕ). cond (other == number) 1 0) client.number (numbers_of more)
      ∙ ap (λ (n : ℕ). cond (client.number == number) 1 0 + n) (times_numbers more)
      ∙ sym (sum_by-cons (λ (other : Client). cond (other.number == number) 1 0) client more)

  -- of the queries that are asked in a turn or waited before it, each is replied to in it or waits after it
  abbrev Counts : List Slot → Done → ℕ → Type 0
  Counts table done queries = replies_to number done.sends + waiting_for number done.table ≡ waiting_for number table + queries

  stays_counts : (table : List Slot) (told : List ℕ) (done : Done) → Stays table told done → Counts table done (times_in number told)
  stays_counts table told done is =
      let replies = ap (times_in number) is.told_are in
      let waiting = ap (waiting_for number) is.table_is in
      omega (arith, replies, waiting)

  steps_counts : (table : List Slot) (step : Step) (done : Done) → 0 < length table → Steps table step done → Counts table done (of_number number (asked_by step))
  steps_counts table step done some is =
      let replies = ap (times_in number) is.told_are ∙ times_numbers (replies_of step table) in
      let waiting = ap (waiting_for number) is.table_is in
      let counts = step_counts number step table some in
      omega (arith, replies, waiting, counts)

  turn_counts : (table : List Slot) (moment : Moment) (octets ids : List ℕ) (came : Came) (done : Done) → 0 < length table → IsAStepBy table moment octets ids came done → Counts table done (times_in number (asker_by octets came))
  turn_counts table moment octets ids (Query client carrier) done some (inl is) = stays_counts table (asker_by octets (Query client carrier)) done is
  turn_counts table moment octets ids (Query client carrier) done some (inr is) =
      subst (λ (l : List ℕ). Counts table done (times_in number l)) (asker_kept octets client carrier (kept_query octets is.question is.read))
      (steps_counts table (Asked moment.millis (get_or ids 0 0) (client_of client carrier is.question)) done some is.steps)
  turn_counts table moment octets ids (Answer slot carrier) done some (inl is) = stays_counts table [] done is
  turn_counts table moment octets ids (Answer slot carrier) done some (inr (inl is)) = steps_counts table (Answered slot) done some is
  turn_counts table moment octets ids (Answer slot carrier) done some (inr (inr is)) = steps_counts table (AskedByStream slot (get_or ids 0 0)) done some is
  turn_counts table moment octets ids Tick done some is = steps_counts table (Ticked moment.millis ids) done some is

  turns_count : (passed : List (List Label)) (history : List Batch) (table : List Slot) (turns : List Turn) → 0 < length table → AreTurns passed history table turns
      → replies_to number (sends_of turns) + waiting_for number (left_by table turns) ≡ waiting_for number table + queries_from number turns
  turns_count passed history table [] some are = omega arith
  turns_count passed history table (turn ∷ later) some are =
      let step = step_of passed history table turn are.0 in
      let event = turn.event in
      let here = turn_counts table event.moment event.octets.items turn.ids event.came turn.done some step in
      let still = turn_keeps (λ (t : List Slot). 0 < length t) some_after table event.moment event.octets.items turn.ids event.came turn.done step some in
      let rest = turns_count passed history turn.done.table later still are.1 in
      let replies = ap (times_in number) (told_both turn.done.sends (sends_of later)) ∙ times_both (told_in turn.done.sends) (told_in (sends_of later)) in
      let queries = times_both (asker_by event.octets.items event.came) (askers_in later) in
      omega (arith, here, rest, replies, queries)

pub each_replied_once : EachQueryIsRepliedToOnce
each_replied_once passed history turns are number =
    let counts = turns_count number passed history empty_table turns (omega (arith, length_empty)) are in
    omega (arith, counts, none_waits_yet number)

-- ---- by a stream once

-- steps by which the slot's question is asked by a stream as often
record AreSteps (slot before often : ℕ) (table : List Slot) : Type 0 where
  pub steps : List Step
  pub same : often ≡ tables.streams_since slot before steps table

module _ (slot before : ℕ) (table : List Slot) where
  -- how often it was asked so after a turn
  abbrev often_after : Came → Done → ℕ
  often_after came done = cond (is_new_in slot came done.sends) 0 (before + asks_of slot Stream done.sends)

  stay_steps : (often now : ℕ) (table' : List Slot) → now ≡ before → table' ≡ table → AreSteps slot now often table' → AreSteps slot before often table
  stay_steps often now table' same stays rest = record {
    steps = rest.steps;
    same = rest.same ∙ (λ i. tables.streams_since slot (same i) rest.steps (stays i));
  }

  more_steps : (often now : ℕ) (table' : List Slot) (step : Step) → now ≡ cond (tables.comes_to slot step table) 0 (before + tables.streams_in slot step table) → table' ≡ after_one step table → AreSteps slot now often table' → AreSteps slot before often table
  more_steps often now table' step same steps rest = record {
    steps = step ∷ rest.steps;
    same = rest.same ∙ (λ i. tables.streams_since slot (same i) rest.steps (steps i));
  }

  turn_steps : (often : ℕ) (moment : Moment) (octets ids : List ℕ) (came : Came) (done : Done) → IsAStepBy table moment octets ids came done → AreSteps slot (often_after came done) often done.table → AreSteps slot before often table
  turn_steps often moment octets ids (Query client carrier) done (inl is) rest =
      let none : before + 0 ≡ before = omega arith in
      stay_steps often (often_after (Query client carrier) done) done.table ((λ i. cond (nat_lt 0 (is.none_asked slot Datagram i)) 0 (before + is.none_asked slot Stream i)) ∙ none) is.table_is rest
  turn_steps often moment octets ids (Query client carrier) done (inr is) rest =
      more_steps often (often_after (Query client carrier) done) done.table (Asked moment.millis (get_or ids 0 0) (client_of client carrier is.question))
      (λ i. cond (is.comes slot i) 0 (before + is.steps.streams_are slot i)) is.steps.table_is rest
  turn_steps often moment octets ids (Answer other carrier) done (inl is) rest =
      let none : before + 0 ≡ before = omega arith in
      stay_steps often (often_after (Answer other carrier) done) done.table (ap (λ (n : ℕ). before + n) (is.none_asked slot Stream) ∙ none) is.table_is rest
  turn_steps often moment octets ids (Answer other carrier) done (inr (inl is)) rest =
      more_steps often (often_after (Answer other carrier) done) done.table (Answered other) (ap (λ (n : ℕ). before + n) (is.streams_are slot)) is.table_is rest
  turn_steps often moment octets ids (Answer other carrier) done (inr (inr is)) rest =
      more_steps often (often_after (Answer other carrier) done) done.table (AskedByStream other (get_or ids 0 0)) (ap (λ (n : ℕ). before + n) (is.streams_are slot)) is.table_is rest
  turn_steps often moment octets ids Tick done is rest =
      more_steps often (often_after Tick done) done.table (Ticked moment.millis ids) (ap (λ (n : ℕ). before + n) (is.streams_are slot)) is.table_is rest

steps_of_turns : (passed : List (List Label)) (history : List Batch) (slot before : ℕ) (table : List Slot) (turns : List Turn) → AreTurns passed history table turns → AreSteps slot before (streams_since slot before turns) table
steps_of_turns passed history slot before table [] are = record { steps = []; same = refl }
steps_of_turns passed history slot before table (turn ∷ later) are =
    let now = often_after slot before table turn.event.came turn.done in
    turn_steps slot before table (streams_since slot now later) turn.event.moment turn.event.octets.items turn.ids turn.event.came turn.done
    (step_of passed history table turn are.0) (steps_of_turns passed history slot now turn.done.table later are.1)

pub each_streamed_once : EachIsAskedByStreamOnce
each_streamed_once passed history turns are slot =
    let run = steps_of_turns passed history slot 0 empty_table turns are in
    let once = each_by_stream_once slot run.steps in
    omega (arith, once, run.same)

-- ---- never for long

tick_in_time : (table : List Slot) (moment : Moment) (octets ids : List ℕ) (came : Came) (done : Done) → came ≡ Tick → IsAStepBy table moment octets ids came done → All (IsInTime moment.millis) done.table
tick_in_time table moment octets ids Tick done came is = subst (All (IsInTime moment.millis)) (sym is.table_is) (all_in_time moment.millis ids table)
tick_in_time table moment octets ids (Query client carrier) done came is = absurd (cc came)
tick_in_time table moment octets ids (Answer slot carrier) done came is = absurd (cc came)

pub none_for_long : NoneWaitsForLong
none_for_long passed history table turn is came =
    tick_in_time table turn.event.moment turn.event.octets.items turn.ids turn.event.came turn.done came (step_of passed history table turn is)
