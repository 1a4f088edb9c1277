-- The turns of a worker, one after the other, and what may be sent of them.
use Rattle.std.proofs.Common.{◌≡◌, ◌∙◌, ℕ, ◌+◌, ◌-◌, ◌<◌, Bool, true, false, List, [], ◌∷◌, ◌++◌, length, map, take, drop, get_or, Option, None, Some, refl, sym, ap, subst, arith, append_assoc}
use Rattle.std.specs.Prelude.{IfSome}
use Rattle.std.specs.List.{All, flat_map}
use Rattle.std.proofs.lemmas.Grind.{flat_map-append}
use Rattle.std.proofs.lemmas.List.Sums.{fold-append}
use Rattle.std.proofs.lemmas.List.{append-nil, drop_more, map-append, take_all}
use Rattle.facts.proofs.Prefixes.{take_prefix}
use mathlib.Core.List.{IsPrefix}
use Rattle.arrivals.specs.declared.event.Event.{Event}
use Rattle.counters.specs.Counts.{Tally, counted, no_counts, with_tally}
use Rattle.dname.specs.Name.{Label}
use Rattle.denial_records.specs.declared.batch.Batch.{Batch}
use Rattle.cache_versions.proofs.Fronts.{prefix_get, prefix_length}
use Rattle.cache_meaning.specs.Held.{Held, held_of}
use Rattle.dnswire.specs.declared.question.Question.{Question}
use Rattle.resolver.specs.SoundWalk.{IsSoundWalk}
use Rattle.resolver.specs.Walk.{Walk, walk_for}
use Rattle.resolver.specs.WalkReply.{walk_in}
use Rattle.resolver.specs.declared.rule.Rule.{Rule}
use Rattle.resolver.specs.declared.rule.Rule.TheVariants.{Both}
use Rattle.waiting_table.specs.Waiting.{Slot, empty_table}
use Rattle.forwarding.specs.Done.{Done, IsDone}
use Rattle.forwarding.specs.Turn.{Turn, AreTurns, IsKeptAt, IsSoundDone, IsTurn, sends_of}
use Rattle.forwarding.specs.declared.want.Want.{Want}
use Rattle.forwarding.specs.Lawful.{EachTurnIsLawful, HasCome, HasServed, IsAtWork, IsCalled, IsLawful, IsNew, MaySend, MaySendAll, Told, counts_of, left_by, more_received, more_sent}
use Rattle.forwarding.specs.declared.sent.Sent.{Sent}

-- ---- more batches

kept_more : (seen history : List Batch) (version : ℕ) (batch : Option Batch) (placed : Bool) → IsPrefix seen history → IsKeptAt seen version batch placed → IsKeptAt history version batch placed
kept_more seen history version None placed begins kept = kept
kept_more seen history version (Some batch) true begins kept = (kept.0, prefix_get seen history (version - 1) batch begins kept.1)
kept_more seen history version (Some batch) false begins kept = kept

turn_more : (passed : List (List Label)) (seen history : List Batch) (table : List Slot) (turn : Turn) → IsPrefix seen history → IsTurn passed seen table turn → IsTurn passed history table turn
turn_more passed seen history table turn begins is =
    let same = take_prefix seen history turn.version begins is.within in
    record {
      within = omega (arith, is.within, prefix_length seen history begins);
      drawn = is.drawn;
      does = subst (λ l. IsDone passed table l turn.event turn.ids turn.want turn.done) same is.does;
      sound = subst (λ l. IsSoundDone l turn.event) same is.sound;
      kept = kept_more seen history turn.version turn.done.batch turn.placed begins is.kept;
    }

turns_more : (passed : List (List Label)) (seen history : List Batch) (table : List Slot) (turns : List Turn) → IsPrefix seen history → AreTurns passed seen table turns → AreTurns passed history table turns
turns_more passed seen history table [] begins are = tt
turns_more passed seen history table (turn ∷ later) begins are = (turn_more passed seen history table turn begins are.0, turns_more passed seen history turn.done.table later begins are.1)

-- ---- one more turn

left_push : (table : List Slot) (turns : List Turn) (turn : Turn) → left_by table (turns ++ turn ∷ []) ≡ turn.done.table
left_push table [] turn = refl
left_push table (first ∷ later) turn = left_push first.done.table later turn

turns_push : (passed : List (List Label)) (history : List Batch) (table : List Slot) (turns : List Turn) (turn : Turn) → AreTurns passed history table turns → IsTurn passed history (left_by table turns) turn → AreTurns passed history table (turns ++ turn ∷ [])
turns_push passed history table [] turn are is = (is, tt)
turns_push passed history table (first ∷ later) turn are is = (are.0, turns_push passed history first.done.table later turn are.1 is)

events_push : (turns : List Turn) (turn : Turn) → map (λ (t : Turn). t.event) (turns ++ turn ∷ []) ≡ map (λ t. t.event) turns ++ turn.event ∷ []
events_push turns turn = map-append (λ (t : Turn). t.event) turns (turn ∷ [])

sends_push : (turns : List Turn) (turn : Turn) → sends_of (turns ++ turn ∷ []) ≡ sends_of turns ++ turn.done.sends
sends_push turns turn = flat_map-append (λ (t : Turn). t.done.sends) turns (turn ∷ []) ∙ ap (λ l. sends_of turns ++ l) (append-nil turn.done.sends)

counts_push : (turns : List Turn) (turn : Turn) → counts_of (turns ++ turn ∷ []) ≡ counted turn.done.tallies (counts_of turns)
counts_push turns turn =
    let all = flat_map (λ (t : Turn). t.done.tallies) turns in
    ap (λ (l : List Tally). counted l no_counts) (flat_map-append (λ (t : Turn). t.done.tallies) turns (turn ∷ []) ∙ ap (λ (l : List Tally). all ++ l) (append-nil turn.done.tallies))
    ∙ fold-append with_tally no_counts all turn.done.tallies

-- ---- what is told

abbrev with_sent : Told → List Sent → Told
with_sent t sent = record t { sent = sent }

pub sent_none : (told : Option Told) → more_sent told [] ≡ told
sent_none None = refl
sent_none (Some t) = ap (λ (l : List Sent). Some (with_sent t l)) (append-nil t.sent)

pub sent_both : (told : Option Told) (first more : List Sent) → more_sent (more_sent told first) more ≡ more_sent told (first ++ more)
sent_both None first more = refl
sent_both (Some t) first more = ap (λ (l : List Sent). Some (with_sent t l)) (append_assoc t.sent first more)

module _ (passed : List (List Label)) where
  -- ---- what may be sent

  -- the first of what may be sent
  pub may_send : (history : List Batch) (told : Option Told) (one : Sent) (more : List Sent) → MaySendAll passed history told (one ∷ more) → MaySend passed history told one
  may_send history None one more may = tt
  may_send history (Some t) one more may = record {
    passes_are = may.passes_are;
    turns = may.turns;
    events_are = may.events_are;
    are = may.are;
    begins = (more ++ may.begins.0, sym (append_assoc (t.sent ++ one ∷ []) more may.begins.0) ∙ ap (λ (l : List Sent). l ++ may.begins.0) (append_assoc t.sent (one ∷ []) more) ∙ may.begins.1);
  }

  -- the front of what may be sent
  pub may_front : (history : List Batch) (told : Option Told) (first more : List Sent) → MaySendAll passed history told (first ++ more) → MaySendAll passed history told first
  may_front history None first more may = tt
  may_front history (Some t) first more may = record {
    passes_are = may.passes_are;
    turns = may.turns;
    events_are = may.events_are;
    are = may.are;
    begins = (more ++ may.begins.0, sym (append_assoc (t.sent ++ first) more may.begins.0) ∙ ap (λ (l : List Sent). l ++ may.begins.0) (append_assoc t.sent first more) ∙ may.begins.1);
  }

  -- the rest of what may be sent, once the front was
  pub may_rest : (history : List Batch) (told told' : Option Told) (first more : List Sent) → MaySendAll passed history told (first ++ more) → told' ≡ more_sent told first → MaySendAll passed history told' more
  may_rest history told told' first more may is =
      subst (λ (t : Option Told). IfSome t (IsLawful passed history)) (sym (ap (λ (t : Option Told). more_sent t more) is ∙ sent_both told first more)) may

  -- ---- an event

  -- nothing has come yet
  pub begun : (history : List Batch) (table : List Slot) (counts : List ℕ) (told : Option Told) → table ≡ empty_table → counts ≡ no_counts → IsNew passed told → IsAtWork passed history table counts told
  begun history table counts None empty zero none = tt
  begun history table counts (Some t) empty zero new = record {
    passes_are = ap (λ (u : Told). u.passes) new;
    turns = [];
    events_are = ap (λ (u : Told). u.received) new;
    are = tt;
    sent_are = ap (λ (u : Told). u.sent) new;
    left = empty;
    counts_are = zero;
  }

  -- an event comes to a worker
  pub called : (history : List Batch) (table : List Slot) (counts : List ℕ) (event : Event) (told told' : Option Told) → IsAtWork passed history table counts told → told' ≡ more_received told event → IsCalled passed history table counts event told'
  called history table counts event None told' work is = subst (λ (t : Option Told). IsCalled passed history table counts event t) (sym is) tt
  called history table counts event (Some t) told' work is = subst (λ (u : Option Told). IsCalled passed history table counts event u) (sym is) (record { before = t; served = work; told_is = refl })

  served_more : (seen history : List Batch) (table : List Slot) (counts : List ℕ) (told : Told) → IsPrefix seen history → HasServed passed seen table counts told → HasServed passed history table counts told
  served_more seen history table counts told begins served = record {
    passes_are = served.passes_are;
    turns = served.turns;
    events_are = served.events_are;
    are = turns_more passed seen history empty_table served.turns begins served.are;
    sent_are = served.sent_are;
    left = served.left;
    counts_are = served.counts_are;
  }

  -- the same of an equal table and equal counts
  pub at_work : (history : List Batch) (table table' : List Slot) (counts counts' : List ℕ) (told : Option Told) → table' ≡ table → counts' ≡ counts → IsAtWork passed history table counts told → IsAtWork passed history table' counts' told
  at_work history table table' counts counts' told same same' work = subst (λ (t : List Slot). IsAtWork passed history t counts' told) (sym same) (subst (λ (c : List ℕ). IsAtWork passed history table c told) (sym same') work)

  -- what was called for by some of the history is by all of it
  pub called_more : (seen history : List Batch) (table : List Slot) (counts : List ℕ) (event : Event) (told : Option Told) → IsPrefix seen history → IsCalled passed seen table counts event told → IsCalled passed history table counts event told
  called_more seen history table counts event None begins come = tt
  called_more seen history table counts event (Some t) begins come = record { before = come.before; served = served_more seen history table counts come.before begins come.served; told_is = come.told_is }

  module _ (history : List Batch) (table : List Slot) (counts : List ℕ) (event : Event) (turn : Turn) (same : turn.event ≡ event) (is : IsTurn passed history table turn) where
    events_more : (t : Told) (come : HasCome passed history table counts event t) → t.received ≡ map (λ (u : Turn). u.event) (come.served.turns ++ turn ∷ [])
    events_more t come =
        ap (λ (u : Told). u.received) come.told_is ∙ ap (λ (l : List Event). l ++ event ∷ []) come.served.events_are
        ∙ ap (λ (e : Event). map (λ (u : Turn). u.event) come.served.turns ++ e ∷ []) (sym same) ∙ sym (events_push come.served.turns turn)

    are_more : (t : Told) (come : HasCome passed history table counts event t) → AreTurns passed history empty_table (come.served.turns ++ turn ∷ [])
    are_more t come = turns_push passed history empty_table come.served.turns turn come.served.are (subst (λ (l : List Slot). IsTurn passed history l turn) come.served.left is)

    sends_more : (t : Told) (come : HasCome passed history table counts event t) → t.sent ++ turn.done.sends ≡ sends_of (come.served.turns ++ turn ∷ [])
    sends_more t come = ap (λ (l : List Sent). l ++ turn.done.sends) (ap (λ (u : Told). u.sent) come.told_is ∙ come.served.sent_are) ∙ sym (sends_push come.served.turns turn)

    passes_same : (t : Told) (come : HasCome passed history table counts event t) → t.passes ≡ passed
    passes_same t come = ap (λ (u : Told). u.passes) come.told_is ∙ come.served.passes_are

    -- all that the event's turn sends may be sent
    lawful_turn : (told : Option Told) → IsCalled passed history table counts event told → MaySendAll passed history told turn.done.sends
    lawful_turn None come = tt
    lawful_turn (Some t) come = record {
      passes_are = passes_same t come;
      turns = come.served.turns ++ turn ∷ [];
      events_are = events_more t come;
      are = are_more t come;
      begins = ([], append-nil (t.sent ++ turn.done.sends) ∙ sends_more t come);
    }

    -- once it was, and was counted, the worker has served
    worked : (told told' : Option Told) → IsCalled passed history table counts event told → told' ≡ more_sent told turn.done.sends → IsAtWork passed history turn.done.table (counted turn.done.tallies counts) told'
    worked None told' come sent = subst (λ (u : Option Told). IsAtWork passed history turn.done.table (counted turn.done.tallies counts) u) (sym sent) tt
    worked (Some t) told' come sent = subst (λ (u : Option Told). IsAtWork passed history turn.done.table (counted turn.done.tallies counts) u) (sym sent) (record {
      passes_are = passes_same t come;
      turns = come.served.turns ++ turn ∷ [];
      events_are = events_more t come;
      are = are_more t come;
      sent_are = sends_more t come;
      left = sym (left_push empty_table come.served.turns turn);
      counts_are = ap (counted turn.done.tallies) come.served.counts_are ∙ sym (counts_push come.served.turns turn);
    })

-- ---- a turn

abbrev EachWalkIsSound : Type 0
EachWalkIsSound = (rule : Rule) (held : Held) (now : ℕ) (name : List Label) (qtype qclass : ℕ) (walk : Walk) → walk_for rule held now name qtype qclass ≡ Some walk → IsSoundWalk qtype name walk

sound_if : (each : EachWalkIsSound) (seen : List Batch) (question : Question) (now : ℕ) (found : Option Walk) → walk_in Both (held_of seen) question now ≡ found → IfSome found (IsSoundWalk question.qtype question.name)
sound_if each seen question now None is = tt
sound_if each seen question now (Some walk) is = each Both (held_of seen) now question.name question.qtype question.qclass walk is

turn_is : EachWalkIsSound → (passed : List (List Label)) (history : List Batch) (table : List Slot) (event : Event) (ids : List ℕ) (want : Want) (done : Done) (placed : Bool)
    → IsDone passed table history event ids want done → All (λ id. id < 65536) ids → IsKeptAt history (length history) done.batch placed
    → IsTurn passed history table (record { event = event; version = length history; ids = ids; want = want; done = done; placed = placed })
turn_is each passed history table event ids want done placed does drawn kept =
    let whole = sym (take_all (length history) history (omega arith)) in
    record {
      within = omega arith;
      drawn = drawn;
      does = subst (λ (l : List Batch). IsDone passed table l event ids want done) whole does;
      sound = λ question read. sound_if each (take (length history) history) question event.moment.seconds (walk_in Both (held_of (take (length history) history)) question event.moment.seconds) refl;
      kept = kept;
    }

pub each_turn_lawful : EachWalkIsSound → EachTurnIsLawful
each_turn_lawful each passed history table counts event ids want done placed told told' come does drawn kept =
    let turn : Turn = record { event = event; version = length history; ids = ids; want = want; done = done; placed = placed } in
    let is = turn_is each passed history table event ids want done placed does drawn kept in (
      lawful_turn passed history table counts event turn refl is told come,
      (λ sent. worked passed history table counts event turn refl is told told' come sent),
    )

-- ---- one after the other

-- what is left to send begins with the one that is next
pub next_left : {X : Type 0} (f : X → Sent) (xs : List X) (i : ℕ) (x : X) → i < length xs → x ≡ get_or xs i x → map f (drop i xs) ≡ f x ∷ map f (drop (i + 1) xs)
next_left f xs i x within is = ap (map f) (drop_more xs i x within) ∙ ap (λ y. f y ∷ map f (drop (i + 1) xs)) (sym is)

-- what is left gives the whole, also when one more was sent
pub whole_next : (told before after : Option Told) (one : Sent) (rest left all : List Sent) → rest ≡ one ∷ left → more_sent before rest ≡ more_sent told all → after ≡ more_sent before (one ∷ []) → more_sent after left ≡ more_sent told all
whole_next told before after one rest left all is whole sent =
    ap (λ (t : Option Told). more_sent t left) sent ∙ sent_both before (one ∷ []) left ∙ ap (more_sent before) (sym is) ∙ whole

-- and so it may be sent
pub may_next : (passed : List (List Label)) (history : List Batch) (told before : Option Told) (one : Sent) (rest left all : List Sent) → rest ≡ one ∷ left → more_sent before rest ≡ more_sent told all → MaySendAll passed history told all → MaySend passed history before one
may_next passed history told before one rest left all is whole may =
    may_send passed history before one left (subst (λ (t : Option Told). IfSome t (IsLawful passed history)) (sym whole ∙ ap (more_sent before) is) may)

-- the same of several at a time
pub whole_nexts : (told before after : Option Told) (first rest left all : List Sent) → rest ≡ first ++ left → more_sent before rest ≡ more_sent told all → after ≡ more_sent before first → more_sent after left ≡ more_sent told all
whole_nexts told before after first rest left all is whole sent =
    ap (λ (t : Option Told). more_sent t left) sent ∙ sent_both before first left ∙ ap (more_sent before) (sym is) ∙ whole

pub may_nexts : (passed : List (List Label)) (history : List Batch) (told before : Option Told) (first rest left all : List Sent) → rest ≡ first ++ left → more_sent before rest ≡ more_sent told all → MaySendAll passed history told all → MaySendAll passed history before first
may_nexts passed history told before first rest left all is whole may =
    may_front passed history before first left (subst (λ (t : Option Told). IfSome t (IsLawful passed history)) (sym whole ∙ ap (more_sent before) is) may)
