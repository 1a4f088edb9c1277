-- How many messages of a client were taken and have no reply, and what stands first in what came.
use Rattle.std.proofs.Common.{◌≡◌, ◌∙◌, ℕ, ◌+◌, ◌≤◌, ⊎_elim, Bool, true, false, cond, List, [], ◌∷◌, ◌++◌, length, take, drop, refl, ap, sym, subst, arith, append_assoc, length-append, Option, Some, None}
use Rattle.std.specs.Prelude.{◌==◌, option_and_then}
use Rattle.std.specs.List.{position}
use Rattle.std.proofs.Math.Seq.{take-append_seam}
use Rattle.std.proofs.lemmas.List.{drop_at}
use Rattle.std.proofs.lemmas.List.Quantifiers.{position-Some}
use Rattle.byteorder.specs.Endian.{big_bytes, big_number}
use Rattle.byteorder.specs.Numbers.{big_number-reads_back}
use Rattle.stream_front.specs.Split.{IsFramed, framed}
use Rattle.stream_clients.specs.Number.{Client}
use Rattle.stream_clients.specs.Connection.{Change, Connection, IsWhole, behind_in, closed, fresh, message_in, passed, replied, unreplied, with_octets, written}
use Rattle.stream_clients.specs.Places.{Place, begun, begun_at, changed, connection_in, connection_of, is_free, no_connections, place_at, unused}
use Rattle.stream_clients.specs.Steps.{Step, Opened, Took, Passed, Replied, Unreplied, Written, Closed, after_one, answer_by, if_client, if_open, message_by, messages_of}
use Rattle.stream_clients.specs.Laws.{AWholeMessageIsNext, FewAreUnanswered, after, over}
use Rattle.stream_clients.proofs.MessageLemmas.{few_for_all}
use Rattle.stream_clients.proofs.PlaceLemmas.{of_changed, of_changed_other, set_place}
use Rattle.stream_clients.proofs.RunLemmas.{cases_client, gone_run, open_is_spent, spent_after}
use Rattle.stream_clients.proofs.TellLemmas.{is_itself, is_no_other, none_in_free, none_open, nothing_for}

-- ---- what stands first

size_read : (message behind : List ℕ) → IsFramed message → big_number 2 (framed message ++ behind) ≡ length message
size_read message behind fits = ap (big_number 2) (append_assoc (big_bytes 2 (length message)) message behind) ∙ big_number-reads_back 2 (length message) (message ++ behind) fits.fits

message_first : (message behind : List ℕ) → IsFramed message → message_in (framed message ++ behind) ≡ message
message_first message behind fits =
    ap (λ (n : ℕ). take n (message ++ behind)) (size_read message behind fits) ∙ take-append_seam message behind

behind_first : (message behind : List ℕ) → IsFramed message → behind_in (framed message ++ behind) ≡ behind
behind_first message behind fits =
    ap (λ (n : ℕ). drop (2 + n) (framed message ++ behind)) (size_read message behind fits) ∙ drop_at (framed message) behind (2 + length message) (omega arith)

whole_first : (octets message behind : List ℕ) → octets ≡ framed message ++ behind → IsFramed message → IsWhole octets × (message_in octets ≡ message)
whole_first octets message behind stands fits =
    let first = ap message_in stands ∙ message_first message behind fits in
    let rest = ap behind_in stands ∙ behind_first message behind fits in
    (record { written = stands ∙ sym (λ i. framed (first i) ++ rest i); each = subst IsFramed (sym first) fits }, first)

pub whole_is_next : AWholeMessageIsNext
whole_is_next client places c message behind still stands fits few =
    let whole = whole_first c.left message behind stands fits in
    let taken = ap messages_of still ∙ ap (λ (m : List ℕ). m ∷ []) whole.1 in
    (rw still (whole.0, few), rw (is_itself client) taken)

-- ---- what a call does to how many have no reply

-- none where there is no connection
abbrev waiting_in : Option Connection → ℕ
waiting_in None = 0
waiting_in (Some c) = c.unanswered

-- So many are taken and so many answered: none of a connection that is open neither before nor after, and of one that is open after all
-- that were taken are answered or wait. As many as that, unless more are answered than there were
abbrev IsCounted : Option Connection → Option Connection → ℕ → ℕ → Type 0
IsCounted before None taken answered = before ≡ None → (taken ≡ 0) × (answered ≡ 0)
IsCounted before (Some c) taken answered =
    (waiting_in before + taken ≤ c.unanswered + answered)
    × (answered ≤ waiting_in before + taken → waiting_in before + taken ≡ c.unanswered + answered)

untouched : (connection : Option Connection) → IsCounted connection connection 0 0
untouched None = λ e. (refl, refl)
untouched (Some c) = (omega arith, λ h. refl)

own_took : (octets : List ℕ) (connection : Option Connection) → IsCounted connection (option_and_then (with_octets octets) connection) 0 0
own_took octets None = λ e. (refl, refl)
own_took octets (Some c) = (omega arith, λ h. refl)

own_passed : (connection : Option Connection) → IsCounted connection (option_and_then passed connection) (length (messages_of connection)) 0
own_passed None = λ e. (refl, refl)
own_passed (Some c) = (omega arith, λ h. omega arith)

own_answered : (now : ℕ) (connection : Option Connection) (change : Change) → ((c : Connection) → IsCounted (Some c) (change c) 0 1) → IsCounted connection (option_and_then change connection) 0 (length (if_open connection (now ∷ [])))
own_answered now None change counts = λ e. (refl, refl)
own_answered now (Some c) change counts = counts c

own_written : (count now : ℕ) (connection : Option Connection) → IsCounted connection (option_and_then (written count now) connection) 0 0
own_written count now None = λ e. (refl, refl)
own_written count now (Some c) = by (count == 0)
  where
    by : (b : Bool) → IsCounted (Some c) (cond b (Some c) (Some (record c { output = drop count c.output; since = now }))) 0 0
    by true = (omega arith, λ h. refl)
    by false = (omega arith, λ h. refl)

own_closed : (connection : Option Connection) → IsCounted connection (option_and_then closed connection) 0 0
own_closed None = λ e. (refl, refl)
own_closed (Some c) = λ e. absurd (cc e)

-- ---- any call

-- tells of its own client what it does to the connection, and of others nothing
by_change : {X : Type 0} (client other : Client) (change : Change) (places : List Place) (taken : List X) (answered : List ℕ) → IsCounted (connection_of client places) (option_and_then change (connection_of client places)) (length taken) (length answered)
    → IsCounted (connection_of client places) (connection_of client (changed other change places)) (length (if_client other client taken)) (length (if_client other client answered))
by_change client other change places taken answered own = ⊎_elim
    (λ (e : other ≡ client). subst (λ (o : Client). IsCounted (connection_of client places) (connection_of client (changed o change places)) (length (if_client o client taken)) (length (if_client o client answered))) (sym e) mine)
    others
    (cases_client other client)
  where
    mine : IsCounted (connection_of client places) (connection_of client (changed client change places)) (length (if_client client client taken)) (length (if_client client client answered))
    mine = rw (of_changed client change places, is_itself client) own

    others : (other ≡ client → ⊥) → IsCounted (connection_of client places) (connection_of client (changed other change places)) (length (if_client other client taken)) (length (if_client other client answered))
    others ne = rw (of_changed_other other client change places ne, is_no_other other client ne) (untouched (connection_of client places))

by_taking : {X : Type 0} (client other : Client) (change : Change) (places : List Place) (taken : List X) → IsCounted (connection_of client places) (option_and_then change (connection_of client places)) (length taken) 0
    → IsCounted (connection_of client places) (connection_of client (changed other change places)) (length (if_client other client taken)) 0
by_taking client other change places taken own =
    subst (λ (none : List ℕ). IsCounted (connection_of client places) (connection_of client (changed other change places)) (length (if_client other client taken)) (length none)) (nothing_for other client)
    (by_change client other change places taken [] own)

by_answering : (client other : Client) (change : Change) (places : List Place) (answered : List ℕ) → IsCounted (connection_of client places) (option_and_then change (connection_of client places)) 0 (length answered)
    → IsCounted (connection_of client places) (connection_of client (changed other change places)) 0 (length (if_client other client answered))
by_answering client other change places answered own =
    subst (λ (none : List ℕ). IsCounted (connection_of client places) (connection_of client (changed other change places)) (length none) (length (if_client other client answered))) (nothing_for other client)
    (by_change client other change places [] answered own)

by_quiet : (client other : Client) (change : Change) (places : List Place) → IsCounted (connection_of client places) (option_and_then change (connection_of client places)) 0 0
    → IsCounted (connection_of client places) (connection_of client (changed other change places)) 0 0
by_quiet client other change places own =
    subst (λ (none : List ℕ). IsCounted (connection_of client places) (connection_of client (changed other change places)) 0 (length none)) (nothing_for other client)
    (by_answering client other change places [] own)

begins : (generation now : ℕ) (place : Place) (before : Option Connection) → before ≡ None → IsCounted before (connection_in generation (begun now place)) 0 0
begins generation now place before none = subst (λ (old : Option Connection). IsCounted old (connection_in generation (begun now place)) 0 0) (sym none) (by (place.generation + 1 == generation))
  where
    by : (b : Bool) → IsCounted None (cond b (Some (fresh now)) None) 0 0
    by true = (omega arith, λ h. refl)
    by false = λ e. (refl, refl)

by_begun : (client : Client) (now : ℕ) (free : Option ℕ) (places : List Place) → position is_free places ≡ free → IsCounted (connection_of client places) (connection_of client (begun_at now free places)) 0 0
by_begun client now None places is = untouched (connection_of client places)
by_begun client now (Some k) places is = ⊎_elim
    (λ at. rw at.2 (begins client.generation now (place_at places k) (connection_of client places) (none_here at.0)))
    (λ same. rw same (untouched (connection_of client places)))
    (set_place places k (begun now (place_at places k)) client.place)
  where
    none_here : client.place ≡ k → connection_of client places ≡ None
    none_here e =
        ap (λ (i : ℕ). connection_in client.generation (place_at places i)) e
        ∙ none_in_free client.generation (place_at places k) (position-Some is_free places k unused is).1

counted : (client : Client) (step : Step) (places : List Place) → IsCounted (connection_of client places) (connection_of client (after_one step places)) (length (message_by client step places)) (length (answer_by client step places))
counted client (Opened now) places = by_begun client now (position is_free places) places refl
counted client (Took other octets) places = by_quiet client other (with_octets octets) places (own_took octets (connection_of client places))
counted client (Passed other) places = by_taking client other passed places (messages_of (connection_of client places)) (own_passed (connection_of client places))
counted client (Replied other octets now) places =
    by_answering client other (replied octets now) places (if_open (connection_of client places) (now ∷ []))
    (own_answered now (connection_of client places) (replied octets now) (λ c. (omega arith, λ h. omega (arith, h))))
counted client (Unreplied other now) places =
    by_answering client other (unreplied now) places (if_open (connection_of client places) (now ∷ []))
    (own_answered now (connection_of client places) (unreplied now) (λ c. (omega arith, λ h. omega (arith, h))))
counted client (Written other count now) places = by_quiet client other (written count now) places (own_written count now (connection_of client places))
counted client (Closed other) places = by_quiet client other closed places (own_closed (connection_of client places))

-- ---- a run

abbrev taken_along : Client → List Step → List Place → ℕ
taken_along client steps places = length (over (message_by client) steps places)

abbrev answered_along : Client → List Step → List Place → ℕ
answered_along client steps places = length (over (answer_by client) steps places)

-- at no moment of the run were more answered than waited at first and were taken
abbrev NoneBefore : Client → ℕ → List Step → List Place → Type 0
NoneBefore client waiting steps places =
    (before later : List Step) → before ++ later ≡ steps → answered_along client before places ≤ waiting + taken_along client before places

record IsCountedAlong (client : Client) (steps : List Step) (places : List Place) (waiting left : ℕ) : Type 0 where
  pub most : waiting + taken_along client steps places ≤ left + answered_along client steps places
  pub all : NoneBefore client waiting steps places → waiting + taken_along client steps places ≡ left + answered_along client steps places

-- a call, from an open connection or from none, and then the rest of a run
one_more : (client : Client) (step : Step) (more : List Step) (places : List Place) (waiting between left : ℕ)
    → waiting + length (message_by client step places) ≤ between + length (answer_by client step places)
    → (length (answer_by client step places) ≤ waiting + length (message_by client step places) → waiting + length (message_by client step places) ≡ between + length (answer_by client step places))
    → IsCountedAlong client more (after_one step places) between left → IsCountedAlong client (step ∷ more) places waiting left
one_more client step more places waiting between left most all later =
    let taken = length-append (message_by client step places) (over (message_by client) more (after_one step places)) in
    let answered = length-append (answer_by client step places) (over (answer_by client) more (after_one step places)) in
    record {
      most = omega (arith, taken, answered, most, later.most);
      all = λ none.
          let first = none (step ∷ []) more refl in
          let first_taken = length-append (message_by client step places) [] in
          let first_answered = length-append (answer_by client step places) [] in
          let same = all (omega (arith, first, first_taken, first_answered)) in
          let rest = later.all (λ before last e.
          let so_far = none (step ∷ before) last (ap (λ (l : List Step). step ∷ l) e) in
          let so_taken = length-append (message_by client step places) (over (message_by client) before (after_one step places)) in
          let so_answered = length-append (answer_by client step places) (over (answer_by client) before (after_one step places)) in
          omega (arith, so_far, so_taken, so_answered, same)) in
          omega (arith, taken, answered, same, rest);
    }

run_counted : (client : Client) (steps : List Step) (places : List Place) (c : Connection) → connection_of client (after steps places) ≡ Some c → IsCountedAlong client steps places (waiting_in (connection_of client places)) c.unanswered
run_counted client [] places c still =
    let same = ap waiting_in still in
    record { most = omega (arith, same); all = λ none. omega (arith, same) }
run_counted client (step ∷ more) places c still =
    by (connection_of client places) (connection_of client (after_one step places)) refl refl (counted client step places) (run_counted client more (after_one step places) c still)
  where
    by : (before between : Option Connection) → connection_of client places ≡ before → connection_of client (after_one step places) ≡ between
        → IsCounted before between (length (message_by client step places)) (length (answer_by client step places))
        → IsCountedAlong client more (after_one step places) (waiting_in between) c.unanswered
        → IsCountedAlong client (step ∷ more) places (waiting_in before) c.unanswered
    by before (Some b) is is' counts later = one_more client step more places (waiting_in before) b.unanswered c.unanswered counts.0 counts.1 later
    by None None is is' counts later =
        let none = counts refl in
        one_more client step more places 0 0 c.unanswered (omega (arith, none.0, none.1)) (λ h. omega (arith, none.0, none.1)) later
    by (Some b) None is is' counts later =
        let spent = spent_after client step places (open_is_spent client places b is) in
        absurd (cc (sym (gone_run client more (after_one step places) spent is') ∙ still))

pub few_are_unanswered : FewAreUnanswered
few_are_unanswered steps client c there still =
    let counts = run_counted client steps no_connections c still in
    let start = ap waiting_in (none_open client) in (
      few_for_all steps client c there still,
      omega (arith, counts.most, start),
      λ none.
          let all = counts.all (λ before later e. let h = none before later e in omega (arith, h, start)) in
          omega (arith, all, start),
    )
