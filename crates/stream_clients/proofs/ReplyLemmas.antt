-- What is written to a client.
use Rattle.std.proofs.Common.{◌≡◌, ◌∙◌, ℕ, Bool, true, false, cond, List, [], ◌++◌, take, drop, refl, ap, sym, arith, take-append-drop, Option, Some, None}
use Rattle.std.specs.Prelude.{◌==◌, option_and_then}
use Rattle.std.specs.List.{position}
use Rattle.std.proofs.lemmas.Bool.{eqb-true}
use Rattle.std.proofs.lemmas.List.{append-nil}
use Rattle.stream_front.specs.Split.{framed}
use Rattle.stream_clients.specs.Number.{Client}
use Rattle.stream_clients.specs.Connection.{Connection, closed, passed, replied, unreplied, with_octets, written}
use Rattle.stream_clients.specs.Places.{Place, connection_of, is_free, no_connections, output_of}
use Rattle.stream_clients.specs.Steps.{Step, Opened, Took, Passed, Replied, Unreplied, Written, Closed, after_one, if_open, reply_by, sent_by}
use Rattle.stream_clients.specs.Laws.{EachGetsItsReplies, over}
use Rattle.stream_clients.proofs.TellLemmas as tell

abbrev output_part : Connection → List ℕ
output_part c = c.output

abbrev IsTold : Option Connection → Option Connection → List ℕ → List ℕ → Type 0
IsTold = tell.IsTold output_part (λ now. refl)

own_took : (octets : List ℕ) (connection : Option Connection) → IsTold connection (option_and_then (with_octets octets) connection) [] []
own_took octets None = λ e. (refl, refl)
own_took octets (Some c) = sym (append-nil c.output)

own_passed : (connection : Option Connection) → IsTold connection (option_and_then passed connection) [] []
own_passed None = λ e. (refl, refl)
own_passed (Some c) = sym (append-nil c.output)

own_unreplied : (now : ℕ) (connection : Option Connection) → IsTold connection (option_and_then (unreplied now) connection) [] []
own_unreplied now None = λ e. (refl, refl)
own_unreplied now (Some c) = sym (append-nil c.output)

own_closed : (connection : Option Connection) → IsTold connection (option_and_then closed connection) [] []
own_closed None = λ e. (refl, refl)
own_closed (Some c) = λ e. (refl, refl)

own_replied : (octets : List ℕ) (now : ℕ) (connection : Option Connection) → IsTold connection (option_and_then (replied octets now) connection) [] (if_open connection (framed octets))
own_replied octets now None = λ e. (refl, refl)
own_replied octets now (Some c) = refl

own_written : (count now : ℕ) (connection : Option Connection) → IsTold connection (option_and_then (written count now) connection) (take count (output_of connection)) []
own_written count now None = λ e. (none count, refl)
  where
    none : (n : ℕ) → take n (output_of None) ≡ []
    none n = grind arith
own_written count now (Some c) = by (count == 0) refl
  where
    by : (b : Bool) → count == 0 ≡ b → IsTold (Some c) (cond b (Some c) (Some (record c { output = drop count c.output; since = now }))) (take count c.output) []
    by true is = ap (λ (n : ℕ). take n c.output ++ c.output) (eqb-true count 0 is) ∙ sym (append-nil c.output)
    by false is = take-append-drop count c.output ∙ sym (append-nil c.output)

told : (client : Client) (step : Step) (places : List Place) → IsTold (connection_of client places) (connection_of client (after_one step places)) (sent_by client step places) (reply_by client step places)
told client (Opened now) places = tell.by_begun output_part (λ now. refl) client now (position is_free places) places refl
told client (Took other octets) places = tell.by_quiet output_part (λ now. refl) client other (with_octets octets) places (own_took octets (connection_of client places))
told client (Passed other) places = tell.by_quiet output_part (λ now. refl) client other passed places (own_passed (connection_of client places))
told client (Replied other octets now) places =
    tell.by_bringing output_part (λ now. refl) client other (replied octets now) places (if_open (connection_of client places) (framed octets)) (own_replied octets now (connection_of client places))
told client (Unreplied other now) places = tell.by_quiet output_part (λ now. refl) client other (unreplied now) places (own_unreplied now (connection_of client places))
told client (Written other count now) places =
    tell.by_taking output_part (λ now. refl) client other (written count now) places (take count (output_of (connection_of client places))) (λ e. own_written count now (connection_of client places))
told client (Closed other) places = tell.by_quiet output_part (λ now. refl) client other closed places (own_closed (connection_of client places))

pub each_gets_its_replies : EachGetsItsReplies
each_gets_its_replies steps client c still =
    tell.run_told output_part (λ now. refl) client (λ step places. Unit {0}) (sent_by client) (reply_by client) (λ step places there. told client step places) steps no_connections c (tell.all_along steps no_connections) still
    ∙ ap (λ (before : Option Connection). tell.part_of output_part (λ now. refl) before ++ over (reply_by client) steps no_connections) (tell.none_open client)
