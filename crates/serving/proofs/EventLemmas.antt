-- What a link tells of rounds.
use Rattle.std.proofs.Common.{◌≡◌, List, [], ◌∷◌, ◌++◌, map, Option, None, Some, refl, sym, ◌∙◌, ap, append_assoc}
use Rattle.std.proofs.lemmas.Grind.{flat_map-append}
use Rattle.std.proofs.lemmas.List.{append-nil, map-append}
use Rattle.outside_core.specs.declared.datagram.Datagram.{Datagram}
use Rattle.outside_core.specs.declared.event.Event.{Event}
use Rattle.outside_core.specs.declared.event.Event.TheVariants.{Awaited, Found, Sent}
use Rattle.outside_core.specs.Event.{received_by, received_in, sent_in}
use Rattle.outside_core.specs.Event.{sent_by as told_sent}
use Rattle.serving.specs.Turn.{Turn, sent_by, sent_of}
use Rattle.serving.specs.Rounds.{Round, events_of, events_of_round, turns_in, turns_of_round}
use Rattle.serving.specs.Worker.{more_told}

abbrev pub datagram_in : Turn → Datagram
datagram_in turn = turn.datagram

-- ---- more events

pub told_more : (told : Option (List Event)) (xs ys : List Event) → more_told (more_told told xs) ys ≡ more_told told (xs ++ ys)
told_more None xs ys = refl
told_more (Some before) xs ys = ap Some (append_assoc before xs ys)

pub told_none : (told : Option (List Event)) → told ≡ more_told told []
told_none None = refl
told_none (Some before) = ap Some (sym (append-nil before))

-- ---- what was received

received_found : (turns : List Turn) → received_in (map (λ turn. Found turn.datagram) turns) ≡ map datagram_in turns
received_found [] = refl
received_found (turn ∷ later) = ap (λ l. turn.datagram ∷ l) (received_found later)

pub received_sent : (datagrams : List Datagram) → received_in (map Sent datagrams) ≡ []
received_sent [] = refl
received_sent (datagram ∷ later) = received_sent later

pub received_awaited : (datagrams : List Datagram) → received_in (map Awaited datagrams) ≡ datagrams
received_awaited [] = refl
received_awaited (datagram ∷ later) = ap (λ l. datagram ∷ l) (received_awaited later)

received_round : (round : Round) → received_in (events_of_round round) ≡ map datagram_in (turns_of_round round)
received_round round =
    let found = map (λ (turn : Turn). Found turn.datagram) round.others in
    let went = map Sent (sent_of (turns_of_round round)) in
    ap (λ l. round.first.datagram ∷ l)
    (flat_map-append received_by found went ∙ (λ i. received_found round.others i ++ received_sent (sent_of (turns_of_round round)) i) ∙ append-nil (map datagram_in round.others))

-- what rounds receive is what they have turns for
pub received_rounds : (rounds : List Round) → received_in (events_of rounds) ≡ map datagram_in (turns_in rounds)
received_rounds [] = refl
received_rounds (round ∷ later) =
    flat_map-append received_by (events_of_round round) (events_of later)
    ∙ (λ i. received_round round i ++ received_rounds later i)
    ∙ sym (map-append datagram_in (turns_of_round round) (turns_in later))

-- ---- what was sent

sent_found : (turns : List Turn) → sent_in (map (λ turn. Found turn.datagram) turns) ≡ []
sent_found [] = refl
sent_found (turn ∷ later) = sent_found later

sent_sent : (datagrams : List Datagram) → sent_in (map Sent datagrams) ≡ datagrams
sent_sent [] = refl
sent_sent (datagram ∷ later) = ap (λ l. datagram ∷ l) (sent_sent later)

sent_round : (round : Round) → sent_in (events_of_round round) ≡ sent_of (turns_of_round round)
sent_round round =
    let found = map (λ (turn : Turn). Found turn.datagram) round.others in
    let went = sent_of (turns_of_round round) in
    flat_map-append told_sent found (map Sent went) ∙ (λ i. sent_found round.others i ++ sent_sent went i)

-- what rounds send is what their turns say
pub sent_rounds : (rounds : List Round) → sent_in (events_of rounds) ≡ sent_of (turns_in rounds)
sent_rounds [] = refl
sent_rounds (round ∷ later) =
    flat_map-append told_sent (events_of_round round) (events_of later)
    ∙ (λ i. sent_round round i ++ sent_rounds later i)
    ∙ sym (flat_map-append (λ (turn : Turn). sent_by turn.done.deed turn.done.octets) (turns_of_round round) (turns_in later))
