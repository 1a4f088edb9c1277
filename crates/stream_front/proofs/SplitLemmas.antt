-- Splits of octets: they begin, go on and end, and there is one.
use Rattle.std.proofs.Common.{Result, Ok, Err, ◌≡◌, ℕ, ◌+◌, inl, inr, List, [], ◌∷◌, ◌++◌, length, take, drop, refl, sym, ◌∙◌, ap, arith, length-append, append_assoc}
use Rattle.std.specs.List.{All, flat_map}
use Rattle.std.proofs.lemmas.Grind.{flat_map-append}
use Rattle.std.proofs.lemmas.List.{append-nil, flat_map_more, take_at, drop_at}
use Rattle.std.proofs.lemmas.List.Elements.{All-head, All-tail, All-nil, All-push, All-append}
use Rattle.byteorder.specs.Endian.{big_bytes, big_number}
use Rattle.byteorder.specs.Numbers.{big_number-reads_back, big_from-append}
use Rattle.stream_front.specs.Split.{Begins, Left, Rest, TooSmall, Splits, SplitsOneWay, IsFramed, IsLeft, framed}
use Rattle.stream_front.specs.Feed.{Fed, AreFed, Feeds, Gives, GoesOn, PiecesMakeOneStream}
use Rattle.stream_front.specs.declared.feed_fault.FeedFault.{FeedFault}
use Rattle.stream_front.specs.declared.feed_fault.FeedFault.TheVariants as fault

-- ---- one after the other

pub none_taken : (octets : List ℕ) → Begins octets [] octets
none_taken octets = record { written = refl; each = All-nil IsFramed }

pub one_more_taken : (octets : List ℕ) (messages : List (List ℕ)) (rest message after : List ℕ) → Begins octets messages rest → rest ≡ framed message ++ after → IsFramed message → Begins octets (messages ++ message ∷ []) after
one_more_taken octets messages rest message after taken stands fits = record {
  written =
      taken.written ∙ ap (λ l. flat_map framed messages ++ l) stands
      ∙ sym (append_assoc (flat_map framed messages) (framed message) after)
      ∙ ap (λ l. l ++ after) (flat_map_more framed [] messages message);
  each = All-push IsFramed messages message taken.each fits;
}

pub all_taken : (octets : List ℕ) (messages : List (List ℕ)) (rest : List ℕ) (left : Left) → Begins octets messages rest → IsLeft rest left → Splits octets messages left
all_taken octets messages rest left taken left_is = record { tail = rest; written = taken.written; each = taken.each; left_is = left_is }

-- ---- pieces

left_goes_on : (octets piece : List ℕ) (size : ℕ) → IsLeft octets (TooSmall size) → IsLeft (octets ++ piece) (TooSmall size)
left_goes_on octets piece size left_is =
    (omega (arith, length-append octets piece, left_is.0), big_from-append 2 octets piece left_is.0 ∙ left_is.1, left_is.2)

-- what comes behind what was left
pub more_splits : (fed piece : List ℕ) (given messages : List (List ℕ)) (left left' : Left) → Splits fed given left → Gives left piece messages left' → Splits (fed ++ piece) (given ++ messages) left'
more_splits fed piece given messages (Rest rest) left' before gives = record {
  tail = gives.tail;
  written =
      ap (λ l. l ++ piece) (before.written ∙ ap (λ l. flat_map framed given ++ l) before.left_is.0)
      ∙ append_assoc (flat_map framed given) rest piece
      ∙ ap (λ l. flat_map framed given ++ l) gives.written
      ∙ sym (append_assoc (flat_map framed given) (flat_map framed messages) gives.tail)
      ∙ ap (λ l. l ++ gives.tail) (sym (flat_map-append framed given messages));
  each = All-append IsFramed given messages before.each gives.each;
  left_is = gives.left_is;
}
more_splits fed piece given messages (TooSmall size) left' before gives =
    let none : given ++ messages ≡ given = ap (λ l. given ++ l) gives.0 ∙ append-nil given in
    record {
      tail = before.tail ++ piece;
      written =
          ap (λ l. l ++ piece) before.written ∙ append_assoc (flat_map framed given) before.tail piece
          ∙ ap (λ l. flat_map framed l ++ (before.tail ++ piece)) (sym none);
      each = rw none before.each;
      left_is = rw gives.1 (left_goes_on before.tail piece size before.left_is);
    }

all_pieces : (pieces : List Fed) (fed : List ℕ) (given : List (List ℕ)) (left left' : Left) → Splits fed given left → AreFed left pieces left' → Splits (fed ++ flat_map (λ fed. fed.piece) pieces) (given ++ flat_map (λ fed. fed.messages) pieces) left'
all_pieces [] fed given left left' before are = rw (append-nil fed, append-nil given, are) before
all_pieces (first ∷ later) fed given left left' before are =
    let so_far = more_splits fed first.piece given first.messages left are.0 before are.1 in
    rw (← append_assoc fed first.piece (flat_map (λ fed. fed.piece) later), ← append_assoc given first.messages (flat_map (λ fed. fed.messages) later))
    (all_pieces later (fed ++ first.piece) (given ++ first.messages) are.0 left' so_far are.2)

nothing_splits : Splits [] [] (Rest [])
nothing_splits = record { tail = []; written = refl; each = All-nil IsFramed; left_is = (refl, inl (omega arith)) }

pub pieces_make_one : PiecesMakeOneStream
pieces_make_one pieces left are = all_pieces pieces [] [] (Rest []) left nothing_splits are

-- ---- one way

size_read : (message rest : List ℕ) → IsFramed message → big_number 2 (framed message ++ rest) ≡ length message
size_read message rest fits = ap (big_number 2) (append_assoc (big_bytes 2 (length message)) message rest) ∙ big_number-reads_back 2 (length message) (message ++ rest) fits.fits

framed_length : (message rest : List ℕ) → length (framed message ++ rest) ≡ 2 + (length message + length rest)
framed_length message rest = omega (arith, length-append (framed message) rest)

-- where a message stands nothing else is left
no_message_left : (octets message rest : List ℕ) (left : Left) → IsFramed message → octets ≡ framed message ++ rest → IsLeft octets left → ⊥
no_message_left octets message rest (Rest tail) fits stands left_is =
    let size = ap length (sym left_is.0 ∙ stands) ∙ framed_length message rest in
    let number = ap (big_number 2) (sym left_is.0 ∙ stands) ∙ size_read message rest fits in
    elim left_is.1 [ inl few ↦ omega (arith, size, few) | inr part ↦ omega (arith, size, number, part.1) ]
no_message_left octets message rest (TooSmall tail) fits stands left_is =
    let number = ap (big_number 2) stands ∙ size_read message rest fits in
    omega (arith, number, left_is.1, left_is.2, fits.header)

one_left : (octets : List ℕ) (left left' : Left) → IsLeft octets left → IsLeft octets left' → left ≡ left'
one_left octets (Rest rest) (Rest rest') is is' = ap Rest (sym is.0 ∙ is'.0)
one_left octets (TooSmall size) (TooSmall size') is is' = ap TooSmall (sym is.1 ∙ is'.1)
one_left octets (Rest rest) (TooSmall size) is is' =
    absurd (elim is.1 [ inl few ↦ omega (arith, few, ap length is.0, is'.0) | inr part ↦ omega (arith, part.0, ap (big_number 2) is.0, is'.1, is'.2) ])
one_left octets (TooSmall size) (Rest rest) is is' =
    absurd (elim is'.1 [ inl few ↦ omega (arith, few, ap length is'.0, is.0) | inr part ↦ omega (arith, part.0, ap (big_number 2) is'.0, is.1, is.2) ])

one_message : (message message' rest rest' : List ℕ) → IsFramed message → IsFramed message' → framed message ++ rest ≡ framed message' ++ rest' → (message ≡ message') × (rest ≡ rest')
one_message message message' rest rest' fits fits' same =
    let sizes : length message ≡ length message' = sym (size_read message rest fits) ∙ ap (big_number 2) same ∙ size_read message' rest' fits' in
    let tails : message ++ rest ≡ message' ++ rest' = ap (drop 2) same in (
      sym (take_at message rest (length message) refl) ∙ ap (take (length message)) tails ∙ take_at message' rest' (length message) (sym sizes),
      sym (drop_at message rest (length message) refl) ∙ ap (drop (length message)) tails ∙ drop_at message' rest' (length message) (sym sizes),
    )

one_way : (messages messages' : List (List ℕ)) (tail tail' : List ℕ) (left left' : Left) → All IsFramed messages → All IsFramed messages' → IsLeft tail left → IsLeft tail' left' → flat_map framed messages ++ tail ≡ flat_map framed messages' ++ tail' → (messages ≡ messages') × (left ≡ left')
one_way [] [] tail tail' left left' each each' is is' same = (refl, one_left tail left left' is (rw same is'))
one_way [] (message ∷ later) tail tail' left left' each each' is is' same =
    absurd (no_message_left tail message (flat_map framed later ++ tail') left (All-head IsFramed message later each') (same ∙ append_assoc (framed message) (flat_map framed later) tail') is)
one_way (message ∷ later) [] tail tail' left left' each each' is is' same =
    absurd (no_message_left tail' message (flat_map framed later ++ tail) left' (All-head IsFramed message later each) (sym same ∙ append_assoc (framed message) (flat_map framed later) tail) is')
one_way (message ∷ later) (message' ∷ later') tail tail' left left' each each' is is' same =
    let firsts = one_message message message' (flat_map framed later ++ tail) (flat_map framed later' ++ tail') (All-head IsFramed message later each) (All-head IsFramed message' later' each')
    (sym (append_assoc (framed message) (flat_map framed later) tail) ∙ same ∙ append_assoc (framed message') (flat_map framed later') tail') in
    let rests = one_way later later' tail tail' left left' (All-tail IsFramed message later each) (All-tail IsFramed message' later' each') is is' firsts.1 in
    (λ i. firsts.0 i ∷ rests.0 i, rests.1)

pub one_split : SplitsOneWay
one_split octets messages messages' left left' splits splits' =
    one_way messages messages' splits.tail splits'.tail left left' splits.each splits'.each splits.left_is splits'.left_is (sym splits.written ∙ splits'.written)

-- ---- a call

pub goes_on : (fed : List ℕ) (given : List (List ℕ)) (left : Left) (piece : List ℕ) (left' : Left) (result : Result (List (List ℕ)) FeedFault) → Splits fed given left → Feeds left piece left' result → GoesOn fed given piece left' result
goes_on fed given left piece left' (Ok messages) before feeds = more_splits fed piece given messages left left' before feeds.0
goes_on fed given left piece left' (Err (fault.TooSmall size messages)) before feeds = more_splits fed piece given messages left left' before feeds.0
goes_on fed given left piece left' (Err fault.OutOfMemory) before feeds = rw feeds before
