-- The messages of octets are answered one after the other.
use Rattle.std.proofs.Common.{◌≡◌, ℕ, List, [], ◌∷◌, ◌++◌, length, refl, sym, ◌∙◌, ap, arith, Option, Some, None, Result, Err, append_assoc}
use Rattle.std.specs.List.{All}
use Rattle.std.proofs.lemmas.List.{append-nil}
use Rattle.std.proofs.lemmas.List.Elements.{All-nil, All-push}
use mathlib.Core.List.{IsPrefix}
use Rattle.denial_records.specs.declared.batch.Batch.{Batch}
use Rattle.outside_core.specs.Told.{append_told}
use Rattle.outside_core.proofs.ToldLemmas.{append_told-append_told}
use Rattle.stream_front.specs.Split.{Begins, IsFramed, framed}
use Rattle.stream_server.specs.Turn.{IsAnswered}
use Rattle.stream_server.specs.Stream.{Turn, IsTurn, IsCutShort, asked_in, sent_of}
use Rattle.stream_server.specs.Piece.{AreAnswered, EndsPiece}
use Rattle.stream_server.specs.declared.stream_fault.StreamFault.{StreamFault}
use Rattle.stream_server.specs.declared.stream_fault.StreamFault.TheVariants as fault
use Rattle.stream_front.proofs.SplitLemmas.{none_taken, one_more_taken}
use Rattle.stream_server.proofs.TurnLemmas.{turn_at, is_turn_at, turns_more, prefix_trans, asked_push, sent_push}

-- the messages at the front of the octets are answered, and this is left
pub record SoFar (now : ℕ) (before seen : List Batch) (octets rest : List ℕ) (written written' : Option (List ℕ)) : Type 0 where
  pub turns : List Turn
  pub stands : Begins octets (asked_in turns) rest
  pub each : All (IsTurn (length before) seen) turns
  pub moments : All (λ turn. turn.now ≡ now) turns
  pub written_are : written' ≡ append_told written (sent_of turns)

told_nothing : (written : Option (List ℕ)) → written ≡ append_told written []
told_nothing None = refl
told_nothing (Some octets) = ap Some (sym (append-nil octets))

pub none_so_far : (now : ℕ) (seen : List Batch) (octets : List ℕ) (written : Option (List ℕ)) → SoFar now seen seen octets octets written written
none_so_far now seen octets written = record {
  turns = [];
  stands = none_taken octets;
  each = All-nil (IsTurn (length seen) seen);
  moments = All-nil (λ turn. turn.now ≡ now);
  written_are = told_nothing written;
}

module _ (now : ℕ) (before seen seen' : List Batch) (octets rest message after : List ℕ) (written written' : Option (List ℕ)) (so_far : SoFar now before seen octets rest written written') (stands : rest ≡ framed message ++ after) (fits : IsFramed message) (first : IsPrefix before seen) (begins : IsPrefix seen seen') where
  all_begins : IsPrefix before seen'
  all_begins = prefix_trans before seen seen' first begins

  -- with the turn of the next message
  more_stands : (answer : List ℕ) → Begins octets (asked_in (so_far.turns ++ turn_at now seen' message answer ∷ [])) after
  more_stands answer =
      rw (asked_push so_far.turns (turn_at now seen' message answer))
      (one_more_taken octets (asked_in so_far.turns) rest message after so_far.stands stands fits)

  more_each : (answer : List ℕ) → IsAnswered seen' now message answer → All (IsTurn (length before) seen') (so_far.turns ++ turn_at now seen' message answer ∷ [])
  more_each answer answered =
      All-push (IsTurn (length before) seen') so_far.turns (turn_at now seen' message answer)
      (turns_more (length before) (length before) seen seen' so_far.turns (omega arith) begins so_far.each)
      (is_turn_at now before seen' message answer all_begins answered)

  more_moments : (answer : List ℕ) → All (λ turn. turn.now ≡ now) (so_far.turns ++ turn_at now seen' message answer ∷ [])
  more_moments answer = All-push (λ turn. turn.now ≡ now) so_far.turns (turn_at now seen' message answer) so_far.moments refl

  more_sent : (answer : List ℕ) → sent_of (so_far.turns ++ turn_at now seen' message answer ∷ []) ≡ sent_of so_far.turns ++ answer
  more_sent answer = sent_push so_far.turns (turn_at now seen' message answer)

  pub one_so_far : (answer : List ℕ) (written2 : Option (List ℕ)) → IsAnswered seen' now message answer → written2 ≡ append_told written' answer → SoFar now before seen' octets after written written2
  one_so_far answer written2 answered went = record {
    turns = so_far.turns ++ turn_at now seen' message answer ∷ [];
    stands = more_stands answer;
    each = more_each answer answered;
    moments = more_moments answer;
    written_are =
        went ∙ ap (λ t. append_told t answer) so_far.written_are
        ∙ append_told-append_told written (sent_of so_far.turns) answer
        ∙ ap (append_told written) (sym (more_sent answer));
  }

  -- the sink has failed
  pub cut_short : (answer part : List ℕ) (written2 : Option (List ℕ)) → IsAnswered seen' now message answer → IsCutShort part answer → written2 ≡ append_told written' part → AreAnswered now before seen' octets written written2 (Err fault.Sink)
  cut_short answer part written2 answered short went = record {
    rest = after;
    turns = so_far.turns ++ turn_at now seen' message answer ∷ [];
    stands = more_stands answer;
    each = more_each answer answered;
    moments = more_moments answer;
    went = sent_of so_far.turns ++ part;
    written_are = went ∙ ap (λ t. append_told t part) so_far.written_are ∙ append_told-append_told written (sent_of so_far.turns) part;
    ends = record {
      rest = short.rest;
      some = short.some;
      whole = append_assoc (sent_of so_far.turns) part short.rest ∙ ap (λ l. sent_of so_far.turns ++ l) short.whole ∙ sym (more_sent answer);
    };
  }

-- what is left of the octets ends the work
pub ended : (now : ℕ) (before seen seen' : List Batch) (octets rest : List ℕ) (written written' : Option (List ℕ)) (result : Result ℕ StreamFault) → SoFar now before seen octets rest written written' → IsPrefix seen seen' → ((turns : List Turn) → EndsPiece rest turns (sent_of turns) result) → AreAnswered now before seen' octets written written' result
ended now before seen seen' octets rest written written' result so_far begins ends = record {
  rest = rest;
  turns = so_far.turns;
  stands = so_far.stands;
  each = turns_more (length before) (length before) seen seen' so_far.turns (omega arith) begins so_far.each;
  moments = so_far.moments;
  went = sent_of so_far.turns;
  written_are = so_far.written_are;
  ends = ends so_far.turns;
}
