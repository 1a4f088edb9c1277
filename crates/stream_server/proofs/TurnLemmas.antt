-- Turns, over more and more batches.
use Rattle.std.proofs.Common.{subst, ◌≡◌, ℕ, ◌≤◌, List, [], ◌∷◌, ◌++◌, length, sym, ◌∙◌, ap, arith, length-append, append_assoc}
use Rattle.std.specs.List.{All}
use Rattle.std.proofs.lemmas.Grind.{flat_map-append}
use Rattle.std.proofs.lemmas.List.{append-nil, map_push, take_all}
use Rattle.std.proofs.lemmas.List.Elements.{All-weaker}
use mathlib.Core.List.{IsPrefix}
use Rattle.facts.proofs.Prefixes.{take_prefix}
use Rattle.denial_records.specs.declared.batch.Batch.{Batch}
use Rattle.stream_server.specs.Turn.{IsAnswered}
use Rattle.stream_server.specs.Stream.{Turn, IsTurn, asked_in, sent_of}

pub prefix_length : (seen journal : List Batch) → IsPrefix seen journal → length seen ≤ length journal
prefix_length seen journal begins = omega (arith, sym (ap length begins.1) ∙ length-append seen begins.0)

pub prefix_trans : (a b c : List Batch) → IsPrefix a b → IsPrefix b c → IsPrefix a c
prefix_trans a b c one two = (one.0 ++ two.0, sym (append_assoc a one.0 two.0) ∙ ap (λ l. l ++ two.0) one.1 ∙ two.1)

pub turn_more : (before before' : ℕ) (seen journal : List Batch) (turn : Turn) → before' ≤ before → IsPrefix seen journal → IsTurn before seen turn → IsTurn before' journal turn
turn_more before before' seen journal turn low begins is = record {
  since = omega (arith, low, is.since);
  within = omega (arith, is.within, prefix_length seen journal begins);
  answered = subst (λ l. IsAnswered l turn.now turn.message turn.octets) (take_prefix seen journal turn.version begins is.within) is.answered;
}

pub turns_more : (before before' : ℕ) (seen journal : List Batch) (turns : List Turn) → before' ≤ before → IsPrefix seen journal → All (IsTurn before seen) turns → All (IsTurn before' journal) turns
turns_more before before' seen journal turns low begins are = All-weaker (IsTurn before seen) (IsTurn before' journal) (λ turn is. turn_more before before' seen journal turn low begins is) turns are

-- the message was answered by all batches seen
abbrev pub turn_at : ℕ → List Batch → List ℕ → List ℕ → Turn
turn_at now seen message octets = record { message = message; now = now; version = length seen; octets = octets }

pub is_turn_at : (now : ℕ) (before seen : List Batch) (message octets : List ℕ) → IsPrefix before seen → IsAnswered seen now message octets → IsTurn (length before) seen (turn_at now seen message octets)
is_turn_at now before seen message octets begins answered = record {
  since = prefix_length before seen begins;
  within = omega arith;
  answered = subst (λ l. IsAnswered l now message octets) (sym (take_all (length seen) seen (omega arith))) answered;
}

pub asked_push : (turns : List Turn) (turn : Turn) → asked_in (turns ++ turn ∷ []) ≡ asked_in turns ++ turn.message ∷ []
asked_push turns turn = map_push _ turns turn

pub sent_push : (turns : List Turn) (turn : Turn) → sent_of (turns ++ turn ∷ []) ≡ sent_of turns ++ turn.octets
sent_push turns turn = flat_map-append _ turns (turn ∷ []) ∙ ap (λ l. sent_of turns ++ l) (append-nil turn.octets)
