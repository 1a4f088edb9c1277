-- Octets that are written in two pieces.
use Rattle.std.proofs.Common.{Option, Result, Ok, Err, ◌≡◌, ℕ, ◌<◌, List, ◌++◌, length, take, drop, length-drop, length-append, take-append-drop, sym, ◌∙◌, ap, arith, append_assoc}
use Rattle.std.specs.Prelude.{OnErr}
use Rattle.outside_core.specs.Told.{append_told}
use Rattle.outside_core.specs.declared.failed.Failed.{Failed}
use Rattle.outside_core.proofs.ToldLemmas.{append_told-append_told}
use Rattle.stream_server.specs.Stream.{IsCutShort}

-- a part of the octets, and not all of them
pub cut_at : (octets : List ℕ) (n : ℕ) → n < length octets → IsCutShort (take n octets) octets
cut_at octets n within = record {
  rest = drop n octets;
  some = omega (arith, length-drop n octets, within);
  whole = take-append-drop n octets;
}

-- a part of the first piece
pub cut_in_first : (first later : List ℕ) (n : ℕ) → n < length first → IsCutShort (take n first) (first ++ later)
cut_in_first first later n within = record {
  rest = drop n first ++ later;
  some = omega (arith, length-append (drop n first) later, length-drop n first, within);
  whole = sym (append_assoc (take n first) (drop n first) later) ∙ ap (λ l. l ++ later) (take-append-drop n first);
}

-- the first piece, and a part of the other
pub cut_in_later : (first later : List ℕ) (n : ℕ) → n < length later → IsCutShort (first ++ take n later) (first ++ later)
cut_in_later first later n within = record {
  rest = drop n later;
  some = omega (arith, length-drop n later, within);
  whole = append_assoc first (take n later) (drop n later) ∙ ap (λ l. first ++ l) (take-append-drop n later);
}

-- where the other piece was written in part, so were both
pub later_part : (told told' told2 : Option (List ℕ)) (first later : List ℕ) (result : Result (Unit {0}) Failed) → told' ≡ append_told told first → OnErr result ((n : ℕ) × (n < length later) × (told2 ≡ append_told told' (take n later))) → OnErr result ((went : List ℕ) × IsCutShort went (first ++ later) × (told2 ≡ append_told told went))
later_part told told' told2 first later (Ok done) before part = tt
later_part told told' told2 first later (Err failed) before part = (
  first ++ take part.0 later,
  cut_in_later first later part.0 part.1,
  part.2 ∙ ap (λ t. append_told t (take part.0 later)) before ∙ append_told-append_told told first (take part.0 later),
)
