-- Octets that are put one after the other.
use Rattle.std.proofs.Common.{◌≡◌, ◌≢◌, ℕ, suc, ◌+◌, ◌-◌, List, [], ◌∷◌, ◌++◌, map, sym, ◌∙◌, ap, append_assoc, arith}
use Rattle.std.specs.List.{range_with_len}
use Rattle.std.proofs.lemmas.List.FromFn.{map-range_with_len_more}
use Rattle.zone_maker.specs.Made.{kind_at}
use Rattle.zone_maker.specs.Messages.{answer_in, answer_of}

pub two_pieces : (old mid new a b : List ℕ) → mid ≡ old ++ a → new ≡ mid ++ b → new ≡ old ++ (a ++ b)
two_pieces old mid new a b first second = second ∙ ap (λ xs. xs ++ b) first ∙ append_assoc old a b

-- the five pieces of a message
pub five_pieces : (one two three four five a b c d e : List ℕ) → one ≡ a → two ≡ one ++ b → three ≡ two ++ c → four ≡ three ++ d → five ≡ four ++ e → five ≡ a ++ b ++ c ++ d ++ e
five_pieces one two three four five a b c d e is is2 is3 is4 is5 =
    is5 ∙ ap (λ xs. xs ++ e) (is4 ∙ ap (λ xs. xs ++ d) (is3 ∙ ap (λ xs. xs ++ c) (is2 ∙ ap (λ xs. xs ++ b) is)))

answer_after : (seed k i : ℕ) → k ≡ suc i → answer_of seed k ≡ answer_in (kind_at i) seed i
answer_after seed k i is = ap (answer_of seed) is

pub answer_is : (seed k : ℕ) → k ≢ 0 → answer_in (kind_at (k - 1)) seed (k - 1) ≡ answer_of seed k
answer_is seed k some = sym (answer_after seed k (k - 1) (omega (arith, some)))

pub message_more : (f : ℕ → List ℕ) (k : ℕ) (before after : List (List ℕ)) (item : List ℕ) → before ≡ map f (range_with_len 0 k) → item ≡ f k → after ≡ before ++ item ∷ [] → after ≡ map f (range_with_len 0 (k + 1))
message_more f k before after item done is more =
    more ∙ ap (λ (xs : List (List ℕ)). xs ++ item ∷ []) done ∙ ap (λ (x : List ℕ). map f (range_with_len 0 k) ++ x ∷ []) is ∙ sym (map-range_with_len_more f 0 k k (omega arith))
