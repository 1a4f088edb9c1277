-- The turns of a worker, one after the other.
use Rattle.std.proofs.Common.{◌≡◌, ℕ, zero, suc, ◌+◌, ◌-◌, ◌<◌, ◌≤◌, inl, inr, Bool, true, false, cond, List, [], ◌∷◌, ◌++◌, length, get_or, Option, None, Some, slice_get, refl, sym, ◌∙◌, ap, subst, arith, length-append}
use Rattle.std.specs.List.{flat_map}
use Rattle.std.proofs.lemmas.Bool.{false≢true}
use Rattle.std.proofs.lemmas.Grind.{flat_map-append}
use Rattle.std.proofs.lemmas.List.{append-nil, take_all}
use Rattle.std.proofs.lemmas.List.Elements.{All-nil, All-push}
use Rattle.std.proofs.lemmas.List.Quantifiers.{all_pairs_push}
use Rattle.facts.proofs.Lists.{at_end}
use Rattle.facts.proofs.Prefixes.{take_prefix}
use mathlib.Core.List.{IsPrefix}
use Rattle.denial_records.specs.declared.batch.Batch.{Batch}
use Rattle.cache_meaning.specs.Held.{Held}
use Rattle.cache_versions.specs.declared.state.State.{Ghosts}
use Rattle.cache_versions.specs.declared.seat.Seat.{Seat}
use Rattle.cache_versions.specs.Seats.{places_by, seen_by}
use Rattle.cache_versions.proofs.Fronts.{prefix_get, prefix_length}
use Rattle.serving.specs.Pending.{Slot, empty_table}
use Rattle.outside_core.specs.declared.datagram.Datagram.{Datagram}
use Rattle.serving.specs.Done.{Done, IsDone}
use Rattle.serving.specs.Serves.{IsKept, IsPlaced, Serves}
use Rattle.serving.specs.Sound.{IsSoundDone}
use Rattle.serving.specs.AtWork.{left_by}
use Rattle.serving.specs.Turn.{Turn, AreTurns, AreTurnsOf, IsInTurn, IsKeptAt, IsTurn, places_of}
use Rattle.serving.proofs.SoundLemmas.{done_sound}

-- ---- more batches

kept_more : (seen journal : List Batch) (version : ℕ) (batch : Option Batch) (placed : Bool) → IsPrefix seen journal → IsKeptAt seen version batch placed → IsKeptAt journal version batch placed
kept_more seen journal version None placed begins kept = kept
kept_more seen journal version (Some batch) true begins kept = (kept.0, prefix_get seen journal (version - 1) batch begins kept.1)
kept_more seen journal version (Some batch) false begins kept = kept

pub turn_more : (seen journal : List Batch) (table : List Slot) (turn : Turn) → IsPrefix seen journal → IsTurn seen table turn → IsTurn journal table turn
turn_more seen journal table turn begins is =
    let same = take_prefix seen journal turn.version begins is.within in
    record {
      within = omega (arith, is.within, prefix_length seen journal begins);
      does = subst (λ l. IsDone table turn.now l turn.datagram turn.done) same is.does;
      sound = subst (λ l. IsSoundDone l turn.now turn.datagram.octets turn.done) same is.sound;
      kept = kept_more seen journal turn.version turn.done.batch turn.placed begins is.kept;
    }

pub turns_more : (seen journal : List Batch) (table : List Slot) (turns : List Turn) → IsPrefix seen journal → AreTurns seen table turns → AreTurns journal table turns
turns_more seen journal table [] begins are = tt
turns_more seen journal table (turn ∷ later) begins are = (turn_more seen journal table turn begins are.0, turns_more seen journal turn.done.table later begins are.1)

-- ---- one more turn

pub left_push : (table : List Slot) (turns : List Turn) (turn : Turn) → left_by table (turns ++ turn ∷ []) ≡ turn.done.table
left_push table [] turn = refl
left_push table (first ∷ later) turn = left_push first.done.table later turn

turns_push : (journal : List Batch) (table : List Slot) (turns : List Turn) (turn : Turn) → AreTurns journal table turns → IsTurn journal (left_by table turns) turn → AreTurns journal table (turns ++ turn ∷ [])
turns_push journal table [] turn are is = (is, tt)
turns_push journal table (first ∷ later) turn are is = (are.0, turns_push journal first.done.table later turn are.1 is)

turns_within : (journal : List Batch) (table : List Slot) (turns : List Turn) → AreTurns journal table turns → (k : ℕ) (d : Turn) → k < length turns → (get_or turns k d).version ≤ length journal
turns_within journal table [] are k d lt = absurd (omega arith)
turns_within journal table (turn ∷ later) are zero d lt = are.0.within
turns_within journal table (turn ∷ later) are (suc k) d lt = turns_within journal turn.done.table later are.1 k d (omega arith)

pub flat_push : {X A : Type 0} (f : X → List A) (xs : List X) (x : X) → flat_map f (xs ++ x ∷ []) ≡ flat_map f xs ++ f x
flat_push f xs x = flat_map-append f xs (x ∷ []) ∙ ap (λ l. flat_map f xs ++ l) (append-nil (f x))

module _ {g : Ghosts Held Batch (Unit {0})} where
  -- ---- a batch

  -- whether it was placed
  abbrev pub placed_in : (before after : Seat Held Batch (Unit {0}) g) (batch : Option Batch) → IsKept before after batch → Bool
  placed_in before after None kept = false
  placed_in before after (Some batch) (inl placed) = true
  placed_in before after (Some batch) (inr spent) = false

  grown : (before after : Seat Held Batch (Unit {0}) g) (batch : Batch) → (placed : IsPlaced before after batch) → length (seen_by after) ≡ length placed.former + 1
  grown before after batch placed = ap length placed.seen ∙ length-append placed.former (batch ∷ [])

  kept_at : (before after : Seat Held Batch (Unit {0}) g) (batch : Option Batch) (kept : IsKept before after batch) → IsKeptAt (seen_by after) (length (seen_by after)) batch (placed_in before after batch kept)
  kept_at before after None kept = refl
  kept_at before after (Some batch) (inl placed) =
      let more = grown before after batch placed in
      let place : length placed.former ≡ length (seen_by after) - 1 = omega (arith, more) in
      (omega (arith, more), subst (λ n. slice_get (seen_by after) n ≡ Some batch) place (ap (λ l. slice_get l (length placed.former)) placed.seen ∙ at_end placed.former batch))
  kept_at before after (Some batch) (inr spent) = spent.last

  rises : (before after : Seat Held Batch (Unit {0}) g) (batch : Option Batch) (kept : IsKept before after batch) → placed_in before after batch kept ≡ true → length (seen_by before) < length (seen_by after)
  rises before after None kept is = absurd (false≢true is)
  rises before after (Some batch) (inl placed) is = omega (arith, grown before after batch placed, prefix_length (seen_by before) placed.former placed.begins)
  rises before after (Some batch) (inr spent) is = absurd (false≢true is)

  places : (before after : Seat Held Batch (Unit {0}) g) (batch : Option Batch) (kept : IsKept before after batch) → places_by after ≡ places_by before ++ cond (placed_in before after batch kept) ((length (seen_by after) - 1) ∷ []) []
  places before after None kept = kept ∙ sym (append-nil (places_by before))
  places before after (Some batch) (inl placed) =
      let more = grown before after batch placed in
      let place : length placed.former ≡ length (seen_by after) - 1 = omega (arith, more) in
      placed.places ∙ ap (λ n. places_by before ++ n ∷ []) place
  places before after (Some batch) (inr spent) = spent.places ∙ sym (append-nil (places_by before))

  -- ---- a turn

  abbrev pub turn_of : (now : ℕ) (before after : Seat Held Batch (Unit {0}) g) (table : List Slot) (datagram : Datagram) (done : Done) → Serves now before after table datagram done → Turn
  turn_of now before after table datagram done serves = record {
    datagram = datagram;
    now = now;
    version = length (seen_by after);
    done = done;
    placed = placed_in before after done.batch serves.kept;
  }

  is_turn : (now : ℕ) (before after : Seat Held Batch (Unit {0}) g) (table : List Slot) (datagram : Datagram) (done : Done) (serves : Serves now before after table datagram done)
      → IsTurn (seen_by after) table (turn_of now before after table datagram done serves)
  is_turn now before after table datagram done serves =
      let whole = sym (take_all (length (seen_by after)) (seen_by after) (omega arith)) in
      record {
        within = omega arith;
        does = subst (λ l. IsDone table now l datagram done) whole serves.does;
        sound = subst (λ l. IsSoundDone l now datagram.octets done) whole (done_sound table now (seen_by after) datagram done serves.does);
        kept = kept_at before after done.batch serves.kept;
      }

  -- the turns of a worker, whose seat had seen so many batches before, and then one more
  pub turns_one_more : (seen : ℕ) (now : ℕ) (before after : Seat Held Batch (Unit {0}) g) (placed : List ℕ) (turns : List Turn) (datagram : Datagram) (done : Done)
      → seen ≤ length (seen_by before) → (serves : Serves now before after (left_by empty_table turns) datagram done) → AreTurnsOf seen (seen_by before) placed turns
      → AreTurnsOf seen (seen_by after) (placed ++ places_of (turn_of now before after (left_by empty_table turns) datagram done serves)) (turns ++ turn_of now before after (left_by empty_table turns) datagram done serves ∷ [])
  turns_one_more seen now before after placed turns datagram done since serves are =
      let table = left_by empty_table turns in
      let turn = turn_of now before after table datagram done serves in
      let longer = prefix_length (seen_by before) (seen_by after) serves.begins in
      record {
        each = turns_push (seen_by after) empty_table turns turn (turns_more (seen_by before) (seen_by after) empty_table turns serves.begins are.each) (is_turn now before after table datagram done serves);
        order = all_pairs_push IsInTurn turns turn are.order (λ k d lt.
            let within = turns_within (seen_by before) empty_table turns are.each k d lt in
            record {
              never_back = omega (arith, within, longer);
              rises = λ is. let more = rises before after done.batch serves.kept is in omega (arith, within, more);
            });
        since = All-push (λ t. seen ≤ t.version) turns turn are.since (omega (arith, since, longer));
        rises = All-push (λ t. t.placed ≡ true → seen < t.version) turns turn are.rises (λ is. let more = rises before after done.batch serves.kept is in omega (arith, since, more));
        places = ap (λ l. l ++ places_of turn) are.places ∙ sym (flat_push places_of turns turn);
      }

  pub places_one_more : (now : ℕ) (before after : Seat Held Batch (Unit {0}) g) (table : List Slot) (datagram : Datagram) (done : Done) (serves : Serves now before after table datagram done)
      → places_by after ≡ places_by before ++ places_of (turn_of now before after table datagram done serves)
  places_one_more now before after table datagram done serves = places before after done.batch serves.kept

pub no_turns : (seen : ℕ) (journal : List Batch) → AreTurnsOf seen journal [] []
no_turns seen journal = record {
  each = tt;
  order = λ i j d lt lt'. absurd (omega arith);
  since = All-nil (λ t. seen ≤ t.version);
  rises = All-nil (λ t. t.placed ≡ true → seen < t.version);
  places = refl;
}
