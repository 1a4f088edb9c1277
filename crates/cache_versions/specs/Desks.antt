-- No public clause cites this module: what a clause reads of a desk, and of a version that is not published yet.
use Rattle.std.specs.Prelude.{◌≡◌, ℕ, ◌+◌}
use Rattle.std.specs.Arc.{arc_value}
use Rattle.logbook.specs.declared.tokens.Seen.{Seen}
use Rattle.left_right.specs.declared.Absorb.{Ghosts}
use Rattle.cache_versions.specs.declared.book.Law.{Law}
use Rattle.cache_versions.specs.declared.version.Version.{Version}
use Rattle.cache_versions.specs.declared.version.Recorded.{Recorded}
use Rattle.cache_versions.specs.declared.desk.Desk.{Desk}
use Rattle.cache_versions.specs.Kin.{Kin, Sound, number_of, opening_of, state_of}

abbrev Shows : Type 0 → Type 0 → Type 1
Shows S B = Ghosts (Recorded S B) (Recorded S B) (Version S × Seen B ℕ Law)

module _ {S B F : Type 0} {a : Shows S B} where
  -- the version that readers take
  abbrev pub published : Desk S B F a → Recorded S B
  published d = d.writer.desk.shown.value

  -- what is published is sound, and of the book of the key
  abbrev pub Ties : (S → B → S) → ℕ → Recorded S B → Desk S B F a → Type 0
  Ties after most k d = Kin k (published d) × Sound after most (published d)

module _ {S B : Type 0} (after : S → B → S) where
  -- the version is the next one: its state has taken the batch, and its opening state is the same
  pub record IsNext (now : Recorded S B) (batch : B) (v : Version S) : Type 0 where
    pub state : arc_value v.state ≡ after (state_of now) batch
    pub opening : arc_value v.opening ≡ opening_of now
    pub number : v.number ≡ number_of now + 1

-- the version has this state and number, and the same opening state
pub record IsGrown {S : Type 0} (now : Version S) (made : S) (number : ℕ) (v : Version S)
    : Type 0 where
  pub state : arc_value v.state ≡ made
  pub opening : arc_value v.opening ≡ arc_value now.opening
  pub number_is : v.number ≡ number
