-- No public clause cites this module: what a clause reads of a version, and the rule of the published one.
use Rattle.std.specs.Prelude.{◌≡◌, ℕ, ◌≤◌, List, [], ◌∷◌, All, length, fold}
use mathlib.Core.Option.{some}
use mathlib.Core.List.{IsPrefix}
use lib.ListN.{get_elem?}
use Rattle.std.specs.Arc.{arc_value}
use Rattle.logbook.specs.declared.tokens.Seen.{Seen}
use Rattle.cache_versions.specs.declared.book.Law.{Law}
use Rattle.cache_versions.specs.declared.version.Version.{Version}
use Rattle.cache_versions.specs.declared.version.Recorded.{Recorded}
use Rattle.cache_versions.specs.declared.version.Known.{Known}

module _ {S B : Type 0} where
  abbrev pub version_of : Recorded S B → Version S
  version_of r = arc_value r.version

  -- the batches that were placed, the first one first
  abbrev pub journal_of : Recorded S B → List B
  journal_of r = r.front.log

  abbrev pub number_of : Recorded S B → ℕ
  number_of r = (version_of r).number

  abbrev pub state_of : Recorded S B → S
  state_of r = arc_value (version_of r).state

  -- the state that no batch has made
  abbrev pub opening_of : Recorded S B → S
  opening_of r = arc_value (version_of r).opening

  -- what two owners share
  abbrev pub content_of : Recorded S B → Version S × Seen B ℕ Law
  content_of r = (version_of r, r.front)

  abbrev pub IsSame : Recorded S B → Recorded S B → Type 0
  IsSame r s = content_of s ≡ content_of r

  -- both journals stand in one book, and both have one opening state
  abbrev pub Kin : Recorded S B → Recorded S B → Type 0
  Kin r s = (r.front.book ≡ s.front.book) × (opening_of r ≡ opening_of s)

  -- the second journal begins with the first
  abbrev pub Begins : Recorded S B → Recorded S B → Type 0
  Begins r s = IsPrefix (journal_of r) (journal_of s)

  abbrev pub known : List (Recorded S B) → Known S B
  known rs = record { met = rs }

  abbrev pub EachKin : Known S B → Recorded S B → Type 0
  EachKin k s = All (λ r. Kin r s) k.met

  -- the place knows of one version, which is of the book of s
  abbrev pub KnowsKin : Known S B → Recorded S B → Type 0
  KnowsKin k s = (length k.met ≡ 1) × EachKin k s

  -- what is published after the step is known
  abbrev pub Meets : Known S B → Recorded S B → Recorded S B → Known S B → Type 0
  Meets k x y k' = k' ≡ known (y ∷ [])

module _ {S B : Type 0} (after : S → B → S) (most : ℕ) where
  -- the state is made of the opening state by the batches, which are few enough
  abbrev pub IsMade : Version S × Seen B ℕ Law → Type 0
  IsMade c =
      (arc_value c.0.state ≡ fold after (arc_value c.0.opening) c.1.log) × (c.0.number ≤ most)

  abbrev pub Sound : Recorded S B → Type 0
  Sound r = IsMade (content_of r)

  -- the published version is sound, and each version that any place knows of is of its book
  abbrev pub Kept : Recorded S B → List (Known S B) → Type 0
  Kept x views =
      Sound x
      × ((place : ℕ) (k : Known S B) → get_elem? views place ≡ some k → EachKin k x)

  -- what is published is sound, and of the book of what was known; and that stays known
  abbrev pub Looks : Known S B → Recorded S B → Recorded S B → Known S B → Type 0
  Looks k x y k' = EachKin k x × Sound x × (k' ≡ k)
