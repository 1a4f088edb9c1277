-- What a clause reads of an object that was closed.
use Rattle.std.specs.Prelude.{List}
use Rattle.cache_versions.specs.declared.state.State.{Ghosts}
use Rattle.cache_versions.specs.declared.close.Closed.{Closed}
use Rattle.cache_versions.specs.Kin.{journal_of, opening_of}

module _ {S B F : Type 0} {g : Ghosts S B F} where
  -- all batches that were placed
  abbrev pub journal_at : Closed S B F g → List B
  journal_at c = journal_of c.held.recorded

  -- the state that no batch has made
  abbrev pub opening_at : Closed S B F g → S
  opening_at c = opening_of c.held.recorded
