-- What a run says by its status, of what the source had left and of what came to stand in the sink.
use Rattle.std.specs.Prelude.{◌≡◌, ℕ, ◌+◌, ◌<◌, ◌≤◌, ◌⊎◌, List, [], length, take, Option, IfSome, String}
use Rattle.std.specs.declared.alloc.Global.{Global}
use Rattle.outside_core.specs.Told.{append_told, prepend_told}
use Rattle.replay_meaning.specs.Replay.{AreFrames}
use Rattle.resolver.specs.declared.rule.Rule.TheVariants.{Aliases, Redirection, Both}
use Rattle.worker_seats.specs.WalkReplay.{IsReplayBy}
use Rattle.resolver.specs.declared.answering.Answering.{Answering}
use Rattle.resolver.specs.declared.answering.Answering.TheVariants.{ByProof, ByWalk}
use Rattle.command_line.specs.Words.{AreWordsOf}
use Rattle.command_line.specs.declared.command.Command.TheVariants.{Replay, Chase, Redirect, Follow}
use Rattle.running.specs.declared.reading.TheConstants.{MAX_INPUT}
use Rattle.running.specs.declared.status.Status.{Status}
use Rattle.running.specs.declared.status.Status.TheVariants.{Good, BadFrame, WriteFault, OutOfMemory, InputTooLong}

-- the words ask for a replay that answers queries so, for so many workers; one that answers by walks is for one worker
abbrev pub AsksReplay : List (String Global) → Answering → ℕ → Type 0
AsksReplay words ByProof workers = AreWordsOf words (Replay workers)
AsksReplay words (ByWalk Aliases) workers = AreWordsOf words Chase × (workers ≡ 1)
AsksReplay words (ByWalk Redirection) workers = AreWordsOf words Redirect × (workers ≡ 1)
AsksReplay words (ByWalk Both) workers = AreWordsOf words Follow × (workers ≡ 1)

-- the source was read to its end, or to one octet more than so many
pub record IsReadTo (most : ℕ) (before after : Option (List ℕ)) : Type 0 where
  pub octets : List ℕ
  pub given : before ≡ prepend_told octets after
  pub until : (length octets ≡ most + 1) ⊎ IfSome after (λ left. left ≡ [])

-- or to one more than the longest input has
abbrev pub IsReadOn : Option (List ℕ) → Option (List ℕ) → Type 0
IsReadOn before after = IsReadTo MAX_INPUT before after

-- the source gave some octets, and has left what came after them
pub record HasGiven (before after : Option (List ℕ)) : Type 0 where
  pub octets : List ℕ
  pub given : before ≡ prepend_told octets after

-- the sink has got the whole output of a replay of the input for so many workers
pub record IsReplayed (answering : Answering) (workers : ℕ) (input : List ℕ) (before after : Option (List ℕ)) : Type 0 where
  pub output : List ℕ
  pub replay : IsReplayBy answering workers input output
  pub written : after ≡ append_told before output

-- or a strict prefix of it
pub record IsCutShort (answering : Answering) (workers : ℕ) (input : List ℕ) (before after : Option (List ℕ)) : Type 0 where
  pub output : List ℕ
  pub replay : IsReplayBy answering workers input output
  pub size : ℕ
  pub strict : size < length output
  pub written : after ≡ append_told before (take size output)

-- what the source gave up to its end was an input, and the sink has got the whole output of a replay of it
pub record HasReplayed (answering : Answering) (workers : ℕ) (left rest before after : Option (List ℕ)) : Type 0 where
  pub input : List ℕ
  pub given : left ≡ prepend_told input rest
  pub end : IfSome rest (λ more. more ≡ [])
  pub replayed : IsReplayed answering workers input before after

-- the input isn't too long
abbrev pub IsShort : List ℕ → Type 0
IsShort input = length input ≤ MAX_INPUT

-- it isn't, and it spells frames for so many workers
abbrev pub IsTaken : ℕ → List ℕ → Type 0
IsTaken workers input = IsShort input × AreFrames workers input

-- it isn't, and it spells none
abbrev pub IsNoFrames : ℕ → List ℕ → Type 0
IsNoFrames workers input = IsShort input × (AreFrames workers input → ⊥)

-- a replay was made, whether or not all of it could be written
abbrev pub IsOfReplay : Status → Type 0
IsOfReplay status = (status ≡ Good) ⊎ (status ≡ WriteFault)

-- a summary was made, whether or not all of it could be written; or there was no memory
abbrev pub IsOfSelfrun : Status → Type 0
IsOfSelfrun status = IsOfReplay status ⊎ (status ≡ OutOfMemory)

-- the input is refused as it is
abbrev pub IsRefused : Status → Type 0
IsRefused status = (status ≡ InputTooLong) ⊎ (status ≡ BadFrame)

-- the status of an input for so many workers, where nothing fails
pub data IsStatusOf (workers : ℕ) (input : List ℕ) (status : Status) : Type 0 where
  too_long : MAX_INPUT < length input → status ≡ InputTooLong → IsStatusOf workers input status
  no_frames : IsNoFrames workers input → status ≡ BadFrame → IsStatusOf workers input status
  replayed : IsTaken workers input → status ≡ Good → IsStatusOf workers input status
