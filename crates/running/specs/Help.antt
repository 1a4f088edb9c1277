-- What a run says of a text that the words ask for.
use Rattle.std.specs.Prelude.{◌≡◌, ◌<◌, ◌⊎◌, ℕ, List, length, take, Option, String}
use Rattle.std.specs.declared.alloc.Global.{Global}
use Rattle.outside_core.specs.Told.{append_told}
use Rattle.command_line.specs.Help.{help_of, version_line}
use Rattle.command_line.specs.Words.{AreWordsOf}
use Rattle.command_line.specs.declared.command.Command.TheVariants.{Help, Version}
use Rattle.command_line.specs.declared.topic.Topic.{Topic}
use Rattle.running.specs.Run.{IsOfReplay}
use Rattle.running.specs.declared.status.Status.{Status}
use Rattle.running.specs.declared.status.Status.TheVariants.{OutOfMemory}

-- the words ask for this text
abbrev pub AsksText : List (String Global) → List ℕ → Type 0
AsksText words text =
    ((topic : Option Topic) × AreWordsOf words (Help topic) × (text ≡ help_of topic))
    ⊎ (AreWordsOf words Version × (text ≡ version_line))

-- the text was told, whether or not all of it could be written; or there was no memory to read the words
abbrev pub IsOfText : Status → Type 0
IsOfText status = IsOfReplay status ⊎ (status ≡ OutOfMemory)

-- the sink has got the whole text
abbrev pub IsTextWritten : List ℕ → Option (List ℕ) → Option (List ℕ) → Type 0
IsTextWritten text before after = after ≡ append_told before text

-- or a strict prefix of it
pub record IsTextCut (text : List ℕ) (before after : Option (List ℕ)) : Type 0 where
  pub size : ℕ
  pub strict : size < length text
  pub written : after ≡ append_told before (take size text)
