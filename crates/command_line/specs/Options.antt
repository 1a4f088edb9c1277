-- No public clause cites this module. The options of a command as `clap` knows them, and what it found for each; the names of the
-- commands that have none; and the settings of `forward` on their way.
use Rattle.std.specs.Prelude.{◌≡◌, ◌≤◌, ℕ, ◌==◌, ◌&&◌, Bool, true, not, List, [], ◌∷◌, ◌++◌, length, map, drop, codes, Option, Some, None, IsTrue, MatchOption, unwrap_or}
use Rattle.std.specs.Option.{option_to_list}
use Rattle.std.specs.List.{list_any}
use Rattle.std.specs.Str.{bytes_eq}
use Rattle.clap.specs.Words.{App, Rule, first_value, found_of, new_app, new_rule}
use Rattle.clap.specs.declared.parser.matches.ArgMatches.{ArgMatches}
use Rattle.command_line.specs.Words.{AreSet, Choice, IsValue, Setting, Word, about, flag_name}
use Rattle.command_line.specs.Faults.{AreRight, HasNoValue, IsFaultIn, IsStray, IsWrong, is_needed, takes_place}
use Rattle.command_line.specs.declared.cause.Cause.{Cause}
use Rattle.command_line.specs.declared.choosing.Chosen.{Chosen}
use Rattle.command_line.specs.declared.choosing.Seen.{Seen}
use Rattle.command_line.specs.declared.choosing.Seen.TheVariants as seen
use Rattle.command_line.specs.declared.command.Command.{Command}
use Rattle.command_line.specs.declared.command.Command.TheVariants.{Replay, Selfrun, Serve, Chase, Redirect, Follow, Tcp, Audit, Forward, Help, Version}
use Rattle.command_line.specs.declared.drafting.Draft.{Draft}
use Rattle.command_line.specs.declared.fault.Fault.{Fault}
use Rattle.command_line.specs.declared.fault.Fault.TheVariants.{Stray, Valueless, Wrong, Missing}
use Rattle.command_line.specs.declared.flag.Flag.{Flag}
use Rattle.command_line.specs.declared.flag.Flag.TheVariants.{Listen, Upstream, Workers, Pass, Status}
use Rattle.command_line.specs.declared.forward_settings.ForwardSettings.{ForwardSettings}
use Rattle.command_line.specs.declared.refusal.Refusal.{Refusal}
use Rattle.command_line.specs.declared.refusal.Refusal.TheVariants.{Faulty, OutOfMemory}
use Rattle.command_line.specs.declared.setting.Setting as program
use Rattle.command_line.specs.declared.topic.Topic.{Topic}

-- the option's name in a word: two hyphens stand before it
abbrev pub dashed : Word → Word
dashed name = 45 ∷ 45 ∷ name

-- these alone
abbrev pub dashes : Word
dashes = dashed []

-- the name without these
abbrev pub plain_name : Setting → Word
plain_name setting = drop 2 setting.name

abbrev pub name_of : program.Setting → Word
name_of setting = setting.name.now

-- a setting of the program, without where its name lies in memory
abbrev pub setting_of : program.Setting → Setting
setting_of setting = record { name = dashed setting.name.now; least = setting.least; most = setting.most }

-- no octet of the name is '=' (61), and it has one
abbrev pub is_name : Word → Bool
is_name [] = not true
is_name (octet ∷ name) = not (list_any (λ o. o == 61) (octet ∷ name))

-- they are names, no two the same
abbrev pub are_names : List Word → Bool
are_names [] = true
are_names (name ∷ names) = is_name name && (not (list_any (bytes_eq name) names) && are_names names)

-- an option that takes one value, and has to be given
abbrev pub option_rule : Word → Rule
option_rule name = record (new_rule name) { long = Some name; required = true }

-- a program with these options and nothing else
abbrev pub app_with : List Word → App
app_with names = record {
  top = record ((new_app (codes "dnsreplay")).top) {
    rules = map option_rule names;
    no_binary_name = true;
    disable_help_flag = true;
    disable_version_flag = true;
  };
  subs = [];
}

-- the text that was found for an option
abbrev pub text_of : ArgMatches → Setting → Word
text_of matches setting = unwrap_or (first_value (found_of matches) (plain_name setting)) []

-- the texts that were found are these values of the options
abbrev pub AreRead : ArgMatches → List (Setting × ℕ) → Type 0
AreRead matches [] = Unit {0}
AreRead matches (given ∷ others) = IsValue given.0 (text_of matches given.0) given.1 × AreRead matches others

-- the command, which has no options, has this name
abbrev pub IsBareNamed : Word → Command → Type 0
IsBareNamed name (Replay workers) = ⊥
IsBareNamed name (Selfrun seed names queries) = ⊥
IsBareNamed name (Serve listen upstream workers datagrams) = ⊥
IsBareNamed name Chase = name ≡ codes "chase"
IsBareNamed name Redirect = name ≡ codes "redirect"
IsBareNamed name Follow = name ≡ codes "follow"
IsBareNamed name (Tcp listen connections) = ⊥
IsBareNamed name Audit = name ≡ codes "audit"
IsBareNamed name (Forward settings) = ⊥
IsBareNamed name (Help topic) = ⊥
IsBareNamed name Version = ⊥

-- what is asked for by this word, about a command or the program
abbrev pub IsToldBy : Word → Option Topic → Command → Type 0
IsToldBy word topic (Replay workers) = ⊥
IsToldBy word topic (Selfrun seed names queries) = ⊥
IsToldBy word topic (Serve listen upstream workers datagrams) = ⊥
IsToldBy word topic Chase = ⊥
IsToldBy word topic Redirect = ⊥
IsToldBy word topic Follow = ⊥
IsToldBy word topic (Tcp listen connections) = ⊥
IsToldBy word topic Audit = ⊥
IsToldBy word topic (Forward settings) = ⊥
IsToldBy word topic (Help asked) = (word ≡ codes "--help") × (asked ≡ topic)
IsToldBy word topic Version = word ≡ codes "--version"

-- what these words ask for
abbrev pub IsTold : List Word → Command → Type 0
IsTold words command = (topic : Option Topic) × (word : Word) × (words ≡ about topic word) × IsToldBy word topic command

-- ---- the settings of `forward`

-- an option of the program, without where its text lies in memory
abbrev pub choice_of : Chosen → Choice
choice_of chosen = (chosen.flag, chosen.text.now)

-- what a word is by itself
abbrev pub IsSeen : Word → Seen → Type 0
IsSeen word (seen.Alone flag) = word ≡ flag_name flag
IsSeen word (seen.Joined flag text) = word ≡ flag_name flag ++ 61 ∷ text.now
IsSeen word seen.Stray = IsStray word

-- why words don't begin with an option and its value
abbrev pub IsFaultAt : List Word → Fault → Type 0
IsFaultAt words (Stray word) = (more : List Word) × (words ≡ word.now ∷ more) × IsStray word.now
IsFaultAt words (Valueless flag) = (more : List Word) × (words ≡ flag_name flag ∷ more) × HasNoValue more
IsFaultAt words (Wrong flag text cause) = ⊥
IsFaultAt words (Missing flag) = ⊥

-- a fault of the words behind `forward`, or want of memory
abbrev pub IsToldFault : List Word → Refusal → Type 0
IsToldFault words (Faulty fault) = IsFaultIn words fault
IsToldFault words OutOfMemory = Unit {0}

-- the first option that is wrong
abbrev pub IsFirstWrong : List Choice → Fault → Type 0
IsFirstWrong choices (Stray word) = ⊥
IsFirstWrong choices (Valueless flag) = ⊥
IsFirstWrong choices (Wrong flag text cause) =
    (before after : List Choice) × (choices ≡ before ++ (flag, text.now) ∷ after) × AreRight before
    × IsWrong before (flag, text.now) cause
IsFirstWrong choices (Missing flag) = ⊥

-- one is told, or want of memory
abbrev pub IsToldWrong : List Choice → Refusal → Type 0
IsToldWrong choices (Faulty fault) = IsFirstWrong choices fault
IsToldWrong choices OutOfMemory = Unit {0}

-- the options so far set what the draft has
abbrev pub IsDraft : List Choice → Draft → Type 0
IsDraft choices draft =
    AreSet choices draft.listens (option_to_list draft.upstream) (option_to_list draft.workers) draft.passes
    (option_to_list draft.status)

-- one more option is set, or told to be wrong
abbrev pub Takes : Draft → Draft → Choice → Option Cause → Type 0
Takes old new choice told =
    (choices : List Choice) → IsDraft choices old
    → MatchOption told (IsDraft (choices ++ choice ∷ []) new) (IsWrong choices choice)

-- the text is wrong for each option whose value is an address with a port
abbrev pub IsUnplaced : Word → Cause → Type 0
IsUnplaced text cause = (before : List Choice) (flag : Flag) → IsTrue (takes_place flag) → IsWrong before (flag, text) cause

-- the settings are all that the draft has, and nothing lacks
pub record IsDrawn (draft : Draft) (settings : ForwardSettings) : Type 0 where
  pub some : 1 ≤ length settings.listens
  pub listens : draft.listens ≡ settings.listens
  pub upstream : draft.upstream ≡ Some settings.upstream
  pub workers : draft.workers ≡ Some settings.workers
  pub passes : draft.passes ≡ settings.passes
  pub status : draft.status ≡ settings.status

-- the draft lacks what the option sets
abbrev pub Lacks : Draft → Flag → Type 0
Lacks draft Listen = draft.listens ≡ []
Lacks draft Upstream = draft.upstream ≡ None
Lacks draft Workers = draft.workers ≡ None
Lacks draft Pass = ⊥
Lacks draft Status = ⊥
