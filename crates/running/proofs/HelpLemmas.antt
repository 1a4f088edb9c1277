-- Which text the words ask for, and how it is told.
use Rattle.std.proofs.Common.{◌≡◌, ◌⊎◌, ◌∙◌, List, ℕ, Option, None, Some, inl, inr, refl, sym, ap}
use Rattle.std.specs.Prelude.{String}
use Rattle.std.specs.declared.alloc.Global.{Global}
use Rattle.std.proofs.lemmas.Option.{none-some, same_Some}
use Rattle.command_line.specs.Help.{help_of, version_line}
use Rattle.command_line.specs.Words.{AreWordsOf}
use Rattle.command_line.specs.declared.command.Command.{Command}
use Rattle.command_line.specs.declared.command.Command.TheVariants.{Replay, Selfrun, Serve, Chase, Redirect, Follow, Tcp, Audit, Forward, Help, Version}
use Rattle.command_line.specs.declared.topic.Topic.{Topic}
use Rattle.resolver.specs.declared.rule.Rule.TheVariants.{Aliases, Redirection, Both}
use Rattle.resolver.specs.declared.answering.Answering.{Answering}
use Rattle.resolver.specs.declared.answering.Answering.TheVariants.{ByProof, ByWalk}
use Rattle.running.specs.Help.{AsksText}
use Rattle.running.specs.Run.{AsksReplay, IsOfReplay}
use Rattle.running.specs.declared.status.Status.{Status}
use Rattle.running.specs.declared.status.Status.TheVariants.{Good, WriteFault, OutOfMemory}
use Rattle.running.proofs.RunLemmas.{selfrun_complete}

abbrev pub text_of : Command → Option (List ℕ)
text_of (Replay workers) = None
text_of (Selfrun seed names queries) = None
text_of (Serve listen upstream workers datagrams) = None
text_of Chase = None
text_of Redirect = None
text_of Follow = None
text_of (Tcp listen connections) = None
text_of Audit = None
text_of (Forward settings) = None
text_of (Help topic) = Some (help_of topic)
text_of Version = Some version_line

-- the words are a command with this text
record HasText (words : List (String Global)) (text : List ℕ) : Type 0 where
  command : Command
  are : AreWordsOf words command
  is : text_of command ≡ Some text

has_text : (words : List (String Global)) (text : List ℕ) → AsksText words text → HasText words text
has_text words text (inl (topic, are, same)) = record { command = Help topic; are = are; is = ap Some (sym same) }
has_text words text (inr (are, same)) = record { command = Version; are = are; is = ap Some (sym same) }

-- where a command was found, it is the one
text_is : (words : List (String Global)) (found : Option Command) (command own : Command) → found ≡ Some command → command ≡ own
    → ((command : Command) → AreWordsOf words command → found ≡ Some command) → (text : List ℕ) → AsksText words text → text_of own ≡ Some text
text_is words found command own is same every text asks =
    let it = has_text words text asks in
    let one : own ≡ it.command = sym same ∙ same_Some command it.command (sym is ∙ every it.command it.are) in
    ap text_of one ∙ it.is

module _ (words : List (String Global)) (found : Option Command) (command : Command) (is : found ≡ Some command) (every : (command : Command) → AreWordsOf words command → found ≡ Some command) where
  pub asks_help : (text : List ℕ) → AsksText words text → (topic : Option Topic) → command ≡ Help topic → help_of topic ≡ text
  asks_help text asks topic same = same_Some (help_of topic) text (text_is words found command (Help topic) is same every text asks)

  pub asks_version : (text : List ℕ) → AsksText words text → command ≡ Version → version_line ≡ text
  asks_version text asks same = same_Some version_line text (text_is words found command Version is same every text asks)

  -- one that has no text
  pub asks_no_text : (own : Command) → command ≡ own → text_of own ≡ None → (text : List ℕ) → AsksText words text → ⊥
  asks_no_text own same none text asks = none-some text (sym none ∙ text_is words found command own is same every text asks)

  -- one that has a text is no other
  pub tells_alone : (own : Command) → command ≡ own → (text : List ℕ) → text_of own ≡ Some text → (other : Command) → text_of other ≡ None → AreWordsOf words other → ⊥
  tells_alone own same text has other none are =
      let one : own ≡ other = sym same ∙ same_Some command other (sym is ∙ every other are) in
      none-some text (sym none ∙ sym (ap text_of one) ∙ has)

  pub tells_no_replay : (own : Command) → command ≡ own → (text : List ℕ) → text_of own ≡ Some text → (answering : Answering) (workers : ℕ) → AsksReplay words answering workers → ⊥
  tells_no_replay own same text has ByProof workers asks = tells_alone own same text has (Replay workers) refl asks
  tells_no_replay own same text has (ByWalk Aliases) workers asks = tells_alone own same text has Chase refl asks.0
  tells_no_replay own same text has (ByWalk Redirection) workers asks = tells_alone own same text has Redirect refl asks.0
  tells_no_replay own same text has (ByWalk Both) workers asks = tells_alone own same text has Follow refl asks.0

-- where none was found, they ask for none
pub none_told : (words : List (String Global)) (found : Option Command) → found ≡ None → ((command : Command) → AreWordsOf words command → found ≡ Some command) → (text : List ℕ) → AsksText words text → ⊥
none_told words found none every text asks = let it = has_text words text asks in none-some it.command (sym none ∙ every it.command it.are)

-- where no call of the sink failed, it was told
pub told_complete : (Failed : Type 0) (status : Status) → IsOfReplay status → (status ≡ WriteFault → Failed) → (Failed → ⊥) → (status ≡ Good) ⊎ (status ≡ OutOfMemory)
told_complete Failed status is cause calm = selfrun_complete Failed status (inl is) cause calm
