-- Which replay the words ask for.
use Rattle.std.proofs.Common.{◌≡◌, ℕ, List, Option, None, Some, refl, sym, ◌∙◌, ap}
use Rattle.std.specs.Prelude.{String}
use Rattle.std.specs.declared.alloc.Global.{Global}
use Rattle.std.proofs.lemmas.Option.{none-some, same_Some}
use Rattle.resolver.specs.declared.rule.Rule.TheVariants.{Aliases, Redirection, Both}
use Rattle.resolver.specs.declared.answering.Answering.{Answering}
use Rattle.resolver.specs.declared.answering.Answering.TheVariants.{ByProof, ByWalk}
use Rattle.command_line.specs.Words.{AreWordsOf}
use Rattle.command_line.specs.declared.command.Command.{Command}
use Rattle.command_line.specs.declared.command.Command.TheVariants.{Replay, Selfrun, Serve, Chase, Redirect, Follow, Tcp, Audit, Forward, Help, Version}
use Rattle.running.specs.Run.{AsksReplay}

answering_of : Command → Answering
answering_of (Replay workers) = ByProof
answering_of (Selfrun seed names queries) = ByProof
answering_of (Serve listen upstream workers datagrams) = ByProof
answering_of Chase = ByWalk Aliases
answering_of Redirect = ByWalk Redirection
answering_of Follow = ByWalk Both
answering_of (Tcp listen connections) = ByProof
answering_of Audit = ByProof
answering_of (Forward settings) = ByProof
answering_of (Help topic) = ByProof
answering_of Version = ByProof

workers_of : Command → ℕ
workers_of (Replay workers) = workers
workers_of (Selfrun seed names queries) = 0
workers_of (Serve listen upstream workers datagrams) = 0
workers_of Chase = 1
workers_of Redirect = 1
workers_of Follow = 1
workers_of (Tcp listen connections) = 0
workers_of Audit = 0
workers_of (Forward settings) = 0
workers_of (Help topic) = 0
workers_of Version = 0

-- the words are a command that replays so
record Asked (words : List (String Global)) (answering : Answering) (workers : ℕ) : Type 0 where
  command : Command
  are : AreWordsOf words command
  by : answering ≡ answering_of command
  for_all : workers ≡ workers_of command

asked : (words : List (String Global)) (answering : Answering) (workers : ℕ) → AsksReplay words answering workers → Asked words answering workers
unfolding answering_of workers_of
asked words ByProof workers asks = record { command = Replay workers; are = asks; by = refl; for_all = refl }
asked words (ByWalk Aliases) workers asks = record { command = Chase; are = asks.0; by = refl; for_all = asks.1 }
asked words (ByWalk Redirection) workers asks = record { command = Redirect; are = asks.0; by = refl; for_all = asks.1 }
asked words (ByWalk Both) workers asks = record { command = Follow; are = asks.0; by = refl; for_all = asks.1 }

-- where a command was found, it is the one
record IsAsked (own : Command) (answering : Answering) (workers : ℕ) : Type 0 where
  by : answering ≡ answering_of own
  for_all : workers ≡ workers_of own

asked_is : (words : List (String Global)) (found : Option Command) (command own : Command) → found ≡ Some command → command ≡ own
    → ((command : Command) → AreWordsOf words command → found ≡ Some command) → (answering : Answering) (workers : ℕ) → AsksReplay words answering workers → IsAsked own answering workers
asked_is words found command own is same every answering workers asks =
    let it = asked words answering workers asks in
    let one : it.command ≡ own = sym (same_Some command it.command (sym is ∙ every it.command it.are)) ∙ same in
    record { by = it.by ∙ ap answering_of one; for_all = it.for_all ∙ ap workers_of one }

module _ (words : List (String Global)) (found : Option Command) (command : Command) (is : found ≡ Some command) (every : (command : Command) → AreWordsOf words command → found ≡ Some command)
    (answering : Answering) (workers : ℕ) (asks : AsksReplay words answering workers) where
  pub asks_replay : (all : ℕ) → command ≡ Replay all → (answering ≡ ByProof) × (workers ≡ all)
  unfolding answering_of workers_of
  asks_replay all same = let it = asked_is words found command (Replay all) is same every answering workers asks in (it.by, it.for_all)

-- where none was found, they ask for none
pub none_asked : (words : List (String Global)) (found : Option Command) → found ≡ None → ((command : Command) → AreWordsOf words command → found ≡ Some command) → (answering : Answering) (workers : ℕ) → AsksReplay words answering workers → ⊥
none_asked words found none every answering workers asks = let it = asked words answering workers asks in none-some it.command (sym none ∙ every it.command it.are)
