-- What the words ask for.
use Rattle.std.proofs.Common.{◌≡◌, ◌≤◌, ℕ, List, Option, None, Some, sym, ◌∙◌, ap, subst}
use Rattle.std.specs.Prelude.{IfSome, String}
use Rattle.std.specs.declared.alloc.Global.{Global}
use Rattle.std.proofs.lemmas.Option.{none-some, same_Some}
use Rattle.command_line.specs.Words.{Word, AreWordsOf, Means, texts}
use Rattle.command_line.specs.declared.command.Command.{Command}
use Rattle.command_line.specs.declared.command.Command.TheVariants.{Replay, Selfrun, Serve, Chase, Redirect, Follow, Tcp, Audit, Forward, Help, Version}
use Rattle.command_line.proofs.CommandLemmas.{servable}
use Rattle.serving.specs.declared.service.Service.{Service}
use Rattle.running.specs.Serve.{service_of}

-- what was found is what the words mean
pub found_means : (words : List (String Global)) (found : Option Command) (command asked : Command) → found ≡ Some command → command ≡ asked → IfSome found (AreWordsOf words) → Means (texts words) asked
found_means words found command asked is same read = subst (Means (texts words)) same (subst (λ o. IfSome o (AreWordsOf words)) is read)

-- and nothing else is
pub none_found : (found : Option Command) (asked : Command) → found ≡ None → found ≡ Some asked → ⊥
none_found found asked none is = none-some asked (sym none ∙ is)

asked_of : Command → Service
asked_of (Replay workers) = service_of 0 0 0 0
asked_of (Selfrun seed names queries) = service_of 0 0 0 0
asked_of (Serve listen upstream workers datagrams) = service_of listen upstream workers datagrams
asked_of Chase = service_of 0 0 0 0
asked_of Redirect = service_of 0 0 0 0
asked_of Follow = service_of 0 0 0 0
asked_of (Tcp listen connections) = service_of 0 0 0 0
asked_of Audit = service_of 0 0 0 0
asked_of (Forward settings) = service_of 0 0 0 0
asked_of (Help topic) = service_of 0 0 0 0
asked_of Version = service_of 0 0 0 0

-- one command asks for one service
pub same_service : (command : Command) (l u w d l' u' w' d' : ℕ) → command ≡ Serve l u w d → Some command ≡ Some (Serve l' u' w' d') → service_of l u w d ≡ service_of l' u' w' d'
unfolding asked_of
same_service command l u w d l' u' w' d' is same = ap asked_of (sym is ∙ same_Some command (Serve l' u' w' d') same)

port_of : Command → ℕ
port_of (Replay workers) = 0
port_of (Selfrun seed names queries) = 0
port_of (Serve listen upstream workers datagrams) = 0
port_of Chase = 0
port_of Redirect = 0
port_of Follow = 0
port_of (Tcp listen connections) = listen
port_of Audit = 0
port_of (Forward settings) = 0
port_of (Help topic) = 0
port_of Version = 0

connections_of : Command → ℕ
connections_of (Replay workers) = 0
connections_of (Selfrun seed names queries) = 0
connections_of (Serve listen upstream workers datagrams) = 0
connections_of Chase = 0
connections_of Redirect = 0
connections_of Follow = 0
connections_of (Tcp listen connections) = connections
connections_of Audit = 0
connections_of (Forward settings) = 0
connections_of (Help topic) = 0
connections_of Version = 0

-- and for one port, and so many connections
pub same_tcp : (command : Command) (l c l' c' : ℕ) → command ≡ Tcp l c → Some command ≡ Some (Tcp l' c') → (l ≡ l') × (c ≡ c')
unfolding port_of connections_of
same_tcp command l c l' c' is same = let one = sym is ∙ same_Some command (Tcp l' c') same in (ap port_of one, ap connections_of one)

-- the words ask for 1 to 32 workers
pub workers_in_range : (words : List Word) (l u w d : ℕ) → Means words (Serve l u w d) → (1 ≤ w) × (w ≤ 32)
workers_in_range words l u w d (options, is, gives, ports) = (servable l u w d options gives).workers

-- and 5,000 datagrams at most
pub few_datagrams : (words : List Word) (l u w d : ℕ) → Means words (Serve l u w d) → d ≤ 5000
few_datagrams words l u w d (options, is, gives, ports) = (servable l u w d options gives).datagrams.1
