-- What the words of `forward` ask for, and how it ends.
use Rattle.std.proofs.Common.{◌≡◌, ◌≤◌, ◌∙◌, ℕ, Bool, true, false, true≢false, List, [], ◌∷◌, length, Option, None, Some, inl, inr, zero, refl, sym, arith}
use Rattle.std.specs.Prelude.{IfSome, MatchBool, String}
use Rattle.std.specs.declared.alloc.Global.{Global}
use Rattle.std.proofs.lemmas.Option.{same_Some}
use Rattle.outside_core.specs.Fault.{Rose}
use Rattle.command_line.specs.Words.{Word, AreWordsOf, IsValue, Means, texts_of, workers_setting}
use Rattle.command_line.specs.declared.command.Command.{Command}
use Rattle.command_line.specs.declared.command.Command.TheVariants.{Forward}
use Rattle.command_line.specs.declared.flag.Flag.TheVariants.{Workers}
use Rattle.command_line.specs.declared.forward_settings.ForwardSettings.{ForwardSettings}
use Rattle.command_line.proofs.SpelledLemmas.{text_of_value}
use Rattle.running.specs.Forward.{IsOfForward, IsWant}
use Rattle.running.specs.declared.status.Status.{Status}
use Rattle.running.specs.declared.status.Status.TheVariants.{ListenFault}

-- it listens at eight addresses at most
pub few_listens : (words : List Word) (settings : ForwardSettings) → Means words (Forward settings) → length settings.listens ≤ 8
few_listens words settings (options, is, asks) = asks.set.few

-- with 1 to 32 workers
pub forwarders_in_range : (words : List Word) (settings : ForwardSettings) → Means words (Forward settings) → (1 ≤ settings.workers) × (settings.workers ≤ 32)
forwarders_in_range words settings (options, is, asks) =
    let found = text_of_value (IsValue workers_setting) (texts_of Workers asks.choices) (settings.workers ∷ []) settings.workers asks.set.workers (zero, omega arith, refl) in
    (found.2.least, found.2.most)

-- the command for which the outlets are is the one that was found
pub asked_is_found : (words : List (String Global)) (found : Option Command) (command own : Command) (asked : Option Command) → found ≡ Some command → command ≡ own
    → ((command : Command) → AreWordsOf words command → found ≡ Some command) → IfSome asked (AreWordsOf words) → IfSome asked (λ command. command ≡ own)
asked_is_found words found command own None is same every are = tt
asked_is_found words found command own (Some one) is same every are = sym (same_Some command one (sym is ∙ every one are)) ∙ same

-- a refusal has made the count rise
pub rose_of : (want : Bool) (before after : ℕ) → MatchBool want (after ≡ before) (Rose before after) → want ≡ false → Rose before after
rose_of true before after counts is = absurd (true≢false is)
rose_of false before after counts is = counts

-- want of memory has left it as it was
pub calm_of : (want : Bool) (before after : ℕ) → MatchBool want (after ≡ before) (Rose before after) → want ≡ true → after ≡ before
calm_of true before after counts is = counts
calm_of false before after counts is = absurd (true≢false (sym is))

-- where nothing was refused, there was no memory, or no thread
pub want_where_calm : (Failed : Type 0) (status : Status) → IsOfForward status → (status ≡ ListenFault → Failed) → (Failed → ⊥) → IsWant status
want_where_calm Failed status (inl want) cause calm = want
want_where_calm Failed status (inr refused) cause calm = absurd (calm (cause refused))
