-- Which command words are.
use Rattle.std.proofs.Common.{◌≡◌, ◌≤◌, ◌==◌, ◌+◌, ◌*◌, ℕ, Bool, true, false, List, [], ◌∷◌, ◌++◌, length, Option, None, Some, Result, Ok, Err, is_some, codes, get_or, drop, sym, refl, ◌∙◌, ap, subst, inl, inr, ◌⊎◌, ⊎_elim, arith, length-append}
use Rattle.std.specs.Prelude.{IfNone, IfOk, IfSome, String, string_bytes}
use Rattle.std.specs.declared.alloc.Global.{Global}
use Rattle.std.specs.List.{All}
use Rattle.std.proofs.lemmas.Bool.{eqb-true, eqb-false, false≢true}
use Rattle.facts.proofs.Lists.{same_head, same_tail}
use Rattle.std.proofs.lemmas.List.Elements.{All-nil, All-cons, All-head, All-tail, All-same}
use Rattle.command_line.specs.Words.{AreOptions, AsksForward, Choice, Word, Setting, Sets, about, begins_with_hyphen, flag_name, topic_name, two, one, Gives, nothing, first, Means, texts, workers_setting, seed_setting, names_setting, queries_setting, HasPorts, listen_setting, upstream_setting, datagrams_setting, connections_setting}
use Rattle.command_line.specs.Faults.{IsFaultIn}
use Rattle.command_line.specs.Options.{IsBareNamed, IsTold, IsToldBy}
use Rattle.command_line.specs.declared.command.Command.{Command}
use Rattle.command_line.specs.declared.command.Command.TheVariants.{Replay, Selfrun, Serve, Chase, Redirect, Follow, Tcp, Audit, Forward, Help, Version}
use Rattle.command_line.specs.declared.fault.Fault.{Fault}
use Rattle.command_line.specs.declared.forward_settings.ForwardSettings.{ForwardSettings}
use Rattle.command_line.specs.declared.topic.Topic.{Topic}
use Rattle.command_line.proofs.ForwardLemmas.{fault_refutes}
use Rattle.command_line.proofs.LexerLemmas.{equals_in, has_equals}

-- ---- the first word

pub not_empty : {X : Type 0} (xs : List X) (r : Bool) → r ≡ (length xs == 0) → r ≡ false → 1 ≤ length xs
not_empty xs r test is = let apart = eqb-false (length xs) 0 (sym test ∙ is) in by xs apart
  where
    by : {X : Type 0} (xs : List X) → (length xs ≡ 0 → ⊥) → 1 ≤ length xs
    by [] apart = absurd (apart refl)
    by (x ∷ xs) apart = omega arith

pub is_none : {X : Type 0} (xs : List X) (r : Bool) → r ≡ (length xs == 0) → r ≡ true → length xs ≡ 0
is_none xs r test is = eqb-true (length xs) 0 (sym test ∙ is)

pub no_texts : (words : List (String Global)) → length words ≡ 0 → texts words ≡ []
no_texts [] none = refl
no_texts (w ∷ words) none = absurd (omega (arith, none))

pub texts_first : (words after : List (String Global)) (word : String Global) (text : Word) → 1 ≤ length words → word ≡ get_or words 0 word → text ≡ string_bytes word → after ≡ drop 1 words → texts words ≡ text ∷ texts after
texts_first [] after word text some is text_is after_is = absurd (omega (arith, some))
texts_first (w ∷ words) after word text some is text_is after_is = λ i. (ap string_bytes (sym is) ∙ sym text_is) i ∷ texts (sym after_is i)

-- ---- the commands

abbrev pub OfReplay : ℕ → List Word → Type 0
OfReplay workers options = Gives ((workers_setting, workers) ∷ []) options

abbrev pub OfSelfrun : ℕ → ℕ → ℕ → List Word → Type 0
OfSelfrun seed names queries options = Gives ((seed_setting, seed) ∷ (names_setting, names) ∷ (queries_setting, queries) ∷ []) options

abbrev pub OfServe : ℕ → ℕ → ℕ → ℕ → List Word → Type 0
OfServe listen upstream workers datagrams options =
    Gives ((listen_setting, listen) ∷ (upstream_setting, upstream) ∷ (workers_setting, workers) ∷ (datagrams_setting, datagrams) ∷ []) options

abbrev pub OfTcp : ℕ → ℕ → List Word → Type 0
OfTcp listen connections options = Gives ((listen_setting, listen) ∷ (connections_setting, connections) ∷ []) options

abbrev Answer : Type 0 → Type 0
Answer E = Result (Option Command) E

-- a name's length and first letter, by which all names differ
abbrev mark : Word → ℕ
mark name = 1000 * length name + get_or name 0 0

differ : (front front' : Word) (options options' : List Word) → (mark front == mark front') ≡ false → front ∷ options ≡ front' ∷ options' → ⊥
differ front front' options options' apart e = eqb-false (mark front) (mark front') apart (ap (λ l. mark (get_or l 0 [])) e)

-- ---- words that ask about a command

-- they don't
abbrev pub IsNotTold : List Word → Type 0
IsNotTold words = (command : Command) → IsTold words command → ⊥

help_told : (words : List Word) (topic : Option Topic) → words ≡ about topic (codes "--help") → IsTold words (Help topic)
help_told words topic is = (topic, codes "--help", is, (refl, refl))

version_told : (words : List Word) → Means words Version → IsTold words Version
version_told words (topic, is) = (topic, codes "--version", is, refl)

pub told_means : (words : List Word) (command : Command) → IsTold words command → Means words command
told_means words (Replay workers) (topic, word, is, by) = absurd by
told_means words (Selfrun seed names queries) (topic, word, is, by) = absurd by
told_means words (Serve listen upstream workers datagrams) (topic, word, is, by) = absurd by
told_means words Chase (topic, word, is, by) = absurd by
told_means words Redirect (topic, word, is, by) = absurd by
told_means words Follow (topic, word, is, by) = absurd by
told_means words (Tcp listen connections) (topic, word, is, by) = absurd by
told_means words Audit (topic, word, is, by) = absurd by
told_means words (Forward settings) (topic, word, is, by) = absurd by
told_means words (Help asked) (topic, word, is, (named, same)) = is ∙ ap (about topic) named ∙ ap (λ t. about t (codes "--help")) (sym same)
told_means words Version (topic, word, is, named) = (topic, is ∙ ap (about topic) named)

-- words of a command that runs: no hyphen stands first, and a lone word behind the first joins a value
record Runs (words : List Word) : Type 0 where
  front : Word
  options : List Word
  is : words ≡ front ∷ options
  named : begins_with_hyphen front ≡ false
  joined : (word : Word) → options ≡ word ∷ [] → has_equals word ≡ true

gives_joined : (given : List (Setting × ℕ)) (options : List Word) (word : Word) → Gives given options → 1 ≤ length given → options ≡ word ∷ [] → has_equals word ≡ true
gives_joined given options word (nothing all every none is) some alone = absurd (omega (arith, some, ap length none))
gives_joined given options word (first all before after setting value every front back lacks split (two text read is) others) some alone =
    absurd (omega (arith, ap length alone, ap length split, length-append front back, ap length is))
gives_joined given options word (first all before after setting value every front back lacks split (one text read is) others) some alone =
    let e = sym alone ∙ split ∙ ap (λ f. f ++ back) is in
    ap has_equals (same_head word (setting.name ++ 61 ∷ text) [] back e) ∙ equals_in setting.name text

asks_joined : (options : List Word) (word : Word) (choices : List Choice) → AreOptions choices [] options → options ≡ word ∷ [] → has_equals word ≡ true
asks_joined options word [] given alone = absurd (omega (arith, ap length (sym alone ∙ given)))
asks_joined options word (choice ∷ choices) (behind, two plain is, given) alone = absurd (omega (arith, ap length (sym alone ∙ is)))
asks_joined options word (choice ∷ choices) (behind, one is, given) alone =
    ap has_equals (same_head word (flag_name choice.0 ++ 61 ∷ choice.1) [] behind (sym alone ∙ is)) ∙ equals_in (flag_name choice.0) choice.1

bare_runs : (words : List Word) (front : Word) → words ≡ front ∷ [] → begins_with_hyphen front ≡ false → Runs words
bare_runs words front is named = record { front = front; options = []; is = is; named = named; joined = λ word alone. absurd (omega (arith, ap length alone)) }

-- words ask about a command, or run one
told_or_runs : (words : List Word) (command : Command) → Means words command → IsTold words command ⊎ Runs words
told_or_runs words (Replay workers) (options, is, gives) =
    inr (record { front = codes "replay"; options = options; is = is; named = refl; joined = λ word. gives_joined ((workers_setting, workers) ∷ []) options word gives (omega arith) })
told_or_runs words (Selfrun seed names queries) (options, is, gives) =
    inr (record {
      front = codes "selfrun";
      options = options;
      is = is;
      named = refl;
      joined = λ word. gives_joined ((seed_setting, seed) ∷ (names_setting, names) ∷ (queries_setting, queries) ∷ []) options word gives (omega arith);
    })
told_or_runs words (Serve listen upstream workers datagrams) (options, is, gives, ports) =
    inr (record {
      front = codes "serve";
      options = options;
      is = is;
      named = refl;
      joined = λ word. gives_joined ((listen_setting, listen) ∷ (upstream_setting, upstream) ∷ (workers_setting, workers) ∷ (datagrams_setting, datagrams) ∷ []) options word gives (omega arith);
    })
told_or_runs words Chase is = inr (bare_runs words (codes "chase") is refl)
told_or_runs words Redirect is = inr (bare_runs words (codes "redirect") is refl)
told_or_runs words Follow is = inr (bare_runs words (codes "follow") is refl)
told_or_runs words (Tcp listen connections) (options, is, gives) =
    inr (record {
      front = codes "tcp";
      options = options;
      is = is;
      named = refl;
      joined = λ word. gives_joined ((listen_setting, listen) ∷ (connections_setting, connections) ∷ []) options word gives (omega arith);
    })
told_or_runs words Audit is = inr (bare_runs words (codes "audit") is refl)
told_or_runs words (Forward settings) (options, is, asks) =
    inr (record { front = codes "forward"; options = options; is = is; named = refl; joined = λ word. asks_joined options word asks.choices asks.given })
told_or_runs words (Help topic) is = inl (help_told words topic is)
told_or_runs words Version is = inl (version_told words is)

-- the words that ask about a command, or the program
record IsAsking (word : Word) : Type 0 where
  hyphen : begins_with_hyphen word ≡ true
  bare : has_equals word ≡ false

asking : (word : Word) (topic : Option Topic) (command : Command) → IsToldBy word topic command → IsAsking word
asking word topic (Replay workers) by = absurd by
asking word topic (Selfrun seed names queries) by = absurd by
asking word topic (Serve listen upstream workers datagrams) by = absurd by
asking word topic Chase by = absurd by
asking word topic Redirect by = absurd by
asking word topic Follow by = absurd by
asking word topic (Tcp listen connections) by = absurd by
asking word topic Audit by = absurd by
asking word topic (Forward settings) by = absurd by
asking word topic (Help asked) (named, same) = record { hyphen = ap begins_with_hyphen named; bare = ap has_equals named }
asking word topic Version named = record { hyphen = ap begins_with_hyphen named; bare = ap has_equals named }

told_runs : (words : List Word) (topic : Option Topic) (word : Word) → words ≡ about topic word → IsAsking word → Runs words → ⊥
told_runs words None word is asks runs = false≢true (sym runs.named ∙ ap begins_with_hyphen (same_head runs.front word runs.options [] (sym runs.is ∙ is)) ∙ asks.hyphen)
told_runs words (Some topic) word is asks runs = false≢true (sym asks.bare ∙ runs.joined word (same_tail runs.front (topic_name topic) runs.options (word ∷ []) (sym runs.is ∙ is)))

-- where words ask about a command, they are no other
pub told_alone : (words : List Word) (told command : Command) → IsTold words told → Means words command → IsTold words command
told_alone words told command (topic, word, is, by) means =
    ⊎_elim (λ same. same) (λ runs. absurd (told_runs words topic word is (asking word topic told by) runs)) (told_or_runs words command means)

pub told_every : (words : List Word) (told command : Command) → IsTold words told → ((other : Command) → IsTold words other → Some told ≡ Some other) → Means words command → Some told ≡ Some command
told_every words told command is every means = every command (told_alone words told command is means)

pub not_told : (words parts : List Word) (r : Option Command) → words ≡ parts → ((told : Command) → r ≡ Some told → ⊥) → ((command : Command) → IsTold parts command → r ≡ Some command) → IsNotTold words
not_told words parts r are none every command told = none command (every command (subst (λ ws. IsTold ws command) are told))

-- a test of what is asked about
pub some_told : (words parts : List Word) (r : Option Command) → words ≡ parts → is_some r ≡ true → IfSome r (IsTold parts) → (command : Command) × Means words command
some_told words parts None are some told = absurd (false≢true some)
some_told words parts (Some command) are some told = (command, told_means words command (subst (λ ws. IsTold ws command) (sym are) told))

pub none_told : (words parts : List Word) (r : Option Command) → words ≡ parts → is_some r ≡ false → ((command : Command) → IsTold parts command → r ≡ Some command) → IsNotTold words
none_told words parts r are none every =
    not_told words parts r are (λ told same. false≢true (sym none ∙ ap is_some same)) every

-- ---- the commands with options

pub serve_read : {E : Type 0} (words options : List Word) (r : Answer E) → words ≡ codes "serve" ∷ options
    → IfOk r (λ found. IfSome found (λ command. (listen upstream workers datagrams : ℕ) × (command ≡ Serve listen upstream workers datagrams) × OfServe listen upstream workers datagrams options × HasPorts listen upstream workers))
    → IfOk r (λ found. IfSome found (Means words))
serve_read words options (Err e) is read = tt
serve_read words options (Ok None) is read = tt
serve_read words options (Ok (Some command)) is (listen, upstream, workers, datagrams, same, gives, ports) = subst (Means words) (sym same) (options, is, gives, ports)

pub serve_every : {E : Type 0} (words options : List Word) (r : Answer E) → words ≡ codes "serve" ∷ options → IsNotTold words
    → ((listen upstream workers datagrams : ℕ) → OfServe listen upstream workers datagrams options → HasPorts listen upstream workers → IfOk r (λ found. found ≡ Some (Serve listen upstream workers datagrams)))
    → (command : Command) → Means words command → IfOk r (λ found. found ≡ Some command)
serve_every words options r is other every (Replay workers) (rest, is', gives) = absurd (differ (codes "serve") (codes "replay") options rest refl (sym is ∙ is'))
serve_every words options r is other every (Selfrun seed names queries) (rest, is', gives) = absurd (differ (codes "serve") (codes "selfrun") options rest refl (sym is ∙ is'))
serve_every words options r is other every (Serve listen upstream workers datagrams) (rest, is', gives, ports) =
    every listen upstream workers datagrams (subst (OfServe listen upstream workers datagrams) (ap (drop 1) (sym is' ∙ is)) gives) ports
serve_every words options r is other every Chase is' = absurd (differ (codes "serve") (codes "chase") options [] refl (sym is ∙ is'))
serve_every words options r is other every Redirect is' = absurd (differ (codes "serve") (codes "redirect") options [] refl (sym is ∙ is'))
serve_every words options r is other every Follow is' = absurd (differ (codes "serve") (codes "follow") options [] refl (sym is ∙ is'))
serve_every words options r is other every (Tcp listen connections) (rest, is', gives) = absurd (differ (codes "serve") (codes "tcp") options rest refl (sym is ∙ is'))
serve_every words options r is other every Audit is' = absurd (differ (codes "serve") (codes "audit") options [] refl (sym is ∙ is'))
serve_every words options r is other every (Forward settings) (rest, is', asks) = absurd (differ (codes "serve") (codes "forward") options rest refl (sym is ∙ is'))
serve_every words options r is other every (Help topic) is' = absurd (other (Help topic) (help_told words topic is'))
serve_every words options r is other every Version is' = absurd (other Version (version_told words is'))

pub replay_read : {E : Type 0} (words options : List Word) (r : Answer E) → words ≡ codes "replay" ∷ options → IfOk r (λ found. IfSome found (λ command. (workers : ℕ) × (command ≡ Replay workers) × OfReplay workers options)) → IfOk r (λ found. IfSome found (Means words))
replay_read words options (Err e) is read = tt
replay_read words options (Ok None) is read = tt
replay_read words options (Ok (Some command)) is (workers, same, gives) = subst (Means words) (sym same) (options, is, gives)

pub replay_every : {E : Type 0} (words options : List Word) (r : Answer E) → words ≡ codes "replay" ∷ options → IsNotTold words → ((workers : ℕ) → OfReplay workers options → IfOk r (λ found. found ≡ Some (Replay workers))) → (command : Command) → Means words command → IfOk r (λ found. found ≡ Some command)
replay_every words options r is other every (Replay workers) (rest, is', gives) = every workers (subst (OfReplay workers) (ap (drop 1) (sym is' ∙ is)) gives)
replay_every words options r is other every (Selfrun seed names queries) (rest, is', gives) = absurd (differ (codes "replay") (codes "selfrun") options rest refl (sym is ∙ is'))
replay_every words options r is other every (Serve listen upstream workers datagrams) (rest, is', gives, ports) = absurd (differ (codes "replay") (codes "serve") options rest refl (sym is ∙ is'))
replay_every words options r is other every Chase is' = absurd (differ (codes "replay") (codes "chase") options [] refl (sym is ∙ is'))
replay_every words options r is other every Redirect is' = absurd (differ (codes "replay") (codes "redirect") options [] refl (sym is ∙ is'))
replay_every words options r is other every Follow is' = absurd (differ (codes "replay") (codes "follow") options [] refl (sym is ∙ is'))
replay_every words options r is other every (Tcp listen connections) (rest, is', gives) = absurd (differ (codes "replay") (codes "tcp") options rest refl (sym is ∙ is'))
replay_every words options r is other every Audit is' = absurd (differ (codes "replay") (codes "audit") options [] refl (sym is ∙ is'))
replay_every words options r is other every (Forward settings) (rest, is', asks) = absurd (differ (codes "replay") (codes "forward") options rest refl (sym is ∙ is'))
replay_every words options r is other every (Help topic) is' = absurd (other (Help topic) (help_told words topic is'))
replay_every words options r is other every Version is' = absurd (other Version (version_told words is'))

pub tcp_read : {E : Type 0} (words options : List Word) (r : Answer E) → words ≡ codes "tcp" ∷ options → IfOk r (λ found. IfSome found (λ command. (listen connections : ℕ) × (command ≡ Tcp listen connections) × OfTcp listen connections options)) → IfOk r (λ found. IfSome found (Means words))
tcp_read words options (Err e) is read = tt
tcp_read words options (Ok None) is read = tt
tcp_read words options (Ok (Some command)) is (listen, connections, same, gives) = subst (Means words) (sym same) (options, is, gives)

pub tcp_every : {E : Type 0} (words options : List Word) (r : Answer E) → words ≡ codes "tcp" ∷ options → IsNotTold words → ((listen connections : ℕ) → OfTcp listen connections options → IfOk r (λ found. found ≡ Some (Tcp listen connections))) → (command : Command) → Means words command → IfOk r (λ found. found ≡ Some command)
tcp_every words options r is other every (Replay workers) (rest, is', gives) = absurd (differ (codes "tcp") (codes "replay") options rest refl (sym is ∙ is'))
tcp_every words options r is other every (Selfrun seed names queries) (rest, is', gives) = absurd (differ (codes "tcp") (codes "selfrun") options rest refl (sym is ∙ is'))
tcp_every words options r is other every (Serve listen upstream workers datagrams) (rest, is', gives, ports) = absurd (differ (codes "tcp") (codes "serve") options rest refl (sym is ∙ is'))
tcp_every words options r is other every Chase is' = absurd (differ (codes "tcp") (codes "chase") options [] refl (sym is ∙ is'))
tcp_every words options r is other every Redirect is' = absurd (differ (codes "tcp") (codes "redirect") options [] refl (sym is ∙ is'))
tcp_every words options r is other every Follow is' = absurd (differ (codes "tcp") (codes "follow") options [] refl (sym is ∙ is'))
tcp_every words options r is other every (Tcp listen connections) (rest, is', gives) = every listen connections (subst (OfTcp listen connections) (ap (drop 1) (sym is' ∙ is)) gives)
tcp_every words options r is other every Audit is' = absurd (differ (codes "tcp") (codes "audit") options [] refl (sym is ∙ is'))
tcp_every words options r is other every (Forward settings) (rest, is', asks) = absurd (differ (codes "tcp") (codes "forward") options rest refl (sym is ∙ is'))
tcp_every words options r is other every (Help topic) is' = absurd (other (Help topic) (help_told words topic is'))
tcp_every words options r is other every Version is' = absurd (other Version (version_told words is'))

pub selfrun_read : {E : Type 0} (words options : List Word) (r : Answer E) → words ≡ codes "selfrun" ∷ options → IfOk r (λ found. IfSome found (λ command. (seed names queries : ℕ) × (command ≡ Selfrun seed names queries) × OfSelfrun seed names queries options)) → IfOk r (λ found. IfSome found (Means words))
selfrun_read words options (Err e) is read = tt
selfrun_read words options (Ok None) is read = tt
selfrun_read words options (Ok (Some command)) is (seed, names, queries, same, gives) = subst (Means words) (sym same) (options, is, gives)

pub selfrun_every : {E : Type 0} (words options : List Word) (r : Answer E) → words ≡ codes "selfrun" ∷ options → IsNotTold words → ((seed names queries : ℕ) → OfSelfrun seed names queries options → IfOk r (λ found. found ≡ Some (Selfrun seed names queries))) → (command : Command) → Means words command → IfOk r (λ found. found ≡ Some command)
selfrun_every words options r is other every (Replay workers) (rest, is', gives) = absurd (differ (codes "selfrun") (codes "replay") options rest refl (sym is ∙ is'))
selfrun_every words options r is other every (Selfrun seed names queries) (rest, is', gives) = every seed names queries (subst (OfSelfrun seed names queries) (ap (drop 1) (sym is' ∙ is)) gives)
selfrun_every words options r is other every (Serve listen upstream workers datagrams) (rest, is', gives, ports) = absurd (differ (codes "selfrun") (codes "serve") options rest refl (sym is ∙ is'))
selfrun_every words options r is other every Chase is' = absurd (differ (codes "selfrun") (codes "chase") options [] refl (sym is ∙ is'))
selfrun_every words options r is other every Redirect is' = absurd (differ (codes "selfrun") (codes "redirect") options [] refl (sym is ∙ is'))
selfrun_every words options r is other every Follow is' = absurd (differ (codes "selfrun") (codes "follow") options [] refl (sym is ∙ is'))
selfrun_every words options r is other every (Tcp listen connections) (rest, is', gives) = absurd (differ (codes "selfrun") (codes "tcp") options rest refl (sym is ∙ is'))
selfrun_every words options r is other every Audit is' = absurd (differ (codes "selfrun") (codes "audit") options [] refl (sym is ∙ is'))
selfrun_every words options r is other every (Forward settings) (rest, is', asks) = absurd (differ (codes "selfrun") (codes "forward") options rest refl (sym is ∙ is'))
selfrun_every words options r is other every (Help topic) is' = absurd (other (Help topic) (help_told words topic is'))
selfrun_every words options r is other every Version is' = absurd (other Version (version_told words is'))

pub forward_read : {E : Type 0} (words options : List Word) (r : Answer E) → words ≡ codes "forward" ∷ options → IfOk r (λ found. IfSome found (λ command. (settings : ForwardSettings) × (command ≡ Forward settings) × AsksForward options settings)) → IfOk r (λ found. IfSome found (Means words))
forward_read words options (Err e) is read = tt
forward_read words options (Ok None) is read = tt
forward_read words options (Ok (Some command)) is (settings, same, asks) = subst (Means words) (sym same) (options, is, asks)

-- what words that begin so mean
pub record IsForwarding (options : List Word) (command : Command) : Type 0 where
  pub settings : ForwardSettings
  pub same : command ≡ Forward settings
  pub asks : AsksForward options settings

pub forward_alone : (words options : List Word) (command : Command) → words ≡ codes "forward" ∷ options → IsNotTold words → Means words command → IsForwarding options command
forward_alone words options (Replay workers) is other (rest, is', gives) = absurd (differ (codes "forward") (codes "replay") options rest refl (sym is ∙ is'))
forward_alone words options (Selfrun seed names queries) is other (rest, is', gives) = absurd (differ (codes "forward") (codes "selfrun") options rest refl (sym is ∙ is'))
forward_alone words options (Serve listen upstream workers datagrams) is other (rest, is', gives, ports) = absurd (differ (codes "forward") (codes "serve") options rest refl (sym is ∙ is'))
forward_alone words options Chase is other is' = absurd (differ (codes "forward") (codes "chase") options [] refl (sym is ∙ is'))
forward_alone words options Redirect is other is' = absurd (differ (codes "forward") (codes "redirect") options [] refl (sym is ∙ is'))
forward_alone words options Follow is other is' = absurd (differ (codes "forward") (codes "follow") options [] refl (sym is ∙ is'))
forward_alone words options (Tcp listen connections) is other (rest, is', gives) = absurd (differ (codes "forward") (codes "tcp") options rest refl (sym is ∙ is'))
forward_alone words options Audit is other is' = absurd (differ (codes "forward") (codes "audit") options [] refl (sym is ∙ is'))
forward_alone words options (Forward settings) is other (rest, is', asks) =
    record { settings = settings; same = refl; asks = subst (λ o. AsksForward o settings) (ap (drop 1) (sym is' ∙ is)) asks }
forward_alone words options (Help topic) is other is' = absurd (other (Help topic) (help_told words topic is'))
forward_alone words options Version is other is' = absurd (other Version (version_told words is'))

pub forward_every : {E : Type 0} (words options : List Word) (r : Answer E) → words ≡ codes "forward" ∷ options → IsNotTold words → ((settings : ForwardSettings) → AsksForward options settings → IfOk r (λ found. found ≡ Some (Forward settings))) → (command : Command) → Means words command → IfOk r (λ found. found ≡ Some command)
forward_every words options r is other every command means =
    let f = forward_alone words options command is other means in
    subst (λ c. IfOk r (λ found. found ≡ Some c)) (sym f.same) (every f.settings f.asks)

-- the first word, and those behind it
first_is : (words options rest : List Word) (front front' : Word) → words ≡ front ∷ options → words ≡ front' ∷ rest → front ≡ front'
first_is words options rest front front' is is' = ap (λ l. get_or l 0 []) (sym is ∙ is')

rest_is : (words options rest : List Word) (front front' : Word) → words ≡ front ∷ options → words ≡ front' ∷ rest → options ≡ rest
rest_is words options rest front front' is is' = ap (drop 1) (sym is ∙ is')

-- the fault of words behind `forward` is that of the words
pub fault_told : {E : Type 0} (words options : List Word) (r : Result (Option Fault) E) → words ≡ codes "forward" ∷ options → IfOk r (λ found. IfSome found (IsFaultIn options))
    → IfOk r (λ found. IfSome found (λ fault. (rest : List Word) × (words ≡ codes "forward" ∷ rest) × IsFaultIn rest fault))
fault_told words options (Err e) is told = tt
fault_told words options (Ok None) is told = tt
fault_told words options (Ok (Some fault)) is told = (options, is, told)

pub fault_none : {E : Type 0} (words options : List Word) (r : Result (Option Fault) E) (begun : Type 0) → words ≡ codes "forward" ∷ options → IfOk r (λ found. IfNone found ((settings : ForwardSettings) × AsksForward options settings))
    → IfOk r (λ found. IfNone found (begun → (command : Command) × Means words command))
fault_none words options (Err e) begun is none = tt
fault_none words options (Ok (Some fault)) begun is none = tt
fault_none words options (Ok None) begun is none = λ _. (Forward none.0, (options, is, none.1))

pub fault_right : {E : Type 0} (words options : List Word) (r : Result (Option Fault) E) → words ≡ codes "forward" ∷ options → IsNotTold words → IfOk r (λ found. IfSome found (IsFaultIn options))
    → (command : Command) × Means words command → IfOk r (λ found. found ≡ None)
fault_right words options (Err e) is other told right = tt
fault_right words options (Ok None) is other told right = refl
fault_right words options (Ok (Some fault)) is other told (command, means) =
    let f = forward_alone words options command is other means in
    absurd (fault_refutes options fault f.settings told f.asks)

-- words that don't begin so have none
pub not_forward : (words options rest : List Word) (front : Word) → words ≡ front ∷ options → (front ≡ codes "forward" → ⊥) → words ≡ codes "forward" ∷ rest → ⊥
not_forward words options rest front is other begun = other (first_is words options rest front (codes "forward") is begun)

-- ---- the commands without options

pub bare_read : (words options : List Word) (front : Word) (r : Option Command) → words ≡ front ∷ options → IfSome r (λ command. (options ≡ []) × IsBareNamed front command) → IfSome r (Means words)
bare_read words options front None is read = tt
bare_read words options front (Some (Replay workers)) is (none, named) = absurd named
bare_read words options front (Some (Selfrun seed names queries)) is (none, named) = absurd named
bare_read words options front (Some (Serve listen upstream workers datagrams)) is (none, named) = absurd named
bare_read words options front (Some Chase) is (none, named) = is ∙ (λ i. named i ∷ none i)
bare_read words options front (Some Redirect) is (none, named) = is ∙ (λ i. named i ∷ none i)
bare_read words options front (Some Follow) is (none, named) = is ∙ (λ i. named i ∷ none i)
bare_read words options front (Some (Tcp listen connections)) is (none, named) = absurd named
bare_read words options front (Some Audit) is (none, named) = is ∙ (λ i. named i ∷ none i)
bare_read words options front (Some (Forward settings)) is (none, named) = absurd named
bare_read words options front (Some (Help topic)) is (none, named) = absurd named
bare_read words options front (Some Version) is (none, named) = absurd named

pub bare_every : (words options : List Word) (front : Word) (r : Option Command) → words ≡ front ∷ options → (front ≡ codes "replay" → ⊥) → (front ≡ codes "selfrun" → ⊥) → (front ≡ codes "serve" → ⊥) → (front ≡ codes "tcp" → ⊥) → (front ≡ codes "forward" → ⊥) → IsNotTold words
    → ((command : Command) → options ≡ [] → IsBareNamed front command → r ≡ Some command) → (command : Command) → Means words command → r ≡ Some command
bare_every words options front r is replay selfrun serve tcp forward other every (Replay workers) (rest, is', gives) = absurd (replay (first_is words options rest front (codes "replay") is is'))
bare_every words options front r is replay selfrun serve tcp forward other every (Selfrun seed names queries) (rest, is', gives) = absurd (selfrun (first_is words options rest front (codes "selfrun") is is'))
bare_every words options front r is replay selfrun serve tcp forward other every (Serve listen upstream workers datagrams) (rest, is', gives, ports) = absurd (serve (first_is words options rest front (codes "serve") is is'))
bare_every words options front r is replay selfrun serve tcp forward other every Chase is' = every Chase (rest_is words options [] front (codes "chase") is is') (first_is words options [] front (codes "chase") is is')
bare_every words options front r is replay selfrun serve tcp forward other every Redirect is' = every Redirect (rest_is words options [] front (codes "redirect") is is') (first_is words options [] front (codes "redirect") is is')
bare_every words options front r is replay selfrun serve tcp forward other every Follow is' = every Follow (rest_is words options [] front (codes "follow") is is') (first_is words options [] front (codes "follow") is is')
bare_every words options front r is replay selfrun serve tcp forward other every (Tcp listen connections) (rest, is', gives) = absurd (tcp (first_is words options rest front (codes "tcp") is is'))
bare_every words options front r is replay selfrun serve tcp forward other every Audit is' = every Audit (rest_is words options [] front (codes "audit") is is') (first_is words options [] front (codes "audit") is is')
bare_every words options front r is replay selfrun serve tcp forward other every (Forward settings) (rest, is', asks) = absurd (forward (first_is words options rest front (codes "forward") is is'))
bare_every words options front r is replay selfrun serve tcp forward other every (Help topic) is' = absurd (other (Help topic) (help_told words topic is'))
bare_every words options front r is replay selfrun serve tcp forward other every Version is' = absurd (other Version (version_told words is'))

pub no_words : (words : List Word) → words ≡ [] → (command : Command) → Means words command → ⊥
no_words words none (Replay workers) (rest, is, gives) = absurd (omega (arith, ap length (sym none ∙ is)))
no_words words none (Selfrun seed names queries) (rest, is, gives) = absurd (omega (arith, ap length (sym none ∙ is)))
no_words words none (Serve listen upstream workers datagrams) (rest, is, gives, ports) = absurd (omega (arith, ap length (sym none ∙ is)))
no_words words none Chase is = absurd (omega (arith, ap length (sym none ∙ is)))
no_words words none Redirect is = absurd (omega (arith, ap length (sym none ∙ is)))
no_words words none Follow is = absurd (omega (arith, ap length (sym none ∙ is)))
no_words words none (Tcp listen connections) (rest, is, gives) = absurd (omega (arith, ap length (sym none ∙ is)))
no_words words none Audit is = absurd (omega (arith, ap length (sym none ∙ is)))
no_words words none (Forward settings) (rest, is, asks) = absurd (omega (arith, ap length (sym none ∙ is)))
no_words words none (Help None) is = absurd (omega (arith, ap length (sym none ∙ is)))
no_words words none (Help (Some topic)) is = absurd (omega (arith, ap length (sym none ∙ is)))
no_words words none Version (None, is) = absurd (omega (arith, ap length (sym none ∙ is)))
no_words words none Version (Some topic, is) = absurd (omega (arith, ap length (sym none ∙ is)))

-- ---- the values lie in their ranges

abbrev InRange : Setting × ℕ → Type 0
InRange given = (given.0.least ≤ given.1) × (given.1 ≤ given.0.most)

sets_in_range : (setting : Setting) (value : ℕ) (words : List Word) → Sets setting value words → InRange (setting, value)
sets_in_range setting value words (two text read is) = (read.least, read.most)
sets_in_range setting value words (one text read is) = (read.least, read.most)

put_in : {X : Type 0} (P : X → Type 0) (before after : List X) (x : X) → P x → All P (before ++ after) → All P (before ++ x ∷ after)
put_in P [] after x here all = All-cons P x after here all
put_in P (b ∷ before) after x here all =
    All-cons P b (before ++ x ∷ after) (All-head P b (before ++ after) all) (put_in P before after x here (All-tail P b (before ++ after) all))

all_in_range : (given : List (Setting × ℕ)) (words : List Word) → Gives given words → All InRange given
all_in_range given words (nothing all every none is) = All-same InRange given [] none (All-nil InRange)
all_in_range given words (first all before after setting value every front back lacks joined sets others) =
    All-same InRange given (before ++ (setting, value) ∷ after) lacks
    (put_in InRange before after (setting, value) (sets_in_range setting value front sets) (all_in_range (before ++ after) back others))

-- the words ask for 1 to 10,000 names and at most 100,000 queries
pub selfrun_in_range : (words : List Word) (seed names queries : ℕ) → Means words (Selfrun seed names queries) → ((1 ≤ names) × (names ≤ 10000)) × (queries ≤ 100000)
selfrun_in_range words seed names queries (options, is, gives) =
    let all = all_in_range ((seed_setting, seed) ∷ (names_setting, names) ∷ (queries_setting, queries) ∷ []) options gives in
    let two = All-tail InRange (seed_setting, seed) ((names_setting, names) ∷ (queries_setting, queries) ∷ []) all in
    let last = All-tail InRange (names_setting, names) ((queries_setting, queries) ∷ []) two in
    (All-head InRange (names_setting, names) ((queries_setting, queries) ∷ []) two, (All-head InRange (queries_setting, queries) [] last).1)

pub one_in_range : (setting : Setting) (value : ℕ) (words : List Word) → Gives ((setting, value) ∷ []) words → (setting.least ≤ value) × (value ≤ setting.most)
one_in_range setting value words gives = All-head InRange (setting, value) [] (all_in_range ((setting, value) ∷ []) words gives)

-- the words ask for 1 to 32 workers
pub replay_in_range : (words : List Word) (workers : ℕ) → Means words (Replay workers) → (1 ≤ workers) × (workers ≤ 32)
replay_in_range words workers (options, is, gives) = one_in_range workers_setting workers options gives

-- what is asked of a server lies in its ranges
pub record IsServable (l u w d : ℕ) : Type 0 where
  pub listen : (1 ≤ l) × (l ≤ 65535)
  pub upstream : (1 ≤ u) × (u ≤ 65535)
  pub workers : (1 ≤ w) × (w ≤ 32)
  pub datagrams : (1 ≤ d) × (d ≤ 5000)

pub servable : (l u w d : ℕ) (options : List Word) → OfServe l u w d options → IsServable l u w d
servable l u w d options gives =
    let all = all_in_range ((listen_setting, l) ∷ (upstream_setting, u) ∷ (workers_setting, w) ∷ (datagrams_setting, d) ∷ []) options gives in
    let two = All-tail InRange (listen_setting, l) ((upstream_setting, u) ∷ (workers_setting, w) ∷ (datagrams_setting, d) ∷ []) all in
    let three = All-tail InRange (upstream_setting, u) ((workers_setting, w) ∷ (datagrams_setting, d) ∷ []) two in
    let four = All-tail InRange (workers_setting, w) ((datagrams_setting, d) ∷ []) three in
    record {
      listen = All-head InRange (listen_setting, l) ((upstream_setting, u) ∷ (workers_setting, w) ∷ (datagrams_setting, d) ∷ []) all;
      upstream = All-head InRange (upstream_setting, u) ((workers_setting, w) ∷ (datagrams_setting, d) ∷ []) two;
      workers = All-head InRange (workers_setting, w) ((datagrams_setting, d) ∷ []) three;
      datagrams = All-head InRange (datagrams_setting, d) [] four;
    }

-- ---- one command has one meaning

pub same_workers : (command : Command) (workers asked : ℕ) → command ≡ Replay workers → Some command ≡ Some (Replay asked) → workers ≡ asked
same_workers command workers asked is same = cc

pub same_selfrun : (command : Command) (seed names queries seed' names' queries' : ℕ) → command ≡ Selfrun seed names queries → Some command ≡ Some (Selfrun seed' names' queries') → (seed ≡ seed') × (names ≡ names') × (queries ≡ queries')
same_selfrun command seed names queries seed' names' queries' is same = (cc, cc, cc)
