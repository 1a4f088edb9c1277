-- What clap's walk makes of one word.
use Rattle.std.proofs.Common.{◌≡◌, inl, inr, ℕ, false, List, [], ◌∷◌, Option, None, Some, refl, sym, ◌∙◌, slice_get, chars}
use Rattle.std.specs.Str.{bytes_eq}
use Rattle.clap.specs.Lexer.{long_of, short_of}
use Rattle.clap.specs.Walk.{Held, Row, Rule, Text, Waiting, Walk, idle, option, positional, arg_by_id, arg_by_index, arg_by_long, arg_by_short, bundle_met, settled_rows, subcommand_met, used, walked}
use Rattle.clap.specs.Kinds.{or_else}
use Rattle.clap.specs.Faults.{flags_fault, react_fault, settle_fault, turn_fault}
use Rattle.clap.specs.declared.error.kind.ErrorKind.TheVariants as kind
use Rattle.command_line.specs.Words.{Word}
use Rattle.command_line.specs.Options.{dashes}
use Rattle.command_line.proofs.LexerLemmas.{Lexed, alone, joined, hyphen, plain, lexed, same}
use Rattle.command_line.proofs.BuildLemmas.{built_option, options, shape, IsFound, found, no_short, some_kind, left_none}

-- the option whose value stands in the next word, or has stood in the last
abbrev pub raw : Option (Word × Word) → Option (Text × List Text)
raw None = None
raw (Some (name, text)) = Some (name, text ∷ [])

abbrev pub held : List Row → Option (Text × List Text) → Held
held rows pending = record { rows = rows; pending = pending; skip = 0 }

abbrev pub at : List Row → Option (Text × List Text) → Waiting → Walk
at rows pending waiting = record { held = held rows pending; waiting = waiting; position = 1; is_trailing = false; stopped = None }

no_subcommand : (waiting : Waiting) (word : Text) → subcommand_met [] waiting word ≡ None
no_subcommand idle word = refl
no_subcommand (option name) word = refl
no_subcommand positional word = refl

module _ (rules : List Rule) (rows : List Row) (pending : Option (Text × List Text)) (waiting : Waiting) (word : Word) (other : bytes_eq word dashes ≡ false) where
  pub joined_fault : (name text : Word) → long_of word ≡ Some (name, Some text) → arg_by_long rules name ≡ Some (built_option name)
      → turn_fault (shape rules) [] (at rows pending waiting) word ≡ or_else (react_fault rules false (built_option name) (text ∷ []) (held rows pending)) []
  joined_fault name text long is = rw (no_subcommand waiting word, other, long, is) refl

  pub joined_next : (name text : Word) → long_of word ≡ Some (name, Some text) → arg_by_long rules name ≡ Some (built_option name)
      → walked rules [] (at rows pending waiting) word ≡ at (used (built_option name) (text ∷ []) (settled_rows rules pending rows)) None idle
  unfolding walked
  joined_next name text long is = rw (no_subcommand waiting word, other, long, is) refl

  pub alone_fault : (name : Word) → long_of word ≡ Some (name, None) → arg_by_long rules name ≡ Some (built_option name)
      → turn_fault (shape rules) [] (at rows pending waiting) word ≡ or_else (settle_fault rules false (held rows pending)) []
  alone_fault name long is = rw (no_subcommand waiting word, other, long, is) refl

  pub alone_next : (name : Word) → long_of word ≡ Some (name, None) → arg_by_long rules name ≡ Some (built_option name)
      → walked rules [] (at rows pending waiting) word ≡ at (settled_rows rules pending rows) (Some (name, [])) (option name)
  unfolding walked
  alone_next name long is = rw (no_subcommand waiting word, other, long, is) refl

  pub unknown_fault : (name : Word) (text : Option Word) → long_of word ≡ Some (name, text) → arg_by_long rules name ≡ None
      → turn_fault (shape rules) [] (at rows pending waiting) word ≡ kind.UnknownArgument ∷ []
  unknown_fault name text long is = rw (no_subcommand waiting word, other, long, is) refl

-- a word that is no option, where none waits for its value
module _ (rules : List Rule) (rows : List Row) (pending : Option (Text × List Text)) (word : Word) (other : bytes_eq word dashes ≡ false) (long : long_of word ≡ None) (none : arg_by_index rules 1 ≡ None) where
  pub stray_plain : short_of word ≡ None → turn_fault (shape rules) [] (at rows pending idle) word ≡ kind.UnknownArgument ∷ []
  stray_plain short = rw (other, long, short, none) refl

  stray_by : (octet : ℕ) (flags : Word) → short_of word ≡ Some (octet ∷ flags) → ((x : ℕ) → arg_by_short rules x ≡ None)
      → (o : Option ℕ) → slice_get (chars (octet ∷ flags)) 0 ≡ o → turn_fault (shape rules) [] (at rows pending idle) word ≡ kind.UnknownArgument ∷ []
  unfolding flags_fault bundle_met
  stray_by octet flags short unknown None e = rw (other, long, short, e, none) refl
  stray_by octet flags short unknown (Some x) e = rw (other, long, short, e, unknown x) refl

  pub stray_hyphen : (octet : ℕ) (flags : Word) → short_of word ≡ Some (octet ∷ flags) → ((x : ℕ) → arg_by_short rules x ≡ None)
      → turn_fault (shape rules) [] (at rows pending idle) word ≡ kind.UnknownArgument ∷ []
  stray_hyphen octet flags short unknown = stray_by octet flags short unknown (slice_get (chars (octet ∷ flags)) 0) refl

abbrev pub waits : List Row → Word → Walk
waits rows name = at rows (Some (name, [])) (option name)

abbrev pub takes : List Row → Word → Word → Walk
takes rows name word = at rows (Some (name, word ∷ [])) idle

-- and where one does
module _ (rules : List Rule) (rows : List Row) (name word : Word) (other : bytes_eq word dashes ≡ false) (long : long_of word ≡ None) (is : arg_by_id rules name ≡ Some (built_option name)) where
  pub taken_fault : short_of word ≡ None → turn_fault (shape rules) [] (waits rows name) word ≡ []
  taken_fault short = rw (other, long, short) refl

  pub taken_next : short_of word ≡ None → walked rules [] (waits rows name) word ≡ takes rows name word
  unfolding walked
  taken_next short = rw (other, long, short, is, same name name refl) refl

  hyphen_by : (octet : ℕ) (flags : Word) → short_of word ≡ Some (octet ∷ flags) → ((x : ℕ) → arg_by_short rules x ≡ None)
      → turn_fault (shape rules) [] (waits rows name) word ≡ [] → (o : Option ℕ) → slice_get (chars (octet ∷ flags)) 0 ≡ o → walked rules [] (waits rows name) word ≡ takes rows name word
  unfolding walked flags_fault bundle_met
  hyphen_by octet flags short unknown passed None e = rw (other, long, short, e, is, same name name refl) refl
  hyphen_by octet flags short unknown passed (Some x) e = absurd (some_kind kind.UnknownArgument [] (rw (other, long, short, e, unknown x) at passed))

  pub hyphen_taken : (octet : ℕ) (flags : Word) → short_of word ≡ Some (octet ∷ flags) → ((x : ℕ) → arg_by_short rules x ≡ None)
      → turn_fault (shape rules) [] (waits rows name) word ≡ [] → walked rules [] (waits rows name) word ≡ takes rows name word
  hyphen_taken octet flags short unknown passed = hyphen_by octet flags short unknown passed (slice_get (chars (octet ∷ flags)) 0) refl

-- an option that waits for its value, and has none, is a fault
unsettled : (rules : List Rule) (rows : List Row) (name : Word) → arg_by_id rules name ≡ Some (built_option name) → settle_fault rules false (held rows (Some (name, []))) ≡ kind.InvalidValue ∷ []
unsettled rules rows name is = rw is refl

pub never_settles : (rules : List Rule) (rows : List Row) (name : Word) → arg_by_id rules name ≡ Some (built_option name) → settle_fault rules false (held rows (Some (name, []))) ≡ [] → ⊥
never_settles rules rows name is e = some_kind kind.InvalidValue [] (sym (unsettled rules rows name is) ∙ e)

-- what stands where a value is wanted is taken, or is a fault
module _ (names : List Word) (rows : List Row) (name word : Word) (other : bytes_eq word dashes ≡ false) (is : arg_by_id (options names) name ≡ Some (built_option name))
    (passed : turn_fault (shape (options names)) [] (waits rows name) word ≡ []) where
  abbrev Taken : Type 0
  Taken = walked (options names) [] (waits rows name) word ≡ takes rows name word

  mid_alone : (next : Word) → long_of word ≡ Some (next, None) → IsFound names next → Taken
  mid_alone next long (inl none) =
      absurd (some_kind kind.UnknownArgument [] (sym (unknown_fault (options names) rows (Some (name, [])) (option name) word other next None long none) ∙ passed))
  mid_alone next long (inr some) =
      absurd (never_settles (options names) rows name is
      (left_none _ [] (sym (alone_fault (options names) rows (Some (name, [])) (option name) word other next long some.0) ∙ passed)))

  mid_joined : (next text : Word) → long_of word ≡ Some (next, Some text) → IsFound names next → Taken
  mid_joined next text long (inl none) =
      absurd (some_kind kind.UnknownArgument [] (sym (unknown_fault (options names) rows (Some (name, [])) (option name) word other next (Some text) long none) ∙ passed))
  mid_joined next text long (inr some) =
      absurd (never_settles (options names) rows name is
      (left_none (settle_fault (options names) false (held rows (Some (name, [])))) _
      (left_none (react_fault (options names) false (built_option next) (text ∷ []) (held rows (Some (name, [])))) []
      (sym (joined_fault (options names) rows (Some (name, [])) (option name) word other next text long some.0) ∙ passed))))

  mid_by : Lexed word → Taken
  mid_by (alone next eq long) = mid_alone next long (found names next)
  mid_by (joined next text eq long) = mid_joined next text long (found names next)
  mid_by (hyphen octet flags long short) = hyphen_taken (options names) rows name word other long is octet flags short (no_short names) passed
  mid_by (plain long short) = taken_next (options names) rows name word other long is short

  pub mid : walked (options names) [] (waits rows name) word ≡ takes rows name word
  mid = mid_by (lexed word)
