use Rattle.std.proofs.Common.{◌∷◌, sym, ◌∙◌, ap, refl}
use Rattle.std.specs.Prelude.{string_bytes}
use Rattle.std.proofs.lemmas.Bool.{false≢true}
use Rattle.command_line.specs.Faults.{IsForward}
use Rattle.command_line.specs.Words.{texts}
use Rattle.command_line.proofs.CommandLemmas.{fault_none, fault_right, fault_told, is_none, no_texts, none_told, not_empty, not_forward, some_told, texts_first}
use Rattle.command_line.proofs.command.fault_of.Goals as goal

pub returns-then-is_some-clause-none : goal.returns-then-is_some-clause-none
returns-then-is_some-clause-none c = λ _.
    some_told (texts c.args.words.now) (string_bytes c.index-words-0.result ∷ texts c.after_first-options.result.now) c.told_of.result
    (texts_first c.args.words.now c.after_first-options.result.now c.index-words-0.result _ (not_empty c.args.words.now _ c.is_empty.ensures c.if-is_empty.false) c.index-words-0.is refl c.after_first-options.ensures)
    (sym c.is_some.ensures ∙ c.if-is_some.true) c.told_of.ensures.read

pub returns-clause-told : goal.returns-clause-told
returns-clause-told c =
    fault_told (texts c.args.words.now) (texts c.after_first-options.result.now) _
    (texts_first c.args.words.now c.after_first-options.result.now c.index-words-0.result _ (not_empty c.args.words.now _ c.is_empty.ensures c.if-is_empty.false) c.index-words-0.is (sym (c.is_word.ensures.0 c.if-not-is_word.false)) c.after_first-options.ensures)
    c.fault_in.ensures.told

pub returns-clause-none : goal.returns-clause-none
returns-clause-none c =
    fault_none (texts c.args.words.now) (texts c.after_first-options.result.now) _ (IsForward c.args.words.now)
    (texts_first c.args.words.now c.after_first-options.result.now c.index-words-0.result _ (not_empty c.args.words.now _ c.is_empty.ensures c.if-is_empty.false) c.index-words-0.is (sym (c.is_word.ensures.0 c.if-not-is_word.false)) c.after_first-options.ensures)
    c.fault_in.ensures.none

pub returns-clause-right : goal.returns-clause-right
returns-clause-right c =
    fault_right (texts c.args.words.now) (texts c.after_first-options.result.now) _
    (texts_first c.args.words.now c.after_first-options.result.now c.index-words-0.result _ (not_empty c.args.words.now _ c.is_empty.ensures c.if-is_empty.false) c.index-words-0.is (sym (c.is_word.ensures.0 c.if-not-is_word.false)) c.after_first-options.ensures)
    (none_told (texts c.args.words.now) (string_bytes c.index-words-0.result ∷ texts c.after_first-options.result.now) c.told_of.result
    (texts_first c.args.words.now c.after_first-options.result.now c.index-words-0.result _ (not_empty c.args.words.now _ c.is_empty.ensures c.if-is_empty.false) c.index-words-0.is refl c.after_first-options.ensures)
    (sym c.is_some.ensures ∙ c.if-is_some.false) c.told_of.ensures.every)
    c.fault_in.ensures.told
