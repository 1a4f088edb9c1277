use Rattle.std.proofs.Common.{sym, ◌∙◌, subst, rules, arith}
use Rattle.command_line.specs.Faults.{HasNoValue}
use Rattle.command_line.proofs.ChoiceLemmas.{word_at}
use Rattle.command_line.proofs.choosing.value_at.Goals as goal

pub returns-then-begins_with_hyphen-clause-none : goal.returns-then-begins_with_hyphen-clause-none
returns-then-begins_with_hyphen-clause-none c =
    let is = word_at c.args.words.now c.args.at c.index-words-at.result c.as_str-text.result.now (search rules) c.index-words-at.is c.as_str-text.ensures.value in
    subst HasNoValue (sym is) (sym c.begins_with_hyphen.ensures ∙ c.if-begins_with_hyphen.true)

pub returns-clause-read : goal.returns-clause-read
returns-clause-read c = (
  sym c.begins_with_hyphen.ensures ∙ c.if-begins_with_hyphen.false,
  word_at c.args.words.now c.args.at c.index-words-at.result c.as_str-text.result.now (search rules) c.index-words-at.is c.as_str-text.ensures.value,
)
