use Rattle.std.proofs.Common.{◌+◌, ◌∷◌, drop, ◌∙◌, ap}
use Rattle.command_line.specs.Words.{texts}
use Rattle.command_line.proofs.ChoiceLemmas.{alone_begins, joined_begins, word_at}
use Rattle.command_line.proofs.choosing.choice_at.Goals as goal

pub returns-in-Joined-clause-read : goal.returns-in-Joined-clause-read
returns-in-Joined-clause-read c =
    let is = word_at c.args.words.now c.args.at c.index-words-at.result c.as_str-word.result.now c.requires c.index-words-at.is c.as_str-word.ensures.value in
    joined_begins c.in-Joined.flag c.in-Joined.text.now c.as_str-word.result.now (texts c.args.words.now) c.args.at is c.in-Joined.ensures

pub returns-in-Some-clause-read : goal.returns-in-Some-clause-read
returns-in-Some-clause-read c =
    let is = word_at c.args.words.now c.args.at c.index-words-at.result c.as_str-word.result.now c.requires c.index-words-at.is c.as_str-word.ensures.value in
    alone_begins c.in-Alone.flag c.in-Some.text.now c.as_str-word.result.now (texts c.args.words.now) c.args.at is c.in-Alone.ensures c.in-Some.ensures.read.0 c.in-Some.ensures.read.1

pub returns-in-None-clause-told : goal.returns-in-None-clause-told
returns-in-None-clause-told c =
    let is = word_at c.args.words.now c.args.at c.index-words-at.result c.as_str-word.result.now c.requires c.index-words-at.is c.as_str-word.ensures.value in
    (drop (c.args.at + 1) (texts c.args.words.now), is ∙ ap (λ w. w ∷ drop (c.args.at + 1) (texts c.args.words.now)) c.in-Alone.ensures, c.in-None.ensures.none)

pub returns-in-Stray-clause-told : goal.returns-in-Stray-clause-told
returns-in-Stray-clause-told c =
    let is = word_at c.args.words.now c.args.at c.index-words-at.result c.as_str-word.result.now c.requires c.index-words-at.is c.as_str-word.ensures.value in
    (drop (c.args.at + 1) (texts c.args.words.now), is, c.in-Stray.ensures)
