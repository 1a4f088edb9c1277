use Rattle.std.proofs.Common.{◌∷◌, sym, ◌∙◌, refl, subst}
use Rattle.std.specs.Prelude.{string_bytes}
use Rattle.std.proofs.lemmas.Bool.{false≢true}
use Rattle.command_line.specs.Options.{IsTold}
use Rattle.command_line.specs.Words.{texts}
use Rattle.command_line.proofs.CommandLemmas.{bare_every, bare_read, forward_every, forward_read, is_none, no_texts, no_words, not_empty, not_told, replay_every, replay_read, selfrun_every, selfrun_read, serve_every, serve_read, tcp_every, tcp_read, texts_first, told_every, told_means}
use Rattle.command_line.proofs.command.command_of.Goals as goal

pub returns-then-is_empty-clause-every : goal.returns-then-is_empty-clause-every
returns-then-is_empty-clause-every c = λ command are.
    absurd (no_words (texts c.args.words.now) (no_texts c.args.words.now (is_none c.args.words.now _ c.is_empty.ensures c.if-is_empty.true)) command are)

pub returns-in-Some-clause-read : goal.returns-in-Some-clause-read
returns-in-Some-clause-read c =
    let are = texts_first c.args.words.now c.after_first-options.result.now c.index-words-0.result _ (not_empty c.args.words.now _ c.is_empty.ensures c.if-is_empty.false) c.index-words-0.is refl c.after_first-options.ensures in
    told_means (texts c.args.words.now) c.in-Some.told (subst (λ words. IsTold words c.in-Some.told) (sym are) c.in-Some.ensures.read)

pub returns-in-Some-clause-every : goal.returns-in-Some-clause-every
returns-in-Some-clause-every c = λ command means.
    let are = texts_first c.args.words.now c.after_first-options.result.now c.index-words-0.result _ (not_empty c.args.words.now _ c.is_empty.ensures c.if-is_empty.false) c.index-words-0.is refl c.after_first-options.ensures in
    told_every (texts c.args.words.now) c.in-Some.told command (subst (λ words. IsTold words c.in-Some.told) (sym are) c.in-Some.ensures.read)
    (λ other told. c.in-Some.ensures.every other (subst (λ words. IsTold words other) are told)) means

pub returns-then-is_word-clause-read : goal.returns-then-is_word-clause-read
returns-then-is_word-clause-read c =
    replay_read (texts c.args.words.now) (texts c.after_first-options.result.now) _
    (texts_first c.args.words.now c.after_first-options.result.now c.index-words-0.result _ (not_empty c.args.words.now _ c.is_empty.ensures c.if-is_empty.false) c.index-words-0.is (sym (c.is_word.ensures.0 c.if-is_word.true)) c.after_first-options.ensures)
    c.replay_of.ensures.read

pub returns-then-is_word-clause-every : goal.returns-then-is_word-clause-every
returns-then-is_word-clause-every c =
    replay_every (texts c.args.words.now) (texts c.after_first-options.result.now) _
    (texts_first c.args.words.now c.after_first-options.result.now c.index-words-0.result _ (not_empty c.args.words.now _ c.is_empty.ensures c.if-is_empty.false) c.index-words-0.is (sym (c.is_word.ensures.0 c.if-is_word.true)) c.after_first-options.ensures)
    (not_told (texts c.args.words.now) (string_bytes c.index-words-0.result ∷ texts c.after_first-options.result.now) c.told_of.result (texts_first c.args.words.now c.after_first-options.result.now c.index-words-0.result _ (not_empty c.args.words.now _ c.is_empty.ensures c.if-is_empty.false) c.index-words-0.is refl c.after_first-options.ensures) c.in_default.not-Some c.told_of.ensures.every)
    c.replay_of.ensures.every

pub returns-then-is_word-2-clause-read : goal.returns-then-is_word-2-clause-read
returns-then-is_word-2-clause-read c =
    selfrun_read (texts c.args.words.now) (texts c.after_first-options.result.now) _
    (texts_first c.args.words.now c.after_first-options.result.now c.index-words-0.result _ (not_empty c.args.words.now _ c.is_empty.ensures c.if-is_empty.false) c.index-words-0.is (sym (c.is_word-2.ensures.0 c.if-is_word-2.true)) c.after_first-options.ensures)
    c.selfrun_of.ensures.read

pub returns-then-is_word-2-clause-every : goal.returns-then-is_word-2-clause-every
returns-then-is_word-2-clause-every c =
    selfrun_every (texts c.args.words.now) (texts c.after_first-options.result.now) _
    (texts_first c.args.words.now c.after_first-options.result.now c.index-words-0.result _ (not_empty c.args.words.now _ c.is_empty.ensures c.if-is_empty.false) c.index-words-0.is (sym (c.is_word-2.ensures.0 c.if-is_word-2.true)) c.after_first-options.ensures)
    (not_told (texts c.args.words.now) (string_bytes c.index-words-0.result ∷ texts c.after_first-options.result.now) c.told_of.result (texts_first c.args.words.now c.after_first-options.result.now c.index-words-0.result _ (not_empty c.args.words.now _ c.is_empty.ensures c.if-is_empty.false) c.index-words-0.is refl c.after_first-options.ensures) c.in_default.not-Some c.told_of.ensures.every)
    c.selfrun_of.ensures.every

pub returns-then-is_word-3-clause-read : goal.returns-then-is_word-3-clause-read
returns-then-is_word-3-clause-read c =
    serve_read (texts c.args.words.now) (texts c.after_first-options.result.now) _
    (texts_first c.args.words.now c.after_first-options.result.now c.index-words-0.result _ (not_empty c.args.words.now _ c.is_empty.ensures c.if-is_empty.false) c.index-words-0.is (sym (c.is_word-3.ensures.0 c.if-is_word-3.true)) c.after_first-options.ensures)
    c.serve_of.ensures.read

pub returns-then-is_word-3-clause-every : goal.returns-then-is_word-3-clause-every
returns-then-is_word-3-clause-every c =
    serve_every (texts c.args.words.now) (texts c.after_first-options.result.now) _
    (texts_first c.args.words.now c.after_first-options.result.now c.index-words-0.result _ (not_empty c.args.words.now _ c.is_empty.ensures c.if-is_empty.false) c.index-words-0.is (sym (c.is_word-3.ensures.0 c.if-is_word-3.true)) c.after_first-options.ensures)
    (not_told (texts c.args.words.now) (string_bytes c.index-words-0.result ∷ texts c.after_first-options.result.now) c.told_of.result (texts_first c.args.words.now c.after_first-options.result.now c.index-words-0.result _ (not_empty c.args.words.now _ c.is_empty.ensures c.if-is_empty.false) c.index-words-0.is refl c.after_first-options.ensures) c.in_default.not-Some c.told_of.ensures.every)
    c.serve_of.ensures.every

pub returns-then-is_word-4-clause-read : goal.returns-then-is_word-4-clause-read
returns-then-is_word-4-clause-read c =
    tcp_read (texts c.args.words.now) (texts c.after_first-options.result.now) _
    (texts_first c.args.words.now c.after_first-options.result.now c.index-words-0.result _ (not_empty c.args.words.now _ c.is_empty.ensures c.if-is_empty.false) c.index-words-0.is (sym (c.is_word-4.ensures.0 c.if-is_word-4.true)) c.after_first-options.ensures)
    c.tcp_of.ensures.read

pub returns-then-is_word-4-clause-every : goal.returns-then-is_word-4-clause-every
returns-then-is_word-4-clause-every c =
    tcp_every (texts c.args.words.now) (texts c.after_first-options.result.now) _
    (texts_first c.args.words.now c.after_first-options.result.now c.index-words-0.result _ (not_empty c.args.words.now _ c.is_empty.ensures c.if-is_empty.false) c.index-words-0.is (sym (c.is_word-4.ensures.0 c.if-is_word-4.true)) c.after_first-options.ensures)
    (not_told (texts c.args.words.now) (string_bytes c.index-words-0.result ∷ texts c.after_first-options.result.now) c.told_of.result (texts_first c.args.words.now c.after_first-options.result.now c.index-words-0.result _ (not_empty c.args.words.now _ c.is_empty.ensures c.if-is_empty.false) c.index-words-0.is refl c.after_first-options.ensures) c.in_default.not-Some c.told_of.ensures.every)
    c.tcp_of.ensures.every

pub returns-then-is_word-5-clause-read : goal.returns-then-is_word-5-clause-read
returns-then-is_word-5-clause-read c =
    forward_read (texts c.args.words.now) (texts c.after_first-options.result.now) _
    (texts_first c.args.words.now c.after_first-options.result.now c.index-words-0.result _ (not_empty c.args.words.now _ c.is_empty.ensures c.if-is_empty.false) c.index-words-0.is (sym (c.is_word-5.ensures.0 c.if-is_word-5.true)) c.after_first-options.ensures)
    c.forward_of.ensures.read

pub returns-then-is_word-5-clause-every : goal.returns-then-is_word-5-clause-every
returns-then-is_word-5-clause-every c =
    forward_every (texts c.args.words.now) (texts c.after_first-options.result.now) _
    (texts_first c.args.words.now c.after_first-options.result.now c.index-words-0.result _ (not_empty c.args.words.now _ c.is_empty.ensures c.if-is_empty.false) c.index-words-0.is (sym (c.is_word-5.ensures.0 c.if-is_word-5.true)) c.after_first-options.ensures)
    (not_told (texts c.args.words.now) (string_bytes c.index-words-0.result ∷ texts c.after_first-options.result.now) c.told_of.result (texts_first c.args.words.now c.after_first-options.result.now c.index-words-0.result _ (not_empty c.args.words.now _ c.is_empty.ensures c.if-is_empty.false) c.index-words-0.is refl c.after_first-options.ensures) c.in_default.not-Some c.told_of.ensures.every)
    c.forward_of.ensures.every

pub returns-clause-read : goal.returns-clause-read
returns-clause-read c =
    bare_read (texts c.args.words.now) (texts c.after_first-options.result.now) (string_bytes c.index-words-0.result) c.bare_of.result
    (texts_first c.args.words.now c.after_first-options.result.now c.index-words-0.result _ (not_empty c.args.words.now _ c.is_empty.ensures c.if-is_empty.false) c.index-words-0.is refl c.after_first-options.ensures)
    c.bare_of.ensures.read

pub returns-clause-every : goal.returns-clause-every
returns-clause-every c = λ command are.
    bare_every (texts c.args.words.now) (texts c.after_first-options.result.now) (string_bytes c.index-words-0.result) c.bare_of.result
    (texts_first c.args.words.now c.after_first-options.result.now c.index-words-0.result _ (not_empty c.args.words.now _ c.is_empty.ensures c.if-is_empty.false) c.index-words-0.is refl c.after_first-options.ensures)
    (λ e. false≢true (sym c.if-is_word.false ∙ c.is_word.ensures.1 e)) (λ e. false≢true (sym c.if-is_word-2.false ∙ c.is_word-2.ensures.1 e)) (λ e. false≢true (sym c.if-is_word-3.false ∙ c.is_word-3.ensures.1 e)) (λ e. false≢true (sym c.if-is_word-4.false ∙ c.is_word-4.ensures.1 e)) (λ e. false≢true (sym c.if-is_word-5.false ∙ c.is_word-5.ensures.1 e))
    (not_told (texts c.args.words.now) (string_bytes c.index-words-0.result ∷ texts c.after_first-options.result.now) c.told_of.result (texts_first c.args.words.now c.after_first-options.result.now c.index-words-0.result _ (not_empty c.args.words.now _ c.is_empty.ensures c.if-is_empty.false) c.index-words-0.is refl c.after_first-options.ensures) c.in_default.not-Some c.told_of.ensures.every)
    c.bare_of.ensures.every command are
