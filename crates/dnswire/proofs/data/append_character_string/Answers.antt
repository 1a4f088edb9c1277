use Rattle.std.proofs.Common.{◌≡◌, ◌+◌, ◌∷◌, ◌∙◌, sym, ap, drop}
use Rattle.std.proofs.lemmas.List.{drop_more}
use Rattle.std.proofs.lemmas.Result.{IfOk-weaker}
use Rattle.dnswire.proofs.DataLemmas.{string_appended}
use Rattle.dnswire.proofs.data.append_character_string.Goals as goal

pub returns-in-Some : goal.returns-in-Some
returns-in-Some c =
    let found = c.in-Some.ensures.lookup.3 in
    let stands : drop c.args.at c.args.message.now ≡ c.from.result ∷ drop (c.args.at + 1) c.args.message.now =
    drop_more c.args.message.now c.args.at 0 found.0 ∙ ap (λ n. n ∷ drop (c.args.at + 1) c.args.message.now) (sym (found.1 0) ∙ sym c.from.ensures) in
    IfOk-weaker _ _ _ (λ found. string_appended _ _ _ _ _ _ _ stands found) c.append_octets.ensures
