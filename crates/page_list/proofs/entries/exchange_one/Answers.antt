use Rattle.std.proofs.Common.{◌+◌, ◌++◌, ◌∷◌, take, drop, sym, ap, ◌∙◌}
use Rattle.page_list.proofs.Slots.{parts_set}
use Rattle.page_list.proofs.entries.exchange_one.Goals as goal

pub returns-in-Ok-clause-done : goal.returns-in-Ok-clause-done
returns-in-Ok-clause-done g c _ =
    let items = c.args.all.now.items in
    sym (parts_set items c.args.at c.in-Ok.entry c.requires)
    ∙ ap (λ z. take c.args.at items ++ z ∷ drop (c.args.at + 1) items) c.in-Ok.ensures
