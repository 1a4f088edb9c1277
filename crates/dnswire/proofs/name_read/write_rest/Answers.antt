use Rattle.std.proofs.Common.{◌≡◌, ◌++◌, take, sym, ap, arith, ◌∙◌}
use Rattle.std.proofs.lemmas.List.{take_at}
use Rattle.dnswire.specs.Expansions.{octets_in}
use Rattle.dnswire.proofs.ExpansionLemmas.{size_kept}
use Rattle.dnswire.proofs.name_read.write_rest.Goals as goal

pub returns-then-is_err-clause-table : goal.returns-then-is_err-clause-table
returns-then-is_err-clause-table c = c.open.ensures c.args.message.now c.requires.table

pub extent_of-requires-clause-table : goal.extent_of-requires-clause-table
extent_of-requires-clause-table c = c.open.ensures c.args.message.now c.requires.table

pub returns-clause-read : goal.returns-clause-read
returns-clause-read c =
    let kept = c.in_ok-extent.ensures.read.0 in
    let near = c.write_near.ensures.no in
    let back : c.truncate.new.self.items ≡ c.args.octets.now.items = c.truncate.ensures.items ∙ ap (λ o. take c.len-front.result o) near.1 ∙ take_at c.args.octets.now.items near.0 c.len-front.result (sym c.len-front.ensures.value) in
    (octets_in c.extent_of.new.table.octets.items c.in_ok-extent.extent, kept.octets, omega (arith, size_kept _ _ _ _ kept, c.in_ok-extent.ensures.read.1), c.append.ensures.octets ∙ ap (λ o. o ++ c.octets_of.result.now) back ∙ ap (λ o. c.args.octets.now.items ++ o) c.octets_of.ensures)
