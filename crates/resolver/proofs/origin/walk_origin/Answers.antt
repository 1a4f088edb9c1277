use Rattle.std.proofs.Common.{◌∙◌, ap}
use Rattle.resolver.specs.Origin.{origin_by}
use Rattle.resolver.specs.Lent.{links_by, end_by}
use Rattle.resolver.proofs.OriginLemmas.{first_tells}
use Rattle.resolver.proofs.origin.walk_origin.Goals as goal

pub returns-in-Some : goal.returns-in-Some
returns-in-Some c =
    let walk = c.args.walk.now in
    let end = end_by walk.last_name walk.end in
    first_tells walk.name c.as_slice-links.result.now c.in-Some.way.now end c.has_denials.result c.way_origin.result
    c.in-Some.ensures.value (c.has_denials.ensures walk.name walk.last_name) c.way_origin.ensures
    ∙ ap (λ links. origin_by (links_by walk.name links) end) c.as_slice-links.ensures.value
