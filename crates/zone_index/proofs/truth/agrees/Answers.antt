use Rattle.zone_index.proofs.truth.agrees.Goals as goal

pub returns : goal.returns
returns c =
    let h = rw c.records_of.ensures.zone at (rw c.records_of.ensures.name at c.types_agree.ensures) in
    (λ t. record { agree = h.0 t }, λ has. h.1 has.agree)
