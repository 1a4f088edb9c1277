use Rattle.std.proofs.Common.{rules, List, ap, subst}
use mathlib.Core.List.{IsPrefix}
use Rattle.cache_versions.specs.Desks.{published}
use Rattle.cache_versions.specs.Kin.{journal_of}
use Rattle.cache_versions.specs.Seats.{seen_by}
use Rattle.cache_versions.proofs.Placing.{place_prefix}
use Rattle.cache_versions.proofs.shared.Shared.attempt.Goals as goal

pub returns-clause-begins : goal.returns-clause-begins
returns-clause-begins g c =
    let seat = c.args.seat.now in
    let met = published c.take-lease.result.1 in
    let pre : IsPrefix (seen_by seat) (journal_of met) =
    let now : IsPrefix (seen_by seat) (journal_of c.in-Ok.now.recorded) = search rules in
    subst (λ (l : List g.row.S-Batch.Denot). IsPrefix (seen_by seat) l) (ap (λ k. k.1.log) c.in-Ok.ensures) now in
    place_prefix met seat c.place-desk.new.seat c.args.batch.now c.place-desk.result.1 pre c.place-desk.ensures.answer
