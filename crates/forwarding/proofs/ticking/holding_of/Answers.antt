use Rattle.std.proofs.Common.{◌∙◌}
use Rattle.cache_versions.specs.Lends.{seat_in}
use Rattle.cache_versions.specs.Seats.{opening_by, seen_by}
use Rattle.resolver.proofs.OutcomeLemmas.{is_kept}
use Rattle.forwarding.proofs.HoldingLemmas.{as_many, as_many_chains, as_many_zones}
use Rattle.forwarding.specs.declared.holding.Holding.{Holding}
use Rattle.forwarding.proofs.ticking.holding_of.Goals as goal

pub returns : goal.returns
returns c =
    let seat = seat_in c.args.version.now in
    let state = c.state-state.result.now in
    let kept = is_kept (seen_by seat) state (opening_by seat) c.state-state.ensures c.requires in
    λ i. record {
      records = (c.len.ensures.value ∙ as_many (seen_by seat) state kept) i;
      zones = (c.zones.ensures ∙ as_many_zones (seen_by seat) state kept) i;
      chains = (c.chains.ensures ∙ as_many_chains (seen_by seat) state kept) i;
      version = c.number.ensures i;
    }
