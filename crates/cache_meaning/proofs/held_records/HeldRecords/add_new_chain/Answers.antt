use Rattle.std.proofs.Common.{◌≡◌, ◌∙◌, sym, Some, filter, ◌∷◌}
use Rattle.dname.specs.Tests.{same_name}
use Rattle.cache_meaning.specs.Held.{Held, ZoneChain, third_of, without_chain, with_new_chain}
use Rattle.cache_meaning.specs.Views.{shared_records}
use Rattle.cache_meaning.proofs.HeldLemmas.{third_goes}
use Rattle.cache_meaning.proofs.held_records.HeldRecords.add_new_chain.Goals as goal

pub returns-in-Some : goal.returns-in-Some
returns-in-Some c =
    let held : Held = record { records = shared_records c.self.inside.records.items; chains = c.self.inside.chains.items } in
    let is : Some c.in-Some.third ≡ third_of (filter (λ (chain : ZoneChain). same_name chain.zone c.args.new.zone) (c.args.new ∷ held.chains)) =
    sym c.in-Some.is ∙ c.in_ok-third.ensures
    ∙ (λ k. third_of (filter (λ (chain : ZoneChain). same_name chain.zone ((c.copy-zone.ensures ∙ c.zone.ensures) k)) ((c.as_slice.ensures.value ∙ c.in_ok-insert.ensures.items) k))) in
    c.drop_chain.ensures
    ∙ (λ k. without_chain c.in-Some.third (record { records = held.records; chains = c.in_ok-insert.ensures.items k }))
    ∙ third_goes c.args.new c.in-Some.third held is
    ∙ (λ k. with_new_chain c.args.new (c.self.view_is k))
