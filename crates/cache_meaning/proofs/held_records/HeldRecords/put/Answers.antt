use Rattle.std.proofs.Common.{◌≡◌, ◌∙◌, not, filter, [], ◌∷◌, ◌++◌, Some, None, sym, ap}
use Rattle.std.specs.Arc.{arc_value}
use Rattle.std.proofs.lemmas.List.{map-append}
use Rattle.std.proofs.lemmas.Result.{on_ok_weaker}
use Rattle.cache_meaning.specs.Held.{displaces, chain_of, with_chain, held_with}
use Rattle.cache_meaning.specs.Views.{shared_records}
use Rattle.cache_meaning.proofs.held_records.HeldRecords.put.Goals as goal

pub returns-in-Some : goal.returns-in-Some
returns-in-Some c =
    let put : shared_records c.push.new.self.items ≡ filter (λ old. not (displaces c.args.new.now old)) (shared_records c.self.inside.records.items) ++ c.args.new.now ∷ [] =
    ap shared_records c.in_ok-push.ensures.items ∙ map-append arc_value c.drop_displaced.new.records.items (c.in_ok-shared_copy.field-0 ∷ []) ∙ (λ k. c.drop_displaced.ensures k ++ c.in_ok-shared_copy.ensures k ∷ []) in
    let some : Some c.in-Some.chain ≡ chain_of c.args.new.now = sym c.in-Some.is ∙ c.in_ok-chain.ensures in
    on_ok_weaker c.add_chain.result (λ made. made
    ∙ (λ k. with_chain (some k) (record { records = put k; chains = c.self.inside.chains.items }))
    ∙ (λ k. held_with (c.self.view_is k) c.args.new.now)) c.add_chain.ensures

pub returns-in-None : goal.returns-in-None
returns-in-None c =
    let put : shared_records c.push.new.self.items ≡ filter (λ old. not (displaces c.args.new.now old)) (shared_records c.self.inside.records.items) ++ c.args.new.now ∷ [] =
    ap shared_records c.in_ok-push.ensures.items ∙ map-append arc_value c.drop_displaced.new.records.items (c.in_ok-shared_copy.field-0 ∷ []) ∙ (λ k. c.drop_displaced.ensures k ++ c.in_ok-shared_copy.ensures k ∷ []) in
    let none : None ≡ chain_of c.args.new.now = sym c.in-None.is ∙ c.in_ok-chain.ensures in
    (λ k. with_chain (none k) (record { records = put k; chains = c.self.inside.chains.items }))
    ∙ (λ k. held_with (c.self.view_is k) c.args.new.now)
