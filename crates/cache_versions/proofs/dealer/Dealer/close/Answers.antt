use Rattle.std.proofs.Common.{◌≡◌, ℕ, List, slice_index, sym, subst}
use mathlib.Core.Option.{some}
use lib.ListN.{get_elem?}
use Rattle.cache_versions.specs.Dealers.{hands_of}
use Rattle.cache_versions.specs.Hands.{AreAllBelow}
use Rattle.cache_versions.proofs.Deals.{all_dealt, word_is}
use Rattle.cache_versions.proofs.dealer.Dealer.close.Goals as goal

pub returns : goal.returns
returns c =
    let all = c.args.all in
    let last = c.close_with-closed.ensures.values.2 in
    let next : slice_index last.0.words 0 ≡ c.word-next.result = word_is _ _ (subst (λ (ws : List ℕ). get_elem? ws 0 ≡ some c.word-next.result) (sym last.2) c.word-next.ensures) in
    subst (λ n. AreAllBelow n all.me.0.places) next (all_dealt (hands_of c.args.self) last.0 all.id all.me.0 last.1.0 last.1.1 c.requires.all)
