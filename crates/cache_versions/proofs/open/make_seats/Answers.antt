use Rattle.std.proofs.Common.{rules, ◌≡◌, ◌∷◌, [], ◌++◌, arith, ◌∙◌, ap, subst}
use Rattle.std.proofs.lemmas.List.Elements.{All-push}
use Rattle.cache_versions.specs.Dealers.{table_of}
use Rattle.cache_versions.specs.Hands.{in_hand}
use Rattle.cache_versions.specs.Rows.{IsMadeWith}
use Rattle.cache_versions.proofs.Rows.{numbered_snoc}
use Rattle.cache_versions.proofs.open.make_seats.Goals as goal

pub loop-number-preserved : goal.loop-number-preserved
loop-number-preserved g c =
    let made = c.loop-number.made.items in
    let seat = c.in_ok-seat.seat in
    let pushed : c.push.new.self.items ≡ made ++ seat ∷ [] = search rules in
    let inv = c.loop-number.invariant in
    let new : IsMadeWith c.args.held.now.recorded (table_of c.args.dealer.now) seat =
    subst (λ t. IsMadeWith c.args.held.now.recorded t seat) c.cut-hand.ensures.dealer.1 c.in_ok-seat.ensures.seat in (
      search rules,
      rw pushed (numbered_snoc made seat inv.1 (search rules)),
      rw pushed (All-push (IsMadeWith c.args.held.now.recorded (table_of c.args.dealer.now)) made seat inv.2 new),
      c.cut-hand.ensures.dealer.0 ∙ inv.3,
      c.cut-hand.ensures.rest ∙ ap (λ n. (in_hand n [], [])) (let left = ap (λ m. m.0.hands) inv.4 in omega arith),
      search rules,
      search rules,
    )
