use Rattle.std.proofs.Common.{rules, ◌≡◌, [], ◌∷◌, sym, ap, ◌∙◌, subst, Some, Option}
use Rattle.atomic_table.specs.Table.{Me, Allows, rest}
use Rattle.tied_lock.specs.Rule.{AtHomeWhileFree}
use Rattle.tied_lock.proofs.Keeps.{gives_back}
use Rattle.tied_lock.proofs.lock.TiedLock.give.Goals as goal

pub store-requires : goal.store-requires
store-requires g c = let put = c.exchange-before.ensures.3 in let key = c.args.self.now.table.shared.key in
    let me : c.exchange-before.new.seat.me ≡ (c.args.lease.seat.me.0, (0, Some c.args.value) ∷ []) = put ∙ ap {B = Me (Option g.row.T.Denot) g.row.K.Denot} (λ cs. (c.args.lease.seat.me.0, (0, Some c.args.value) ∷ rest cs)) c.args.lease.out in (
      search rules,
      search rules,
      subst (λ (m : Me (Option g.row.T.Denot) g.row.K.Denot). Allows (AtHomeWhileFree (g.F.Tie.ties key) key) c.args.self.now.table.shared.table_id.slots c.exchange-before.new.seat.id m 0 (λ _. 0) (λ _ _. Unit {0})) (sym me)
          (gives_back g.F.Tie.ties key _ _ _ c.args.value c.requires.tied),
    )
