use Rattle.std.proofs.Common.{rules, ◌∷◌, sym, ap, ◌∙◌, subst, Some, Option, eqb}
use mathlib.Core.Option.{none}
use prog.Atomic.{either}
use Rattle.atomic_table.specs.Table.{Me, Allows, rest, step}
use Rattle.tied_lock.specs.Rule.{AtHomeWhileFree, grabbed}
use Rattle.tied_lock.proofs.Keeps.{sits, grabs}
use Rattle.tied_lock.proofs.lock.steps.grab.Goals as goal

pub load_new_seat-requires : goal.load_new_seat-requires
load_new_seat-requires g c = (search rules, sits g.F.Tie.ties _ _ _)

pub compare_exchange-requires : goal.compare_exchange-requires
compare_exchange-requires g c = let key = c.args.shared.now.key in let slots = c.args.shared.now.table_id.slots in (
  search rules,
  search rules,
  subst (λ (m : Me (Option g.row.T.Denot) g.row.K.Denot). Allows (AtHomeWhileFree (g.F.Tie.ties key) key) slots c.loop.seat.id m 0 (λ n. either (eqb n 0) 1 n) (grabbed g.F.Tie.ties (step slots 0 0 1 none) m)) (sym c.loop.invariant.1)
      (grabs g.F.Tie.ties key slots _ key),
)

pub exchange-requires : goal.exchange-requires
exchange-requires g c = let got = c.compare_exchange.ensures.2.0 c.if-compare_exchange-eq0.true in (search rules, (Some got.0, got.1 ∙ ap (λ cs. (0, Some got.0) ∷ rest cs) (sym got.1)))
