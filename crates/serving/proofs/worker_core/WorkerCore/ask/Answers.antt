use Rattle.std.proofs.Common.{◌∙◌, Some, None, refl}
use Rattle.serving.specs.Pending.{entry_of, table_at}
use Rattle.serving.proofs.LatestLemmas.{fails, fills, sends}
use Rattle.serving.proofs.worker_core.WorkerCore.ask.Goals as goal

pub returns-in_default-clause-action : goal.returns-in_default-clause-action
returns-in_default-clause-action c = fails c.free_late.new.self (table_at c.args.now c.args.self.now) c.free_late.ensures c.in_default.ensures.place

pub returns-in_default-clause-table : goal.returns-in_default-clause-table
returns-in_default-clause-table c = fills c.free_late.new.self (table_at c.args.now c.args.self.now) c.free_late.new.self None (entry_of c.args.client c.args.question.now c.args.now) c.free_late.ensures c.in_default.ensures.place refl

pub returns-clause-action : goal.returns-clause-action
returns-clause-action c = sends c.free_late.new.self (table_at c.args.now c.args.self.now) c.in-Some.slot _ c.free_late.ensures c.in-Some.ensures.place (c.from.ensures ∙ c.take-turn.ensures.turn)

pub returns-clause-table : goal.returns-clause-table
returns-clause-table c = fills c.free_late.new.self (table_at c.args.now c.args.self.now) c.take-turn.new.self (Some c.in-Some.slot) (entry_of c.args.client c.args.question.now c.args.now) c.free_late.ensures c.in-Some.ensures.place c.take-turn.ensures.table
