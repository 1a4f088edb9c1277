use Rattle.std.proofs.Common.{sym, ap, ◌∙◌}
use Rattle.serving.specs.declared.event.Event.{Event}
use Rattle.serving.specs.Pending.{action_of, table_after}
use Rattle.serving.proofs.worker_core.WorkerCore.step.Goals as goal

pub returns-in-Ask-clause-action : goal.returns-in-Ask-clause-action
returns-in-Ask-clause-action c = c.ask.ensures.action ∙ ap (λ (event : Event). action_of c.args.self.now event) (sym c.in-Ask.is)

pub returns-in-Ask-clause-table : goal.returns-in-Ask-clause-table
returns-in-Ask-clause-table c = c.ask.ensures.table ∙ ap (λ (event : Event). table_after c.args.self.now event) (sym c.in-Ask.is)

pub returns-in-Came-clause-action : goal.returns-in-Came-clause-action
returns-in-Came-clause-action c = c.came.ensures.action ∙ ap (λ (event : Event). action_of c.args.self.now event) (sym c.in-Came.is)

pub returns-in-Came-clause-table : goal.returns-in-Came-clause-table
returns-in-Came-clause-table c = c.came.ensures.table ∙ ap (λ (event : Event). table_after c.args.self.now event) (sym c.in-Came.is)
