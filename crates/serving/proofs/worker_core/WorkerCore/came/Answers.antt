use Rattle.std.proofs.Common.{sym, ap, ◌∙◌, ◌%◌, ◌≡◌, ℕ, get_or, true, false, arith}
use Rattle.serving.specs.declared.action.Action.TheVariants.{Relay}
use Rattle.serving.specs.Pending.{entry_of, relayed_of, without_entry}
use Rattle.serving.proofs.LatestLemmas.{fit, none_waits, relays}
use Rattle.serving.proofs.worker_core.WorkerCore.came.Goals as goal

pub returns-then-not-self-slot-clause-action : goal.returns-then-not-self-slot-clause-action
returns-then-not-self-slot-clause-action c =
    let fields = c.self.inside in
    let all = c.self.invariant in
    ap relayed_of (sym (none_waits fields.taken fields.sent fields.latest.items c.args.self.now (c.from-slot.result % 256) c.args.id c.args.name.now c.args.qtype c.args.qclass c.self.view_is (all.moments ∙ sym all.marks) (all.entries ∙ sym all.marks) (omega (arith, all.marks)) (ap (λ (n : ℕ). n % 256) c.from-slot.ensures) c.if-not-self-slot.true))

pub returns-then-not-self-slot-clause-table : goal.returns-then-not-self-slot-clause-table
returns-then-not-self-slot-clause-table c =
    let fields = c.self.inside in
    let all = c.self.invariant in
    ap (without_entry c.args.self.now (c.args.id % 256)) (sym (none_waits fields.taken fields.sent fields.latest.items c.args.self.now (c.from-slot.result % 256) c.args.id c.args.name.now c.args.qtype c.args.qclass c.self.view_is (all.moments ∙ sym all.marks) (all.entries ∙ sym all.marks) (omega (arith, all.marks)) (ap (λ (n : ℕ). n % 256) c.from-slot.ensures) c.if-not-self-slot.true))

pub returns-then-not-fits-clause-action : goal.returns-then-not-fits-clause-action
returns-then-not-fits-clause-action c =
    let fields = c.self.inside in
    let all = c.self.invariant in
    ap relayed_of (sym (fit fields.taken fields.sent fields.latest.items c.args.self.now (c.from-slot.result % 256) c.args.id c.index-latest.result.now c.args.name.now c.args.qtype c.args.qclass false c.self.view_is (all.moments ∙ sym all.marks) (all.entries ∙ sym all.marks) (omega (arith, all.marks)) (ap (λ (n : ℕ). n % 256) c.from-slot.ensures) c.index-latest.ensures c.if-not-self-slot.false c.if-not-fits.ensures))

pub returns-then-not-fits-clause-table : goal.returns-then-not-fits-clause-table
returns-then-not-fits-clause-table c =
    let fields = c.self.inside in
    let all = c.self.invariant in
    ap (without_entry c.args.self.now (c.args.id % 256)) (sym (fit fields.taken fields.sent fields.latest.items c.args.self.now (c.from-slot.result % 256) c.args.id c.index-latest.result.now c.args.name.now c.args.qtype c.args.qclass false c.self.view_is (all.moments ∙ sym all.marks) (all.entries ∙ sym all.marks) (omega (arith, all.marks)) (ap (λ (n : ℕ). n % 256) c.from-slot.ensures) c.index-latest.ensures c.if-not-self-slot.false c.if-not-fits.ensures))

pub returns-clause-action : goal.returns-clause-action
returns-clause-action c =
    let fields = c.self.inside in
    let all = c.self.invariant in
    ap (Relay c.index-latest.result.now.client) c.copy_of-question.ensures ∙ ap relayed_of (sym (fit fields.taken fields.sent fields.latest.items c.args.self.now (c.from-slot.result % 256) c.args.id c.index-latest.result.now c.args.name.now c.args.qtype c.args.qclass true c.self.view_is (all.moments ∙ sym all.marks) (all.entries ∙ sym all.marks) (omega (arith, all.marks)) (ap (λ (n : ℕ). n % 256) c.from-slot.ensures) c.index-latest.ensures c.if-not-self-slot.false c.if-not-fits.ensures))

pub returns-clause-table : goal.returns-clause-table
returns-clause-table c =
    let fields = c.self.inside in
    let all = c.self.invariant in
    let same : c.from-slot.result % 256 ≡ c.args.id % 256 = ap (λ (n : ℕ). n % 256) c.from-slot.ensures in
    let found = fit fields.taken fields.sent fields.latest.items c.args.self.now (c.from-slot.result % 256) c.args.id c.index-latest.result.now c.args.name.now c.args.qtype c.args.qclass true c.self.view_is (all.moments ∙ sym all.marks) (all.entries ∙ sym all.marks) (omega (arith, all.marks)) same c.index-latest.ensures c.if-not-self-slot.false c.if-not-fits.ensures in
    relays fields.taken fields.sent fields.latest.items c.args.self.now (c.from-slot.result % 256) c.args.id c.index-latest.result.now (entry_of c.index-latest.result.now.client c.index-latest.result.now.question (get_or fields.sent (c.from-slot.result % 256) 0)) c.self.view_is (all.moments ∙ sym all.marks) (all.entries ∙ sym all.marks) (omega (arith, all.marks)) same c.if-not-self-slot.false ∙ ap (without_entry c.args.self.now (c.args.id % 256)) (sym found)
