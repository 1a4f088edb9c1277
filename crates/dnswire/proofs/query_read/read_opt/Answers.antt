use Rattle.std.proofs.Common.{◌≡◌, ◌∙◌, sym, ap, arith, refl, Option, Some, None, false}
use Rattle.std.specs.Option.{is_some}
use Rattle.std.proofs.lemmas.Bool.{false≢true}
use Rattle.std.proofs.lemmas.Result.{err_from_is_err_and}
use Rattle.dnswire.specs.declared.edns.Edns.{Edns}
use Rattle.dnswire.proofs.QueryLemmas.{said_none, said_other, said_opt, said_next, passed_next}
use Rattle.dnswire.proofs.RunLemmas.{handed_on}
use Rattle.dnswire.proofs.query_read.read_opt.Goals.{then-is_some-via-then-is_some, then-is_some-via-else-is_some+then-not-is_root_at, then-fields-eq-OPT_TYPE+else-is_some+else-not-is_root_at, else-fields-eq-OPT_TYPE}
use Rattle.dnswire.proofs.query_read.read_opt.Goals as goal

pub loop-init : goal.loop-init
loop-init c = record { has = said_none _ _; sizes = c.requires; room = refl }

pub returns-in_err-fields-clause-faulty : goal.returns-in_err-fields-clause-faulty
returns-in_err-fields-clause-faulty c =
    let p = err_from_is_err_and c.from_residual.result c.from_residual.ensures.1 in
    rw (p.1, p.2) (λ is heads end edns version stand long are.
    let on = passed_next _ _ _ _ heads end c.loop.invariant.has.passed stand (omega (arith, long)) in
    c.in_err-fields.ensures.faulty (handed_on _ _ is) on.next on.after on.reads)

pub returns-then-is_some-clause-faulty : goal.returns-then-is_some-clause-faulty
returns-then-is_some-clause-faulty c is heads end edns version stand long are =
    let named = c.in_ok-fields.ensures.read in
    let next = said_next _ _ _ _ _ _ (record { owner = named.0; fields = c.in_ok-fields.fields }) _ heads end edns version c.loop.invariant.has named.1 c.if-fields-eq-OPT_TYPE.true stand (omega (arith, long)) are in
    absurd (elim c.then-is_some.branch [
      | then-is_some-via-then-is_some w ↦ false≢true (sym (ap is_some next.0) ∙ sym c.is_some.ensures ∙ w.if-is_some.true)
      | then-is_some-via-else-is_some+then-not-is_root_at w ↦ false≢true (sym w.if-not-is_root_at.true ∙ (w.is_root_at.ensures named.0 named.1.fields_at named.1.owner).1 next.1)
    ])

none_is : (edns : Option Edns) → is_some edns ≡ false → edns ≡ None
none_is None is = refl
none_is (Some edns) is = absurd (false≢true (sym is))

pub loop-preserved : goal.loop-preserved
loop-preserved c =
    let named = c.in_ok-fields.ensures.read in
    record {
      has = elim c.if-fields-eq-OPT_TYPE.branch [
        | then-fields-eq-OPT_TYPE+else-is_some+else-not-is_root_at w ↦
            let none = none_is c.loop.said.edns (sym w.is_some.ensures ∙ w.if-is_some.false) in
            let root = (w.is_root_at.ensures named.0 named.1.fields_at named.1.owner).0 w.if-not-is_root_at.false in
            rw (w.said-is, w.opt_said-said.ensures.edns, w.opt_said-said.ensures.version)
            (said_opt _ _ _ _ _ _ (record { owner = named.0; fields = c.in_ok-fields.fields }) _ c.loop.invariant.has named.1 w.if-fields-eq-OPT_TYPE.true none root)
        | else-fields-eq-OPT_TYPE w ↦ rw w.said-is (said_other _ _ _ _ _ _ (record { owner = named.0; fields = c.in_ok-fields.fields }) _ c.loop.invariant.has named.1 w.if-fields-eq-OPT_TYPE.false)
      ];
      sizes = c.skip_rr.ensures.sizes;
      room = c.skip_rr.ensures.room ∙ c.loop.invariant.room;
    }
