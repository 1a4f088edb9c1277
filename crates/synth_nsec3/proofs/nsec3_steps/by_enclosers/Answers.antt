use Rattle.std.proofs.Common.{◌∙◌, refl, sym, subst, true≢false}
use Rattle.dname.specs.Name.{IsUnder}
use Rattle.synth_nsec3.specs.ChainAt.{chain_at}
use Rattle.synth_nsec3.proofs.WalkLemmas.{apart_proves_nothing, walk_ends, walk_under, walk_apart, walk_asked, walk_gives, walk_goes_on}
use Rattle.synth_nsec3.proofs.nsec3_steps.by_enclosers.Goals as goal

pub returns-then-not-is_under : goal.returns-then-not-is_under
returns-then-not-is_under g c =
    apart_proves_nothing (chain_at g.Z.HeldZone.zone c.args.chain.now) c.args.qtype c.args.name.now
    (λ under. true≢false (sym (c.is_under.ensures.1 (subst (IsUnder c.args.name.now) (sym c.apex.ensures) under)) ∙ c.if-not-is_under.true))

pub next_closer-closer-requires-clause-under : goal.next_closer-closer-requires-clause-under
next_closer-closer-requires-clause-under g c = walk_under c.loop-encloser.invariant c.in-Some.ensures.steps

pub next_closer-closer-requires-clause-apart : goal.next_closer-closer-requires-clause-apart
next_closer-closer-requires-clause-apart g c = walk_apart c.loop-encloser.invariant c.in-Some.ensures.steps

pub at_encloser-proof-requires : goal.at_encloser-proof-requires
at_encloser-proof-requires g c = λ k.
    ((refl, tt), (walk_asked c.loop-encloser.invariant c.in-Some.ensures.steps c.next_closer-closer.ensures.one_more, c.next_closer-closer.ensures.one_more.one_more))

pub returns-in-Some-proof : goal.returns-in-Some-proof
returns-in-Some-proof g c =
    walk_gives c.loop-encloser.invariant c.in-Some.ensures.steps c.next_closer-closer.ensures.one_more (sym c.in-Some-proof.is ∙ c.at_encloser-proof.ensures.proof)

pub loop-encloser-preserved : goal.loop-encloser-preserved
loop-encloser-preserved g c =
    walk_goes_on c.loop-encloser.invariant c.in-Some.ensures.steps c.next_closer-closer.ensures.one_more
    (sym c.in_default.is ∙ c.at_encloser-proof.ensures.proof) c.at_encloser-proof.ensures.asked

pub returns : goal.returns
returns g c = walk_ends c.loop-encloser.invariant c.in-None.ensures.steps.0
