use Rattle.std.proofs.Common.{refl, sym, ◌∙◌}
use Rattle.std.proofs.lemmas.Bool.{false≢true}
use Rattle.zone_index.proofs.LiveLemmas.{ends_by, place_there, run_there, run_of}
use Rattle.zone_index.proofs.truth.is_nsec_of.Goals as goal

pub returns-in_default : goal.returns-in_default
returns-in_default c = (
  λ e. absurd (false≢true e),
  λ is. absurd (c.in_default.ensures.none ((c.requires.live.each c.args.owner.now).1 is.owner_live)),
)

pub returns-then-not-same : goal.returns-then-not-same
returns-then-not-same c =
    let ends = ends_by c.args.live.now c.args.owner.now c.get.result.now c.args.next.now c.in-Some.at c.in-Some.after c.in-Some.ensures.some c.get.ensures in (
      λ e. absurd (false≢true e),
      λ is. absurd (false≢true (sym c.if-not-same.true ∙ c.eq-same.ensures.same.1 (ends.1 (
        (c.requires.live.each c.args.next.now).1 is.next_live,
        λ name has inside. is.none_between name ((c.requires.live.each name).0 has) inside,
      )))),
    )

pub records_at-requires-clause-within : goal.records_at-requires-clause-within
records_at-requires-clause-within c = run_there _ _ _ _ _ _ c.requires.runs c.in-Some.ensures.some

pub records_at-requires-clause-owners : goal.records_at-requires-clause-owners
records_at-requires-clause-owners c = run_of _ _ _ _ _ _ c.requires.runs c.in-Some.ensures.some

pub returns : goal.returns
returns c =
    let ends = (ends_by c.args.live.now c.args.owner.now c.get.result.now c.args.next.now c.in-Some.at c.in-Some.after c.in-Some.ensures.some c.get.ensures).0 (c.eq-same.ensures.same.0 c.if-not-same.false) in
    let agree = rw c.records_at.ensures.zone at (rw c.records_at.ensures.name at c.types_agree.ensures) in (
      λ t. record {
        apex = c.if-not-is_apex.ensures.0 refl;
        owner_live = (c.requires.live.each c.args.owner.now).0 (place_there _ _ _ _ c.in-Some.ensures.some);
        next_live = (c.requires.live.each c.args.next.now).0 ends.0;
        types_agree = agree.0 t;
        none_between = λ name live inside. ends.1 name ((c.requires.live.each name).1 live) inside;
      },
      λ is. agree.1 is.types_agree,
    )
