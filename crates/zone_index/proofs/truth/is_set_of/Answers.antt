use Rattle.std.proofs.Common.{refl}
use Rattle.std.proofs.lemmas.Bool.{false≢true}
use Rattle.zone_index.proofs.LiveLemmas.{place_there, run_there, run_of}
use Rattle.zone_index.proofs.truth.is_set_of.Goals as goal

pub returns-in_default : goal.returns-in_default
returns-in_default c = (
  λ e. absurd (false≢true e),
  λ is. absurd (c.in_default.ensures.none ((c.requires.live.each c.args.owner.now).1 is.live)),
)

pub records_at-requires-clause-within : goal.records_at-requires-clause-within
records_at-requires-clause-within c = run_there _ _ _ _ _ _ c.requires.runs c.in-Some.ensures.some

pub records_at-requires-clause-owners : goal.records_at-requires-clause-owners
records_at-requires-clause-owners c = run_of _ _ _ _ _ _ c.requires.runs c.in-Some.ensures.some

pub returns : goal.returns
returns c =
    let h = rw c.records_at.ensures.zone at (rw c.records_at.ensures.name at c.in_ok-is.ensures) in (
      λ t. let g = h.0 t in record {
        apex = c.if-not-is_apex.ensures.0 refl;
        data_there = g.just.1;
        not_empty = g.just.0;
        live = (c.requires.live.each c.args.owner.now).0 (place_there _ _ _ _ c.in-Some.ensures.some);
        authority = g.authority;
      },
      λ is. h.1 (record { just = (is.not_empty, is.data_there); authority = is.authority }),
    )
