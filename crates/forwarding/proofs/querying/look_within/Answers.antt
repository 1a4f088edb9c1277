use Rattle.std.proofs.Common.{◌∙◌, ap}
use Rattle.cache_versions.specs.Lends.{seat_in}
use Rattle.cache_versions.specs.Seats.{opening_by, seen_by}
use Rattle.resolver.proofs.OutcomeLemmas.{is_kept}
use Rattle.forwarding.specs.ExtendedError.{marked}
use Rattle.forwarding.proofs.QueryLemmas.{none_found, reply_found}
use Rattle.forwarding.proofs.querying.look_within.Goals as goal

pub returns-in-Some : goal.returns-in-Some
returns-in-Some g c =
    let seat = seat_in c.args.version.now in
    let kept = is_kept (seen_by seat) c.state.result.now (opening_by seat) c.state.ensures c.requires.opening in
    reply_found c.args.limit c.args.question.now c.args.now (seen_by seat) c.state.result.now kept c.in-Some.origin c.walk_reply_within.new.out c.mark_synthesized.new.out c.in-Some.ensures.reply c.in-Some.ensures.origin
    (c.mark_synthesized.ensures.value ∙ ap (λ b. marked c.args.limit c.args.question.now b c.walk_reply_within.new.out) c.is_synthesized.ensures)

pub returns-in-None : goal.returns-in-None
returns-in-None g c =
    let seat = seat_in c.args.version.now in
    let kept = is_kept (seen_by seat) c.state.result.now (opening_by seat) c.state.ensures c.requires.opening in
    none_found c.args.limit c.args.question.now c.args.now (seen_by seat) c.state.result.now kept c.in-None.ensures.origin
