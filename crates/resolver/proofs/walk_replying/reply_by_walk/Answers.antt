use Rattle.resolver.specs.Lent.{walk_by}
use Rattle.resolver.specs.Walk.{links_of, beyond}
use Rattle.resolver.proofs.WalkReplyLemmas.{walk_replies}
use Rattle.resolver.proofs.walk_replying.reply_by_walk.Goals as goal

pub returns : goal.returns
returns g c =
    let question = c.args.question.now in
    let found = beyond (links_of c.args.rule) c.args.rule c.args.store.now c.args.now question.qtype question.name in
    walk_replies c.args.limit question c.args.now c.in-Some.walk.ttl found (walk_by c.in-Some.walk) c.walk_origin.result c.write_walk_within.new.out
    c.in-Some.ensures.walk c.in-Some.ensures.ttl c.walk_origin.ensures c.write_walk_within.ensures.value
