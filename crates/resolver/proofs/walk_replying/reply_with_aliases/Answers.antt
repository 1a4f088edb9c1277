use Rattle.std.proofs.Common.{Some, refl}
use Rattle.std.proofs.lemmas.Bool.{false≢true}
use Rattle.resolver.proofs.WalkReplyLemmas.{zone_proof_replies, zone_beyond_replies}
use Rattle.resolver.proofs.walk_replying.reply_with_aliases.Goals as goal

pub returns-in-Some : goal.returns-in-Some
returns-in-Some g c =
    zone_proof_replies c.args.limit c.args.rule c.args.store.now c.args.question.now c.args.now c.args.zone.now c.in-Some.verdict c.proof_origin.result c.write_reply_within.new.out
    c.requires.zone c.in-Some.ensures.proved (c.in-Some.ensures.exact.0 refl) c.proof_origin.ensures c.write_reply_within.ensures.value

pub returns-in-Some-reply_by_alias : goal.returns-in-Some-reply_by_alias
returns-in-Some-reply_by_alias g c =
    zone_beyond_replies c.args.limit c.args.rule c.args.store.now c.args.question.now c.args.now c.args.zone.now (Some c.in-Some-reply_by_alias.origin) c.reply_by_alias.new.out
    c.requires.zone (λ some. false≢true (c.in_default.ensures.exact.1 some)) (c.in-Some-reply_by_alias.ensures.done refl c.args.rule c.requires.takes)

pub returns : goal.returns
returns g c =
    zone_beyond_replies c.args.limit c.args.rule c.args.store.now c.args.question.now c.args.now c.args.zone.now c.reply_by_walk.result c.reply_by_walk.new.out
    c.requires.zone (λ some. false≢true (c.in_default.ensures.exact.1 some)) c.reply_by_walk.ensures
