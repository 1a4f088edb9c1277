use Rattle.std.proofs.Common.{◌∙◌, None, sym}
use Rattle.cache_meaning.specs.Zones.{zone_for}
use Rattle.resolver.specs.WalkReply.{walk_in}
use Rattle.resolver.proofs.WalkReplyLemmas.{zone_replies, none_asked, none_there, replies_by}
use Rattle.resolver.proofs.StepLemmas.{no_zone}
use Rattle.resolver.proofs.walk_replying.walk_reply_within.Goals as goal

pub returns-then-not-asks_a_zone-clause-reply : goal.returns-then-not-asks_a_zone-clause-reply
returns-then-not-asks_a_zone-clause-reply g c =
    let question = c.args.question.now in
    replies_by c.args.limit question c.args.now (walk_in c.args.rule c.args.store.now question c.args.now) None c.clear.new.self
    (none_asked c.args.limit c.args.rule c.args.store.now question c.args.now c.clear.new.self (sym c.asks_a_zone.ensures ∙ c.if-not-asks_a_zone.true) c.clear.ensures)

pub returns-then-not-asks_a_zone-clause-origin : goal.returns-then-not-asks_a_zone-clause-origin
returns-then-not-asks_a_zone-clause-origin g c =
    (none_asked c.args.limit c.args.rule c.args.store.now c.args.question.now c.args.now c.clear.new.self (sym c.asks_a_zone.ensures ∙ c.if-not-asks_a_zone.true) c.clear.ensures).made

pub returns-in_default-clause-reply : goal.returns-in_default-clause-reply
returns-in_default-clause-reply g c =
    let held = c.args.store.now in
    let question = c.args.question.now in
    replies_by c.args.limit question c.args.now (walk_in c.args.rule held question c.args.now) None c.clear-in_default.new.self
    (none_there c.args.limit c.args.rule held question c.args.now c.clear-in_default.new.self (no_zone held (zone_for held question.name question.qtype) c.in_default.ensures) c.clear-in_default.ensures)

pub returns-in_default-clause-origin : goal.returns-in_default-clause-origin
returns-in_default-clause-origin g c =
    let held = c.args.store.now in
    let question = c.args.question.now in
    (none_there c.args.limit c.args.rule held question c.args.now c.clear-in_default.new.self (no_zone held (zone_for held question.name question.qtype) c.in_default.ensures) c.clear-in_default.ensures).made

pub returns-clause-reply : goal.returns-clause-reply
returns-clause-reply g c =
    let question = c.args.question.now in
    replies_by c.args.limit question c.args.now (walk_in c.args.rule c.args.store.now question c.args.now) c.reply_from.result c.reply_from.new.out
    (zone_replies c.args.limit c.args.rule c.args.store.now question c.args.now c.reply_from.result c.reply_from.new.out (sym c.asks_a_zone.ensures ∙ c.if-not-asks_a_zone.false) c.reply_from.ensures)

pub returns-clause-origin : goal.returns-clause-origin
returns-clause-origin g c =
    (zone_replies c.args.limit c.args.rule c.args.store.now c.args.question.now c.args.now c.reply_from.result c.reply_from.new.out (sym c.asks_a_zone.ensures ∙ c.if-not-asks_a_zone.false) c.reply_from.ensures).made
