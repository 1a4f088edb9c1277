use Rattle.std.proofs.Common.{None, Some, refl}
use Rattle.resolver.proofs.QueryLemmas.{asked, dropped, told}
use Rattle.resolver.proofs.querying.outcome_of.Goals as goal

pub query_step_of-requires : goal.query_step_of-requires
query_step_of-requires c = (c.args.octets.now, c.read_query.ensures.read)

pub returns-in-Dropped : goal.returns-in-Dropped
returns-in-Dropped c = dropped c.args.answering c.args.store.now c.args.octets.now c.args.now c.read_query.result _ c.read_query.ensures.read c.in-Dropped.ensures c.clear.ensures

pub returns-in-Error : goal.returns-in-Error
returns-in-Error c = told c.args.answering c.args.store.now c.args.octets.now c.args.now c.read_query.result _ c.read_query.ensures.read c.in-Error.ensures

pub returns-then-reply_by : goal.returns-then-reply_by
returns-then-reply_by c = asked c.args.answering c.args.store.now c.args.octets.now c.args.now c.read_query.result c.in-Query.question.now (Some _) _ c.read_query.ensures.read c.in-Query.ensures c.if-reply_by.ensures.reply refl

pub returns-else-reply_by : goal.returns-else-reply_by
returns-else-reply_by c = asked c.args.answering c.args.store.now c.args.octets.now c.args.now c.read_query.result c.in-Query.question.now None _ c.read_query.ensures.read c.in-Query.ensures c.if-reply_by.ensures.reply.0 c.if-reply_by.ensures.reply.1
