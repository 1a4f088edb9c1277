use Rattle.std.proofs.Common.{ℕ, List, [], ◌++◌, ◌∙◌, ap}
use Rattle.std.specs.List.{flat_map}
use Rattle.reply_core.specs.Kept.{owner_of, listed}
use Rattle.reply_core.specs.Reply.{ReplyRecord, wants_dnssec, set_records, proof_records}
use Rattle.reply_core.specs.Sections.{sent_within}
use Rattle.resolver.specs.WalkReply.{walk_answers, walk_authorities, denials_after, end_soa}
use Rattle.resolver.specs.Lent.{links_by, end_by, walk_by}
use Rattle.resolver.specs.declared.walk.Way.{Way}
use Rattle.resolver.proofs.writing.write_walk_within.Goals as goal

pub returns : goal.returns
returns g c =
    let limit = c.args.limit in
    let question = c.args.question.now in
    let walk = c.args.walk.now in
    let dnssec = wants_dnssec question in
    let rcode = c.end_rcode-rcode.result in
    let answers = walk_answers dnssec (walk_by walk) in
    let end = end_by walk.last_name walk.end in
    let soa : List ReplyRecord = flat_map (λ set. set_records dnssec (owner_of set) set) (listed (end_soa end)) in
    let answered = c.put_answers.ensures limit question rcode walk.ttl c.begin_within-sections.ensures in
    let with_soa = c.put_soa.ensures walk.last_name limit question rcode walk.ttl answers answered in
    let with_all = c.put_denials.ensures walk.name walk.last_name limit question rcode walk.ttl answers soa with_soa in
    record {
      value =
          c.finish.ensures.value limit question rcode walk.ttl answers _ with_all
          ∙ ap (λ (them : List Way). sent_within limit question rcode walk.ttl answers (soa ++ flat_map (proof_records dnssec) (denials_after [] (links_by walk.name them) end))) c.as_slice.ensures.value
          ∙ ap (λ (code : ℕ). sent_within limit question code walk.ttl answers (walk_authorities dnssec (walk_by walk))) (c.end_rcode-rcode.ensures.value walk.last_name);
      within_limit = c.finish.ensures.within_limit limit question rcode walk.ttl answers _ with_all;
    }
