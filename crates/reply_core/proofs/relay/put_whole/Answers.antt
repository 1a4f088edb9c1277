use Rattle.std.proofs.Common.{◌+◌, ◌%◌, ◌^◌, false, ◌++◌, ◌∙◌, ap}
use Rattle.std.specs.List.{flat_map}
use Rattle.reply_core.specs.Count.{count16}
use Rattle.reply_core.specs.Draft.{put}
use Rattle.reply_core.specs.Reply.{header_octets, opt_count, opt_octets}
use Rattle.reply_core.specs.Relay.{relay_flags, relay_upper, relayed, rr_octets}
use Rattle.reply_core.proofs.RelayLemmas.{header-sections, put-relay}
use Rattle.reply_core.proofs.relay.put_whole.Goals as goal

pub returns : goal.returns
returns g c =
    let question = c.args.question.now in
    let message = c.args.message.now in
    let answers = relayed question message.answer in
    let authorities = relayed question message.authority in
    let additionals = relayed question message.additional in
    let flags = relay_flags question message false in
    let opts = opt_count question.edns in
    let opt = opt_octets (relay_upper question message) question.edns in
    rw (c.put_opt.ensures, c.put_section-3.ensures, c.put_section-2.ensures, c.put_section.ensures, c.put_question.ensures.value, c.put_header.ensures, c.opt_count.ensures, c.relay_upper.ensures, c.relay_flags-flags.ensures, c.count_section-answers.ensures, c.count_section-authorities.ensures, c.count_section-additionals.ensures)
    (put-relay c.args.draft.now (header_octets question.id flags 1 (count16 answers) (count16 authorities) ((count16 additionals + opts) % 2 ^ 16)) question.asked.items opt answers authorities additionals
    ∙ ap (λ head. put c.args.draft.now (head ++ question.asked.items ++ flat_map rr_octets (answers ++ authorities ++ additionals) ++ opt)) (header-sections question.id flags 1 opts answers authorities additionals))
