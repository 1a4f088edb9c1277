use Rattle.std.proofs.Common.{ℕ, false, ◌++◌, ◌∙◌, ap, refl}
use Rattle.std.specs.List.{flat_map}
use Rattle.reply_core.specs.Count.{count16}
use Rattle.reply_core.specs.Draft.{Contents, put, blank}
use Rattle.reply_core.specs.Reply.{record_octets, reply_flags, header_octets, authority_records, opt_count, opt_octets}
use Rattle.reply_core.specs.Sections.{alias_answers}
use Rattle.reply_core.specs.Shown.{shown_by}
use Rattle.reply_core.proofs.ReplyLemmas.{header-counts, put-parts}
use Rattle.reply_core.proofs.alias_reply.put_whole.Goals as goal

pub returns : goal.returns
returns g c =
    let question = c.args.question.now in
    let proof = shown_by c.args.verdict.now in
    let ttl = c.args.ttl in
    let answers = alias_answers question c.args.alias.now c.args.target.now proof in
    let authorities = authority_records question proof in
    let flags = reply_flags question proof.kind false in
    let opts = opt_count question.edns in
    let rest = question.asked.items ++ flat_map (record_octets ttl) (answers ++ authorities) ++ opt_octets 0 question.edns in
    let head : ℕ → ℕ → Contents = λ first second. put (blank c.args.limit) (header_octets question.id flags 1 first second opts ++ rest) in
    c.set_counts.ensures c.args.limit question.id flags 1 opts rest
    (put-parts ttl (blank c.args.limit) c.put_header.new.draft c.put_question.new.draft c.put_answers-answers.new.draft c.put_authorities-authorities.new.draft c.put_opt.new.draft
    (header_octets question.id flags 1 0 0 opts) question.asked.items (opt_octets 0 question.edns) _ _ answers authorities
    (rw (c.put_header.ensures, c.restart.ensures, c.opt_count-opts.ensures, c.reply_flags-flags.ensures) refl)
    c.put_question.ensures.value c.put_answers-answers.ensures c.put_authorities-authorities.ensures c.put_opt.ensures)
    ∙ ap (λ first. head first c.put_authorities-authorities.result) c.put_answers-answers.ensures.count
    ∙ ap (head (count16 answers)) c.put_authorities-authorities.ensures.count
    ∙ ap (λ octets. put (blank c.args.limit) (octets ++ rest)) (header-counts question.id flags 1 opts answers authorities)
