use Rattle.std.proofs.Common.{ℕ, List, sym, ◌∙◌, subst}
use Rattle.dnswire.specs.declared.question.Question.{Question}
use Rattle.reply_core.specs.Draft.{Contents}
use Rattle.reply_core.specs.Reply.{ReplyRecord}
use Rattle.reply_core.specs.Sections.{Written, HasWrittenWithin, whole_with, truncated_with}
use Rattle.reply_core.proofs.ReplyLemmas.{IsSent, sent-whole, sent-truncated}
use Rattle.reply_core.proofs.SectionsLemmas.{written-whole_with, written-bare}
use Rattle.reply_core.proofs.sections.Sections.finish.Goals as goal
use Rattle.reply_core.proofs.sections.Sections.finish.Goals.{then-is_over, else-is_over}

pub returns : goal.returns
returns g c =
    let view : Written = record {
      limit = c.self.inside.limit;
      question = c.self.inside.question.now;
      rcode = c.self.inside.rcode;
      ttl = c.self.inside.ttl;
      contents = c.self.inside.draft;
      answers = c.self.inside.answers;
      authorities = c.self.inside.authorities;
    } in
    let sent : (limit : ℕ) (question : Question) (rcode ttl : ℕ) (answers authorities : List ReplyRecord)
    → HasWrittenWithin limit question rcode ttl answers authorities c.args.self
    → IsSent limit (whole_with question rcode ttl answers authorities) (truncated_with question rcode) c.if-is_over.draft =
    λ limit question rcode ttl answers authorities was.
    let whole = whole_with question rcode ttl answers authorities in
    let truncated = truncated_with question rcode in
    let begun : HasWrittenWithin limit question rcode ttl answers authorities view = rw c.self.view_is was in
    let tried = written-whole_with limit question rcode ttl answers authorities view c.put_opt.new.draft c.set_counts.new.draft begun c.put_opt.ensures c.set_counts.ensures in
    elim c.if-is_over.branch [
      | then-is_over w ↦
          let bare = written-bare limit _ question _ rcode _ _ _ _ _ begun.bounded begun.asked begun.coded c.self.invariant.1 w.restart.ensures w.coded_flags.ensures w.put_bare.ensures.value w.put_bare.ensures.small in
          subst (λ (draft : Contents). IsSent limit whole truncated draft) (sym w.draft-is)
          (sent-truncated limit whole truncated c.set_counts.new.draft w.put_bare.new.draft tried (sym c.is_over.ensures ∙ w.if-is_over.true) bare.0 bare.1)
      | else-is_over w ↦
          subst (λ (draft : Contents). IsSent limit whole truncated draft) (sym w.draft-is)
          (sent-whole limit whole truncated c.set_counts.new.draft tried (sym c.is_over.ensures ∙ w.if-is_over.false))
    ]
    in
    record {
      value = λ limit question rcode ttl answers authorities was. (sent limit question rcode ttl answers authorities was).octets;
      within_limit = λ limit question rcode ttl answers authorities was. (sent limit question rcode ttl answers authorities was).within_limit;
    }
