use Rattle.std.proofs.Common.{◌≡◌, refl, sym, ◌∙◌, arith}
use Rattle.reply_core.specs.Draft.{put}
use Rattle.reply_core.specs.Owner.{labels_of}
use Rattle.reply_core.specs.Reply.{record_octets}
use Rattle.reply_core.proofs.DraftLemmas.{put-lost}
use Rattle.reply_core.proofs.RecordLemmas.{puts_all-first, puts_all-next, puts_all-last}
use Rattle.reply_core.proofs.records.put_list.Goals as goal
use Rattle.reply_core.proofs.records.put_list.Goals.{then-not-is_over, else-not-is_over}

pub loop-item-init : goal.loop-item-init
loop-item-init g c = puts_all-first _ _ _ _ _

pub loop-item-preserved : goal.loop-item-preserved
loop-item-preserved g c =
    let one = record_octets c.args.ttl (record { owner = labels_of c.args.owner.now; rtype = c.args.rtype; rdata = c.in-Some.item.now }) in
    let with_one : c.if-not-is_over.draft ≡ put c.loop-item.draft one =
    elim c.if-not-is_over.branch [
      | then-not-is_over w ↦ w.draft-is ∙ w.put_record.ensures
      | else-not-is_over w ↦ w.draft-is ∙ sym (put-lost c.loop-item.draft one (sym c.is_over.ensures ∙ w.if-not-is_over.false))
    ]
    in
    puts_all-next _ _ _ _ _ _ _ _ _ _ _ _ c.in-Some.ensures.first with_one refl c.loop-item.invariant

pub returns : goal.returns
returns g c = puts_all-last _ _ _ _ _ _ _ _ c.in_default.ensures.first (omega arith) c.loop-item.invariant
