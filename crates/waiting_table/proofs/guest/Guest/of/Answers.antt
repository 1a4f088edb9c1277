use Rattle.waiting_table.proofs.SlotLemmas.{parts_of_same}
use Rattle.waiting_table.proofs.guest.Guest.of.Goals as goal

pub returns : goal.returns
returns c =
    let parts = parts_of_same c.args.asked.now c.args.question.now c.requires in
    let question = c.args.question.now in
    (λ i. record { number = c.args.number; carrier = c.args.carrier; question = record { id = question.id; rd = question.rd; ad = question.ad; cd = parts.cd i; name = parts.name i; asked = c.copy_of.ensures i; qtype = parts.qtype i; qclass = parts.qclass i; edns = question.edns } })
