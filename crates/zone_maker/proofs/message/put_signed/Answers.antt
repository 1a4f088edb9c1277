use Rattle.std.proofs.Common.{◌++◌, ◌∙◌, ap}
use Rattle.dname.specs.declared.types.TheConstants.{RRSIG_TYPE}
use Rattle.zone_maker.specs.Messages.{record_octets, signature_data}
use Rattle.zone_maker.proofs.MessageLemmas.{two_pieces}
use Rattle.zone_maker.proofs.message.put_signed.Goals as goal

pub returns : goal.returns
returns c = two_pieces c.args.out.now c.put_record.new.out c.put_record-2.new.out
    (record_octets c.args.owner.now c.args.rtype c.args.rdata.now)
    (record_octets c.args.owner.now RRSIG_TYPE (signature_data c.args.owner.now c.args.rtype))
    c.in_ok-put_record.ensures
    (c.in_ok-put_record-2.ensures ∙ ap (λ rdata. c.put_record.new.out ++ record_octets c.args.owner.now RRSIG_TYPE rdata) c.signature_data.ensures)
