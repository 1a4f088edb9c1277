use Rattle.std.proofs.Common.{◌++◌, ◌∙◌, ap}
use Rattle.dname.specs.declared.types.TheConstants.{A_TYPE, NSEC_TYPE, SOA_TYPE}
use Rattle.zone_maker.specs.Made.{made_owner, made_example, soa_data}
use Rattle.zone_maker.specs.Messages.{header_octets, message_flags, answers_of, question_octets, answer_of, signed_octets, nsec_data}
use Rattle.zone_maker.proofs.MessageLemmas.{five_pieces}
use Rattle.zone_maker.proofs.message.message.Goals as goal

pub returns : goal.returns
returns c = five_pieces c.append.new.self c.put_question.new.out c.put_answer.new.out c.put_signed.new.out c.put_nsec.new.out
    (header_octets c.args.k message_flags (answers_of c.args.k) 4 0)
    (question_octets (made_owner c.args.k) A_TYPE)
    (answer_of c.args.seed c.args.k)
    (signed_octets made_example SOA_TYPE soa_data)
    (signed_octets (made_owner c.args.k) NSEC_TYPE (nsec_data c.args.names c.args.k))
    (c.in_ok-append.ensures.ok ∙ ap (λ old. old ++ c.header.result) c.empty-out.ensures ∙ c.header.ensures
    ∙ ap (λ answers. header_octets c.args.k message_flags answers 4 0) c.answers_of.ensures)
    (c.in_ok-put_question.ensures ∙ ap (λ owner. c.append.new.self ++ question_octets owner A_TYPE) c.made_owner-owner.ensures)
    c.in_ok-put_answer.ensures
    (c.in_ok-put_signed.ensures ∙ ap (λ owner. c.put_answer.new.out ++ signed_octets owner SOA_TYPE soa_data) c.apex.ensures)
    c.in_ok-put_nsec.ensures
