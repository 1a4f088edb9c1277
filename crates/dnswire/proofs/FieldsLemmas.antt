-- What follows a name in a message is read in one way only.
use Rattle.std.proofs.Common.{◌≡◌, ℕ, ◌+◌, inl, inr, List, drop, sym, ◌∙◌, ap, subst, arith}
use Rattle.byteorder.specs.Endian.{big_number}
use Rattle.dname.specs.Name.{Label}
use Rattle.dnswire.specs.MessageName.{NameAt}
use Rattle.dnswire.specs.Question.{AreQuestionFields}
use Rattle.dnswire.specs.RrHead.{AreRrFields, IsTruncated, RrHead, IsRrHead}
use Rattle.dnswire.specs.declared.question_fields.QuestionFields.{QuestionFields}
use Rattle.dnswire.specs.declared.rr_fields.RrFields.{RrFields}
use Rattle.dnswire.proofs.MessageNameLemmas.{one_name_at}

pub one_question_fields : (octets : List ℕ) (at : ℕ) (fields fields' : QuestionFields) → AreQuestionFields octets at fields → AreQuestionFields octets at fields' → fields ≡ fields'
one_question_fields octets at fields fields' a b = λ i. record {
  qtype = (a.type_is ∙ sym b.type_is) i;
  qclass = (a.class_is ∙ sym b.class_is) i;
  end = (a.end_is ∙ sym b.end_is) i;
}

pub one_rr_fields : (message : List ℕ) (at : ℕ) (fields fields' : RrFields) → AreRrFields message at fields → AreRrFields message at fields' → fields ≡ fields'
one_rr_fields message at fields fields' a b =
    let data_is = a.data_is ∙ sym b.data_is in
    λ i. record {
      rtype = (a.type_is ∙ sym b.type_is) i;
      class = (a.class_is ∙ sym b.class_is) i;
      ttl = (a.ttl_is ∙ sym b.ttl_is) i;
      data_at = data_is i;
      end = (a.end_is ∙ ap (λ n. n + big_number 2 (drop (at + 8) message)) data_is ∙ sym b.end_is) i;
    }

pub not_truncated : (message : List ℕ) (at : ℕ) (fields : RrFields) → AreRrFields message at fields → IsTruncated message at → ⊥
not_truncated message at fields are (inl within) = omega (arith, within, are.data_is, are.end_is, are.within)
not_truncated message at fields are (inr within) = omega (arith, within, are.data_is, are.end_is, are.within)

-- at an offset there is one head, with one end
pub record SameHead (head head' : RrHead) (end end' : ℕ) : Type 0 where
  pub heads : head ≡ head'
  pub ends : end ≡ end'

pub one_rr_head : (message : List ℕ) (at : ℕ) (head head' : RrHead) (end end' : ℕ) → IsRrHead message at head end → IsRrHead message at head' end' → SameHead head head' end end'
one_rr_head message at head head' end end' h h' =
    let names = one_name_at message at head.owner head'.owner h.fields_at h'.fields_at h.owner h'.owner in
    let fields = one_rr_fields message h'.fields_at head.fields head'.fields (subst (λ n. AreRrFields message n head.fields) names.1 h.fields) h'.fields in
    record {
      heads = λ i. record { owner = names.0 i; fields = fields i };
      ends = h.end_is ∙ ap (λ (f : RrFields). f.end) fields ∙ sym h'.end_is;
    }

-- a head that is there isn't truncated after its name
pub no_head : (message : List ℕ) (at : ℕ) (owner : List Label) (fields_at : ℕ) (head : RrHead) (end : ℕ) → NameAt message at owner fields_at → IsTruncated message fields_at → IsRrHead message at head end → ⊥
no_head message at owner fields_at head end named truncated h =
    let names = one_name_at message at owner head.owner fields_at h.fields_at named h.owner in
    not_truncated message h.fields_at head.fields h.fields (subst (IsTruncated message) names.1 truncated)
