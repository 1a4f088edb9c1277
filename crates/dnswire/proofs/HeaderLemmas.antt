-- Octets have one header.
use Rattle.std.proofs.Common.{◌≡◌, ℕ, List, sym, ◌∙◌}
use Rattle.dnswire.specs.Header.{IsHeader}
use Rattle.dnswire.specs.declared.header.Header.{Header}

pub one_header : (octets : List ℕ) (header header' : Header) → IsHeader octets header → IsHeader octets header' → header ≡ header'
one_header octets header header' a b = λ i. record {
  id = (a.id ∙ sym b.id) i;
  flags = (a.flags ∙ sym b.flags) i;
  questions = (a.questions ∙ sym b.questions) i;
  answers = (a.answers ∙ sym b.answers) i;
  authorities = (a.authorities ∙ sym b.authorities) i;
  additionals = (a.additionals ∙ sym b.additionals) i;
}
