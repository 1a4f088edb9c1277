-- The octets of replies that tell a query's fault or the server's, without records but OPT.
use Rattle.std.specs.Prelude.{ℕ, ◌/◌, ◌%◌, List}
use Rattle.dnswire.specs.declared.head.Head.{Head}
use Rattle.dnswire.specs.declared.question.Question.{Question}
use Rattle.reply_core.specs.Reply.{head_of, flags_of, header_octets, bare_octets}

-- a header alone, with this RCODE and without a question (RFC 1035, section 4.1.1)
abbrev pub error_octets : Head → ℕ → List ℕ
error_octets head rcode = header_octets head.id (flags_of head rcode) 0 0 0 0

-- the question as it was asked; the RCODE's low four bits stand in the header, and the upper ones in
-- OPT, where the query had one (RFC 6891, section 6.1.3)
abbrev pub plain_octets : Question → ℕ → List ℕ
plain_octets question rcode =
    bare_octets question (flags_of (head_of question) (rcode % 16)) (rcode / 16)
