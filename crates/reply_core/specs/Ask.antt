-- The octets of the query by which a client's question is asked upstream.
use Rattle.std.specs.Prelude.{ℕ, ◌+◌, true, List, ◌++◌, Some}
use Rattle.dnswire.specs.declared.edns.Edns.{Edns}
use Rattle.dnswire.specs.declared.flags.TheConstants.{RD, AD, CD}
use Rattle.dnswire.specs.declared.question.Question.{Question}
use Rattle.reply_core.specs.Reply.{flag, header_octets, opt_octets, opt_count}
use Rattle.reply_core.specs.declared.draft.TheConstants.{MAX_REPLY}

-- RD and AD are set, since the answer is to be resolved and to tell whether it is authentic (RFC 1035,
-- section 4.1.1; RFC 6840, section 5.7); CD is the client's (RFC 4035, section 3.2.2); all others are zero
abbrev pub ask_flags : Question → ℕ
ask_flags question = RD + AD + flag question.cd CD

-- what the asker takes: 1232 octets, and the DNSSEC records (RFC 6891, section 6.2.3; RFC 3225, section 3)
abbrev pub ask_edns : Edns
ask_edns = record { size = MAX_REPLY; dnssec = true }

-- this ID, those flags, the question as the client asked it, and OPT (RFC 1035, section 4.1)
abbrev pub ask_octets : Question → ℕ → List ℕ
ask_octets question id =
    header_octets id (ask_flags question) 1 0 0 (opt_count (Some ask_edns))
    ++ question.asked.items
    ++ opt_octets 0 (Some ask_edns)
