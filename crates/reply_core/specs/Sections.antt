-- A reply whose records are put one after another: what it has so far, and its octets in the end.
use Rattle.std.specs.Prelude.{◌≡◌, ℕ, ◌+◌, Bool, true, false, ◌||◌, if◌then◌else◌, nat_le, List, ◌++◌, length, Some}
use Rattle.std.specs.List.{flat_map}
use Rattle.dname.specs.Name.{Label, wire_of}
use Rattle.dname.specs.declared.types.TheConstants.{CNAME_TYPE}
use Rattle.dnswire.specs.declared.question.Question.{Question}
use Rattle.dnswire.specs.declared.flags.TheConstants.{TC, AD}
use Rattle.denial_records.specs.Proof.{Proof}
use Rattle.denial_records.specs.declared.set_rec.SetRec.{SetRec}
use Rattle.reply_core.specs.Count.{count16}
use Rattle.reply_core.specs.Draft.{Contents, put, blank}
use Rattle.reply_core.specs.Kept.{listed}
use Rattle.reply_core.specs.Reply.{ReplyRecord, set_records, record_octets, header_octets, head_of, flags_of, flag, wants_dnssec, opt_count, opt_octets, bare_octets, limit_of}

-- the CNAME that is made of a DNAME: it has no signature (RFC 6672, section 3.1)
abbrev pub alias_record : List Label → List Label → ReplyRecord
alias_record owner target = record { owner = owner; rtype = CNAME_TYPE; rdata = wire_of target }

-- the flags of a reply with this RCODE; all else is as in `reply_flags`
abbrev pub coded_flags : Question → ℕ → Bool → ℕ
coded_flags question rcode truncated =
    flags_of (head_of question) rcode + flag truncated TC
    + flag (question.ad || wants_dnssec question) AD

-- the reply with these answers and authorities, which have this TTL
abbrev pub whole_with : Question → ℕ → ℕ → List ReplyRecord → List ReplyRecord → List ℕ
whole_with question rcode ttl answers authorities =
    header_octets question.id (coded_flags question rcode false)
    1 (length answers) (length authorities) (opt_count question.edns)
    ++ question.asked.items
    ++ flat_map (record_octets ttl) (answers ++ authorities)
    ++ opt_octets 0 question.edns

-- without records but OPT, and with TC (RFC 2181, section 9)
abbrev pub truncated_with : Question → ℕ → List ℕ
truncated_with question rcode = bare_octets question (coded_flags question rcode true) 0

-- whole where that is within the limit, else truncated
abbrev pub sent_within : ℕ → Question → ℕ → ℕ → List ReplyRecord → List ReplyRecord → List ℕ
sent_within limit question rcode ttl answers authorities =
    if nat_le (length (whole_with question rcode ttl answers authorities)) limit
    then whole_with question rcode ttl answers authorities
    else truncated_with question rcode

-- within what a datagram of the client takes
abbrev pub sent_octets : Question → ℕ → ℕ → List ReplyRecord → List ReplyRecord → List ℕ
sent_octets question rcode ttl answers authorities =
    sent_within (limit_of question.edns) question rcode ttl answers authorities

-- the answers by way of the question's own alias: its set, and the set that answers for its target
abbrev pub alias_answers : Question → SetRec → List Label → Proof → List ReplyRecord
alias_answers question alias target proof =
    flat_map (set_records (wants_dnssec question) question.name) (listed (Some alias))
    ++ flat_map (set_records (wants_dnssec question) target) (listed proof.answer)

-- ---- a reply in work

-- its limit, question, RCODE and TTL, the octets so far, and the numbers of answers and authorities as a header has them
pub record Written : Type 0 where
  pub limit : ℕ
  pub question : Question
  pub rcode : ℕ
  pub ttl : ℕ
  pub contents : Contents
  pub answers : ℕ
  pub authorities : ℕ

-- what stands in front of the records
abbrev pub opening_octets : Question → ℕ → List ℕ
opening_octets question rcode =
    header_octets question.id (coded_flags question rcode false) 1 0 0 (opt_count question.edns)
    ++ question.asked.items

-- a reply to the question within the limit, with this RCODE and TTL, that has these answers and authorities so far
pub record HasWrittenWithin (limit : ℕ) (question : Question) (rcode ttl : ℕ) (answers authorities : List ReplyRecord) (written : Written)
    : Type 0 where
  pub bounded : written.limit ≡ limit
  pub asked : written.question ≡ question
  pub coded : written.rcode ≡ rcode
  pub lives : written.ttl ≡ ttl
  pub octets :
      written.contents ≡ put (blank limit)
      (opening_octets question rcode ++ flat_map (record_octets ttl) (answers ++ authorities))
  pub answer_count : written.answers ≡ count16 answers
  pub authority_count : written.authorities ≡ count16 authorities

-- within what a datagram of the client takes
abbrev pub HasWritten : Question → ℕ → ℕ → List ReplyRecord → List ReplyRecord → Written → Type 0
HasWritten question = HasWrittenWithin (limit_of question.edns) question
