-- The reply that a walk gives, with owner names of several records, each DNAME set and denial record once.
use Rattle.std.specs.Prelude.{ℕ, Bool, false, not, ◌&&◌, if◌then◌else◌, List, [], ◌∷◌, ◌++◌, filter, Option, None}
use Rattle.std.specs.List.{flat_map, list_any}
use Rattle.std.specs.Option.{option_map}
use Rattle.std.specs.Str.{bytes_eq}
use Rattle.dname.specs.Name.{Label}
use Rattle.dname.specs.Tests.{same_name}
use Rattle.dnswire.specs.declared.question.Question.{Question}
use Rattle.denial_records.specs.Proof.{Proof}
use Rattle.denial_records.specs.declared.set_rec.SetRec.{SetRec}
use Rattle.denial_records.specs.declared.record.Record.{Record}
use Rattle.denial_records.specs.declared.record.Record.TheVariants.{Set, Nsec, Nsec3}
use Rattle.cache_meaning.specs.Held.{Held, same_parameters, parameters_of}
use Rattle.reply_core.specs.Kept.{owner_of, listed}
use Rattle.reply_core.specs.Reply.{ReplyRecord, wants_dnssec, rcode_of, set_records, proof_records, limit_of}
use Rattle.reply_core.specs.Sections.{alias_record, sent_within}
use Rattle.reply_core.specs.declared.rcode.TheConstants.{NO_ERROR, YX_DOMAIN}
use Rattle.resolver.specs.Walk.{Way, ByAlias, ByDname, Link, End, Proved, Made, TooLong, Walk, walk_for, walk_ttl}
use Rattle.resolver.specs.declared.rule.Rule.{Rule}

-- ---- the answers, with each DNAME set once

-- the set that answers for a name, with that name as owner
abbrev pub shown_at : Bool → List Label → Proof → List ReplyRecord
shown_at dnssec owner proof = flat_map (set_records dnssec owner) (listed proof.answer)

-- two of one owner name are one set
abbrev pub same_set : SetRec → SetRec → Bool
same_set set other = same_name set.owner other.owner

-- a DNAME set, with its own owner, unless it is among the earlier ones: an answer has a record once (RFC 2181, section 5)
abbrev pub dname_records : Bool → List SetRec → SetRec → List ReplyRecord
dname_records dnssec earlier set =
    if list_any (λ each. same_set each set) earlier then [] else set_records dnssec set.owner (Set set)

-- a DNAME set, and the CNAME that it makes (RFC 6672, section 3.1)
abbrev pub made_records : Bool → List SetRec → List Label → SetRec → List Label → List ReplyRecord
made_records dnssec earlier name set target =
    dname_records dnssec earlier set ++ alias_record name target ∷ []

abbrev pub way_records : Bool → List SetRec → List Label → Way → List ReplyRecord
way_records dnssec earlier name (ByAlias proof) = shown_at dnssec name proof
way_records dnssec earlier name (ByDname set target) = made_records dnssec earlier name set target

abbrev pub end_records : Bool → List SetRec → List Label → End → List ReplyRecord
end_records dnssec earlier name (Proved proof) = shown_at dnssec name proof
end_records dnssec earlier name (Made set target) = made_records dnssec earlier name set target
end_records dnssec earlier name (TooLong set) = dname_records dnssec earlier set

abbrev pub way_dnames : Way → List SetRec
way_dnames (ByAlias proof) = []
way_dnames (ByDname set target) = set ∷ []

-- the records of each link, and then those of the end
abbrev pub answers_after : Bool → List SetRec → List Link → List Label → End → List ReplyRecord
answers_after dnssec earlier [] name end = end_records dnssec earlier name end
answers_after dnssec earlier (link ∷ links) name end =
    way_records dnssec earlier link.owner link.way
    ++ answers_after dnssec (earlier ++ way_dnames link.way) links name end

abbrev pub walk_answers : Bool → Walk → List ReplyRecord
walk_answers dnssec walk = answers_after dnssec [] walk.links walk.last_name walk.end

-- ---- the denial records, each once

abbrev pub way_denials : Way → List Record
way_denials (ByAlias proof) = proof.denials
way_denials (ByDname set target) = []

abbrev pub end_denials : End → List Record
end_denials (Proved proof) = proof.denials
end_denials (Made set target) = []
end_denials (TooLong set) = []

-- two of one zone and chain with one owner name are one record
abbrev pub same_denial : Record → Record → Bool
same_denial (Set set) other = false
same_denial (Nsec nsec) (Set other) = false
same_denial (Nsec nsec) (Nsec other) = same_name nsec.zone other.zone && same_name nsec.owner other.owner
same_denial (Nsec nsec) (Nsec3 other) = false
same_denial (Nsec3 nsec3) (Set other) = false
same_denial (Nsec3 nsec3) (Nsec other) = false
same_denial (Nsec3 nsec3) (Nsec3 other) =
    same_name nsec3.zone other.zone
    && (same_parameters (parameters_of nsec3) (parameters_of other) && bytes_eq nsec3.hash other.hash)

-- those that aren't among the earlier ones; a proof has each of its own once
abbrev pub are_new : List Record → List Record → List Record
are_new earlier denials =
    filter (λ denial. not (list_any (λ each. same_denial each denial) earlier)) denials

-- those of the links, and then those of the end
abbrev pub denials_after : List Record → List Link → End → List Record
denials_after earlier [] end = are_new earlier (end_denials end)
denials_after earlier (link ∷ links) end =
    are_new earlier (way_denials link.way) ++ denials_after (earlier ++ way_denials link.way) links end

-- ---- the reply

abbrev pub end_soa : End → Option SetRec
end_soa (Proved proof) = proof.soa
end_soa (Made set target) = None
end_soa (TooLong set) = None

-- the SOA set of the last proof, and the denial records of all
abbrev pub walk_authorities : Bool → Walk → List ReplyRecord
walk_authorities dnssec walk =
    flat_map (λ soa. set_records dnssec (owner_of soa) soa) (listed (end_soa walk.end))
    ++ flat_map (proof_records dnssec) (denials_after [] walk.links walk.end)

-- that of the last name (RFC 6604, section 3); YXDOMAIN where a target is too long (RFC 6672, section 2.2)
abbrev pub end_rcode : End → ℕ
end_rcode (Proved proof) = rcode_of proof.kind
end_rcode (Made set target) = NO_ERROR
end_rcode (TooLong set) = YX_DOMAIN

-- the reply, whole where that is within the limit, else truncated
abbrev pub walk_within : ℕ → Question → Walk → ℕ → List ℕ
walk_within limit question walk ttl =
    sent_within limit question (end_rcode walk.end) ttl
    (walk_answers (wants_dnssec question) walk)
    (walk_authorities (wants_dnssec question) walk)

-- within what a datagram of the client takes
abbrev pub walk_octets : Question → Walk → ℕ → List ℕ
walk_octets question walk ttl = walk_within (limit_of question.edns) question walk ttl

-- ---- what held records give

abbrev pub walk_in : Rule → Held → Question → ℕ → Option Walk
walk_in rule held question now = walk_for rule held now question.name question.qtype question.qclass

-- the reply of a walk at a moment, with the TTL that it then has
abbrev pub octets_within : ℕ → Question → ℕ → Walk → List ℕ
octets_within limit question now walk = walk_within limit question walk (walk_ttl now walk)

abbrev pub octets_at : Question → ℕ → Walk → List ℕ
octets_at question now walk = octets_within (limit_of question.edns) question now walk

-- the reply by the rule, or none where the query is forwarded
abbrev pub walk_reply_within : ℕ → Rule → Held → Question → ℕ → Option (List ℕ)
walk_reply_within limit rule held question now =
    option_map (octets_within limit question now) (walk_in rule held question now)

abbrev pub walk_reply_in : Rule → Held → Question → ℕ → Option (List ℕ)
walk_reply_in rule held question now = walk_reply_within (limit_of question.edns) rule held question now
