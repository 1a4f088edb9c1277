-- Replies that end in an OPT record.
use Rattle.std.proofs.Common.{◌≡◌, ℕ, ◌+◌, ◌-◌, ◌<◌, ◌≤◌, Bool, true, false, nat_le, if◌then◌else◌, List, [], ◌∷◌, ◌++◌, length, take, drop, refl, sym, ◌∙◌, ap, arith, length-append, append_assoc, Option, Some, None}
use Rattle.std.specs.List.{flat_map}
use Rattle.std.proofs.Math.Seq.{take-append_seam, drop-append_seam}
use Rattle.std.proofs.lemmas.Bool.Decides.{nat_tests}
use Rattle.byteorder.specs.Endian.{big_bytes, big_number}
use Rattle.dname.specs.Name.{wire_of}
use Rattle.dname.specs.declared.types.TheConstants.{OPT_TYPE}
use Rattle.dnswire.specs.declared.edns.Edns.{Edns}
use Rattle.dnswire.specs.declared.edns.TheConstants.{DO}
use Rattle.dnswire.specs.declared.message.Message.{Message}
use Rattle.dnswire.specs.declared.question.Question.{Question}
use Rattle.reply_core.specs.Relay.{is_whole_within, relay_flags, relay_upper, relay_within, relayed, rr_octets, truncated_relay, whole_relay}
use Rattle.reply_core.specs.Reply.{ReplyRecord, flag, header_octets, opt_count, opt_octets, record_octets, wants_dnssec}
use Rattle.reply_core.specs.Sections.{coded_flags, sent_within, truncated_with, whole_with}
use Rattle.reply_core.specs.declared.draft.TheConstants.{MAX_REPLY}
use Rattle.resolver.specs.Walk.{Walk}
use Rattle.resolver.specs.WalkReply.{end_rcode, walk_answers, walk_authorities, walk_within}
use Rattle.forwarding.specs.Options.{can_take, has_no_data, opt_with, told, with_options}

-- the octets end in the tail
pub record EndsIn (tail octets : List ℕ) : Type 0 where
  pub front : List ℕ
  pub is : octets ≡ front ++ tail

after : (front tail : List ℕ) → EndsIn tail (front ++ tail)
after front tail = record { front = front; is = refl }

either_ends : (test : Bool) (tail octets other : List ℕ) → EndsIn tail octets → EndsIn tail other → EndsIn tail (if test then octets else other)
either_ends true tail octets other ends ends' = ends
either_ends false tail octets other ends ends' = ends'

sent_ends : (limit : ℕ) (question : Question) (rcode ttl : ℕ) (answers authorities : List ReplyRecord) → EndsIn (opt_octets 0 question.edns) (sent_within limit question rcode ttl answers authorities)
sent_ends limit question rcode ttl answers authorities = either_ends
    (nat_le (length (whole_with question rcode ttl answers authorities)) limit)
    (opt_octets 0 question.edns) (whole_with question rcode ttl answers authorities) (truncated_with question rcode)
    (after
    (header_octets question.id (coded_flags question rcode false) 1 (length answers) (length authorities) (opt_count question.edns)
    ++ question.asked.items ++ flat_map (record_octets ttl) (answers ++ authorities)) (opt_octets 0 question.edns))
    (after
    (header_octets question.id (coded_flags question rcode true) 1 0 0 (opt_count question.edns) ++ question.asked.items)
    (opt_octets 0 question.edns))

pub walk_ends : (limit : ℕ) (question : Question) (walk : Walk) (ttl : ℕ) → EndsIn (opt_octets 0 question.edns) (walk_within limit question walk ttl)
walk_ends limit question walk ttl = sent_ends limit question (end_rcode walk.end) ttl (walk_answers (wants_dnssec question) walk) (walk_authorities (wants_dnssec question) walk)

pub relay_ends : (limit : ℕ) (question : Question) (message : Message) → EndsIn (opt_octets (relay_upper question message) question.edns) (relay_within limit question message)
relay_ends limit question message =
    let answers = relayed question message.answer in
    let authorities = relayed question message.authority in
    let additionals = relayed question message.additional in
    let tail = opt_octets (relay_upper question message) question.edns in
    either_ends (is_whole_within limit question message) tail (whole_relay question message) (truncated_relay question message)
    (after
    (header_octets question.id (relay_flags question message false) 1 (length answers) (length authorities) (length additionals + opt_count question.edns)
    ++ question.asked.items ++ flat_map rr_octets (answers ++ authorities ++ additionals)) tail)
    (after
    (header_octets question.id (relay_flags question message true) 1 0 0 (opt_count question.edns) ++ question.asked.items)
    tail)

-- ---- options in its place

-- an OPT record up to its data's length
abbrev opt_head : ℕ → Edns → List ℕ
opt_head upper edns =
    wire_of [] ++ big_bytes 2 OPT_TYPE ++ big_bytes 2 MAX_REPLY
    ++ big_bytes 1 upper ++ big_bytes 1 0 ++ big_bytes 2 (flag edns.dnssec DO)

-- with two octets at the end, what stands in front of them is kept
front_kept : (base options : List ℕ) → with_options options (base ++ 0 ∷ 0 ∷ []) ≡ base ++ big_bytes 2 (length options) ++ options
front_kept base options =
    let size : length (base ++ 0 ∷ 0 ∷ []) - 2 ≡ length base = omega (arith, length-append base (0 ∷ 0 ∷ [])) in
    let kept = ap (λ n. take n (base ++ 0 ∷ 0 ∷ [])) size ∙ take-append_seam base (0 ∷ 0 ∷ []) in
    ap (λ l. l ++ big_bytes 2 (length options) ++ options) kept

split_at_data : (front : List ℕ) (upper : ℕ) (edns : Edns) → front ++ opt_octets upper (Some edns) ≡ (front ++ opt_head upper edns) ++ 0 ∷ 0 ∷ []
split_at_data front upper edns = sym (append_assoc front (opt_head upper edns) (0 ∷ 0 ∷ []))

pub opt_has_options : (front options reply : List ℕ) (upper : ℕ) (edns : Edns) → reply ≡ front ++ opt_octets upper (Some edns) → with_options options reply ≡ front ++ opt_with upper (Some edns) options
opt_has_options front options reply upper edns ends =
    ap (with_options options) (ends ∙ split_at_data front upper edns)
    ∙ front_kept (front ++ opt_head upper edns) options
    ∙ append_assoc (front ++ opt_head upper edns) (big_bytes 2 (length options)) options
    ∙ append_assoc front (opt_head upper edns) (big_bytes 2 (length options) ++ options)

no_data_at_end : (base : List ℕ) → has_no_data (base ++ 0 ∷ 0 ∷ []) ≡ true
no_data_at_end base =
    let size : length (base ++ 0 ∷ 0 ∷ []) - 2 ≡ length base = omega (arith, length-append base (0 ∷ 0 ∷ [])) in
    let tail = ap (λ n. drop n (base ++ 0 ∷ 0 ∷ [])) size ∙ drop-append_seam base (0 ∷ 0 ∷ []) in
    let long : 2 ≤ length (base ++ 0 ∷ 0 ∷ []) = omega (arith, length-append base (0 ∷ 0 ∷ [])) in
    let number : big_number 2 (drop (length (base ++ 0 ∷ 0 ∷ []) - 2) (base ++ 0 ∷ 0 ∷ [])) ≡ 0 = ap (big_number 2) tail in
    grind (arith, nat_tests, long, number)

pub opt_has_no_data : (front reply : List ℕ) (upper : ℕ) (edns : Edns) → reply ≡ front ++ opt_octets upper (Some edns) → has_no_data reply ≡ true
opt_has_no_data front reply upper edns ends = ap has_no_data (ends ∙ split_at_data front upper edns) ∙ no_data_at_end (front ++ opt_head upper edns)

-- what can be taken is the data of the record; a client without one gets none
pub taken_is_data : (limit : ℕ) (front options reply : List ℕ) (upper : ℕ) (edns : Option Edns) → reply ≡ front ++ opt_octets upper edns → can_take limit edns options reply ≡ true → told limit edns options reply ≡ front ++ opt_with upper edns options
taken_is_data limit front options reply upper None ends can = absurd cc
taken_is_data limit front options reply upper (Some edns) ends can =
    ap (λ test. if test then with_options options reply else reply) can ∙ opt_has_options front options reply upper edns ends

can_take_some : (limit : ℕ) (front options reply : List ℕ) (upper : ℕ) (edns : Edns) → reply ≡ front ++ opt_octets upper (Some edns) → 0 < length options → length options ≤ limit - length reply → can_take limit (Some edns) options reply ≡ true
can_take_some limit front options reply upper edns ends some fits =
    let none = opt_has_no_data front reply upper edns ends in
    let sum : length reply + length options ≤ limit = omega (arith, some, fits) in
    grind (arith, nat_tests, none, some, sum)

pub fitting_is_data : (limit : ℕ) (front options reply : List ℕ) (upper : ℕ) (edns : Option Edns) → reply ≡ front ++ opt_octets upper edns → length options ≤ limit - length reply → told limit edns options reply ≡ front ++ opt_with upper edns options
fitting_is_data limit front options reply upper None ends fits = ends
fitting_is_data limit front [] reply upper (Some edns) ends fits = ends
fitting_is_data limit front (octet ∷ more) reply upper (Some edns) ends fits =
    taken_is_data limit front (octet ∷ more) reply upper (Some edns) ends (can_take_some limit front (octet ∷ more) reply upper edns ends (omega arith) fits)
