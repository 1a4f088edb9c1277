-- A reply in work: it begins, has some records more, and ends.
use Rattle.std.proofs.Common.{◌≡◌, subst, Bool, ℕ, ◌+◌, ◌%◌, ◌^◌, ◌≤◌, true, false, List, [], ◌++◌, length, refl, sym, ◌∙◌, ap, append_assoc, append-nil, arith}
use Rattle.std.specs.List.{flat_map}
use Rattle.std.proofs.lemmas.Grind.{flat_map-append}
use Rattle.dnswire.specs.declared.question.Question.{Question}
use Rattle.reply_core.specs.Count.{count16, HasPut}
use Rattle.reply_core.specs.Draft.{Contents, put, blank}
use Rattle.reply_core.specs.Reply.{ReplyRecord, record_octets, wants_dnssec, header_octets, opt_count, opt_octets, bare_octets}
use Rattle.reply_core.specs.Sections.{Written, HasWrittenWithin, opening_octets, coded_flags, whole_with, truncated_with}
use Rattle.reply_core.proofs.CountLemmas.{count16-append}
use Rattle.reply_core.proofs.DraftLemmas.{put-put}
use Rattle.reply_core.proofs.ReplyLemmas.{header-counts}

-- the octets with some records more behind those that there are
opened : (limit : ℕ) (opening : List ℕ) (ttl : ℕ) (first second : List ReplyRecord) (before after : Contents)
    → before ≡ put (blank limit) (opening ++ flat_map (record_octets ttl) first)
    → after ≡ put before (flat_map (record_octets ttl) second)
    → after ≡ put (blank limit) (opening ++ flat_map (record_octets ttl) (first ++ second))
opened limit opening ttl first second before after was is =
    is
    ∙ ap (λ draft. put draft (flat_map (record_octets ttl) second)) was
    ∙ put-put (blank limit) (opening ++ flat_map (record_octets ttl) first) (flat_map (record_octets ttl) second)
    ∙ ap (put (blank limit)) (append_assoc opening (flat_map (record_octets ttl) first) (flat_map (record_octets ttl) second))
    ∙ ap (λ octets. put (blank limit) (opening ++ octets)) (sym (flat_map-append (record_octets ttl) first second))

counted : {T : Type 0} (first second : List T) (before number after : ℕ) → before ≡ count16 first → number ≡ count16 second → after ≡ (before + number) % 2 ^ 16 → after ≡ count16 (first ++ second)
counted first second before number after one two is =
    is ∙ ap (λ n. (n + number) % 2 ^ 16) one ∙ ap (λ n. (count16 first + n) % 2 ^ 16) two ∙ sym (count16-append first second)

-- what was put by the reply's own wish for signatures, and with its TTL
put_by : (question : Question) (ttl : ℕ) (f : Bool → List ReplyRecord) (dnssec : Bool) (number : ℕ) (contents : Contents) (before : Written)
    → before.question ≡ question → before.ttl ≡ ttl → dnssec ≡ wants_dnssec before.question
    → HasPut before.ttl before.contents contents number (f dnssec) → HasPut ttl before.contents contents number (f (wants_dnssec question))
put_by question ttl f dnssec number contents before asked lives wants one =
    subst (λ t. HasPut t before.contents contents number (f (wants_dnssec question))) lives
    (subst (λ d. HasPut before.ttl before.contents contents number (f d)) (wants ∙ ap wants_dnssec asked) one)

-- some answers more
pub written-answers : (limit : ℕ) (question : Question) (rcode ttl : ℕ) (answers : List ReplyRecord) (f : Bool → List ReplyRecord) (dnssec : Bool) (number count : ℕ) (contents : Contents) (before : Written)
    → HasWrittenWithin limit question rcode ttl answers [] before → dnssec ≡ wants_dnssec before.question
    → HasPut before.ttl before.contents contents number (f dnssec)
    → count ≡ (before.answers + number) % 2 ^ 16
    → HasWrittenWithin limit question rcode ttl (answers ++ f (wants_dnssec question)) [] (record { limit = before.limit; question = before.question; rcode = before.rcode; ttl = before.ttl; contents = contents; answers = count; authorities = before.authorities })
written-answers limit question rcode ttl answers f dnssec number count contents before was wants put_them is =
    let records = f (wants_dnssec question) in
    let one = put_by question ttl f dnssec number contents before was.asked was.lives wants put_them in
    let at : List ReplyRecord → Contents = λ all. put (blank limit) (opening_octets question rcode ++ flat_map (record_octets ttl) all) in
    record {
      bounded = was.bounded;
      asked = was.asked;
      coded = was.coded;
      lives = was.lives;
      octets =
          opened limit (opening_octets question rcode) ttl answers records before.contents contents
          (was.octets ∙ ap at (append-nil answers)) one.octets
          ∙ ap at (sym (append-nil (answers ++ records)));
      answer_count = counted answers records before.answers number count was.answer_count one.count is;
      authority_count = was.authority_count;
    }

-- some authorities more
pub written-authorities : (limit : ℕ) (question : Question) (rcode ttl : ℕ) (answers authorities : List ReplyRecord) (f : Bool → List ReplyRecord) (dnssec : Bool) (number count : ℕ) (contents : Contents) (before : Written)
    → HasWrittenWithin limit question rcode ttl answers authorities before → dnssec ≡ wants_dnssec before.question
    → HasPut before.ttl before.contents contents number (f dnssec)
    → count ≡ (before.authorities + number) % 2 ^ 16
    → HasWrittenWithin limit question rcode ttl answers (authorities ++ f (wants_dnssec question)) (record { limit = before.limit; question = before.question; rcode = before.rcode; ttl = before.ttl; contents = contents; answers = before.answers; authorities = count })
written-authorities limit question rcode ttl answers authorities f dnssec number count contents before was wants put_them is =
    let records = f (wants_dnssec question) in
    let one = put_by question ttl f dnssec number contents before was.asked was.lives wants put_them in
    let at : List ReplyRecord → Contents = λ all. put (blank limit) (opening_octets question rcode ++ flat_map (record_octets ttl) all) in
    record {
      bounded = was.bounded;
      asked = was.asked;
      coded = was.coded;
      lives = was.lives;
      octets =
          opened limit (opening_octets question rcode) ttl (answers ++ authorities) records before.contents contents was.octets one.octets
          ∙ ap at (append_assoc answers authorities records);
      answer_count = was.answer_count;
      authority_count = counted authorities records before.authorities number count was.authority_count one.count is;
    }

-- without records there is what stands in front of them
pub written-none : (limit : ℕ) (question : Question) (rcode ttl : ℕ) (with_head contents : Contents) (head : List ℕ)
    → with_head ≡ put (blank limit) head → contents ≡ put with_head question.asked.items
    → head ++ question.asked.items ≡ opening_octets question rcode
    → HasWrittenWithin limit question rcode ttl [] [] (record { limit = limit; question = question; rcode = rcode; ttl = ttl; contents = contents; answers = 0; authorities = 0 })
written-none limit question rcode ttl with_head contents head first second is = record {
  bounded = refl;
  asked = refl;
  coded = refl;
  lives = refl;
  octets =
      second
      ∙ ap (λ draft. put draft question.asked.items) first
      ∙ put-put (blank limit) head question.asked.items
      ∙ ap (put (blank limit)) (is ∙ sym (append-nil (opening_octets question rcode)));
  answer_count = refl;
  authority_count = refl;
}

-- the whole, before it is seen whether it is within the limit
pub written-whole_with : (limit : ℕ) (question : Question) (rcode ttl : ℕ) (answers authorities : List ReplyRecord) (written : Written) (with_opt counted : Contents)
    → HasWrittenWithin limit question rcode ttl answers authorities written
    → with_opt ≡ put written.contents (opt_octets 0 written.question.edns)
    → ((limit id flags questions additionals : ℕ) (rest : List ℕ) → with_opt ≡ put (blank limit) (header_octets id flags questions 0 0 additionals ++ rest) → counted ≡ put (blank limit) (header_octets id flags questions written.answers written.authorities additionals ++ rest))
    → counted ≡ put (blank limit) (whole_with question rcode ttl answers authorities)
written-whole_with limit question rcode ttl answers authorities written with_opt counted was one set =
    let flags = coded_flags question rcode false in
    let opts = opt_count question.edns in
    let opt = opt_octets 0 question.edns in
    let records = flat_map (record_octets ttl) (answers ++ authorities) in
    let rest = question.asked.items ++ records ++ opt in
    let here : with_opt ≡ put (blank limit) (header_octets question.id flags 1 0 0 opts ++ rest) =
    one
    ∙ ap (λ asked. put written.contents (opt_octets 0 asked.edns)) was.asked
    ∙ ap (λ draft. put draft opt) was.octets
    ∙ put-put (blank limit) (opening_octets question rcode ++ records) opt
    ∙ ap (put (blank limit)) (simp append_assoc)
    in
    let head : ℕ → ℕ → Contents = λ first second. put (blank limit) (header_octets question.id flags 1 first second opts ++ rest) in
    set limit question.id flags 1 opts rest here
    ∙ ap (λ first. head first written.authorities) was.answer_count
    ∙ ap (head (count16 answers)) was.authority_count
    ∙ ap (λ octets. put (blank limit) (octets ++ rest)) (header-counts question.id flags 1 opts answers authorities)

-- the reply without records, in place of the whole
pub written-bare : (limit most : ℕ) (question asked : Question) (rcode coded flags least : ℕ) (restarted contents : Contents)
    → most ≡ limit → asked ≡ question → coded ≡ rcode → least ≤ most → restarted ≡ blank most
    → flags ≡ coded_flags asked coded true → contents ≡ put restarted (bare_octets asked flags 0) → length (bare_octets asked flags 0) ≤ least
    → (contents ≡ put (blank limit) (truncated_with question rcode)) × (length (truncated_with question rcode) ≤ limit)
written-bare limit most question asked rcode coded flags least restarted contents is_most is_asked is_coded low is_blank is_flags is small =
    let same : bare_octets asked flags 0 ≡ truncated_with question rcode = rw (is_flags, is_asked, is_coded) refl in (
      is ∙ ap (λ octets. put restarted octets) same ∙ ap (λ draft. put draft (truncated_with question rcode)) (is_blank ∙ ap blank is_most),
      subst (λ octets. length octets ≤ limit) same (omega (arith, is_most, low, small)),
    )
