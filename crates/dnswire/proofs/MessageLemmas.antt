-- A message is read in one way only, or has one first fault.
use Rattle.std.proofs.Common.{◌≡◌, ◌≢◌, ℕ, ◌+◌, ◌<◌, ◌≤◌, ◌⊎◌, inl, inr, Result, Ok, Err, List, [], ◌∷◌, ◌++◌, length, refl, sym, ◌∙◌, ap, subst, arith, length-append}
use Rattle.std.specs.Prelude.{IfOk, IfErr}
use Rattle.dname.specs.Name.{Label}
use Rattle.dnswire.specs.Header.{IsHeader, low_rcode}
use Rattle.dnswire.specs.InTurn.{StandInTurn}
use Rattle.dnswire.specs.MessageName.{NameAt}
use Rattle.dnswire.specs.Question.{AreQuestionFields}
use Rattle.dnswire.specs.RrHead.{RrHead, AreRrFields, IsRrHead, HasNoName}
use Rattle.dnswire.specs.Data.{layout_of, IsData, HasNoData}
use Rattle.dnswire.specs.Message.{IsRr, HasQuestionName, HasQuestion, IsMessage, HasRrFault, HasFaultAmong, IsFaultOf, upper_rcode}
use Rattle.dnswire.specs.Message.HasRrFault.{no_owner, truncated, no_data}
use Rattle.dnswire.specs.Message.IsFaultOf.{no_header, not_one, no_name, no_fields, among}
use Rattle.dnswire.specs.declared.header.Header.{Header}
use Rattle.dnswire.specs.declared.header.TheConstants.{HEADER_OCTETS}
use Rattle.dnswire.specs.declared.question_fields.QuestionFields.{QuestionFields}
use Rattle.dnswire.specs.declared.question_fields.TheConstants.{QUESTION_FIELDS_OCTETS}
use Rattle.dnswire.specs.declared.rr.Rr.{Rr}
use Rattle.dnswire.specs.declared.rr_fields.RrFields.{RrFields}
use Rattle.dnswire.specs.declared.message.Message.{Message}
use Rattle.dnswire.specs.declared.wire_fault.WireFault.{WireFault}
use Rattle.dnswire.specs.declared.wire_fault.WireFault.TheVariants.{Short, BadCount, BadName, BadData, OutOfMemory}
use Rattle.dnswire.proofs.DataLemmas.{one_data}
use Rattle.dnswire.proofs.FieldsLemmas.{one_question_fields, one_rr_head, no_head}
use Rattle.dnswire.proofs.HeaderLemmas.{one_header}
use Rattle.dnswire.proofs.InTurnLemmas.{Same, in_turn-append, one_in_turn, goes_on}
use Rattle.dnswire.proofs.MessageNameLemmas.{one_name_at}

-- ---- a name's fault

pub owner_refused : (message : List ℕ) (at : ℕ) (fault : WireFault) → (fault ≡ OutOfMemory) ⊎ (HasNoName message at × (fault ≡ BadName at)) → (fault ≡ OutOfMemory) ⊎ HasRrFault message at fault
owner_refused message at fault (inl is) = inl is
owner_refused message at fault (inr named) = inr (no_owner named.0 named.1)

pub name_refused : (octets : List ℕ) (header : Header) (fault : WireFault) → IsHeader octets header → header.questions ≡ 1 → (fault ≡ OutOfMemory) ⊎ (HasNoName octets HEADER_OCTETS × (fault ≡ BadName HEADER_OCTETS)) → (fault ≡ OutOfMemory) ⊎ IsFaultOf octets fault
name_refused octets header fault head one (inl is) = inl is
name_refused octets header fault head one (inr named) = inr (no_name header head one named.0 named.1)

-- ---- one record

pub one_rr : (message : List ℕ) (at : ℕ) (rr rr' : Rr) (end end' : ℕ) → IsRr message at rr end → IsRr message at rr' end' → Same rr rr' end end'
one_rr message at rr rr' end end' a b =
    let same = one_rr_head message at a.head b.head end end' a.reads b.reads in
    record {
      items = λ i. record {
        owner = (a.owner ∙ ap (λ h. h.owner) same.heads ∙ sym b.owner) i;
        rtype = (a.rtype ∙ ap (λ h. h.fields.rtype) same.heads ∙ sym b.rtype) i;
        class = (a.class ∙ ap (λ h. h.fields.class) same.heads ∙ sym b.class) i;
        ttl = (a.ttl ∙ ap (λ h. h.fields.ttl) same.heads ∙ sym b.ttl) i;
        octets = one_data message b.head.fields.end (layout_of b.head.fields.rtype) b.head.fields.data_at rr.octets rr'.octets (subst (λ (h : RrHead). IsData message h.fields.end (layout_of h.fields.rtype) h.fields.data_at rr.octets) same.heads a.rdata) b.rdata i;
      };
      ends = same.ends;
    }

-- a record that can be read has no fault
no_rr : (message : List ℕ) (at : ℕ) (fault : WireFault) (rr : Rr) (end : ℕ) → HasRrFault message at fault → IsRr message at rr end → ⊥
no_rr message at fault rr end (no_owner nameless is) r = nameless r.head.owner r.reads.fields_at r.reads.owner
no_rr message at fault rr end (truncated owner fields_at named short is) r = no_head message at owner fields_at r.head end named short r.reads
no_rr message at fault rr end (no_data head end' stands none is) r =
    let same = one_rr_head message at r.head head end end' r.reads stands in
    none rr.octets (subst (λ (h : RrHead). IsData message h.fields.end (layout_of h.fields.rtype) h.fields.data_at rr.octets) same.heads r.rdata)

one_rr_fault : (message : List ℕ) (at : ℕ) (fault fault' : WireFault) → HasRrFault message at fault → HasRrFault message at fault' → fault ≡ fault'
one_rr_fault message at fault fault' (no_owner nameless is) (no_owner nameless' is') = is ∙ sym is'
one_rr_fault message at fault fault' (no_owner nameless is) (truncated owner fields_at named short is') = absurd (nameless owner fields_at named)
one_rr_fault message at fault fault' (no_owner nameless is) (no_data head end stands none is') = absurd (nameless head.owner stands.fields_at stands.owner)
one_rr_fault message at fault fault' (truncated owner fields_at named short is) (no_owner nameless is') = absurd (nameless owner fields_at named)
one_rr_fault message at fault fault' (truncated owner fields_at named short is) (truncated owner' fields_at' named' short' is') = is ∙ sym is'
one_rr_fault message at fault fault' (truncated owner fields_at named short is) (no_data head end stands none is') = absurd (no_head message at owner fields_at head end named short stands)
one_rr_fault message at fault fault' (no_data head end stands none is) (no_owner nameless is') = absurd (nameless head.owner stands.fields_at stands.owner)
one_rr_fault message at fault fault' (no_data head end stands none is) (truncated owner fields_at named short is') = absurd (no_head message at owner fields_at head end named short stands)
one_rr_fault message at fault fault' (no_data head end stands none is) (no_data head' end' stands' none' is') =
    is ∙ ap (λ (h : RrHead). BadData h.fields.data_at) (one_rr_head message at head head' end end' stands stands').heads ∙ sym is'

-- ---- records one after the other

-- where all records can be read, none has a fault
no_fault_among : (message : List ℕ) (at : ℕ) (rrs : List Rr) (end : ℕ) (fault : WireFault) → StandInTurn (IsRr message) at rrs end → HasFaultAmong message at (length rrs) fault → ⊥
no_fault_among message at rrs end fault all f =
    let on = goes_on (IsRr message) (one_rr message) at f.before rrs f.here end f.reads all f.few in
    no_rr message f.here fault on.next on.after f.faulty on.reads

-- the first fault among records is one
one_fault_among : (message : List ℕ) (at : ℕ) (before before' : List Rr) (here here' : ℕ) (fault fault' : WireFault) → StandInTurn (IsRr message) at before here → StandInTurn (IsRr message) at before' here' → HasRrFault message here fault → HasRrFault message here' fault' → fault ≡ fault'
one_fault_among message at [] [] here here' fault fault' a b f f' = one_rr_fault message at fault fault' (subst (λ n. HasRrFault message n fault) (sym a) f) (subst (λ n. HasRrFault message n fault') (sym b) f')
one_fault_among message at [] (rr ∷ before') here here' fault fault' a b f f' = absurd (no_rr message at fault rr b.0 (subst (λ n. HasRrFault message n fault) (sym a) f) b.1)
one_fault_among message at (rr ∷ before) [] here here' fault fault' a b f f' = absurd (no_rr message at fault' rr a.0 (subst (λ n. HasRrFault message n fault') (sym b) f') a.1)
one_fault_among message at (rr ∷ before) (rr' ∷ before') here here' fault fault' a b f f' =
    let same = one_rr message at rr rr' a.0 b.0 a.1 b.1 in
    one_fault_among message b.0 before before' here here' fault fault' (subst (λ n. StandInTurn (IsRr message) n before here) same.ends a.2) b.2 f f'

-- ---- the question

pub record SameName (header header' : Header) (name name' : List Label) (end end' : ℕ) : Type 0 where
  pub headers : header ≡ header'
  pub names : name ≡ name'
  pub ends : end ≡ end'

one_question_name : (octets : List ℕ) (header header' : Header) (name name' : List Label) (end end' : ℕ) → HasQuestionName octets header name end → HasQuestionName octets header' name' end' → SameName header header' name name' end end'
one_question_name octets header header' name name' end end' a b =
    let same = one_name_at octets HEADER_OCTETS name name' end end' a.name_at b.name_at in
    record { headers = one_header octets header header' a.head b.head; names = same.0; ends = same.1 }

pub record SameQuestion (header header' : Header) (name name' : List Label) (fields fields' : QuestionFields) : Type 0 where
  pub headers : header ≡ header'
  pub names : name ≡ name'
  pub fields_same : fields ≡ fields'

one_question : (octets : List ℕ) (header header' : Header) (name name' : List Label) (fields fields' : QuestionFields) → HasQuestion octets header name fields → HasQuestion octets header' name' fields' → SameQuestion header header' name name' fields fields'
one_question octets header header' name name' fields fields' a b =
    let same = one_question_name octets header header' name name' a.fields_at b.fields_at a.named b.named in
    record {
      headers = same.headers;
      names = same.names;
      fields_same = one_question_fields octets b.fields_at fields fields' (subst (λ n. AreQuestionFields octets n fields) same.ends a.fields_are) b.fields_are;
    }

-- ---- the message

record SameSections (answer answer' authority authority' additional additional' : List Rr) : Type 0 where
  pub answers : answer ≡ answer'
  pub authorities : authority ≡ authority'
  pub additionals : additional ≡ additional'

-- three sections of the same sizes from one offset on
one_sections : (message : List ℕ) (at : ℕ) (answer answer' authority authority' additional additional' : List Rr) (p p' q q' end end' : ℕ) → length answer ≡ length answer' → length authority ≡ length authority' → length additional ≡ length additional' → StandInTurn (IsRr message) at answer p → StandInTurn (IsRr message) p authority q → StandInTurn (IsRr message) q additional end → StandInTurn (IsRr message) at answer' p' → StandInTurn (IsRr message) p' authority' q' → StandInTurn (IsRr message) q' additional' end' → SameSections answer answer' authority authority' additional additional'
one_sections message at answer answer' authority authority' additional additional' p p' q q' end end' n m k a b c a' b' c' =
    let one = one_in_turn (IsRr message) (one_rr message) in
    let first = one at answer answer' p p' n a a' in
    let second = one p' authority authority' q q' m (subst (λ at. StandInTurn (IsRr message) at authority q) first.ends b) b' in
    let third = one q' additional additional' end end' k (subst (λ at. StandInTurn (IsRr message) at additional end) second.ends c) c' in
    record { answers = first.items; authorities = second.items; additionals = third.items }

pub one_message : (octets : List ℕ) (m m' : Message) → IsMessage octets m → IsMessage octets m' → m ≡ m'
one_message octets m m' a b =
    let same = one_question octets a.header b.header m.name m'.name a.fields b.fields a.question b.question in
    let counts : (f : Header → ℕ) → f a.header ≡ f b.header = λ f. ap f same.headers in
    let sections = one_sections octets b.fields.end m.answer m'.answer m.authority m'.authority m.additional m'.additional a.authority_at b.authority_at a.additional_at b.additional_at a.end b.end (a.answers ∙ counts (λ h. h.answers) ∙ sym b.answers) (a.authorities ∙ counts (λ h. h.authorities) ∙ sym b.authorities) (a.additionals ∙ counts (λ h. h.additionals) ∙ sym b.additionals) (subst (λ (f : QuestionFields). StandInTurn (IsRr octets) f.end m.answer a.authority_at) same.fields_same a.answer) a.authority a.additional b.answer b.authority b.additional in
    let rcodes : m.rcode ≡ m'.rcode = omega (arith, a.rcode, b.rcode, ap upper_rcode sections.additionals, counts (λ h. low_rcode h.flags)) in
    λ i. record {
      id = (a.id ∙ counts (λ h. h.id) ∙ sym b.id) i;
      flags = (a.flags ∙ counts (λ h. h.flags) ∙ sym b.flags) i;
      rcode = rcodes i;
      name = same.names i;
      qtype = (a.qtype ∙ ap (λ f. f.qtype) same.fields_same ∙ sym b.qtype) i;
      qclass = (a.qclass ∙ ap (λ f. f.qclass) same.fields_same ∙ sym b.qclass) i;
      answer = sections.answers i;
      authority = sections.authorities i;
      additional = sections.additionals i;
    }

-- a message has no fault
among_whole : (octets : List ℕ) (m : Message) (fault : WireFault) (a : IsMessage octets m) → HasFaultAmong octets a.fields.end (a.header.answers + a.header.authorities + a.header.additionals) fault → ⊥
among_whole octets m fault a f =
    let front = in_turn-append (IsRr octets) a.fields.end m.answer m.authority a.authority_at a.additional_at a.answer a.authority in
    let all = in_turn-append (IsRr octets) a.fields.end (m.answer ++ m.authority) m.additional a.additional_at a.end front a.additional in
    let count : a.header.answers + a.header.authorities + a.header.additionals ≡ length ((m.answer ++ m.authority) ++ m.additional) =
    omega (arith, length-append (m.answer ++ m.authority) m.additional, length-append m.answer m.authority, a.answers, a.authorities, a.additionals) in
    no_fault_among octets a.fields.end ((m.answer ++ m.authority) ++ m.additional) a.end fault all (subst (λ n. HasFaultAmong octets a.fields.end n fault) count f)

short_fields : (octets : List ℕ) (at : ℕ) (fields : QuestionFields) → AreQuestionFields octets at fields → length octets < at + QUESTION_FIELDS_OCTETS → ⊥
short_fields octets at fields are short = omega (arith, short, are.end_is, are.within)

pub no_message : (octets : List ℕ) (m : Message) (fault : WireFault) → IsFaultOf octets fault → IsMessage octets m → ⊥
no_message octets m fault (no_header short is) a = omega (arith, short, a.question.named.head.whole)
no_message octets m fault (not_one header head many is) a =
    many (ap (λ h. h.questions) (one_header octets header a.header head a.question.named.head) ∙ a.question.named.one)
no_message octets m fault (no_name header head one nameless is) a = nameless m.name a.question.fields_at a.question.named.name_at
no_message octets m fault (no_fields header name end named short is) a =
    let same = one_question_name octets header a.header name m.name end a.question.fields_at named a.question.named in
    short_fields octets a.question.fields_at a.fields a.question.fields_are (subst (λ n. length octets < n + QUESTION_FIELDS_OCTETS) same.ends short)
no_message octets m fault (among header name fields question f) a =
    let same = one_question octets header a.header name m.name fields a.fields question a.question in
    among_whole octets m fault a (subst (λ (f : QuestionFields). HasFaultAmong octets f.end (a.header.answers + a.header.authorities + a.header.additionals) fault) same.fields_same (subst (λ (h : Header). HasFaultAmong octets fields.end (h.answers + h.authorities + h.additionals) fault) same.headers f))

-- ---- the first fault of octets is one

after_no_header : (octets : List ℕ) (fault : WireFault) → length octets < HEADER_OCTETS → IsFaultOf octets fault → fault ≡ Short
after_no_header octets fault short (no_header short' is) = is
after_no_header octets fault short (not_one header head many is) = absurd (omega (arith, short, head.whole))
after_no_header octets fault short (no_name header head one nameless is) = absurd (omega (arith, short, head.whole))
after_no_header octets fault short (no_fields header name end named ends is) = absurd (omega (arith, short, named.head.whole))
after_no_header octets fault short (among header name fields question f) = absurd (omega (arith, short, question.named.head.whole))

same_count : (octets : List ℕ) (header header' : Header) → IsHeader octets header → IsHeader octets header' → header.questions ≡ header'.questions
same_count octets header header' a b = ap (λ h. h.questions) (one_header octets header header' a b)

after_not_one : (octets : List ℕ) (fault : WireFault) (header : Header) → IsHeader octets header → header.questions ≢ 1 → IsFaultOf octets fault → fault ≡ BadCount
after_not_one octets fault header head many (no_header short is) = absurd (omega (arith, short, head.whole))
after_not_one octets fault header head many (not_one header' head' many' is) = is
after_not_one octets fault header head many (no_name header' head' one nameless is) = absurd (many (same_count octets header header' head head' ∙ one))
after_not_one octets fault header head many (no_fields header' name end named ends is) = absurd (many (same_count octets header header' head named.head ∙ named.one))
after_not_one octets fault header head many (among header' name fields question f) = absurd (many (same_count octets header header' head question.named.head ∙ question.named.one))

after_no_name : (octets : List ℕ) (fault : WireFault) (header : Header) → IsHeader octets header → header.questions ≡ 1 → HasNoName octets HEADER_OCTETS → IsFaultOf octets fault → fault ≡ BadName HEADER_OCTETS
after_no_name octets fault header head one nameless (no_header short is) = absurd (omega (arith, short, head.whole))
after_no_name octets fault header head one nameless (not_one header' head' many is) = absurd (many (same_count octets header' header head' head ∙ one))
after_no_name octets fault header head one nameless (no_name header' head' one' nameless' is) = is
after_no_name octets fault header head one nameless (no_fields header' name end named ends is) = absurd (nameless name end named.name_at)
after_no_name octets fault header head one nameless (among header' name fields question f) = absurd (nameless name question.fields_at question.named.name_at)

after_no_fields : (octets : List ℕ) (fault : WireFault) (header : Header) (name : List Label) (end : ℕ) → HasQuestionName octets header name end → length octets < end + QUESTION_FIELDS_OCTETS → IsFaultOf octets fault → fault ≡ Short
after_no_fields octets fault header name end named ends (no_header short is) = is
after_no_fields octets fault header name end named ends (not_one header' head' many is) = absurd (many (same_count octets header' header head' named.head ∙ named.one))
after_no_fields octets fault header name end named ends (no_name header' head' one nameless is) = absurd (nameless name end named.name_at)
after_no_fields octets fault header name end named ends (no_fields header' name' end' named' ends' is) = is
after_no_fields octets fault header name end named ends (among header' name' fields question f) =
    let same = one_question_name octets header header' name name' end question.fields_at named question.named in
    absurd (short_fields octets question.fields_at fields question.fields_are (subst (λ n. length octets < n + QUESTION_FIELDS_OCTETS) same.ends ends))

after_question : (octets : List ℕ) (fault fault' : WireFault) (header : Header) (name : List Label) (fields : QuestionFields) → HasQuestion octets header name fields → HasFaultAmong octets fields.end (header.answers + header.authorities + header.additionals) fault' → IsFaultOf octets fault → fault ≡ fault'
after_question octets fault fault' header name fields question f (no_header short is) = absurd (omega (arith, short, question.named.head.whole))
after_question octets fault fault' header name fields question f (not_one header' head' many is) = absurd (many (same_count octets header' header head' question.named.head ∙ question.named.one))
after_question octets fault fault' header name fields question f (no_name header' head' one nameless is) = absurd (nameless name question.fields_at question.named.name_at)
after_question octets fault fault' header name fields question f (no_fields header' name' end' named' ends is) =
    let same = one_question_name octets header' header name' name end' question.fields_at named' question.named in
    absurd (short_fields octets question.fields_at fields question.fields_are (subst (λ n. length octets < n + QUESTION_FIELDS_OCTETS) same.ends ends))
after_question octets fault fault' header name fields question f (among header' name' fields' question' f') =
    let same = one_question octets header' header name' name fields' fields question' question in
    one_fault_among octets fields.end f'.before f.before f'.here f.here fault fault' (subst (λ (q : QuestionFields). StandInTurn (IsRr octets) q.end f'.before f'.here) same.fields_same f'.reads) f.reads f'.faulty f.faulty

pub one_fault : (octets : List ℕ) (fault fault' : WireFault) → IsFaultOf octets fault → IsFaultOf octets fault' → fault ≡ fault'
one_fault octets fault fault' a (no_header short is) = after_no_header octets fault short a ∙ sym is
one_fault octets fault fault' a (not_one header head many is) = after_not_one octets fault header head many a ∙ sym is
one_fault octets fault fault' a (no_name header head one nameless is) = after_no_name octets fault header head one nameless a ∙ sym is
one_fault octets fault fault' a (no_fields header name end named ends is) = after_no_fields octets fault header name end named ends a ∙ sym is
one_fault octets fault fault' a (among header name fields question f) = after_question octets fault fault' header name fields question f a

-- ---- the readers' refusals

-- memory is out, or the fault is this one
abbrev pub Refused : (WireFault → Type 0) → WireFault → Type 0
Refused P fault = (fault ≡ OutOfMemory) ⊎ P fault

pub head_of_rr : (message : List ℕ) (at : ℕ) (owner : List Label) (fields_at : ℕ) (fields : RrFields) → NameAt message at owner fields_at → AreRrFields message fields_at fields → IsRrHead message at (record { owner = owner; fields = fields }) fields.end
head_of_rr message at owner fields_at fields named are = record { fields_at = fields_at; owner = named; fields = are; end_is = refl }

pub data_refused : (message : List ℕ) (at : ℕ) (head : RrHead) (fault : WireFault) → IsRrHead message at head head.fields.end → Refused (λ f. HasNoData message head.fields.end (layout_of head.fields.rtype) head.fields.data_at × (f ≡ BadData head.fields.data_at)) fault → Refused (HasRrFault message at) fault
data_refused message at head fault stands (inl out) = inl out
data_refused message at head fault stands (inr none) = inr (no_data head head.fields.end stands none.0 none.1)

pub rr_refused : (message : List ℕ) (at : ℕ) (rrs : List Rr) (here count counter : ℕ) (fault : WireFault) → StandInTurn (IsRr message) at rrs here → length rrs ≡ counter → counter < count → Refused (HasRrFault message here) fault → Refused (HasFaultAmong message at count) fault
rr_refused message at rrs here count counter fault reads long few (inl out) = inl out
rr_refused message at rrs here count counter fault reads long few (inr f) = inr (record { before = rrs; here = here; reads = reads; few = omega (arith, long, few); faulty = f })

-- the fault of a section is that of the message, after the sections before it
pub section_refused : (octets : List ℕ) (header : Header) (name : List Label) (fields : QuestionFields) (rrs : List Rr) (between count : ℕ) (fault : WireFault) → HasQuestion octets header name fields → StandInTurn (IsRr octets) fields.end rrs between → length rrs + count ≤ header.answers + header.authorities + header.additionals → Refused (HasFaultAmong octets between count) fault → Refused (IsFaultOf octets) fault
section_refused octets header name fields rrs between count fault question reads wide (inl out) = inl out
section_refused octets header name fields rrs between count fault question reads wide (inr f) = inr (among header name fields question (record {
  before = rrs ++ f.before;
  here = f.here;
  reads = in_turn-append (IsRr octets) fields.end rrs f.before between f.here reads f.reads;
  few = omega (arith, length-append rrs f.before, f.few, wide);
  faulty = f.faulty;
}))

pub question_of : (octets : List ℕ) (header : Header) (name : List Label) (at : ℕ) (fields : QuestionFields) → IsHeader octets header → header.questions ≡ 1 → NameAt octets HEADER_OCTETS name at → AreQuestionFields octets at fields → HasQuestion octets header name fields
question_of octets header name at fields head one name_at are = record { fields_at = at; named = record { head = head; one = one; name_at = name_at }; fields_are = are }

-- ---- what the reader says is all that it can say

-- the answer is this one, or memory is out
abbrev IsOr : Result Message WireFault → Result Message WireFault → Type 0
IsOr answer wanted = (answer ≡ wanted) ⊎ (answer ≡ Err OutOfMemory)

pub every_message : (octets : List ℕ) (answer : Result Message WireFault) (message : Message) → IfOk answer (IsMessage octets) → IfErr answer (Refused (IsFaultOf octets)) → IsMessage octets message → IsOr answer (Ok message)
every_message octets (Ok m) message read refused a = inl (ap Ok (one_message octets m message read a))
every_message octets (Err f) message read (inl out) a = inr (ap Err out)
every_message octets (Err f) message read (inr b) a = absurd (no_message octets message f b a)

pub every_fault : (octets : List ℕ) (answer : Result Message WireFault) (fault : WireFault) → IfOk answer (IsMessage octets) → IfErr answer (Refused (IsFaultOf octets)) → IsFaultOf octets fault → IsOr answer (Err fault)
every_fault octets (Ok m) fault read refused a = absurd (no_message octets m fault a read)
every_fault octets (Err f) fault read (inl out) a = inr (ap Err out)
every_fault octets (Err f) fault read (inr b) a = inl (ap Err (one_fault octets f fault b a))
