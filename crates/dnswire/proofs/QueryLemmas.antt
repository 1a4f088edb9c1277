-- Octets are read as a query in one way only.
use Rattle.std.proofs.Common.{◌≡◌, ◌≢◌, ℕ, ◌+◌, ◌-◌, ◌<◌, inl, inr, Bool, true, false, cond, nat_eq, List, [], ◌∷◌, ◌++◌, length, take, drop, Option, None, Some, refl, sym, ◌∙◌, ap, subst, arith, length-append, append-nil}
use Rattle.std.proofs.lemmas.Bool.{ne_eqb, eq-eqb}
use Rattle.std.proofs.lemmas.List.Elements.{filter-append}
use Rattle.dname.specs.Read.{Spells}
use Rattle.dname.specs.declared.types.TheConstants.{OPT_TYPE}
use Rattle.dname.proofs.ReadLemmas.{one_name}
use Rattle.dnswire.specs.Header.{is_response, opcode_of, head_of}
use Rattle.dnswire.specs.InTurn.{StandInTurn}
use Rattle.dnswire.specs.Query.{AreOpts, IsQuery, HasQueryHeader, IsReadAs, edns_of, opts_of, version_of}
use Rattle.dnswire.specs.Question.{AreQuestionFields}
use Rattle.dnswire.specs.RecordsPassed.{HasRecords}
use Rattle.dnswire.specs.RrHead.{RrHead, IsRrHead}
use Rattle.dnswire.specs.declared.edns.Edns.{Edns}
use Rattle.dnswire.specs.declared.header.Header.{Header}
use Rattle.dnswire.specs.declared.header.TheConstants.{HEADER_OCTETS}
use Rattle.dnswire.specs.declared.question.Question.{Question}
use Rattle.dnswire.specs.declared.question_fields.QuestionFields.{QuestionFields}
use Rattle.dnswire.specs.declared.query_read.QueryRead.{QueryRead}
use Rattle.dnswire.specs.declared.query_read.QueryRead.TheVariants.{Dropped, NotImp, FormErr, BadVers, Query}
use Rattle.dnswire.proofs.FieldsLemmas.{one_question_fields, one_rr_head}
use Rattle.dnswire.proofs.HeaderLemmas.{one_header}
use Rattle.dnswire.proofs.InTurnLemmas.{Same, GoesOn, in_turn-push, one_in_turn, goes_on}

one_head : (message : List ℕ) (at : ℕ) (head head' : RrHead) (end end' : ℕ) → IsRrHead message at head end → IsRrHead message at head' end' → Same head head' end end'
one_head message at head head' end end' a b =
    let same = one_rr_head message at head head' end end' a b in
    record { items = same.heads; ends = same.ends }

-- ---- so many records are passed over

pub record HasPassed (message : List ℕ) (at count here : ℕ) : Type 0 where
  pub heads : List RrHead
  pub stand : StandInTurn (IsRrHead message) at heads here
  pub count_is : length heads ≡ count

abbrev pub passed_none : (message : List ℕ) (at : ℕ) → HasPassed message at 0 at
passed_none message at = record { heads = []; stand = refl; count_is = refl }

abbrev pub passed_more : (message : List ℕ) (at count here : ℕ) (head : RrHead) (end : ℕ) → HasPassed message at count here → IsRrHead message here head end → HasPassed message at (count + 1) end
passed_more message at count here head end passed reads = record {
  heads = passed.heads ++ head ∷ [];
  stand = in_turn-push (IsRrHead message) at passed.heads head here end passed.stand reads;
  count_is = omega (arith, length-append passed.heads (head ∷ []), passed.count_is);
}

-- where there are more, the next stands after those that were passed
pub passed_next : (message : List ℕ) (at count here : ℕ) (all : List RrHead) (end : ℕ) (passed : HasPassed message at count here) → StandInTurn (IsRrHead message) at all end → count < length all → GoesOn (IsRrHead message) here passed.heads all
passed_next message at count here all end passed stand few =
    goes_on (IsRrHead message) (one_head message) at passed.heads all here end passed.stand stand (omega (arith, passed.count_is, few))

-- ---- the OPT records of a section

opts_by : (heads more : List RrHead) (head : RrHead) (test : Bool) → nat_eq head.fields.rtype OPT_TYPE ≡ test → opts_of (heads ++ head ∷ more) ≡ opts_of heads ++ cond test (head ∷ opts_of more) (opts_of more)
opts_by heads more head test is =
    filter-append (λ h. nat_eq h.fields.rtype OPT_TYPE) heads (head ∷ more) ∙ ap (λ t. opts_of heads ++ cond t (head ∷ opts_of more) (opts_of more)) is

opts_with : (heads more : List RrHead) (head : RrHead) → head.fields.rtype ≡ OPT_TYPE → opts_of (heads ++ head ∷ more) ≡ opts_of heads ++ head ∷ opts_of more
opts_with heads more head is = opts_by heads more head true (eq-eqb head.fields.rtype OPT_TYPE is)

opts_without : (heads : List RrHead) (head : RrHead) → head.fields.rtype ≢ OPT_TYPE → opts_of (heads ++ head ∷ []) ≡ opts_of heads
opts_without heads head other = opts_by heads [] head false (ne_eqb head.fields.rtype OPT_TYPE other) ∙ append-nil (opts_of heads)

-- an OPT record among all of them is the only one, and its owner the root
only_opt : (before after : List RrHead) (opt : RrHead) (edns : Option Edns) (version : ℕ) → AreOpts (before ++ opt ∷ after) edns version → (before ≡ []) × (opt.owner ≡ [])
only_opt [] [] opt edns version are = (refl, are.0)
only_opt [] (next ∷ more) opt edns version are = absurd are
only_opt (first ∷ []) after opt edns version are = absurd are
only_opt (first ∷ second ∷ more) after opt edns version are = absurd are

no_opt : (opts : List RrHead) (edns : Option Edns) (version : ℕ) → AreOpts opts edns version → edns ≡ None → opts ≡ []
no_opt [] edns version are none = refl
no_opt (opt ∷ []) edns version are none = let there : None ≡ Some (edns_of opt.fields) = sym none ∙ are.1 in absurd cc
no_opt (first ∷ second ∷ more) edns version are none = absurd are

record SameOpts (edns edns' : Option Edns) (version version' : ℕ) : Type 0 where
  pub same_edns : edns ≡ edns'
  pub same_version : version ≡ version'

one_opts : (opts : List RrHead) (edns edns' : Option Edns) (version version' : ℕ) → AreOpts opts edns version → AreOpts opts edns' version' → SameOpts edns edns' version version'
one_opts [] edns edns' version version' a b = record { same_edns = a.0 ∙ sym b.0; same_version = a.1 ∙ sym b.1 }
one_opts (opt ∷ []) edns edns' version version' a b = record { same_edns = a.1 ∙ sym b.1; same_version = a.2 ∙ sym b.2 }
one_opts (first ∷ second ∷ more) edns edns' version version' a b = absurd a

-- so many records stand up to the offset, and this is what their OPT records say
pub record HasSaid (message : List ℕ) (at count here : ℕ) (edns : Option Edns) (version : ℕ) : Type 0 where
  pub passed : HasPassed message at count here
  pub opts : AreOpts (opts_of passed.heads) edns version

pub said_none : (message : List ℕ) (at : ℕ) → HasSaid message at 0 at None 0
said_none message at = record { passed = passed_none message at; opts = (refl, refl) }

pub said_other : (message : List ℕ) (at count here : ℕ) (edns : Option Edns) (version : ℕ) (head : RrHead) (end : ℕ) → HasSaid message at count here edns version → IsRrHead message here head end → head.fields.rtype ≢ OPT_TYPE → HasSaid message at (count + 1) end edns version
said_other message at count here edns version head end said reads other = record {
  passed = passed_more message at count here head end said.passed reads;
  opts = subst (λ opts. AreOpts opts edns version) (sym (opts_without said.passed.heads head other)) said.opts;
}

pub said_opt : (message : List ℕ) (at count here : ℕ) (edns : Option Edns) (version : ℕ) (head : RrHead) (end : ℕ) → HasSaid message at count here edns version → IsRrHead message here head end → head.fields.rtype ≡ OPT_TYPE → edns ≡ None → head.owner ≡ [] → HasSaid message at (count + 1) end (Some (edns_of head.fields)) (version_of head.fields)
said_opt message at count here edns version head end said reads is none root = record {
  passed = passed_more message at count here head end said.passed reads;
  opts = subst (λ opts. AreOpts opts (Some (edns_of head.fields)) (version_of head.fields))
      (sym (opts_with said.passed.heads [] head is ∙ ap (λ opts. opts ++ head ∷ []) (no_opt (opts_of said.passed.heads) edns version said.opts none))) (root, refl, refl);
}

-- where there are more records and they say something, an OPT record that comes next is the first, and its owner the root
pub said_next : (message : List ℕ) (at count here : ℕ) (edns : Option Edns) (version : ℕ) (head : RrHead) (end : ℕ) (all : List RrHead) (last : ℕ) (edns' : Option Edns) (version' : ℕ) → HasSaid message at count here edns version → IsRrHead message here head end → head.fields.rtype ≡ OPT_TYPE → StandInTurn (IsRrHead message) at all last → count < length all → AreOpts (opts_of all) edns' version' → (edns ≡ None) × (head.owner ≡ [])
said_next message at count here edns version head end all last edns' version' said reads is stand few are =
    let on = passed_next message at count here all last said.passed stand few in
    let split : all ≡ said.passed.heads ++ head ∷ on.more = on.split ∙ ap (λ h. said.passed.heads ++ h ∷ on.more) (one_rr_head message here on.next head on.after end on.reads reads).heads in
    let only = only_opt (opts_of said.passed.heads) (opts_of on.more) head edns' version' (subst (λ opts. AreOpts opts edns' version') (ap opts_of split ∙ opts_with said.passed.heads on.more head is) are) in
    ((subst (λ opts. AreOpts opts edns version) only.0 said.opts).0, only.1)

-- ---- one question is asked

-- the name and the fields of a query's question are those that were read
pub record SameStart (name name' : List (List ℕ)) (taken taken' : ℕ) (fields fields' : QuestionFields) : Type 0 where
  pub names : name ≡ name'
  pub takens : taken ≡ taken'
  pub fields_same : fields ≡ fields'

pub one_start : (octets rest : List ℕ) (name name' : List (List ℕ)) (taken taken' : ℕ) (fields fields' : QuestionFields) → Spells rest name taken → Spells rest name' taken' → AreQuestionFields octets (HEADER_OCTETS + taken) fields → AreQuestionFields octets (HEADER_OCTETS + taken') fields' → SameStart name name' taken taken' fields fields'
one_start octets rest name name' taken taken' fields fields' a b f f' =
    let names = one_name rest name name' taken taken' a b in
    record {
      names = names.0;
      takens = names.1;
      fields_same = one_question_fields octets (HEADER_OCTETS + taken') fields fields' (subst (λ n. AreQuestionFields octets (HEADER_OCTETS + n) fields) names.1 f) f';
    }

pub record SameReading (question question' : Question) (version version' : ℕ) : Type 0 where
  pub questions : question ≡ question'
  pub versions : version ≡ version'

one_query : (octets : List ℕ) (header : Header) (question question' : Question) (version version' : ℕ) → IsQuery octets header question version → IsQuery octets header question' version' → SameReading question question' version version'
one_query octets header question question' version version' a b =
    let start = one_start octets (drop HEADER_OCTETS octets) question.name question'.name a.taken b.taken a.fields b.fields a.name b.name a.reads b.reads in
    let one = one_in_turn (IsRrHead octets) (one_head octets) in
    let front = one b.fields.end a.passed b.passed a.additional_at b.additional_at (a.passed_are ∙ sym b.passed_are)
    (subst (λ (f : QuestionFields). StandInTurn (IsRrHead octets) f.end a.passed a.additional_at) start.fields_same a.front) b.front in
    let back = one b.additional_at a.additional b.additional a.end b.end (a.additional_are ∙ sym b.additional_are)
    (subst (λ at. StandInTurn (IsRrHead octets) at a.additional a.end) front.ends a.back) b.back in
    let opts = one_opts (opts_of b.additional) question.edns question'.edns version version' (subst (λ l. AreOpts (opts_of l) question.edns version) back.items a.opts) b.opts in
    let asked = a.asked ∙ ap (λ (f : QuestionFields). take (f.end - HEADER_OCTETS) (drop HEADER_OCTETS octets)) start.fields_same ∙ sym b.asked in
    record {
      questions = λ i. record {
        id = (a.id ∙ sym b.id) i;
        rd = (a.rd ∙ sym b.rd) i;
        ad = (a.ad ∙ sym b.ad) i;
        cd = (a.cd ∙ sym b.cd) i;
        name = start.names i;
        asked = record { items = asked i };
        qtype = (a.qtype ∙ ap (λ f. f.qtype) start.fields_same ∙ sym b.qtype) i;
        qclass = (a.qclass ∙ ap (λ f. f.qclass) start.fields_same ∙ sym b.qclass) i;
        edns = opts.same_edns i;
      };
      versions = opts.same_version;
    }

-- where the records of a query stand, once its name and fields are read
front_at : (octets : List ℕ) (header : Header) (question : Question) (version : ℕ) (name : List (List ℕ)) (taken : ℕ) (fields : QuestionFields) (a : IsQuery octets header question version) → Spells (drop HEADER_OCTETS octets) name taken → AreQuestionFields octets (HEADER_OCTETS + taken) fields → StandInTurn (IsRrHead octets) fields.end a.passed a.additional_at
front_at octets header question version name taken fields a spells are =
    subst (λ (f : QuestionFields). StandInTurn (IsRrHead octets) f.end a.passed a.additional_at) (one_start octets (drop HEADER_OCTETS octets) question.name name a.taken taken a.fields fields a.name spells a.reads are).fields_same a.front

-- the records of a query, once its name and fields are read
pub records_of : (octets : List ℕ) (header : Header) (question : Question) (version : ℕ) (name : List (List ℕ)) (taken : ℕ) (fields : QuestionFields) (a : IsQuery octets header question version) → Spells (drop HEADER_OCTETS octets) name taken → AreQuestionFields octets (HEADER_OCTETS + taken) fields → HasRecords octets fields.end header question.edns version
records_of octets header question version name taken fields a spells are = record {
  passed = a.passed;
  additional_at = a.additional_at;
  front = front_at octets header question version name taken fields a spells are;
  passed_are = a.passed_are;
  additional = a.additional;
  end = a.end;
  back = a.back;
  additional_are = a.additional_are;
  opts = a.opts;
}

-- where the additional records stand, once those before them are passed over
pub additional_from : (octets : List ℕ) (at : ℕ) (header : Header) (edns : Option Edns) (version : ℕ) (heads : List RrHead) (end : ℕ) (a : HasRecords octets at header edns version) → StandInTurn (IsRrHead octets) at heads end → length heads ≡ header.answers + header.authorities → StandInTurn (IsRrHead octets) end a.additional a.end
additional_from octets at header edns version heads end a stand long =
    subst (λ at. StandInTurn (IsRrHead octets) at a.additional a.end) (one_in_turn (IsRrHead octets) (one_head octets) at a.passed heads a.additional_at end (a.passed_are ∙ sym long) a.front stand).ends a.back

-- ---- octets are read in one way

pub record SameHeader (header header' : Header) (opcode opcode' : ℕ) : Type 0 where
  pub headers : header ≡ header'
  pub opcodes : opcode ≡ opcode'

one_query_header : (octets : List ℕ) (header header' : Header) (opcode opcode' : ℕ) → HasQueryHeader octets header opcode → HasQueryHeader octets header' opcode' → SameHeader header header' opcode opcode'
one_query_header octets header header' opcode opcode' a b =
    let same = one_header octets header header' a.head b.head in
    record { headers = same; opcodes = sym a.opcode_is ∙ ap (λ h. opcode_of h.flags) same ∙ b.opcode_is }

-- what is dropped has no header of a query
not_dropped : (octets : List ℕ) (header : Header) (opcode : ℕ) → IsReadAs octets Dropped → HasQueryHeader octets header opcode → ⊥
not_dropped octets header opcode (inl short) q = omega (arith, short, q.head.whole)
not_dropped octets header opcode (inr there) q =
    let response : true ≡ false = sym there.2 ∙ ap (λ h. is_response h.flags) (one_header octets there.0 header there.1 q.head) ∙ q.query in
    cc

-- a query with another opcode has no header with the opcode of a standard query
not_standard : (octets : List ℕ) (header header' : Header) (opcode : ℕ) → HasQueryHeader octets header opcode → opcode ≢ 0 → HasQueryHeader octets header' 0 → ⊥
not_standard octets header header' opcode q other q' = other (one_query_header octets header header' opcode 0 q q').opcodes

-- two questions of one query
one_query_of : (octets : List ℕ) (header header' : Header) (question question' : Question) (version version' : ℕ) → HasQueryHeader octets header 0 → HasQueryHeader octets header' 0 → IsQuery octets header question version → IsQuery octets header' question' version' → SameReading question question' version version'
one_query_of octets header header' question question' version version' q q' a b =
    one_query octets header' question question' version version' (subst (λ h. IsQuery octets h question version) (one_query_header octets header header' 0 0 q q').headers a) b

-- what is no query asks no question
no_query : (octets : List ℕ) (header header' : Header) (question : Question) (version : ℕ) → HasQueryHeader octets header 0 → ((q : Question) (v : ℕ) → IsQuery octets header q v → ⊥) → HasQueryHeader octets header' 0 → IsQuery octets header' question version → ⊥
no_query octets header header' question version q none q' a =
    none question version (subst (λ h. IsQuery octets h question version) (one_query_header octets header' header 0 0 q' q).headers a)

pub one_read : (octets : List ℕ) (read read' : QueryRead) → IsReadAs octets read → IsReadAs octets read' → read ≡ read'
one_read octets Dropped Dropped a b = refl
one_read octets Dropped (NotImp head) a b = absurd (not_dropped octets b.0 b.1 a b.2)
one_read octets Dropped (FormErr head) a b = absurd (not_dropped octets b.0 0 a b.1)
one_read octets Dropped (BadVers question) a b = absurd (not_dropped octets b.0 0 a b.2)
one_read octets Dropped (Query question) a b = absurd (not_dropped octets b.0 0 a b.1)
one_read octets (NotImp head) Dropped a b = absurd (not_dropped octets a.0 a.1 b a.2)
one_read octets (NotImp head) (NotImp head') a b = ap NotImp (a.4 ∙ ap head_of (one_query_header octets a.0 b.0 a.1 b.1 a.2 b.2).headers ∙ sym b.4)
one_read octets (NotImp head) (FormErr head') a b = absurd (not_standard octets a.0 b.0 a.1 a.2 a.3 b.1)
one_read octets (NotImp head) (BadVers question) a b = absurd (not_standard octets a.0 b.0 a.1 a.2 a.3 b.2)
one_read octets (NotImp head) (Query question) a b = absurd (not_standard octets a.0 b.0 a.1 a.2 a.3 b.1)
one_read octets (FormErr head) Dropped a b = absurd (not_dropped octets a.0 0 b a.1)
one_read octets (FormErr head) (NotImp head') a b = absurd (not_standard octets b.0 a.0 b.1 b.2 b.3 a.1)
one_read octets (FormErr head) (FormErr head') a b = ap FormErr (a.2 ∙ ap head_of (one_query_header octets a.0 b.0 0 0 a.1 b.1).headers ∙ sym b.2)
one_read octets (FormErr head) (BadVers question) a b = absurd (no_query octets a.0 b.0 question b.1 a.1 a.3 b.2 b.3)
one_read octets (FormErr head) (Query question) a b = absurd (no_query octets a.0 b.0 question 0 a.1 a.3 b.1 b.2)
one_read octets (BadVers question) Dropped a b = absurd (not_dropped octets a.0 0 b a.2)
one_read octets (BadVers question) (NotImp head) a b = absurd (not_standard octets b.0 a.0 b.1 b.2 b.3 a.2)
one_read octets (BadVers question) (FormErr head) a b = absurd (no_query octets b.0 a.0 question a.1 b.1 b.3 a.2 a.3)
one_read octets (BadVers question) (BadVers question') a b = ap BadVers (one_query_of octets a.0 b.0 question question' a.1 b.1 a.2 b.2 a.3 b.3).questions
one_read octets (BadVers question) (Query question') a b = absurd (a.4 (one_query_of octets a.0 b.0 question question' a.1 0 a.2 b.1 a.3 b.2).versions)
one_read octets (Query question) Dropped a b = absurd (not_dropped octets a.0 0 b a.1)
one_read octets (Query question) (NotImp head) a b = absurd (not_standard octets b.0 a.0 b.1 b.2 b.3 a.1)
one_read octets (Query question) (FormErr head) a b = absurd (no_query octets b.0 a.0 question 0 b.1 b.3 a.1 a.2)
one_read octets (Query question) (BadVers question') a b = absurd (b.4 (sym (one_query_of octets a.0 b.0 question question' 0 b.1 a.1 b.2 a.2 b.3).versions))
one_read octets (Query question) (Query question') a b = ap Query (one_query_of octets a.0 b.0 question question' 0 0 a.1 b.1 a.2 b.2).questions
