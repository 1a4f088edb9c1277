-- The frames of a made zone's messages and queries.
use Rattle.std.proofs.Common.{◌≡◌, ℕ, zero, suc, ◌+◌, ◌/◌, ◌%◌, ◌^◌, ◌<◌, ◌≤◌, Bool, true, false, List, [], ◌∷◌, ◌++◌, length, map, take, get_or, refl, sym, ◌∙◌, ap, subst, arith, length-append, append_assoc}
use Rattle.std.specs.Prelude.{if◌then◌else◌, ◌==◌}
use Rattle.std.specs.List.{All, AllZip, range_with_len}
use Rattle.std.proofs.lemmas.List.{length-map, map-append, take_more}
use Rattle.std.proofs.lemmas.List.Concat.{flat_map-append}
use Rattle.std.proofs.lemmas.List.Elements.{All-nil, All-cons, All-head, All-tail, All-append, All-map}
use Rattle.std.proofs.lemmas.List.FromFn.{length-map-range_with_len, map-range_with_len_more}
use Rattle.byteorder.specs.Endian.{big_bytes}
use Rattle.dname.specs.Name.{Label, wire_of}
use Rattle.dname.specs.declared.types.TheConstants.{A_TYPE, IN_CLASS, NSEC_TYPE, RRSIG_TYPE, SOA_TYPE}
use Rattle.zone_maker.specs.Made.{NameKind, Host, Above, Cut, Wild, kind_at, name_at, owner_in, made_owner, next_owner, made_example, soa_data, address_at}
use Rattle.zone_maker.specs.Messages.{header_octets, question_octets, record_octets, signature_data, signed_octets, answer_in, answer_of, answers_of, nsec_data, type_map, first_of, message_flags, message_at, messages_of}
use Rattle.zone_maker.specs.Questions.{asked_first, asked_second, asked_at, asked_number, opt_octets, query_at}
use Rattle.replay_meaning.specs.Frame.{Input, IsInput, input_spelling, inputs_spelling}
use Rattle.replay_meaning.specs.OutFrame.{Output, IsOutput, outputs_spelling}
use Rattle.replay_meaning.specs.Fits.{Fits}
use Rattle.reply_core.specs.Answered.{reply_in}
use Rattle.replay_meaning.specs.Sound.{IsSoundReply}
use Rattle.replay_meaning.specs.Replay.{AreFrames, SpellsFrames, IsReplay}
use Rattle.replay_meaning.specs.declared.frame.FrameKind.{FrameKind}
use Rattle.replay_meaning.specs.declared.frame.FrameKind.TheVariants.{Query, Upstream}
use Rattle.replay_meaning.proofs.FrameLemmas.{inputs_have_one, spelling-push}
use Rattle.running.specs.Made.{made_input, made_inputs, queries_of}
use Rattle.running.specs.Summary.{IsMadeSummary, summary}

-- ---- names of the made zone are short

Short : List Label → Type 0
Short name = length (wire_of name) ≤ 25

owner_short : (kind : NameKind) (i : ℕ) → Short (owner_in kind (name_at i))
unfolding Short
owner_short Host i = omega arith
owner_short Above i = omega arith
owner_short Cut i = omega arith
owner_short Wild i = omega arith

made_short : (k : ℕ) → Short (made_owner k)
unfolding Short
made_short zero = omega arith
made_short (suc i) = owner_short (kind_at i) i

either_short : (b : Bool) (name name' : List Label) → Short name → Short name' → Short (if b then name else name')
either_short true name name' short short' = short
either_short false name name' short short' = short'

first_short : (kind : NameKind) (i : ℕ) → Short (asked_first kind (name_at i)).name
unfolding Short
first_short Host i = omega arith
first_short Above i = omega arith
first_short Cut i = omega arith
first_short Wild i = omega arith

second_short : (kind : NameKind) (i : ℕ) → Short (asked_second kind (name_at i)).name
unfolding Short
second_short Host i = omega arith
second_short Above i = omega arith
second_short Cut i = omega arith
second_short Wild i = omega arith

asked_short : (seed names j : ℕ) → Short (asked_at seed names j).name
asked_short seed names j = by ((j / 4) % 2 == 0)
  where
    i : ℕ
    i = asked_number seed names j

    by : (b : Bool) → Short (if b then asked_first (kind_at i) (name_at i) else asked_second (kind_at i) (name_at i)).name
    by true = first_short (kind_at i) i
    by false = second_short (kind_at i) i

-- ---- so messages and queries are

five_long : (a b c d e : List ℕ) → length (a ++ b ++ c ++ d ++ e) ≡ length a + (length b + (length c + (length d + length e)))
five_long a b c d e = omega (arith, length-append (a ++ b ++ c ++ d) e, length-append (a ++ b ++ c) d, length-append (a ++ b) c, length-append a b)

six_long : (a b c d e f : List ℕ) → length (a ++ b ++ c ++ d ++ e ++ f) ≡ length a + (length b + (length c + (length d + (length e + length f))))
six_long a b c d e f = omega (arith, length-append (a ++ b ++ c ++ d ++ e) f, five_long a b c d e)

record_long : (owner : List Label) (rtype : ℕ) (rdata : List ℕ) → length (record_octets owner rtype rdata) ≡ length (wire_of owner) + (10 + length rdata)
record_long owner rtype rdata =
    let size : List ℕ = big_bytes 2 (length rdata) in
    omega (arith, six_long (wire_of owner) (big_bytes 2 rtype) (big_bytes 2 IN_CLASS) (big_bytes 4 3600) size rdata)

signed_short : (owner : List Label) (rtype : ℕ) (rdata : List ℕ) → Short owner → length rdata ≤ 40 → length (signed_octets owner rtype rdata) ≤ 150
unfolding Short
signed_short owner rtype rdata short few =
    let signature : length (signature_data owner rtype) ≡ 36 = refl in
    omega (arith, length-append (record_octets owner rtype rdata) (record_octets owner RRSIG_TYPE (signature_data owner rtype)), record_long owner rtype rdata, record_long owner RRSIG_TYPE (signature_data owner rtype), signature, short, few)

question_short : (name : List Label) (qtype : ℕ) → Short name → length (question_octets name qtype) ≤ 29
unfolding Short
question_short name qtype short =
    omega (arith, length-append (wire_of name ++ big_bytes 2 qtype) (big_bytes 2 IN_CLASS), length-append (wire_of name) (big_bytes 2 qtype), short)

answer_short : (kind : NameKind) (seed i : ℕ) → kind ≡ kind_at i → length (answer_in kind seed i) ≤ 150
answer_short Host seed i is = omega arith
answer_short Above seed i is = omega arith
answer_short Cut seed i is = omega arith
answer_short Wild seed i is = signed_short (made_owner (suc i)) A_TYPE (address_at seed i) (made_short (suc i)) (omega arith)

answers_short : (seed k : ℕ) → length (answer_of seed k) ≤ 150
answers_short seed zero = omega arith
answers_short seed (suc i) = answer_short (kind_at i) seed i refl

nsec_short : (names k : ℕ) → length (nsec_data names k) ≤ 33
unfolding Short
nsec_short names k =
    let long : length (nsec_data names k) ≡ length (wire_of (next_owner names k)) + 8 = length-append (wire_of (next_owner names k)) (type_map (first_of k)) in
    omega (arith, long, either_short (k == names) made_example (made_owner (suc k)) (made_short 0) (made_short (suc k)))

message_fits : (seed names k : ℕ) → length (message_at seed names k) < 2 ^ 16
message_fits seed names k =
    let head : List ℕ = header_octets k message_flags (answers_of k) 4 0 in
    let asked : List ℕ = question_octets (made_owner k) A_TYPE in
    let soa : List ℕ = signed_octets made_example SOA_TYPE soa_data in
    let nsec : List ℕ = signed_octets (made_owner k) NSEC_TYPE (nsec_data names k) in
    let head_long : length head ≡ 12 = refl in
    omega (
      arith,
      five_long head asked (answer_of seed k) soa nsec,
      head_long,
      question_short (made_owner k) A_TYPE (made_short k),
      answers_short seed k,
      signed_short made_example SOA_TYPE soa_data (made_short 0) (omega arith),
      signed_short (made_owner k) NSEC_TYPE (nsec_data names k) (made_short k) (omega (arith, nsec_short names k)),
    )

query_fits : (seed names j : ℕ) → length (query_at seed names j) < 2 ^ 16
query_fits seed names j =
    let head : List ℕ = header_octets j 0x0100 0 0 1 in
    let asked : List ℕ = question_octets (asked_at seed names j).name (asked_at seed names j).qtype in
    let head_long : length head ≡ 12 = refl in
    let opt_long : length opt_octets ≡ 11 = refl in
    omega (arith, length-append (head ++ asked) opt_octets, length-append head asked, head_long, opt_long, question_short (asked_at seed names j).name (asked_at seed names j).qtype (asked_short seed names j))

all_from : (P : List ℕ → Type 0) (f : ℕ → List ℕ) → ((k : ℕ) → P (f k)) → (from n : ℕ) → All P (map f (range_with_len from n))
all_from P f each from zero = All-nil P
all_from P f each from (suc n) = All-cons P (f from) (map f (range_with_len (from + 1) n)) (each from) (all_from P f each (from + 1) n)

abbrev pub FitsAFrame : List ℕ → Type 0
FitsAFrame octets = length octets < 2 ^ 16

pub messages_fit : (seed names : ℕ) → All FitsAFrame (messages_of seed names)
messages_fit seed names = all_from FitsAFrame (message_at seed names) (message_fits seed names) 0 (names + 1)

pub queries_fit : (seed names queries : ℕ) → All FitsAFrame (queries_of seed names queries)
unfolding queries_of
queries_fit seed names queries = all_from FitsAFrame (query_at seed names) (query_fits seed names) 0 queries

-- ---- the frames

valid_inputs : (kind : FrameKind) (now : ℕ) (messages : List (List ℕ)) → now < 2 ^ 32 → All FitsAFrame messages → All IsInput (map (made_input kind now) messages)
valid_inputs kind now [] fits all = All-nil IsInput
valid_inputs kind now (message ∷ messages) fits all =
    All-cons IsInput (made_input kind now message) (map (made_input kind now) messages)
    (record { worker_fits = omega arith; now_fits = fits; message_fits = All-head FitsAFrame message messages all })
    (valid_inputs kind now messages fits (All-tail FitsAFrame message messages all))

made_valid : (seed names queries : ℕ) → All IsInput (made_inputs seed names queries)
unfolding made_inputs
made_valid seed names queries =
    All-append IsInput (map (made_input Upstream 1000000000) (messages_of seed names)) (map (made_input Query 1000000100) (queries_of seed names queries))
    (valid_inputs Upstream 1000000000 (messages_of seed names) (omega arith) (messages_fit seed names))
    (valid_inputs Query 1000000100 (queries_of seed names queries) (omega arith) (queries_fit seed names queries))

abbrev IsFirst : Input → Type 0
IsFirst input = input.worker < 1

first_inputs : (kind : FrameKind) (now : ℕ) (messages : List (List ℕ)) → All IsFirst (map (made_input kind now) messages)
first_inputs kind now messages = All-map IsFirst (made_input kind now) messages (λ k d within. omega arith)

made_first : (seed names queries : ℕ) → All IsFirst (made_inputs seed names queries)
unfolding made_inputs
made_first seed names queries =
    All-append IsFirst (map (made_input Upstream 1000000000) (messages_of seed names)) (map (made_input Query 1000000100) (queries_of seed names queries))
    (first_inputs Upstream 1000000000 (messages_of seed names)) (first_inputs Query 1000000100 (queries_of seed names queries))

-- the octets of the made frames spell these
made_frames : (seed names queries : ℕ) → SpellsFrames 1 (inputs_spelling (made_inputs seed names queries)) (made_inputs seed names queries)
made_frames seed names queries = record { spelled = refl; valid = made_valid seed names queries; below = made_first seed names queries }

pub are_made : (seed names queries : ℕ) (octets : List ℕ) → octets ≡ inputs_spelling (made_inputs seed names queries) → AreFrames 1 octets
are_made seed names queries octets is = (made_inputs seed names queries, subst (λ o. SpellsFrames 1 o (made_inputs seed names queries)) (sym is) (made_frames seed names queries))

inputs_many : (seed names queries : ℕ) → length (made_inputs seed names queries) ≡ names + 1 + queries
unfolding made_inputs queries_of
inputs_many seed names queries =
    let messages : List Input = map (made_input Upstream 1000000000) (messages_of seed names) in
    let asked : List Input = map (made_input Query 1000000100) (queries_of seed names queries) in
    omega (
      arith,
      length-append messages asked,
      length-map (messages_of seed names) (made_input Upstream 1000000000),
      length-map (queries_of seed names queries) (made_input Query 1000000100),
      length-map-range_with_len (message_at seed names) 0 (names + 1),
      length-map-range_with_len (query_at seed names) 0 queries,
    )

pub few_made : (seed names queries : ℕ) (octets : List ℕ) (frames : List Input) → octets ≡ inputs_spelling (made_inputs seed names queries) → SpellsFrames 1 octets frames → names ≤ 10000 → queries ≤ 100000 → length frames < 2 ^ 32
few_made seed names queries octets frames is are small few =
    let same = inputs_have_one.whole frames (made_inputs seed names queries) are.valid (made_valid seed names queries) (sym are.spelled ∙ is) in
    omega (arith, ap length same, inputs_many seed names queries, small, few)

-- both kinds were put, one after the other
pub both_put : (seed names queries : ℕ) (none one both : List ℕ) (messages asked : List (List ℕ)) → none ≡ [] → one ≡ none ++ inputs_spelling (map (made_input Upstream 1000000000) messages) → both ≡ one ++ inputs_spelling (map (made_input Query 1000000100) asked) → messages ≡ messages_of seed names → asked ≡ queries_of seed names queries → both ≡ inputs_spelling (made_inputs seed names queries)
unfolding made_inputs
both_put seed names queries none one both messages asked empty first second messages_is asked_is =
    second
    ∙ ap (λ l. l ++ inputs_spelling (map (made_input Query 1000000100) asked)) (first ∙ ap (λ l. l ++ inputs_spelling (map (made_input Upstream 1000000000) messages)) empty)
    ∙ ap (λ l. inputs_spelling (map (made_input Upstream 1000000000) l) ++ inputs_spelling (map (made_input Query 1000000100) asked)) messages_is
    ∙ ap (λ l. inputs_spelling (map (made_input Upstream 1000000000) (messages_of seed names)) ++ inputs_spelling (map (made_input Query 1000000100) l)) asked_is
    ∙ sym (flat_map-append input_spelling (map (made_input Upstream 1000000000) (messages_of seed names)) (map (made_input Query 1000000100) (queries_of seed names queries)))

-- one more frame is put
pub one_put : (f : List ℕ → Input) (start : List ℕ) (messages : List (List ℕ)) (i : ℕ) (before after message : List ℕ) → i < length messages → message ≡ get_or messages i message → before ≡ start ++ inputs_spelling (map f (take i messages)) → after ≡ before ++ input_spelling (f message) → after ≡ start ++ inputs_spelling (map f (take (i + 1) messages))
one_put f start messages i before after message within at so_far push =
    let more : inputs_spelling (map f (take (i + 1) messages)) ≡ inputs_spelling (map f (take i messages)) ++ input_spelling (f message) =
    ap (λ l. inputs_spelling (map f l)) (take_more messages i message within)
    ∙ ap inputs_spelling (map-append f (take i messages) (get_or messages i message ∷ []))
    ∙ spelling-push input_spelling (map f (take i messages)) (f (get_or messages i message))
    ∙ ap (λ m. inputs_spelling (map f (take i messages)) ++ input_spelling (f m)) (sym at) in
    push ∙ ap (λ l. l ++ input_spelling (f message)) so_far ∙ append_assoc start (inputs_spelling (map f (take i messages))) (input_spelling (f message)) ∙ ap (λ l. start ++ l) (sym more)

-- one more query
pub one_question : (seed names j : ℕ) (before after : List (List ℕ)) (item octets : List ℕ) → before ≡ queries_of seed names j → octets ≡ query_at seed names j → item ≡ octets → after ≡ before ++ item ∷ [] → after ≡ queries_of seed names (j + 1)
unfolding queries_of
one_question seed names j before after item octets so_far is copied push =
    push ∙ ap (λ (l : List (List ℕ)). l ++ item ∷ []) so_far
    ∙ ap (λ (x : List ℕ). map (query_at seed names) (range_with_len 0 j) ++ x ∷ []) (copied ∙ is)
    ∙ sym (map-range_with_len_more (query_at seed names) 0 j j (omega arith))

pub no_questions : (seed names : ℕ) → [] ≡ queries_of seed names 0
unfolding queries_of
no_questions seed names = refl

-- ---- what became of them

pub made_summary : (seed names queries : ℕ) (output text : List ℕ) → IsReplay 1 (inputs_spelling (made_inputs seed names queries)) output → ((outputs : List Output) → All IsOutput outputs → output ≡ outputs_spelling outputs → text ≡ summary names queries outputs) → IsMadeSummary seed names queries text
made_summary seed names queries output text replay lines =
    let same = inputs_have_one.whole replay.inputs (made_inputs seed names queries) replay.frames.valid (made_valid seed names queries) (sym replay.frames.spelled) in
    record {
      outputs = replay.outputs;
      made = record {
        placed = replay.placed;
        fits = subst (λ inputs. Fits reply_in inputs 1 replay.placed replay.outputs) same replay.fits;
        sound = subst (λ inputs. AllZip (IsSoundReply replay.placed) inputs replay.outputs) same replay.sound;
      };
      lines = lines replay.outputs replay.valid replay.written;
    }
