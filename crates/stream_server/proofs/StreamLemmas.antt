-- A stream is served piece by piece.
use Rattle.std.proofs.Common.{subst, ◌≡◌, ℕ, ◌+◌, ◌-◌, ◌<◌, ◌≤◌, inl, List, [], ◌∷◌, ◌++◌, length, drop, refl, sym, ◌∙◌, ap, arith, Option, Some, None, Result, Ok, Err, append_assoc, length-append}
use Rattle.std.proofs.Math.Seq.{drop-append_seam}
use Rattle.std.specs.List.{All, flat_map}
use Rattle.std.specs.Option.{IfSome}
use Rattle.std.proofs.lemmas.Grind.{flat_map-append}
use Rattle.std.proofs.lemmas.List.{append-nil, map-append}
use Rattle.std.proofs.lemmas.List.Elements.{All-nil, All-append, All-weaker}
use mathlib.Core.List.{IsPrefix}
use Rattle.denial_records.specs.declared.batch.Batch.{Batch}
use Rattle.outside_core.specs.Fault.{Rose}
use Rattle.outside_core.specs.Told.{append_told, prepend_told}
use Rattle.outside_core.proofs.ToldLemmas.{append_told-append_told}
use Rattle.stream_front.specs.Split.{Begins, IsFramed, IsPart, Left, Rest, framed, rest_in}
use Rattle.stream_front.specs.Read.{HasTaken, HasReadCause}
use Rattle.stream_front.specs.declared.read_fault.ReadFault.{ReadFault}
use Rattle.stream_front.specs.declared.read_fault.ReadFault.TheVariants as read_fault
use Rattle.stream_server.specs.Stream.{Turn, IsTurn, IsCutShort, Ends, HasFaults, HasStreamed, asked_in, sent_of, stream_fault_of}
use Rattle.stream_server.specs.Piece.{AreAnswered, EndsPiece, EndsRead, HasAnswered}
use Rattle.stream_server.specs.declared.serving.TheConstants.{MOST_OCTETS}
use Rattle.stream_server.specs.declared.stream_fault.StreamFault.{StreamFault}
use Rattle.stream_server.specs.declared.stream_fault.StreamFault.TheVariants as fault
use Rattle.stream_front.proofs.SplitLemmas.{none_taken}
use Rattle.stream_server.proofs.TurnLemmas.{prefix_length, turns_more}

-- All whole messages of what was read are answered
pub record UnderWay (read : ℕ) (moment : Option ℕ) (before seen : List Batch) (taken taken' left left' written written' : Option (List ℕ)) (front : Left) : Type 0 where
  pub octets : List ℕ
  pub rest : List ℕ
  pub turns : List Turn
  pub many : length octets ≡ read
  pub front_is : front ≡ Rest rest
  pub part : IsPart rest
  pub stands : Begins octets (asked_in turns) rest
  pub each : All (IsTurn (length before) seen) turns
  pub moments : IfSome moment (λ always. All (λ turn. turn.now ≡ always) turns)
  pub taken_are : taken' ≡ append_told taken octets
  pub left_are : left ≡ prepend_told octets left'
  pub written_are : written' ≡ append_told written (sent_of turns)

told_nothing : (told : Option (List ℕ)) → told ≡ append_told told []
told_nothing None = refl
told_nothing (Some octets) = ap Some (sym (append-nil octets))

ahead_nothing : (told : Option (List ℕ)) → told ≡ prepend_told [] told
ahead_nothing None = refl
ahead_nothing (Some octets) = refl

prepend_more : (told : Option (List ℕ)) (a b : List ℕ) → prepend_told a (prepend_told b told) ≡ prepend_told (a ++ b) told
prepend_more None a b = refl
prepend_more (Some octets) a b = ap Some (sym (append_assoc a b octets))

no_turns : (moment : Option ℕ) → IfSome moment (λ always. All {X = Turn} (λ turn. turn.now ≡ always) [])
no_turns None = tt
no_turns (Some always) = All-nil (λ turn. turn.now ≡ always)

pub begun : (moment : Option ℕ) (seen : List Batch) (taken left written : Option (List ℕ)) → UnderWay 0 moment seen seen taken taken left left written written (Rest [])
begun moment seen taken left written = record {
  octets = [];
  rest = [];
  turns = [];
  many = refl;
  front_is = refl;
  part = inl (omega arith);
  stands = none_taken [];
  each = All-nil (IsTurn (length seen) seen);
  moments = no_turns moment;
  taken_are = told_nothing taken;
  left_are = ahead_nothing left;
  written_are = told_nothing written;
}

-- ---- one piece more

begins_more : (octets rest more : List ℕ) (messages messages' : List (List ℕ)) (rest' : List ℕ) → Begins octets messages rest → Begins (rest ++ more) messages' rest' → Begins (octets ++ more) (messages ++ messages') rest'
begins_more octets rest more messages messages' rest' one two = record {
  written =
      ap (λ l. l ++ more) one.written ∙ append_assoc (flat_map framed messages) rest more
      ∙ ap (λ l. flat_map framed messages ++ l) two.written
      ∙ sym (append_assoc (flat_map framed messages) (flat_map framed messages') rest')
      ∙ ap (λ l. l ++ rest') (sym (flat_map-append framed messages messages'));
  each = All-append IsFramed messages messages' one.each two.each;
}

moments_more : (moment : Option ℕ) (turns turns' : List Turn) → IfSome moment (λ always. All (λ turn. turn.now ≡ always) turns) → IfSome moment (λ always. All (λ turn. turn.now ≡ always) turns') → IfSome moment (λ always. All (λ turn. turn.now ≡ always) (turns ++ turns'))
moments_more None turns turns' one two = tt
moments_more (Some always) turns turns' one two = All-append (λ turn. turn.now ≡ always) turns turns' one two

module _ (read : ℕ) (moment : Option ℕ) (before seen seen' : List Batch) (taken taken' taken2 left left' left2 written written' written2 : Option (List ℕ)) (front front2 front3 : Left) (at : UnderWay read moment before seen taken taken' left left' written written' front)
    (count : ℕ) (more : HasTaken (rest_in front) (rest_in front2) taken' taken2 left' left2 count) (first : IsPrefix before seen) (begins : IsPrefix seen seen') (result : Result (Unit {0}) StreamFault) (answered : HasAnswered moment seen seen' front2 front3 written' written2 result) where
  all_octets : List ℕ
  all_octets = at.octets ++ more.octets

  all_many : length all_octets ≡ read + count
  unfolding all_octets
  all_many = length-append at.octets more.octets ∙ ap (λ n. n + length more.octets) at.many ∙ ap (λ n. read + n) more.many

  all_turns : List Turn
  all_turns = at.turns ++ answered.turns

  here : rest_in front2 ≡ at.rest ++ more.octets
  here = more.last ∙ ap (λ f. rest_in f ++ more.octets) at.front_is

  all_stand : Begins all_octets (asked_in all_turns) answered.rest
  unfolding all_octets all_turns
  all_stand =
      rw (map-append (λ turn. turn.message) at.turns answered.turns)
      (begins_more at.octets at.rest more.octets (asked_in at.turns) (asked_in answered.turns) answered.rest at.stands (subst (λ l. Begins l (asked_in answered.turns) answered.rest) here answered.stands))

  all_each : All (IsTurn (length before) seen') all_turns
  unfolding all_turns
  all_each = All-append (IsTurn (length before) seen') at.turns answered.turns
      (turns_more (length before) (length before) seen seen' at.turns (omega arith) begins at.each)
      (turns_more (length seen) (length before) seen' seen' answered.turns (prefix_length before seen first) ([], append-nil seen') answered.each)

  all_moments : IfSome moment (λ always. All (λ turn. turn.now ≡ always) all_turns)
  unfolding all_turns
  all_moments = moments_more moment at.turns answered.turns at.moments answered.moments

  all_taken : taken2 ≡ append_told taken all_octets
  unfolding all_octets
  all_taken = more.taken_are ∙ ap (λ t. append_told t more.octets) at.taken_are ∙ append_told-append_told taken at.octets more.octets

  all_left : left ≡ prepend_told all_octets left2
  unfolding all_octets
  all_left = at.left_are ∙ ap (prepend_told at.octets) more.left_are ∙ prepend_more left2 at.octets more.octets

  all_sent : sent_of all_turns ≡ sent_of at.turns ++ sent_of answered.turns
  unfolding all_turns
  all_sent = flat_map-append (λ turn. turn.octets) at.turns answered.turns

  all_written : written2 ≡ append_told written (sent_of at.turns ++ answered.went)
  all_written = answered.written_are ∙ ap (λ t. append_told t answered.went) at.written_are ∙ append_told-append_told written (sent_of at.turns) answered.went

  went_is : answered.went ≡ sent_of answered.turns → sent_of at.turns ++ answered.went ≡ sent_of all_turns
  went_is went = ap (λ l. sent_of at.turns ++ l) went ∙ sym all_sent

  -- the work goes on
  goes_on : EndsRead front3 answered.rest answered.turns answered.went (Ok tt) → UnderWay (read + count) moment before seen' taken taken2 left left2 written written2 front3
  goes_on ends = record {
    octets = all_octets;
    rest = answered.rest;
    turns = all_turns;
    many = all_many;
    front_is = ends.0;
    part = ends.1;
    stands = all_stand;
    each = all_each;
    moments = all_moments;
    taken_are = all_taken;
    left_are = all_left;
    written_are = all_written ∙ ap (append_told written) (went_is ends.2);
  }

  -- it doesn't
  ended_as : (why : StreamFault) → read + count ≤ MOST_OCTETS + 1 → Ends all_octets answered.rest left2 all_turns (sent_of at.turns ++ answered.went) (Err why) → HasStreamed moment before seen' taken taken2 left left2 written written2 (Err why)
  ended_as why few ends = record {
    octets = all_octets;
    rest = answered.rest;
    turns = all_turns;
    stands = all_stand;
    few = omega (arith, all_many, few);
    each = all_each;
    moments = all_moments;
    taken_are = all_taken;
    left_are = all_left;
    went = sent_of at.turns ++ answered.went;
    written_are = all_written;
    ends = ends;
  }

  part_sent : (rest went all : List ℕ) → IsCutShort went all → IsCutShort (rest ++ went) (rest ++ all)
  part_sent rest went all short = record {
    rest = short.rest;
    some = short.some;
    whole = append_assoc rest went short.rest ∙ ap (λ l. rest ++ l) short.whole;
  }

  -- what a piece's fault says of the whole
  ends_so : (why : StreamFault) → EndsRead front3 answered.rest answered.turns answered.went (Err why) → Ends all_octets answered.rest left2 all_turns (sent_of at.turns ++ answered.went) (Err why)
  ends_so fault.Source ends = absurd ends
  ends_so fault.Sink ends = rw all_sent (part_sent (sent_of at.turns) answered.went (sent_of answered.turns) ends)
  ends_so (fault.TooSmall size) ends = (ends.0, went_is ends.1)
  ends_so fault.TooLong ends = absurd ends
  ends_so fault.OutOfMemory ends = absurd ends

-- what came was answered
pub piece_done : (read : ℕ) (moment : Option ℕ) (before seen seen' : List Batch) (taken taken' taken2 left left' left2 written written' written2 : Option (List ℕ)) (front front2 front3 : Left) (count : ℕ) → UnderWay read moment before seen taken taken' left left' written written' front → HasTaken (rest_in front) (rest_in front2) taken' taken2 left' left2 count → IsPrefix before seen → IsPrefix seen seen' → HasAnswered moment seen seen' front2 front3 written' written2 (Ok tt) → UnderWay (read + count) moment before seen' taken taken2 left left2 written written2 front3
piece_done read moment before seen seen' taken taken' taken2 left left' left2 written written' written2 front front2 front3 count at more first begins answered =
    goes_on read moment before seen seen' taken taken' taken2 left left' left2 written written' written2 front front2 front3 at count more first begins (Ok tt) answered answered.ends

-- it was answered in part
pub piece_failed : (read : ℕ) (moment : Option ℕ) (before seen seen' : List Batch) (taken taken' taken2 left left' left2 written written' written2 : Option (List ℕ)) (front front2 front3 : Left) (count : ℕ) → UnderWay read moment before seen taken taken' left left' written written' front → HasTaken (rest_in front) (rest_in front2) taken' taken2 left' left2 count → IsPrefix before seen → IsPrefix seen seen' → read + count ≤ MOST_OCTETS + 1 → (why : StreamFault) → HasAnswered moment seen seen' front2 front3 written' written2 (Err why) → HasStreamed moment before seen' taken taken2 left left2 written written2 (Err why)
piece_failed read moment before seen seen' taken taken' taken2 left left' left2 written written' written2 front front2 front3 count at more first begins few why answered =
    ended_as read moment before seen seen' taken taken' taken2 left left' left2 written written' written2 front front2 front3 at count more first begins (Err why) answered why few
    (ends_so read moment before seen seen' taken taken' taken2 left left' left2 written written' written2 front front2 front3 at count more first begins (Err why) answered why answered.ends)

-- ---- no piece more

module _ (read : ℕ) (moment : Option ℕ) (before seen : List Batch) (taken taken' left left' written written' : Option (List ℕ)) (front : Left) (at : UnderWay read moment before seen taken taken' left left' written written' front) where
  ended_here : (result : Result ℕ StreamFault) → read ≤ MOST_OCTETS + 1 → Ends at.octets at.rest left' at.turns (sent_of at.turns) result → HasStreamed moment before seen taken taken' left left' written written' result
  ended_here result few ends = record {
    octets = at.octets;
    rest = at.rest;
    turns = at.turns;
    stands = at.stands;
    few = omega (arith, at.many, few);
    each = at.each;
    moments = at.moments;
    taken_are = at.taken_are;
    left_are = at.left_are;
    went = sent_of at.turns;
    written_are = at.written_are;
    ends = ends;
  }

  -- one octet more was read than a stream may have
  pub too_long : MOST_OCTETS < read → read ≤ MOST_OCTETS + 1 → HasStreamed moment before seen taken taken' left left' written written' (Err fault.TooLong)
  too_long many few = ended_here (Err fault.TooLong) few (at.part, omega (arith, at.many, many), refl)

  -- nothing could be read
  nothing_read : read ≤ MOST_OCTETS → (why : ReadFault) → HasStreamed moment before seen taken taken' left left' written written' (Err (stream_fault_of why))
  nothing_read few read_fault.Source = ended_here (Err fault.Source) (omega (arith, few)) (at.part, refl, omega (arith, at.many, few))
  nothing_read few read_fault.OutOfMemory = ended_here (Err fault.OutOfMemory) (omega (arith, few)) (at.part, refl, omega (arith, at.many, few))

  pub read_failed : (taken2 left2 : Option (List ℕ)) → read ≤ MOST_OCTETS → taken2 ≡ taken' → left2 ≡ left' → (why : ReadFault) → HasStreamed moment before seen taken taken2 left left2 written written' (Err (stream_fault_of why))
  read_failed taken2 left2 few same same' why = rw (same, same') (nothing_read few why)

-- ---- the source's end

length-zero : (xs : List ℕ) → length xs ≡ 0 → xs ≡ []
length-zero [] none = refl
length-zero (x ∷ xs) none = absurd (omega (arith, none))

told_no_more : (told told' : Option (List ℕ)) (octets : List ℕ) → octets ≡ [] → told' ≡ append_told told octets → told' ≡ told
told_no_more told told' octets none is = is ∙ ap (append_told told) none ∙ sym (told_nothing told)

left_no_less : (told told' : Option (List ℕ)) (octets : List ℕ) → octets ≡ [] → told ≡ prepend_told octets told' → told' ≡ told
left_no_less told told' octets none is = ahead_nothing told' ∙ ap (λ l. prepend_told l told') (sym none) ∙ sym is

pub read_out : (read : ℕ) (moment : Option ℕ) (before seen : List Batch) (taken taken' taken2 left left' left2 written written' : Option (List ℕ)) (front front2 : Left) (count : ℕ) (shown : List ℕ) → UnderWay read moment before seen taken taken' left left' written written' front → HasTaken (rest_in front) (rest_in front2) taken' taken2 left' left2 count → read ≤ MOST_OCTETS → count ≡ 0 → front2 ≡ Rest shown → HasStreamed moment before seen taken taken2 left left2 written written' (Ok (length shown))
read_out read moment before seen taken taken' taken2 left left' left2 written written' front front2 count shown at more few none shows =
    let nothing : more.octets ≡ [] = length-zero more.octets (more.many ∙ none) in
    let taken_is : taken2 ≡ taken' = told_no_more taken' taken2 more.octets nothing more.taken_are in
    let left_is : left2 ≡ left' = left_no_less left' left2 more.octets nothing more.left_are in
    let shown_is : shown ≡ at.rest = ap rest_in (sym shows) ∙ more.last ∙ ap (λ l. rest_in front ++ l) nothing ∙ append-nil (rest_in front) ∙ ap rest_in at.front_is in
    let after = subst (λ t. IfSome t (λ after. after ≡ [])) left_is (more.end none) in
    rw (taken_is, left_is, shown_is)
    (ended_here read moment before seen taken taken' left left' written written' front at (Ok (length at.rest)) (omega (arith, few)) (refl, at.part, after, refl, omega (arith, at.many, few)))

-- ---- the counts of faults

-- that of the source has risen where a front couldn't read it
pub read_faults : (source source' source2 sink sink' : ℕ) (why : ReadFault) → source' ≡ source → sink' ≡ sink → HasReadCause source' source2 (Err why) → HasFaults source source2 sink sink' (Err (stream_fault_of why))
read_faults source source' source2 sink sink' read_fault.Source is is' cause = (subst (λ n. Rose n source2) is cause, is')
read_faults source source' source2 sink sink' read_fault.OutOfMemory is is' cause = (cause ∙ is, is')

-- ---- what has come

module _ (moment : Option ℕ) (seen seen' : List Batch) (front front' : Left) (written written' : Option (List ℕ)) where
  -- it is less than a message
  pub waited : front' ≡ front → front ≡ Rest (rest_in front) → IsPart (rest_in front) → seen' ≡ seen → written' ≡ written → HasAnswered moment seen seen' front front' written written' (Ok tt)
  waited same is_open part seen_is written_is = record {
    rest = rest_in front;
    turns = [];
    stands = none_taken (rest_in front);
    each = All-nil (IsTurn (length seen) seen');
    moments = no_turns moment;
    went = [];
    written_are = written_is ∙ told_nothing written;
    ends = (same ∙ is_open, part, refl);
  }

  module _ (octets : List ℕ) (front_is : front ≡ Rest octets) (now : ℕ) (tells : IfSome moment (λ always. now ≡ always)) where
    shown : rest_in front ≡ octets
    shown = ap rest_in front_is

    at_moment : (always : Option ℕ) (turns : List Turn) → IfSome always (λ always. now ≡ always) → All (λ turn. turn.now ≡ now) turns → IfSome always (λ always. All (λ turn. turn.now ≡ always) turns)
    at_moment None turns is are = tt
    at_moment (Some always) turns is are = All-weaker (λ turn. turn.now ≡ now) (λ turn. turn.now ≡ always) (λ turn same. same ∙ is) turns are

    -- so many octets are left of it
    pub left_within : (count : ℕ) → AreAnswered now seen seen' octets written written' (Ok count) → count ≤ length (rest_in front)
    left_within count answered =
        omega (arith, ap length shown, ap length answered.stands.written, length-append (flat_map framed (asked_in answered.turns)) answered.rest, answered.ends.0)

    -- all of it was answered
    pub looked : (count : ℕ) → AreAnswered now seen seen' octets written written' (Ok count) → front' ≡ Rest (drop (length (rest_in front) - count) (rest_in front)) → HasAnswered moment seen seen' front front' written written' (Ok tt)
    looked count answered kept =
        let taken : List ℕ = flat_map framed (asked_in answered.turns) in
        let stands : rest_in front ≡ taken ++ answered.rest = shown ∙ answered.stands.written in
        let at : length (rest_in front) - count ≡ length taken = omega (arith, ap length stands, length-append taken answered.rest, answered.ends.0) in
        record {
          rest = answered.rest;
          turns = answered.turns;
          stands = rw shown answered.stands;
          each = answered.each;
          moments = at_moment moment answered.turns tells answered.moments;
          went = answered.went;
          written_are = answered.written_are;
          ends = (kept ∙ ap Rest (ap (λ n. drop n (rest_in front)) at ∙ ap (drop (length taken)) stands ∙ drop-append_seam taken answered.rest), answered.ends.1, answered.ends.2);
        }

    fails_so : (rest : List ℕ) (turns : List Turn) (went : List ℕ) (why : StreamFault) → EndsPiece rest turns went (Err why) → EndsRead front' rest turns went (Err why)
    fails_so rest turns went fault.Source ends = absurd ends
    fails_so rest turns went fault.Sink ends = ends
    fails_so rest turns went (fault.TooSmall size) ends = ends
    fails_so rest turns went fault.TooLong ends = absurd ends
    fails_so rest turns went fault.OutOfMemory ends = absurd ends

    -- it was answered in part
    pub looked_in_part : (why : StreamFault) → AreAnswered now seen seen' octets written written' (Err why) → HasAnswered moment seen seen' front front' written written' (Err why)
    looked_in_part why answered = record {
      rest = answered.rest;
      turns = answered.turns;
      stands = rw shown answered.stands;
      each = answered.each;
      moments = at_moment moment answered.turns tells answered.moments;
      went = answered.went;
      written_are = answered.written_are;
      ends = fails_so answered.rest answered.turns answered.went why answered.ends;
    }
