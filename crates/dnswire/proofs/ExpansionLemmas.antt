-- Names in a message written out run by run, and what is kept of them.
use Rattle.std.proofs.Common.{◌≡◌, ℕ, ◌+◌, ◌-◌, ◌<◌, ◌≤◌, List, [], ◌∷◌, ◌++◌, length, take, drop, set, get_or, refl, sym, ◌∙◌, ap, subst, arith, length-append, append_assoc}
use Rattle.std.proofs.lemmas.List.{take_at, drop_at, drop-drop, drop-take, length-take-le, length-drop, get_or-set_same, get_or-set_other}
use Rattle.std.specs.List.{All}
use Rattle.std.proofs.lemmas.List.Elements.{All-nil, All-cons}
use native.Mathlib.Decide.{ℕ_discrete}
use Rattle.dname.specs.Name.{Label, HasLabelLength, wire_of}
use Rattle.dname.specs.Read.{IsWireForm, IsReadFrom, written}
use Rattle.dname.proofs.ReadLemmas.{written-push}
use Rattle.dnswire.specs.Data.{IsWrittenOut}
use Rattle.dnswire.specs.DataField.{IsMissing, HasAppended}
use Rattle.dnswire.specs.declared.field.Field.TheVariants.{Name}
use Rattle.dnswire.specs.MessageName.{BeginsWithEnd, BeginsWithLabel, BeginsWithPointer, Reads, NameAt}
use Rattle.dnswire.specs.MessageName.Reads.{closed, labelled, pointed}
use Rattle.dnswire.specs.Runs.{AreRunSizes, Stand, HasNoRoom}
use Rattle.dnswire.specs.Expansions.{HasOctets, Expands, IsKept, AreKept, IsTableOf, nowhere, octets_in}
use Rattle.dnswire.specs.declared.name_table.NameTable.{NameTable}
use Rattle.dnswire.specs.declared.name_table.Extent.{Extent}
use Rattle.dnswire.proofs.MessageNameLemmas.{after_label, after_pointer, one_reading}
use Rattle.dnswire.proofs.NameLabelsLemmas.{begins_with_label}

-- ---- labels that stand in a run

pub stand_none : (message : List ℕ) (at : ℕ) → Stand message at [] at
stand_none message at = record {
  octets = refl;
  size = omega arith;
  goes = λ start end rest reads. reads;
  back = λ start end all reads. (all, refl, reads);
}

drop_on : (message front rest : List ℕ) (here n : ℕ) → drop here message ≡ front ++ rest → n ≡ here + length front → drop n message ≡ rest
drop_on message front rest here n is long =
    ap (λ k. drop k message) long ∙ sym (drop-drop (length front) here message) ∙ ap (drop (length front)) is ∙ drop_at front rest (length front) refl

pub stand_label : (message : List ℕ) (at here size octet : ℕ) (rest : List ℕ) (labels : List Label) → Stand message at labels here → drop here message ≡ octet ∷ rest → size ≡ octet → 1 ≤ size → size ≤ 63 → size ≤ length rest → (more : List Label) × Stand message at more (here + (1 + size))
stand_label message at here size octet rest labels stands begins is some short whole =
    let label = take size rest in
    let long : length label ≡ size = length-take-le size rest whole in
    let front : drop here message ≡ size ∷ rest = begins ∙ ap (λ n. n ∷ rest) (sym is) in
    let begin : BeginsWithLabel (drop here message) label = begins_with_label (drop here message) size rest label front refl some short whole in
    let left : drop (here + (1 + size)) message ≡ begin.rest = drop_on message (length label ∷ label) begin.rest here (here + (1 + size)) begin.stands (omega (arith, long)) in
    let piece : drop here message ≡ (length label ∷ label) ++ drop (here + (1 + size)) message = begin.stands ∙ ap (λ o. length label ∷ (label ++ o)) (sym left) in (
      labels ++ label ∷ [],
      record {
        octets = stands.octets ∙ ap (λ o. written labels ++ o) piece ∙ sym (append_assoc (written labels) (length label ∷ label) (drop (here + (1 + size)) message)) ∙ ap (λ o. o ++ drop (here + (1 + size)) message) (sym (written-push labels label));
        size = omega (arith, long, stands.size, ap length (written-push labels label), length-append (written labels) (length label ∷ label));
        goes = λ start end more reads.
            subst (λ all. Reads message start at all end) (sym (append_assoc labels (label ∷ []) more))
            (stands.goes start end (label ∷ more) (labelled start here end label more begin (subst (λ n. Reads message start n more end) (omega (arith, long)) reads)));
        back = λ start end all reads.
            let b = stands.back start end all reads in
            let a = after_label message start here label b.0 end begin b.2 in
            (a.rest, b.1 ∙ ap (λ more. labels ++ more) a.labels_are ∙ sym (append_assoc labels (label ∷ []) a.rest), subst (λ n. Reads message start n a.rest end) (omega (arith, long)) a.reads);
      },
    )

-- the octets of labels that stand
pub stand_octets : (message : List ℕ) (at size : ℕ) (labels : List Label) → Stand message at labels (at + size) → take size (drop at message) ≡ written labels
stand_octets message at size labels stands =
    ap (take size) stands.octets ∙ take_at (written labels) (drop (at + size) message) size (omega (arith, stands.size))

-- ---- runs written out one after the other

wire-append : (labels rest : List Label) → wire_of (labels ++ rest) ≡ written labels ++ wire_of rest
wire-append [] rest = refl
wire-append (label ∷ labels) rest = ap (λ o. length label ∷ o) (ap (λ o. label ++ o) (wire-append labels rest) ∙ sym (append_assoc label (written labels) (wire_of rest)))

pub expands_none : (message : List ℕ) (at : ℕ) (octets : List ℕ) → octets ≡ [] → Expands message at at octets
expands_none message at octets empty = subst (Expands message at at) (sym empty) (record {
  goes = λ labels end reads. (labels, end, reads, refl);
  back = λ all stop reads. (all, stop, reads, refl);
})

pub expands_on : (message : List ℕ) (from at size next : ℕ) (octets whole : List ℕ) (labels : List Label) → Expands message from at octets → Stand message at labels (at + size) → BeginsWithPointer (drop (at + size) message) next → next < at → whole ≡ octets ++ take size (drop at message) → Expands message from next whole
expands_on message from at size next octets whole labels expands stands points before is =
    subst (Expands message from next) (ap (λ o. octets ++ o) (sym (stand_octets message at size labels stands)) ∙ sym is)
    (record {
      goes = λ rest end reads.
          let here = at + size in
          let run = stands.goes at (here + 2) rest (pointed at here (here + 2) next end rest points before reads refl) in
          let all = expands.goes (labels ++ rest) (here + 2) run in
          (all.0, all.1, all.2, all.3 ∙ ap (λ o. octets ++ o) (wire-append labels rest) ∙ sym (append_assoc octets (written labels) (wire_of rest)));
      back = λ all stop reads.
          let b = expands.back all stop reads in
          let s = stands.back at b.1 b.0 b.2 in
          let a = after_pointer message at (at + size) next s.0 b.1 points s.2 in
          (s.0, a.stop, a.reads, b.3 ∙ ap (λ l. octets ++ wire_of l) s.1 ∙ ap (λ o. octets ++ o) (wire-append labels s.0) ∙ sym (append_assoc octets (written labels) (wire_of s.0)));
    })

-- a run that a zero octet ends, written out
pub closed_out : (message : List ℕ) (at size : ℕ) (whole : List ℕ) (labels : List Label) → Stand message at labels (at + size) → BeginsWithEnd (drop (at + size) message) → whole ≡ take size (drop at message) ++ 0 ∷ [] → length whole ≤ 255 → IsWrittenOut message at whole (at + size + 1)
closed_out message at size whole labels stands ends is fits =
    let here = at + size in
    let out : wire_of (labels ++ []) ≡ whole = wire-append labels [] ∙ ap (λ o. o ++ 0 ∷ []) (sym (stand_octets message at size labels stands)) ∙ sym is in
    record {
      labels = labels ++ [];
      reads = stands.goes at (here + 1) [] (closed at here (here + 1) ends refl);
      fits = omega (arith, ap length out, fits);
      wire = sym out;
    }

-- a run that a pointer ends, and what is read there, written out
pub pointed_out : (message : List ℕ) (at size next : ℕ) (rest whole : List ℕ) (labels : List Label) → Stand message at labels (at + size) → BeginsWithPointer (drop (at + size) message) next → next < at → HasOctets message next rest → whole ≡ take size (drop at message) ++ rest → length whole ≤ 255 → IsWrittenOut message at whole (at + size + 2)
pointed_out message at size next rest whole labels stands points before has is fits =
    let here = at + size in
    let w = has.1 in
    let out : wire_of (labels ++ w.labels) ≡ whole = wire-append labels w.labels ∙ ap (λ o. o ++ wire_of w.labels) (sym (stand_octets message at size labels stands)) ∙ ap (λ o. take size (drop at message) ++ o) (sym w.wire) ∙ sym is in
    record {
      labels = labels ++ w.labels;
      reads = stands.goes at (here + 2) w.labels (pointed at here (here + 2) next has.0 w.labels points before w.reads refl);
      fits = omega (arith, ap length out, fits);
      wire = sym out;
    }

pub expands_kept : (message : List ℕ) (from at : ℕ) (octets rest whole : List ℕ) → Expands message from at octets → HasOctets message at rest → whole ≡ octets ++ rest → length whole ≤ 255 → HasOctets message from whole
expands_kept message from at octets rest whole expands has is fits =
    let w = has.1 in
    let all = expands.goes w.labels has.0 w.reads in
    let out : wire_of all.0 ≡ whole = all.3 ∙ ap (λ o. octets ++ o) (sym w.wire) ∙ sym is in
    (all.1, record { labels = all.0; reads = all.2; fits = omega (arith, ap length out, fits); wire = sym out })

pub expands_end : (message : List ℕ) (from at size : ℕ) (octets more whole : List ℕ) (labels : List Label) → Expands message from at octets → Stand message at labels (at + size) → BeginsWithEnd (drop (at + size) message) → more ≡ octets ++ take size (drop at message) → whole ≡ more ++ 0 ∷ [] → length whole ≤ 255 → HasOctets message from whole
expands_end message from at size octets more whole labels expands stands ends is out fits =
    let run = take size (drop at message) in
    let all : whole ≡ octets ++ (run ++ 0 ∷ []) = out ∙ ap (λ o. o ++ 0 ∷ []) is ∙ append_assoc octets run (0 ∷ []) in
    let long : length (run ++ 0 ∷ []) ≤ 255 = omega (arith, ap length all, length-append octets (run ++ 0 ∷ []), fits) in
    expands_kept message from at octets (run ++ 0 ∷ []) whole expands (at + size + 1, closed_out message at size (run ++ 0 ∷ []) labels stands ends refl long) all fits

-- ---- octets for which there is no room

pub expands_fail : (message : List ℕ) (from at room left : ℕ) (octets : List ℕ) → Expands message from at octets → left ≡ room - length octets → HasNoRoom message at left → HasNoRoom message from room
expands_fail message from at room left octets expands is none labels end reads =
    let b = expands.back labels end reads in
    omega (arith, none b.0 b.1 b.2, is, ap length b.3, length-append octets (wire_of b.0))

pub expands_long : (message : List ℕ) (from at room : ℕ) (octets rest : List ℕ) → Expands message from at octets → HasOctets message at rest → room < length octets + length rest → HasNoRoom message from room
expands_long message from at room octets rest expands has long labels end reads =
    let b = expands.back labels end reads in
    let w = has.1 in
    let same = one_reading message at at b.0 w.labels b.1 has.0 b.2 w.reads in
    omega (arith, ap length b.3, length-append octets (wire_of b.0), ap (λ l. length (wire_of l)) same.0, ap length w.wire, long)

-- no name with a run behind which there is no room for what is read
pub rest_fails : (message : List ℕ) (at size next room : ℕ) (labels : List Label) → Stand message at labels (at + size) → BeginsWithPointer (drop (at + size) message) next → room ≡ 255 - size → HasNoRoom message next room → HasNoRoom message at 255
rest_fails message at size next room labels stands points is none all end reads =
    let s = stands.back at end all reads in
    let a = after_pointer message at (at + size) next s.0 end points s.2 in
    omega (arith, none s.0 a.stop a.reads, is, ap (λ l. length (wire_of l)) s.1, ap length (wire-append labels s.0), length-append (written labels) (wire_of s.0), stands.size)

-- ---- what is kept

later : (kept : List ℕ) (start count size : ℕ) (front rest : List ℕ) → size ≤ count → take count (drop start kept) ≡ front ++ rest → length front ≡ size → take (count - size) (drop (start + size) kept) ≡ rest
later kept start count size front rest fits is long =
    let n : size + (count - size) ≡ count = omega (arith, fits) in
    ap (take (count - size)) (sym (drop-drop size start kept)) ∙ sym (drop-take size (count - size) (drop start kept)) ∙ ap (λ k. drop size (take k (drop start kept))) n ∙ ap (drop size) is ∙ drop_at front rest size long

kept_next : (message kept : List ℕ) (at size next : ℕ) (extent : Extent) (labels : List Label) → IsKept message kept at extent → Stand message at labels (at + size) → size ≤ extent.size → BeginsWithPointer (drop (at + size) message) next → IsKept message kept next (record { start = extent.start + size; size = extent.size - size })
kept_next message kept at size next extent labels k stands fits points =
    let w = k.octets.1 in
    let s = stands.back at k.octets.0 w.labels w.reads in
    let a = after_pointer message at (at + size) next s.0 k.octets.0 points s.2 in
    let long : length (written labels) ≡ size = omega (arith, stands.size) in
    let whole : octets_in kept extent ≡ written labels ++ wire_of s.0 = w.wire ∙ ap wire_of s.1 ∙ wire-append labels s.0 in
    record {
      within = omega (arith, k.within, fits);
      octets = (
        a.stop,
        record {
          labels = s.0;
          reads = a.reads;
          fits = omega (arith, w.fits, ap (λ l. length (wire_of l)) s.1, ap length (wire-append labels s.0), length-append (written labels) (wire_of s.0));
          wire = later kept extent.start extent.size size (written labels) (wire_of s.0) fits whole long;
        },
      );
    }

pub kept_after : (message kept kept' : List ℕ) (at size next : ℕ) (extent : Extent) (labels : List Label) → kept' ≡ kept → IsKept message kept at extent → Stand message at labels (at + size) → size ≤ extent.size → BeginsWithPointer (drop (at + size) message) next → IsKept message kept' next (record { start = extent.start + size; size = extent.size - size })
kept_after message kept kept' at size next extent labels same k stands fits points =
    subst (λ now. IsKept message now next (record { start = extent.start + size; size = extent.size - size })) (sym same) (kept_next message kept at size next extent labels k stands fits points)

pub keep_place : (message kept : List ℕ) (extents : List Extent) (at : ℕ) (extent : Extent) → AreKept message kept extents → at < length extents → IsKept message kept at extent → AreKept message kept (set extents at extent)
keep_place message kept extents at extent are within has here some = by (ℕ_discrete here at)
  where
    by : Dec (here ≡ at) → IsKept message kept here (get_or (set extents at extent) here nowhere)
    by (yes same) = subst (λ n. IsKept message kept n (get_or (set extents at extent) n nowhere)) (sym same) (subst (IsKept message kept at) (sym (get_or-set_same extents at extent nowhere within)) has)
    by (no other) =
        let is : get_or (set extents at extent) here nowhere ≡ get_or extents here nowhere = get_or-set_other extents at here extent nowhere other in
        subst (IsKept message kept here) (sym is) (are here (subst (λ (p : Extent). 1 ≤ p.size) is some))

pub keep_table : (message kept kept' : List ℕ) (extents extents' : List Extent) (at : ℕ) (extent : Extent) → kept' ≡ kept → extents' ≡ set extents at extent → AreKept message kept extents → at < length extents → IsKept message kept at extent → AreKept message kept' extents'
keep_table message kept kept' extents extents' at extent same is are within has =
    subst (λ k. AreKept message k extents') (sym same) (subst (AreKept message kept) (sym is) (keep_place message kept extents at extent are within has))

pub keeps_place : (message : List ℕ) (table table' : NameTable) (at : ℕ) (extent : Extent) → table'.octets.items ≡ table.octets.items → table'.extents.items ≡ set table.extents.items at extent → table'.runs.items ≡ table.runs.items → IsTableOf message table → at < length table.extents.items → IsKept message table.octets.items at extent → IsTableOf message table'
keeps_place message table table' at extent same is runs t within has = record {
  kept = keep_table message table.octets.items table'.octets.items table.extents.items table'.extents.items at extent same is t.kept within has;
  runs = subst (AreRunSizes message) (sym runs) t.runs;
}

pub kept_at : (message kept : List ℕ) (extents : List Extent) (at : ℕ) (extent : Extent) → AreKept message kept extents → extent ≡ get_or extents at nowhere → 1 ≤ extent.size → IsKept message kept at extent
kept_at message kept extents at extent are is some = subst (IsKept message kept at) (sym is) (are at (subst (λ (p : Extent). 1 ≤ p.size) is some))

pub size_kept : (message kept : List ℕ) (at : ℕ) (extent : Extent) → IsKept message kept at extent → length (octets_in kept extent) ≡ extent.size
size_kept message kept at extent k = length-take-le extent.size (drop extent.start kept) (omega (arith, k.within, length-drop extent.start kept))

-- ---- names

each_label : (message : List ℕ) (start at : ℕ) (labels : List Label) (end : ℕ) → Reads message start at labels end → All HasLabelLength labels
each_label message start at _ end (closed _ _ _ e is) = All-nil HasLabelLength
each_label message start at _ end (labelled _ _ _ label labels l more) = All-cons HasLabelLength label labels l.size (each_label message start (at + 1 + length label) labels end more)
each_label message start at labels end (pointed _ _ _ offset stop _ p before more is) = each_label message offset offset labels stop more

pub no_out : (message : List ℕ) (at : ℕ) (octets : List ℕ) (end : ℕ) → HasNoRoom message at 255 → IsWrittenOut message at octets end → ⊥
no_out message at octets end none w = omega (arith, w.fits, none w.labels end w.reads)

-- what is written out is a wire form
pub out_form : (message : List ℕ) (at : ℕ) (octets : List ℕ) (end : ℕ) (seen : List ℕ) → IsWrittenOut message at octets end → seen ≡ octets → IsWireForm seen
out_form message at octets end seen w is = record {
  labels = w.labels;
  spelled = is ∙ w.wire;
  sizes = each_label message at at w.labels end w.reads;
  fits = omega (arith, ap length is, ap length w.wire, w.fits);
}

pub out_read : (message : List ℕ) (at : ℕ) (octets : List ℕ) (end : ℕ) (seen : List ℕ) (name : List Label) → IsWrittenOut message at octets end → seen ≡ octets → IsReadFrom seen name → NameAt message at name end
out_read message at octets end seen name w is read = record {
  labels = w.labels;
  reads = w.reads;
  fits = w.fits;
  lower = read w.labels (is ∙ w.wire) (each_label message at at w.labels end w.reads);
}

-- ---- a pointer alone

pub behind_out : (message : List ℕ) (at next : ℕ) (octets : List ℕ) → BeginsWithPointer (drop at message) next → next < at → HasOctets message next octets → IsWrittenOut message at octets (at + 2)
behind_out message at next octets points before has =
    let w = has.1 in
    record { labels = w.labels; reads = pointed at at (at + 2) next has.0 w.labels points before w.reads refl; fits = w.fits; wire = w.wire }

pub pointer_within : (message : List ℕ) (at next : ℕ) → BeginsWithPointer (drop at message) next → at + 2 ≤ length message
pointer_within message at next points = omega (arith, ap length points.stands, length-drop at message)

pub behind_fails : (message : List ℕ) (at next : ℕ) → BeginsWithPointer (drop at message) next → HasNoRoom message next 255 → HasNoRoom message at 255
behind_fails message at next points none labels end reads =
    let a = after_pointer message at at next labels end points reads in
    none labels a.stop a.reads

-- ---- a name in data

pub name_appended : (message : List ℕ) (stop at : ℕ) (octets : List ℕ) (end : ℕ) (before after : List ℕ) → IsWrittenOut message at octets end → end ≤ stop → after ≡ before ++ octets → HasAppended message stop Name at before after end
name_appended message stop at octets end before after w within is = record { octets = octets; stands = w; within = within; appended = is }

-- a name that ends after the data's end doesn't stand in the data
pub runs_past : (message : List ℕ) (stop at : ℕ) (octets : List ℕ) (end : ℕ) → IsWrittenOut message at octets end → stop < end → IsMissing message stop Name at
runs_past message stop at octets end w past octets' end' w' within =
    let same = one_reading message at at w.labels w'.labels end end' w.reads w'.reads in
    omega (arith, past, within, same.1)

pub name_missing : (message : List ℕ) (stop at : ℕ) → HasNoRoom message at 255 → IsMissing message stop Name at
name_missing message stop at none octets end w within = no_out message at octets end none w

-- ---- names in one piece

pub closed_whole : (message : List ℕ) (at size : ℕ) (labels : List Label) → Stand message at labels (at + size) → BeginsWithEnd (drop (at + size) message) → size < 255 → IsWrittenOut message at (take (size + 1) (drop at message)) (at + (size + 1))
closed_whole message at size labels stands ends few =
    let is : drop at message ≡ (written labels ++ 0 ∷ []) ++ ends.rest = stands.octets ∙ ap (λ o. written labels ++ o) ends.stands ∙ sym (append_assoc (written labels) (0 ∷ []) ends.rest) in
    let long : length (written labels) ≡ size = omega (arith, stands.size) in
    let front : take size (drop at message) ≡ written labels = stand_octets message at size labels stands in
    let whole : take (size + 1) (drop at message) ≡ written labels ++ 0 ∷ [] = ap (take (size + 1)) is ∙ take_at (written labels ++ 0 ∷ []) ends.rest (size + 1) (omega (arith, long, length-append (written labels) (0 ∷ []))) in
    subst (IsWrittenOut message at (take (size + 1) (drop at message))) (omega arith)
    (closed_out message at size (take (size + 1) (drop at message)) labels stands ends (whole ∙ ap (λ o. o ++ 0 ∷ []) (sym front)) (omega (arith, ap length whole, length-append (written labels) (0 ∷ []), long, few)))

pub whole_within : (message : List ℕ) (at size : ℕ) → BeginsWithEnd (drop (at + size) message) → at + (size + 1) ≤ length message
whole_within message at size ends = omega (arith, ap length ends.stands, length-drop (at + size) message)

pub whole_behind : (message : List ℕ) (at size next : ℕ) (octets : List ℕ) (stop : ℕ) → size ≡ 0 → BeginsWithPointer (drop (at + size) message) next → next < at → IsWrittenOut message next octets stop → IsWrittenOut message at octets (at + 2)
whole_behind message at size next octets stop none points before w =
    let here = subst (λ n. BeginsWithPointer (drop n message) next) (omega (arith, none)) points in
    record { labels = w.labels; reads = pointed at at (at + 2) next stop w.labels here before w.reads refl; fits = w.fits; wire = w.wire }
