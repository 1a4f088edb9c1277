-- The labels of a name in a message, taken off one by one.
use Rattle.std.proofs.Common.{◌≡◌, ℕ, ◌+◌, ◌<◌, ◌≤◌, List, [], ◌∷◌, ◌++◌, length, map, take, drop, refl, sym, ◌∙◌, ap, subst, arith, length-append, append_assoc, append-nil, Some}
use Rattle.std.specs.Option.{unwrap_or}
use Rattle.std.proofs.lemmas.List.{length-map, length-take-le, take-append-drop}
use Rattle.dname.specs.Name.{Label, lowered, wire_of}
use Rattle.dname.specs.Read.{written}
use Rattle.dname.proofs.BuildLemmas.{length-wire_of-push, length-wire_of-lowered}
use Rattle.dname.proofs.ReadLemmas.{written-push, wire_of-written}
use Rattle.dnswire.specs.MessageName.{BeginsWithEnd, BeginsWithLabel, BeginsWithPointer, Reads, NameAt}
use Rattle.dnswire.specs.MessageName.Reads.{closed, labelled, pointed}
use Rattle.dnswire.specs.LabelsLeft.{LabelsLeft, AreLeft, AreNoneLeft, IsNextLabel, IsFollowed, first_of}
use Rattle.dnswire.specs.NameLabels.{HasNoPiece}
use Rattle.dnswire.proofs.MessageNameLemmas.{after_label, after_pointer, one_reading}

-- ---- what the piece at hand says of the labels that are left

pub left_end : (left : LabelsLeft) → BeginsWithEnd (drop left.at left.message) → left.size ≤ 254 → AreLeft left [] (unwrap_or left.ended (left.at + 1))
left_end left ends small = record {
  stop = left.at + 1;
  reads = closed left.start left.at (left.at + 1) ends refl;
  end_is = refl;
  fits = omega arith;
}

next_label : (left : LabelsLeft) (label : Label) (n : ℕ) → BeginsWithLabel (drop left.at left.message) label → n ≡ length label → left.size + 1 + n ≤ 254 → IsNextLabel left label (record left { at = left.at + (1 + n); size = left.size + (1 + n) })
next_label left label n stands is room = record {
  sized = stands.size;
  count = omega (arith, is);
  room = omega arith;
  goes = λ labels end more. record {
    stop = more.stop;
    reads = labelled left.start left.at more.stop label labels stands (subst (λ at. Reads left.message left.start at labels more.stop) (omega (arith, is)) more.reads);
    end_is = more.end_is;
    fits = omega (arith, is, more.fits, length-append label (wire_of labels));
  };
  only = λ labels end all.
      let a = after_label left.message left.start left.at label labels all.stop stands all.reads in (
        a.rest,
        a.labels_are,
        record {
          stop = all.stop;
          reads = subst (λ at. Reads left.message left.start at a.rest all.stop) (omega (arith, is)) a.reads;
          end_is = all.end_is;
          fits = omega (arith, is, all.fits, ap (λ all. length (wire_of all)) a.labels_are, length-append label (wire_of a.rest));
        },
      );
}

followed : (left : LabelsLeft) (offset end : ℕ) → BeginsWithPointer (drop left.at left.message) offset → offset < left.start → end ≡ unwrap_or left.ended (left.at + 2) → IsFollowed left offset (record left { start = offset; at = offset; ended = Some end })
followed left offset end points before is = record {
  earlier = before;
  start = refl;
  size = refl;
  goes = λ labels stop all. record {
    stop = left.at + 2;
    reads = pointed left.start left.at (left.at + 2) offset all.stop labels points before all.reads refl;
    end_is = all.end_is ∙ is;
    fits = all.fits;
  };
  back = λ labels stop all.
      let a = after_pointer left.message left.start left.at offset labels all.stop points all.reads in
      record {
        stop = a.stop;
        reads = a.reads;
        end_is = all.end_is ∙ ap (unwrap_or left.ended) a.end_is ∙ sym is;
        fits = all.fits;
      };
}

-- the same of a place that is this one
pub left_label : (left old : LabelsLeft) (label : Label) (n : ℕ) → left ≡ old → BeginsWithLabel (drop old.at old.message) label → n ≡ length label → left.size + 1 + n ≤ 254 → IsNextLabel old label (record left { at = left.at + (1 + n); size = left.size + (1 + n) })
left_label left old label n same stands is room =
    subst (λ l. IsNextLabel l label (record left { at = left.at + (1 + n); size = left.size + (1 + n) })) same
    (next_label left label n (subst (λ l. BeginsWithLabel (drop l.at l.message) label) (sym same) stands) is room)

pub left_pointer : (left old : LabelsLeft) (offset end : ℕ) → left ≡ old → BeginsWithPointer (drop old.at old.message) offset → offset < left.start → end ≡ unwrap_or left.ended (left.at + 2) → IsFollowed old offset (record left { start = offset; at = offset; ended = Some end })
left_pointer left old offset end same points before is =
    subst (λ l. IsFollowed l offset (record left { start = offset; at = offset; ended = Some end })) same
    (followed left offset end (subst (λ l. BeginsWithPointer (drop l.at l.message) offset) (sym same) points) before is)

pub none_pointer : (left : LabelsLeft) (offset : ℕ) → BeginsWithPointer (drop left.at left.message) offset → left.start ≤ offset → AreNoneLeft left
none_pointer left offset points late labels end all =
    let a = after_pointer left.message left.start left.at offset labels all.stop points all.reads in
    omega (arith, a.before, late)

pub none_label : (left : LabelsLeft) (label : Label) → BeginsWithLabel (drop left.at left.message) label → 255 ≤ left.size + 1 + length label → AreNoneLeft left
none_label left label stands long labels end all =
    let a = after_label left.message left.start left.at label labels all.stop stands all.reads in
    omega (arith, long, all.fits, ap (λ all. length (wire_of all)) a.labels_are, length-append label (wire_of a.rest), some_octets a.rest)
  where
    some_octets : (labels : List Label) → 1 ≤ length (wire_of labels)
    some_octets [] = omega arith
    some_octets (label ∷ rest) = omega arith

pub none_piece : (left : LabelsLeft) → HasNoPiece (drop left.at left.message) → AreNoneLeft left
none_piece left none labels end all = at_hand labels all.stop all.reads
  where
    at_hand : (labels : List Label) (stop : ℕ) → Reads left.message left.start left.at labels stop → ⊥
    at_hand _ stop (closed _ _ _ e is) = none.no_end e
    at_hand _ stop (labelled _ _ _ label labels l more) = none.no_label label l
    at_hand labels stop (pointed _ _ _ offset stop' _ p before more is) = none.no_pointer offset p

-- ---- pointers that were followed

-- no label was taken off
pub record SameLeft (before after : LabelsLeft) : Type 0 where
  pub goes : (labels : List Label) (end : ℕ) → AreLeft after labels end → AreLeft before labels end
  pub back : (labels : List Label) (end : ℕ) → AreLeft before labels end → AreLeft after labels end

pub same_left : (left : LabelsLeft) → SameLeft left left
same_left left = record { goes = λ labels end all. all; back = λ labels end all. all }

pub same_followed : (first left : LabelsLeft) (offset : ℕ) (after : LabelsLeft) → SameLeft first left → IsFollowed left offset after → SameLeft first after
same_followed first left offset after same followed = record {
  goes = λ labels end all. same.goes labels end (followed.goes labels end all);
  back = λ labels end all. followed.back labels end (same.back labels end all);
}

pub same_end : (first left : LabelsLeft) (end : ℕ) → SameLeft first left → AreLeft left [] end → AreLeft first [] end
same_end first left end same all = same.goes [] end all

pub same_next : (first left : LabelsLeft) (label : Label) (after : LabelsLeft) → SameLeft first left → first.size ≡ left.size → IsNextLabel left label after → IsNextLabel first label after
same_next first left label after same sizes next = record {
  sized = next.sized;
  count = omega (arith, next.count, sizes);
  room = next.room;
  goes = λ labels end all. same.goes (label ∷ labels) end (next.goes labels end all);
  only = λ labels end all. next.only labels end (same.back labels end all);
}

pub same_none : (first left : LabelsLeft) → SameLeft first left → AreNoneLeft left → AreNoneLeft first
same_none first left same none labels end all = none labels end (same.back labels end all)

-- ---- the labels that came

-- from the first to the labels that are left, these came
pub record HasCome (first : LabelsLeft) (came : List Label) (left : LabelsLeft) : Type 0 where
  pub count : left.size ≡ length (written came)
  pub goes : (labels : List Label) (end : ℕ) → AreLeft left labels end → AreLeft first (came ++ labels) end
  pub only : (labels : List Label) (end : ℕ) → AreLeft first labels end → (rest : List Label) × (labels ≡ came ++ rest) × AreLeft left rest end

pub come_none : (message : List ℕ) (at : ℕ) → HasCome (first_of message at) [] (first_of message at)
come_none message at = record {
  count = refl;
  goes = λ labels end all. all;
  only = λ labels end all. (labels, refl, all);
}

pub come_label : (first : LabelsLeft) (came : List Label) (left : LabelsLeft) (label : Label) (after : LabelsLeft) → HasCome first came left → IsNextLabel left label after → HasCome first (came ++ label ∷ []) after
come_label first came left label after come next = record {
  count = omega (arith, next.count, come.count, ap length (written-push came label), length-append (written came) (length label ∷ label));
  goes = λ labels end all.
      subst (λ labels. AreLeft first labels end) (sym (append_assoc came (label ∷ []) labels))
      (come.goes (label ∷ labels) end (next.goes labels end all));
  only = λ labels end all.
      let before = come.only labels end all in
      let on = next.only before.0 end before.2 in
      (on.0, before.1 ∙ ap (λ rest. came ++ rest) on.1 ∙ sym (append_assoc came (label ∷ []) on.0), on.2);
}

-- the end is reached
pub come_end : (first : LabelsLeft) (came : List Label) (left : LabelsLeft) (end : ℕ) → HasCome first came left → AreLeft left [] end → AreLeft first came end
come_end first came left end come last = subst (λ labels. AreLeft first labels end) (append-nil came) (come.goes [] end last)

pub come_stop : (first : LabelsLeft) (came : List Label) (left : LabelsLeft) → HasCome first came left → AreNoneLeft left → AreNoneLeft first
come_stop first came left come none labels end all = let rest = come.only labels end all in none rest.0 end rest.2

-- the next label has room in a name
pub come_room : (first : LabelsLeft) (came : List Label) (left : LabelsLeft) (label : Label) (after : LabelsLeft) (name : List Label) → HasCome first came left → IsNextLabel left label after → name ≡ map lowered came → length (wire_of (name ++ label ∷ [])) ≤ 255
come_room first came left label after name come next same =
    omega (arith, length-wire_of-push name label, ap (λ n. length (wire_of n)) same, length-wire_of-lowered came, ap length (wire_of-written came), length-append (written came) (0 ∷ []), come.count, next.count, next.room)

-- ---- the name

pub name_of : (message : List ℕ) (at : ℕ) (labels : List Label) (end : ℕ) → AreLeft (first_of message at) labels end → NameAt message at (map lowered labels) end
name_of message at labels end all = record {
  labels = labels;
  reads = subst (Reads message at at labels) (sym all.end_is) all.reads;
  fits = omega (arith, all.fits);
  lower = refl;
}

pub left_of_name : (message : List ℕ) (at : ℕ) (name : List Label) (end : ℕ) (n : NameAt message at name end) → AreLeft (first_of message at) n.labels end
left_of_name message at name end n = record { stop = end; reads = n.reads; end_is = refl; fits = omega (arith, n.fits) }

pub no_name : (message : List ℕ) (at : ℕ) (name : List Label) (end : ℕ) → AreNoneLeft (first_of message at) → NameAt message at name end → ⊥
no_name message at name end none n = none n.labels end (left_of_name message at name end n)

pub root_at : (message : List ℕ) (at : ℕ) (last end : ℕ) (name : List Label) → AreLeft (first_of message at) [] last → NameAt message at name end → name ≡ []
root_at message at last end name all n =
    n.lower ∙ ap (map lowered) (one_reading message at at n.labels [] end all.stop n.reads all.reads).0

pub not_root_at : (message : List ℕ) (at : ℕ) (label : Label) (after : LabelsLeft) (end : ℕ) (name : List Label) → IsNextLabel (first_of message at) label after → NameAt message at name end → name ≡ [] → ⊥
not_root_at message at label after end name next n root =
    let on = next.only n.labels end (left_of_name message at name end n) in
    let some : 1 ≤ length n.labels = omega (arith, ap length on.1) in
    omega (arith, some, ap length root, ap length n.lower, length-map n.labels lowered)

-- ---- a label in octets

-- so many octets after a length octet are a label
pub begins_with_label : (octets : List ℕ) (size : ℕ) (rest label : List ℕ) → octets ≡ size ∷ rest → label ≡ take size rest → 1 ≤ size → size ≤ 63 → size ≤ length rest → BeginsWithLabel octets label
begins_with_label octets size rest label stands is some short whole =
    let long : length label ≡ size = ap length is ∙ length-take-le size rest whole in
    record {
      rest = drop size rest;
      stands = stands ∙ ap (λ l. size ∷ l) (sym (take-append-drop size rest)) ∙ ap (λ l. size ∷ l ++ drop size rest) (sym is) ∙ ap (λ n. n ∷ (label ++ drop size rest)) (sym long);
      size = subst (λ n. (1 ≤ n) × (n ≤ 63)) (sym long) (some, short);
    }
