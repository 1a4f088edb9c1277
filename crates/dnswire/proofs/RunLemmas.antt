-- Runs of labels in a message, and the sizes of what stands where pointers go.
use Rattle.std.proofs.Common.{◌≡◌, ℕ, ◌+◌, ◌-◌, ◌<◌, ◌≤◌, List, [], ◌∷◌, length, min, map, take, drop, set, get_or, replicate, zero, suc, refl, sym, ◌∙◌, ap, subst, arith, length-append, Result, Ok, Err}
use Rattle.std.proofs.lemmas.List.{length-take-le, length-drop, get_or-set_same, get_or-set_other}
use native.Mathlib.Decide.{ℕ_discrete}
use Rattle.dname.specs.Name.{Label, lowered, wire_of}
use Rattle.dnswire.specs.MessageName.{BeginsWithEnd, BeginsWithLabel, BeginsWithPointer, Reads, NameAt}
use Rattle.dnswire.specs.MessageName.Reads.{closed, labelled, pointed}
use Rattle.dnswire.specs.Runs.{Passed, HasNoRoom, HasSize, AreSizes, Leads}
use Rattle.dnswire.proofs.MessageNameLemmas.{after_pointer, one_reading}
use Rattle.dnswire.proofs.NameLabelsLemmas.{begins_with_label}

-- where something is read there are octets
pub reads_starts : (message : List ℕ) (start at : ℕ) (labels : List Label) (end : ℕ) → Reads message start at labels end → at < length message
reads_starts message start at _ end (closed _ _ _ e is) = omega (arith, ap length e.stands, length-drop at message)
reads_starts message start at _ end (labelled _ _ _ label labels l more) = omega (arith, ap length l.stands, length-drop at message)
reads_starts message start at labels end (pointed _ _ _ offset stop _ p before more is) = omega (arith, ap length p.stands, length-drop at message)

pub some_octets : (labels : List Label) → 1 ≤ length (wire_of labels)
some_octets [] = omega arith
some_octets (label ∷ rest) = omega arith

-- ---- labels that are passed over

pub passed_none : (message : List ℕ) (at : ℕ) → Passed message at at
passed_none message at = record {
  order = omega arith;
  goes = λ start end labels reads. (labels, reads, omega arith);
  back = λ start end all reads. (all, reads, omega arith);
}

record AfterSize (message : List ℕ) (start here size : ℕ) (all : List Label) (end : ℕ) : Type 0 where
  pub labels : List Label
  pub reads : Reads message start (here + (1 + size)) labels end
  pub long : length (wire_of all) ≡ 1 + size + length (wire_of labels)

after_size : (message : List ℕ) (start here size : ℕ) (rest : List ℕ) (all : List Label) (end : ℕ) → drop here message ≡ size ∷ rest → 1 ≤ size → size ≤ 63 → Reads message start here all end → AfterSize message start here size all end
after_size message start here size rest _ end stands some short (closed _ _ _ e is) =
    let head : 0 ≡ size = cc in
    absurd (omega (arith, head, some))
after_size message start here size rest _ end stands some short (labelled _ _ _ label labels l more) =
    let head : length label ≡ size = cc in
    record {
      labels = labels;
      reads = subst (λ n. Reads message start n labels end) (omega (arith, head)) more;
      long = omega (arith, head, length-append label (wire_of labels));
    }
after_size message start here size rest all end stands some short (pointed _ _ _ offset stop _ p before more is) =
    let head : p.first ≡ size = cc in
    absurd (omega (arith, head, p.marked, short))

with_size : (message : List ℕ) (start here size : ℕ) (rest : List ℕ) (labels : List Label) (end : ℕ) → drop here message ≡ size ∷ rest → 1 ≤ size → size ≤ 63 → Reads message start (here + (1 + size)) labels end → (all : List Label) × Reads message start here all end × (length (wire_of all) ≡ 1 + size + length (wire_of labels))
with_size message start here size rest labels end stands some short reads =
    let starts = reads_starts message start (here + (1 + size)) labels end reads in
    let whole : size ≤ length rest = omega (arith, starts, ap length stands, length-drop here message) in
    let label = take size rest in
    let long : length label ≡ size = length-take-le size rest whole in
    let begins = begins_with_label (drop here message) size rest label stands refl some short whole in (
      label ∷ labels,
      labelled start here end label labels begins (subst (λ n. Reads message start n labels end) (omega (arith, long)) reads),
      omega (arith, long, length-append label (wire_of labels)),
    )

pub passed_label : (message : List ℕ) (at here size octet : ℕ) (rest : List ℕ) → Passed message at here → drop here message ≡ octet ∷ rest → size ≡ octet → 1 ≤ size → size ≤ 63 → Passed message at (here + (1 + size))
passed_label message at here size octet rest passed begins is some short =
    let stands : drop here message ≡ size ∷ rest = begins ∙ ap (λ n. n ∷ rest) (sym is) in
    record {
      order = omega (arith, passed.order);
      goes = λ start end labels reads.
          let one = with_size message start here size rest labels end stands some short reads in
          let all = passed.goes start end one.0 one.1 in
          (all.0, all.1, omega (arith, all.2, one.2, passed.order));
      back = λ start end all reads.
          let rests = passed.back start end all reads in
          let one = after_size message start here size rest rests.0 end stands some short rests.1 in
          (one.labels, one.reads, omega (arith, rests.2, one.long, passed.order));
    }

pub passed_over_limit : (message : List ℕ) (at here room : ℕ) (start end : ℕ) (labels : List Label) → Passed message at here → min (length message) (at + room) ≤ here → Reads message start at labels end → room < length (wire_of labels)
passed_over_limit message at here room start end labels passed far reads =
    let rest = passed.back start end labels reads in
    omega (arith, rest.2, some_octets rest.0, far, passed.order, reads_starts message start here rest.0 end rest.1)

-- ---- a run

pub no_run_room : (message : List ℕ) (at last next room : ℕ) → Passed message at last → BeginsWithPointer (drop last message) next → at ≤ next → HasNoRoom message at room
no_run_room message at last next room passed points late labels end reads =
    let rest = passed.back at end labels reads in
    let a = after_pointer message at last next rest.0 end points rest.1 in
    omega (arith, a.before, late)

no_piece : (message : List ℕ) (start at : ℕ) (labels : List Label) (end : ℕ) → (BeginsWithEnd (drop at message) → ⊥) → ((label : Label) → BeginsWithLabel (drop at message) label → ⊥) → ((offset : ℕ) → BeginsWithPointer (drop at message) offset → ⊥) → Reads message start at labels end → ⊥
no_piece message start at _ end no_end no_label no_pointer (closed _ _ _ e is) = no_end e
no_piece message start at _ end no_end no_label no_pointer (labelled _ _ _ label labels l more) = no_label label l
no_piece message start at labels end no_end no_label no_pointer (pointed _ _ _ offset stop _ p before more is) = no_pointer offset p

pub no_run : (message : List ℕ) (at last room : ℕ) → Passed message at last → (BeginsWithEnd (drop last message) → ⊥) → ((label : Label) → BeginsWithLabel (drop last message) label → ⊥) → ((offset : ℕ) → BeginsWithPointer (drop last message) offset → ⊥) → HasNoRoom message at room
no_run message at last room passed no_end no_label no_pointer labels end reads =
    let rest = passed.back at end labels reads in
    absurd (no_piece message at last rest.0 end no_end no_label no_pointer rest.1)

-- a run that a zero octet ends
pub closed_run : (message : List ℕ) (at size : ℕ) → Passed message at (at + size) → BeginsWithEnd (drop (at + size) message) → (labels : List Label) × Reads message at at labels (at + size + 1) × (length (wire_of labels) ≡ size + 1)
closed_run message at size passed ends =
    let all = passed.goes at (at + size + 1) [] (closed at (at + size) (at + size + 1) ends refl) in
    (all.0, all.1, omega (arith, all.2))

-- a run that a pointer ends
pub pointed_run : (message : List ℕ) (at size next : ℕ) (labels : List Label) (stop : ℕ) → Passed message at (at + size) → BeginsWithPointer (drop (at + size) message) next → next < at → Reads message next next labels stop → (all : List Label) × Reads message at at all (at + size + 2) × (length (wire_of all) ≡ size + length (wire_of labels))
pointed_run message at size next labels stop passed points before reads =
    let all = passed.goes at (at + size + 2) labels (pointed at (at + size) (at + size + 2) next stop labels points before reads refl) in
    (all.0, all.1, omega (arith, all.2))

pub after_run : (message : List ℕ) (at size next : ℕ) (all : List Label) (end : ℕ) → Passed message at (at + size) → BeginsWithPointer (drop (at + size) message) next → Reads message at at all end → (labels : List Label) × (stop : ℕ) × Reads message next next labels stop × (length (wire_of all) ≡ size + length (wire_of labels))
after_run message at size next all end passed points reads =
    let rest = passed.back at end all reads in
    let a = after_pointer message at (at + size) next rest.0 end points rest.1 in
    (rest.0, a.stop, a.reads, omega (arith, rest.2))

-- ---- runs that lead from one to the other

pub leads_none : (message : List ℕ) (at : ℕ) → Leads message at at 0
leads_none message at = record {
  goes = λ labels end reads. (labels, end, reads, omega arith);
  back = λ all stop reads. (all, stop, reads, omega arith);
}

pub leads_on : (message : List ℕ) (from at passed size next : ℕ) → Leads message from at passed → Passed message at (at + size) → BeginsWithPointer (drop (at + size) message) next → next < at → Leads message from next (passed + size)
leads_on message from at passed size next leads run points before = record {
  goes = λ labels end reads.
      let one = pointed_run message at size next labels end run points before reads in
      let all = leads.goes one.0 (at + size + 2) one.1 in
      (all.0, all.1, all.2, omega (arith, all.3, one.2));
  back = λ all stop reads.
      let rest = leads.back all stop reads in
      let one = after_run message at size next rest.0 rest.1 run points rest.2 in
      (one.0, one.1, one.2, omega (arith, rest.3, one.3));
}

pub leads_to_size : (message : List ℕ) (from at passed size all : ℕ) → Leads message from at passed → HasSize message at size → all ≡ passed + size → HasSize message from all
leads_to_size message from at passed size all leads has is =
    let whole = leads.goes has.labels has.end has.reads in
    record { labels = whole.0; end = whole.1; reads = whole.2; size_is = omega (arith, is, whole.3, has.size_is) }

pub closed_size : (message : List ℕ) (at size : ℕ) → Passed message at (at + size) → BeginsWithEnd (drop (at + size) message) → HasSize message at (size + 1)
closed_size message at size passed ends =
    let all = closed_run message at size passed ends in
    record { labels = all.0; end = at + size + 1; reads = all.1; size_is = sym all.2 }

-- what is read after a run has the size that is left
pub size_after_run : (message : List ℕ) (at all size next : ℕ) → HasSize message at all → Passed message at (at + size) → BeginsWithPointer (drop (at + size) message) next → HasSize message next (all - size)
size_after_run message at all size next has run points =
    let rest = after_run message at size next has.labels has.end run points has.reads in
    record { labels = rest.0; end = rest.1; reads = rest.2; size_is = omega (arith, has.size_is, rest.3) }

pub some_size : (message : List ℕ) (at size : ℕ) → HasSize message at size → 1 ≤ size
some_size message at size has = omega (arith, has.size_is, some_octets has.labels)

pub too_long : (message : List ℕ) (from at passed size room : ℕ) → Leads message from at passed → HasSize message at size → room < passed + size → HasNoRoom message from room
too_long message from at passed size room leads has long labels end reads =
    let rest = leads.back labels end reads in
    let same = one_reading message at at rest.0 has.labels rest.1 has.end rest.2 has.reads in
    omega (arith, rest.3, has.size_is, long, ap (λ l. length (wire_of l)) same.0)

pub no_room_on : (message : List ℕ) (from at passed room : ℕ) → Leads message from at passed → passed ≤ room → HasNoRoom message at (room - passed) → HasNoRoom message from room
no_room_on message from at passed room leads within none labels end reads =
    let rest = leads.back labels end reads in
    omega (arith, rest.3, within, none rest.0 rest.1 rest.2)

-- ---- names

pub closed_name : (message : List ℕ) (at size : ℕ) → Passed message at (at + size) → BeginsWithEnd (drop (at + size) message) → size < 255 → (name : List Label) × NameAt message at name (at + size + 1)
closed_name message at size passed ends few =
    let all = closed_run message at size passed ends in
    (map lowered all.0, record { labels = all.0; reads = all.1; fits = omega (arith, all.2, few); lower = refl })

pub pointed_name : (message : List ℕ) (at size next rest : ℕ) → Passed message at (at + size) → BeginsWithPointer (drop (at + size) message) next → next < at → HasSize message next rest → rest ≤ 255 - size → size < 255 → (name : List Label) × NameAt message at name (at + size + 2)
pointed_name message at size next rest passed points before has fits few =
    let all = pointed_run message at size next has.labels has.end passed points before has.reads in
    (map lowered all.0, record { labels = all.0; reads = all.1; fits = omega (arith, all.2, has.size_is, fits, few); lower = refl })

pub no_room_no_name : (message : List ℕ) (at : ℕ) (name : List Label) (end : ℕ) → HasNoRoom message at 255 → NameAt message at name end → ⊥
no_room_no_name message at name end none n = omega (arith, n.fits, none n.labels end n.reads)

pub no_rest_no_name : (message : List ℕ) (at size next : ℕ) (name : List Label) (end : ℕ) → Passed message at (at + size) → BeginsWithPointer (drop (at + size) message) next → HasNoRoom message next (255 - size) → size < 255 → NameAt message at name end → ⊥
no_rest_no_name message at size next name end passed points none few n =
    let rest = after_run message at size next n.labels end passed points n.reads in
    omega (arith, n.fits, rest.3, few, none rest.0 rest.1 rest.2)

-- ---- sizes that are remembered

pub keep_size : (message sizes : List ℕ) (at size : ℕ) → AreSizes message sizes → at < length sizes → HasSize message at size → AreSizes message (set sizes at size)
keep_size message sizes at size are within has here some = by (ℕ_discrete here at)
  where
    by : Dec (here ≡ at) → HasSize message here (get_or (set sizes at size) here 0)
    by (yes same) = subst (λ n. HasSize message n (get_or (set sizes at size) n 0)) (sym same) (subst (HasSize message at) (sym (get_or-set_same sizes at size 0 within)) has)
    by (no other) =
        let is : get_or (set sizes at size) here 0 ≡ get_or sizes here 0 = get_or-set_other sizes at here size 0 other in
        subst (HasSize message here) (sym is) (are here (omega (arith, some, is)))

abbrev zeros : ℕ → List ℕ
zeros count = replicate count 0

pub zero_at : (count at : ℕ) → get_or (zeros count) at 0 ≡ 0
zero_at zero at = refl
zero_at (suc count) zero = refl
zero_at (suc count) (suc at) = zero_at count at

pub no_sizes : (message : List ℕ) (count : ℕ) → AreSizes message (replicate count 0)
no_sizes message count at some = absurd (omega (arith, some, zero_at count at))

-- ---- a fault that is handed on

abbrev err_or : {X E : Type 0} → E → Result X E → E
err_or other (Ok x) = other
err_or other (Err fault) = fault

-- one fault in results of two types
pub handed_on : {X Y E : Type 0} (a b : E) → ◌≡◌ {A = Result X E} (Err a) (Err b) → ◌≡◌ {A = Result Y E} (Err a) (Err b)
handed_on a b is = ap Err (ap (err_or a) is)
