-- A name in a message is read in one way only.
use Rattle.std.proofs.Common.{◌≡◌, ℕ, ◌+◌, ◌≤◌, ◌<◌, List, [], ◌∷◌, ◌++◌, length, map, take, drop, refl, sym, ◌∙◌, ap, subst, arith}
use Rattle.std.proofs.lemmas.List.{take_at, length-drop}
use Rattle.dname.specs.Name.{Label, lowered}
use Rattle.dnswire.specs.MessageName.{BeginsWithEnd, BeginsWithLabel, BeginsWithPointer, Reads, NameAt}
use Rattle.dnswire.specs.MessageName.Reads.{closed, labelled, pointed}

-- ---- what stands at one offset

end_or_label : (octets : List ℕ) (label : Label) → BeginsWithEnd octets → BeginsWithLabel octets label → ⊥
end_or_label octets label e l =
    let head : 0 ≡ length label = cc in
    omega (arith, head, l.size.0)

end_or_pointer : (octets : List ℕ) (offset : ℕ) → BeginsWithEnd octets → BeginsWithPointer octets offset → ⊥
end_or_pointer octets offset e p =
    let head : 0 ≡ p.first = cc in
    omega (arith, head, p.marked)

label_or_pointer : (octets : List ℕ) (label : Label) (offset : ℕ) → BeginsWithLabel octets label → BeginsWithPointer octets offset → ⊥
label_or_pointer octets label offset l p =
    let head : length label ≡ p.first = cc in
    omega (arith, head, p.marked, l.size.1)

pub one_label : (octets : List ℕ) (label label' : Label) → BeginsWithLabel octets label → BeginsWithLabel octets label' → label ≡ label'
one_label octets label label' l l' =
    let whole : length label ∷ (label ++ l.rest) ≡ length label' ∷ (label' ++ l'.rest) = sym l.stands ∙ l'.stands in
    let long : length label ≡ length label' = cc in
    sym (take_at label l.rest (length label) refl) ∙ ap (take (length label)) (ap (drop 1) whole) ∙ take_at label' l'.rest (length label) (sym long)

pub one_offset : (octets : List ℕ) (offset offset' : ℕ) → BeginsWithPointer octets offset → BeginsWithPointer octets offset' → offset ≡ offset'
one_offset octets offset offset' p p' =
    let first : p.first ≡ p'.first = cc in
    let second : p.second ≡ p'.second = cc in
    omega (arith, first, second, p.offset_is, p'.offset_is)

-- ---- what is read from one offset

pub after_end : (message : List ℕ) (start at : ℕ) (labels : List Label) (end : ℕ) → BeginsWithEnd (drop at message) → Reads message start at labels end → (labels ≡ []) × (end ≡ at + 1)
after_end message start at _ end e (closed _ _ _ e' is) = (refl, is)
after_end message start at _ end e (labelled _ _ _ label labels l more) = absurd (end_or_label (drop at message) label e l)
after_end message start at labels end e (pointed _ _ _ offset stop _ p before more is) = absurd (end_or_pointer (drop at message) offset e p)

pub record AfterLabel (message : List ℕ) (start at : ℕ) (label : Label) (labels : List Label) (end : ℕ) : Type 0 where
  pub rest : List Label
  pub labels_are : labels ≡ label ∷ rest
  pub reads : Reads message start (at + 1 + length label) rest end

pub after_label : (message : List ℕ) (start at : ℕ) (label : Label) (labels : List Label) (end : ℕ) → BeginsWithLabel (drop at message) label → Reads message start at labels end → AfterLabel message start at label labels end
after_label message start at label _ end l (closed _ _ _ e is) = absurd (end_or_label (drop at message) label e l)
after_label message start at label _ end l (labelled _ _ _ label' labels l' more) =
    let same : label' ≡ label = one_label (drop at message) label' label l' l in
    record { rest = labels; labels_are = ap (λ first. first ∷ labels) same; reads = subst (λ first. Reads message start (at + 1 + length first) labels end) same more }
after_label message start at label labels end l (pointed _ _ _ offset stop _ p before more is) = absurd (label_or_pointer (drop at message) label offset l p)

pub record AfterPointer (message : List ℕ) (start at offset : ℕ) (labels : List Label) (end : ℕ) : Type 0 where
  pub stop : ℕ
  pub before : offset < start
  pub reads : Reads message offset offset labels stop
  pub end_is : end ≡ at + 2

pub after_pointer : (message : List ℕ) (start at offset : ℕ) (labels : List Label) (end : ℕ) → BeginsWithPointer (drop at message) offset → Reads message start at labels end → AfterPointer message start at offset labels end
after_pointer message start at offset _ end p (closed _ _ _ e is) = absurd (end_or_pointer (drop at message) offset e p)
after_pointer message start at offset _ end p (labelled _ _ _ label labels l more) = absurd (label_or_pointer (drop at message) label offset l p)
after_pointer message start at offset labels end p (pointed _ _ _ offset' stop _ p' before more is) =
    let same : offset' ≡ offset = one_offset (drop at message) offset' offset p' p in
    record { stop = stop; before = subst (λ o. o < start) same before; reads = subst (λ o. Reads message o o labels stop) same more; end_is = is }

-- from one offset one list of labels is read
pub one_reading : (message : List ℕ) (start at : ℕ) (labels labels' : List Label) (end end' : ℕ) → Reads message start at labels end → Reads message start at labels' end' → (labels ≡ labels') × (end ≡ end')
one_reading message start at _ labels' end end' (closed _ _ _ e is) r =
    let a = after_end message start at labels' end' e r in
    (sym a.0, is ∙ sym a.1)
one_reading message start at _ labels' end end' (labelled _ _ _ label labels l more) r =
    let a = after_label message start at label labels' end' l r in
    let same = one_reading message start (at + 1 + length label) labels a.rest end end' more a.reads in
    (ap (λ rest. label ∷ rest) same.0 ∙ sym a.labels_are, same.1)
one_reading message start at labels labels' end end' (pointed _ _ _ offset stop _ p before more is) r =
    let a = after_pointer message start at offset labels' end' p r in
    let same = one_reading message offset offset labels labels' stop a.stop more a.reads in
    (same.0, is ∙ sym a.end_is)

-- what is read ends within the message
pub reads_within : (message : List ℕ) (start at : ℕ) (labels : List Label) (end : ℕ) → Reads message start at labels end → end ≤ length message
reads_within message start at _ end (closed _ _ _ e is) = omega (arith, is, ap length e.stands, length-drop at message)
reads_within message start at _ end (labelled _ _ _ label labels l more) = reads_within message start (at + 1 + length label) labels end more
reads_within message start at labels end (pointed _ _ _ offset stop _ p before more is) = omega (arith, is, ap length p.stands, length-drop at message)

-- at one offset there is at most one name and one end
pub one_name_at : (message : List ℕ) (at : ℕ) (name name' : List Label) (end end' : ℕ) → NameAt message at name end → NameAt message at name' end' → (name ≡ name') × (end ≡ end')
one_name_at message at name name' end end' n n' =
    let same = one_reading message at at n.labels n'.labels end end' n.reads n'.reads in
    (n.lower ∙ ap (map lowered) same.0 ∙ sym n'.lower, same.1)

pub name_within : (message : List ℕ) (at : ℕ) (name : List Label) (end : ℕ) → NameAt message at name end → end ≤ length message
name_within message at name end n = reads_within message at at n.labels end n.reads
