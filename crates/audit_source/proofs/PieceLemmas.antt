-- The steps of the reader, piece by piece.
use Rattle.std.proofs.Common.{◌≡◌, ℕ, ◌<◌, List, [], ◌∷◌, ◌++◌, length, map, Some, None, refl, sym, ◌∙◌, ap, subst, arith, length-append, append_assoc}
use Rattle.std.proofs.lemmas.List.{append-nil}
use Rattle.std.proofs.lemmas.Option.{none-some, same_Some}
use Rattle.byteorder.specs.Endian.{big_bytes}
use Rattle.dname.specs.Name.{Label, lowered, wire_of, labels_of}
use Rattle.dname.specs.NameData.{name_in}
use Rattle.dname.specs.Read.{Spells, IsWireForm}
use Rattle.dname.proofs.WireLemmas.{labels_of-wire_of}
use Rattle.dname.proofs.NameDataLemmas.{name_spelled, spelled_name}
use Rattle.zone_meaning.specs.Zone.{ZoneRecord}
use Rattle.zone_meaning.specs.ZoneTable.{zone_record}
use Rattle.audit_source.specs.Source.{counted, name_of}
use Rattle.audit_source.specs.Pieces.{HasNumber, HasCounted, HasName, HasHead, HasEntry, HasRun}
use Rattle.audit_source.specs.declared.reading.TheConstants.{MOST_RECORDS}
use Rattle.audit_source.proofs.SpellingLemmas.{one_number, one_counted, one_form, form_fits, three_and_rest}

-- ---- octets after their number

pub same_number : (size : ℕ) (octets rest rest' : List ℕ) (number number' : ℕ) → HasNumber size octets number rest → HasNumber size octets number' rest' → (number ≡ number') × (rest ≡ rest')
same_number size octets rest rest' number number' has has' =
    one_number size number number' rest rest' has.fits has'.fits (sym has.spelled ∙ has'.spelled)

pub same_counted : (size : ℕ) (octets piece piece' rest rest' : List ℕ) → HasCounted size octets piece rest → HasCounted size octets piece' rest' → (piece ≡ piece') × (rest ≡ rest')
same_counted size octets piece piece' rest rest' has has' =
    one_counted size piece piece' rest rest' has.fits has'.fits (sym has.spelled ∙ has'.spelled)

-- ---- names

wire_spells : (form : List ℕ) → IsWireForm form → Spells form (name_of form) (length form)
wire_spells form wire = record {
  labels = wire.labels;
  rest = [];
  spelled = wire.spelled ∙ sym (append-nil (wire_of wire.labels));
  sizes = wire.sizes;
  size = ap length wire.spelled;
  fits = wire.fits;
  lower = ap (λ octets. map lowered (labels_of octets)) wire.spelled ∙ ap (map lowered) (labels_of-wire_of wire.labels wire.sizes);
}

pub wire_named : (form : List ℕ) → IsWireForm form → name_in form ≡ Some (name_of form)
wire_named form wire = name_spelled form (name_of form) (wire_spells form wire)

empty_rest : (xs ys : List ℕ) → length (xs ++ ys) ≡ length xs → ys ≡ []
empty_rest xs [] same = refl
empty_rest xs (y ∷ ys) same = absurd (omega (arith, length-append xs (y ∷ ys), same))

spelled_wire : (form : List ℕ) (name : List Label) → Spells form name (length form) → IsWireForm form
spelled_wire form name s =
    let ended : s.rest ≡ [] = empty_rest (wire_of s.labels) s.rest (sym (ap length s.spelled) ∙ s.size) in
    record {
      labels = s.labels;
      spelled = s.spelled ∙ ap (λ rest. wire_of s.labels ++ rest) ended ∙ append-nil (wire_of s.labels);
      sizes = s.sizes;
      fits = s.fits;
    }

pub named_wire : (form : List ℕ) (name : List Label) → name_in form ≡ Some name → IsWireForm form × (name ≡ name_of form)
named_wire form name is =
    let wire = spelled_wire form name (spelled_name form name is) in
    (wire, same_Some name (name_of form) (sym is ∙ wire_named form wire))

pub name_whole : (octets form rest : List ℕ) (name : List Label) → HasCounted 2 octets form rest → name_in form ≡ Some name → HasName octets name rest
name_whole octets form rest name has is =
    let named = named_wire form name is in
    record { form = form; wire = named.0; spelled = has.spelled; name_is = named.1 }

pub name_parts : (octets rest : List ℕ) (name : List Label) (has : HasName octets name rest) → HasCounted 2 octets has.form rest
name_parts octets rest name has = record { spelled = has.spelled; fits = form_fits has.form has.wire }

pub no_name : (octets form rest : List ℕ) → HasCounted 2 octets form rest → name_in form ≡ None → (name : List Label) (rest' : List ℕ) → HasName octets name rest' → ⊥
no_name octets form rest counts none name rest' has =
    let same = same_counted 2 octets form has.form rest rest' counts (name_parts octets rest' name has) in
    none-some (name_of has.form) (sym none ∙ ap name_in same.0 ∙ wire_named has.form has.wire)

pub same_name : (octets rest rest' : List ℕ) (name name' : List Label) → HasName octets name rest → HasName octets name' rest' → (name ≡ name') × (rest ≡ rest')
same_name octets rest rest' name name' has has' =
    let same = one_form has.form has'.form rest rest' has.wire has'.wire (sym has.spelled ∙ has'.spelled) in
    (has.name_is ∙ ap name_of same.0 ∙ sym has'.name_is, same.1)

-- ---- the head

-- its name, and behind that its number
record HeadParts (octets : List ℕ) (apex : List Label) (count : ℕ) (rest : List ℕ) : Type 0 where
  pub after : List ℕ
  pub named : HasName octets apex after
  pub numbered : HasNumber 4 after count rest

head_parts : (octets rest : List ℕ) (apex : List Label) (count : ℕ) → HasHead octets apex count rest → HeadParts octets apex count rest
head_parts octets rest apex count has = record {
  after = big_bytes 4 count ++ rest;
  named = record { form = has.form; wire = has.wire; spelled = has.spelled ∙ append_assoc (counted 2 has.form) (big_bytes 4 count) rest; name_is = has.apex_is };
  numbered = record { spelled = refl; fits = omega (arith, has.few) };
}

pub head_no_name : (octets : List ℕ) → ((name : List Label) (rest : List ℕ) → HasName octets name rest → ⊥) → (apex : List Label) (count : ℕ) (rest : List ℕ) → HasHead octets apex count rest → ⊥
head_no_name octets none apex count rest has =
    let parts = head_parts octets rest apex count has in
    none apex parts.after parts.named

-- the number of a head is the one that is read
pub head_number : (octets after rest : List ℕ) (apex : List Label) (count : ℕ) → HasName octets apex after → HasNumber 4 after count rest → (apex' : List Label) (count' : ℕ) (rest' : List ℕ) → HasHead octets apex' count' rest' → count ≡ count'
head_number octets after rest apex count named numbered apex' count' rest' has =
    let parts = head_parts octets rest' apex' count' has in
    let same = same_name octets after parts.after apex apex' named parts.named in
    (same_number 4 after rest rest' count count' numbered (subst (λ l. HasNumber 4 l count' rest') (sym same.1) parts.numbered)).0

pub head_too_many : (octets after rest : List ℕ) (apex : List Label) (count : ℕ) → HasName octets apex after → HasNumber 4 after count rest → MOST_RECORDS < count → (apex' : List Label) (count' : ℕ) (rest' : List ℕ) → HasHead octets apex' count' rest' → ⊥
head_too_many octets after rest apex count named numbered many apex' count' rest' has =
    omega (arith, many, has.few, head_number octets after rest apex count named numbered apex' count' rest' has)

-- ---- a record

pub entry_whole : (octets after behind rest piece : List ℕ) (owner : List Label) (rtype : ℕ) → HasName octets owner after → HasNumber 2 after rtype behind → HasCounted 2 behind piece rest → HasEntry octets (zone_record owner rtype piece) rest
entry_whole octets after behind rest piece owner rtype named numbered counts = record {
  entry = record { owner = named.form; rtype = rtype; octets = piece };
  valid = record { owner = named.wire; rtype_fits = numbered.fits; octets_fit = counts.fits };
  spelled = named.spelled ∙ ap (λ l. counted 2 named.form ++ l) (numbered.spelled ∙ ap (λ l. big_bytes 2 rtype ++ l) counts.spelled)
      ∙ sym (three_and_rest (counted 2 named.form) (big_bytes 2 rtype) (counted 2 piece) rest);
  record_is = λ i. record { owner = named.name_is i; rtype = rtype; octets = piece };
}

record EntryParts (octets rest : List ℕ) : Type 0 where
  pub owner : List Label
  pub rtype : ℕ
  pub piece : List ℕ
  pub after : List ℕ
  pub behind : List ℕ
  pub named : HasName octets owner after
  pub numbered : HasNumber 2 after rtype behind
  pub counts : HasCounted 2 behind piece rest

entry_parts : (octets rest : List ℕ) (r : ZoneRecord) → HasEntry octets r rest → EntryParts octets rest
entry_parts octets rest r has = record {
  owner = name_of has.entry.owner;
  rtype = has.entry.rtype;
  piece = has.entry.octets;
  after = big_bytes 2 has.entry.rtype ++ (counted 2 has.entry.octets ++ rest);
  behind = counted 2 has.entry.octets ++ rest;
  named = record {
    form = has.entry.owner;
    wire = has.valid.owner;
    spelled = has.spelled ∙ three_and_rest (counted 2 has.entry.owner) (big_bytes 2 has.entry.rtype) (counted 2 has.entry.octets) rest;
    name_is = refl;
  };
  numbered = record { spelled = refl; fits = has.valid.rtype_fits };
  counts = record { spelled = refl; fits = has.valid.octets_fit };
}

pub entry_no_name : (octets : List ℕ) → ((name : List Label) (rest : List ℕ) → HasName octets name rest → ⊥) → (r : ZoneRecord) (rest : List ℕ) → HasEntry octets r rest → ⊥
entry_no_name octets none r rest has =
    let parts = entry_parts octets rest r has in
    none parts.owner parts.after parts.named

pub entry_no_data : (octets after behind : List ℕ) (owner : List Label) (rtype : ℕ) → HasName octets owner after → HasNumber 2 after rtype behind → ((piece rest : List ℕ) → HasCounted 2 behind piece rest → ⊥) → (r : ZoneRecord) (rest : List ℕ) → HasEntry octets r rest → ⊥
entry_no_data octets after behind owner rtype named numbered none r rest has =
    let parts = entry_parts octets rest r has in
    let first = same_name octets after parts.after owner parts.owner named parts.named in
    let second = same_number 2 after behind parts.behind rtype parts.rtype numbered (subst (λ l. HasNumber 2 l parts.rtype parts.behind) (sym first.1) parts.numbered) in
    none parts.piece rest (subst (λ l. HasCounted 2 l parts.piece rest) (sym second.1) parts.counts)

-- ---- a run

run_input : (octets input output rest : List ℕ) → HasRun octets input output rest → HasCounted 4 octets input (counted 4 output ++ rest)
run_input octets input output rest has = record {
  spelled = has.spelled ∙ append_assoc (counted 4 input) (counted 4 output) rest;
  fits = has.input_fits;
}

pub run_no_output : (octets input after : List ℕ) → HasCounted 4 octets input after → ((piece rest : List ℕ) → HasCounted 4 after piece rest → ⊥) → (input' output rest : List ℕ) → HasRun octets input' output rest → ⊥
run_no_output octets input after first none input' output rest has =
    let same = same_counted 4 octets input input' after (counted 4 output ++ rest) first (run_input octets input' output rest has) in
    none output rest (record { spelled = same.1; fits = has.output_fits })
