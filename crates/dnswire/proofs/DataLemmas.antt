-- The data of a record is read in one way only, field by field.
use Rattle.std.proofs.Common.{◌≡◌, ℕ, ◌+◌, ◌-◌, ◌≤◌, List, [], ◌∷◌, ◌++◌, length, take, drop, refl, sym, ◌∙◌, ap, subst, arith, length-drop, append_assoc, Option, Some, None}
use Rattle.std.proofs.lemmas.List.{take_at, take-append-drop, length-take-le, append-nil}
use Rattle.dname.specs.Name.{wire_of}
use Rattle.dnswire.specs.Data.{IsWrittenOut, IsCharacterString, AreOctets, IsField, IsData, HasNoData}
use Rattle.dnswire.specs.DataField.{IsMissing, HasAppended, Appends}
use Rattle.dnswire.specs.declared.field.Field.{Field}
use Rattle.dnswire.specs.declared.field.Field.TheVariants.{Numbers, Name, CharacterString, Rest}
use Rattle.dnswire.proofs.MessageNameLemmas.{one_reading}

-- ---- at an offset one field stands

one_front : (message octets octets' rest rest' : List ℕ) → message ≡ octets ++ rest → message ≡ octets' ++ rest' → length octets ≡ length octets' → octets ≡ octets'
one_front message octets octets' rest rest' is is' long =
    sym (take_at octets rest (length octets) refl) ∙ ap (take (length octets)) (sym is ∙ is') ∙ take_at octets' rest' (length octets) (sym long)

one_octets : (message : List ℕ) (at : ℕ) (octets octets' : List ℕ) (end end' : ℕ) → AreOctets message at octets end → AreOctets message at octets' end' → length octets ≡ length octets' → (octets ≡ octets') × (end ≡ end')
one_octets message at octets octets' end end' a b long =
    (one_front (drop at message) octets octets' a.rest b.rest a.stands b.stands long, omega (arith, long, a.end_is, b.end_is))

-- a character string that stands before other octets has the size that the first of these says
string_size : (message octets rest : List ℕ) (size : ℕ) (after : List ℕ) → message ≡ octets ++ rest → message ≡ size ∷ after → IsCharacterString octets → length octets ≡ 1 + size
string_size message [] rest size after stands is string = absurd (omega (arith, string))
string_size message (first ∷ octets) rest size after stands is string =
    let head : first ≡ size = cc in
    omega (arith, head, string)

one_size : (message octets octets' rest rest' : List ℕ) → message ≡ octets ++ rest → message ≡ octets' ++ rest' → IsCharacterString octets → IsCharacterString octets' → length octets ≡ length octets'
one_size message [] octets' rest rest' is is' string string' = absurd (omega (arith, string))
one_size message (size ∷ octets) octets' rest rest' is is' string string' =
    string ∙ sym (string_size message octets' rest' size (octets ++ rest) is' is string')

one_written : (message : List ℕ) (at : ℕ) (octets octets' : List ℕ) (end end' : ℕ) → IsWrittenOut message at octets end → IsWrittenOut message at octets' end' → (octets ≡ octets') × (end ≡ end')
one_written message at octets octets' end end' w w' =
    let same = one_reading message at at w.labels w'.labels end end' w.reads w'.reads in
    (w.wire ∙ ap wire_of same.0 ∙ sym w'.wire, same.1)

one_field : (message : List ℕ) (stop : ℕ) (field : Field) (at : ℕ) (octets octets' : List ℕ) (end end' : ℕ) → IsField message stop field at octets end → IsField message stop field at octets' end' → (octets ≡ octets') × (end ≡ end')
one_field message stop (Numbers count) at octets octets' end end' f f' = one_octets message at octets octets' end end' f.0 f'.0 (f.1 ∙ sym f'.1)
one_field message stop Name at octets octets' end end' f f' = one_written message at octets octets' end end' f f'
one_field message stop CharacterString at octets octets' end end' f f' =
    one_octets message at octets octets' end end' f.0 f'.0 (one_size (drop at message) octets octets' f.0.rest f'.0.rest f.0.stands f'.0.stands f.1 f'.1)
one_field message stop Rest at octets octets' end end' f f' =
    one_octets message at octets octets' end end' f.0 f'.0 (omega (arith, f.0.end_is, f'.0.end_is, f.1, f'.1))

-- data is written out in one way
pub one_data : (message : List ℕ) (stop : ℕ) (fields : List Field) (at : ℕ) (rdata rdata' : List ℕ) → IsData message stop fields at rdata → IsData message stop fields at rdata' → rdata ≡ rdata'
one_data message stop [] at rdata rdata' d d' = d.1 ∙ sym d'.1
one_data message stop (field ∷ more) at rdata rdata' d d' =
    let same = one_field message stop field at d.0 d'.0 d.1 d'.1 d.3 d'.3 in
    let rest = one_data message stop more d'.1 d.2 d'.2 (subst (λ end. IsData message stop more end d.2) same.1 d.5) d'.5 in
    d.6 ∙ ap (λ octets. octets ++ d.2) same.0 ∙ ap (λ others. d'.0 ++ others) rest ∙ sym d'.6

-- ---- a field read as so many octets

pub octets_appended : (message : List ℕ) (stop at count : ℕ) (before after : List ℕ) → at + count ≤ stop → stop ≤ length message → after ≡ before ++ take count (drop at message) → HasAppended message stop (Numbers count) at before after (at + count)
octets_appended message stop at count before after fits within is =
    let long : length (take count (drop at message)) ≡ count = length-take-le count (drop at message) (omega (arith, length-drop at message)) in
    record {
      octets = take count (drop at message);
      stands = (record { rest = drop count (drop at message); stands = sym (take-append-drop count (drop at message)); end_is = omega (arith, long) }, long);
      within = fits;
      appended = is;
    }

-- what is appended as one field is appended as another that says the same of the offset
appended_as : (message : List ℕ) (stop : ℕ) (field field' : Field) (at : ℕ) (before after : List ℕ) → ((octets : List ℕ) (end : ℕ) → IsField message stop field at octets end → IsField message stop field' at octets end) → ((octets : List ℕ) (end : ℕ) → IsField message stop field' at octets end → IsField message stop field at octets end) → (found : Option ℕ) → Appends message stop field at before after found → Appends message stop field' at before after found
appended_as message stop field field' at before after forth back (Some end) a =
    record { octets = a.octets; stands = forth a.octets end a.stands; within = a.within; appended = a.appended }
appended_as message stop field field' at before after forth back None missing = λ octets end stands within. missing octets end (back octets end stands) within

-- what remains has so many octets
pub rest_appended : (message : List ℕ) (stop at : ℕ) (before after : List ℕ) → at ≤ stop → (found : Option ℕ) → Appends message stop (Numbers (stop - at)) at before after found → Appends message stop Rest at before after found
rest_appended message stop at before after early =
    appended_as message stop (Numbers (stop - at)) Rest at before after
    (λ octets end f. (f.0, omega (arith, early, f.0.end_is, f.1))) (λ octets end f. (f.0, omega (arith, f.0.end_is, f.1)))

is_string : (message octets rest : List ℕ) (size : ℕ) (after : List ℕ) → message ≡ octets ++ rest → message ≡ size ∷ after → length octets ≡ 1 + size → IsCharacterString octets
is_string message [] rest size after stands is long = absurd (omega (arith, long))
is_string message (first ∷ octets) rest size after stands is long =
    let head : first ≡ size = cc in
    omega (arith, head, long)

-- a character string has its length octet and as many octets as this says
pub string_appended : (message : List ℕ) (stop at size : ℕ) (rest before after : List ℕ) → drop at message ≡ size ∷ rest → (found : Option ℕ) → Appends message stop (Numbers (1 + size)) at before after found → Appends message stop CharacterString at before after found
string_appended message stop at size rest before after is =
    appended_as message stop (Numbers (1 + size)) CharacterString at before after
    (λ octets end f. (f.0, is_string (drop at message) octets f.0.rest size rest f.0.stands is f.1))
    (λ octets end f. (f.0, string_size (drop at message) octets f.0.rest size rest f.0.stands is f.1))

-- ---- the loop over the fields

-- the fields before `rest` are written out, and `rest` has to stand from `here` on
pub record HasWritten (message : List ℕ) (stop : ℕ) (fields : List Field) (at : ℕ) (rest : List Field) (here : ℕ) (octets : List ℕ) : Type 0 where
  pub early : here ≤ stop
  pub goes : (others : List ℕ) → IsData message stop rest here others → IsData message stop fields at (octets ++ others)
  pub only : (rdata : List ℕ) → IsData message stop fields at rdata → (others : List ℕ) × IsData message stop rest here others

pub writes_none : (message : List ℕ) (stop : ℕ) (fields : List Field) (at : ℕ) (octets : List ℕ) → at ≤ stop → octets ≡ [] → HasWritten message stop fields at fields at octets
writes_none message stop fields at octets early empty = record {
  early = early;
  goes = λ others data_is. subst (λ o. IsData message stop fields at (o ++ others)) (sym empty) data_is;
  only = λ rdata data_is. (rdata, data_is);
}

pub writes_more : (message : List ℕ) (stop : ℕ) (fields : List Field) (at : ℕ) (rest : List Field) (field : Field) (more : List Field) (here : ℕ) (octets octets' : List ℕ) (end : ℕ) → HasWritten message stop fields at rest here octets → rest ≡ field ∷ more → HasAppended message stop field here octets octets' end → HasWritten message stop fields at more end octets'
writes_more message stop fields at rest field more here octets octets' end wrote is a =
    let h = subst (λ r. HasWritten message stop fields at r here octets) is wrote in
    record {
      early = a.within;
      goes = λ others data_is.
          subst (IsData message stop fields at) (sym (append_assoc octets a.octets others) ∙ ap (λ o. o ++ others) (sym a.appended))
          (h.goes (a.octets ++ others) (a.octets, end, others, a.stands, a.within, data_is, refl));
      only = λ rdata data_is.
          let d = (h.only rdata data_is).1 in
          (d.2, subst (λ e. IsData message stop more e d.2) (one_field message stop field here d.0 a.octets d.1 end d.3 a.stands).1 d.5);
    }

pub writes_all : (message : List ℕ) (stop : ℕ) (fields : List Field) (at : ℕ) (rest : List Field) (here : ℕ) (octets : List ℕ) → HasWritten message stop fields at rest here octets → rest ≡ [] → here ≡ stop → IsData message stop fields at octets
writes_all message stop fields at rest here octets wrote none is =
    let h = subst (λ r. HasWritten message stop fields at r here octets) none wrote in
    subst (IsData message stop fields at) (append-nil octets) (h.goes [] (is, refl))

-- where a field is missing, the data hasn't the layout
pub writes_no_more : (message : List ℕ) (stop : ℕ) (fields : List Field) (at : ℕ) (rest : List Field) (field : Field) (more : List Field) (here : ℕ) (octets : List ℕ) → HasWritten message stop fields at rest here octets → rest ≡ field ∷ more → IsMissing message stop field here → HasNoData message stop fields at
writes_no_more message stop fields at rest field more here octets wrote is missing rdata data_is =
    let h = subst (λ r. HasWritten message stop fields at r here octets) is wrote in
    let d = (h.only rdata data_is).1 in
    missing d.0 d.1 d.3 d.4
