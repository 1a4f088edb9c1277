-- The whole source, from the pieces that are read.
use Rattle.std.proofs.Common.{rules, ◌≡◌, ◌≢◌, ℕ, ◌+◌, ◌<◌, ◌≤◌, ◌⊎◌, inl, inr, List, [], ◌∷◌, ◌++◌, length, map, Option, Some, None, refl, sym, ◌∙◌, ap, subst, arith, append_assoc, length-append}
use Rattle.std.specs.Prelude.{Result, Ok, Err, IsOk, IfErr, IfOk}
use Rattle.std.specs.Prelude.{Bool, true, false, ◌==◌}
use Rattle.std.proofs.lemmas.Bool.{false≢true}
use Rattle.std.proofs.lemmas.Bool.Decides.{nat_tests}
use Rattle.std.proofs.lemmas.List.{nil_from_length}
use Rattle.std.specs.List.{All, flat_map}
use Rattle.byteorder.specs.Endian.{big_bytes}
use Rattle.dname.specs.Name.{Label}
use Rattle.zone_meaning.specs.Zone.{Zone, ZoneRecord, IsZone, IsSameZone}
use Rattle.audit_source.specs.Source.{Entry, IsEntry, Source, IsSource, BeginsWith, IsSourceOf, HasRefused, BeginsRefused, GoesOn, IsFaultOf, counted, entry_spelling, name_of, record_of, run_spelling, source_spelling, zone_of}
use Rattle.audit_source.specs.Pieces.{HasHead, HasEntries, HasRun, AreTaken, HasTaken}
use Rattle.audit_source.specs.declared.source_fault.SourceFault.{SourceFault}
use Rattle.audit_source.specs.declared.source_fault.SourceFault.TheVariants.{Form, Outside, Forbidden, Trailing, OutOfMemory}
use Rattle.audit_source.proofs.SpellingLemmas.{one_form, one_number, same_entries}
use Rattle.audit_source.proofs.SourceLemmas.{source_parts, one_fault, no_fault_of}

refused_fault : (octets : List ℕ) (fault : SourceFault) → BeginsRefused octets fault → IsFaultOf octets fault
refused_fault octets Form r = absurd r.first.why
refused_fault octets Outside r = r
refused_fault octets Forbidden r = r
refused_fault octets Trailing r = absurd r.first.why
refused_fault octets OutOfMemory r = absurd r.first.why

pub some_left : (rest : List ℕ) (empty : Bool) → empty ≡ (length rest == 0) → empty ≡ false → rest ≢ []
some_left rest empty is test none = false≢true (sym test ∙ is ∙ ap (λ l. length l == 0) none)

pub none_left : (rest : List ℕ) (empty : Bool) → empty ≡ (length rest == 0) → empty ≡ true → rest ≡ []
none_left rest empty is test = nil_from_length rest (grind (arith, nat_tests))

-- ---- from the pieces

pub at_apex : (octets : List ℕ) (apex : List Label) (count : ℕ) (first zone : Zone) (refused : Option SourceFault) (rest : List ℕ) → first ≡ record { apex = apex; records = [] } → HasTaken octets first.apex count zone refused rest → HasTaken octets apex count zone refused rest
at_apex octets apex count first zone refused rest is taken = subst (λ z. HasTaken octets z.apex count zone refused rest) is taken

-- a source begins with a head
pub no_head : (octets : List ℕ) → ((apex : List Label) (count : ℕ) (rest : List ℕ) → HasHead octets apex count rest → ⊥) → IsFaultOf octets Form
no_head octets none = λ s rest begins.
    let tail = flat_map entry_spelling s.entries ++ (run_spelling s.input s.output ++ rest) in
    none (name_of s.apex) (length s.entries) tail (record {
      form = s.apex;
      wire = begins.valid.apex;
      few = begins.valid.few;
      spelled = begins.spelled ∙ source_parts s rest ∙ sym (append_assoc (counted 2 s.apex) (big_bytes 4 (length s.entries)) tail);
      apex_is = refl;
    })

module _ (octets : List ℕ) (apex : List Label) (count : ℕ) (after : List ℕ) (head : HasHead octets apex count after) where
  -- where octets begin with a source, so they go on
  behind_head : (s : Source) (rest : List ℕ) → BeginsWith octets s rest → (length s.entries ≡ count) × HasEntries after s.entries (run_spelling s.input s.output ++ rest)
  behind_head s rest begins =
      let tail = flat_map entry_spelling s.entries ++ (run_spelling s.input s.output ++ rest) in
      let forms = one_form head.form s.apex (big_bytes 4 count ++ after) (big_bytes 4 (length s.entries) ++ tail) head.wire begins.valid.apex
      (sym (append_assoc (counted 2 head.form) (big_bytes 4 count) after) ∙ sym head.spelled ∙ begins.spelled ∙ source_parts s rest) in
      let counts = one_number 4 count (length s.entries) after tail (omega (arith, head.few)) (omega (arith, begins.valid.few)) forms.1 in
      (sym counts.0, record { valid = begins.valid.entries; spelled = counts.1 })

  pub no_entries : ((entries : List Entry) (rest : List ℕ) → length entries ≡ count → HasEntries after entries rest → ⊥) → IsFaultOf octets Form
  no_entries none = λ s rest begins.
      let on = behind_head s rest begins in
      none s.entries (run_spelling s.input s.output ++ rest) on.0 on.1

  module _ (zone : Zone) (refused : Option SourceFault) (behind : List ℕ) (taken : HasTaken after apex count zone refused behind) where
    pub no_run : ((input output rest : List ℕ) → HasRun behind input output rest → ⊥) → IsFaultOf octets Form
    no_run none = λ s rest begins.
        let on = behind_head s rest begins in
        let same = same_entries taken.entries s.entries behind (run_spelling s.input s.output ++ rest) taken.read.valid on.1.valid (taken.number ∙ sym on.0) (sym taken.read.spelled ∙ on.1.spelled) in
        none s.input s.output rest (record { spelled = same.1; input_fits = begins.valid.input_fits; output_fits = begins.valid.output_fits })

    module _ (input output rest : List ℕ) (run : HasRun behind input output rest) where
      abbrev made : Source
      made = record { apex = head.form; entries = taken.entries; input = input; output = output }

      begins_made : BeginsWith octets made rest
      begins_made = record {
        spelled = head.spelled ∙ append_assoc (counted 2 head.form) (big_bytes 4 count) after
            ∙ (λ i. counted 2 head.form ++ (big_bytes 4 (sym taken.number i) ++ (taken.read.spelled ∙ ap (λ l. flat_map entry_spelling taken.entries ++ l) run.spelled) i))
            ∙ sym (source_parts made rest);
        valid = record {
          apex = head.wire;
          few = omega (arith, taken.number, head.few);
          entries = taken.read.valid;
          input_fits = run.input_fits;
          output_fits = run.output_fits;
        };
      }

      of_made : record { apex = apex; records = map record_of taken.entries } ≡ zone_of made
      of_made = λ i. record { apex = head.apex_is i; records = map record_of taken.entries }

      pub refused_record : (fault : SourceFault) → refused ≡ Some fault → IsFaultOf octets fault
      refused_record fault is =
          let found : AreTaken apex (map record_of taken.entries) zone (Some fault) = subst (AreTaken apex (map record_of taken.entries) zone) is taken.taken in
          refused_fault octets fault (record { source = made; rest = rest; begins = begins_made; first = subst (HasRefused fault) of_made found.1 })

      accepted : refused ≡ None → (zone ≡ zone_of made) × IsZone zone
      accepted is =
          let found : AreTaken apex (map record_of taken.entries) zone None = subst (AreTaken apex (map record_of taken.entries) zone) is taken.taken in
          (found.0 ∙ of_made, found.1)

      pub more_behind : refused ≡ None → rest ≢ [] → IsFaultOf octets Trailing
      more_behind is more =
          let own = accepted is in
          record { source = made; rest = rest; begins = begins_made; valid = subst IsZone own.0 own.1; more = more }

      pub whole_read : refused ≡ None → rest ≡ [] → (index : Zone) → IsSameZone zone index → IsSourceOf octets index input output
      whole_read is end index same =
          let own = accepted is in
          record {
            source = made;
            whole = subst (BeginsWith octets made) end begins_made;
            valid = subst IsZone own.0 own.1;
            zone_is = subst (λ z. IsSameZone z index) own.0 same;
            input_is = refl;
            output_is = refl;
          }

-- ---- the call

pub every_source : {A : Type 0} (octets : List ℕ) (result : Result A SourceFault) → IfErr result (λ fault. (fault ≡ OutOfMemory) ⊎ IsFaultOf octets fault) → (zone : Zone) (input output : List ℕ) → IsSourceOf octets zone input output → IsOk result ⊎ (result ≡ Err OutOfMemory)
every_source octets (Ok x) told zone input output is = inl (search rules)
every_source octets (Err fault) (inl want) zone input output is = inr (ap Err want)
every_source octets (Err fault) (inr found) zone input output is = absurd (no_fault_of octets zone input output fault is found)

pub every_fault : {A : Type 0} (octets : List ℕ) (result : Result A SourceFault) (zone_in : A → Zone) (input_in output_in : A → List ℕ) → IfOk result (λ read. IsSourceOf octets (zone_in read) (input_in read) (output_in read)) → IfErr result (λ fault. (fault ≡ OutOfMemory) ⊎ IsFaultOf octets fault) → (fault : SourceFault) → IsFaultOf octets fault → (result ≡ Err fault) ⊎ (result ≡ Err OutOfMemory)
every_fault octets (Ok x) zone_in input_in output_in read told fault is = absurd (no_fault_of octets (zone_in x) (input_in x) (output_in x) fault read is)
every_fault octets (Err other) zone_in input_in output_in read (inl want) fault is = inr (ap Err want)
every_fault octets (Err other) zone_in input_in output_in read (inr found) fault is = inl (ap Err (one_fault octets other fault found is))
