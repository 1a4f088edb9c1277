-- Octets are one source at most, or have one fault.
use Rattle.std.proofs.Common.{◌≡◌, ◌≢◌, ℕ, ◌^◌, ◌<◌, ◌≤◌, List, [], ◌∷◌, ◌++◌, length, map, refl, sym, ◌∙◌, ap, subst, arith, append_assoc}
use Rattle.std.specs.List.{All, Contains, flat_map}
use Rattle.std.proofs.lemmas.List.Elements.{All-head, All-tail, All-contains}
use Rattle.facts.proofs.Lists.{here, there, all_by_member, same_head, same_tail}
use Rattle.byteorder.specs.Endian.{big_bytes}
use Rattle.dname.specs.Name.{Label, IsUnder}
use Rattle.zone_meaning.specs.Zone.{Zone, ZoneRecord, IsZone, IsSameZone, IsProofType}
use Rattle.audit_source.specs.Source.{Entry, IsEntry, Source, IsSource, BeginsWith, IsSourceOf, IsRefusedFor, HasRefused, BeginsRefused, GoesOn, IsFaultOf, counted, entry_spelling, run_spelling, source_spelling, zone_of}
use Rattle.audit_source.specs.Laws.{IsOneReading, HasOneReading}
use Rattle.audit_source.specs.declared.reading.TheConstants.{MOST_RECORDS}
use Rattle.audit_source.specs.declared.source_fault.SourceFault.{SourceFault}
use Rattle.audit_source.specs.declared.source_fault.SourceFault.TheVariants.{Form, Outside, Forbidden, Trailing, OutOfMemory}
use Rattle.audit_source.proofs.SpellingLemmas.{one_number, one_form, same_entries, one_run}

regrouped : (a b c d rest : List ℕ) → ((a ++ (b ++ c)) ++ d) ++ rest ≡ a ++ (b ++ (c ++ (d ++ rest)))
regrouped a b c d rest = simp append_assoc

-- a source, piece by piece
pub source_parts : (s : Source) (rest : List ℕ) → source_spelling s ++ rest ≡ counted 2 s.apex ++ (big_bytes 4 (length s.entries) ++ (flat_map entry_spelling s.entries ++ (run_spelling s.input s.output ++ rest)))
source_parts s rest = regrouped (counted 2 s.apex) (big_bytes 4 (length s.entries)) (flat_map entry_spelling s.entries) (run_spelling s.input s.output) rest

few_fit : (n : ℕ) → n ≤ MOST_RECORDS → n < 256 ^ 4
few_fit n few = omega arith

pub one_source : (s t : Source) (rest rest' : List ℕ) → IsSource s → IsSource t → source_spelling s ++ rest ≡ source_spelling t ++ rest' → (s ≡ t) × (rest ≡ rest')
one_source s t rest rest' valid valid' same =
    let tail = λ (u : Source) (r : List ℕ). flat_map entry_spelling u.entries ++ (run_spelling u.input u.output ++ r) in
    let apexes = one_form s.apex t.apex (big_bytes 4 (length s.entries) ++ tail s rest) (big_bytes 4 (length t.entries) ++ tail t rest') valid.apex valid'.apex (sym (source_parts s rest) ∙ same ∙ source_parts t rest') in
    let counts = one_number 4 (length s.entries) (length t.entries) (tail s rest) (tail t rest') (few_fit (length s.entries) valid.few) (few_fit (length t.entries) valid'.few) apexes.1 in
    let entries = same_entries s.entries t.entries (run_spelling s.input s.output ++ rest) (run_spelling t.input t.output ++ rest') valid.entries valid'.entries counts.0 counts.1 in
    let runs = one_run s.input s.output t.input t.output rest rest' valid.input_fits valid.output_fits valid'.input_fits valid'.output_fits entries.1 in
    (λ i. record { apex = apexes.0 i; entries = entries.0 i; input = runs.0 i; output = runs.1 i }, runs.2)

pub one_beginning : (octets : List ℕ) (s t : Source) (rest rest' : List ℕ) → BeginsWith octets s rest → BeginsWith octets t rest' → (s ≡ t) × (rest ≡ rest')
one_beginning octets s t rest rest' begins begins' = one_source s t rest rest' begins.valid begins'.valid (sym begins.spelled ∙ begins'.spelled)

-- ---- records that are refused

-- the record is one of a zone with this apex
IsOwn : List Label → ZoneRecord → Type 0
IsOwn apex r = IsUnder r.owner apex × (IsProofType r.rtype → ⊥)

all_own : (apex : List Label) (records : List ZoneRecord) → IsZone (record { apex = apex; records = records }) → All (IsOwn apex) records
unfolding IsOwn
all_own apex records valid =
    all_by_member (IsOwn apex) records (λ r there. (All-contains (λ r. IsUnder r.owner apex) records r valid.owners there, All-contains (λ r. IsProofType r.rtype → ⊥) records r valid.types there))

not_own : (fault : SourceFault) (apex : List Label) (r : ZoneRecord) → IsRefusedFor fault apex r → IsOwn apex r → ⊥
unfolding IsOwn
not_own Form apex r why own = why
not_own Outside apex r why own = why own.0
not_own Forbidden apex r why own = own.1 why.1
not_own Trailing apex r why own = why
not_own OutOfMemory apex r why own = why

one_kind : (fault other : SourceFault) (apex : List Label) (r : ZoneRecord) → IsRefusedFor fault apex r → IsRefusedFor other apex r → fault ≡ other
one_kind Outside Outside apex r why why' = refl
one_kind Outside Forbidden apex r why why' = absurd (why why'.0)
one_kind Outside Form apex r why why' = absurd why'
one_kind Outside Trailing apex r why why' = absurd why'
one_kind Outside OutOfMemory apex r why why' = absurd why'
one_kind Forbidden Outside apex r why why' = absurd (why' why.0)
one_kind Forbidden Forbidden apex r why why' = refl
one_kind Forbidden Form apex r why why' = absurd why'
one_kind Forbidden Trailing apex r why why' = absurd why'
one_kind Forbidden OutOfMemory apex r why why' = absurd why'
one_kind Form other apex r why why' = absurd why
one_kind Trailing other apex r why why' = absurd why
one_kind OutOfMemory other apex r why why' = absurd why

-- of one list the first that hasn't a property is one
first_same : {X : Type 0} (P : X → Type 0) (before before' after after' : List X) (x x' : X) → All P before → All P before' → (P x → ⊥) → (P x' → ⊥) → before ++ x ∷ after ≡ before' ++ x' ∷ after' → x ≡ x'
first_same P [] [] after after' x x' all all' fails fails' same = same_head x x' after after' same
first_same P [] (y ∷ before') after after' x x' all all' fails fails' same =
    absurd (fails (subst P (sym (same_head x y after (before' ++ x' ∷ after') same)) (All-head P y before' all')))
first_same P (y ∷ before) [] after after' x x' all all' fails fails' same =
    absurd (fails' (subst P (same_head y x' (before ++ x ∷ after) after' same) (All-head P y before all)))
first_same P (y ∷ before) (y' ∷ before') after after' x x' all all' fails fails' same =
    first_same P before before' after after' x x' (All-tail P y before all) (All-tail P y' before' all') fails fails'
    (same_tail y y' (before ++ x ∷ after) (before' ++ x' ∷ after') same)

one_refusal : (fault other : SourceFault) (zone : Zone) → HasRefused fault zone → HasRefused other zone → fault ≡ other
one_refusal fault other zone first first' =
    let own = IsOwn zone.apex in
    let same : first.refused ≡ first'.refused = first_same own first.before first'.before first.after first'.after first.refused first'.refused
    (all_own zone.apex first.before first.accepted) (all_own zone.apex first'.before first'.accepted)
    (not_own fault zone.apex first.refused first.why) (not_own other zone.apex first'.refused first'.why) (sym first.split ∙ first'.split) in
    one_kind fault other zone.apex first.refused first.why (subst (IsRefusedFor other zone.apex) (sym same) first'.why)

refused_there : (before : List ZoneRecord) (r : ZoneRecord) (after : List ZoneRecord) → Contains (before ++ r ∷ after) r
refused_there [] r after = here r after
refused_there (s ∷ before) r after = there s (before ++ r ∷ after) r (refused_there before r after)

not_accepted : (fault : SourceFault) (zone : Zone) → HasRefused fault zone → IsZone zone → ⊥
not_accepted fault zone first valid =
    not_own fault zone.apex first.refused first.why
    (All-contains (IsOwn zone.apex) zone.records first.refused (all_own zone.apex zone.records valid)
    (subst (λ l. Contains l first.refused) (sym first.split) (refused_there first.before first.refused first.after)))

-- ---- one reading

same_refusal : (octets : List ℕ) (fault other : SourceFault) → BeginsRefused octets fault → BeginsRefused octets other → fault ≡ other
same_refusal octets fault other r r' =
    let same = one_beginning octets r.source r'.source r.rest r'.rest r.begins r'.begins in
    one_refusal fault other (zone_of r.source) r.first (subst (λ s. HasRefused other (zone_of s)) (sym same.0) r'.first)

refused_whole : (octets : List ℕ) (fault : SourceFault) (s : Source) (rest : List ℕ) → BeginsRefused octets fault → BeginsWith octets s rest → IsZone (zone_of s) → ⊥
refused_whole octets fault s rest r begins valid =
    let same = one_beginning octets r.source s r.rest rest r.begins begins in
    not_accepted fault (zone_of r.source) r.first (subst (λ t. IsZone (zone_of t)) (sym same.0) valid)

pub one_fault : (octets : List ℕ) (fault other : SourceFault) → IsFaultOf octets fault → IsFaultOf octets other → fault ≡ other
one_fault octets Form Form none none' = refl
one_fault octets Form Outside none r = absurd (none r.source r.rest r.begins)
one_fault octets Form Forbidden none r = absurd (none r.source r.rest r.begins)
one_fault octets Form Trailing none on = absurd (none on.source on.rest on.begins)
one_fault octets Form OutOfMemory none never = absurd never
one_fault octets Outside Form r none = absurd (none r.source r.rest r.begins)
one_fault octets Outside Outside r r' = refl
one_fault octets Outside Forbidden r r' = same_refusal octets Outside Forbidden r r'
one_fault octets Outside Trailing r on = absurd (refused_whole octets Outside on.source on.rest r on.begins on.valid)
one_fault octets Outside OutOfMemory r never = absurd never
one_fault octets Forbidden Form r none = absurd (none r.source r.rest r.begins)
one_fault octets Forbidden Outside r r' = same_refusal octets Forbidden Outside r r'
one_fault octets Forbidden Forbidden r r' = refl
one_fault octets Forbidden Trailing r on = absurd (refused_whole octets Forbidden on.source on.rest r on.begins on.valid)
one_fault octets Forbidden OutOfMemory r never = absurd never
one_fault octets Trailing Form on none = absurd (none on.source on.rest on.begins)
one_fault octets Trailing Outside on r = absurd (refused_whole octets Outside on.source on.rest r on.begins on.valid)
one_fault octets Trailing Forbidden on r = absurd (refused_whole octets Forbidden on.source on.rest r on.begins on.valid)
one_fault octets Trailing Trailing on on' = refl
one_fault octets Trailing OutOfMemory on never = absurd never
one_fault octets OutOfMemory other never is = absurd never

pub no_fault_of : (octets : List ℕ) (zone : Zone) (input output : List ℕ) (fault : SourceFault) → IsSourceOf octets zone input output → IsFaultOf octets fault → ⊥
no_fault_of octets zone input output Form is none = none is.source [] is.whole
no_fault_of octets zone input output Outside is r = refused_whole octets Outside is.source [] r is.whole is.valid
no_fault_of octets zone input output Forbidden is r = refused_whole octets Forbidden is.source [] r is.whole is.valid
no_fault_of octets zone input output Trailing is on = on.more (one_beginning octets on.source is.source on.rest [] on.begins is.whole).1
no_fault_of octets zone input output OutOfMemory is never = never

same_as_third : (zone other third : Zone) → IsSameZone third zone → IsSameZone third other → IsSameZone zone other
same_as_third zone other third first second = record {
  apex_same = sym first.apex_same ∙ second.apex_same;
  records_same = λ r. (λ is. (second.records_same r).0 ((first.records_same r).1 is), λ is. (first.records_same r).0 ((second.records_same r).1 is));
}

pub one_zone_and_run : (octets : List ℕ) (zone other : Zone) (input input' output output' : List ℕ) → IsSourceOf octets zone input output → IsSourceOf octets other input' output' → IsOneReading zone other input input' output output'
one_zone_and_run octets zone other input input' output output' is is' =
    let same = (one_beginning octets is.source is'.source [] [] is.whole is'.whole).0 in
    record {
      zones = same_as_third zone other (zone_of is.source) is.zone_is (subst (λ s. IsSameZone (zone_of s) other) (sym same) is'.zone_is);
      inputs = is.input_is ∙ ap (λ s. s.input) same ∙ sym is'.input_is;
      outputs = is.output_is ∙ ap (λ s. s.output) same ∙ sym is'.output_is;
    }
