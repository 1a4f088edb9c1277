-- Records that are read in turn and put into a zone, up to the first that it refuses.
use Rattle.std.proofs.Common.{◌≡◌, ℕ, ◌+◌, ◌<◌, ◌≤◌, List, [], ◌∷◌, ◌++◌, length, map, Option, Some, None, refl, sym, ◌∙◌, ap, subst, arith, append_assoc}
use Rattle.std.specs.List.{All, flat_map}
use Rattle.std.proofs.lemmas.List.{flat_map_more, map_push, length_push}
use Rattle.std.proofs.lemmas.List.Elements.{All-nil, All-push}
use Rattle.dname.specs.Name.{Label, IsUnder}
use Rattle.zone_meaning.specs.Zone.{Zone, ZoneRecord, IsZone, IsProofType}
use Rattle.audit_source.specs.Source.{Entry, IsEntry, IsRefusedFor, HasRefused, entry_spelling, record_of}
use Rattle.audit_source.specs.Pieces.{HasEntry, HasEntries, AreTaken, HasTaken}
use Rattle.audit_source.specs.declared.source_fault.SourceFault.{SourceFault}
use Rattle.audit_source.proofs.SpellingLemmas.{front_entries}

pub one_taken : (octets : List ℕ) (apex : List Label) (count : ℕ) (old new : Zone) (refused refused' : Option SourceFault) (rest after : List ℕ) (r : ZoneRecord) → HasTaken octets apex count old refused rest → HasEntry rest r after → ((records : List ZoneRecord) → AreTaken apex records old refused → AreTaken apex (records ++ r ∷ []) new refused') → HasTaken octets apex (count + 1) new refused' after
one_taken octets apex count old new refused refused' rest after r has one step = record {
  entries = has.entries ++ one.entry ∷ [];
  number = length_push has.entries one.entry ∙ ap (λ n. n + 1) has.number;
  read = record {
    valid = All-push IsEntry has.entries one.entry has.read.valid one.valid;
    spelled = has.read.spelled ∙ ap (λ l. flat_map entry_spelling has.entries ++ l) one.spelled
        ∙ sym (append_assoc (flat_map entry_spelling has.entries) (entry_spelling one.entry) after)
        ∙ ap (λ l. l ++ after) (flat_map_more entry_spelling [] has.entries one.entry);
  };
  taken = subst (λ l. AreTaken apex l new refused') (ap (λ x. map record_of has.entries ++ x ∷ []) one.record_is ∙ sym (map_push record_of has.entries one.entry)) (step (map record_of has.entries) has.taken);
}

-- where no further record stands, there aren't so many
pub taking_stops : (octets : List ℕ) (apex : List Label) (count : ℕ) (zone : Zone) (refused : Option SourceFault) (rest : List ℕ) → HasTaken octets apex count zone refused rest → ((r : ZoneRecord) (after : List ℕ) → HasEntry rest r after → ⊥) → (all : ℕ) → count < all → (entries : List Entry) (after : List ℕ) → length entries ≡ all → HasEntries octets entries after → ⊥
taking_stops octets apex count zone refused rest has none all fewer entries after number others =
    let next = front_entries has.entries entries rest after has.read.valid others.valid (omega (arith, has.number, number, fewer)) (sym has.read.spelled ∙ others.spelled) in
    none (record_of next.0) (flat_map entry_spelling next.1 ++ after) (record { entry = next.0; valid = next.2; spelled = next.3; record_is = refl })
