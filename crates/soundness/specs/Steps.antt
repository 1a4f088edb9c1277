-- When held records speak of a question: what each step of a proof goes on from.
use Rattle.std.specs.Prelude.{◌≡◌, ◌≢◌, ℕ, List, ◌∷◌, Some, IsTrue}
use Rattle.dname.specs.Name.{Label, IsUnder}
use Rattle.dname.specs.declared.types.TheConstants.{DS_TYPE}
use Rattle.denial_records.specs.declared.nsec_rec.NsecRec.{NsecRec}
use Rattle.denial_records.specs.declared.nsec3_rec.Nsec3Rec.{Nsec3Rec}
use Rattle.zone_meaning.specs.Zone.{IsProofType}
use Rattle.cache_meaning.specs.Held.{Held, HashParameters}
use Rattle.cache_meaning.specs.Evidence.{nsec_for, nsec_covers, nsec3_for, nsec3_covers}
use Rattle.cache_meaning.specs.Nsec3Steps.{shows_encloser}

-- the zone with this apex is the one for the question, and the type isn't one that proves others
pub record IsAsked (apex name : List Label) (qtype : ℕ) : Type 0 where
  pub above : IsUnder name apex
  pub of_ds : qtype ≡ DS_TYPE → name ≢ apex
  pub ordinary : IsProofType qtype → ⊥

-- the NSEC record that speaks of the name shows that it doesn't exist
pub record IsCover (held : Held) (now : ℕ) (apex name : List Label) (covering : NsecRec)
    : Type 0 where
  pub speaks : nsec_for held now apex name ≡ Some covering
  pub covers : IsTrue (nsec_covers covering name)

-- the NSEC3 record that speaks of the next closer name shows that it doesn't exist: the name, or one above it, and one
-- label longer than an encloser in the zone
pub record IsNextCloserCover (held : Held) (now : ℕ) (apex : List Label) (parameters : HashParameters)
    (name : List Label) (label : Label) (encloser : List Label) (covering : Nsec3Rec) : Type 0 where
  pub above : IsUnder name (label ∷ encloser)
  pub within : IsUnder encloser apex
  pub speaks : nsec3_for held now apex parameters (label ∷ encloser) ≡ Some covering
  pub covers : IsTrue (nsec3_covers parameters covering (label ∷ encloser))

-- the encloser's own NSEC3 record shows that it exists and hands no names on
pub record IsEncloserMatch (held : Held) (now : ℕ) (apex : List Label) (parameters : HashParameters)
    (encloser : List Label) (matching : Nsec3Rec) : Type 0 where
  pub speaks : nsec3_for held now apex parameters encloser ≡ Some matching
  pub shows : IsTrue (shows_encloser parameters apex encloser matching)
