-- What a walk says, when each zone says so too: link by link, from the question's name to the last.
use Rattle.std.specs.Prelude.{◌≡◌, ◌≢◌, ℕ, ◌<◌, ◌≤◌, List, [], ◌∷◌, ◌++◌, length, Option, Some, None, MatchOption}
use Rattle.dname.specs.Name.{Label, wire_of}
use Rattle.dname.specs.Read.{Spells}
use Rattle.dname.specs.declared.types.TheConstants.{CNAME_TYPE}
use Rattle.denial_records.specs.Proof.{Proof}
use Rattle.denial_records.specs.declared.set_rec.SetRec.{SetRec}
use Rattle.denial_records.specs.declared.record.Record.TheVariants.{Set}
use Rattle.zone_meaning.specs.Zone.{Zone, IsZone, HasType}
use Rattle.zone_meaning.specs.Lookup.{LooksUp, Answer, Alias, Redirect}
use Rattle.soundness.specs.True.{IsTrueOf}
use Rattle.soundness.specs.Sound.{HasUsed, IsSound}
use Rattle.resolver.specs.Walk.{Way, ByAlias, ByDname, Link, End, Proved, Made, TooLong, Walk}

-- ---- aliases

-- the owner name of a CNAME has no other type (RFC 1034, section 3.6.2; RFC 2181, section 10.1)
abbrev pub AliasesStandAlone : Zone → Type 0
AliasesStandAlone zone =
    (owner : List Label) (rtype : ℕ) → HasType zone owner CNAME_TYPE → HasType zone owner rtype → rtype ≡ CNAME_TYPE

-- Every zone of which the proof's records are true looks the name's CNAME up to one record, whose data is the target; and
-- the question's type to that alias, where its aliases stand alone.
pub record IsSoundAlias (qtype : ℕ) (name : List Label) (proof : Proof) (target : List Label) : Type 0 where
  pub octets : List ℕ
  pub reads : Spells octets target (length octets)
  pub answers : (zone : Zone) → HasUsed zone proof → LooksUp zone name CNAME_TYPE (Answer (octets ∷ []))
  pub leads : (zone : Zone) → HasUsed zone proof → AliasesStandAlone zone → LooksUp zone name qtype (Alias octets)

-- ---- redirections

-- the name is below the set's owner, and the target is the name with the owner replaced by the name that the set's data is; there
-- is none just where that is longer than 255 octets (RFC 6672, section 2.2)
pub record IsTargetOf (name : List Label) (set : SetRec) (target : Option (List Label)) : Type 0 where
  pub front : List Label
  pub octets : List ℕ
  pub suffix : List Label
  pub under : name ≡ front ++ set.owner
  pub apart : name ≢ set.owner
  pub item : set.items ≡ octets ∷ []
  pub reads : Spells octets suffix (length octets)
  pub replaced : MatchOption target
      (255 < length (wire_of (front ++ suffix)))
      (λ made. (made ≡ front ++ suffix) × (length (wire_of made) ≤ 255))

-- every zone of which the DNAME set is true redirects the name and type at the set's owner, to the target
pub record IsSoundRedirection (qtype : ℕ) (name : List Label) (set : SetRec) (target : Option (List Label)) : Type 0 where
  pub redirects :
      (zone : Zone) → IsZone zone → IsTrueOf zone (Set set) → LooksUp zone name qtype (Redirect set.owner)
  pub becomes : IsTargetOf name set target

-- ---- the whole

-- from the name a link leads to the next
abbrev pub IsSoundWay : ℕ → List Label → Way → List Label → Type 0
IsSoundWay qtype name (ByAlias proof) next = IsSoundAlias qtype name proof next
IsSoundWay qtype name (ByDname set target) next = IsSoundRedirection qtype name set (Some target) × (target ≡ next)

-- what is proved of the last name is sound, or it is redirected: to the CNAME that is asked for, or to no name, being too long
abbrev pub IsSoundEnd : ℕ → List Label → End → Type 0
IsSoundEnd qtype name (Proved proof) = IsSound name qtype proof
IsSoundEnd qtype name (Made set target) = (qtype ≡ CNAME_TYPE) × IsSoundRedirection qtype name set (Some target)
IsSoundEnd qtype name (TooLong set) = IsSoundRedirection qtype name set None

-- each link begins where the one before leads to
abbrev pub IsSoundFrom : ℕ → List Label → List Link → List Label → End → Type 0
IsSoundFrom qtype name [] last_name end = (name ≡ last_name) × IsSoundEnd qtype last_name end
IsSoundFrom qtype name (link ∷ links) last_name end =
    (link.owner ≡ name)
    × ((next : List Label) × IsSoundWay qtype name link.way next × IsSoundFrom qtype next links last_name end)

abbrev pub IsSoundWalk : ℕ → List Label → Walk → Type 0
IsSoundWalk qtype name walk = IsSoundFrom qtype name walk.links walk.last_name walk.end
