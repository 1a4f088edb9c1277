-- What an NSEC3 chain proves of a name and a type at a moment, step by step (RFC 5155, section 8; RFC 8198, sections 5.2 and
-- 5.3). Each step gives a proof, or none.
use Rattle.std.specs.Prelude.{ℕ, Bool, ◌&&◌, if◌then◌else◌, List, [], ◌∷◌, map, Option, None}
use Rattle.std.specs.Option.{option_or, option_and_then}
use Rattle.std.specs.Str.{bytes_eq}
use Rattle.dname.specs.Name.{Label, asterisk}
use Rattle.dname.specs.Tests.{is_under, each_once}
use Rattle.denial_records.specs.Proof.{Proof}
use Rattle.denial_records.specs.declared.nsec3_rec.Nsec3Rec.{Nsec3Rec}
use Rattle.denial_records.specs.declared.record.Record.{Record}
use Rattle.denial_records.specs.declared.record.Record.TheVariants.{Nsec3}
use Rattle.denial_records.specs.declared.verdict.Kind.TheVariants.{NoData, NxDomain}
use Rattle.cache_meaning.specs.Held.{Held, HashParameters}
use Rattle.cache_meaning.specs.Evidence.{deny_type, deny_type_below, hand_nothing_on, nsec3_for, nsec3_matches, nsec3_covers}
use Rattle.cache_meaning.specs.NsecSteps.{denial_by, answer_by_wildcard}

-- NSEC3 records of one chain, each once; two with one arc are one record
abbrev pub same_nsec3_arc : Nsec3Rec → Nsec3Rec → Bool
same_nsec3_arc nsec3 other = bytes_eq nsec3.hash other.hash && bytes_eq nsec3.next other.next

abbrev pub nsec3s_once : List Nsec3Rec → List Record
nsec3s_once nsec3s = map Nsec3 (each_once same_nsec3_arc nsec3s)

-- no data: the record matches the name and denies it the type (RFC 5155, sections 8.5 and 8.6)
abbrev pub no_data_by_match :
    Held → ℕ → List Label → HashParameters → List Label → ℕ → Nsec3Rec → Option Proof
no_data_by_match held now zone parameters name qtype matching =
    if nsec3_matches parameters matching name && deny_type matching.types zone name qtype
    then denial_by held now zone NoData (Nsec3 matching ∷ [])
    else None

-- ---- the next closer name is covered, so the name doesn't exist: an encloser and its wildcard

-- the record is the encloser's own, which hands no names on (RFC 5155, section 8.3)
abbrev pub shows_encloser : HashParameters → List Label → List Label → Nsec3Rec → Bool
shows_encloser parameters zone encloser matching =
    nsec3_matches parameters matching encloser && hand_nothing_on matching.types zone encloser

-- no data: the wildcard's own record denies it the type (RFC 5155, section 8.7)
abbrev pub no_data_by_wildcard :
    Held → ℕ → List Label → HashParameters → ℕ → List Label → Nsec3Rec → Nsec3Rec → Nsec3Rec
    → Option Proof
no_data_by_wildcard held now zone parameters qtype source matching covering at_source =
    if nsec3_matches parameters at_source source && deny_type_below at_source.types qtype
    then denial_by held now zone NoData (nsec3s_once (matching ∷ covering ∷ at_source ∷ []))
    else None

-- a name error: the wildcard doesn't exist (RFC 5155, section 8.4)
abbrev pub name_error :
    Held → ℕ → List Label → HashParameters → List Label → Nsec3Rec → Nsec3Rec → Nsec3Rec
    → Option Proof
name_error held now zone parameters source matching covering at_source =
    if nsec3_covers parameters at_source source
    then denial_by held now zone NxDomain (nsec3s_once (matching ∷ covering ∷ at_source ∷ []))
    else None

-- by the record that speaks of the wildcard
abbrev pub denial_at_source :
    Held → ℕ → List Label → HashParameters → ℕ → List Label → Nsec3Rec → Nsec3Rec → Option Proof
denial_at_source held now zone parameters qtype source matching covering = option_and_then
    (λ at_source. option_or
    (no_data_by_wildcard held now zone parameters qtype source matching covering at_source)
    (name_error held now zone parameters source matching covering at_source))
    (nsec3_for held now zone parameters source)

-- by the encloser's own record, and its wildcard's
abbrev pub denial_below :
    Held → ℕ → List Label → HashParameters → ℕ → List Label → Nsec3Rec → Option Proof
denial_below held now zone parameters qtype encloser covering = option_and_then
    (λ matching. if shows_encloser parameters zone encloser matching
    then denial_at_source held now zone parameters qtype (asterisk ∷ encloser) matching covering
    else None)
    (nsec3_for held now zone parameters encloser)

-- the record covers the next closer name: the encloser's wildcard answers (RFC 5155, section 8.8), or is denied
-- hashes keep no order of names: that the name itself is covered says nothing of the next closer name
abbrev pub by_cover :
    Held → ℕ → List Label → HashParameters → ℕ → List Label → List Label → Nsec3Rec → Option Proof
by_cover held now zone parameters qtype next_closer encloser covering =
    if nsec3_covers parameters covering next_closer
    then option_or
    (answer_by_wildcard held now zone qtype (asterisk ∷ encloser) (Nsec3 covering ∷ []))
    (denial_below held now zone parameters qtype encloser covering)
    else None

-- the ancestors of the name down to the apex, the longest first: each as the encloser of the name that is a label longer
abbrev pub by_enclosers : Held → ℕ → List Label → HashParameters → ℕ → List Label → Option Proof
by_enclosers held now zone parameters qtype [] = None
by_enclosers held now zone parameters qtype (label ∷ encloser) =
    if is_under encloser zone
    then option_or
    (option_and_then (by_cover held now zone parameters qtype (label ∷ encloser) encloser)
    (nsec3_for held now zone parameters (label ∷ encloser)))
    (by_enclosers held now zone parameters qtype encloser)
    else None

-- ---- the chain

abbrev pub nsec3_proof : Held → ℕ → List Label → HashParameters → List Label → ℕ → Option Proof
nsec3_proof held now zone parameters name qtype = option_or
    (option_and_then (no_data_by_match held now zone parameters name qtype)
    (nsec3_for held now zone parameters name))
    (by_enclosers held now zone parameters qtype name)
