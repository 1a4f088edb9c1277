-- What an NSEC chain proves of a name and a type at a moment, step by step (RFC 4035, section 5.4; RFC 8198, sections 5.1 and
-- 5.3). Each step gives a proof, or none.
use Rattle.std.specs.Prelude.{ℕ, Bool, ◌&&◌, ◌||◌, ◌==◌, if◌then◌else◌, List, [], ◌∷◌, map, Option, Some, None}
use Rattle.std.specs.Option.{option_or, option_map, option_and_then}
use Rattle.dname.specs.Name.{Label, asterisk}
use Rattle.dname.specs.Tests.{same_name, each_once}
use Rattle.dname.specs.declared.types.TheConstants.{DS_TYPE}
use Rattle.encloser.specs.Encloser.{encloser_of}
use Rattle.denial_records.specs.Proof.{Proof}
use Rattle.denial_records.specs.declared.set_rec.SetRec.{SetRec}
use Rattle.denial_records.specs.declared.nsec_rec.NsecRec.{NsecRec}
use Rattle.denial_records.specs.declared.record.Record.{Record}
use Rattle.denial_records.specs.declared.record.Record.TheVariants.{Nsec}
use Rattle.denial_records.specs.declared.verdict.Kind.{Kind}
use Rattle.denial_records.specs.declared.verdict.Kind.TheVariants.{Answer, NoData, NxDomain}
use Rattle.cache_meaning.specs.Held.{Held}
use Rattle.cache_meaning.specs.Evidence.{usable_set, usable_soa, deny_type, deny_type_below, nsec_for, nsec_matches, nsec_shows_empty, nsec_covers}

-- ---- proofs

-- an answer by a set, and the records that show that it is the name's
abbrev pub answer_by : SetRec → List Record → Proof
answer_by set denials = record { kind = Answer; answer = Some set; soa = None; denials = denials }

-- a denial, with the zone's SOA, where that is held (RFC 2308, section 3)
abbrev pub denial_by : Held → ℕ → List Label → Kind → List Record → Option Proof
denial_by held now zone kind denials =
    option_map (λ soa. record { kind = kind; answer = None; soa = Some soa; denials = denials })
    (usable_soa held now zone)

-- NSEC records of one chain, each once; two with one arc are one record. By the owner alone, the one that is left out
-- could be that which the proof rests on.
abbrev pub same_nsec_arc : NsecRec → NsecRec → Bool
same_nsec_arc nsec other = same_name nsec.owner other.owner && same_name nsec.next other.next

abbrev pub nsecs_once : List NsecRec → List Record
nsecs_once nsecs = map Nsec (each_once same_nsec_arc nsecs)

-- ---- the name's own record, and one that shows it empty

-- no data: the record matches the name and denies it the type
abbrev pub no_data_by_match : Held → ℕ → List Label → List Label → ℕ → NsecRec → Option Proof
no_data_by_match held now zone name qtype matching =
    if nsec_matches matching name && deny_type matching.types zone name qtype
    then denial_by held now zone NoData (Nsec matching ∷ [])
    else None

-- no data: the record shows that the name exists without records
abbrev pub no_data_by_empty : Held → ℕ → List Label → List Label → NsecRec → Option Proof
no_data_by_empty held now zone name covering =
    if nsec_shows_empty covering name
    then denial_by held now zone NoData (Nsec covering ∷ [])
    else None

-- ---- the name doesn't exist: its source of synthesis (RFC 4592, section 3.3.1)

-- the wildcard below the closest encloser
abbrev pub source_of : NsecRec → List Label → List Label
source_of covering name = asterisk ∷ encloser_of name covering.owner covering.next

-- an answer: the wildcard has the set; a DS is never made from a wildcard (RFC 4592, section 4.6)
abbrev pub answer_by_wildcard : Held → ℕ → List Label → ℕ → List Label → List Record → Option Proof
answer_by_wildcard held now zone qtype source denials =
    if qtype == DS_TYPE
    then None
    else option_map (λ set. answer_by set denials) (usable_set held now zone source qtype)

-- no data: the wildcard's own record denies it the type, or the wildcard exists without records
abbrev pub no_data_by_wildcard :
    Held → ℕ → List Label → ℕ → List Label → NsecRec → NsecRec → Option Proof
no_data_by_wildcard held now zone qtype source covering at_source =
    if (nsec_matches at_source source && deny_type_below at_source.types qtype)
    || nsec_shows_empty at_source source
    then denial_by held now zone NoData (nsecs_once (covering ∷ at_source ∷ []))
    else None

-- a name error: the wildcard doesn't exist
abbrev pub name_error : Held → ℕ → List Label → List Label → NsecRec → NsecRec → Option Proof
name_error held now zone source covering at_source =
    if nsec_covers at_source source
    then denial_by held now zone NxDomain (nsecs_once (covering ∷ at_source ∷ []))
    else None

-- by the record that speaks of the wildcard
abbrev pub denial_at_source : Held → ℕ → List Label → ℕ → List Label → NsecRec → Option Proof
denial_at_source held now zone qtype source covering = option_and_then
    (λ at_source. option_or
    (no_data_by_wildcard held now zone qtype source covering at_source)
    (name_error held now zone source covering at_source))
    (nsec_for held now zone source)

-- the record covers the name: the wildcard answers, or is denied
abbrev pub by_cover : Held → ℕ → List Label → List Label → ℕ → NsecRec → Option Proof
by_cover held now zone name qtype covering =
    if nsec_covers covering name
    then option_or
    (answer_by_wildcard held now zone qtype (source_of covering name) (Nsec covering ∷ []))
    (denial_at_source held now zone qtype (source_of covering name) covering)
    else None

-- ---- the chain

-- by the record that speaks of the name
abbrev pub nsec_steps : Held → ℕ → List Label → List Label → ℕ → NsecRec → Option Proof
nsec_steps held now zone name qtype nsec = option_or
    (no_data_by_match held now zone name qtype nsec)
    (option_or (no_data_by_empty held now zone name nsec) (by_cover held now zone name qtype nsec))

abbrev pub nsec_proof : Held → ℕ → List Label → List Label → ℕ → Option Proof
nsec_proof held now zone name qtype =
    option_and_then (nsec_steps held now zone name qtype) (nsec_for held now zone name)
