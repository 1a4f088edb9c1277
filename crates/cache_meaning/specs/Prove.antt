-- What held records prove of a name and a type at a moment, and what becomes of a query (RFC 8198, section 5).
use Rattle.std.specs.Prelude.{ℕ, Bool, not, ◌&&◌, ◌||◌, ◌==◌, nat_lt, if◌then◌else◌, List, [], ◌∷◌, Option, None}
use Rattle.std.specs.List.{list_any}
use Rattle.std.specs.Option.{option_or, option_map, option_and_then}
use Rattle.dname.specs.Name.{Label}
use Rattle.dname.specs.declared.types.TheConstants.{IN_CLASS, OPT_TYPE, RRSIG_TYPE, NSEC_TYPE, NSEC3_TYPE}
use Rattle.denial_records.specs.Proof.{Proof}
use Rattle.cache_meaning.specs.Held.{Held, Chain, NsecChain, Nsec3Chain}
use Rattle.cache_meaning.specs.Zones.{zone_for, chains_of, first_of}
use Rattle.cache_meaning.specs.Evidence.{usable_set}
use Rattle.cache_meaning.specs.NsecSteps.{answer_by, nsec_proof}
use Rattle.cache_meaning.specs.Nsec3Steps.{nsec3_proof}

-- the set at the name and type is the answer
abbrev pub exact_proof : Held → ℕ → List Label → List Label → ℕ → Option Proof
exact_proof held now zone name qtype =
    option_map (λ set. answer_by set []) (usable_set held now zone name qtype)

-- by one chain's records alone
abbrev pub chain_proof : Held → ℕ → List Label → List Label → ℕ → Chain → Option Proof
chain_proof held now zone name qtype NsecChain = nsec_proof held now zone name qtype
chain_proof held now zone name qtype (Nsec3Chain parameters) =
    nsec3_proof held now zone parameters name qtype

-- the set, or else what the first of the zone's chains proves that proves something, the newest first
abbrev pub zone_proof : Held → ℕ → List Label → List Label → ℕ → Option Proof
zone_proof held now zone name qtype =
    option_or (exact_proof held now zone name qtype)
    (first_of (chain_proof held now zone name qtype) (chains_of held zone))

-- in the zone for the question
abbrev pub proof_of : Held → ℕ → List Label → ℕ → Option Proof
proof_of held now name qtype =
    option_and_then (λ zone. zone_proof held now zone name qtype) (zone_for held name qtype)

-- the types that are forwarded: 0, OPT, RRSIG, NSEC, NSEC3, and those of 128 to 255, which ask of a server and not of a
-- zone, ANY among them (RFC 6895, section 3.1)
abbrev pub is_forwarded : ℕ → Bool
is_forwarded qtype =
    list_any (λ each. each == qtype) (0 ∷ OPT_TYPE ∷ RRSIG_TYPE ∷ NSEC_TYPE ∷ NSEC3_TYPE ∷ [])
    || (not (nat_lt qtype 128) && nat_lt qtype 256)

-- the proof for a query, where it is of class IN and its type isn't one that is always forwarded
abbrev pub outcome_of : Held → ℕ → List Label → ℕ → ℕ → Option Proof
outcome_of held now name qtype qclass =
    if (qclass == IN_CLASS) && not (is_forwarded qtype) then proof_of held now name qtype else None
