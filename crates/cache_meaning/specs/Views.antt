-- No public clause cites this module. What the plain store's values and a proof's parts are, in the words of the definitions.
use Rattle.std.specs.Prelude.{List, [], ◌∷◌, map, Some, None}
use Rattle.std.specs.Arc.{arc_value}
use Rattle.std.specs.declared.sync.Arc.{Arc}
use Rattle.std.specs.declared.alloc.Global.{Global}
use Rattle.denial_records.specs.declared.record.Record.{Record}
use Rattle.denial_records.specs.Proof.{Proof, denied_by}
use Rattle.denial_records.specs.declared.set_rec.SetRec.{SetRec}
use Rattle.denial_records.specs.declared.verdict.Kind.{Kind}
use Rattle.denial_records.specs.declared.verdict.Kind.TheVariants as kinds
use Rattle.cache_meaning.specs.Held.{Held, ZoneChain, Chain, NsecChain, Nsec3Chain}
use Rattle.cache_meaning.specs.NsecSteps.{answer_by}
use Rattle.cache_meaning.specs.declared.claim.Claim.{Claim}
use Rattle.cache_meaning.specs.declared.claim.Claim.TheVariants.{Answer, NoData, NxDomain}
use Rattle.cache_meaning.specs.declared.denials.Lent.{Lent}
use Rattle.cache_meaning.specs.declared.denials.Lent.TheVariants.{Zero, One, Two, Three}
use Rattle.cache_meaning.specs.declared.held_chain.ChainKind.{ChainKind}
use Rattle.cache_meaning.specs.declared.held_chain.ChainKind.TheVariants.{Nsec, Nsec3}

-- the chain of a zone's denial records
abbrev pub chain_of_kind : ChainKind → Chain
chain_of_kind Nsec = NsecChain
chain_of_kind (Nsec3 salt iterations) = Nsec3Chain (record { salt = salt; iterations = iterations })

-- the records that are shared
abbrev pub shared_records : List (Arc Record Global) → List Record
shared_records shared = map arc_value shared

abbrev pub held_by : List Record → List ZoneChain → Held
held_by records chains = record { records = records; chains = chains }

-- the denial records that are lent
abbrev pub denials_of : Lent → List Record
denials_of Zero = []
denials_of (One first) = denied_by first ∷ []
denials_of (Two first second) = denied_by first ∷ denied_by second ∷ []
denials_of (Three first second third) = denied_by first ∷ denied_by second ∷ denied_by third ∷ []

-- a denial by an SOA
abbrev pub denied : Kind → SetRec → List Record → Proof
denied kind soa denials = record { kind = kind; answer = None; soa = Some soa; denials = denials }

abbrev pub proof_by : Claim → List Record → Proof
proof_by (Answer set) denials = answer_by set.now denials
proof_by (NoData soa) denials = denied kinds.NoData soa.now denials
proof_by (NxDomain soa) denials = denied kinds.NxDomain soa.now denials
