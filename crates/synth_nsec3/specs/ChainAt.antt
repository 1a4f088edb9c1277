-- No public clause cites this module: an NSEC3 chain of a zone at a moment.
use Rattle.std.specs.Prelude.{ℕ, List, Option}
use Rattle.dname.specs.Name.{Label}
use Rattle.denial_records.specs.declared.nsec3_rec.Nsec3Rec.{Nsec3Rec}
use Rattle.cache_meaning.specs.Held.{Held, HashParameters}
use Rattle.cache_meaning.specs.Zones.{HeldZone}
use Rattle.cache_meaning.specs.Evidence.{nsec3_for}
use Rattle.cache_meaning.specs.Lent.{parameters_by}
use Rattle.synth_nsec3.specs.declared.hashed_chain.HashedChain.{HashedChain}

-- where a question is asked, and when
pub record ChainAt : Type 0 where
  pub held : Held
  pub moment : ℕ
  pub apex : List Label
  pub parameters : HashParameters

-- the record that speaks of the name
abbrev pub speaker : ChainAt → List Label → Option Nsec3Rec
speaker chain name = nsec3_for chain.held chain.moment chain.apex chain.parameters name

-- the chain that is lent, by what its zone is
abbrev pub chain_at : {Z : Type 0} → (Z → HeldZone) → HashedChain Z → ChainAt
chain_at zone chain = record {
  held = (zone chain.zone.now).held;
  moment = chain.moment;
  apex = (zone chain.zone.now).apex;
  parameters = parameters_by chain.salt.now chain.iterations;
}
