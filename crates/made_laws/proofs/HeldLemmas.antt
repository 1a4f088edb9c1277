-- What made messages alone bring to the cache is true of the made zone, and so is what is proved from it.
use Rattle.std.proofs.Common.{◌≡◌, Bool, true, false, not, ℕ, ◌≤◌, if◌then◌else◌, fold, List, [], ◌∷◌, Option, Some, None, sym, subst}
use Rattle.std.specs.List.{All, filter, list_any}
use Rattle.std.proofs.lemmas.List.Elements.{All-nil, All-head, All-tail, All-push, All-filter, All-contains, All-weaker}
use Rattle.dname.specs.Name.{Label}
use Rattle.denial_records.specs.Proof.{Proof, used_in}
use Rattle.denial_records.specs.declared.batch.Batch.{Batch}
use Rattle.denial_records.specs.declared.record.Record.{Record}
use Rattle.zone_meaning.specs.Lookup.{LooksUp}
use Rattle.cache_meaning.specs.Held.{Held, ZoneChain, nothing_held, chain_of, same_zone_chain, is_usable, displaces, held_where, without_third, with_new_chain, with_chain, held_with, held_after, held_of}
use Rattle.cache_meaning.specs.Prove.{outcome_of}
use Rattle.soundness.specs.True.{IsTrueOf, IsClashFreeFor}
use Rattle.soundness.specs.Sound.{said_by, IsUsable}
use Rattle.soundness.proofs.QueryLemmas.{outcome_sound}
use Rattle.zone_maker.specs.Made.{made_zone}
use Rattle.zone_maker.proofs.MadeLemmas.{made_is_zone}
use Rattle.made_laws.specs.MadeBatch.{IsMadeBatch}
use Rattle.made_laws.proofs.TakenLemmas.{IsPlainlyTrue, taken_plain_among}

-- ---- what holds of the records of all batches holds of those that are held

module _ (P : Record → Type 0) where
  third_keeps : (third : Option ZoneChain) (held : Held) → All P held.records → All P (without_third third held).records
  third_keeps None held all = all
  third_keeps (Some third) held all = All-filter _ P held.records all

  chain_keeps : (chain : Option ZoneChain) (held : Held) → All P held.records → All P (with_chain chain held).records
  chain_keeps None held all = all
  chain_keeps (Some new) held all = by (list_any (same_zone_chain new) held.chains)
    where
      by : (b : Bool) → All P (if b then held else with_new_chain new held).records
      by true = all
      by false = third_keeps _ (record { records = held.records; chains = new ∷ held.chains }) all

  with_keeps : (held : Held) (new : Record) → P new → All P held.records → All P (held_with held new).records
  with_keeps held new is all =
      chain_keeps (chain_of new) _ (All-push P (filter (λ old. not (displaces new old)) held.records) new (All-filter (λ old. not (displaces new old)) P held.records all) is)

  records_keep : (records : List Record) (held : Held) → All P records → All P held.records → All P (fold held_with held records).records
  records_keep [] held each all = all
  records_keep (new ∷ records) held each all = records_keep records (held_with held new) (All-tail P new records each) (with_keeps held new (All-head P new records each) all)

  after_keeps : (held : Held) (batch : Batch) → All P batch.records → All P held.records → All P (held_after held batch).records
  after_keeps held batch each all =
      All-filter _ P (fold held_with (held_where (is_usable batch.now) held) batch.records).records
      (records_keep batch.records (held_where (is_usable batch.now) held) each (All-filter (is_usable batch.now) P held.records all))

  batches_keep : (batches : List Batch) (held : Held) → All (λ (batch : Batch). All P batch.records) batches → All P held.records → All P (fold held_after held batches).records
  batches_keep [] held each all = all
  batches_keep (batch ∷ batches) held each all =
      batches_keep batches (held_after held batch) (All-tail (λ (b : Batch). All P b.records) batch batches each) (after_keeps held batch (All-head (λ (b : Batch). All P b.records) batch batches each) all)

-- ---- made batches

batch_plain : (seed names : ℕ) (batch : Batch) → names ≤ 1000000 → IsMadeBatch seed names batch → All (IsPlainlyTrue (made_zone seed names)) batch.records
batch_plain seed names batch few is = subst (λ (b : Batch). All (IsPlainlyTrue (made_zone seed names)) b.records) (sym is.batch_is) (taken_plain_among seed names is.now is.message is.taken few is.among is.gives)

held_plain : (seed names : ℕ) (batches : List Batch) → names ≤ 1000000 → All (IsMadeBatch seed names) batches → All (IsPlainlyTrue (made_zone seed names)) (held_of batches).records
held_plain seed names batches few each =
    batches_keep (IsPlainlyTrue (made_zone seed names)) batches nothing_held
    (All-weaker (IsMadeBatch seed names) (λ (b : Batch). All (IsPlainlyTrue (made_zone seed names)) b.records) (λ batch is. batch_plain seed names batch few is) batches each)
    (All-nil (IsPlainlyTrue (made_zone seed names)))

-- what the cache proves from them is what the zone says
pub made_answer : (seed names now : ℕ) (batches : List Batch) (name : List Label) (qtype qclass : ℕ) (proof : Proof) → names ≤ 1000000 → All (IsMadeBatch seed names) batches
    → outcome_of (held_of batches) now name qtype qclass ≡ Some proof → LooksUp (made_zone seed names) name qtype (said_by proof)
made_answer seed names now batches name qtype qclass proof few each is =
    let proved = outcome_sound (held_of batches) now name qtype qclass proof is in
    let used : All (IsPlainlyTrue (made_zone seed names)) (used_in proof) =
    All-weaker (IsUsable (held_of batches) now) (IsPlainlyTrue (made_zone seed names)) (λ item usable. All-contains (IsPlainlyTrue (made_zone seed names)) (held_of batches).records item (held_plain seed names batches few each) usable.there) (used_in proof) proved.usable in
    proved.sound.denies (made_zone seed names)
    (record { zone_is = made_is_zone seed names; each = All-weaker (IsPlainlyTrue (made_zone seed names)) (IsTrueOf (made_zone seed names)) (λ item h. h.is_true) (used_in proof) used })
    (All-weaker (IsPlainlyTrue (made_zone seed names)) (IsClashFreeFor (made_zone seed names) name) (λ item h. h.no_clash name) (used_in proof) used)
