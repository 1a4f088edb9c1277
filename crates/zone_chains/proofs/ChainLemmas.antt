-- Records of one chain, and of two.
use Rattle.std.proofs.Common.{◌≡◌, Bool, true, false, not, true≢false, ◌&&◌, List, get_or, AllPairs, Some, refl, sym, ◌∙◌, ap, subst, arith}
use Rattle.std.specs.Bool.{Decides}
use Rattle.std.specs.Ordering.{nat_cmp}
use Rattle.std.specs.Cmp.Lexicographic.{slice_cmp, pointwise_decides, bytes_decides}
use Rattle.std.proofs.lemmas.Bool.Decides.{Decides-eqb, same_from_decides}
use Rattle.std.proofs.lemmas.Bool.{and_parts}
use Rattle.std.proofs.lemmas.Option.{none-some, same_Some}
use Rattle.dname.specs.Name.{Label, canonical_cmp}
use Rattle.dname.specs.Arc.{arcs_meet}
use Rattle.dname.specs.Tests.{same_name}
use Rattle.denial_records.specs.declared.nsec_rec.NsecRec.{NsecRec}
use Rattle.denial_records.specs.declared.nsec3_rec.Nsec3Rec.{Nsec3Rec}
use Rattle.denial_records.specs.declared.record.Record.{Record}
use Rattle.denial_records.specs.declared.record.Record.TheVariants.{Set, Nsec, Nsec3}
use Rattle.dname.proofs.SameLemmas.{name_itself}
use Rattle.cache_meaning.proofs.ChainLemmas.{parameters_itself}
use Rattle.cache_meaning.specs.Held.{ZoneChain, Chain, NsecChain, Nsec3Chain, HashParameters, parameters_of, same_parameters, same_chain, same_zone_chain, chain_of, zone_of, is_of_chain, displaces}
use Rattle.zone_chains.specs.Zone.{OneChain}
use Rattle.range_index.specs.Arcs.{AreOfOrigin}
use Rattle.range_index.specs.Marks.{name_mark}
use Rattle.zone_chains.specs.Views.{AreOf, AreNsec3s, IsNsec3, apart_in, AreArcs, IsChain}

-- ---- two records of one chain: one displaces the other where their arcs meet

pub nsec_kind : (zone : List Label) (item : Record) → chain_of item ≡ Some (record { zone = zone; chain = NsecChain }) → (nsec : NsecRec) × (item ≡ Nsec nsec) × (nsec.zone ≡ zone)
nsec_kind zone (Set set) is = absurd (none-some _ is)
nsec_kind zone (Nsec nsec) is = (nsec, refl, ap (λ (c : ZoneChain). c.zone) (same_Some _ _ is))
nsec_kind zone (Nsec3 nsec3) is = absurd (differ (ap (λ (c : ZoneChain). c.chain) (same_Some _ _ is)))
  where
    differ : Nsec3Chain (parameters_of nsec3) ≡ NsecChain → ⊥
    differ h = cc

pub nsec3_kind : (zone : List Label) (parameters : HashParameters) (item : Record) → chain_of item ≡ Some (record { zone = zone; chain = Nsec3Chain parameters }) → (nsec3 : Nsec3Rec) × (item ≡ Nsec3 nsec3) × (nsec3.zone ≡ zone) × (parameters_of nsec3 ≡ parameters)
nsec3_kind zone parameters (Set set) is = absurd (none-some _ is)
nsec3_kind zone parameters (Nsec nsec) is = absurd (differ (ap (λ (c : ZoneChain). c.chain) (same_Some _ _ is)))
  where
    differ : NsecChain ≡ Nsec3Chain parameters → ⊥
    differ h = cc
nsec3_kind zone parameters (Nsec3 nsec3) is = (nsec3, refl, ap (λ (c : ZoneChain). c.zone) (same_Some _ _ is), same (ap (λ (c : ZoneChain). c.chain) (same_Some _ _ is)))
  where
    same : Nsec3Chain (parameters_of nsec3) ≡ Nsec3Chain parameters → parameters_of nsec3 ≡ parameters
    same h = cc

nsecs_apart : (one other : NsecRec) → one.zone ≡ other.zone → apart_in NsecChain (Nsec one) (Nsec other) ≡ not (displaces (Nsec one) (Nsec other))
nsecs_apart one other zones =
    let same : same_name one.zone other.zone ≡ true = subst (λ z. same_name one.zone z ≡ true) zones (name_itself one.zone) in
    rw same refl

nsec3s_apart : (parameters : HashParameters) (one other : Nsec3Rec) → one.zone ≡ other.zone → parameters_of one ≡ parameters_of other → apart_in (Nsec3Chain parameters) (Nsec3 one) (Nsec3 other) ≡ not (displaces (Nsec3 one) (Nsec3 other))
nsec3s_apart parameters one other zones chains =
    let same : same_name one.zone other.zone ≡ true = subst (λ z. same_name one.zone z ≡ true) zones (name_itself one.zone) in
    let alike : same_parameters (parameters_of one) (parameters_of other) ≡ true = subst (λ p. same_parameters (parameters_of one) p ≡ true) chains (parameters_itself (parameters_of one)) in
    rw (same, alike) refl

pub apart_is : (zone : List Label) (kind : Chain) (x y : Record) → chain_of x ≡ Some (record { zone = zone; chain = kind }) → chain_of y ≡ Some (record { zone = zone; chain = kind }) → apart_in kind x y ≡ not (displaces x y)
apart_is zone NsecChain x y is are =
    let one = nsec_kind zone x is in
    let other = nsec_kind zone y are in
    subst (λ r. apart_in NsecChain r y ≡ not (displaces r y)) (sym one.1)
    (subst (λ r. apart_in NsecChain (Nsec one.0) r ≡ not (displaces (Nsec one.0) r)) (sym other.1)
    (nsecs_apart one.0 other.0 (one.2 ∙ sym other.2)))
apart_is zone (Nsec3Chain parameters) x y is are =
    let one = nsec3_kind zone parameters x is in
    let other = nsec3_kind zone parameters y are in
    subst (λ r. apart_in (Nsec3Chain parameters) r y ≡ not (displaces r y)) (sym one.1)
    (subst (λ r. apart_in (Nsec3Chain parameters) (Nsec3 one.0) r ≡ not (displaces (Nsec3 one.0) r)) (sym other.1)
    (nsec3s_apart parameters one.0 other.0 (one.2 ∙ sym other.2) (one.3 ∙ sym other.3)))

-- ---- two records of two chains

fails_first : (a b c : Bool) → (a && b) ≡ false → (a && (b && c)) ≡ false
fails_first true true c h = absurd (true≢false h)
fails_first true false c h = refl
fails_first false b c h = refl

first_fails : (a b : Bool) → (a && true) ≡ false → (a && b) ≡ false
first_fails true b h = absurd (true≢false h)
first_fails false b h = refl

abbrev nsec_chain : List Label → ZoneChain
nsec_chain zone = record { zone = zone; chain = NsecChain }

abbrev nsec3_chain : Nsec3Rec → ZoneChain
nsec3_chain nsec3 = record { zone = nsec3.zone; chain = Nsec3Chain (parameters_of nsec3) }

chains_differ : (one other a b : ZoneChain) → Some a ≡ Some one → Some b ≡ Some other → same_zone_chain one other ≡ false → same_zone_chain a b ≡ false
chains_differ one other a b is are differ = (λ i. same_zone_chain (same_Some _ _ is i) (same_Some _ _ are i)) ∙ differ

pub of_two_chains : (one other : ZoneChain) (x y : Record) → chain_of x ≡ Some one → chain_of y ≡ Some other → same_zone_chain one other ≡ false → displaces x y ≡ false
of_two_chains one other (Set set) y is are differ = absurd (none-some _ is)
of_two_chains one other (Nsec nsec) (Set set) is are differ = refl
of_two_chains one other (Nsec nsec) (Nsec nsec') is are differ =
    first_fails (same_name nsec.zone nsec'.zone) (arcs_meet canonical_cmp nsec.owner nsec.next nsec'.owner nsec'.next)
    (chains_differ one other (nsec_chain nsec.zone) (nsec_chain nsec'.zone) is are differ)
of_two_chains one other (Nsec nsec) (Nsec3 nsec3) is are differ = refl
of_two_chains one other (Nsec3 nsec3) (Set set) is are differ = refl
of_two_chains one other (Nsec3 nsec3) (Nsec nsec) is are differ = refl
of_two_chains one other (Nsec3 nsec3) (Nsec3 nsec3') is are differ =
    fails_first (same_name nsec3.zone nsec3'.zone) (same_parameters (parameters_of nsec3) (parameters_of nsec3')) (arcs_meet (slice_cmp nat_cmp) nsec3.hash nsec3.next nsec3'.hash nsec3'.next)
    (chains_differ one other (nsec3_chain nsec3) (nsec3_chain nsec3') is are differ)

-- ---- the records of one chain

pub not_true : (b c : Bool) → b ≡ not c → b ≡ true → c ≡ false
not_true b true is h = absurd (true≢false (sym h ∙ is))
not_true b false is h = refl

pub none_displaces : (each : OneChain) → IsChain each → AllPairs (λ one other. displaces one other ≡ false) each.records
none_displaces each it i j d below within =
    by each.chain.chain (apart_is each.chain.zone each.chain.chain (get_or each.records i d) (get_or each.records j d) (it.of_chain i d (omega arith)) (it.of_chain j d within)) it.arcs
  where
    by : (kind : Chain) → apart_in kind (get_or each.records i d) (get_or each.records j d) ≡ not (displaces (get_or each.records i d) (get_or each.records j d)) → AreArcs kind each.records → displaces (get_or each.records i d) (get_or each.records j d) ≡ false
    by NsecChain is arcs = not_true _ _ is (arcs.apart i j d below within)
    by (Nsec3Chain parameters) is arcs = not_true _ _ is (arcs.apart i j d below within)

-- ---- the zone of a chain's records

of_zone : (chain : ZoneChain) (item : Record) → chain_of item ≡ Some chain → zone_of item ≡ chain.zone
of_zone chain (Set set) is = absurd (none-some _ is)
of_zone chain (Nsec nsec) is = ap (λ (c : ZoneChain). c.zone) (same_Some _ _ is)
of_zone chain (Nsec3 nsec3) is = ap (λ (c : ZoneChain). c.zone) (same_Some _ _ is)

pub in_zone : (chain : ZoneChain) (records : List Record) → AreOf chain records → AreOfOrigin zone_of name_mark chain.zone records
in_zone chain records all = λ k d within key. ap (λ zone. name_mark zone key) (of_zone chain (get_or records k d) (all k d within))

pub in_origin : (each : OneChain) → IsChain each → (item : Record) → chain_of item ≡ Some each.chain → AreOfOrigin zone_of name_mark (zone_of item) each.records
in_origin each it item is = λ k d within key. ap (λ zone. name_mark zone key) (of_zone each.chain (get_or each.records k d) (it.of_chain k d within) ∙ sym (of_zone each.chain item is))

pub are_nsec3s : (zone : List Label) (parameters : HashParameters) (records : List Record) → AreOf (record { zone = zone; chain = Nsec3Chain parameters }) records → AreNsec3s records
are_nsec3s zone parameters records all = λ k d within. (let its = nsec3_kind zone parameters (get_or records k d) (all k d within) in subst IsNsec3 (sym its.1) tt)
