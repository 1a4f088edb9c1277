-- Intake takes each group of a made message, and so it gives a batch.
use Rattle.std.proofs.Common.{◌≡◌, true, false, not, ℕ, suc, ◌<◌, ◌≤◌, List, [], ◌∷◌, ◌++◌, length, map, count_by, is_none, Option, Some, Ok, refl, sym, subst, arith}
use Rattle.std.specs.List.{AllZip, Contains, filter, flat_map}
use Rattle.std.specs.Option.{option_to_list}
use Rattle.std.proofs.lemmas.List.{length-map}
use Rattle.std.proofs.lemmas.List.Elements.{All-contains, Contains-append_left, Contains-append_right}
use Rattle.facts.proofs.Filters.{kept}
use Rattle.facts.proofs.Lists.{here, there}
use Rattle.dname.specs.Name.{Label}
use Rattle.dname.specs.declared.types.TheConstants.{A_TYPE, DS_TYPE, NSEC_TYPE, RRSIG_TYPE, SOA_TYPE}
use Rattle.dnswire.specs.declared.rr.Rr.{Rr}
use Rattle.denial_records.specs.declared.record.Record.{Record}
use Rattle.dname.specs.Tests.{each_once}
use Rattle.intake.specs.Group.{Group, is_together, is_rrsig, group_of, groups_of}
use Rattle.intake.specs.Stored.{IsStored}
use Rattle.intake.specs.Batch.{IsTakenAs, Gives}
use Rattle.intake.specs.declared.taken.Taken.{Taken}
use Rattle.zone_maker.specs.Made.{made_example, Wild, kind_at, address_at, soa_data, made_owner}
use Rattle.zone_maker.specs.Messages.{signature_data, nsec_data, message_at}
use Rattle.made_laws.proofs.WrittenLemmas.{rr_of, rr_in}
use Rattle.made_laws.proofs.SectionLemmas.{answer_for, answer_at, made_message, made_reads}
use Rattle.made_laws.proofs.TakenLemmas.{IsOne, each_one, not_signing, group_from}
use Rattle.made_laws.proofs.TakenLemmas.IsOne.{signing, of_soa, of_nsec, of_wildcard}
use Rattle.made_laws.proofs.GivenLemmas.{some_once}
use Rattle.made_laws.proofs.KeptLemmas.{IsSigned, set_stored, nsec_stored, under_apex, labels_enough}

-- ---- all groups of a list

record AreStored (now : ℕ) (groups : List Group) : Type 0 where
  pub taken : List (Option Record)
  pub each : AllZip (IsTakenAs now) groups taken
  pub none_skipped : count_by is_none taken ≡ 0
  pub all_there : length (flat_map option_to_list taken) ≡ length groups

all_stored : (now : ℕ) (groups : List Group) → ((g : Group) → Contains groups g → (r : Record) × IsStored now g r) → AreStored now groups
all_stored now [] by = record { taken = []; each = tt; none_skipped = refl; all_there = refl }
all_stored now (g ∷ groups) by =
    let one = by g (here g groups) in
    let rest = all_stored now groups (λ other in'. by other (there g groups other in')) in
    record { taken = Some one.0 ∷ rest.taken; each = (one.1, rest.each); none_skipped = rest.none_skipped; all_there = omega (arith, rest.all_there) }

-- ---- the records of a made message

module _ (seed names k now : ℕ) (small : k ≤ names) (early : now < 2000000000) where
  abbrev records : List Rr
  records = (made_message seed names k).answer ++ (made_message seed names k).authority

  abbrev authority : List Rr
  authority = (made_message seed names k).authority

  abbrev IsSignedHere : List Label → ℕ → List ℕ → Type 0
  IsSignedHere = IsSigned seed names k now early records (each_one seed names k)

  in_authority : (rr : Rr) → Contains authority rr → Contains records rr
  in_authority rr in' = Contains-append_right (made_message seed names k).answer authority rr in'

  abbrev soa_signature : Rr
  soa_signature = rr_of made_example RRSIG_TYPE (signature_data made_example SOA_TYPE)

  abbrev nsec_rr : Rr
  nsec_rr = rr_of (made_owner k) NSEC_TYPE (nsec_data names k)

  abbrev nsec_signature : Rr
  nsec_signature = rr_of (made_owner k) RRSIG_TYPE (signature_data (made_owner k) NSEC_TYPE)

  abbrev soa_rr : Rr
  soa_rr = rr_of made_example SOA_TYPE soa_data

  soa_there : Contains records soa_rr
  soa_there = in_authority soa_rr (here soa_rr (soa_signature ∷ nsec_rr ∷ nsec_signature ∷ []))

  soa_signed : IsSignedHere made_example SOA_TYPE soa_data
  soa_signed = record {
    there = soa_there;
    signature = in_authority soa_signature (there soa_rr (soa_signature ∷ nsec_rr ∷ nsec_signature ∷ []) soa_signature (here soa_signature (nsec_rr ∷ nsec_signature ∷ [])));
    small = omega arith;
    plain = refl;
    kept_type = refl;
    inside = record { under = ([], refl); below = λ (e : SOA_TYPE ≡ DS_TYPE). absurd (omega (arith, e)); apex = λ e. refl };
    enough = omega arith;
  }

  nsec_signed : IsSignedHere (made_owner k) NSEC_TYPE (nsec_data names k)
  nsec_signed = record {
    there = in_authority nsec_rr (there soa_rr (soa_signature ∷ nsec_rr ∷ nsec_signature ∷ []) nsec_rr (there soa_signature (nsec_rr ∷ nsec_signature ∷ []) nsec_rr (here nsec_rr (nsec_signature ∷ []))));
    signature = in_authority nsec_signature (there soa_rr (soa_signature ∷ nsec_rr ∷ nsec_signature ∷ []) nsec_signature (there soa_signature (nsec_rr ∷ nsec_signature ∷ []) nsec_signature (there nsec_rr (nsec_signature ∷ []) nsec_signature (here nsec_signature []))));
    small = omega arith;
    plain = refl;
    kept_type = refl;
    inside = record { under = under_apex k; below = λ (e : NSEC_TYPE ≡ DS_TYPE). absurd (omega (arith, e)); apex = λ (e : false ≡ true). cc };
    enough = labels_enough k;
  }

  -- what the answer of a wildcard has
  in_answer : (i : ℕ) (rr : Rr) → k ≡ suc i → kind_at i ≡ Wild → Contains (map rr_in (answer_for Wild seed i)) rr → Contains records rr
  in_answer i rr is at in' = Contains-append_left (made_message seed names k).answer authority rr
      (subst (λ n. Contains (map rr_in (answer_at seed n)) rr) (sym is) (subst (λ t. Contains (map rr_in (answer_for t seed i)) rr) (sym at) in'))

  wildcard_signed : (i : ℕ) → k ≡ suc i → kind_at i ≡ Wild → IsSignedHere (made_owner (suc i)) A_TYPE (address_at seed i)
  wildcard_signed i is at =
      let w : Rr = rr_of (made_owner (suc i)) A_TYPE (address_at seed i) in
      let s : Rr = rr_of (made_owner (suc i)) RRSIG_TYPE (signature_data (made_owner (suc i)) A_TYPE) in
      record {
        there = in_answer i w is at (here w (s ∷ []));
        signature = in_answer i s is at (there w (s ∷ []) s (here s []));
        small = omega arith;
        plain = refl;
        kept_type = refl;
        inside = record { under = under_apex (suc i); below = λ (e : A_TYPE ≡ DS_TYPE). absurd (omega (arith, e)); apex = λ (e : false ≡ true). cc };
        enough = labels_enough (suc i);
      }

  stored_at : (rr other : Rr) → rr ≡ other → (r : Record) × IsStored now (group_of now records other) r → (r : Record) × IsStored now (group_of now records rr) r
  stored_at rr other is stored = (stored.0, subst (λ (x : Rr). IsStored now (group_of now records x) stored.0) (sym is) stored.1)

  each_stored : (rr : Rr) → IsOne seed names k rr → is_rrsig rr ≡ false → (r : Record) × IsStored now (group_of now records rr) r
  each_stored rr (signing covered is data') plain = absurd (not_signing rr plain is)
  each_stored rr (of_soa is) plain = stored_at rr soa_rr is (set_stored seed names k now early records (each_one seed names k) made_example SOA_TYPE soa_data soa_signed refl)
  each_stored rr (of_nsec is) plain = stored_at rr nsec_rr is (nsec_stored seed names k now early records (each_one seed names k) small nsec_signed)
  each_stored rr (of_wildcard i n at is) plain = stored_at rr (rr_of (made_owner (suc i)) A_TYPE (address_at seed i)) is
      (set_stored seed names k now early records (each_one seed names k) (made_owner (suc i)) A_TYPE (address_at seed i) (wildcard_signed i n at) refl)

  group_stored : (group : Group) → names ≤ 1000000 → Contains (groups_of now records) group → (r : Record) × IsStored now group r
  group_stored group few in' =
      let from = group_from seed names k now few small records (each_one seed names k) group in' in
      let stored = each_stored from.0 (All-contains (IsOne seed names k) records from.0 (each_one seed names k) from.1) from.2 in
      (stored.0, subst (λ (g : Group). IsStored now g stored.0) from.3 stored.1)

  some_group : 1 ≤ length (groups_of now records)
  some_group =
      let plain : List Rr = filter (λ rr. not (is_rrsig rr)) records in
      omega (arith, length-map (each_once is_together plain) (group_of now records), some_once is_together plain soa_rr (kept (λ rr. not (is_rrsig rr)) records soa_rr soa_there refl))

  -- all is taken, and nothing skipped
  pub all_taken : names ≤ 1000000 → (taken : Taken) × Gives (message_at seed names k) now (Ok taken) × (taken.skipped ≡ 0)
  all_taken few =
      let s : AreStored now (groups_of now records) = all_stored now (groups_of now records) (λ group in'. group_stored group few in') in
      let taken : Taken = record { batch = record { now = now; records = flat_map option_to_list s.taken }; skipped = 0 } in (
        taken,
        record {
          accepted = record {
            message = made_message seed names k;
            reads = made_reads seed names k small;
            no_fault = refl;
            brings = record { taken = s.taken; each = s.each; batch_is = refl; skipped_is = sym s.none_skipped };
          };
          some = omega (arith, s.all_there, some_group);
        },
        refl,
      )
