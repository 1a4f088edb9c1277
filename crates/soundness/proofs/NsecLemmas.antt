-- Each step of a proof by NSEC records is sound.
use Rattle.std.proofs.Common.{◌≡◌, ℕ, true, false, List, [], ◌∷◌, Some, sym, ◌∙◌, subst, ◌⊎◌, inl, inr, ⊎_elim}
use Rattle.std.specs.Prelude.{not, ◌&&◌, ◌||◌, ◌==◌}
use Rattle.std.specs.List.{All, Contains}
use Rattle.std.specs.Option.{option_or, option_map}
use Rattle.std.proofs.lemmas.Bool.{and_parts, or_cases}
use Rattle.std.proofs.lemmas.Bool.Decides.{Decides-eqb, not_from_Decides}
use Rattle.std.proofs.lemmas.Option.{option_and_then_some}
use Rattle.std.proofs.lemmas.List.Elements.{All-nil, All-cons, All-head, All-tail, All-map}
use Rattle.dname.specs.Name.{Label, IsUnder, asterisk, canonical_cmp}
use Rattle.dname.specs.Tests.{same_name, is_under, each_once}
use Rattle.dname.specs.Arc.{IsInside}
use Rattle.dname.specs.Order.{canonical_total, canonical_equal}
use Rattle.dname.specs.declared.types.TheConstants.{NS_TYPE, DNAME_TYPE, DS_TYPE}
use Rattle.dname.proofs.ArcLemmas.{inside_arc}
use Rattle.dname.proofs.SameLemmas.{same_name_decides}
use Rattle.dname.proofs.UnderLemmas.{under_decides}
use Rattle.encloser.specs.Encloser.{encloser_of}
use Rattle.encloser.proofs.EncloserLemmas.{encloser_is}
use Rattle.denial_records.specs.Proof.{Proof}
use Rattle.denial_records.specs.declared.set_rec.SetRec.{SetRec}
use Rattle.denial_records.specs.declared.nsec_rec.NsecRec.{NsecRec}
use Rattle.denial_records.specs.declared.record.Record.TheVariants.{Nsec}
use Rattle.denial_records.specs.declared.verdict.Kind.TheVariants as kinds
use Rattle.zone_meaning.specs.Zone.{Zone, IsZone}
use Rattle.zone_meaning.specs.Consistent.{IsConsistentNsec}
use Rattle.zone_meaning.specs.Denial.{DeniesType, SpeaksBelow, IsNoName, IsEmptyName, IsMissingName, IsSetAtSource}
use Rattle.zone_meaning.specs.Lookup.{LooksUp, NoData}
use Rattle.zone_meaning.proofs.DenialLemmas.{no_data_by_a_match}
use Rattle.zone_meaning.proofs.WildcardLemmas.{empty_name, name_error, wildcard_without_type, empty_wildcard, wildcard_answer}
use Rattle.cache_meaning.specs.Held.{Held}
use Rattle.cache_meaning.specs.Zones.{nsec_at}
use Rattle.cache_meaning.specs.Evidence.{usable_set, nsec_for, nsec_matches, nsec_shows_empty, nsec_covers, deny_type, deny_type_below, hand_nothing_on}
use Rattle.cache_meaning.specs.NsecSteps as steps
use Rattle.soundness.specs.True.{set_part, nsec_part, IsTrueOf}
use Rattle.soundness.specs.Sound.{IsUsable}
use Rattle.soundness.specs.Steps.{IsAsked, IsCover}
use Rattle.soundness.proofs.TestLemmas.{if_then, if_else, either_of, mapped, not_both}
use Rattle.soundness.proofs.TypeLemmas.{denies_type, denies_synthesis, hands_nothing_on}
use Rattle.soundness.proofs.OnceLemmas.{all_once, all_unmapped, all_of_once}
use Rattle.soundness.proofs.FoundLemmas.{SetAt, usable_set_found, NsecSpeaks, nsec_found, one_nsec}
use Rattle.soundness.proofs.SoundLemmas.{IsProved, answer_is_sound, denial_is_sound}

-- ---- a set at a source of synthesis

pub set_at_source : (apex encloser : List Label) (qtype : ℕ) (set : SetRec) → (qtype == DS_TYPE) ≡ false → SetAt apex (asterisk ∷ encloser) qtype set → IsSetAtSource (set_part set) encloser qtype
set_at_source apex encloser qtype set not_ds found = record {
  owner = found.of_owner;
  of_type = found.of_type;
  not_ds = not_from_Decides (qtype == DS_TYPE) (Decides-eqb qtype DS_TYPE) not_ds;
}

-- ---- what one record says of a name

module _ (held : Held) (now : ℕ) (apex name : List Label) (nsec : NsecRec) (speaking : NsecSpeaks held now apex name nsec) where
  inside : not (nsec_matches nsec name) ≡ true → IsInside canonical_cmp nsec.owner nsec.next name
  inside elsewhere = (inside_arc canonical_cmp canonical_total canonical_equal nsec.owner nsec.next name).1
      (speaking.has, λ same. not_both (nsec_matches nsec name) elsewhere ((same_name_decides nsec.owner name).1 (sym same)))

  covers_is : nsec_covers nsec name ≡ true → IsNoName (nsec_part nsec) name
  covers_is covers =
      let both = and_parts (not (nsec_matches nsec name)) (not (is_under nsec.next name)) covers in
      record {
        inside = inside both.0;
        next_elsewhere = λ below. not_both (is_under nsec.next name) both.1 ((under_decides nsec.next name).1 below);
      }

  empty_is : nsec_shows_empty nsec name ≡ true → IsEmptyName (nsec_part nsec) name
  empty_is shows =
      let both = and_parts (not (nsec_matches nsec name)) (is_under nsec.next name) shows in
      record { inside = inside both.0; next_below = (under_decides nsec.next name).0 both.1 }

  speaks_below : not (nsec_matches nsec name) ≡ true → SpeaksBelow (nsec_part nsec) name
  speaks_below elsewhere = record {
    no_dname = λ below. (hands below).0;
    no_cut = λ below member. (hands below).1 member ∙ sym speaking.of_zone;
  }
    where
      open_owner : IsUnder name nsec.owner → hand_nothing_on nsec.types apex nsec.owner ≡ true
      open_owner below = ⊎_elim
          (λ aside. ⊎_elim
          (λ own. absurd (not_both (nsec_matches nsec name) elsewhere own))
          (λ not_below. absurd (not_both (is_under name nsec.owner) not_below ((under_decides name nsec.owner).1 below)))
          (or_cases (same_name nsec.owner name) (not (is_under name nsec.owner)) aside))
          (λ (opens : hand_nothing_on nsec.types apex nsec.owner ≡ true). opens)
          (or_cases (same_name nsec.owner name || not (is_under name nsec.owner)) (hand_nothing_on nsec.types apex nsec.owner) speaking.speaks)

      hands : IsUnder name nsec.owner → (Contains nsec.types DNAME_TYPE → ⊥) × (Contains nsec.types NS_TYPE → nsec.owner ≡ apex)
      hands below = hands_nothing_on nsec.types apex nsec.owner (open_owner below)

  missing_is : IsUnder name apex → nsec_covers nsec name ≡ true → IsMissingName (nsec_part nsec) name (encloser_of name nsec.owner nsec.next)
  missing_is within covers =
      let common = encloser_is name nsec.owner nsec.next in
      record {
        within = subst (IsUnder name) (sym speaking.of_zone) within;
        no_name = covers_is covers;
        speaks = speaks_below (and_parts (not (nsec_matches nsec name)) (not (is_under nsec.next name)) covers).0;
        nearest = record { above = common.above; shared = common.shared; longest = common.longest };
      }

-- records listed once are true where each is
module _ (held : Held) (now : ℕ) (apex : List Label) where
  abbrev Found : NsecRec → Type 0
  Found nsec = (name : List Label) × (nsec_at held apex name ≡ Some nsec)

  abbrev IsTrueNsec : Zone → NsecRec → Type 0
  IsTrueNsec zone nsec = IsConsistentNsec zone (nsec_part nsec)

  same : (m n : NsecRec) → Found m → Found n → steps.same_nsec_arc m n ≡ true → m ≡ n
  same m n found found' is =
      let both = and_parts (same_name m.owner n.owner) (same_name m.next n.next) is in
      one_nsec held apex found.0 found'.0 m n found.1 found'.1 ((same_name_decides m.owner n.owner).0 both.0, (same_name_decides m.next n.next).0 both.1)

  both_true : (zone : Zone) (name other : List Label) (x y : NsecRec) → NsecSpeaks held now apex name x → NsecSpeaks held now apex other y → All (IsTrueOf zone) (steps.nsecs_once (x ∷ y ∷ [])) → IsTrueNsec zone x × IsTrueNsec zone y
  both_true zone name other x y speaks speaks' uses =
      let found : All Found (x ∷ y ∷ []) = All-cons Found x (y ∷ []) (name, speaks.first) (All-cons Found y [] (other, speaks'.first) (All-nil Found)) in
      let each : All (IsTrueNsec zone) (x ∷ y ∷ []) = all_of_once steps.same_nsec_arc Found (IsTrueNsec zone) same (x ∷ y ∷ []) found (all_unmapped (IsTrueOf zone) Nsec (each_once steps.same_nsec_arc (x ∷ y ∷ [])) uses) in
      (All-head (IsTrueNsec zone) x (y ∷ []) each, All-head (IsTrueNsec zone) y [] (All-tail (IsTrueNsec zone) x (y ∷ []) each))

  abbrev IsUsableNsec : NsecRec → Type 0
  IsUsableNsec nsec = IsUsable held now (Nsec nsec)

  one_usable : (x : NsecRec) → IsUsableNsec x → All (IsUsable held now) (Nsec x ∷ [])
  one_usable x is = All-cons (IsUsable held now) (Nsec x) [] is (All-nil (IsUsable held now))

  both_usable : (name other : List Label) (x y : NsecRec) → NsecSpeaks held now apex name x → NsecSpeaks held now apex other y → All (IsUsable held now) (steps.nsecs_once (x ∷ y ∷ []))
  both_usable name other x y speaks speaks' = All-map (IsUsable held now) Nsec (each_once steps.same_nsec_arc (x ∷ y ∷ []))
      (all_once steps.same_nsec_arc IsUsableNsec (x ∷ y ∷ []) (All-cons IsUsableNsec x (y ∷ []) speaks.usable (All-cons IsUsableNsec y [] speaks'.usable (All-nil IsUsableNsec))))

-- ---- the steps

module _ (held : Held) (now : ℕ) (apex name : List Label) (qtype : ℕ) (asked : IsAsked apex name qtype) where
  pub match_sound : (matching : NsecRec) (proof : Proof) → nsec_for held now apex name ≡ Some matching → steps.no_data_by_match held now apex name qtype matching ≡ Some proof → IsProved held now name qtype proof
  match_sound matching proof found is =
      let speaking = nsec_found held now apex name matching found in
      let denied = if_then (nsec_matches matching name && deny_type matching.types apex name qtype) (steps.denial_by held now apex kinds.NoData (Nsec matching ∷ [])) proof is in
      let tests = and_parts (nsec_matches matching name) (deny_type matching.types apex name qtype) denied.0 in
      denial_is_sound held now apex name qtype kinds.NoData (Nsec matching ∷ []) proof asked (λ e. cc) denied.1 (one_usable held now apex matching speaking.usable)
      (λ zone at is_zone uses _. no_data_by_a_match zone (nsec_part matching) name qtype is_zone (All-head (IsTrueOf zone) (Nsec matching) [] uses)
      (record {
        matches = (same_name_decides matching.owner name).0 tests.0;
        denies = subst (λ z. DeniesType matching.types name z qtype) (sym speaking.of_zone) (denies_type matching.types apex name qtype asked.ordinary tests.1);
      }))

  pub empty_sound : (covering : NsecRec) (proof : Proof) → nsec_for held now apex name ≡ Some covering → steps.no_data_by_empty held now apex name covering ≡ Some proof → IsProved held now name qtype proof
  empty_sound covering proof found is =
      let speaking = nsec_found held now apex name covering found in
      let denied = if_then (nsec_shows_empty covering name) (steps.denial_by held now apex kinds.NoData (Nsec covering ∷ [])) proof is in
      denial_is_sound held now apex name qtype kinds.NoData (Nsec covering ∷ []) proof asked (λ e. cc) denied.1 (one_usable held now apex covering speaking.usable)
      (λ zone at is_zone uses _. empty_name zone (nsec_part covering) name qtype (All-head (IsTrueOf zone) (Nsec covering) [] uses)
      (subst (IsUnder name) (sym at) asked.above) (empty_is held now apex name covering speaking denied.0))

  module _ (covering : NsecRec) (cover : IsCover held now apex name covering) where
    speaking : NsecSpeaks held now apex name covering
    speaking = nsec_found held now apex name covering cover.speaks

    missing : IsMissingName (nsec_part covering) name (encloser_of name covering.owner covering.next)
    missing = missing_is held now apex name covering speaking asked.above cover.covers

    pub answer_sound : (proof : Proof) → steps.answer_by_wildcard held now apex qtype (steps.source_of covering name) (Nsec covering ∷ []) ≡ Some proof → IsProved held now name qtype proof
    answer_sound proof is =
        let plain = if_else (qtype == DS_TYPE) (option_map (λ set. steps.answer_by set (Nsec covering ∷ [])) (usable_set held now apex (steps.source_of covering name) qtype)) proof is in
        let made = mapped (λ set. steps.answer_by set (Nsec covering ∷ [])) (usable_set held now apex (steps.source_of covering name) qtype) proof plain.1 in
        let found = usable_set_found held now apex (steps.source_of covering name) qtype made.0 made.1 in
        subst (IsProved held now name qtype) made.2
        (answer_is_sound held now apex name qtype made.0 (Nsec covering ∷ []) asked found.0.of_zone found.1 (one_usable held now apex covering speaking.usable)
        (λ zone at is_zone true_set uses. wildcard_answer zone (nsec_part covering) (set_part made.0) name (encloser_of name covering.owner covering.next) qtype is_zone (All-head (IsTrueOf zone) (Nsec covering) [] uses) true_set
        (record { missing = missing; answers = set_at_source apex (encloser_of name covering.owner covering.next) qtype made.0 plain.0 found.0 })))

    module _ (at_source : NsecRec) (found : nsec_for held now apex (steps.source_of covering name) ≡ Some at_source) where
      of_source : NsecSpeaks held now apex (steps.source_of covering name) at_source
      of_source = nsec_found held now apex (steps.source_of covering name) at_source found

      uses_both : (zone : Zone) → All (IsTrueOf zone) (steps.nsecs_once (covering ∷ at_source ∷ [])) → IsConsistentNsec zone (nsec_part covering) × IsConsistentNsec zone (nsec_part at_source)
      uses_both zone = both_true held now apex zone name (steps.source_of covering name) covering at_source speaking of_source

      usable_both : All (IsUsable held now) (steps.nsecs_once (covering ∷ at_source ∷ []))
      usable_both = both_usable held now apex name (steps.source_of covering name) covering at_source speaking of_source

      pub wildcard_sound : (proof : Proof) → steps.no_data_by_wildcard held now apex qtype (steps.source_of covering name) covering at_source ≡ Some proof → IsProved held now name qtype proof
      wildcard_sound proof is =
          let source = steps.source_of covering name in
          let without = nsec_matches at_source source && deny_type_below at_source.types qtype in
          let denied = if_then (without || nsec_shows_empty at_source source) (steps.denial_by held now apex kinds.NoData (steps.nsecs_once (covering ∷ at_source ∷ []))) proof is in
          denial_is_sound held now apex name qtype kinds.NoData (steps.nsecs_once (covering ∷ at_source ∷ [])) proof asked (λ e. cc) denied.1 usable_both
          (λ zone at is_zone uses _. by zone is_zone (uses_both zone uses) (or_cases without (nsec_shows_empty at_source source) denied.0))
        where
          by : (zone : Zone) → IsZone zone → IsConsistentNsec zone (nsec_part covering) × IsConsistentNsec zone (nsec_part at_source)
              → ((nsec_matches at_source (steps.source_of covering name) && deny_type_below at_source.types qtype) ≡ true) ⊎ (nsec_shows_empty at_source (steps.source_of covering name) ≡ true)
              → LooksUp zone name qtype NoData
          by zone is_zone both (inl without) =
              let tests = and_parts (nsec_matches at_source (steps.source_of covering name)) (deny_type_below at_source.types qtype) without in
              wildcard_without_type zone (nsec_part covering) (nsec_part at_source) name (encloser_of name covering.owner covering.next) qtype is_zone both.0 both.1
              (record {
                missing = missing;
                matches = (same_name_decides at_source.owner (steps.source_of covering name)).0 tests.0;
                denies = denies_synthesis at_source.types qtype asked.ordinary tests.1;
              })
          by zone is_zone both (inr empty) =
              empty_wildcard zone (nsec_part covering) (nsec_part at_source) name (encloser_of name covering.owner covering.next) qtype is_zone both.0 both.1
              (record { missing = missing; empty = empty_is held now apex (steps.source_of covering name) at_source of_source empty })

      pub error_sound : (proof : Proof) → steps.name_error held now apex (steps.source_of covering name) covering at_source ≡ Some proof → IsProved held now name qtype proof
      error_sound proof is =
          let denied = if_then (nsec_covers at_source (steps.source_of covering name)) (steps.denial_by held now apex kinds.NxDomain (steps.nsecs_once (covering ∷ at_source ∷ []))) proof is in
          denial_is_sound held now apex name qtype kinds.NxDomain (steps.nsecs_once (covering ∷ at_source ∷ [])) proof asked (λ e. cc) denied.1 usable_both
          (λ zone at is_zone uses _.
          let both = uses_both zone uses in
          name_error zone (nsec_part covering) (nsec_part at_source) name (encloser_of name covering.owner covering.next) qtype is_zone both.0 both.1
          (record { missing = missing; no_wildcard = covers_is held now apex (steps.source_of covering name) at_source of_source denied.0 }))

    source_sound : (proof : Proof) → steps.denial_at_source held now apex qtype (steps.source_of covering name) covering ≡ Some proof → IsProved held now name qtype proof
    source_sound proof is =
        let source = steps.source_of covering name in
        option_and_then_some
        (λ at_source. option_or (steps.no_data_by_wildcard held now apex qtype source covering at_source) (steps.name_error held now apex source covering at_source))
        (nsec_for held now apex source) proof is
        (λ at_source found says. ⊎_elim
        (wildcard_sound at_source found proof)
        (error_sound at_source found proof)
        (either_of (steps.no_data_by_wildcard held now apex qtype source covering at_source) (steps.name_error held now apex source covering at_source) proof says))

  cover_sound : (covering : NsecRec) (proof : Proof) → nsec_for held now apex name ≡ Some covering → steps.by_cover held now apex name qtype covering ≡ Some proof → IsProved held now name qtype proof
  cover_sound covering proof found is =
      let answer = steps.answer_by_wildcard held now apex qtype (steps.source_of covering name) (Nsec covering ∷ []) in
      let denial = steps.denial_at_source held now apex qtype (steps.source_of covering name) covering in
      let covered = if_then (nsec_covers covering name) (option_or answer denial) proof is in
      let cover : IsCover held now apex name covering = record { speaks = found; covers = covered.0 } in
      ⊎_elim (answer_sound covering cover proof) (source_sound covering cover proof) (either_of answer denial proof covered.1)

  pub nsec_sound : (proof : Proof) → steps.nsec_proof held now apex name qtype ≡ Some proof → IsProved held now name qtype proof
  nsec_sound proof is = option_and_then_some (steps.nsec_steps held now apex name qtype) (nsec_for held now apex name) proof is
      (λ nsec found says.
      let matched = steps.no_data_by_match held now apex name qtype nsec in
      let empty = steps.no_data_by_empty held now apex name nsec in
      let covered = steps.by_cover held now apex name qtype nsec in
      ⊎_elim
      (match_sound nsec proof found)
      (λ more. ⊎_elim (empty_sound nsec proof found) (cover_sound nsec proof found) (either_of empty covered proof more))
      (either_of matched (option_or empty covered) proof says))
