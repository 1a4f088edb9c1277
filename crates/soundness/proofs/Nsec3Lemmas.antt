-- Each step of a proof by NSEC3 records is sound.
use Rattle.std.proofs.Common.{◌≡◌, ℕ, true, List, [], ◌∷◌, None, Some, refl, sym, ◌∙◌, ap, subst, ⊎_elim}
use Rattle.std.specs.Prelude.{not, ◌&&◌, ◌==◌, if◌then◌else◌}
use Rattle.std.specs.List.{All}
use Rattle.std.specs.Option.{option_or, option_map, option_and_then}
use Rattle.std.specs.Str.{bytes_eq}
use Rattle.std.specs.Cmp.Lexicographic.{nat_list_cmp_total}
use Rattle.std.specs.FinMap.{slice_cmp-IsAntisymmetric, nat_cmp-IsAntisymmetric}
use Rattle.std.proofs.lemmas.Bool.{and_parts, not-true}
use Rattle.std.proofs.lemmas.Option.{none-some, option_and_then_some}
use Rattle.std.proofs.lemmas.Slice.Eq.{bytes_eq-Decides}
use Rattle.std.proofs.lemmas.List.Elements.{All-nil, All-cons, All-head, All-tail, All-map}
use Rattle.dname.specs.Name.{Label, IsUnder, asterisk}
use Rattle.dname.specs.Tests.{is_under, each_once}
use Rattle.dname.specs.Arc.{IsInside}
use Rattle.dname.specs.declared.types.TheConstants.{DS_TYPE}
use Rattle.dname.proofs.ArcLemmas.{inside_arc}
use Rattle.dname.proofs.UnderLemmas.{under_decides, under_itself, under_through}
use Rattle.denial_records.specs.Proof.{Proof}
use Rattle.denial_records.specs.declared.nsec3_rec.Nsec3Rec.{Nsec3Rec}
use Rattle.denial_records.specs.declared.record.Record.{Record}
use Rattle.denial_records.specs.declared.record.Record.TheVariants.{Nsec3}
use Rattle.denial_records.specs.declared.verdict.Kind.TheVariants as kinds
use Rattle.zone_meaning.specs.Denial.{DeniesType}
use Rattle.zone_meaning.specs.Hashed.{hash_cmp}
use Rattle.zone_meaning.specs.HashedDenial.{IsNoHashedName, IsNextCloserMissing, IsOpenEncloser}
use Rattle.zone_meaning.proofs.HashedLemmas.{no_data_by_a_hash, answer_by_hashes, no_data_by_hashes, name_error_by_hashes}
use Rattle.cache_meaning.specs.Held.{Held, HashParameters, parameters_of}
use Rattle.cache_meaning.specs.Zones.{nsec3_at}
use Rattle.cache_meaning.specs.Evidence.{usable_set, nsec3_for, nsec3_matches, nsec3_covers, hash_by, deny_type, deny_type_below, hand_nothing_on}
use Rattle.cache_meaning.specs.NsecSteps.{answer_by, denial_by, answer_by_wildcard}
use Rattle.cache_meaning.specs.Nsec3Steps as steps
use Rattle.soundness.specs.True.{set_part, nsec3_part, IsTrueOf, IsClashFreeFor}
use Rattle.soundness.specs.Sound.{IsUsable}
use Rattle.soundness.specs.Steps.{IsAsked, IsNextCloserCover, IsEncloserMatch}
use Rattle.soundness.proofs.TestLemmas.{if_then, if_else, either_of, mapped, not_both}
use Rattle.soundness.proofs.TypeLemmas.{denies_type, denies_synthesis, hands_nothing_on}
use Rattle.soundness.proofs.OnceLemmas.{all_once, all_unmapped, all_of_once}
use Rattle.soundness.proofs.FoundLemmas.{usable_set_found, Nsec3Speaks, nsec3_found, one_nsec3}
use Rattle.soundness.proofs.SoundLemmas.{IsProved, answer_is_sound, denial_is_sound}
use Rattle.soundness.proofs.NsecLemmas.{set_at_source}

-- ---- what one record says of a name

module _ (held : Held) (now : ℕ) (apex : List Label) (parameters : HashParameters) (name : List Label) (nsec3 : Nsec3Rec) (speaking : Nsec3Speaks held now apex parameters name nsec3) where
  -- its own way to hash is the chain's
  hashed : hash_by (parameters_of nsec3) name ≡ hash_by parameters name
  hashed = ap (λ p. hash_by p name) speaking.of_chain

  matches_is : nsec3_matches parameters nsec3 name ≡ true → hash_by (parameters_of nsec3) name ≡ nsec3.hash
  matches_is matches = hashed ∙ sym ((bytes_eq-Decides nsec3.hash (hash_by parameters name)).0 matches)

  covers_is : nsec3_covers parameters nsec3 name ≡ true → IsNoHashedName (nsec3_part nsec3) name
  covers_is covers =
      let both = and_parts (not (nsec3_matches parameters nsec3 name)) (not nsec3.opt_out) covers in
      let inside : IsInside hash_cmp nsec3.hash nsec3.next (hash_by parameters name) =
      (inside_arc hash_cmp nat_list_cmp_total (slice_cmp-IsAntisymmetric nat_cmp-IsAntisymmetric) nsec3.hash nsec3.next (hash_by parameters name)).1
      (speaking.has, λ same. not_both (nsec3_matches parameters nsec3 name) both.0 ((bytes_eq-Decides nsec3.hash (hash_by parameters name)).1 (sym same))) in
      record {
        inside = subst (IsInside hash_cmp nsec3.hash nsec3.next) (sym hashed) inside;
        no_opt_out = not-true nsec3.opt_out both.1;
      }

  shows_is : steps.shows_encloser parameters apex name nsec3 ≡ true → IsOpenEncloser (nsec3_part nsec3) name
  shows_is shows =
      let both = and_parts (nsec3_matches parameters nsec3 name) (hand_nothing_on nsec3.types apex name) shows in
      let hands = hands_nothing_on nsec3.types apex name both.1 in
      record {
        matches = matches_is both.0;
        no_dname = hands.0;
        no_cut = λ member. hands.1 member ∙ sym speaking.of_zone;
      }

-- what holds of records listed once holds of each
module _ (held : Held) (now : ℕ) (apex : List Label) (parameters : HashParameters) (P : Record → Type 0) where
  abbrev Found : Nsec3Rec → Type 0
  Found n = (hash : List ℕ) × (nsec3_at held apex parameters hash ≡ Some n)

  abbrev Holds : Nsec3Rec → Type 0
  Holds n = P (Nsec3 n)

  same : (m n : Nsec3Rec) → Found m → Found n → steps.same_nsec3_arc m n ≡ true → m ≡ n
  same m n found found' is =
      let both = and_parts (bytes_eq m.hash n.hash) (bytes_eq m.next n.next) is in
      one_nsec3 held apex parameters found.0 found'.0 m n found.1 found'.1 ((bytes_eq-Decides m.hash n.hash).0 both.0, (bytes_eq-Decides m.next n.next).0 both.1)

  all_three : (name other another : List Label) (x y z : Nsec3Rec) → Nsec3Speaks held now apex parameters name x → Nsec3Speaks held now apex parameters other y → Nsec3Speaks held now apex parameters another z
      → All P (steps.nsec3s_once (x ∷ y ∷ z ∷ [])) → P (Nsec3 x) × P (Nsec3 y) × P (Nsec3 z)
  all_three name other another x y z speaks speaks' speaks'' uses =
      let found : All Found (x ∷ y ∷ z ∷ []) =
      All-cons Found x (y ∷ z ∷ []) (hash_by parameters name, speaks.first)
      (All-cons Found y (z ∷ []) (hash_by parameters other, speaks'.first)
      (All-cons Found z [] (hash_by parameters another, speaks''.first) (All-nil Found))) in
      let each = all_of_once steps.same_nsec3_arc Found Holds same (x ∷ y ∷ z ∷ []) found (all_unmapped P Nsec3 (each_once steps.same_nsec3_arc (x ∷ y ∷ z ∷ [])) uses) in
      let rest = All-tail Holds x (y ∷ z ∷ []) each in
      (All-head Holds x (y ∷ z ∷ []) each, All-head Holds y (z ∷ []) rest, All-head Holds z [] (All-tail Holds y (z ∷ []) rest))

module _ (held : Held) (now : ℕ) where
  abbrev IsUsableNsec3 : Nsec3Rec → Type 0
  IsUsableNsec3 nsec3 = IsUsable held now (Nsec3 nsec3)

  one_usable : (x : Nsec3Rec) → IsUsableNsec3 x → All (IsUsable held now) (Nsec3 x ∷ [])
  one_usable x is = All-cons (IsUsable held now) (Nsec3 x) [] is (All-nil (IsUsable held now))

  three_usable : (x y z : Nsec3Rec) → IsUsableNsec3 x → IsUsableNsec3 y → IsUsableNsec3 z → All (IsUsable held now) (steps.nsec3s_once (x ∷ y ∷ z ∷ []))
  three_usable x y z is is' is'' = All-map (IsUsable held now) Nsec3 (each_once steps.same_nsec3_arc (x ∷ y ∷ z ∷ []))
      (all_once steps.same_nsec3_arc IsUsableNsec3 (x ∷ y ∷ z ∷ [])
      (All-cons IsUsableNsec3 x (y ∷ z ∷ []) is (All-cons IsUsableNsec3 y (z ∷ []) is' (All-cons IsUsableNsec3 z [] is'' (All-nil IsUsableNsec3)))))

-- ---- the steps

module _ (held : Held) (now : ℕ) (apex : List Label) (parameters : HashParameters) (name : List Label) (qtype : ℕ) (asked : IsAsked apex name qtype) where
  pub match_sound : (matching : Nsec3Rec) (proof : Proof) → nsec3_for held now apex parameters name ≡ Some matching → steps.no_data_by_match held now apex parameters name qtype matching ≡ Some proof → IsProved held now name qtype proof
  match_sound matching proof found is =
      let speaking = nsec3_found held now apex parameters name matching found in
      let denied = if_then (nsec3_matches parameters matching name && deny_type matching.types apex name qtype) (denial_by held now apex kinds.NoData (Nsec3 matching ∷ [])) proof is in
      let tests = and_parts (nsec3_matches parameters matching name) (deny_type matching.types apex name qtype) denied.0 in
      denial_is_sound held now apex name qtype kinds.NoData (Nsec3 matching ∷ []) proof asked (λ e. cc) denied.1 (one_usable held now matching speaking.usable)
      (λ zone at is_zone uses clash. no_data_by_a_hash zone (nsec3_part matching) name qtype (All-head (IsTrueOf zone) (Nsec3 matching) [] uses) (All-head (IsClashFreeFor zone name) (Nsec3 matching) [] clash)
      (record {
        within = subst (IsUnder name) (sym speaking.of_zone) asked.above;
        matches = matches_is held now apex parameters name matching speaking tests.0;
        denies = subst (λ z. DeniesType matching.types name z qtype) (sym speaking.of_zone) (denies_type matching.types apex name qtype asked.ordinary tests.1);
      }))

  module _ (label : Label) (encloser : List Label) (covering : Nsec3Rec) (cover : IsNextCloserCover held now apex parameters name label encloser covering) where
    speaking : Nsec3Speaks held now apex parameters (label ∷ encloser) covering
    speaking = nsec3_found held now apex parameters (label ∷ encloser) covering cover.speaks

    missing : IsNextCloserMissing (nsec3_part covering) name encloser
    missing = record {
      within = subst (IsUnder encloser) (sym speaking.of_zone) cover.within;
      label = label;
      above = cover.above;
      no_name = covers_is held now apex parameters (label ∷ encloser) covering speaking cover.covers;
    }

    pub answer_sound : (proof : Proof) → answer_by_wildcard held now apex qtype (asterisk ∷ encloser) (Nsec3 covering ∷ []) ≡ Some proof → IsProved held now name qtype proof
    answer_sound proof is =
        let sets = usable_set held now apex (asterisk ∷ encloser) qtype in
        let plain = if_else (qtype == DS_TYPE) (option_map (λ set. answer_by set (Nsec3 covering ∷ [])) sets) proof is in
        let made = mapped (λ set. answer_by set (Nsec3 covering ∷ [])) sets proof plain.1 in
        let found = usable_set_found held now apex (asterisk ∷ encloser) qtype made.0 made.1 in
        subst (IsProved held now name qtype) made.2
        (answer_is_sound held now apex name qtype made.0 (Nsec3 covering ∷ []) asked found.0.of_zone found.1 (one_usable held now covering speaking.usable)
        (λ zone at is_zone true_set uses. answer_by_hashes zone (nsec3_part covering) (set_part made.0) name encloser qtype (All-head (IsTrueOf zone) (Nsec3 covering) [] uses) true_set
        (record { missing = missing; answers = set_at_source apex encloser qtype made.0 plain.0 found.0 })))

    module _ (matching at_source : Nsec3Rec) (match' : IsEncloserMatch held now apex parameters encloser matching) (found : nsec3_for held now apex parameters (asterisk ∷ encloser) ≡ Some at_source) where
      of_encloser : Nsec3Speaks held now apex parameters encloser matching
      of_encloser = nsec3_found held now apex parameters encloser matching match'.speaks

      of_source : Nsec3Speaks held now apex parameters (asterisk ∷ encloser) at_source
      of_source = nsec3_found held now apex parameters (asterisk ∷ encloser) at_source found

      each_of : (P : Record → Type 0) → All P (steps.nsec3s_once (matching ∷ covering ∷ at_source ∷ [])) → P (Nsec3 matching) × P (Nsec3 covering) × P (Nsec3 at_source)
      each_of P = all_three held now apex parameters P encloser (label ∷ encloser) (asterisk ∷ encloser) matching covering at_source of_encloser speaking of_source

      usable_all : All (IsUsable held now) (steps.nsec3s_once (matching ∷ covering ∷ at_source ∷ []))
      usable_all = three_usable held now matching covering at_source of_encloser.usable speaking.usable of_source.usable

      pub wildcard_sound : (proof : Proof) → steps.no_data_by_wildcard held now apex parameters qtype (asterisk ∷ encloser) matching covering at_source ≡ Some proof → IsProved held now name qtype proof
      wildcard_sound proof is =
          let used = steps.nsec3s_once (matching ∷ covering ∷ at_source ∷ []) in
          let denied = if_then (nsec3_matches parameters at_source (asterisk ∷ encloser) && deny_type_below at_source.types qtype) (denial_by held now apex kinds.NoData used) proof is in
          let tests = and_parts (nsec3_matches parameters at_source (asterisk ∷ encloser)) (deny_type_below at_source.types qtype) denied.0 in
          denial_is_sound held now apex name qtype kinds.NoData used proof asked (λ e. cc) denied.1 usable_all
          (λ zone at is_zone uses clash.
          let each = each_of (IsTrueOf zone) uses in
          no_data_by_hashes zone (nsec3_part covering) (nsec3_part at_source) name encloser qtype each.1 each.2 (each_of (IsClashFreeFor zone name) clash).2
          (record {
            missing = missing;
            matches = matches_is held now apex parameters (asterisk ∷ encloser) at_source of_source tests.0;
            denies = denies_synthesis at_source.types qtype asked.ordinary tests.1;
          }))

      pub error_sound : (proof : Proof) → steps.name_error held now apex parameters (asterisk ∷ encloser) matching covering at_source ≡ Some proof → IsProved held now name qtype proof
      error_sound proof is =
          let used = steps.nsec3s_once (matching ∷ covering ∷ at_source ∷ []) in
          let denied = if_then (nsec3_covers parameters at_source (asterisk ∷ encloser)) (denial_by held now apex kinds.NxDomain used) proof is in
          denial_is_sound held now apex name qtype kinds.NxDomain used proof asked (λ e. cc) denied.1 usable_all
          (λ zone at is_zone uses clash.
          let each = each_of (IsTrueOf zone) uses in
          name_error_by_hashes zone (nsec3_part covering) (nsec3_part matching) (nsec3_part at_source) name encloser qtype each.1 each.0 each.2 (each_of (IsClashFreeFor zone name) clash).0
          (record {
            missing = missing;
            nearest = shows_is held now apex parameters encloser matching of_encloser match'.shows;
            no_wildcard = covers_is held now apex parameters (asterisk ∷ encloser) at_source of_source denied.0;
          }))

    below_sound : (proof : Proof) → steps.denial_below held now apex parameters qtype encloser covering ≡ Some proof → IsProved held now name qtype proof
    below_sound proof is = option_and_then_some
        (λ matching. if steps.shows_encloser parameters apex encloser matching then steps.denial_at_source held now apex parameters qtype (asterisk ∷ encloser) matching covering else None)
        (nsec3_for held now apex parameters encloser) proof is
        (λ matching found says.
        let shown = if_then (steps.shows_encloser parameters apex encloser matching) (steps.denial_at_source held now apex parameters qtype (asterisk ∷ encloser) matching covering) proof says in
        at_source matching (record { speaks = found; shows = shown.0 }) shown.1)
      where
        at_source : (matching : Nsec3Rec) → IsEncloserMatch held now apex parameters encloser matching → steps.denial_at_source held now apex parameters qtype (asterisk ∷ encloser) matching covering ≡ Some proof → IsProved held now name qtype proof
        at_source matching shown is' =
            let without = λ (it : Nsec3Rec). steps.no_data_by_wildcard held now apex parameters qtype (asterisk ∷ encloser) matching covering it in
            let error = λ (it : Nsec3Rec). steps.name_error held now apex parameters (asterisk ∷ encloser) matching covering it in
            option_and_then_some (λ it. option_or (without it) (error it)) (nsec3_for held now apex parameters (asterisk ∷ encloser)) proof is'
            (λ it found says. ⊎_elim (wildcard_sound matching it shown found proof) (error_sound matching it shown found proof) (either_of (without it) (error it) proof says))

  one_sound : (label : Label) (encloser : List Label) (proof : Proof) → IsUnder name (label ∷ encloser) → IsUnder encloser apex
      → option_and_then (steps.by_cover held now apex parameters qtype (label ∷ encloser) encloser) (nsec3_for held now apex parameters (label ∷ encloser)) ≡ Some proof → IsProved held now name qtype proof
  one_sound label encloser proof above within is = option_and_then_some (steps.by_cover held now apex parameters qtype (label ∷ encloser) encloser) (nsec3_for held now apex parameters (label ∷ encloser)) proof is
      (λ covering found says.
      let answer = answer_by_wildcard held now apex qtype (asterisk ∷ encloser) (Nsec3 covering ∷ []) in
      let denial = steps.denial_below held now apex parameters qtype encloser covering in
      let covered = if_then (nsec3_covers parameters covering (label ∷ encloser)) (option_or answer denial) proof says in
      let cover : IsNextCloserCover held now apex parameters name label encloser covering = record { above = above; within = within; speaks = found; covers = covered.0 } in
      ⊎_elim (answer_sound label encloser covering cover proof) (below_sound label encloser covering cover proof) (either_of answer denial proof covered.1))

  each_sound : (rest : List Label) (proof : Proof) → IsUnder name rest → steps.by_enclosers held now apex parameters qtype rest ≡ Some proof → IsProved held now name qtype proof
  each_sound [] proof above is = absurd (none-some proof is)
  each_sound (label ∷ encloser) proof above is =
      let one = option_and_then (steps.by_cover held now apex parameters qtype (label ∷ encloser) encloser) (nsec3_for held now apex parameters (label ∷ encloser)) in
      let more = steps.by_enclosers held now apex parameters qtype encloser in
      let within = if_then (is_under encloser apex) (option_or one more) proof is in
      ⊎_elim
      (one_sound label encloser proof above ((under_decides encloser apex).0 within.0))
      (each_sound encloser proof (under_through name (label ∷ encloser) encloser above (label ∷ [], refl)))
      (either_of one more proof within.1)

  pub nsec3_sound : (proof : Proof) → steps.nsec3_proof held now apex parameters name qtype ≡ Some proof → IsProved held now name qtype proof
  nsec3_sound proof is =
      let matched = option_and_then (steps.no_data_by_match held now apex parameters name qtype) (nsec3_for held now apex parameters name) in
      ⊎_elim
      (λ now_matched. option_and_then_some (steps.no_data_by_match held now apex parameters name qtype) (nsec3_for held now apex parameters name) proof now_matched
      (λ matching found. match_sound matching proof found))
      (each_sound name proof (under_itself name))
      (either_of matched (steps.by_enclosers held now apex parameters qtype name) proof is)
