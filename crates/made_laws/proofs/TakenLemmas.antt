-- What intake takes from a made message is true of the made zone.
use Rattle.std.proofs.Common.{◌≡◌, true, false, not, ℕ, zero, suc, ◌+◌, ◌≤◌, List, [], ◌∷◌, ◌++◌, length, map, drop, Ok, refl, sym, ◌∙◌, ap, subst, arith}
use Rattle.std.specs.Prelude.{◌==◌, nat_lt}
use Rattle.std.specs.List.{All, Contains, filter, flat_map}
use Rattle.std.specs.Option.{option_to_list}
use Rattle.std.proofs.lemmas.Bool.{and_parts, cond-false, not-true, le-ltb}
use Rattle.std.proofs.lemmas.Bool.Decides.{Decides-eqb}
use Rattle.std.proofs.lemmas.List.{drop_at}
use Rattle.std.proofs.lemmas.List.Elements.{All-nil, All-cons, All-append, All-contains, All-map, All-weaker, Contains-get_or}
use Rattle.facts.proofs.Filters.{was_kept, kept}
use Rattle.facts.proofs.Lists.{all_by_member, here}
use Rattle.facts.proofs.Maps.{from_map, into_map}
use Rattle.dname.specs.Name.{Label, wire_of}
use Rattle.dname.specs.Read.{Spells}
use Rattle.dname.specs.declared.types.TheConstants.{A_TYPE, NSEC_TYPE, NSEC3_TYPE, RRSIG_TYPE, SOA_TYPE}
use Rattle.dname.proofs.ReadLemmas.{one_name}
use Rattle.dname.proofs.SameLemmas.{same_name_decides}
use Rattle.dnswire.specs.declared.rr.Rr.{Rr}
use Rattle.dnswire.specs.declared.message.Message.{Message}
use Rattle.denial_records.specs.Rrsig.{IsRrsig}
use Rattle.denial_records.specs.NsecParts.{IsNsec}
use Rattle.denial_records.specs.TypeSet.{IsTypeMap, types_of}
use Rattle.denial_records.specs.declared.rrsig.Rrsig.{Rrsig}
use Rattle.denial_records.specs.declared.nsec_parts.NsecParts.{NsecParts}
use Rattle.denial_records.specs.declared.batch.Batch.{Batch}
use Rattle.denial_records.specs.declared.set_rec.SetRec.{SetRec}
use Rattle.denial_records.specs.declared.nsec_rec.NsecRec.{NsecRec}
use Rattle.denial_records.specs.declared.record.Record.{Record}
use Rattle.denial_records.specs.declared.record.Record.TheVariants.{Set, Nsec, Nsec3}
use Rattle.zone_meaning.specs.Zone.{Zone}
use Rattle.zone_meaning.specs.Consistent.{SetPart, NsecPart, IsConsistentSet, IsConsistentNsec}
use Rattle.soundness.specs.True.{set_part, nsec_part, IsTrueOf, IsClashFreeFor}
use Rattle.dname.specs.Tests.{each_once, same_name, same_octets}
use Rattle.intake.specs.Group.{Group, is_together, is_rrsig, covers, group_of, groups_of}
use Rattle.intake.specs.Signed.{Says}
use Rattle.intake.specs.Stored.{owner_labels, signed_name, is_denial_type, IsKept, IsStored, IsStoredSet, IsStoredNsec}
use Rattle.intake.specs.Batch.{IsTakenAs, Gives}
use Rattle.intake.specs.declared.taken.Taken.{Taken}
use Rattle.intake.proofs.GroupLemmas.{together}
use Rattle.dnswire.proofs.MessageLemmas.{one_message}
use Rattle.intake.proofs.StoredLemmas.{nsec_same}
use Rattle.zone_maker.specs.Made.{made_example, NameKind, Host, Above, Cut, Wild, kind_at, type_in, data_in, address_at, soa_data, made_zone, made_owner, next_owner}
use Rattle.zone_maker.specs.Messages.{signature_data, first_in, first_of, type_map, nsec_data, message_at, messages_of}
use Rattle.made_laws.specs.MadeNsec.{types_at}
use Rattle.made_laws.proofs.RecordLemmas.{at_number}
use Rattle.made_laws.proofs.TrueLemmas.{HasOnly, nsec_true, soa_true, named_true}
use Rattle.made_laws.proofs.WrittenLemmas.{rr_of, rr_in}
use Rattle.made_laws.proofs.PlainLemmas.{plain_apex, plain_next}
use Rattle.made_laws.proofs.SectionLemmas.{answer_for, answer_at, authority_at, made_message, made_reads}
use Rattle.made_laws.proofs.ContainLemmas.{in_once, one_kept, in_pairs, first_pair}

-- ---- the records of a made message

pub data IsOne (seed names k : ℕ) (rr : Rr) : Type 0 where
  signing : (covered : ℕ) → rr.rtype ≡ RRSIG_TYPE → rr.octets ≡ signature_data rr.owner covered → IsOne seed names k rr
  of_soa : rr ≡ rr_of made_example SOA_TYPE soa_data → IsOne seed names k rr
  of_nsec : rr ≡ rr_of (made_owner k) NSEC_TYPE (nsec_data names k) → IsOne seed names k rr
  of_wildcard : (i : ℕ) → k ≡ suc i → kind_at i ≡ Wild → rr ≡ rr_of (made_owner (suc i)) A_TYPE (address_at seed i) → IsOne seed names k rr

module _ (seed names k : ℕ) where
  abbrev One : Rr → Type 0
  One = IsOne seed names k

  signature_one : (owner : List Label) (covered : ℕ) → One (rr_of owner RRSIG_TYPE (signature_data owner covered))
  signature_one owner covered = signing covered refl refl

  answer_one : (kind : NameKind) (i : ℕ) → k ≡ suc i → kind_at i ≡ kind → All One (map rr_in (answer_for kind seed i))
  answer_one Host i is at = All-nil One
  answer_one Above i is at = All-nil One
  answer_one Cut i is at = All-nil One
  answer_one Wild i is at =
      let w : Rr = rr_of (made_owner (suc i)) A_TYPE (address_at seed i) in
      let s : Rr = rr_of (made_owner (suc i)) RRSIG_TYPE (signature_data (made_owner (suc i)) A_TYPE) in
      All-cons One w (s ∷ []) (of_wildcard i is at refl) (All-cons One s [] (signature_one (made_owner (suc i)) A_TYPE) (All-nil One))

  answer_all_one : (n : ℕ) → k ≡ n → All One (map rr_in (answer_at seed n))
  answer_all_one zero is = All-nil One
  answer_all_one (suc i) is = answer_one (kind_at i) i is refl

  authority_one : All One (map rr_in (authority_at names k))
  authority_one =
      let a : Rr = rr_of made_example SOA_TYPE soa_data in
      let b : Rr = rr_of made_example RRSIG_TYPE (signature_data made_example SOA_TYPE) in
      let d : Rr = rr_of (made_owner k) NSEC_TYPE (nsec_data names k) in
      let e : Rr = rr_of (made_owner k) RRSIG_TYPE (signature_data (made_owner k) NSEC_TYPE) in
      All-cons One a (b ∷ d ∷ e ∷ []) (of_soa refl)
      (All-cons One b (d ∷ e ∷ []) (signature_one made_example SOA_TYPE)
      (All-cons One d (e ∷ []) (of_nsec refl)
      (All-cons One e [] (signature_one (made_owner k) NSEC_TYPE) (All-nil One))))

  pub each_one : All One ((made_message seed names k).answer ++ (made_message seed names k).authority)
  each_one = All-append One (map rr_in (answer_at seed k)) (map rr_in (authority_at names k)) (answer_all_one k refl) authority_one

-- ---- signatures

pub not_signing : (rr : Rr) → is_rrsig rr ≡ false → rr.rtype ≡ RRSIG_TYPE → ⊥
not_signing rr plain is =
    let e : is_rrsig rr ≡ true = (Decides-eqb rr.rtype RRSIG_TYPE).1 is in
    cc

-- a signature of a made message
pub is_signing : (seed names k : ℕ) (rr : Rr) → IsOne seed names k rr → is_rrsig rr ≡ true → (covered : ℕ) × (rr.octets ≡ signature_data rr.owner covered)
is_signing seed names k rr (signing covered is data') yes-is = (covered, data')
is_signing seed names k rr (of_soa is) yes-is = absurd (omega (arith, (Decides-eqb rr.rtype RRSIG_TYPE).0 yes-is, ap (λ (r : Rr). r.rtype) is))
is_signing seed names k rr (of_nsec is) yes-is = absurd (omega (arith, (Decides-eqb rr.rtype RRSIG_TYPE).0 yes-is, ap (λ (r : Rr). r.rtype) is))
is_signing seed names k rr (of_wildcard i n at is) yes-is = absurd (omega (arith, (Decides-eqb rr.rtype RRSIG_TYPE).0 yes-is, ap (λ (r : Rr). r.rtype) is))

-- the signer's name stands behind 18 octets
pub apex_spelled : Spells (wire_of made_example ++ 0x5a ∷ 0x5a ∷ 0x5a ∷ 0x5a ∷ []) made_example (length (wire_of made_example))
apex_spelled = record {
  labels = made_example;
  rest = 0x5a ∷ 0x5a ∷ 0x5a ∷ 0x5a ∷ [];
  spelled = refl;
  sizes = plain_apex.sizes;
  size = refl;
  fits = plain_apex.fits;
  lower = plain_apex.lower;
}

-- what it says: the apex signed, and the labels are the owner's
pub signature_says : (owner : List Label) (covered : ℕ) (rrsig : Rrsig) → IsRrsig (signature_data owner covered) rrsig → (rrsig.signer ≡ made_example) × (rrsig.labels ≡ owner_labels owner)
signature_says owner covered rrsig reads = (
  (one_name (drop 18 (signature_data owner covered)) rrsig.signer made_example reads.taken (length (wire_of made_example)) reads.name apex_spelled).0,
  reads.label_count,
)

pub record IsSignedBy (rr : Rr) (signature : List ℕ) : Type 0 where
  pub covered : ℕ
  pub is : signature ≡ signature_data rr.owner covered

-- each signature of a group is of its owner
pub group_signature : (seed names k now : ℕ) (rrs : List Rr) (rr : Rr) → All (IsOne seed names k) rrs → (signature : List ℕ) → Contains (group_of now rrs rr).signatures signature → IsSignedBy rr signature
group_signature seed names k now rrs rr all signature in' =
    let from = from_map (λ (x : Rr). x.octets) (filter (covers now rr) rrs) signature (in_once same_octets (map (λ (x : Rr). x.octets) (filter (covers now rr) rrs)) signature in') in
    let kept = was_kept (covers now rr) rrs from.0 from.1 in
    let tests = and_parts (is_rrsig from.0) _ kept.1 in
    let owners = (and_parts (same_name rr.owner from.0.owner) _ (and_parts (from.0.class == 1) _ tests.1).1).0 in
    let signs = is_signing seed names k from.0 (All-contains (IsOne seed names k) rrs from.0 all kept.0) tests.0 in
    record { covered = signs.0; is = sym from.2 ∙ signs.1 ∙ ap (λ o. signature_data o signs.0) (sym ((same_name_decides rr.owner from.0.owner).0 owners)) }

-- a group that is kept is the zone's, and as it stands there
pub kept_as : (seed names k now : ℕ) (rrs : List Rr) (rr : Rr) → All (IsOne seed names k) rrs → (zone owner : List Label) (life : ℕ) → IsKept now (group_of now rrs rr) zone owner life → (zone ≡ made_example) × (owner ≡ rr.owner)
kept_as seed names k now rrs rr all zone owner life kept =
    let agree = kept.signed in
    let one = first_pair IsRrsig (Says zone kept.labels kept.original_ttl) (group_of now rrs rr).signatures agree.each agree.read agree.same agree.some in
    let signature = group_signature seed names k now rrs rr all one.0 one.2 in
    let said = signature_says rr.owner signature.covered one.1 (subst (λ s. IsRrsig s one.1) signature.is one.3) in
    let labels : kept.labels ≡ owner_labels rr.owner = sym one.4.labels_are ∙ said.1 in (
      sym one.4.signer_is ∙ said.0,
      kept.owner_is ∙ ap (signed_name rr.owner) labels ∙ cond-false (nat_lt (owner_labels rr.owner) (owner_labels rr.owner)) _ rr.owner (le-ltb (owner_labels rr.owner) (owner_labels rr.owner) (omega arith)),
    )

-- ---- data

-- records of one type that is no RRSIG are of one datum
pub same_data : (seed names k : ℕ) (rr other : Rr) → IsOne seed names k rr → IsOne seed names k other → (rr.rtype ≡ RRSIG_TYPE → ⊥) → rr.rtype ≡ other.rtype → other.octets ≡ rr.octets
same_data seed names k rr other (signing covered is data') two plain same = absurd (plain is)
same_data seed names k rr other (of_soa is) (of_soa is') plain same = ap (λ (r : Rr). r.octets) (is' ∙ sym is)
same_data seed names k rr other (of_nsec is) (of_nsec is') plain same = ap (λ (r : Rr). r.octets) (is' ∙ sym is)
same_data seed names k rr other (of_wildcard i n at is) (of_wildcard j m at' is') plain same =
    let one : j ≡ i = omega (arith, n, m) in
    ap (λ (r : Rr). r.octets) is' ∙ ap (address_at seed) one ∙ sym (ap (λ (r : Rr). r.octets) is)
same_data seed names k rr other (of_soa is) (signing covered is' data') plain same = absurd (plain (same ∙ is'))
same_data seed names k rr other (of_nsec is) (signing covered is' data') plain same = absurd (plain (same ∙ is'))
same_data seed names k rr other (of_wildcard i n at is) (signing covered is' data') plain same = absurd (plain (same ∙ is'))
same_data seed names k rr other (of_soa is) (of_nsec is') plain same = absurd (omega (arith, same, ap (λ (r : Rr). r.rtype) is, ap (λ (r : Rr). r.rtype) is'))
same_data seed names k rr other (of_soa is) (of_wildcard j m at' is') plain same = absurd (omega (arith, same, ap (λ (r : Rr). r.rtype) is, ap (λ (r : Rr). r.rtype) is'))
same_data seed names k rr other (of_nsec is) (of_soa is') plain same = absurd (omega (arith, same, ap (λ (r : Rr). r.rtype) is, ap (λ (r : Rr). r.rtype) is'))
same_data seed names k rr other (of_nsec is) (of_wildcard j m at' is') plain same = absurd (omega (arith, same, ap (λ (r : Rr). r.rtype) is, ap (λ (r : Rr). r.rtype) is'))
same_data seed names k rr other (of_wildcard i n at is) (of_soa is') plain same = absurd (omega (arith, same, ap (λ (r : Rr). r.rtype) is, ap (λ (r : Rr). r.rtype) is'))
same_data seed names k rr other (of_wildcard i n at is) (of_nsec is') plain same = absurd (omega (arith, same, ap (λ (r : Rr). r.rtype) is, ap (λ (r : Rr). r.rtype) is'))

abbrev found_in : List Rr → Rr → List (List ℕ)
found_in rrs rr = map (λ (x : Rr). x.octets) (filter (is_together rr) rrs)

-- the data of a group is that of its record
pub group_data : (seed names k now : ℕ) (rrs : List Rr) (rr : Rr) → All (IsOne seed names k) rrs → Contains rrs rr → is_rrsig rr ≡ false → HasOnly (group_of now rrs rr).items rr.octets
group_data seed names k now rrs rr all in' plain octets = (
  λ there. All-contains (λ o. o ≡ rr.octets) (found_in rrs rr) octets each (in_once same_octets (found_in rrs rr) octets there),
  λ is. subst (λ o. Contains (each_once same_octets (found_in rrs rr)) o) (sym is) (one_kept same_octets (found_in rrs rr) rr.octets each own),
)
  where
    one : IsOne seed names k rr
    one = All-contains (IsOne seed names k) rrs rr all in'

    same : (other : Rr) → Contains (filter (is_together rr) rrs) other → other.octets ≡ rr.octets
    same other there =
        let kept = was_kept (is_together rr) rrs other there in
        let keys = (together.decides rr other).0 kept.1 in
        same_data seed names k rr other one (All-contains (IsOne seed names k) rrs other all kept.0) (not_signing rr plain) (λ i. (keys i).rtype)

    each : All (λ o. o ≡ rr.octets) (found_in rrs rr)
    each = All-map (λ o. o ≡ rr.octets) (λ (x : Rr). x.octets) (filter (is_together rr) rrs) (λ n d short. same _ (Contains-get_or (filter (is_together rr) rrs) n d short))

    own : Contains (found_in rrs rr) rr.octets
    own = into_map (λ (x : Rr). x.octets) (filter (is_together rr) rrs) rr (kept (is_together rr) rrs rr in' ((together.decides rr rr).1 refl))

-- ---- what a group is stored as

-- the data of an NSEC reads as the next owner and the types
block_types : (kind : NameKind) → type_in kind ∷ RRSIG_TYPE ∷ NSEC_TYPE ∷ [] ≡ types_of (record { window = 0; bitmap = first_in kind ∷ 0 ∷ 0 ∷ 0 ∷ 0 ∷ 3 ∷ [] } ∷ [])
block_types Host = refl
block_types Above = refl
block_types Cut = refl
block_types Wild = refl

map_types : (k : ℕ) → types_at k ≡ types_of (record { window = 0; bitmap = first_of k ∷ 0 ∷ 0 ∷ 0 ∷ 0 ∷ 3 ∷ [] } ∷ [])
map_types zero = refl
map_types (suc i) = block_types (kind_at i)

pub is_map : (k : ℕ) → IsTypeMap (type_map (first_of k)) (types_at k)
is_map k = record {
  blocks = record { window = 0; bitmap = first_of k ∷ 0 ∷ 0 ∷ 0 ∷ 0 ∷ 3 ∷ [] } ∷ [];
  written = refl;
  formed = (omega arith, record { some = omega arith; short = omega arith; trimmed = λ (e : 3 ≡ 0). omega (arith, e) }, tt);
  meaning = map_types k;
}

nsec_reads : (names k : ℕ) → k ≤ names → (parts : NsecParts) → IsNsec (nsec_data names k) parts → (parts.next ≡ next_owner names k) × (parts.types ≡ types_at k)
nsec_reads names k small parts reads =
    let next : List Label = next_owner names k in
    let plain = plain_next names k small in
    nsec_same (nsec_data names k) parts (record { next = next; types = types_at k }) reads
    (record {
      taken = length (wire_of next);
      name = record { labels = next; rest = type_map (first_of k); spelled = refl; sizes = plain.sizes; size = refl; fits = plain.fits; lower = plain.lower };
      map = subst (λ octets. IsTypeMap octets (types_at k)) (sym (drop_at (wire_of next) (type_map (first_of k)) (length (wire_of next)) refl)) (is_map k);
    })

-- a record is true of the zone, and no hash has part in it
pub record IsPlainlyTrue (zone : Zone) (kept : Record) : Type 0 where
  pub is_true : IsTrueOf zone kept
  pub no_clash : (name : List Label) → IsClashFreeFor zone name kept

module _ (seed names k now : ℕ) (few : names ≤ 1000000) (small : k ≤ names) (rrs : List Rr) (all : All (IsOne seed names k) rrs) where
  denial : (rtype : ℕ) → rtype ≡ NSEC_TYPE → is_denial_type rtype ≡ false → ⊥
  denial rtype is plain = let e = ap is_denial_type is in cc

  not_wildcard_cut : (i : ℕ) → kind_at i ≡ Wild → kind_at i ≡ Cut → ⊥
  not_wildcard_cut i wild cut = cc

  same_part : (zone owner zone' owner' : List Label) (rtype rtype' : ℕ) (items items' : List (List ℕ)) → zone ≡ zone' → owner ≡ owner' → rtype ≡ rtype' → items ≡ items'
      → (let a : SetPart = record { zone = zone; owner = owner; rtype = rtype; items = items } in let b : SetPart = record { zone = zone'; owner = owner'; rtype = rtype'; items = items' } in a ≡ b)
  same_part zone owner zone' owner' rtype rtype' items items' p q r s = cc

  set_true : (rr : Rr) (set : SetRec) → IsOne seed names k rr → is_rrsig rr ≡ false → Contains rrs rr → IsStoredSet now (group_of now rrs rr) set → IsConsistentSet (made_zone seed names) (set_part set)
  set_true rr set (signing covered is data') plain in' stored = absurd (not_signing rr plain is)
  set_true rr set (of_nsec is) plain in' stored = absurd (denial rr.rtype (ap (λ (r : Rr). r.rtype) is) stored.no_denial)
  set_true rr set (of_soa is) plain in' stored =
      let kept = kept_as seed names k now rrs rr all set.zone set.owner set.life stored.kept in
      let items = group_data seed names k now rrs rr all in' plain in
      subst (IsConsistentSet (made_zone seed names))
      (sym (same_part set.zone set.owner made_example made_example set.rtype SOA_TYPE set.items (group_of now rrs rr).items kept.0 (kept.1 ∙ ap (λ (r : Rr). r.owner) is) (stored.rtype_is ∙ ap (λ (r : Rr). r.rtype) is) stored.items_are))
      (soa_true seed names (group_of now rrs rr).items few (subst (λ d. HasOnly (group_of now rrs rr).items d) (ap (λ (r : Rr). r.octets) is) items))
  set_true rr set (of_wildcard i n at is) plain in' stored =
      let kept = kept_as seed names k now rrs rr all set.zone set.owner set.life stored.kept in
      let items = group_data seed names k now rrs rr all in' plain in
      let rtype : type_in (kind_at i) ≡ A_TYPE = ap type_in at in
      let data' : data_in (kind_at i) seed i ≡ address_at seed i = ap (λ t. data_in t seed i) at in
      subst (IsConsistentSet (made_zone seed names))
      (sym (same_part set.zone set.owner made_example (made_owner (suc i)) set.rtype (type_in (kind_at i)) set.items (group_of now rrs rr).items kept.0 (kept.1 ∙ ap (λ (r : Rr). r.owner) is) (stored.rtype_is ∙ ap (λ (r : Rr). r.rtype) is ∙ sym rtype) stored.items_are))
      (named_true seed names i (group_of now rrs rr).items few (omega (arith, n, small)) (not_wildcard_cut i at) (subst (λ d. HasOnly (group_of now rrs rr).items d) (ap (λ (r : Rr). r.octets) is ∙ sym data') items))

  same_nsec_part : (zone owner next zone' owner' next' : List Label) (types types' : List ℕ) → zone ≡ zone' → owner ≡ owner' → next ≡ next' → types ≡ types'
      → (let a : NsecPart = record { zone = zone; owner = owner; next = next; types = types } in let b : NsecPart = record { zone = zone'; owner = owner'; next = next'; types = types' } in a ≡ b)
  same_nsec_part zone owner next zone' owner' next' types types' p q r s = cc

  nsec_rec_true : (rr : Rr) (nsec : NsecRec) → IsOne seed names k rr → Contains rrs rr → IsStoredNsec now (group_of now rrs rr) nsec → IsConsistentNsec (made_zone seed names) (nsec_part nsec)
  nsec_rec_true rr nsec (signing covered is data') in' stored = absurd (omega (arith, is, stored.type_is))
  nsec_rec_true rr nsec (of_soa is) in' stored = absurd (omega (arith, ap (λ (r : Rr). r.rtype) is, stored.type_is))
  nsec_rec_true rr nsec (of_wildcard i n at is) in' stored = absurd (omega (arith, ap (λ (r : Rr). r.rtype) is, stored.type_is))
  nsec_rec_true rr nsec (of_nsec is) in' stored =
      let kept = kept_as seed names k now rrs rr all nsec.zone nsec.owner nsec.life stored.kept in
      let plain : is_rrsig rr ≡ false = ap is_rrsig is in
      let items = group_data seed names k now rrs rr all in' plain in
      let image : nsec.image ≡ nsec_data names k = (items nsec.image).0 (subst (λ xs. Contains xs nsec.image) (sym stored.item_is) (here nsec.image [])) ∙ ap (λ (r : Rr). r.octets) is in
      let parts = nsec_reads names k small stored.parts (subst (λ o. IsNsec o stored.parts) image stored.reads) in
      subst (IsConsistentNsec (made_zone seed names))
      (sym (same_nsec_part nsec.zone nsec.owner nsec.next made_example (made_owner k) (next_owner names k) nsec.types (types_at k) kept.0 (kept.1 ∙ ap (λ (r : Rr). r.owner) is) (stored.next_is ∙ parts.0) (stored.types_are ∙ parts.1)))
      (nsec_true seed names k few small)

  no_nsec3 : (rr : Rr) → IsOne seed names k rr → rr.rtype ≡ NSEC3_TYPE → ⊥
  no_nsec3 rr (signing covered is data') same = omega (arith, is, same)
  no_nsec3 rr (of_soa is) same = omega (arith, ap (λ (r : Rr). r.rtype) is, same)
  no_nsec3 rr (of_nsec is) same = omega (arith, ap (λ (r : Rr). r.rtype) is, same)
  no_nsec3 rr (of_wildcard i n at is) same = omega (arith, ap (λ (r : Rr). r.rtype) is, same)

  -- whatever a group of these records is stored as is true of the zone
  pub stored_true : (rr : Rr) (kept : Record) → Contains rrs rr → is_rrsig rr ≡ false → IsStored now (group_of now rrs rr) kept → IsPlainlyTrue (made_zone seed names) kept
  stored_true rr (Set set) in' plain stored = record { is_true = set_true rr set (All-contains (IsOne seed names k) rrs rr all in') plain in' stored; no_clash = λ name. tt }
  stored_true rr (Nsec nsec) in' plain stored = record { is_true = nsec_rec_true rr nsec (All-contains (IsOne seed names k) rrs rr all in') in' stored; no_clash = λ name. tt }
  stored_true rr (Nsec3 nsec3) in' plain stored = absurd (no_nsec3 rr (All-contains (IsOne seed names k) rrs rr all in') stored.type_is)

  -- each group is that of one of the records
  pub group_from : (group : Group) → Contains (groups_of now rrs) group → (rr : Rr) × Contains rrs rr × (is_rrsig rr ≡ false) × (group_of now rrs rr ≡ group)
  group_from group in' =
      let from = from_map (group_of now rrs) (each_once is_together (filter (λ rr. not (is_rrsig rr)) rrs)) group in' in
      let there = was_kept (λ rr. not (is_rrsig rr)) rrs from.0 (in_once is_together (filter (λ rr. not (is_rrsig rr)) rrs) from.0 from.1) in
      (from.0, there.0, not-true (is_rrsig from.0) there.1, from.2)

-- each record that intake takes from a made message is true of the zone
pub taken_plain : (seed names k now : ℕ) (taken : Taken) → names ≤ 1000000 → k ≤ names → Gives (message_at seed names k) now (Ok taken) → All (IsPlainlyTrue (made_zone seed names)) taken.batch.records
taken_plain seed names k now taken few small gives = all_by_member (IsPlainlyTrue (made_zone seed names)) taken.batch.records by
  where
    rrs : List Rr
    rrs = (made_message seed names k).answer ++ (made_message seed names k).authority

    is_message : gives.accepted.message ≡ made_message seed names k
    is_message = one_message (message_at seed names k) gives.accepted.message (made_message seed names k) gives.accepted.reads (made_reads seed names k small)

    by : (kept : Record) → Contains taken.batch.records kept → IsPlainlyTrue (made_zone seed names) kept
    by kept in' =
        let brings = gives.accepted.brings in
        let in_taken : Contains (flat_map option_to_list brings.taken) kept = subst (λ (b : Batch). Contains b.records kept) brings.batch_is in' in
        let pair = in_pairs (IsTakenAs now) (groups_of now (gives.accepted.message.answer ++ gives.accepted.message.authority)) brings.taken kept brings.each in_taken in
        let in_group : Contains (groups_of now rrs) pair.0 = subst (λ (m : Message). Contains (groups_of now (m.answer ++ m.authority)) pair.0) is_message pair.1 in
        let from = group_from seed names k now few small rrs (each_one seed names k) pair.0 in_group in
        stored_true seed names k now few small rrs (each_one seed names k) from.0 kept from.1 from.2 (subst (λ (g : Group). IsStored now g kept) (sym from.3) pair.2)

pub taken_true : (seed names k now : ℕ) (taken : Taken) → names ≤ 1000000 → k ≤ names → Gives (message_at seed names k) now (Ok taken) → All (IsTrueOf (made_zone seed names)) taken.batch.records
taken_true seed names k now taken few small gives =
    All-weaker (IsPlainlyTrue (made_zone seed names)) (IsTrueOf (made_zone seed names)) (λ item h. h.is_true) taken.batch.records (taken_plain seed names k now taken few small gives)

pub taken_plain_among : (seed names now : ℕ) (message : List ℕ) (taken : Taken) → names ≤ 1000000 → Contains (messages_of seed names) message → Gives message now (Ok taken) → All (IsPlainlyTrue (made_zone seed names)) taken.batch.records
taken_plain_among seed names now message taken few in' gives =
    let at = at_number (message_at seed names) (names + 1) message in' in
    taken_plain seed names at.0 now taken few (omega (arith, at.1)) (subst (λ octets. Gives octets now (Ok taken)) (sym at.2) gives)

pub taken_true_among : (seed names now : ℕ) (message : List ℕ) (taken : Taken) → names ≤ 1000000 → Contains (messages_of seed names) message → Gives message now (Ok taken) → All (IsTrueOf (made_zone seed names)) taken.batch.records
taken_true_among seed names now message taken few in' gives =
    All-weaker (IsPlainlyTrue (made_zone seed names)) (IsTrueOf (made_zone seed names)) (λ item h. h.is_true) taken.batch.records (taken_plain_among seed names now message taken few in' gives)
