-- Each group of a made message is stored until its signatures expire.
use Rattle.std.proofs.Common.{◌≡◌, Bool, true, false, ℕ, zero, suc, ◌+◌, ◌^◌, ◌<◌, ◌≤◌, if◌then◌else◌, ⊎_elim, List, [], ◌∷◌, ◌++◌, length, map, IsTrue, refl, sym, ◌∙◌, ap, subst, arith}
use Rattle.std.specs.Prelude.{nat_lt}
use Rattle.std.specs.List.{All, Contains, filter}
use Rattle.std.proofs.lemmas.Bool.{cond-false, le-ltb}
use Rattle.std.proofs.lemmas.List.{drop_at}
use Rattle.std.proofs.lemmas.List.Elements.{All-cons, All-append, All-contains, All-map, Contains-get_or}
use Rattle.facts.proofs.Filters.{was_kept, kept as passes_there}
use Rattle.facts.proofs.Maps.{into_map}
use Rattle.dname.specs.Name.{Label, IsUnder, wire_of}
use Rattle.dname.specs.declared.types.TheConstants.{NSEC_TYPE, RRSIG_TYPE}
use Rattle.dnswire.specs.declared.rr.Rr.{Rr}
use Rattle.denial_records.specs.TypeSet.{IsTypeMap}
use Rattle.denial_records.specs.declared.rrsig.Rrsig.{Rrsig}
use Rattle.denial_records.specs.declared.nsec_parts.NsecParts.{NsecParts}
use Rattle.denial_records.specs.declared.set_rec.SetRec.{SetRec}
use Rattle.denial_records.specs.declared.nsec_rec.NsecRec.{NsecRec}
use Rattle.denial_records.specs.declared.record.Record.{Record}
use Rattle.denial_records.specs.declared.record.Record.TheVariants.{Set, Nsec}
use Rattle.dname.specs.Tests.{same_octets}
use Rattle.intake.specs.Group.{Group, is_together, is_rrsig, seconds_to, covers, group_of}
use Rattle.intake.specs.Signed.{counted_ttl, life_of}
use Rattle.intake.specs.Stored.{is_kept_type, is_denial_type, owner_labels, limit_of, IsInside, IsKept, IsStored}
use Rattle.intake.proofs.GroupLemmas.{together}
use Rattle.zone_maker.specs.Made.{made_example, NameKind, Host, Above, Cut, Wild, kind_at, name_at, owner_in, made_owner, next_owner}
use Rattle.zone_maker.specs.Messages.{signature_data, first_of, type_map, nsec_data}
use Rattle.made_laws.specs.MadeNsec.{types_at}
use Rattle.zone_maker.proofs.NameLemmas.{label_at}
use Rattle.made_laws.proofs.OrderLemmas.{owner_under}
use Rattle.made_laws.proofs.TrueLemmas.{next_by}
use Rattle.made_laws.proofs.WrittenLemmas.{rr_of}
use Rattle.made_laws.proofs.PlainLemmas.{plain_next}
use Rattle.made_laws.proofs.TakenLemmas.{IsOne, is_map, not_signing, group_signature, same_data}
use Rattle.made_laws.proofs.TakenLemmas.IsOne.{signing, of_soa, of_nsec, of_wildcard}
use Rattle.made_laws.proofs.GivenLemmas.{once_alone, some_once, least_alive, AreSaid, all_said, signature_covers}

-- ---- owners

labels_in : (kind : NameKind) (i : ℕ) → 2 ≤ owner_labels (owner_in kind (name_at i))
labels_in Host i = omega arith
labels_in Above i = omega arith
labels_in Cut i = omega arith
labels_in Wild i = omega arith

pub labels_enough : (k : ℕ) → 2 ≤ owner_labels (made_owner k)
labels_enough zero = omega arith
labels_enough (suc i) = labels_in (kind_at i) i

pub under_apex : (k : ℕ) → IsUnder (made_owner k) made_example
under_apex zero = ([], refl)
under_apex (suc i) = owner_under (kind_at i) (label_at i)

pub next_under : (names k : ℕ) → k ≤ names → IsUnder (next_owner names k) made_example
next_under names k small = ⊎_elim
    (λ (h : (k < names) × (next_owner names k ≡ made_owner (suc k))). subst (λ (n : List Label). IsUnder n made_example) (sym h.1) (under_apex (suc k)))
    (λ (h : (k ≡ names) × (next_owner names k ≡ made_example)). subst (λ (n : List Label). IsUnder n made_example) (sym h.1) ([], refl))
    (next_by names k small)

hour : (seed names k : ℕ) (rr : Rr) → IsOne seed names k rr → (rr.rtype ≡ RRSIG_TYPE → ⊥) → rr.ttl ≡ 3600
hour seed names k rr (signing covered is data') plain = absurd (plain is)
hour seed names k rr (of_soa is) plain = ap (λ (r : Rr). r.ttl) is
hour seed names k rr (of_nsec is) plain = ap (λ (r : Rr). r.ttl) is
hour seed names k rr (of_wildcard i n at is) plain = ap (λ (r : Rr). r.ttl) is

-- ---- a record of the message, and its signature

module _ (seed names k now : ℕ) (early : now < 2000000000) (rrs : List Rr) (all : All (IsOne seed names k) rrs) where
  pub record IsSigned (owner : List Label) (rtype : ℕ) (rdata : List ℕ) : Type 0 where
    pub there : Contains rrs (rr_of owner rtype rdata)
    pub signature : Contains rrs (rr_of owner RRSIG_TYPE (signature_data owner rtype))
    pub small : rtype < 2 ^ 16
    pub plain : is_rrsig (rr_of owner rtype rdata) ≡ false
    pub kept_type : IsTrue (is_kept_type rtype)
    pub inside : IsInside rtype owner made_example
    pub enough : 2 ≤ owner_labels owner

  module _ (owner : List Label) (rtype : ℕ) (rdata : List ℕ) (is : IsSigned owner rtype rdata) where
    abbrev group : Group
    group = group_of now rrs (rr_of owner rtype rdata)

    alike : (other : Rr) → Contains (filter (is_together (rr_of owner rtype rdata)) rrs) other → (Contains rrs other) × (rtype ≡ other.rtype)
    alike other in' =
        let kept = was_kept (is_together (rr_of owner rtype rdata)) rrs other in' in
        let keys = (together.decides (rr_of owner rtype rdata) other).0 kept.1 in
        (kept.0, λ i. (keys i).rtype)

    not_rrsig : rtype ≡ RRSIG_TYPE → ⊥
    not_rrsig = not_signing (rr_of owner rtype rdata) is.plain

    own : Contains (filter (is_together (rr_of owner rtype rdata)) rrs) (rr_of owner rtype rdata)
    own = passes_there (is_together (rr_of owner rtype rdata)) rrs (rr_of owner rtype rdata) is.there ((together.decides (rr_of owner rtype rdata) (rr_of owner rtype rdata)).1 refl)

    pub one_datum : group.items ≡ rdata ∷ []
    one_datum = once_alone (map (λ (x : Rr). x.octets) (filter (is_together (rr_of owner rtype rdata)) rrs)) rdata
        (All-map (λ o. o ≡ rdata) (λ (x : Rr). x.octets) (filter (is_together (rr_of owner rtype rdata)) rrs) (λ n d short.
        let other = alike _ (Contains-get_or (filter (is_together (rr_of owner rtype rdata)) rrs) n d short) in
        same_data seed names k (rr_of owner rtype rdata) _ (All-contains (IsOne seed names k) rrs (rr_of owner rtype rdata) all is.there) (All-contains (IsOne seed names k) rrs _ all other.0) not_rrsig other.1))
        (into_map (λ (x : Rr). x.octets) (filter (is_together (rr_of owner rtype rdata)) rrs) (rr_of owner rtype rdata) own)

    hours : All (λ ttl. 0 < counted_ttl ttl) group.ttls
    hours = All-map (λ ttl. 0 < counted_ttl ttl) (λ (x : Rr). x.ttl) (filter (is_together (rr_of owner rtype rdata)) rrs) (λ n d short.
        let other = alike _ (Contains-get_or (filter (is_together (rr_of owner rtype rdata)) rrs) n d short) in
        subst (λ ttl. 0 < counted_ttl ttl) (sym (hour seed names k _ (All-contains (IsOne seed names k) rrs _ all other.0) (λ e. not_rrsig (other.1 ∙ e)))) (omega arith))

    pub said : AreSaid now early (rr_of owner rtype rdata) group.signatures
    said = all_said now early (rr_of owner rtype rdata) group.signatures (λ s in'. group_signature seed names k now rrs (rr_of owner rtype rdata) all s in')

    abbrev covering : List Rr
    covering = filter (covers now (rr_of owner rtype rdata)) rrs

    some_signature : 1 ≤ length group.signatures
    some_signature =
        let signature : Rr = rr_of owner RRSIG_TYPE (signature_data owner rtype) in
        some_once same_octets (map (λ (x : Rr). x.octets) covering) signature.octets
        (into_map (λ (x : Rr). x.octets) covering signature (passes_there (covers now (rr_of owner rtype rdata)) rrs signature is.signature (signature_covers now early owner rtype rdata is.small)))

    lasting : (limit : ℕ) → 0 < limit → 0 < life_of group limit 3600 (map (λ (s : Rrsig). seconds_to s.expiration now) said.each)
    lasting limit some = least_alive limit (map counted_ttl group.ttls ++ 3600 ∷ map (λ (s : Rrsig). seconds_to s.expiration now) said.each) some
        (All-append (λ n. 0 < n) (map counted_ttl group.ttls) (3600 ∷ map (λ (s : Rrsig). seconds_to s.expiration now) said.each)
        (All-map (λ n. 0 < n) counted_ttl group.ttls hours)
        (All-cons (λ n. 0 < n) 3600 (map (λ (s : Rrsig). seconds_to s.expiration now) said.each) (omega arith)
        (All-map (λ n. 0 < n) (λ (s : Rrsig). seconds_to s.expiration now) said.each said.live)))

    limit_some : (b : Bool) → 0 < (if b then 10800 else 86400)
    limit_some true = omega arith
    limit_some false = omega arith

    pub kept : IsKept now group made_example owner (life_of group (limit_of rtype) 3600 (map (λ (s : Rrsig). seconds_to s.expiration now) said.each))
    kept = record {
      labels = owner_labels owner;
      original_ttl = 3600;
      left = map (λ (s : Rrsig). seconds_to s.expiration now) said.each;
      class_is = refl;
      type_kept = is.kept_type;
      signed = record { each = said.each; read = said.read; some = omega (arith, said.long, some_signature); same = said.same; left_is = refl };
      inside = is.inside;
      few_labels = omega arith;
      enough_labels = is.enough;
      own_name = λ own. refl;
      owner_is = sym (cond-false (nat_lt (owner_labels owner) (owner_labels owner)) _ owner (le-ltb (owner_labels owner) (owner_labels owner) (omega arith)));
      single = λ one. ap length one_datum;
      life_is = refl;
      alive = lasting (limit_of rtype) (limit_some (is_denial_type rtype));
    }

    -- a set is stored
    pub set_stored : is_denial_type rtype ≡ false → (r : Record) × IsStored now group r
    set_stored no_denial =
        let span : ℕ = life_of group (limit_of rtype) 3600 (map (λ (s : Rrsig). seconds_to s.expiration now) said.each) in
        let set : SetRec = record { zone = made_example; owner = owner; rtype = rtype; life = span; expiry = now + span; items = group.items; signatures = group.signatures } in (
          Set set,
          record { kept = kept; no_denial = no_denial; rtype_is = refl; items_are = refl; signatures_are = refl; expiry_is = refl },
        )

  -- and so is the NSEC
  pub nsec_stored : k ≤ names → IsSigned (made_owner k) NSEC_TYPE (nsec_data names k) → (r : Record) × IsStored now (group_of now rrs (rr_of (made_owner k) NSEC_TYPE (nsec_data names k))) r
  nsec_stored small is =
      let g : Group = group_of now rrs (rr_of (made_owner k) NSEC_TYPE (nsec_data names k)) in
      let next : List Label = next_owner names k in
      let plain = plain_next names k small in
      let parts : NsecParts = record { next = next; types = types_at k } in
      let span : ℕ = life_of g (limit_of NSEC_TYPE) 3600 (map (λ (s : Rrsig). seconds_to s.expiration now) (said (made_owner k) NSEC_TYPE (nsec_data names k) is).each) in
      let nsec : NsecRec = record { zone = made_example; owner = made_owner k; next = next; types = types_at k; life = span; expiry = now + span; image = nsec_data names k; signatures = g.signatures } in (
        Nsec nsec,
        record {
          kept = kept (made_owner k) NSEC_TYPE (nsec_data names k) is;
          type_is = refl;
          parts = parts;
          item_is = one_datum (made_owner k) NSEC_TYPE (nsec_data names k) is;
          reads = record {
            taken = length (wire_of next);
            name = record { labels = next; rest = type_map (first_of k); spelled = refl; sizes = plain.sizes; size = refl; fits = plain.fits; lower = plain.lower };
            map = subst (λ octets. IsTypeMap octets (types_at k)) (sym (drop_at (wire_of next) (type_map (first_of k)) (length (wire_of next)) refl)) (is_map k);
          };
          next_inside = next_under names k small;
          next_is = refl;
          types_are = refl;
          signatures_are = refl;
          expiry_is = refl;
        },
      )
