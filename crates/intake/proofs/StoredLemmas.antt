-- A signed group that passes is kept, and only such a one.
use Rattle.std.proofs.Common.{◌≡◌, ℕ, ◌^◌, ◌<◌, ◌≤◌, min, Bool, true, false, if◌then◌else◌, List, [], ◌∷◌, ◌++◌, length, drop, map, fold, None, nat_lt, refl, sym, ◌∙◌, ap, subst, arith}
use Rattle.std.proofs.lemmas.Bool.{le-ltb}
use Rattle.std.proofs.Math.Nat.{min-eq_left, min-le_left}
use Rattle.std.proofs.lemmas.List.Sums.{fold-append}
use Rattle.dname.specs.Name.{Label, IsUnder}
use Rattle.dname.specs.declared.types.TheConstants.{NSEC_TYPE, NSEC3_TYPE}
use Rattle.dname.proofs.ReadLemmas.{one_name}
use Rattle.denial_records.specs.NsecParts.{IsNsec}
use Rattle.denial_records.specs.TypeSet.{IsTypeMap}
use Rattle.denial_records.specs.Nsec3Parts.{IsNsec3}
use Rattle.denial_records.specs.declared.nsec_parts.NsecParts.{NsecParts}
use Rattle.denial_records.specs.declared.nsec_rec.NsecRec.{NsecRec}
use Rattle.denial_records.specs.declared.nsec3_rec.Nsec3Rec.{Nsec3Rec}
use Rattle.denial_records.specs.declared.record.Record.{Record}
use Rattle.denial_records.specs.declared.record.Record.TheVariants.{Set, Nsec, Nsec3}
use Rattle.denial_records.proofs.TypeSetLemmas.{one_meaning}
use Rattle.dname.specs.declared.types.TheConstants.{IN_CLASS}
use Rattle.dname.specs.Tests.{each_once, same_octets}
use Rattle.intake.specs.Group.{Group}
use Rattle.intake.specs.Signed.{Agree, counted_ttl, least_of, life_of}
use Rattle.intake.specs.Stored.{is_own_type, is_denial_type, limit_of, owner_labels, signed_name, IsInside, IsHashedOwner, IsKept, IsStored, IsStoredNsec, IsStoredNsec3}
use Rattle.intake.specs.Pile.{least_ttl, IsPileOf}
use Rattle.intake.specs.declared.pile.Pile.{Pile}
use Rattle.intake.specs.declared.agreed.Agreed.{Agreed}
use Rattle.intake.specs.SignedGroup.{IsAgreed, Passes, life_in, IsGroupOf, IsTakenOf}
use Rattle.intake.specs.declared.signed_group.SignedGroup.{SignedGroup}
use Rattle.intake.proofs.AgreedLemmas.{agree_same}
use Rattle.intake.proofs.TableLemmas.{if_false}

-- ---- lives

min_assoc : (a b c : ℕ) → min (min a b) c ≡ min a (min b c)
min_assoc a b c = omega arith

fold_min : (a b : ℕ) (xs : List ℕ) → fold min (min a b) xs ≡ min a (fold min b xs)
fold_min a b [] = refl
fold_min a b (x ∷ xs) = ap (λ n. fold min n xs) (min_assoc a b x) ∙ fold_min a (min b x) xs

limit_small : (rtype : ℕ) → limit_of rtype ≤ 2 ^ 31
limit_small rtype = small (is_denial_type rtype)
  where
    small : (b : Bool) → (if b then 10800 else 86400) ≤ 2 ^ 31
    small true = omega arith
    small false = omega arith

life_parts : (limit original_ttl : ℕ) (ttls left : List ℕ) → limit ≤ 2 ^ 31
    → least_of limit (map counted_ttl ttls ++ original_ttl ∷ left) ≡ min (min (min limit (least_ttl ttls)) original_ttl) (least_of (2 ^ 32) left)
life_parts limit original_ttl ttls left small =
    let first : fold min limit (map counted_ttl ttls) ≡ min limit (least_ttl ttls) = ap (λ n. fold min n (map counted_ttl ttls)) (sym (min-eq_left small)) ∙ fold_min limit (2 ^ 31) (map counted_ttl ttls) in
    let most = min (min limit (least_ttl ttls)) original_ttl in
    let below : most ≤ 2 ^ 32 = omega (arith, min-le_left (min limit (least_ttl ttls)) original_ttl, min-le_left limit (least_ttl ttls)) in
    fold-append min limit (map counted_ttl ttls) (original_ttl ∷ left)
    ∙ ap (λ n. fold min (min n original_ttl) left) first
    ∙ ap (λ n. fold min n left) (sym (min-eq_left below))
    ∙ fold_min most (2 ^ 32) left

-- ---- a group by its parts

same_group : (owner owner' : List Label) (class class' rtype rtype' : ℕ) (ttls : List ℕ) (items items' signatures signatures' : List (List ℕ))
    → owner ≡ owner' → class ≡ class' → rtype ≡ rtype' → items ≡ items' → signatures ≡ signatures'
    → (let a : Group = record { owner = owner; class = class; rtype = rtype; ttls = ttls; items = items; signatures = signatures } in
    let b : Group = record { owner = owner'; class = class'; rtype = rtype'; ttls = ttls; items = items'; signatures = signatures' } in a ≡ b)
same_group owner owner' class class' rtype rtype' ttls items items' signatures signatures' p q r s t = cc

abbrev pub group_by : SignedGroup → List ℕ → List (List ℕ) → List (List ℕ) → Group
group_by signed ttls items signatures = record { owner = signed.owner; class = signed.class; rtype = signed.rtype; ttls = ttls; items = items; signatures = signatures }

group_is : (now : ℕ) (group : Group) (signed : SignedGroup) (items signatures : List (List ℕ)) → IsGroupOf now group signed items signatures → group_by signed group.ttls items signatures ≡ group
group_is now group signed items signatures is =
    same_group signed.owner group.owner signed.class group.class signed.rtype group.rtype group.ttls items group.items signatures group.signatures is.owner_is is.class_is is.rtype_is is.items_are is.signatures_are

kept_by : (now : ℕ) (signed : SignedGroup) (ttls : List ℕ) (items signatures : List (List ℕ)) → Passes signed → signed.ttl ≡ least_ttl ttls → signed.count ≡ length items → IsAgreed now signatures signed.agreed
    → IsKept now (group_by signed ttls items signatures) signed.agreed.signer (signed_name signed.owner signed.agreed.labels) (life_in signed)
kept_by now signed ttls items signatures passes ttl-is count-is agreed = record {
  labels = signed.agreed.labels;
  original_ttl = signed.agreed.original_ttl;
  left = agreed.left;
  class_is = passes.class_is;
  type_kept = passes.type_kept;
  signed = agreed.agree;
  inside = passes.inside;
  few_labels = passes.labels.few;
  enough_labels = passes.labels.enough;
  own_name = passes.labels.own;
  owner_is = refl;
  single = λ single. sym count-is ∙ passes.single single;
  life_is =
      ap (λ t. min (min (min (limit_of signed.rtype) t) signed.agreed.original_ttl) signed.agreed.left) ttl-is
      ∙ ap (λ l. min (min (min (limit_of signed.rtype) (least_ttl ttls)) signed.agreed.original_ttl) l) agreed.least
      ∙ sym (life_parts (limit_of signed.rtype) signed.agreed.original_ttl ttls agreed.left (limit_small signed.rtype));
  alive = passes.alive;
}

pub kept_of : (now : ℕ) (group : Group) (signed : SignedGroup) (items signatures : List (List ℕ)) → Passes signed → IsGroupOf now group signed items signatures
    → IsKept now group signed.agreed.signer (signed_name signed.owner signed.agreed.labels) (life_in signed)
kept_of now group signed items signatures passes is =
    subst (λ (g : Group). IsKept now g signed.agreed.signer (signed_name signed.owner signed.agreed.labels) (life_in signed)) (group_is now group signed items signatures is)
    (kept_by now signed group.ttls items signatures passes is.ttl_is is.count_is is.agreed)

-- a group that is never an expansion is kept at its owner
pub kept_own : (now : ℕ) (group : Group) (signed : SignedGroup) (items signatures : List (List ℕ)) → Passes signed → IsGroupOf now group signed items signatures → is_own_type signed.rtype ≡ true
    → IsKept now group signed.agreed.signer signed.owner (life_in signed)
kept_own now group signed items signatures passes is own =
    let most : owner_labels signed.owner ≤ signed.agreed.labels = omega (arith, passes.labels.own own) in
    let same : signed_name signed.owner signed.agreed.labels ≡ signed.owner = if_false (nat_lt signed.agreed.labels (owner_labels signed.owner)) _ signed.owner (le-ltb signed.agreed.labels (owner_labels signed.owner) most) in
    subst (λ owner. IsKept now group signed.agreed.signer owner (life_in signed)) same (kept_of now group signed items signatures passes is)

-- what is kept is one
pub record SameKept (zone zone' owner owner' : List Label) (life life' : ℕ) : Type 0 where
  pub zones : zone ≡ zone'
  pub owners : owner ≡ owner'
  pub lives : life ≡ life'

pub kept_same : (now : ℕ) (group : Group) (zone zone' owner owner' : List Label) (life life' : ℕ) → IsKept now group zone owner life → IsKept now group zone' owner' life' → SameKept zone zone' owner owner' life life'
kept_same now group zone zone' owner owner' life life' p q =
    let same = agree_same group.signatures now zone zone' p.labels q.labels p.original_ttl q.original_ttl p.left q.left p.signed q.signed in
    record {
      zones = same.0.signer_same;
      owners = p.owner_is ∙ ap (signed_name group.owner) same.0.labels_same ∙ sym q.owner_is;
      lives =
          p.life_is
          ∙ ap (λ t. life_of group (limit_of group.rtype) t p.left) same.0.ttl_same
          ∙ ap (λ l. life_of group (limit_of group.rtype) q.original_ttl l) same.1
          ∙ sym q.life_is;
    }

passes_by : (now : ℕ) (signed : SignedGroup) (ttls : List ℕ) (items signatures : List (List ℕ)) (zone owner : List Label) (life : ℕ) → signed.ttl ≡ least_ttl ttls → signed.count ≡ length items
    → IsAgreed now signatures signed.agreed → IsKept now (group_by signed ttls items signatures) zone owner life → Passes signed
passes_by now signed ttls items signatures zone owner life ttl-is count-is agreed kept =
    let same = agree_same signatures now zone signed.agreed.signer kept.labels signed.agreed.labels kept.original_ttl signed.agreed.original_ttl kept.left agreed.left kept.signed agreed.agree in
    let labels = same.0.labels_same in
    record {
      class_is = kept.class_is;
      type_kept = kept.type_kept;
      inside = subst (IsInside signed.rtype signed.owner) same.0.signer_same kept.inside;
      labels = record {
        few = subst (λ n. n ≤ owner_labels signed.owner) labels kept.few_labels;
        enough = subst (λ (z : List Label). length z ≤ signed.agreed.labels) same.0.signer_same (subst (λ n. length zone ≤ n) labels kept.enough_labels);
        own = λ own. sym labels ∙ kept.own_name own;
      };
      single = λ single. count-is ∙ kept.single single;
      alive =
          let life-is : life ≡ life_in signed =
          kept.life_is
          ∙ ap (λ t. life_of (group_by signed ttls items signatures) (limit_of signed.rtype) t kept.left) same.0.ttl_same
          ∙ ap (λ l. life_of (group_by signed ttls items signatures) (limit_of signed.rtype) signed.agreed.original_ttl l) same.1
          ∙ life_parts (limit_of signed.rtype) signed.agreed.original_ttl ttls agreed.left (limit_small signed.rtype)
          ∙ ap (λ t. min (min (min (limit_of signed.rtype) t) signed.agreed.original_ttl) (least_of (2 ^ 32) agreed.left)) (sym ttl-is)
          ∙ ap (λ l. min (min (min (limit_of signed.rtype) signed.ttl) signed.agreed.original_ttl) l) (sym agreed.least) in
          subst (λ n. 0 < n) life-is kept.alive;
    }

pub passes_of : (now : ℕ) (group : Group) (signed : SignedGroup) (items signatures : List (List ℕ)) (zone owner : List Label) (life : ℕ) → IsGroupOf now group signed items signatures
    → IsKept now group zone owner life → Passes signed
passes_of now group signed items signatures zone owner life is kept =
    passes_by now signed group.ttls items signatures zone owner life is.ttl_is is.count_is is.agreed
    (subst (λ (g : Group). IsKept now g zone owner life) (sym (group_is now group signed items signatures is)) kept)

-- ---- what is stored is kept

pub record HasKept (now : ℕ) (group : Group) : Type 0 where
  pub zone : List Label
  pub owner : List Label
  pub life : ℕ
  pub kept : IsKept now group zone owner life

pub stored_kept : (now : ℕ) (group : Group) (taken : Record) → IsStored now group taken → HasKept now group
stored_kept now group (Set set) stored = record { zone = set.zone; owner = set.owner; life = set.life; kept = stored.kept }
stored_kept now group (Nsec nsec) stored = record { zone = nsec.zone; owner = nsec.owner; life = nsec.life; kept = stored.kept }
stored_kept now group (Nsec3 nsec3) stored = record { zone = nsec3.zone; owner = group.owner; life = nsec3.life; kept = stored.kept }

-- a group that doesn't pass isn't stored
pub not_stored : (now : ℕ) (signed : SignedGroup) (items signatures : List (List ℕ)) → (Passes signed → ⊥) → IsTakenOf now signed items signatures None
not_stored now signed items signatures not group is taken stored =
    let has = stored_kept now group taken stored in
    not (passes_of now group signed items signatures has.zone has.owner has.life is has.kept)

-- ---- denials

pub one_item : (a b : List ℕ) (xs : List (List ℕ)) → xs ≡ a ∷ [] → xs ≡ b ∷ [] → a ≡ b
one_item a b xs p q = cc

is_zone : (now : ℕ) (group : Group) (signed : SignedGroup) (items signatures : List (List ℕ)) (zone owner : List Label) (life : ℕ) → IsGroupOf now group signed items signatures
    → IsKept now group zone owner life → zone ≡ signed.agreed.signer
is_zone now group signed items signatures zone owner life is kept =
    let passes = passes_of now group signed items signatures zone owner life is kept in
    let same = kept_same now group zone signed.agreed.signer owner (signed_name signed.owner signed.agreed.labels) life (life_in signed) kept (kept_of now group signed items signatures passes is) in
    same.zones

pub record IsOnlyNsec (now : ℕ) (group : Group) (signed : SignedGroup) (image : List ℕ) : Type 0 where
  pub nsec : NsecRec
  pub stored : IsStoredNsec now group nsec
  pub reads : IsNsec image stored.parts
  pub inside : IsUnder stored.parts.next signed.agreed.signer

-- an NSEC group is stored as an NSEC record of this data
pub nsec_only : (now : ℕ) (group : Group) (signed : SignedGroup) (image : List ℕ) (signatures : List (List ℕ)) (taken : Record) → signed.rtype ≡ NSEC_TYPE → IsGroupOf now group signed (image ∷ []) signatures
    → IsStored now group taken → IsOnlyNsec now group signed image
nsec_only now group signed image signatures (Set set) rtype is stored = let e = is.rtype_is in absurd (cc (stored.no_denial, ap is_denial_type (sym is.rtype_is ∙ rtype)))
nsec_only now group signed image signatures (Nsec3 nsec3) rtype is stored = absurd (omega (arith, is.rtype_is, stored.type_is))
nsec_only now group signed image signatures (Nsec nsec) rtype is stored = record {
  nsec = nsec;
  stored = stored;
  reads = subst (λ i. IsNsec i stored.parts) (one_item nsec.image image group.items stored.item_is (sym is.items_are)) stored.reads;
  inside = subst (IsUnder stored.parts.next) (is_zone now group signed (image ∷ []) signatures nsec.zone nsec.owner nsec.life is stored.kept) stored.next_inside;
}

pub nsec_same : (octets : List ℕ) (a b : NsecParts) → IsNsec octets a → IsNsec octets b → (a.next ≡ b.next) × (a.types ≡ b.types)
nsec_same octets a b p q =
    let names = one_name octets a.next b.next p.taken q.taken p.name q.name in
    (names.0, one_meaning (drop q.taken octets) a.types b.types (subst (λ n. IsTypeMap (drop n octets) a.types) names.1 p.map) q.map)

pub record IsOnlyNsec3 (now : ℕ) (group : Group) (signed : SignedGroup) (image : List ℕ) : Type 0 where
  pub nsec3 : Nsec3Rec
  pub stored : IsStoredNsec3 now group nsec3
  pub reads : IsNsec3 image stored.parts
  pub hashed : IsHashedOwner signed.owner signed.agreed.signer nsec3.hash

pub nsec3_only : (now : ℕ) (group : Group) (signed : SignedGroup) (image : List ℕ) (signatures : List (List ℕ)) (taken : Record) → signed.rtype ≡ NSEC3_TYPE → IsGroupOf now group signed (image ∷ []) signatures
    → IsStored now group taken → IsOnlyNsec3 now group signed image
nsec3_only now group signed image signatures (Set set) rtype is stored = absurd (cc (stored.no_denial, ap is_denial_type (sym is.rtype_is ∙ rtype)))
nsec3_only now group signed image signatures (Nsec nsec) rtype is stored = absurd (omega (arith, is.rtype_is, stored.type_is))
nsec3_only now group signed image signatures (Nsec3 nsec3) rtype is stored = record {
  nsec3 = nsec3;
  stored = stored;
  reads = subst (λ i. IsNsec3 i stored.parts) (one_item nsec3.image image group.items stored.item_is (sym is.items_are)) stored.reads;
  hashed = subst (λ owner. IsHashedOwner owner signed.agreed.signer nsec3.hash) (sym is.owner_is)
      (subst (λ zone. IsHashedOwner group.owner zone nsec3.hash) (is_zone now group signed (image ∷ []) signatures nsec3.zone group.owner nsec3.life is stored.kept) stored.hashed);
}

-- ---- piles

pub group_of_pile : (now : ℕ) (group : Group) (pile : Pile) (signed : SignedGroup) (items signatures : List (List ℕ)) → IsPileOf group pile → pile.class ≡ IN_CLASS
    → signed.class ≡ pile.class → signed.rtype ≡ pile.rtype → signed.owner ≡ pile.owner → signed.ttl ≡ pile.ttl → signed.count ≡ length items
    → items ≡ each_once same_octets pile.items → signatures ≡ each_once same_octets pile.signatures → IsAgreed now signatures signed.agreed → IsGroupOf now group signed items signatures
group_of_pile now group pile signed items signatures of in_class classes rtypes owners ttls count items-are signatures-are agreed = record {
  class_is = classes ∙ of.class_is;
  rtype_is = rtypes ∙ of.rtype_is;
  owner_is = owners ∙ of.owner_is;
  ttl_is = ttls ∙ of.ttl_is;
  items_are = items-are ∙ of.items_are;
  count_is = count;
  signatures_are = signatures-are ∙ of.signatures_are (sym of.class_is ∙ in_class);
  agreed = agreed;
}

-- what is stored of a pile's group has the class IN, and its signatures agree
pub stored_class : (now : ℕ) (group : Group) (pile : Pile) (taken : Record) → IsPileOf group pile → IsStored now group taken → pile.class ≡ IN_CLASS
stored_class now group pile taken of stored = of.class_is ∙ (stored_kept now group taken stored).kept.class_is

pub stored_agreed : (now : ℕ) (group : Group) (pile : Pile) (taken : Record) (signatures : List (List ℕ)) → IsPileOf group pile → signatures ≡ each_once same_octets pile.signatures → IsStored now group taken
    → (agreed : Agreed) × IsAgreed now signatures agreed
stored_agreed now group pile taken signatures of is stored =
    let kept = (stored_kept now group taken stored).kept in
    let same : signatures ≡ group.signatures = is ∙ of.signatures_are kept.class_is in (
      record { signer = (stored_kept now group taken stored).zone; labels = kept.labels; original_ttl = kept.original_ttl; left = least_of (2 ^ 32) kept.left },
      record {
        left = kept.left;
        agree = subst (λ s. Agree s now (stored_kept now group taken stored).zone kept.labels kept.original_ttl kept.left) (sym same) kept.signed;
        least = refl;
      },
    )
