-- What octets give at a moment is one.
use Rattle.std.proofs.Common.{◌≡◌, ◌⊎◌, inl, inr, ℕ, ◌+◌, ◌==◌, Bool, true, false, List, [], ◌∷◌, ◌++◌, length, Option, Some, None, Result, Ok, Err, IfOk, IfErr, is_none, refl, sym, ◌∙◌, ap, subst, arith}
use Rattle.std.specs.List.{AllZip, count_by, flat_map}
use Rattle.std.specs.Option.{option_to_list}
use Rattle.dname.specs.Name.{Label}
use Rattle.dnswire.specs.Message.{IsFaultOf}
use Rattle.dnswire.specs.declared.message.Message.{Message}
use Rattle.dnswire.specs.declared.wire_fault.WireFault.{WireFault}
use Rattle.dnswire.proofs.MessageLemmas.{one_message, no_message, one_fault}
use Rattle.nsec3_hash.specs.Base32Hex.{text_of}
use Rattle.nsec3_hash.proofs.TextLemmas.{same_from_text_of}
use Rattle.denial_records.specs.declared.batch.Batch.{Batch}
use Rattle.denial_records.specs.declared.set_rec.SetRec.{SetRec}
use Rattle.denial_records.specs.declared.nsec_rec.NsecRec.{NsecRec}
use Rattle.denial_records.specs.declared.nsec3_rec.Nsec3Rec.{Nsec3Rec}
use Rattle.denial_records.specs.declared.record.Record.{Record}
use Rattle.denial_records.specs.declared.record.Record.TheVariants.{Set, Nsec, Nsec3}
use Rattle.denial_records.specs.NsecParts.{IsNsec}
use Rattle.denial_records.specs.Nsec3Parts.{IsNsec3}
use Rattle.denial_records.proofs.PartsLemmas.{one_nsec3}
use Rattle.intake.specs.Group.{Group, groups_of}
use Rattle.intake.specs.Stored.{is_denial_type, IsStored, IsStoredSet, IsStoredNsec, IsStoredNsec3}
use Rattle.intake.specs.Batch.{header_fault, IsTakenAs, Brings, IsAccepted, IsRefused, IsTaken, IsFault, Gives}
use Rattle.intake.specs.declared.taken.Taken.{Taken}
use Rattle.intake.specs.declared.intake_fault.IntakeFault.{IntakeFault}
use Rattle.intake.specs.declared.intake_fault.IntakeFault.TheVariants.{Malformed, NotResponse, Truncated, Rcode, NotAuthentic, Nothing, OutOfMemory}
use Rattle.intake.proofs.StoredLemmas.{kept_same, nsec_same, one_item}

-- ---- a group is stored as one record

same_set : (zone zone' owner owner' : List Label) (rtype rtype' life life' expiry expiry' : ℕ) (items items' signatures signatures' : List (List ℕ))
    → zone ≡ zone' → owner ≡ owner' → rtype ≡ rtype' → life ≡ life' → expiry ≡ expiry' → items ≡ items' → signatures ≡ signatures'
    → (let a : SetRec = record { zone = zone; owner = owner; rtype = rtype; life = life; expiry = expiry; items = items; signatures = signatures } in
    let b : SetRec = record { zone = zone'; owner = owner'; rtype = rtype'; life = life'; expiry = expiry'; items = items'; signatures = signatures' } in a ≡ b)
same_set zone zone' owner owner' rtype rtype' life life' expiry expiry' items items' signatures signatures' p q r s t u v = cc

same_nsec : (zone zone' owner owner' next next' : List Label) (types types' : List ℕ) (life life' expiry expiry' : ℕ) (image image' : List ℕ) (signatures signatures' : List (List ℕ))
    → zone ≡ zone' → owner ≡ owner' → next ≡ next' → types ≡ types' → life ≡ life' → expiry ≡ expiry' → image ≡ image' → signatures ≡ signatures'
    → (let a : NsecRec = record { zone = zone; owner = owner; next = next; types = types; life = life; expiry = expiry; image = image; signatures = signatures } in
    let b : NsecRec = record { zone = zone'; owner = owner'; next = next'; types = types'; life = life'; expiry = expiry'; image = image'; signatures = signatures' } in a ≡ b)
same_nsec zone zone' owner owner' next next' types types' life life' expiry expiry' image image' signatures signatures' p q r s t u v w = cc

one_set : (now : ℕ) (group : Group) (a b : SetRec) → IsStoredSet now group a → IsStoredSet now group b → a ≡ b
one_set now group a b p q =
    let same = kept_same now group a.zone b.zone a.owner b.owner a.life b.life p.kept q.kept in
    same_set a.zone b.zone a.owner b.owner a.rtype b.rtype a.life b.life a.expiry b.expiry a.items b.items a.signatures b.signatures
    same.zones same.owners (p.rtype_is ∙ sym q.rtype_is) same.lives (p.expiry_is ∙ ap (λ l. now + l) same.lives ∙ sym q.expiry_is) (p.items_are ∙ sym q.items_are) (p.signatures_are ∙ sym q.signatures_are)

one_nsec : (now : ℕ) (group : Group) (a b : NsecRec) → IsStoredNsec now group a → IsStoredNsec now group b → a ≡ b
one_nsec now group a b p q =
    let same = kept_same now group a.zone b.zone a.owner b.owner a.life b.life p.kept q.kept in
    let images = one_item a.image b.image group.items p.item_is q.item_is in
    let parts = nsec_same b.image p.parts q.parts (subst (λ i. IsNsec i p.parts) images p.reads) q.reads in
    same_nsec a.zone b.zone a.owner b.owner a.next b.next a.types b.types a.life b.life a.expiry b.expiry a.image b.image a.signatures b.signatures
    same.zones same.owners (p.next_is ∙ parts.0 ∙ sym q.next_is) (p.types_are ∙ parts.1 ∙ sym q.types_are) same.lives (p.expiry_is ∙ ap (λ l. now + l) same.lives ∙ sym q.expiry_is) images (p.signatures_are ∙ sym q.signatures_are)

-- the parts of an NSEC3 record that its data gives
same_nsec3 : (zone zone' : List Label) (hash hash' next next' salt salt' : List ℕ) (iterations iterations' : ℕ) (opt_out opt_out' : Bool) (types types' : List ℕ) (life life' expiry expiry' : ℕ) (image image' : List ℕ) (signatures signatures' : List (List ℕ))
    → zone ≡ zone' → hash ≡ hash' → next ≡ next' → salt ≡ salt' → iterations ≡ iterations' → opt_out ≡ opt_out' → types ≡ types' → life ≡ life' → expiry ≡ expiry' → image ≡ image' → signatures ≡ signatures'
    → (let a : Nsec3Rec = record { zone = zone; hash = hash; next = next; salt = salt; iterations = iterations; opt_out = opt_out; types = types; life = life; expiry = expiry; image = image; signatures = signatures } in
    let b : Nsec3Rec = record { zone = zone'; hash = hash'; next = next'; salt = salt'; iterations = iterations'; opt_out = opt_out'; types = types'; life = life'; expiry = expiry'; image = image'; signatures = signatures' } in a ≡ b)
same_nsec3 zone zone' hash hash' next next' salt salt' iterations iterations' opt_out opt_out' types types' life life' expiry expiry' image image' signatures signatures' p q r s t u v w x y z = cc

one_nsec3_rec : (now : ℕ) (group : Group) (a b : Nsec3Rec) → IsStoredNsec3 now group a → IsStoredNsec3 now group b → a ≡ b
one_nsec3_rec now group a b p q =
    let same = kept_same now group a.zone b.zone group.owner group.owner a.life b.life p.kept q.kept in
    let images = one_item a.image b.image group.items p.item_is q.item_is in
    let parts = one_nsec3 b.image p.parts q.parts (subst (λ i. IsNsec3 i p.parts) images p.reads) q.reads in
    let owners : text_of a.hash ∷ a.zone ≡ text_of b.hash ∷ b.zone = sym p.hashed.owner_is ∙ q.hashed.owner_is in
    let texts : text_of a.hash ≡ text_of b.hash = cc in
    same_nsec3 a.zone b.zone a.hash b.hash a.next b.next a.salt b.salt a.iterations b.iterations a.opt_out b.opt_out a.types b.types a.life b.life a.expiry b.expiry a.image b.image a.signatures b.signatures
    same.zones (same_from_text_of a.hash b.hash p.hashed.hash_is q.hashed.hash_is texts)
    (p.next_is ∙ ap (λ r. r.next) parts ∙ sym q.next_is) (p.salt_is ∙ ap (λ r. r.salt) parts ∙ sym q.salt_is) (p.iterations_are ∙ ap (λ r. r.iterations) parts ∙ sym q.iterations_are)
    (p.opt_out_is ∙ ap (λ r. r.flags == 1) parts ∙ sym q.opt_out_is) (p.types_are ∙ ap (λ r. r.types) parts ∙ sym q.types_are)
    same.lives (p.expiry_is ∙ ap (λ l. now + l) same.lives ∙ sym q.expiry_is) images (p.signatures_are ∙ sym q.signatures_are)

set_is_no_denial : (group : Group) (rtype : ℕ) → group.rtype ≡ rtype → is_denial_type rtype ≡ true → is_denial_type group.rtype ≡ false → ⊥
set_is_no_denial group rtype is yes-is not = let e = ap is_denial_type is in cc

pub one_stored : (now : ℕ) (group : Group) (a b : Record) → IsStored now group a → IsStored now group b → a ≡ b
one_stored now group (Set a) (Set b) p q = ap (λ r. Set r) (one_set now group a b p q)
one_stored now group (Nsec a) (Nsec b) p q = ap (λ r. Nsec r) (one_nsec now group a b p q)
one_stored now group (Nsec3 a) (Nsec3 b) p q = ap (λ r. Nsec3 r) (one_nsec3_rec now group a b p q)
one_stored now group (Set a) (Nsec b) p q = absurd (set_is_no_denial group 47 q.type_is refl p.no_denial)
one_stored now group (Set a) (Nsec3 b) p q = absurd (set_is_no_denial group 50 q.type_is refl p.no_denial)
one_stored now group (Nsec a) (Set b) p q = absurd (set_is_no_denial group 47 p.type_is refl q.no_denial)
one_stored now group (Nsec3 a) (Set b) p q = absurd (set_is_no_denial group 50 p.type_is refl q.no_denial)
one_stored now group (Nsec a) (Nsec3 b) p q = absurd (omega (arith, p.type_is, q.type_is))
one_stored now group (Nsec3 a) (Nsec b) p q = absurd (omega (arith, p.type_is, q.type_is))

one_taken : (now : ℕ) (group : Group) (a b : Option Record) → IsTakenAs now group a → IsTakenAs now group b → a ≡ b
one_taken now group None None p q = refl
one_taken now group None (Some b) p q = absurd (p b q)
one_taken now group (Some a) None p q = absurd (q a p)
one_taken now group (Some a) (Some b) p q = ap (λ r. Some r) (one_stored now group a b p q)

all_taken : (now : ℕ) (groups : List Group) (xs ys : List (Option Record)) → AllZip (IsTakenAs now) groups xs → AllZip (IsTakenAs now) groups ys → xs ≡ ys
all_taken now [] [] [] p q = refl
all_taken now [] [] (y ∷ ys) p q = absurd q
all_taken now [] (x ∷ xs) ys p q = absurd p
all_taken now (g ∷ gs) [] ys p q = absurd p
all_taken now (g ∷ gs) (x ∷ xs) [] p q = absurd q
all_taken now (g ∷ gs) (x ∷ xs) (y ∷ ys) p q = ap (λ t. t ∷ xs) (one_taken now g x y p.0 q.0) ∙ ap (λ ts. y ∷ ts) (all_taken now gs xs ys p.1 q.1)

-- ---- the outcome is one

brings_same : (message : Message) (now : ℕ) (batch batch' : Batch) (skipped skipped' : ℕ) → Brings message now batch skipped → Brings message now batch' skipped' → (batch ≡ batch') × (skipped ≡ skipped')
brings_same message now batch batch' skipped skipped' p q =
    let same = all_taken now (groups_of now (message.answer ++ message.authority)) p.taken q.taken p.each q.each in (
      p.batch_is ∙ ap (λ ts. record { now = now; records = flat_map option_to_list ts }) same ∙ sym q.batch_is,
      p.skipped_is ∙ ap (count_by is_none) same ∙ sym q.skipped_is,
    )

accepted_same : (octets : List ℕ) (now : ℕ) (batch batch' : Batch) (skipped skipped' : ℕ) → IsAccepted octets now batch skipped → IsAccepted octets now batch' skipped' → (batch ≡ batch') × (skipped ≡ skipped')
accepted_same octets now batch batch' skipped skipped' p q =
    brings_same q.message now batch batch' skipped skipped' (subst (λ m. Brings m now batch skipped) (one_message octets p.message q.message p.reads q.reads) p.brings) q.brings

accepted_refused : (octets : List ℕ) (now : ℕ) (batch : Batch) (skipped : ℕ) (fault : IntakeFault) → IsAccepted octets now batch skipped → IsRefused octets fault → ⊥
accepted_refused octets now batch skipped fault p q =
    let e = ap header_fault (one_message octets p.message q.message p.reads q.reads) in
    let none = p.no_fault in let some = q.faulty in
    some_is_none fault (sym some ∙ sym e ∙ none)
  where
    some_is_none : (fault : IntakeFault) → (let a : Option IntakeFault = Some fault in a ≡ None) → ⊥
    some_is_none fault h = cc

-- a fault is one of these
data View (octets : List ℕ) (now : ℕ) (fault : IntakeFault) : Type 0 where
  malformed : (w : WireFault) → fault ≡ Malformed w → IsFaultOf octets w → View octets now fault
  refused : IsRefused octets fault → View octets now fault
  nothing : (n : ℕ) → fault ≡ Nothing n → IsAccepted octets now (record { now = now; records = [] }) n → View octets now fault

view_of : (octets : List ℕ) (now : ℕ) (fault : IntakeFault) → IsFault octets now fault → View octets now fault
view_of octets now (Malformed w) is = malformed w refl is
view_of octets now NotResponse is = refused is
view_of octets now Truncated is = refused is
view_of octets now (Rcode rcode) is = refused is
view_of octets now NotAuthentic is = refused is
view_of octets now (Nothing n) is = nothing n refl is
view_of octets now OutOfMemory is = absurd is

one_refusal : (octets : List ℕ) (f g : IntakeFault) → IsRefused octets f → IsRefused octets g → f ≡ g
one_refusal octets f g p q = some_same f g (sym p.faulty ∙ ap header_fault (one_message octets p.message q.message p.reads q.reads) ∙ q.faulty)
  where
    some_same : (f g : IntakeFault) → (let a : Option IntakeFault = Some f in let b : Option IntakeFault = Some g in a ≡ b) → f ≡ g
    some_same f g h = cc

one_view : (octets : List ℕ) (now : ℕ) (f g : IntakeFault) → View octets now f → View octets now g → f ≡ g
one_view octets now f g (malformed w e p) (malformed v d q) = e ∙ ap (λ x. Malformed x) (one_fault octets w v p q) ∙ sym d
one_view octets now f g (malformed w e p) (refused q) = absurd (no_message octets q.message w p q.reads)
one_view octets now f g (malformed w e p) (nothing n d q) = absurd (no_message octets q.message w p q.reads)
one_view octets now f g (refused p) (malformed v d q) = absurd (no_message octets p.message v q p.reads)
one_view octets now f g (refused p) (refused q) = one_refusal octets f g p q
one_view octets now f g (refused p) (nothing n d q) = absurd (accepted_refused octets now (record { now = now; records = [] }) n f q p)
one_view octets now f g (nothing n e p) (malformed v d q) = absurd (no_message octets p.message v q p.reads)
one_view octets now f g (nothing n e p) (refused q) = absurd (accepted_refused octets now (record { now = now; records = [] }) n g p q)
one_view octets now f g (nothing n e p) (nothing m d q) = e ∙ ap (λ x. Nothing x) (accepted_same octets now (record { now = now; records = [] }) (record { now = now; records = [] }) n m p q).1 ∙ sym d

taken_no_fault : (octets : List ℕ) (now : ℕ) (taken : Taken) (f : IntakeFault) → IsTaken octets now taken → View octets now f → ⊥
taken_no_fault octets now taken f is (malformed w e p) = no_message octets is.accepted.message w p is.accepted.reads
taken_no_fault octets now taken f is (refused p) = accepted_refused octets now taken.batch taken.skipped f is.accepted p
taken_no_fault octets now taken f is (nothing n e p) =
    let same = accepted_same octets now taken.batch (record { now = now; records = [] }) taken.skipped n is.accepted p in
    let none = ap (λ (b : Batch). length b.records) same.0 in
    let some = is.some in
    omega (arith, none, some)

one_batch : (octets : List ℕ) (now : ℕ) (a b : Taken) → IsTaken octets now a → IsTaken octets now b → a ≡ b
one_batch octets now a b p q =
    let same = accepted_same octets now a.batch b.batch a.skipped b.skipped p.accepted q.accepted in
    same_parts a.batch b.batch a.skipped b.skipped same.0 same.1
  where
    same_parts : (x y : Batch) (n m : ℕ) → x ≡ y → n ≡ m → (let a : Taken = record { batch = x; skipped = n } in let b : Taken = record { batch = y; skipped = m } in a ≡ b)
    same_parts x y n m p q = cc

one_gives : (octets : List ℕ) (now : ℕ) (a b : Result Taken IntakeFault) → Gives octets now a → Gives octets now b → a ≡ b
one_gives octets now (Ok a) (Ok b) p q = ap (λ t. Ok t) (one_batch octets now a b p q)
one_gives octets now (Ok a) (Err g) p q = absurd (taken_no_fault octets now a g p (view_of octets now g q))
one_gives octets now (Err f) (Ok b) p q = absurd (taken_no_fault octets now b f q (view_of octets now f p))
one_gives octets now (Err f) (Err g) p q = ap (λ x. Err x) (one_view octets now f g (view_of octets now f p) (view_of octets now g q))

-- what the octets give is the answer, or there was no memory
pub every : (octets : List ℕ) (now : ℕ) (answer outcome : Result Taken IntakeFault) → IfOk answer (IsTaken octets now) → IfErr answer (λ fault. (fault ≡ OutOfMemory) ⊎ IsFault octets now fault) → Gives octets now outcome
    → (answer ≡ outcome) ⊎ (let e : Result Taken IntakeFault = Err OutOfMemory in answer ≡ e)
every octets now (Ok taken) outcome is faulty gives = inl (one_gives octets now (Ok taken) outcome is gives)
every octets now (Err fault) outcome is faulty gives = elim faulty [
  | inl memory ↦ inr (ap (λ x. Err x) memory)
  | inr fault-is ↦ inl (one_gives octets now (Err fault) outcome fault-is gives)
]
