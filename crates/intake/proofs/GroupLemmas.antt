-- The piles of all records are those of the groups.
use Rattle.std.proofs.Common.{◌≡◌, ℕ, ◌^◌, ◌≤◌, min, Bool, true, false, not, ◌&&◌, ◌||◌, ◌==◌, if◌then◌else◌, List, [], ◌∷◌, ◌++◌, map, nat_lt, inl, inr, arith, refl, sym, ◌∙◌, ap, subst}
use Rattle.std.specs.List.{AllZip, filter, fold, list_any}
use Rattle.std.proofs.lemmas.Bool.{cases_lt, lt-ltb, le-ltb, not-true}
use Rattle.std.specs.Cmp.Lexicographic.{pointwise_decides, bytes_decides}
use Rattle.std.proofs.lemmas.Bool.Decides.{same_from_decides, Decides-eqb}
use Rattle.std.proofs.lemmas.List.{append_assoc, append-nil, map-append}
use Rattle.std.proofs.lemmas.List.Elements.{filter-append}
use Rattle.std.proofs.lemmas.List.Sums.{fold-append}
use Rattle.dname.specs.declared.types.TheConstants.{RRSIG_TYPE, IN_CLASS}
use Rattle.dnswire.specs.declared.rr.Rr.{Rr}
use Rattle.dname.specs.Tests.{each_once, same_name, same_octets}
use Rattle.intake.specs.Group.{is_together, is_rrsig, covered_type, expiration_of, seconds_to, is_ahead, covers, group_of, groups_of}
use Rattle.intake.specs.Signed.{counted_ttl, least_of}
use Rattle.intake.specs.Pile.{begun, joined, with_signature, has_key, changed_first, key_of, covered_key, with_record, with_data, with_covering, is_live, piles_in, least_ttl, IsPileOf}
use Rattle.intake.specs.declared.key.Key.{Key}
use Rattle.intake.specs.declared.pile.Pile.{Pile}
use Rattle.intake.proofs.OnceLemmas.{IsByKey, alike-sym, alike_both, any_less, any_head, any_tail, any_once, filter_none, once_more, AreApart, apart_once}
use Rattle.intake.proofs.TableLemmas.{if_true, if_false, same_key, key_decides}

-- ---- filters and tests

filter_and : {X : Type 0} (outer inner full : X → Bool) → ((x : X) → full x ≡ (outer x && inner x)) → (xs : List X) → filter inner (filter outer xs) ≡ filter full xs
filter_and outer inner full is [] = refl
filter_and outer inner full is (x ∷ xs) = step inner x (filter outer xs) (filter full xs) (outer x) (full x) (is x) (filter_and outer inner full is xs)
  where
    step : {X : Type 0} (inner : X → Bool) (x : X) (kept all : List X) (o f : Bool) → f ≡ (o && inner x) → filter inner kept ≡ all → filter inner (if o then x ∷ kept else kept) ≡ (if f then x ∷ all else all)
    step inner x kept all true f h same = ap (λ (ys : List _). if inner x then x ∷ ys else ys) same ∙ ap (λ (b : Bool). if b then x ∷ all else all) (sym h)
    step inner x kept all false f h same = same ∙ ap (λ (b : Bool). if b then x ∷ all else all) (sym h)

any_map : {X Y : Type 0} (test : Y → Bool) (f : X → Y) (xs : List X) → list_any test (map f xs) ≡ list_any (λ x. test (f x)) xs
any_map test f [] = refl
any_map test f (x ∷ xs) = ap (λ b. test (f x) || b) (any_map test f xs)

-- what holds of each element
abbrev pub Each : {X : Type 0} → (X → Type 0) → List X → Type 0
Each P [] = Unit {0}
Each P (x ∷ xs) = P x × Each P xs

each_filter : {X : Type 0} (P : X → Type 0) (test : X → Bool) (xs : List X) → Each P xs → Each P (filter test xs)
each_filter P test [] each = tt
each_filter P test (x ∷ xs) each = step P x (filter test xs) (test x) each.0 (each_filter P test xs each.1)
  where
    step : {X : Type 0} (P : X → Type 0) (x : X) (xs : List X) (b : Bool) → P x → Each P xs → Each P (if b then x ∷ xs else xs)
    step P x xs true holds rest = (holds, rest)
    step P x xs false holds rest = rest

each_once_each : {X : Type 0} (P : X → Type 0) (alike : X → X → Bool) (xs : List X) → Each P xs → Each P (each_once alike xs)
each_once_each P alike [] each = tt
each_once_each P alike (x ∷ xs) each = (each.0, each_filter P (λ y. not (alike x y)) (each_once alike xs) (each_once_each P alike xs each.1))

each_passes : {X : Type 0} (test : X → Bool) (xs : List X) → Each (λ x. test x ≡ true) (filter test xs)
each_passes test [] = tt
each_passes test (x ∷ xs) = step test x (filter test xs) (test x) refl (each_passes test xs)
  where
    step : {X : Type 0} (test : X → Bool) (x : X) (xs : List X) (b : Bool) → test x ≡ b → Each (λ y. test y ≡ true) xs → Each (λ y. test y ≡ true) (if b then x ∷ xs else xs)
    step test x xs true h rest = (h, rest)
    step test x xs false h rest = rest

-- ---- piles that are made of a list

map_kept : {X P : Type 0} (passes : X → Bool) (change : P → P) (f g : X → P) → ((x : X) → g x ≡ (if passes x then change (f x) else f x)) → (xs : List X) → list_any passes xs ≡ false → map f xs ≡ map g xs
map_kept passes change f g gives [] none = refl
map_kept passes change f g gives (x ∷ xs) none =
    let here : f x ≡ g x = sym (if_false (passes x) (change (f x)) (f x) (any_head (passes x) (list_any passes xs) none)) ∙ sym (gives x) in
    ap (λ p. p ∷ map f xs) here ∙ ap (λ ps. g x ∷ ps) (map_kept passes change f g gives xs (any_tail (passes x) (list_any passes xs) none))

-- the first that passes is changed, where no two pass that aren't alike
changed_map : {X P : Type 0} (alike : X → X → Bool) (passes : X → Bool) (test : P → Bool) (change : P → P) (f g : X → P)
    → ((x : X) → test (f x) ≡ passes x) → ((x : X) → g x ≡ (if passes x then change (f x) else f x)) → ((x y : X) → passes x ≡ true → passes y ≡ true → alike x y ≡ true)
    → (xs : List X) → AreApart alike xs → changed_first test change (map f xs) ≡ map g xs
changed_map alike passes test change f g tests gives one [] apart = refl
changed_map alike passes test change f g tests gives one (x ∷ xs) apart =
    step alike passes test change f g gives one x xs (passes x) refl (tests x) apart.0 (changed_map alike passes test change f g tests gives one xs apart.1)
  where
    step : {X P : Type 0} (alike : X → X → Bool) (passes : X → Bool) (test : P → Bool) (change : P → P) (f g : X → P)
        → ((x : X) → g x ≡ (if passes x then change (f x) else f x)) → ((x y : X) → passes x ≡ true → passes y ≡ true → alike x y ≡ true)
        → (x : X) (xs : List X) (b : Bool) → passes x ≡ b → test (f x) ≡ passes x → list_any (alike x) xs ≡ false → changed_first test change (map f xs) ≡ map g xs
        → (if test (f x) then change (f x) ∷ map f xs else f x ∷ changed_first test change (map f xs)) ≡ g x ∷ map g xs
    step alike passes test change f g gives one x xs true h t apart rest =
        if_true (test (f x)) (change (f x) ∷ map f xs) (f x ∷ changed_first test change (map f xs)) (t ∙ h)
        ∙ ap (λ p. p ∷ map f xs) (sym (if_true (passes x) (change (f x)) (f x) h) ∙ sym (gives x))
        ∙ ap (λ ps. g x ∷ ps) (map_kept passes change f g gives xs (any_less passes (alike x) (λ y p. one x y h p) xs apart))
    step alike passes test change f g gives one x xs false h t apart rest =
        if_false (test (f x)) (change (f x) ∷ map f xs) (f x ∷ changed_first test change (map f xs)) (t ∙ h)
        ∙ ap (λ p. p ∷ changed_first test change (map f xs)) (sym (if_false (passes x) (change (f x)) (f x) h) ∙ sym (gives x))
        ∙ ap (λ ps. g x ∷ ps) rest

-- ---- records

pub together : IsByKey is_together key_of
together = record { decides = λ x y. key_decides (key_of x) (key_of y) }

-- the pile of these records
abbrev pub pile_over : Rr → List Rr → Pile
pile_over rr rrs = record {
  owner = rr.owner;
  class = rr.class;
  rtype = rr.rtype;
  ttl = least_ttl (map (λ (x : Rr). x.ttl) rrs);
  items = map (λ (x : Rr). x.octets) rrs;
  signatures = [];
}

-- the pile of a record's group, of the records so far
abbrev pub pile_at : List Rr → Rr → Pile
pile_at done rr = pile_over rr (filter (is_together rr) done)

least_more : (ttls : List ℕ) (ttl : ℕ) → least_ttl (ttls ++ ttl ∷ []) ≡ min (least_ttl ttls) (counted_ttl ttl)
least_more ttls ttl = ap (least_of (2 ^ 31)) (map-append counted_ttl ttls (ttl ∷ [])) ∙ fold-append min (2 ^ 31) (map counted_ttl ttls) (counted_ttl ttl ∷ [])

same_pile : (rr : Rr) (ttl ttl' : ℕ) (items items' : List (List ℕ)) → ttl ≡ ttl' → items ≡ items'
    → (let a : Pile = record { owner = rr.owner; class = rr.class; rtype = rr.rtype; ttl = ttl; items = items; signatures = [] } in
    let b : Pile = record { owner = rr.owner; class = rr.class; rtype = rr.rtype; ttl = ttl'; items = items'; signatures = [] } in a ≡ b)
same_pile rr ttl ttl' items items' p q = cc

pile_joined : (rr x : Rr) (rrs : List Rr) → pile_over rr (rrs ++ x ∷ []) ≡ joined (pile_over rr rrs) x.ttl x.octets
pile_joined rr x rrs =
    same_pile rr _ _ _ _
    (ap least_ttl (map-append (λ (y : Rr). y.ttl) rrs (x ∷ [])) ∙ least_more (map (λ (y : Rr). y.ttl) rrs) x.ttl)
    (map-append (λ (y : Rr). y.octets) rrs (x ∷ []))

pile_more : (done : List Rr) (x rr : Rr) → pile_at (done ++ x ∷ []) rr ≡ (if is_together rr x then joined (pile_at done rr) x.ttl x.octets else pile_at done rr)
pile_more done x rr = ap (pile_over rr) (filter-append (is_together rr) done (x ∷ [])) ∙ step rr x (filter (is_together rr) done) (is_together rr x)
  where
    step : (rr x : Rr) (rrs : List Rr) (b : Bool) → pile_over rr (rrs ++ (if b then x ∷ [] else [])) ≡ (if b then joined (pile_over rr rrs) x.ttl x.octets else pile_over rr rrs)
    step rr x rrs true = pile_joined rr x rrs
    step rr x rrs false = ap (pile_over rr) (append-nil rrs)

counted_small : (ttl : ℕ) → counted_ttl ttl ≤ 2 ^ 31
counted_small ttl = elim (cases_lt ttl (2 ^ 31)) [
  | inl less ↦ let e = if_true (nat_lt ttl (2 ^ 31)) ttl 0 (lt-ltb ttl (2 ^ 31) less) in omega arith
  | inr more ↦ let e = if_false (nat_lt ttl (2 ^ 31)) ttl 0 (le-ltb ttl (2 ^ 31) more) in omega arith
]

-- one that joins none begins its pile
pile_new : (done : List Rr) (x : Rr) → list_any (is_together x) done ≡ false → pile_at (done ++ x ∷ []) x ≡ begun (key_of x) x.ttl x.octets
pile_new done x none =
    let itself : is_together x x ≡ true = (together.decides x x).1 refl in
    ap (pile_over x) (filter-append (is_together x) done (x ∷ []) ∙ ap (λ rs. rs ++ filter (is_together x) (x ∷ [])) (filter_none (is_together x) done none) ∙ ap (λ (b : Bool). if b then x ∷ [] else []) itself)
    ∙ same_pile x _ _ _ _ (least_alone x.ttl) refl
  where
    least_alone : (ttl : ℕ) → least_ttl (ttl ∷ []) ≡ counted_ttl ttl
    least_alone ttl = omega (arith, counted_small ttl)

record_more : (done : List Rr) (x : Rr) → with_record (map (pile_at done) (each_once is_together done)) x ≡ map (pile_at (done ++ x ∷ [])) (each_once is_together (done ++ x ∷ []))
record_more done x = step done x (list_any (is_together x) done) refl
  where
    gives : (done : List Rr) (x rr : Rr) → pile_at (done ++ x ∷ []) rr ≡ (if is_together x rr then joined (pile_at done rr) x.ttl x.octets else pile_at done rr)
    gives done x rr = pile_more done x rr ∙ ap (λ (b : Bool). if b then joined (pile_at done rr) x.ttl x.octets else pile_at done rr) (alike-sym is_together key_of together rr x)

    any_pile : (done : List Rr) (x : Rr) → list_any (has_key (key_of x)) (map (pile_at done) (each_once is_together done)) ≡ list_any (is_together x) done
    any_pile done x = any_map (has_key (key_of x)) (pile_at done) (each_once is_together done) ∙ any_once is_together key_of together x done

    step : (done : List Rr) (x : Rr) (b : Bool) → list_any (is_together x) done ≡ b → with_record (map (pile_at done) (each_once is_together done)) x ≡ map (pile_at (done ++ x ∷ [])) (each_once is_together (done ++ x ∷ []))
    step done x true h =
        if_true _ _ _ (any_pile done x ∙ h)
        ∙ changed_map is_together (is_together x) (has_key (key_of x)) (λ pile. joined pile x.ttl x.octets) (pile_at done) (pile_at (done ++ x ∷ []))
        (λ r. refl) (gives done x) (λ r s p q. alike_both is_together key_of together r s x p q) (each_once is_together done) (apart_once is_together done)
        ∙ ap (map (pile_at (done ++ x ∷ []))) (sym (append-nil (each_once is_together done)) ∙ ap (λ (b : Bool). each_once is_together done ++ (if b then [] else x ∷ [])) (sym h) ∙ sym (once_more is_together key_of together done x))
    step done x false h =
        if_false _ _ _ (any_pile done x ∙ h)
        ∙ ap (λ ps. ps ++ begun (key_of x) x.ttl x.octets ∷ [])
        (map_kept (is_together x) (λ pile. joined pile x.ttl x.octets) (pile_at done) (pile_at (done ++ x ∷ [])) (gives done x) (each_once is_together done) (any_once is_together key_of together x done ∙ h))
        ∙ ap (λ p. map (pile_at (done ++ x ∷ [])) (each_once is_together done) ++ p ∷ []) (sym (pile_new done x h))
        ∙ sym (map-append (pile_at (done ++ x ∷ [])) (each_once is_together done) (x ∷ []))
        ∙ ap (map (pile_at (done ++ x ∷ []))) (ap (λ (b : Bool). each_once is_together done ++ (if b then [] else x ∷ [])) (sym h) ∙ sym (once_more is_together key_of together done x))

-- all records but RRSIG
abbrev pub data_of : List Rr → List Rr
data_of rrs = filter (λ rr. not (is_rrsig rr)) rrs

fold_data : (piles : List Pile) (rrs : List Rr) → fold with_data piles rrs ≡ fold with_record piles (data_of rrs)
fold_data piles [] = refl
fold_data piles (x ∷ xs) = step piles x xs (is_rrsig x) (fold_data piles xs) (fold_data (with_record piles x) xs)
  where
    step : (piles : List Pile) (x : Rr) (xs : List Rr) (b : Bool) → fold with_data piles xs ≡ fold with_record piles (data_of xs) → fold with_data (with_record piles x) xs ≡ fold with_record (with_record piles x) (data_of xs)
        → fold with_data (if b then piles else with_record piles x) xs ≡ fold with_record piles (if not b then x ∷ data_of xs else data_of xs)
    step piles x xs true same more = same
    step piles x xs false same more = more

records_from : (done xs : List Rr) → fold with_record (map (pile_at done) (each_once is_together done)) xs ≡ map (pile_at (done ++ xs)) (each_once is_together (done ++ xs))
records_from done [] = ap (λ rs. map (pile_at rs) (each_once is_together rs)) (sym (append-nil done))
records_from done (x ∷ xs) =
    ap (λ ps. fold with_record ps xs) (record_more done x)
    ∙ records_from (done ++ x ∷ []) xs
    ∙ ap (λ rs. map (pile_at rs) (each_once is_together rs)) (append_assoc done (x ∷ []) xs)

data_piles : (rrs : List Rr) → fold with_data [] rrs ≡ map (pile_at (data_of rrs)) (each_once is_together (data_of rrs))
data_piles rrs = fold_data [] rrs ∙ records_from [] (data_of rrs)

-- ---- signatures

-- the signature is for the record's owner, class and type
abbrev pub is_for : Rr → Rr → Bool
is_for rr signature = same_key (covered_key signature) (key_of rr)

-- the pile of a record's group, with its signatures so far
abbrev pub signed_at : List Rr → List Rr → Rr → Pile
signed_at rrs done rr = record (pile_at rrs rr) { signatures = map (λ (x : Rr). x.octets) (filter (is_for rr) done) }

signature_more : (rrs done : List Rr) (x rr : Rr) → signed_at rrs (done ++ x ∷ []) rr ≡ (if is_for rr x then with_signature (signed_at rrs done rr) x.octets else signed_at rrs done rr)
signature_more rrs done x rr = ap (λ found. record (pile_at rrs rr) { signatures = map (λ (y : Rr). y.octets) found }) (filter-append (is_for rr) done (x ∷ [])) ∙ step (pile_at rrs rr) x (filter (is_for rr) done) (is_for rr x)
  where
    step : (pile : Pile) (x : Rr) (found : List Rr) (b : Bool)
        → (let more : Pile = record pile { signatures = map (λ (y : Rr). y.octets) (found ++ (if b then x ∷ [] else [])) } in
        let before : Pile = record pile { signatures = map (λ (y : Rr). y.octets) found } in
        more ≡ (if b then with_signature before x.octets else before))
    step pile x found true = ap (λ octets. record pile { signatures = octets }) (map-append (λ (y : Rr). y.octets) found (x ∷ []))
    step pile x found false = ap (λ rrs. record pile { signatures = map (λ (y : Rr). y.octets) rrs }) (append-nil found)

covering_more : (rrs done : List Rr) (x : Rr) (reps : List Rr) → AreApart is_together reps → with_covering (map (signed_at rrs done) reps) x ≡ map (signed_at rrs (done ++ x ∷ [])) reps
covering_more rrs done x reps apart =
    changed_map is_together (λ rr. is_for rr x) (has_key (covered_key x)) (λ pile. with_signature pile x.octets) (signed_at rrs done) (signed_at rrs (done ++ x ∷ []))
    (λ r. refl) (signature_more rrs done x)
    (λ r s p q. (key_decides (key_of r) (key_of s)).1 (sym ((key_decides (covered_key x) (key_of r)).0 p) ∙ (key_decides (covered_key x) (key_of s)).0 q))
    reps apart

covering_from : (rrs done xs reps : List Rr) → AreApart is_together reps → fold with_covering (map (signed_at rrs done) reps) xs ≡ map (signed_at rrs (done ++ xs)) reps
covering_from rrs done [] reps apart = ap (λ rs. map (signed_at rrs rs) reps) (sym (append-nil done))
covering_from rrs done (x ∷ xs) reps apart =
    ap (λ ps. fold with_covering ps xs) (covering_more rrs done x reps apart)
    ∙ covering_from rrs (done ++ x ∷ []) xs reps apart
    ∙ ap (λ rs. map (signed_at rrs rs) reps) (append_assoc done (x ∷ []) xs)

all_piles : (now : ℕ) (rrs : List Rr) → piles_in now rrs ≡ map (signed_at (data_of rrs) (filter (is_live now) rrs)) (each_once is_together (data_of rrs))
all_piles now rrs =
    ap (λ ps. fold with_covering ps (filter (is_live now) rrs)) (data_piles rrs)
    ∙ covering_from (data_of rrs) [] (filter (is_live now) rrs) (each_once is_together (data_of rrs)) (apart_once is_together (data_of rrs))

-- ---- groups

-- what is together with data is data
data_together : (rr x : Rr) → is_rrsig rr ≡ false → is_together rr x ≡ (not (is_rrsig x) && is_together rr x)
data_together rr x no_rrsig = step (is_together rr x) refl
  where
    and_false : (b : Bool) → false ≡ (b && false)
    and_false true = refl
    and_false false = refl

    step : (b : Bool) → is_together rr x ≡ b → b ≡ (not (is_rrsig x) && b)
    step true h =
        let same : rr.rtype ≡ x.rtype = ap (λ (k : Key). k.rtype) ((key_decides (key_of rr) (key_of x)).0 h) in
        sym (ap (λ (b : Bool). not b && true) no_rrsig) ∙ ap (λ (t : ℕ). not (t == RRSIG_TYPE) && true) same
    step false h = and_false (not (is_rrsig x))

-- what covers a record of class IN is live and for it
covers_parts : (now : ℕ) (rr x : Rr) → rr.class ≡ IN_CLASS → covers now rr x ≡ (is_live now x && is_for rr x)
covers_parts now rr x in_class =
    parts (is_rrsig x) (x.class == IN_CLASS) (same_name rr.owner x.owner) (same_name x.owner rr.owner) (IN_CLASS == rr.class) (rr.rtype == covered_type x) (covered_type x == rr.rtype) (is_ahead (seconds_to (expiration_of x) now))
    (same_from_decides _ _ (pointwise_decides bytes_decides rr.owner x.owner) (λ h. sym ((pointwise_decides bytes_decides x.owner rr.owner).0 h), λ e. (pointwise_decides bytes_decides x.owner rr.owner).1 (sym e)))
    ((Decides-eqb IN_CLASS rr.class).1 (sym in_class))
    (same_from_decides _ _ (Decides-eqb rr.rtype (covered_type x)) (λ h. sym ((Decides-eqb (covered_type x) rr.rtype).0 h), λ e. (Decides-eqb (covered_type x) rr.rtype).1 (sym e)))
  where
    all_of : (n n' c t t' : Bool) → n ≡ n' → c ≡ true → t ≡ t' → (n && (t && true)) ≡ (n' && (c && t'))
    all_of true true true true true p q r = refl
    all_of true true true false false p q r = refl
    all_of false false c t t' p q r = refl
    all_of true false c t t' p q r = cc
    all_of false true c t t' p q r = cc
    all_of true true false t t' p q r = cc
    all_of true true true true false p q r = cc
    all_of true true true false true p q r = cc

    none_of : (n t : Bool) → (n && (t && false)) ≡ false
    none_of true true = refl
    none_of true false = refl
    none_of false t = refl

    parts : (a b n n' c t t' h : Bool) → n ≡ n' → c ≡ true → t ≡ t' → (a && (b && (n && (t && h)))) ≡ ((a && (b && h)) && (n' && (c && t')))
    parts false b n n' c t t' h p q r = refl
    parts true false n n' c t t' h p q r = refl
    parts true true n n' c t t' true p q r = all_of n n' c t t' p q r
    parts true true n n' c t t' false p q r = none_of n t

pile_is : (now : ℕ) (rrs : List Rr) (rr : Rr) → is_rrsig rr ≡ false → IsPileOf (group_of now rrs rr) (signed_at (data_of rrs) (filter (is_live now) rrs) rr)
pile_is now rrs rr no_rrsig =
    let all : filter (is_together rr) (data_of rrs) ≡ filter (is_together rr) rrs = filter_and (λ x. not (is_rrsig x)) (is_together rr) (is_together rr) (λ x. data_together rr x no_rrsig) rrs in
    record {
      owner_is = refl;
      class_is = refl;
      rtype_is = refl;
      ttl_is = ap (λ rs. least_ttl (map (λ (x : Rr). x.ttl) rs)) all;
      items_are = ap (λ rs. each_once same_octets (map (λ (x : Rr). x.octets) rs)) all;
      signatures_are = λ in_class. ap (λ rs. each_once same_octets (map (λ (x : Rr). x.octets) rs)) (filter_and (is_live now) (is_for rr) (covers now rr) (λ x. covers_parts now rr x in_class) rrs);
    }

zip_map : {X A B : Type 0} (P : X → Type 0) (R : A → B → Type 0) (f : X → A) (g : X → B) → ((x : X) → P x → R (f x) (g x)) → (xs : List X) → Each P xs → AllZip R (map f xs) (map g xs)
zip_map P R f g holds [] each = tt
zip_map P R f g holds (x ∷ xs) each = (holds x each.0, zip_map P R f g holds xs each.1)

-- each group has its pile
pub groups_piled : (now : ℕ) (rrs : List Rr) → AllZip IsPileOf (groups_of now rrs) (piles_in now rrs)
groups_piled now rrs =
    subst (AllZip IsPileOf (groups_of now rrs)) (sym (all_piles now rrs))
    (zip_map (λ rr. not (is_rrsig rr) ≡ true) IsPileOf (group_of now rrs) (signed_at (data_of rrs) (filter (is_live now) rrs))
    (λ rr h. pile_is now rrs rr (not-true (is_rrsig rr) h))
    (each_once is_together (data_of rrs))
    (each_once_each (λ rr. not (is_rrsig rr) ≡ true) is_together (data_of rrs) (each_passes (λ rr. not (is_rrsig rr)) rrs)))
