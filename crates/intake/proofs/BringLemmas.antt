-- The records of a message's piles, and the bounds of a message.
use Rattle.std.proofs.Common.{◌≡◌, ℕ, ◌+◌, ◌^◌, ◌<◌, ◌≤◌, Bool, not, List, [], ◌∷◌, ◌++◌, length, drop, get_or, Option, Some, None, is_none, refl, sym, ◌∙◌, ap, subst, arith}
use Rattle.std.specs.List.{All, AllZip, filter, count_by, flat_map}
use Rattle.std.specs.Option.{option_to_list}
use Rattle.std.proofs.lemmas.List.{append-nil, length-append, length-map, get_or-drop}
use Rattle.std.proofs.lemmas.List.Elements.{filter-append, All-cons, All-nil}
use Rattle.std.proofs.lemmas.List.Sums.{length-filter, count_by-le-length}
use Rattle.std.proofs.lemmas.Grind.{flat_map-append}
use Rattle.std.proofs.lemmas.Slice.Zip.{all_zipped_more, AllZip-long}
use Rattle.byteorder.specs.Endian.{big_number}
use Rattle.dnswire.specs.Data.{layout_of, IsData}
use Rattle.dnswire.specs.Message.{IsMessage, IsRr}
use Rattle.dnswire.specs.InTurn.{StandInTurn}
use Rattle.dnswire.specs.declared.rr.Rr.{Rr}
use Rattle.dnswire.specs.declared.message.Message.{Message}
use Rattle.denial_records.specs.declared.record.Record.{Record}
use Rattle.dname.specs.Tests.{each_once}
use Rattle.intake.specs.Group.{Group, groups_of, group_of, is_together, is_rrsig}
use Rattle.intake.specs.Batch.{IsTakenAs, Brings}
use Rattle.intake.specs.Pile.{HasFixedPart, IsPileOf, piles_in}
use Rattle.intake.specs.declared.pile.Pile.{Pile}
use Rattle.intake.proofs.GroupLemmas.{groups_piled, data_of}

-- ---- records one after the other

-- whatever group the pile is of is stored as this
abbrev pub PileIsTaken : ℕ → Pile → Option Record → Type 0
PileIsTaken now pile taken = (group : Group) → IsPileOf group pile → IsTakenAs now group taken

pub record HasStored (now : ℕ) (done : List Pile) (records : List Record) (skipped : ℕ) : Type 0 where
  pub taken : List (Option Record)
  pub each : AllZip (PileIsTaken now) done taken
  pub records_are : records ≡ flat_map option_to_list taken
  pub skipped_is : skipped ≡ count_by is_none taken

pub has_none : (now : ℕ) → HasStored now [] [] 0
has_none now = record { taken = []; each = tt; records_are = refl; skipped_is = refl }

count_push : {X : Type 0} (p : X → Bool) (xs : List X) (x : X) → count_by p (xs ++ x ∷ []) ≡ count_by p xs + count_by p (x ∷ [])
count_push p xs x =
    sym (length-filter p (xs ++ x ∷ [])) ∙ ap length (filter-append p xs (x ∷ [])) ∙ length-append (filter p xs) (filter p (x ∷ []))
    ∙ ap (λ n. n + length (filter p (x ∷ []))) (length-filter p xs) ∙ ap (λ n. count_by p xs + n) (length-filter p (x ∷ []))

pub stored_some : (now : ℕ) (done : List Pile) (records records' : List Record) (skipped : ℕ) (pile : Pile) (taken : Option Record) (item : Record) → HasStored now done records skipped
    → PileIsTaken now pile taken → taken ≡ Some item → records' ≡ records ++ item ∷ [] → HasStored now (done ++ pile ∷ []) records' skipped
stored_some now done records records' skipped pile taken item has is taken-is pushed = record {
  taken = has.taken ++ taken ∷ [];
  each = all_zipped_more (PileIsTaken now) done has.taken pile taken has.each is;
  records_are =
      pushed
      ∙ ap (λ rs. rs ++ item ∷ []) has.records_are
      ∙ ap (λ t. flat_map option_to_list has.taken ++ (option_to_list t ++ [])) (sym taken-is)
      ∙ sym (flat_map-append option_to_list has.taken (taken ∷ []));
  skipped_is =
      let more = count_push is_none has.taken taken in
      let none = ap (λ t. count_by is_none (t ∷ [])) taken-is in
      omega (arith, has.skipped_is, more, none);
}

pub stored_none : (now : ℕ) (done : List Pile) (records : List Record) (skipped : ℕ) (pile : Pile) (taken : Option Record) → HasStored now done records skipped
    → PileIsTaken now pile taken → taken ≡ None → HasStored now (done ++ pile ∷ []) records (skipped + 1)
stored_none now done records skipped pile taken has is taken-is = record {
  taken = has.taken ++ taken ∷ [];
  each = all_zipped_more (PileIsTaken now) done has.taken pile taken has.each is;
  records_are =
      has.records_are
      ∙ sym (append-nil (flat_map option_to_list has.taken))
      ∙ ap (λ t. flat_map option_to_list has.taken ++ (option_to_list t ++ [])) (sym taken-is)
      ∙ sym (flat_map-append option_to_list has.taken (taken ∷ []));
  skipped_is =
      let more = count_push is_none has.taken taken in
      let none = ap (λ t. count_by is_none (t ∷ [])) taken-is in
      omega (arith, has.skipped_is, more, none);
}

pub skipped_few : (now : ℕ) (done : List Pile) (records : List Record) (skipped : ℕ) → HasStored now done records skipped → skipped ≤ length done
skipped_few now done records skipped has =
    let few = count_by-le-length is_none has.taken in
    let long = AllZip-long (PileIsTaken now) done has.taken has.each in
    omega (arith, few, long, has.skipped_is)

-- ---- the batch of all piles

zip_through : {A B C : Type 0} (R : A → B → Type 0) (S : B → C → Type 0) (T : A → C → Type 0) → ((x : A) (y : B) (z : C) → R x y → S y z → T x z)
    → (xs : List A) (ys : List B) (zs : List C) → AllZip R xs ys → AllZip S ys zs → AllZip T xs zs
zip_through R S T step [] [] [] p q = tt
zip_through R S T step [] [] (z ∷ zs) p q = absurd q
zip_through R S T step [] (y ∷ ys) zs p q = absurd p
zip_through R S T step (x ∷ xs) [] zs p q = absurd p
zip_through R S T step (x ∷ xs) (y ∷ ys) [] p q = absurd q
zip_through R S T step (x ∷ xs) (y ∷ ys) (z ∷ zs) p q = (step x y z p.0 q.0, zip_through R S T step xs ys zs p.1 q.1)

pub brings_all : (message : Message) (now : ℕ) (piles : List Pile) (records : List Record) (skipped : ℕ) → piles ≡ piles_in now (message.answer ++ message.authority) → HasStored now piles records skipped
    → Brings message now record { now = now; records = records } skipped
brings_all message now piles records skipped all has = record {
  taken = has.taken;
  each = zip_through IsPileOf (PileIsTaken now) (IsTakenAs now) (λ group pile taken of is. is group of) (groups_of now (message.answer ++ message.authority)) piles has.taken
      (subst (AllZip IsPileOf (groups_of now (message.answer ++ message.authority))) (sym all) (groups_piled now (message.answer ++ message.authority)))
      has.each;
  batch_is = ap (λ rs. record { now = now; records = rs }) has.records_are;
  skipped_is = has.skipped_is;
}

-- ---- bounds

filter_few : {X : Type 0} (p : X → Bool) (xs : List X) → length (filter p xs) ≤ length xs
filter_few p xs = omega (arith, length-filter p xs, count_by-le-length p xs)

once_few : {X : Type 0} (alike : X → X → Bool) (xs : List X) → length (each_once alike xs) ≤ length xs
once_few alike [] = omega arith
once_few alike (x ∷ xs) =
    let rest = once_few alike xs in
    let kept = filter_few (λ y. not (alike x y)) (each_once alike xs) in
    omega (arith, rest, kept)

pub piles_few : (now : ℕ) (rrs : List Rr) → length (piles_in now rrs) ≤ length rrs
piles_few now rrs =
    let same = AllZip-long IsPileOf (groups_of now rrs) (piles_in now rrs) (groups_piled now rrs) in
    let mapped = length-map (each_once is_together (data_of rrs)) (group_of now rrs) in
    let once = once_few is_together (data_of rrs) in
    let kept = filter_few (λ (rr : Rr). not (is_rrsig rr)) rrs in
    omega (arith, same, mapped, once, kept)

-- ---- messages

long_data : (message : List ℕ) (stop at : ℕ) (rdata : List ℕ) → IsData message stop (layout_of 46) at rdata → 18 ≤ length rdata
long_data message stop at rdata is =
    let size = is.3.1 in
    let both = ap length is.6 ∙ length-append is.0 is.2 in
    omega (arith, size, both)

rr_long : (message : List ℕ) (at : ℕ) (rr : Rr) (end : ℕ) → IsRr message at rr end → HasFixedPart rr
rr_long message at rr end is is_rrsig =
    let rtype : is.head.fields.rtype ≡ 46 = sym is.rtype ∙ is_rrsig in
    long_data message is.head.fields.end is.head.fields.data_at rr.octets (subst (λ t. IsData message is.head.fields.end (layout_of t) is.head.fields.data_at rr.octets) rtype is.rdata)

pub rrs_long : (message : List ℕ) (at : ℕ) (rrs : List Rr) (end : ℕ) → StandInTurn (IsRr message) at rrs end → All HasFixedPart rrs
rrs_long message at [] end are = All-nil HasFixedPart
rrs_long message at (rr ∷ more) end are = All-cons HasFixedPart rr more (rr_long message at rr are.0 are.1) (rrs_long message are.0 more end are.2)

number_small : (octets : List ℕ) (at : ℕ) → ((i : ℕ) → get_or octets i 0 < 256) → big_number 2 (drop at octets) < 2 ^ 16
number_small octets at small =
    let first = get_or-drop at octets 0 0 in
    let second = get_or-drop at octets 1 0 in
    omega (arith, first, second, small (at + 0), small (at + 1))

pub few_rrs : (octets : List ℕ) (message : Message) → ((i : ℕ) → get_or octets i 0 < 256) → IsMessage octets message → length message.answer + length message.authority < 2 ^ 32
few_rrs octets message small is =
    let answers = number_small octets 6 small in
    let authorities = number_small octets 8 small in
    omega (arith, answers, authorities, is.answers, is.authorities, is.question.named.head.answers, is.question.named.head.authorities)
