-- Records that are written out stand where they were written.
use Rattle.std.proofs.Common.{◌≡◌, ℕ, ◌+◌, ◌^◌, ◌<◌, ◌≤◌, List, [], ◌∷◌, ◌++◌, length, map, drop, refl, sym, ◌∙◌, ap, subst, arith, append_assoc, append-nil, length-append, length-drop, drop-drop, drop_at}
use Rattle.std.specs.List.{All}
use Rattle.std.proofs.lemmas.List.Elements.{All-head, All-tail}
use Rattle.byteorder.specs.Endian.{big_number, big_bytes}
use Rattle.byteorder.specs.Numbers.{big_number-reads_back}
use Rattle.dname.specs.Name.{Label, HasLabelLength, lowered, wire_of}
use Rattle.dname.specs.declared.types.TheConstants.{IN_CLASS}
use Rattle.dnswire.specs.MessageName.{Reads, NameAt}
use Rattle.dnswire.specs.MessageName.Reads.{closed, labelled}
use Rattle.dnswire.specs.RrHead.{RrHead, AreRrFields}
use Rattle.dnswire.specs.Data.{layout_of, IsData, AreOctets, IsWrittenOut}
use Rattle.dnswire.specs.Message.{IsRr}
use Rattle.dnswire.specs.InTurn.{StandInTurn}
use Rattle.dnswire.specs.declared.rr.Rr.{Rr}
use Rattle.zone_maker.specs.Messages.{record_octets}

-- ---- octets that stand at an offset

-- what follows them
pub behind : (message : List ℕ) (at : ℕ) (xs rest : List ℕ) → drop at message ≡ xs ++ rest → drop (at + length xs) message ≡ rest
behind message at xs rest stands = sym (drop-drop (length xs) at message) ∙ ap (drop (length xs)) stands ∙ drop_at xs rest (length xs) refl

pub stands_within : (message : List ℕ) (at : ℕ) (xs rest : List ℕ) → 1 ≤ length xs → drop at message ≡ xs ++ rest → at + length xs ≤ length message
stands_within message at xs rest some stands = omega (arith, some, ap length stands, length-drop at message, length-append xs rest)

pub number_stands : (message : List ℕ) (at n x : ℕ) (rest : List ℕ) → x < 256 ^ n → drop at message ≡ big_bytes n x ++ rest → x ≡ big_number n (drop at message)
number_stands message at n x rest small stands = sym (ap (big_number n) stands ∙ big_number-reads_back n x rest small)

-- ---- names

-- a name as it is kept and written
pub record IsPlain (labels : List Label) : Type 0 where
  pub sizes : All HasLabelLength labels
  pub fits : length (wire_of labels) ≤ 255
  pub lower : labels ≡ map lowered labels

pub name_reads : (message : List ℕ) (start at : ℕ) (labels : List Label) (rest : List ℕ) → All HasLabelLength labels → drop at message ≡ wire_of labels ++ rest → Reads message start at labels (at + length (wire_of labels))
name_reads message start at [] rest sizes stands = closed start at (at + 1) (record { rest = rest; stands = stands }) refl
name_reads message start at (label ∷ labels) rest sizes stands =
    let apart : drop at message ≡ (length label ∷ label) ++ (wire_of labels ++ rest) = stands ∙ ap (λ l. length label ∷ l) (append_assoc label (wire_of labels) rest) in
    let long : at + length (length label ∷ label) ≡ at + 1 + length label = omega arith in
    let next : drop (at + 1 + length label) message ≡ wire_of labels ++ rest = subst (λ n. drop n message ≡ wire_of labels ++ rest) long (behind message at (length label ∷ label) (wire_of labels ++ rest) apart) in
    let end : at + 1 + length label + length (wire_of labels) ≡ at + length (wire_of (label ∷ labels)) = omega (arith, length-append label (wire_of labels)) in
    labelled start at (at + length (wire_of (label ∷ labels))) label labels
    (record { rest = wire_of labels ++ rest; stands = apart; size = All-head HasLabelLength label labels sizes })
    (subst (λ n. Reads message start (at + 1 + length label) labels n) end
    (name_reads message start (at + 1 + length label) labels rest (All-tail HasLabelLength label labels sizes) next))

pub name_stands : (message : List ℕ) (at : ℕ) (name : List Label) (rest : List ℕ) → IsPlain name → drop at message ≡ wire_of name ++ rest → NameAt message at name (at + length (wire_of name))
name_stands message at name rest plain stands = record { labels = name; reads = name_reads message at at name rest plain.sizes stands; fits = plain.fits; lower = plain.lower }

-- ---- data

-- a layout says of data from an offset up to `stop` how it is written out
abbrev pub Layout : Type 1
Layout = List ℕ → ℕ → ℕ → List ℕ → Type 0

abbrev pub nothing : Layout
nothing message stop at rdata = (at ≡ stop) × (rdata ≡ [])

-- the octets that one field is written out as, where it ends, and what follows
abbrev Split : (List ℕ → ℕ → Type 0) → (ℕ → List ℕ → Type 0) → ℕ → List ℕ → Type 0
Split IsFirst AreOthers stop rdata =
    (octets : List ℕ) × (end : ℕ) × (others : List ℕ) × IsFirst octets end × (end ≤ stop) × AreOthers end others × (rdata ≡ octets ++ others)

abbrev pub the_rest : Layout
the_rest message stop at rdata = Split (λ octets end. AreOctets message at octets end × (end ≡ stop)) (nothing message stop) stop rdata

abbrev pub numbers_then : ℕ → Layout → Layout
numbers_then count more message stop at rdata = Split (λ octets end. AreOctets message at octets end × (length octets ≡ count)) (more message stop) stop rdata

abbrev pub name_then : Layout → Layout
name_then more message stop at rdata = Split (IsWrittenOut message at) (more message stop) stop rdata

-- wherever the data stands in a message, it has the layout, written as it is
abbrev pub IsLaidOut : Layout → List ℕ → Type 0
IsLaidOut layout rdata = (message : List ℕ) (at stop : ℕ) (rest : List ℕ) → drop at message ≡ rdata ++ rest → stop ≡ at + length rdata → layout message stop at rdata

pub laid_none : IsLaidOut nothing []
laid_none message at stop rest stands end = (omega (arith, end), refl)

pub laid_rest : (xs : List ℕ) → IsLaidOut the_rest xs
laid_rest xs message at stop rest stands end = (
  xs,
  at + length xs,
  [],
  (record { rest = rest; stands = stands; end_is = refl }, sym end),
  omega (arith, end),
  (sym end, refl),
  sym (append-nil xs),
)

pub laid_numbers : (xs others : List ℕ) (more : Layout) → IsLaidOut more others → IsLaidOut (numbers_then (length xs) more) (xs ++ others)
laid_numbers xs others more laid message at stop rest stands end =
    let apart : drop at message ≡ xs ++ (others ++ rest) = stands ∙ append_assoc xs others rest in
    let ends : stop ≡ at + length xs + length others = omega (arith, end, length-append xs others) in (
      xs,
      at + length xs,
      others,
      (record { rest = others ++ rest; stands = apart; end_is = refl }, refl),
      omega (arith, ends),
      laid message (at + length xs) stop rest (behind message at xs (others ++ rest) apart) ends,
      refl,
    )

pub laid_name : (name : List Label) (others : List ℕ) (more : Layout) → IsPlain name → IsLaidOut more others → IsLaidOut (name_then more) (wire_of name ++ others)
laid_name name others more plain laid message at stop rest stands end =
    let apart : drop at message ≡ wire_of name ++ (others ++ rest) = stands ∙ append_assoc (wire_of name) others rest in
    let ends : stop ≡ at + length (wire_of name) + length others = omega (arith, end, length-append (wire_of name) others) in (
      wire_of name,
      at + length (wire_of name),
      others,
      record { labels = name; reads = name_reads message at at name (others ++ rest) plain.sizes apart; fits = plain.fits; wire = refl },
      omega (arith, ends),
      laid message (at + length (wire_of name)) stop rest (behind message at (wire_of name) (others ++ rest) apart) ends,
      refl,
    )

-- the layout of a type's data (RFC 1035, section 3.3; RFC 3597, section 3)
abbrev pub layout_for : ℕ → Layout
layout_for rtype message stop at rdata = IsData message stop (layout_of rtype) at rdata

-- ---- records

-- a record of class IN that lives an hour
abbrev pub rr_of : List Label → ℕ → List ℕ → Rr
rr_of owner rtype rdata = record { owner = owner; rtype = rtype; class = IN_CLASS; ttl = 3600; octets = rdata }

-- its name is plain and its numbers have their octets, and its data has the layout of its type
pub record IsWritten (owner : List Label) (rtype : ℕ) (rdata : List ℕ) : Type 0 where
  pub plain : IsPlain owner
  pub type_small : rtype < 2 ^ 16
  pub data_short : length rdata < 2 ^ 16
  pub laid : IsLaidOut (layout_for rtype) rdata

-- what follows the owner name
abbrev numbers_of : ℕ → List ℕ → List ℕ
numbers_of rtype rdata = big_bytes 2 rtype ++ big_bytes 2 IN_CLASS ++ big_bytes 4 3600 ++ big_bytes 2 (length rdata)

-- what stands before the data, where the owner name ends at the offset
abbrev head_at : ℕ → List Label → ℕ → List ℕ → RrHead
head_at at owner rtype rdata = record { owner = owner; fields = record { rtype = rtype; class = IN_CLASS; ttl = 3600; data_at = at + 10; end = at + 10 + length rdata } }

fields_stand : (message : List ℕ) (at rtype : ℕ) (rdata rest : List ℕ) → rtype < 2 ^ 16 → length rdata < 2 ^ 16 → drop at message ≡ numbers_of rtype rdata ++ (rdata ++ rest)
    → AreRrFields message at (head_at at [] rtype rdata).fields
fields_stand message at rtype rdata rest small short stands =
    let second : drop (at + 2) message ≡ big_bytes 2 IN_CLASS ++ (big_bytes 4 3600 ++ (big_bytes 2 (length rdata) ++ (rdata ++ rest))) = behind message at (big_bytes 2 rtype) _ stands in
    let third : drop (at + 4) message ≡ big_bytes 4 3600 ++ (big_bytes 2 (length rdata) ++ (rdata ++ rest)) = behind message at (big_bytes 2 rtype ++ big_bytes 2 IN_CLASS) _ stands in
    let fourth : drop (at + 8) message ≡ big_bytes 2 (length rdata) ++ (rdata ++ rest) = behind message at (big_bytes 2 rtype ++ big_bytes 2 IN_CLASS ++ big_bytes 4 3600) _ stands in
    let size : length rdata ≡ big_number 2 (drop (at + 8) message) = number_stands message (at + 8) 2 (length rdata) _ short fourth in
    record {
      type_is = number_stands message at 2 rtype _ small stands;
      class_is = number_stands message (at + 2) 2 IN_CLASS _ (omega arith) second;
      ttl_is = number_stands message (at + 4) 4 3600 _ (omega arith) third;
      data_is = refl;
      end_is = omega (arith, size);
      within = omega (arith, stands_within message at (numbers_of rtype rdata ++ rdata) rest (omega arith) stands);
    }

regrouped : (front xs ys more : List ℕ) → xs ≡ front ++ ys → xs ++ more ≡ front ++ (ys ++ more)
regrouped front xs ys more is = ap (λ l. l ++ more) is ∙ append_assoc front ys more

-- the owner name, and what follows it
in_two : (owner : List Label) (rtype : ℕ) (rdata : List ℕ) → record_octets owner rtype rdata ≡ wire_of owner ++ (numbers_of rtype rdata ++ rdata)
in_two owner rtype rdata =
    let name : List ℕ = wire_of owner in
    let first : name ++ big_bytes 2 rtype ≡ name ++ big_bytes 2 rtype = refl in
    let second = regrouped name (name ++ big_bytes 2 rtype) (big_bytes 2 rtype) (big_bytes 2 IN_CLASS) first in
    let third = regrouped name (name ++ big_bytes 2 rtype ++ big_bytes 2 IN_CLASS) (big_bytes 2 rtype ++ big_bytes 2 IN_CLASS) (big_bytes 4 3600) second in
    let fourth = regrouped name (name ++ big_bytes 2 rtype ++ big_bytes 2 IN_CLASS ++ big_bytes 4 3600) (big_bytes 2 rtype ++ big_bytes 2 IN_CLASS ++ big_bytes 4 3600) (big_bytes 2 (length rdata)) third in
    regrouped name (name ++ big_bytes 2 rtype ++ big_bytes 2 IN_CLASS ++ big_bytes 4 3600 ++ big_bytes 2 (length rdata)) (numbers_of rtype rdata) rdata fourth

pub record_size : (owner : List Label) (rtype : ℕ) (rdata : List ℕ) → length (record_octets owner rtype rdata) ≡ length (wire_of owner) + 10 + length rdata
record_size owner rtype rdata = omega (arith, ap length (in_two owner rtype rdata), length-append (wire_of owner) (numbers_of rtype rdata ++ rdata))

pub record_stands : (message : List ℕ) (at : ℕ) (owner : List Label) (rtype : ℕ) (rdata rest : List ℕ) → IsWritten owner rtype rdata → drop at message ≡ record_octets owner rtype rdata ++ rest
    → IsRr message at (rr_of owner rtype rdata) (at + length (record_octets owner rtype rdata))
record_stands message at owner rtype rdata rest written stands =
    let apart : drop at message ≡ wire_of owner ++ (numbers_of rtype rdata ++ (rdata ++ rest)) =
    stands ∙ ap (λ l. l ++ rest) (in_two owner rtype rdata) ∙ append_assoc (wire_of owner) (numbers_of rtype rdata ++ rdata) rest in
    let fields_at : ℕ = at + length (wire_of owner) in
    let fields : drop fields_at message ≡ numbers_of rtype rdata ++ (rdata ++ rest) = behind message at (wire_of owner) _ apart in
    record {
      head = head_at fields_at owner rtype rdata;
      reads = record {
        fields_at = fields_at;
        owner = name_stands message at owner (numbers_of rtype rdata ++ (rdata ++ rest)) written.plain apart;
        fields = fields_stand message fields_at rtype rdata rest written.type_small written.data_short fields;
        end_is = omega (arith, record_size owner rtype rdata);
      };
      owner = refl;
      rtype = refl;
      class = refl;
      ttl = refl;
      rdata = written.laid message (fields_at + 10) (fields_at + 10 + length rdata) rest (behind message fields_at (numbers_of rtype rdata) (rdata ++ rest) fields) refl;
    }

-- ---- records one after the other

pub record Written : Type 0 where
  pub owner : List Label
  pub rtype : ℕ
  pub rdata : List ℕ

abbrev pub rr_in : Written → Rr
rr_in w = rr_of w.owner w.rtype w.rdata

abbrev pub octets_of : Written → List ℕ
octets_of w = record_octets w.owner w.rtype w.rdata

abbrev pub octets_in : List Written → List ℕ
octets_in [] = []
octets_in (w ∷ ws) = octets_of w ++ octets_in ws

abbrev pub AreWritten : List Written → Type 0
AreWritten [] = Unit {0}
AreWritten (w ∷ ws) = IsWritten w.owner w.rtype w.rdata × AreWritten ws

pub all_stand : (message : List ℕ) (at : ℕ) (ws : List Written) (rest : List ℕ) → AreWritten ws → drop at message ≡ octets_in ws ++ rest → StandInTurn (IsRr message) at (map rr_in ws) (at + length (octets_in ws))
all_stand message at [] rest written stands = omega arith
all_stand message at (w ∷ ws) rest written stands =
    let apart : drop at message ≡ octets_of w ++ (octets_in ws ++ rest) = stands ∙ append_assoc (octets_of w) (octets_in ws) rest in
    let ends : at + length (octets_of w) + length (octets_in ws) ≡ at + length (octets_in (w ∷ ws)) = omega (arith, length-append (octets_of w) (octets_in ws)) in (
      at + length (octets_of w),
      record_stands message at w.owner w.rtype w.rdata (octets_in ws ++ rest) written.0 apart,
      subst (λ n. StandInTurn (IsRr message) (at + length (octets_of w)) (map rr_in ws) n) ends
          (all_stand message (at + length (octets_of w)) ws rest written.1 (behind message at (octets_of w) (octets_in ws ++ rest) apart)),
    )
