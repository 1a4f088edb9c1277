-- The laws, call by call: numbers are spent, and what has gone stays so.
use Rattle.std.proofs.Common.{◌≡◌, ◌≢◌, ◌∙◌, ℕ, ◌+◌, ◌<◌, ◌≤◌, ◌⊎◌, inl, inr, ⊎_elim, List, [], ◌∷◌, ◌++◌, length, set, refl, ap, sym, subst, arith, Option, Some, None, All}
use Rattle.std.specs.Prelude.{option_and_then, option_map}
use Rattle.std.specs.Option.{option_to_list}
use Rattle.std.specs.List.{AllPairs, position}
use Rattle.std.proofs.lemmas.Bool.{cases_eq}
use Rattle.std.proofs.lemmas.List.{get_or-set_same, length-set}
use Rattle.std.proofs.lemmas.List.Elements.{All-append, All-cons, All-nil}
use Rattle.std.proofs.lemmas.List.Kept.{AllPairs-cons}
use Rattle.std.proofs.lemmas.List.Quantifiers.{position-Some}
use Rattle.stream_clients.specs.Number.{Client, number_of}
use Rattle.stream_clients.specs.Connection.{Change, Connection, closed, passed, replied, unreplied, with_octets, written}
use Rattle.stream_clients.specs.Places.{Place, begun, begun_at, changed, changed_in, connection_in, connection_of, is_free, new_client, next_client, no_connections, place_at, unused}
use Rattle.stream_clients.specs.Steps.{Step, Opened, Took, Passed, Replied, Unreplied, Written, Closed, after_one, new_by}
use Rattle.stream_clients.specs.Laws.{EachHasItsNumber, TheGoneStayGone, after, over}
use Rattle.stream_clients.proofs.PlaceLemmas.{is_last, none_of_another, of_changed, of_changed_other, set_place}

-- one client, or two
pub cases_client : (one other : Client) → (one ≡ other) ⊎ (one ≡ other → ⊥)
cases_client one other = ⊎_elim
    (λ (p : one.place ≡ other.place). ⊎_elim
    (λ (g : one.generation ≡ other.generation). inl (λ i. record { place = p i; generation = g i }))
    (λ (ne : one.generation ≡ other.generation → ⊥). inr (λ (e : one ≡ other). ne (ap (λ (c : Client). c.generation) e)))
    (cases_eq one.generation other.generation))
    (λ (ne : one.place ≡ other.place → ⊥). inr (λ (e : one ≡ other). ne (ap (λ (c : Client). c.place) e)))
    (cases_eq one.place other.place)

-- ---- spent numbers

-- the place has had this connection
abbrev pub IsSpent : Client → List Place → Type 0
IsSpent client places = client.generation ≤ (place_at places client.place).generation

generation_changed : (client : Client) (change : Change) (places : List Place) (i : ℕ) → (place_at (changed client change places) i).generation ≡ (place_at places i).generation
generation_changed client change places i = ⊎_elim
    (λ at. ap (λ (p : Place). p.generation) at.2 ∙ ap (λ (k : ℕ). (place_at places k).generation) (sym at.0))
    (λ same. ap (λ (p : Place). p.generation) same)
    (set_place places client.place (changed_in client.generation change (place_at places client.place)) i)

spent_changed : (client other : Client) (change : Change) (places : List Place) → IsSpent client places → IsSpent client (changed other change places)
spent_changed client other change places spent = let same = generation_changed other change places client.place in omega arith

spent_begun : (client : Client) (now : ℕ) (free : Option ℕ) (places : List Place) → IsSpent client places → IsSpent client (begun_at now free places)
spent_begun client now None places spent = spent
spent_begun client now (Some k) places spent = ⊎_elim
    (λ at.
    let more : (place_at (set places k (begun now (place_at places k))) client.place).generation ≡ (place_at places k).generation + 1 = ap (λ (p : Place). p.generation) at.2 in
    let there : (place_at places client.place).generation ≡ (place_at places k).generation = ap (λ (i : ℕ). (place_at places i).generation) at.0 in
    omega arith)
    (λ same. let there : (place_at (set places k (begun now (place_at places k))) client.place).generation ≡ (place_at places client.place).generation = ap (λ (p : Place). p.generation) same in omega arith)
    (set_place places k (begun now (place_at places k)) client.place)

pub spent_after : (client : Client) (step : Step) (places : List Place) → IsSpent client places → IsSpent client (after_one step places)
spent_after client (Opened now) places spent = spent_begun client now (position is_free places) places spent
spent_after client (Took other octets) places spent = spent_changed client other (with_octets octets) places spent
spent_after client (Passed other) places spent = spent_changed client other passed places spent
spent_after client (Replied other octets now) places spent = spent_changed client other (replied octets now) places spent
spent_after client (Unreplied other now) places spent = spent_changed client other (unreplied now) places spent
spent_after client (Written other count now) places spent = spent_changed client other (written count now) places spent
spent_after client (Closed other) places spent = spent_changed client other closed places spent

pub spent_run : (client : Client) (steps : List Step) (places : List Place) → IsSpent client places → IsSpent client (after steps places)
spent_run client [] places spent = spent
spent_run client (step ∷ more) places spent = spent_run client more (after_one step places) (spent_after client step places spent)

-- an still connection's number is spent
pub open_is_spent : (client : Client) (places : List Place) (c : Connection) → connection_of client places ≡ Some c → IsSpent client places
open_is_spent client places c still = let last = is_last client.generation (place_at places client.place) c still in omega arith

-- ---- what has gone

gone_changed : (client other : Client) (change : Change) (places : List Place) → connection_of client places ≡ None → connection_of client (changed other change places) ≡ None
gone_changed client other change places none = ⊎_elim
    (λ (e : other ≡ client). subst (λ (o : Client). connection_of client (changed o change places) ≡ None) (sym e) (of_changed client change places ∙ ap (option_and_then change) none))
    (λ (ne : other ≡ client → ⊥). of_changed_other other client change places ne ∙ none)
    (cases_client other client)

gone_begun : (client : Client) (now : ℕ) (free : Option ℕ) (places : List Place) → IsSpent client places → connection_of client places ≡ None → connection_of client (begun_at now free places) ≡ None
gone_begun client now None places spent none = none
gone_begun client now (Some k) places spent none = ⊎_elim
    (λ at.
    let there : (place_at places client.place).generation ≡ (place_at places k).generation = ap (λ (i : ℕ). (place_at places i).generation) at.0 in
    ap (connection_in client.generation) at.2
    ∙ none_of_another client.generation (begun now (place_at places k)) (λ (e : (place_at places k).generation + 1 ≡ client.generation). omega arith))
    (λ same. ap (connection_in client.generation) same ∙ none)
    (set_place places k (begun now (place_at places k)) client.place)

pub gone_after : (client : Client) (step : Step) (places : List Place) → IsSpent client places → connection_of client places ≡ None → connection_of client (after_one step places) ≡ None
gone_after client (Opened now) places spent none = gone_begun client now (position is_free places) places spent none
gone_after client (Took other octets) places spent none = gone_changed client other (with_octets octets) places none
gone_after client (Passed other) places spent none = gone_changed client other passed places none
gone_after client (Replied other octets now) places spent none = gone_changed client other (replied octets now) places none
gone_after client (Unreplied other now) places spent none = gone_changed client other (unreplied now) places none
gone_after client (Written other count now) places spent none = gone_changed client other (written count now) places none
gone_after client (Closed other) places spent none = gone_changed client other closed places none

pub gone_run : (client : Client) (steps : List Step) (places : List Place) → IsSpent client places → connection_of client places ≡ None → connection_of client (after steps places) ≡ None
gone_run client [] places spent none = none
gone_run client (step ∷ more) places spent none = gone_run client more (after_one step places) (spent_after client step places spent) (gone_after client step places spent none)

-- ---- who connects

-- whoever connects has a number that was not spent, and is from then on
new_is_spent : (now : ℕ) (places : List Place) (k : ℕ) → k < length places → IsSpent (next_client places k) (begun_at now (Some k) places)
new_is_spent now places k within =
    let more : (place_at (set places k (begun now (place_at places k))) k).generation ≡ (place_at places k).generation + 1 = ap (λ (p : Place). p.generation) (get_or-set_same places k (begun now (place_at places k)) unused within) in
    omega arith

one_spent : (now : ℕ) (places : List Place) (free : Option ℕ) → position is_free places ≡ free → All (λ client. IsSpent client (begun_at now free places)) (option_to_list (option_map (next_client places) free))
one_spent now places None is = All-nil (λ client. IsSpent client places)
one_spent now places (Some k) is =
    let found = position-Some is_free places k unused is in
    All-cons (λ client. IsSpent client (begun_at now (Some k) places)) (next_client places k) [] (new_is_spent now places k found.0) (All-nil (λ client. IsSpent client (begun_at now (Some k) places)))

new_spent : (step : Step) (places : List Place) → All (λ client. IsSpent client (after_one step places)) (new_by step places)
new_spent (Opened now) places = one_spent now places (position is_free places) refl
new_spent (Took other octets) places = All-nil (λ client. IsSpent client (changed other (with_octets octets) places))
new_spent (Passed other) places = All-nil (λ client. IsSpent client (changed other passed places))
new_spent (Replied other octets now) places = All-nil (λ client. IsSpent client (changed other (replied octets now) places))
new_spent (Unreplied other now) places = All-nil (λ client. IsSpent client (changed other (unreplied now) places))
new_spent (Written other count now) places = All-nil (λ client. IsSpent client (changed other (written count now) places))
new_spent (Closed other) places = All-nil (λ client. IsSpent client (changed other closed places))

all_spent : (steps : List Step) (places : List Place) → All (λ client. IsSpent client (after steps places)) (over new_by steps places)
all_spent [] places = All-nil (λ client. IsSpent client places)
all_spent (step ∷ more) places =
    All-append (λ client. IsSpent client (after more (after_one step places))) (new_by step places) (over new_by more (after_one step places))
    (λ k d h. spent_run _ more (after_one step places) (new_spent step places k d h))
    (all_spent more (after_one step places))

pub gone_stay_gone : TheGoneStayGone
gone_stay_gone before later client had none =
    let spent : IsSpent client (after before no_connections) = subst (λ (c : Client). IsSpent c (after before no_connections)) had.2 (all_spent before no_connections had.0 client had.1) in
    gone_run client later (after before no_connections) spent none

-- ---- numbers

-- two numbers that are one
abbrev pub Differ : Client → Client → Type 0
Differ one other = number_of one ≢ number_of other

new_differs : (client : Client) (places : List Place) (k : ℕ) → IsSpent client places → client.place < 32 → k < 32 → Differ client (next_client places k)
new_differs client places k spent within place same =
    let at : client.place ≡ k = omega arith in
    let there : (place_at places client.place).generation ≡ (place_at places k).generation = ap (λ (i : ℕ). (place_at places i).generation) at in
    omega arith

one_differs : (client : Client) (places : List Place) (free : Option ℕ) → position is_free places ≡ free → IsSpent client places → client.place < 32 → length places ≡ 32 → All (Differ client) (option_to_list (option_map (next_client places) free))
one_differs client places None is spent within all = All-nil (Differ client)
one_differs client places (Some k) is spent within all =
    let found = position-Some is_free places k unused is in
    All-cons (Differ client) (next_client places k) [] (new_differs client places k spent within (omega (arith, found.0, all))) (All-nil (Differ client))

step_differs : (client : Client) (step : Step) (places : List Place) → IsSpent client places → client.place < 32 → length places ≡ 32 → All (Differ client) (new_by step places)
step_differs client (Opened now) places spent within all = one_differs client places (position is_free places) refl spent within all
step_differs client (Took other octets) places spent within all = All-nil (Differ client)
step_differs client (Passed other) places spent within all = All-nil (Differ client)
step_differs client (Replied other octets now) places spent within all = All-nil (Differ client)
step_differs client (Unreplied other now) places spent within all = All-nil (Differ client)
step_differs client (Written other count now) places spent within all = All-nil (Differ client)
step_differs client (Closed other) places spent within all = All-nil (Differ client)

length_changed : (client : Client) (change : Change) (places : List Place) → length (changed client change places) ≡ length places
length_changed client change places = length-set places client.place (changed_in client.generation change (place_at places client.place))

length_begun : (now : ℕ) (free : Option ℕ) (places : List Place) → length (begun_at now free places) ≡ length places
length_begun now None places = refl
length_begun now (Some k) places = length-set places k (begun now (place_at places k))

-- the places stay as many
pub length_after : (step : Step) (places : List Place) → length (after_one step places) ≡ length places
length_after (Opened now) places = length_begun now (position is_free places) places
length_after (Took client octets) places = length_changed client (with_octets octets) places
length_after (Passed client) places = length_changed client passed places
length_after (Replied client octets now) places = length_changed client (replied octets now) places
length_after (Unreplied client now) places = length_changed client (unreplied now) places
length_after (Written client count now) places = length_changed client (written count now) places
length_after (Closed client) places = length_changed client closed places

later_differ : (client : Client) (steps : List Step) (places : List Place) → IsSpent client places → client.place < 32 → length places ≡ 32 → All (Differ client) (over new_by steps places)
later_differ client [] places spent within all = All-nil (Differ client)
later_differ client (step ∷ more) places spent within all =
    All-append (Differ client) (new_by step places) (over new_by more (after_one step places)) (step_differs client step places spent within all)
    (later_differ client more (after_one step places) (spent_after client step places spent) within (length_after step places ∙ all))

-- whoever connects first differs from all who do later
first_differs : (client : Option Client) (later : List Client) → All (λ c. All (Differ c) later) (option_to_list client) → AllPairs Differ later → AllPairs Differ (option_to_list client ++ later)
first_differs None later first pairs = pairs
first_differs (Some client) later first pairs = AllPairs-cons Differ client later (first 0 client (omega arith)) pairs

step_first : (step : Step) (places : List Place) (later : List Client) → All (λ c. All (Differ c) later) (new_by step places) → AllPairs Differ later → AllPairs Differ (new_by step places ++ later)
step_first (Opened now) places later first pairs = first_differs (new_client places) later first pairs
step_first (Took other octets) places later first pairs = pairs
step_first (Passed other) places later first pairs = pairs
step_first (Replied other octets now) places later first pairs = pairs
step_first (Unreplied other now) places later first pairs = pairs
step_first (Written other count now) places later first pairs = pairs
step_first (Closed other) places later first pairs = pairs

one_within : (places : List Place) (free : Option ℕ) → position is_free places ≡ free → length places ≡ 32 → All (λ client. client.place < 32) (option_to_list (option_map (next_client places) free))
one_within places None is all = All-nil (λ (client : Client). client.place < 32)
one_within places (Some k) is all =
    let found = position-Some is_free places k unused is in
    All-cons (λ (client : Client). client.place < 32) (next_client places k) [] (omega (arith, found.0, all)) (All-nil (λ (client : Client). client.place < 32))

new_within : (step : Step) (places : List Place) → length places ≡ 32 → All (λ client. client.place < 32) (new_by step places)
new_within (Opened now) places all = one_within places (position is_free places) refl all
new_within (Took other octets) places all = All-nil (λ (client : Client). client.place < 32)
new_within (Passed other) places all = All-nil (λ (client : Client). client.place < 32)
new_within (Replied other octets now) places all = All-nil (λ (client : Client). client.place < 32)
new_within (Unreplied other now) places all = All-nil (λ (client : Client). client.place < 32)
new_within (Written other count now) places all = All-nil (λ (client : Client). client.place < 32)
new_within (Closed other) places all = All-nil (λ (client : Client). client.place < 32)

all_differ : (steps : List Step) (places : List Place) → length places ≡ 32 → AllPairs Differ (over new_by steps places)
all_differ [] places all = λ i j d h k. absurd (omega arith)
all_differ (step ∷ more) places all =
    let size = length_after step places ∙ all in
    step_first step places (over new_by more (after_one step places))
    (λ k d h. later_differ _ more (after_one step places) (new_spent step places k d h) (new_within step places all k d h) size)
    (all_differ more (after_one step places) size)

pub length_none : length no_connections ≡ 32
unfolding no_connections
length_none = refl

pub each_has_its_number : EachHasItsNumber
each_has_its_number steps = all_differ steps no_connections length_none
