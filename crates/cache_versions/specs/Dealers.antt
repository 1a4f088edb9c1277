-- No public clause cites this module: what a clause reads of a dealer and of a hand.
use Rattle.std.specs.Prelude.{◌≡◌, ℕ, List, []}
use Rattle.atomic_table.specs.Seated.{TableId}
use Rattle.atomic_table.specs.declared.shared.Seat.{Seat}
use Rattle.cache_versions.specs.declared.hand.InHand.{InHand}
use Rattle.cache_versions.specs.declared.dealer.Dealer.{Dealer}
use Rattle.cache_versions.specs.Hands.{in_hand}

-- how many hands there are
abbrev pub hands_of : Dealer → ℕ
hands_of d = d.table.shared.key

abbrev pub table_of : Dealer → TableId
table_of d = d.table.shared.table_id

abbrev pub IsHandOf : Dealer → Seat (Unit {0}) InHand → Type 0
IsHandOf d hand = hand.table_id ≡ table_of d

abbrev pub IsSameHand : Seat (Unit {0}) InHand → Seat (Unit {0}) InHand → Type 0
IsSameHand before after = after.table_id ≡ before.table_id

-- it stands for one hand
abbrev pub IsOneHand : Seat (Unit {0}) InHand → Type 0
IsOneHand hand = (hand.me.0.hands ≡ 1) × (hand.me.1 ≡ [])

-- the hand has these places, and stands for so many hands
abbrev pub HasPlaces : ℕ → List ℕ → Seat (Unit {0}) InHand → Type 0
HasPlaces n places hand = hand.me ≡ (in_hand n places, [])
