-- The ring that an order makes of its values, the least after the greatest (RFC 4034, section 4.1.1; RFC 5155, section 3.1.7).
use Rattle.std.specs.Prelude.{◌≡◌, ◌≢◌, ◌⊎◌, Bool, ◌&&◌, ◌||◌, if◌then◌else◌}
use Rattle.std.specs.Ordering.{is_lt, is_le}
use Rattle.std.specs.declared.cmp.Ordering.{Ordering}
use Rattle.std.specs.declared.cmp.Ordering.TheVariants.{Less}

-- the arc has the key: it begins at its start and ends before its end; where the end isn't after the start it goes over
-- the end of the order, and one whose start is its end is the whole ring
abbrev pub arc_has : {K : Type 0} → (K → K → Ordering) → K → K → K → Bool
arc_has cmp start end key =
    if is_lt (cmp start end)
    then is_le (cmp start key) && is_lt (cmp key end)
    else is_le (cmp start key) || is_lt (cmp key end)

-- two arcs meet where one has the other's start
abbrev pub arcs_meet : {K : Type 0} → (K → K → Ordering) → K → K → K → K → Bool
arcs_meet cmp start end start' end' = arc_has cmp start end start' || arc_has cmp start' end' start

-- the value is inside the arc from a to b, without its ends: between them where a comes before b; else the arc goes over
-- the end of the order, and where a is b it is the whole ring but a
abbrev pub IsInside : {A : Type 0} → (A → A → Ordering) → A → A → A → Type 0
IsInside cmp a b value =
    ((cmp a b ≡ Less) × (cmp a value ≡ Less) × (cmp value b ≡ Less))
    ⊎ ((cmp a b ≢ Less) × (value ≢ a) × ((cmp a value ≡ Less) ⊎ (cmp value b ≡ Less)))
