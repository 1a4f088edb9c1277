-- The least type of a set that isn't below a given one, block by block.
use Rattle.std.proofs.Common.{◌≡◌, ℕ, ◌+◌, ◌-◌, ◌*◌, ◌/◌, ◌%◌, ◌<◌, ◌≤◌, true, false, List, length, Contains, refl, sym, ◌∙◌, ap, arith, inl, inr}
use Rattle.std.proofs.lemmas.Bool.{cases_lt, true≢false}
use Rattle.denial_records.specs.TypeSet.{has_bit, BeginsWith, IsKept, types_in}
use Rattle.denial_records.proofs.TypeSetLemmas.{IsLookedUpIn, look_first, look_here, look_past_none, look_end, found_here, bit_within}

-- what the blocks that are left say of the types from one on
abbrev pub HaveLeft : List ℕ → ℕ → List ℕ → Type 0
HaveLeft types rtype rest = (t : ℕ) → rtype ≤ t → IsLookedUpIn types t rest

pub next_first : (octets : List ℕ) (rtype : ℕ) → IsKept octets → HaveLeft (types_in octets) rtype octets
next_first octets rtype kept t low = look_first octets (types_in octets) t kept.map

-- a block without such a type is passed
pub next_past : (types : List ℕ) (rtype : ℕ) (rest : List ℕ) (window : ℕ) (bitmap after : List ℕ) (from : ℕ) → HaveLeft types rtype rest → BeginsWith 0 rest window bitmap after → from ≡ rtype - 256 * window → ((bit : ℕ) → from ≤ bit → bit < 8 * length bitmap → has_bit bitmap bit ≡ false) → HaveLeft types rtype after
next_past types rtype rest window bitmap after from left begins begin none t low =
    look_past_none types t rest window bitmap after (left t low) begins
    (λ same set. true≢false (sym set ∙ none (t % 256) (omega (arith, begin, same, low)) (bit_within bitmap (t % 256) set)))

-- a block with such a type has the least
pub next_here : (types : List ℕ) (rtype : ℕ) (rest : List ℕ) (window : ℕ) (bitmap after : List ℕ) (from bit next : ℕ) → HaveLeft types rtype rest → BeginsWith 0 rest window bitmap after → from ≡ rtype - 256 * window → next ≡ 256 * window + bit → from ≤ bit → bit < 8 * length bitmap → has_bit bitmap bit ≡ true → ((other : ℕ) → from ≤ other → other < bit → has_bit bitmap other ≡ false) → Contains types next × (rtype ≤ next) × ((other : ℕ) → Contains types other → rtype ≤ other → next ≤ other)
next_here types rtype rest window bitmap after from bit next left begins begin is high within set before =
    let short : length bitmap ≤ 32 = begins.formed.short in
    let same : window ≡ next / 256 = omega (arith, is, within, short) in
    let at : bit ≡ next % 256 = omega (arith, is, within, short) in
    let low : rtype ≤ next = omega (arith, begin, is, high) in (
      (look_here types next rest window bitmap after true (left next low) begins same (sym set ∙ ap (has_bit bitmap) at)).0 refl,
      low,
      λ other has le. elim (cases_lt other next) [
        | inl less ↦ (
            let found = found_here types other rest window bitmap after (left other le) begins (omega (arith, less, same)) has in
            absurd (true≢false (sym found.1 ∙ before (other % 256) (omega (arith, begin, le, found.0)) (omega (arith, less, is, found.0))))
            )
        | inr above ↦ above
      ],
    )

-- where no block is left, all types are below
pub next_none : (types : List ℕ) (rtype : ℕ) (rest : List ℕ) → HaveLeft types rtype rest → ((window : ℕ) (bitmap after : List ℕ) → ¬ BeginsWith 0 rest window bitmap after) → (other : ℕ) → Contains types other → other < rtype
next_none types rtype rest left none other has = elim (cases_lt other rtype) [
  | inl less ↦ less
  | inr low ↦ absurd (look_end types other rest (left other low) none has)
]
