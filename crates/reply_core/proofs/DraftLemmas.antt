-- Octets that are put one after the other are put at once.
use Rattle.std.proofs.Common.{◌≡◌, Bool, false, ℕ, ◌+◌, ◌<◌, ◌≤◌, true, List, [], ◌∷◌, ◌++◌, length, length-take, take, Option, Some, None, is_none, refl, sym, ◌∙◌, ap, arith, append_assoc, append-nil, length-append, inl, inr}
use Rattle.std.specs.Prelude.{if◌then◌else◌}
use Rattle.std.specs.List.{fold}
use Rattle.std.proofs.lemmas.List.Sums.{fold-append}
use Rattle.std.proofs.lemmas.Bool.Decides.{nat_tests, leb_tells}
use Rattle.reply_core.specs.Draft.{Contents, within, put_octet, put, cut, blank, octets_of}

pub put-put : (draft : Contents) (first second : List ℕ) → put (put draft first) second ≡ put draft (first ++ second)
unfolding put
put-put draft first second = rw fold-append

pub put-nil : (draft : Contents) → put draft [] ≡ draft
unfolding put
put-nil draft = refl

-- nothing is written beyond the limit
pub over-put : (limit : ℕ) (octets : List ℕ) → fold (put_octet limit) None octets ≡ None
over-put limit [] = refl
over-put limit (octet ∷ octets) = over-put limit octets

pub fits : (limit : ℕ) (octets : List ℕ) → length octets ≤ limit → within limit octets ≡ Some octets
fits limit octets h = grind (arith, nat_tests)

exceeds : (limit : ℕ) (octets : List ℕ) → limit < length octets → within limit octets ≡ None
exceeds limit octets h = grind (arith, nat_tests)

within-append : (limit : ℕ) (written octets : List ℕ) → limit < length written → within limit (written ++ octets) ≡ None
within-append limit written octets h = exceeds limit (written ++ octets) (omega (arith, length-append written octets))

-- what stands within the limit has the octets after it, where both are within it
some-put-step : (limit : ℕ) (written octets : List ℕ) (octet : ℕ) → length (written ++ octet ∷ []) ≤ limit → fold (put_octet limit) (Some (written ++ octet ∷ [])) octets ≡ within limit ((written ++ octet ∷ []) ++ octets) → fold (put_octet limit) (Some written) (octet ∷ octets) ≡ within limit (written ++ octet ∷ octets)
some-put-step limit written octets octet h rest = rw (fits limit (written ++ octet ∷ []) h) (rest ∙ ap (within limit) (append_assoc written (octet ∷ []) octets))

some-put-stop : (limit : ℕ) (written octets : List ℕ) (octet : ℕ) → limit < length (written ++ octet ∷ []) → fold (put_octet limit) (Some written) (octet ∷ octets) ≡ within limit (written ++ octet ∷ octets)
some-put-stop limit written octets octet h =
    rw (exceeds limit (written ++ octet ∷ []) h) (over-put limit octets ∙ sym (within-append limit (written ++ octet ∷ []) octets h) ∙ ap (within limit) (append_assoc written (octet ∷ []) octets))

pub some-put : (limit : ℕ) (written octets : List ℕ) → length written ≤ limit → fold (put_octet limit) (Some written) octets ≡ within limit (written ++ octets)
some-put limit written [] h = rw append-nil (sym (fits limit written h))
some-put limit written (octet ∷ octets) h =
    elim (leb_tells (length (written ++ octet ∷ [])) limit) [
      | inl le ↦ some-put-step limit written octets octet le.1 (some-put limit (written ++ octet ∷ []) octets le.1)
      | inr gt ↦ some-put-stop limit written octets octet gt.1
    ]

put-over : (limit : ℕ) (octets : List ℕ) → put (record { limit = limit; written = None }) octets ≡ record { limit = limit; written = None }
unfolding put
put-over limit octets = rw over-put refl

put-room : (limit : ℕ) (written octets : List ℕ) → length written + length octets ≤ limit → put (record { limit = limit; written = Some written }) octets ≡ record { limit = limit; written = Some (written ++ octets) }
unfolding put
put-room limit written octets h = rw (some-put limit written octets (omega arith), fits limit (written ++ octets) (omega (arith, length-append written octets))) refl

put-beyond : (limit : ℕ) (written octets : List ℕ) → length written ≤ limit → limit < length written + length octets → put (record { limit = limit; written = Some written }) octets ≡ record { limit = limit; written = None }
unfolding put
put-beyond limit written octets h beyond = rw (some-put limit written octets h, exceeds limit (written ++ octets) (omega (arith, length-append written octets))) refl

-- a draft that is over has nothing, whatever stands in its place
pub put-fitting : (limit : ℕ) (over : Bool) (written octets : List ℕ) → length written + length octets ≤ limit
    → put (record { limit = limit; written = if over then None else Some written }) octets
    ≡ record { limit = limit; written = if over then None else Some (written ++ octets) }
put-fitting limit true written octets h = put-over limit octets
put-fitting limit false written octets h = put-room limit written octets h

pub put-too_long : (limit : ℕ) (over : Bool) (written octets : List ℕ) → length written ≤ limit → limit < length written + length octets
    → put (record { limit = limit; written = if over then None else Some written }) octets ≡ record { limit = limit; written = None }
put-too_long limit true written octets h beyond = put-over limit octets
put-too_long limit false written octets h beyond = put-beyond limit written octets h beyond

-- a blank draft takes what is within the limit
pub put-blank : (limit : ℕ) (octets : List ℕ) → put (blank limit) octets ≡ record { limit = limit; written = within limit octets }
unfolding put
put-blank limit octets = rw (some-put limit [] octets (omega arith)) refl

-- what a blank draft took stands on it
pub blank-has : (limit : ℕ) (octets : List ℕ) (draft : Contents) → draft ≡ put (blank limit) octets → length octets ≤ limit → octets_of draft.written ≡ octets
blank-has limit octets draft is small = ap (λ s. octets_of s.written) (is ∙ put-blank limit octets) ∙ ap octets_of (fits limit octets small)

-- what is put after a cut stands behind the octets that it left
pub cut-has : (at limit : ℕ) (draft : Contents) (octets : List ℕ) → at + length octets ≤ limit → octets_of (put (cut at limit draft) octets).written ≡ take at (octets_of draft.written) ++ octets
cut-has at limit draft octets small =
    let kept = take at (octets_of draft.written) in
    ap (λ s. octets_of s.written) (put-room limit kept octets (omega (arith, length-take at (octets_of draft.written))))

put-lost-at : (limit : ℕ) (written : Option (List ℕ)) (octets : List ℕ) → is_none written ≡ true → put (record { limit = limit; written = written }) octets ≡ record { limit = limit; written = written }
put-lost-at limit None octets none = put-over limit octets
put-lost-at limit (Some written) octets none = cc

-- nothing comes after what is beyond the limit
pub put-lost : (draft : Contents) (octets : List ℕ) → is_none draft.written ≡ true → put draft octets ≡ draft
put-lost draft octets none = put-lost-at draft.limit draft.written octets none
