-- What a source gave before a refusal.
use Rattle.std.proofs.Common.{◌≡◌, List, ◌++◌, [], ℕ, Option, None, Some, refl, sym, ◌∙◌, ap}
use Rattle.std.proofs.lemmas.List.{append_assoc}
use Rattle.outside_core.specs.Told.{prepend_told}
use Rattle.running.specs.Run.{HasGiven}

prepend_nothing : (told : Option (List ℕ)) → told ≡ prepend_told [] told
prepend_nothing None = refl
prepend_nothing (Some octets) = refl

prepend_twice : (first second : List ℕ) (told : Option (List ℕ)) → prepend_told first (prepend_told second told) ≡ prepend_told (first ++ second) told
prepend_twice first second None = refl
prepend_twice first second (Some octets) = ap Some (sym (append_assoc first second octets))

-- it gave nothing
pub gave_nothing : (before after : Option (List ℕ)) → after ≡ before → HasGiven before after
gave_nothing before after is = record { octets = []; given = sym is ∙ prepend_nothing after }

-- it gave these octets
pub gave : (before after : Option (List ℕ)) (octets : List ℕ) → before ≡ prepend_told octets after → HasGiven before after
gave before after octets is = record { octets = octets; given = is }

-- and then more
pub gave_more : (before middle after : Option (List ℕ)) (octets : List ℕ) → before ≡ prepend_told octets middle → HasGiven middle after → HasGiven before after
gave_more before middle after octets first more =
    record { octets = octets ++ more.octets; given = first ∙ ap (prepend_told octets) more.given ∙ prepend_twice octets more.octets after }
