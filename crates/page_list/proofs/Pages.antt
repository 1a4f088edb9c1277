use Rattle.std.proofs.Common.{◌≡◌, ℕ, ◌+◌, true, ◌==◌, List, [], ◌∷◌, ◌++◌, length, take, drop, map, sym, ap, ◌∙◌, arith}
use Rattle.std.proofs.lemmas.Bool.Decides.{nat_tests}
use Rattle.std.proofs.lemmas.List.{nil_from_length, take-append-drop, drop-drop}

-- a page that is read to its end gives way to the next one
pub page_turned : {X A : Type 0} (v : X → A) (read page xs : List X) (whole : List A) (end : ℕ) → (length read == 0) ≡ true → map v (read ++ drop end xs) ≡ whole → page ≡ take (length page) (drop end xs) → whole ≡ map v (page ++ drop (end + length page) xs)
page_turned v read page xs whole end done is next =
    let none : read ≡ [] = nil_from_length read (grind (arith, nat_tests)) in
    sym is
    ∙ (ap (λ z. map v (z ++ drop end xs)) none
    ∙ ap (map v) (sym (take-append-drop (length page) (drop end xs)) ∙ (ap (λ z. z ++ drop (length page) (drop end xs)) (sym next) ∙ ap (λ z. page ++ z) (drop-drop (length page) end xs))))

pub entry_read : {X A : Type 0} (v : X → A) (page rest more : List X) (entry : X) (y : A) (whole : List A) → page ≡ entry ∷ rest → y ≡ v entry → whole ≡ map v (page ++ more) → whole ≡ y ∷ map v (rest ++ more)
entry_read v page rest more entry y whole is shown e = e ∙ (ap (λ z. map v (z ++ more)) is ∙ ap (λ z. z ∷ map v (rest ++ more)) (sym shown))
