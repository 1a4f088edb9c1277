-- What was gathered, and what of it was written.
use Rattle.std.proofs.Common.{◌≡◌, ℕ, suc, ◌+◌, ◌≤◌, List, [], ◌∷◌, ◌++◌, length, take, Option, Some, None, refl, sym, ◌∙◌, ap, arith, append_assoc, length-append}
use Rattle.std.specs.Prelude.{Result, Ok, Err, OnOk, OnErr}
use Rattle.std.proofs.lemmas.List.{append-nil, take-append-le}
use Rattle.outside_core.specs.Told.{append_told}
use Rattle.outside_core.proofs.ToldLemmas.{append_told-append_told}
use Rattle.worker_seats.specs.Gather.{Gathers, IsPartWritten}

pub ok_to : {T E P Q : Type 0} (r : Result T E) → (P → Q) → OnOk r P → OnOk r Q
ok_to (Ok x) f p = f p
ok_to (Err e) f p = tt

pub err_to : {T E P Q : Type 0} (r : Result T E) → (P → Q) → OnErr r P → OnErr r Q
err_to (Ok x) f p = tt
err_to (Err e) f p = f p

take_beyond : (xs ys : List ℕ) (n : ℕ) → take (length xs + n) (xs ++ ys) ≡ xs ++ take n ys
take_beyond [] ys n = let e : 0 + n ≡ n = omega arith in ap (λ k. take k ys) e
take_beyond (x ∷ xs) ys n = let e : suc (length xs) + n ≡ suc (length xs + n) = omega arith in ap (λ k. take k (x ∷ (xs ++ ys))) e ∙ ap (λ l. x ∷ l) (take_beyond xs ys n)

-- nothing more is told
pub told_none : (told : Option (List ℕ)) → told ≡ append_told told []
told_none None = refl
told_none (Some before) = ap (λ (l : List ℕ). Some l) (sym (append-nil before))

-- a part of a piece, after what went before it, is a part of the whole
pub part_within : (octets gone piece more : List ℕ) (before now after : Option (List ℕ)) → octets ≡ gone ++ (piece ++ more) → now ≡ append_told before gone → IsPartWritten piece now after → IsPartWritten octets before after
part_within octets gone piece more before now after is told part = record {
  size = length gone + part.size;
  strict = omega (arith, part.strict, ap length is, length-append gone (piece ++ more), length-append piece more);
  written = (let short : part.size ≤ length piece = omega (arith, part.strict) in
      let taken : take (length gone + part.size) octets ≡ gone ++ take part.size piece =
      ap (take (length gone + part.size)) is ∙ take_beyond gone (piece ++ more) part.size ∙ ap (λ l. gone ++ l) (take-append-le part.size piece more short) in
      part.written ∙ ap (λ o. append_told o (take part.size piece)) told ∙ append_told-append_told before gone (take part.size piece) ∙ ap (append_told before) (sym taken));
}

-- what was gathered was written, and then a piece was put or a part of it written
pub put_after : (gathered kept piece gathered' : List ℕ) (before now after : Option (List ℕ)) → kept ≡ gathered → now ≡ append_told before kept → Gathers [] piece gathered' now after → Gathers gathered piece gathered' before after
put_after gathered kept piece gathered' before now after same told g = record {
  gone = gathered ++ g.gone;
  all = append_assoc gathered g.gone gathered' ∙ ap (λ l. gathered ++ l) g.all;
  written = g.written ∙ ap (λ o. append_told o g.gone) (told ∙ ap (append_told before) same) ∙ append_told-append_told before gathered g.gone;
}

pub part_after : (gathered kept piece : List ℕ) (before now after : Option (List ℕ)) → kept ≡ gathered → now ≡ append_told before kept → IsPartWritten piece now after → IsPartWritten (gathered ++ piece) before after
part_after gathered kept piece before now after same told part =
    part_within (gathered ++ piece) gathered piece [] before now after (ap (λ l. gathered ++ l) (sym (append-nil piece))) (told ∙ ap (append_told before) same) part
