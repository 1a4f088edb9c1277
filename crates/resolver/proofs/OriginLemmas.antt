-- From what a lent walk is made.
use Rattle.std.proofs.Common.{◌≡◌, Bool, List, [], ◌∷◌, slice_get, Some, refl, sym, ◌∙◌, ap}
use Rattle.std.specs.Prelude.{◌||◌, unwrap_or, is_some}
use Rattle.std.specs.List.{list_any}
use Rattle.std.proofs.lemmas.Bool.{false≢true}
use Rattle.dname.specs.Name.{Label}
use Rattle.resolver.specs.Walk.{Link, End}
use Rattle.resolver.specs.WalkReply.{way_denials, end_denials}
use Rattle.resolver.specs.Origin.{is_any, has_denials, way_origin, origin_by}
use Rattle.resolver.specs.Lent.{next_by, way_by, links_by, denials_in}
use Rattle.resolver.specs.declared.origin.Origin.{Origin}
use Rattle.resolver.specs.declared.walk.Way.{Way as LentWay}
use Rattle.resolver.proofs.WritingLemmas.{denials_of}

-- the links go by the denials that the lent ones go by
by_links : (name : List Label) (links : List LentWay) → list_any (λ (way : LentWay). is_any (denials_in way)) links ≡ list_any (λ (link : Link). is_any (way_denials link.way)) (links_by name links)
by_links name [] = refl
by_links name (way ∷ links) = λ i. is_any (sym (denials_of way (next_by name way)) i) || by_links (next_by name way) links i

-- by the links, or else by the end
pub has_by : (name : List Label) (links : List LentWay) (end : End) (before : Bool) → before ≡ list_any (λ (way : LentWay). is_any (denials_in way)) links
    → (before || is_any (end_denials end)) ≡ has_denials (links_by name links) end
has_by name links end before is = ap (λ b. b || is_any (end_denials end)) (is ∙ by_links name links)

-- the first link tells
pub first_tells : (name : List Label) (links : List LentWay) (way : LentWay) (end : End) (denies : Bool) (origin : Origin) → Some way ≡ slice_get links 0 → denies ≡ has_denials (links_by name links) end
    → ((next : List Label) → origin ≡ way_origin (way_by way next) denies) → origin ≡ origin_by (links_by name links) end
first_tells name [] way end denies origin first has told = absurd (false≢true (sym (ap is_some first)))
first_tells name (one ∷ links) way end denies origin first has told =
    let same : way ≡ one = ap (λ found. unwrap_or found one) first in
    told (next_by name one) ∙ (λ i. way_origin (way_by (same i) (next_by name one)) (has i))
