use Rattle.zone_meaning.proofs.CoveredLemmas.{with_owner_is_nearest, with_next_is_nearest, one_nearest}
use Rattle.zone_meaning.proofs.RoomLemmas.{wildcard_fits}
use Rattle.zone_meaning.proofs.WildcardLemmas.{closest}
use Rattle.zone_meaning.proofs.denial.closest_encloser.Goals as goal

pub returns : goal.returns
returns c = record {
  is_closest = λ zone part name encloser is nsec missing. closest zone is part nsec name encloser missing;
  with_owner = with_owner_is_nearest;
  with_next = with_next_is_nearest;
  one = one_nearest;
  wildcard_fits = wildcard_fits;
}
