use Rattle.zone_meaning.proofs.HashedLemmas.{closest_by_hash, one_open_encloser, encloser_above}
use Rattle.zone_meaning.proofs.RoomLemmas.{wildcard_fits_above}
use Rattle.zone_meaning.proofs.hashed_denial.hashed_closest_encloser.Goals as goal

pub returns : goal.returns
returns c = record {
  is_closest = λ zone closer name ancestor nsec3. closest_by_hash zone closer nsec3 name ancestor;
  one = one_open_encloser;
  above = encloser_above;
  wildcard_fits = λ closer name ancestor is missing. let below = encloser_above closer name ancestor missing in wildcard_fits_above name ancestor is below.0 below.1;
}
