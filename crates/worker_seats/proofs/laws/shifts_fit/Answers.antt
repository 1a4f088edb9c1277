use Rattle.worker_seats.proofs.LawLemmas.{all_fit}
use Rattle.worker_seats.proofs.laws.shifts_fit.Goals as goal

pub returns : goal.returns
returns c rule workers journal inputs outputs few shifts = all_fit rule workers journal inputs outputs few shifts
