use Rattle.zone_meaning.proofs.SameRecords.{same_zone, same_lookup, same_set, same_nsec, same_nsec3, same_clashes}
use Rattle.zone_meaning.proofs.same_records.order_means_nothing.Goals as goal

pub returns : goal.returns
returns c = record { zone = same_zone; lookup = same_lookup; set = same_set; nsec = same_nsec; nsec3 = same_nsec3; clashes = same_clashes }
