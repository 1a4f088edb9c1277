use Rattle.encloser.proofs.EncloserLemmas.{wildcard_room, wildcard_is_name}
use Rattle.encloser.proofs.laws.wildcard_fits.Goals as goal

pub returns-clause-room : goal.returns-clause-room
returns-clause-room c = wildcard_room

pub returns-clause-is_name : goal.returns-clause-is_name
returns-clause-is_name c = wildcard_is_name
