use Rattle.resolver.proofs.GoneOnLemmas.{only_read_self}
use Rattle.serving.proofs.datagram.client_datagram.Goals as goal

pub returns-in-Dropped-clause-read : goal.returns-in-Dropped-clause-read
returns-in-Dropped-clause-read c = only_read_self c.args.cache.now c.args.seat.now c.requires.object

pub returns-in-NotImp-clause-read : goal.returns-in-NotImp-clause-read
returns-in-NotImp-clause-read c = only_read_self c.args.cache.now c.args.seat.now c.requires.object

pub returns-in-FormErr-clause-read : goal.returns-in-FormErr-clause-read
returns-in-FormErr-clause-read c = only_read_self c.args.cache.now c.args.seat.now c.requires.object

pub returns-in-BadVers-clause-read : goal.returns-in-BadVers-clause-read
returns-in-BadVers-clause-read c = only_read_self c.args.cache.now c.args.seat.now c.requires.object
