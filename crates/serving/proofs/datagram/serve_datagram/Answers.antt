use Rattle.serving.proofs.datagram.serve_datagram.Goals as goal

pub returns-in-Client-clause-on : goal.returns-in-Client-clause-on
returns-in-Client-clause-on g c = c.client_datagram.ensures.read.on
