use Rattle.serving.proofs.LinkLemmas.{links_serve}
use Rattle.serving.proofs.laws.shifts_serve.Goals as goal

pub returns : goal.returns
returns c wanting datagrams moment journal links shifts few all once = links_serve wanting datagrams moment journal links shifts few all once
