use Rattle.dname.proofs.NameDataLemmas.{name_spelled, spelled_name}
use Rattle.dname.proofs.name_data.a_name_is_read_whole.Goals as goal

pub returns : goal.returns
returns c = λ octets name. (spelled_name octets name, name_spelled octets name)
