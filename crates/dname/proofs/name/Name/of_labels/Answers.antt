use Rattle.std.proofs.Common.{◌∙◌, ap}
use Rattle.dname.specs.Name.{labels_of}
use Rattle.dname.proofs.WireLemmas.{labels_of-wire_of, sizes_of}
use Rattle.dname.proofs.name.Name.of_labels.Goals as goal

pub returns : goal.returns
returns c = ap labels_of (c.of.ensures ∙ c.wire.ensures.spelled) ∙ labels_of-wire_of c.args.labels.now (sizes_of c.args.labels.now c.wire.ensures.name.each)
