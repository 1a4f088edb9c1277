use Rattle.std.proofs.Common.{◌≡◌, ◌++◌, ◌∙◌, List, map, ap}
use Rattle.std.specs.List.{All}
use Rattle.dname.specs.Name.{Label, HasLabelLength, lowered, wire_of}
use Rattle.dname.proofs.WireLemmas.{octets_small, IsMade, made_from}
use Rattle.dname.proofs.name.Name.of_wire.Goals as goal

made : (c : goal.After-append_lowered) (labels : List Label) → c.args.octets.now ≡ wire_of labels → All HasLabelLength labels → IsMade c.append_lowered.new.self (map lowered labels)
made c labels spelled sizes =
    made_from c.args.octets.now c.append_lowered.new.self labels spelled sizes
    (octets_small c.args.octets.now c.type_inv.octets) c.requires.fits
    (c.append_lowered.ensures ∙ ap (λ l. l ++ lowered c.args.octets.now) c.empty-wire.ensures)

pub invariant_of-result : goal.invariant_of-result
invariant_of-result c = (made c c.requires.labels c.requires.spelled c.requires.sizes).wire

pub returns : goal.returns
returns c labels spelled sizes = (made c labels spelled sizes).labels_are
