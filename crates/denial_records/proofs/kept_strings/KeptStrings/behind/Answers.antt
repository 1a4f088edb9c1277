use Rattle.std.proofs.Common.{◌∙◌, ap, drop}
use Rattle.dname.specs.Pack.{pieces_of}
use Rattle.denial_records.proofs.OffsetLemmas.{begins_behind}
use Rattle.denial_records.proofs.kept_strings.KeptStrings.behind.Goals as goal

pub octets_from-requires : goal.octets_from-requires
octets_from-requires g c =
    (begins_behind g.row.N _ _ _ _ c.self.invariant c.octets-octets.ensures.packed c.octets-octets.ensures.pieces c.if-count-eq0.false c.requires c.if-offset.false).within

pub of-requires-2 : goal.of-requires-2
of-requires-2 g c =
    rw c.octets_from.ensures (begins_behind g.row.N _ _ _ _ c.self.invariant c.octets-octets.ensures.packed c.octets-octets.ensures.pieces c.if-count-eq0.false c.requires c.if-offset.false).packed

pub returns : goal.returns
returns g c =
    c.of-2.ensures ∙ ap pieces_of c.octets_from.ensures ∙ (begins_behind g.row.N _ _ _ _ c.self.invariant c.octets-octets.ensures.packed c.octets-octets.ensures.pieces c.if-count-eq0.false c.requires c.if-offset.false).pieces_are
    ∙ ap (drop c.args.count) (c.octets-octets.ensures.pieces ∙ c.self.view_is)
