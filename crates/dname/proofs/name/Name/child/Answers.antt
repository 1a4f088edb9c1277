use Rattle.std.proofs.Common.{◌≡◌, ◌∙◌, ◌∷◌, length, refl, ap, subst, arith}
use Rattle.std.specs.Char.{to_ascii_lowercase}
use Rattle.std.proofs.lemmas.List.{length-map}
use Rattle.dname.specs.Name.{IsName, lowered, wire_of}
use Rattle.dname.proofs.WireLemmas.{octets_small, child_wire, is_made, IsMade, IsLabel-lowered, IsName-cons}
use Rattle.dname.proofs.name.Name.child.Goals as goal

made : (c : goal.After-append) → IsMade c.append.new.self (lowered c.args.label.now ∷ c.args.self.now)
made c =
    let wire_is : c.as_slice-rest.result.now ≡ wire_of c.args.self.now = c.as_slice-rest.ensures.octets ∙ c.self.invariant.spelled ∙ ap wire_of c.self.view_is in
    let name : IsName c.args.self.now = subst IsName c.self.view_is c.self.invariant.name in
    let label = IsLabel-lowered c.args.label.now c.requires (octets_small c.args.label.now c.type_inv.label) in
    is_made c.append.new.self (lowered c.args.label.now ∷ c.args.self.now)
    (child_wire c.args.label.now c.as_slice-rest.result.now c.args.self.now _ _ _ _ _ c.empty-wire.ensures c.push.ensures refl c.append_lowered.ensures c.append.ensures wire_is)
    (IsName-cons (lowered c.args.label.now) c.args.self.now label name
    (omega (arith, c.if-label-rest-gt-MAX_WIRE.false, ap length (wire_is), length-map c.args.label.now to_ascii_lowercase)))

pub invariant_of-result : goal.invariant_of-result
invariant_of-result c = (made c).wire

pub returns-clause-value : goal.returns-clause-value
returns-clause-value c = (made c).labels_are
