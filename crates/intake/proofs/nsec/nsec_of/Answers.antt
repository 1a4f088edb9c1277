use Rattle.std.proofs.Common.{refl, sym, ap, ◌∙◌}
use Rattle.intake.specs.Stored.{is_own_type}
use Rattle.intake.proofs.StoredLemmas.{kept_own}
use Rattle.intake.proofs.nsec.nsec_of.Goals as goal

pub returns : goal.returns
returns c = λ group is. record {
  kept = rw (c.copy.ensures, c.copy-2.ensures, c.name.ensures, c.life-life.ensures) (kept_own c.args.now group c.args.group.now _ c.args.signatures c.requires.passes is (ap is_own_type c.requires.rtype));
  type_is = sym is.rtype_is ∙ c.requires.rtype;
  parts = c.args.parts;
  item_is = sym is.items_are;
  reads = c.requires.reads;
  next_inside = rw c.copy.ensures c.requires.inside;
  next_is = refl;
  types_are = refl;
  signatures_are = is.signatures_are;
  expiry_is = cc;
}
