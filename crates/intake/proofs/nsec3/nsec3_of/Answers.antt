use Rattle.std.proofs.Common.{refl, sym, ap, ◌∙◌, subst}
use Rattle.intake.specs.Stored.{is_own_type, IsKept, IsHashedOwner}
use Rattle.intake.specs.SignedGroup.{life_in}
use Rattle.intake.proofs.StoredLemmas.{kept_own}
use Rattle.intake.proofs.nsec3.nsec3_of.Goals as goal

pub returns : goal.returns
returns c = λ group is. record {
  kept = rw (c.copy.ensures, c.life-life.ensures) (subst (λ owner. IsKept c.args.now group c.args.group.now.agreed.signer owner (life_in c.args.group.now)) is.owner_is (kept_own c.args.now group c.args.group.now _ c.args.signatures c.requires.passes is (ap is_own_type c.requires.rtype)));
  type_is = sym is.rtype_is ∙ c.requires.rtype;
  parts = c.args.parts;
  item_is = sym is.items_are;
  reads = c.requires.reads;
  sha1 = c.requires.sha1;
  flags_known = c.requires.flags;
  few_iterations = c.requires.iterations;
  hashed = rw c.copy.ensures (subst (λ owner. IsHashedOwner owner c.args.group.now.agreed.signer c.args.hash) is.owner_is c.requires.hashed);
  next_is = refl;
  salt_is = refl;
  iterations_are = refl;
  opt_out_is = refl;
  types_are = refl;
  signatures_are = is.signatures_are;
  expiry_is = cc;
}
