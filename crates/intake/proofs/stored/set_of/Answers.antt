use Rattle.std.proofs.Common.{◌≡◌, false, subst}
use Rattle.intake.specs.Stored.{is_denial_type}
use Rattle.intake.proofs.StoredLemmas.{kept_of}
use Rattle.intake.proofs.stored.set_of.Goals as goal

pub returns : goal.returns
returns c = λ group is. record {
  kept = rw (c.signed_name.ensures, c.copy.ensures, c.life-life.ensures) (kept_of c.args.now group c.args.group.now c.args.items c.args.signatures c.requires.passes is);
  no_denial = subst (λ t. is_denial_type t ≡ false) is.rtype_is c.requires.no_denial;
  rtype_is = is.rtype_is;
  items_are = is.items_are;
  signatures_are = is.signatures_are;
  expiry_is = cc;
}
