-- No public clause cites this module. The owner name of records, as labels.
use Rattle.std.specs.Prelude.{List, ◌∷◌}
use Rattle.dname.specs.Name.{Label}
use Rattle.reply_core.specs.declared.owner.Owner.{Owner}
use Rattle.reply_core.specs.declared.owner.Owner.TheVariants.{Name, Hashed}

-- the labels of an owner name
abbrev pub labels_of : Owner → List Label
labels_of (Name name) = name
labels_of (Hashed text zone) = text ∷ zone
