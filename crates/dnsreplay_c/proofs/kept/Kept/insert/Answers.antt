use Rattle.std.proofs.Common.{inl, inr, refl}
use Rattle.intake.specs.declared.intake_fault.IntakeFault.TheVariants.{OutOfMemory}
use Rattle.dnsreplay_c.proofs.kept.Kept.insert.Goals as goal

pub returns-in-Ok : goal.returns-in-Ok
returns-in-Ok c = inr (OutOfMemory, inl refl, refl, refl, refl)
