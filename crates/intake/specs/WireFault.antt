-- A fault of a message's reader, as intake tells it.
use Rattle.dnswire.specs.declared.wire_fault.WireFault.{WireFault}
use Rattle.dnswire.specs.declared.wire_fault.WireFault.TheVariants as wire
use Rattle.intake.specs.declared.intake_fault.IntakeFault.{IntakeFault}
use Rattle.intake.specs.declared.intake_fault.IntakeFault.TheVariants.{Malformed, OutOfMemory}

abbrev pub fault_of : WireFault → IntakeFault
fault_of wire.OutOfMemory = OutOfMemory
fault_of wire.Short = Malformed wire.Short
fault_of wire.BadCount = Malformed wire.BadCount
fault_of (wire.BadName at) = Malformed (wire.BadName at)
fault_of (wire.BadData at) = Malformed (wire.BadData at)
