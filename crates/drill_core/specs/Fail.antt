-- What ends a drill before the end of its input.
use Rattle.outside_io.specs.declared.sink.StreamFail.{StreamFail}
use Rattle.outside_io.specs.declared.sink.StreamFail.TheVariants as streams
use Rattle.line_input.specs.declared.fail.InputFail.{InputFail}
use Rattle.line_input.specs.declared.fail.InputFail.TheVariants as inputs
use Rattle.drill_core.specs.declared.fail.DrillFail.{DrillFail}
use Rattle.drill_core.specs.declared.fail.DrillFail.TheVariants as fails

abbrev pub of_input : InputFail → DrillFail
of_input inputs.ReadFault = fails.ReadFault
of_input inputs.InputLimit = fails.InputLimit
of_input inputs.NoMemory = fails.NoMemory

abbrev pub of_output : StreamFail → DrillFail
of_output streams.Failed = fails.WriteFault
of_output streams.NoMemory = fails.NoMemory
