-- What a failed read is answered as.
use Rattle.outside_io.specs.declared.sink.StreamFail.{StreamFail}
use Rattle.outside_io.specs.declared.sink.StreamFail.TheVariants as stream
use Rattle.line_input.specs.declared.fail.InputFail.{InputFail}
use Rattle.line_input.specs.declared.fail.InputFail.TheVariants.{ReadFault, NoMemory}

abbrev pub fail_of : StreamFail → InputFail
fail_of stream.Failed = ReadFault
fail_of stream.NoMemory = NoMemory
