-- Refusals of the layers below, as they are called here.
use Rattle.std.specs.Prelude.{Bool, true, false}
use Rattle.disk_words.specs.declared.DiskFail.{DiskFail}
use Rattle.disk_words.specs.declared.DiskFail.TheVariants as disks
use Rattle.tuple_bytes.specs.declared.writing.EncodeFail.{EncodeFail}
use Rattle.tuple_bytes.specs.declared.writing.EncodeFail.TheVariants as encoding
use Rattle.segment_file.specs.declared.fail.SegmentFail.{SegmentFail}
use Rattle.segment_file.specs.declared.fail.SegmentFail.TheVariants as segments
use Rattle.store_engine.specs.declared.fail.StoreFail.{StoreFail}
use Rattle.store_engine.specs.declared.fail.StoreFail.TheVariants as fails

abbrev pub fail_of_disk : DiskFail → StoreFail
fail_of_disk disks.Failed = fails.DiskFault
fail_of_disk disks.NoMemory = fails.NoMemory

-- nothing is made here, so no device is found taken
abbrev pub fail_of_file : SegmentFail → StoreFail
fail_of_file segments.AlreadyThere = fails.NotAStore
fail_of_file segments.NotAStore = fails.NotAStore
fail_of_file segments.OldFormat = fails.OldFormat
fail_of_file segments.DiskFault = fails.DiskFault
fail_of_file segments.StoreFull = fails.StoreFull
fail_of_file segments.Closed = fails.Closed
fail_of_file segments.NoMemory = fails.NoMemory

abbrev pub fail_of_encoding : EncodeFail → StoreFail
fail_of_encoding encoding.TooManyOps = fails.TooManyOps
fail_of_encoding encoding.TooLong = fails.TooLong
fail_of_encoding encoding.NoMemory = fails.NoMemory

-- what closes a store until it is opened anew
abbrev pub closes : StoreFail → Bool
closes fails.DiskFault = true
closes fails.NoMemory = true
closes fails.NotAStore = false
closes fails.OldFormat = false
closes (fails.ClockBack last) = false
closes fails.TooLate = false
closes fails.TooManyOps = false
closes fails.TooLong = false
closes fails.StoreFull = false
closes fails.Closed = false
