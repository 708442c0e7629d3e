-- A call over the store of an id: the store is opened first, and the rest is said of its header.
use Rattle.std.specs.Prelude.{◌≡◌, ◌≢◌, ◌⊎◌, ℕ, Option, Some, None}
use Rattle.outside_words.specs.Told.{WhereTold}
use Rattle.outside_words.specs.Faults.{Rose}
use Rattle.outside_io.specs.Sink as sinks
use Rattle.tuple_bytes.specs.declared.header.Header.{Header}
use Rattle.history_model.specs.declared.format.Format.{Format}
use Rattle.history_model.specs.declared.format.Format.TheVariants.{One, Two}
use Rattle.history_model.specs.Stored.{stored, format_of}
use Rattle.line_runs.specs.declared.status.Status.{Status}
use Rattle.line_runs.specs.declared.status.Status.TheVariants as statuses
use Rattle.line_runs.specs.Outcome.{Said, refused}
use Rattle.line_runs.specs.Devices.{Devices, Effect, AllIsLeft}

-- this fault line alone is out, or a front of it where the output failed or memory was wanting
pub record EndsBy (why result : Status) (old new : Devices) : Type 0 where
  pub said : Said (refused why) result old.out new.out
  pub left : AllIsLeft old new

-- memory was wanting, and nothing is out
pub record EndsWanting (result : Status) (old new : Devices) : Type 0 where
  pub wanting : result ≡ statuses.NoMemory
  pub none_out : sinks.Unchanged old.out new.out
  pub left : AllIsLeft old new

-- over a file in segments; nothing is added to one whose records stand in one run
abbrev pub OnFormat : Option Format → Effect → Effect
OnFormat (Some Two) Then = Then
OnFormat (Some One) Then = EndsBy statuses.OldFormat
OnFormat None Then = λ result old new. ⊥

-- over bytes with this header, or with none, and of this format
abbrev pub OnHeader : ℕ → Option Header → Option Format → (Header → Effect) → Effect
OnHeader id None format Then result old new = EndsBy statuses.NotAStore result old new
OnHeader id (Some header) format Then result old new = (header.id ≡ id → OnFormat format (Then header) result old new) × (header.id ≢ id → EndsBy statuses.NotAStore result old new)

-- NotAStore comes exactly where the bytes have no header of this id, and OldFormat exactly where they have one, and their records
-- stand in one run. A fault of the disk while the store is opened, and want of memory then, end the call before anything else.
abbrev pub OnStore : ℕ → (Header → Effect) → Effect
OnStore id Then result old new =
    (Rose old.desk.disk.faults new.desk.disk.faults × EndsBy statuses.DiskFault result old new)
    ⊎ EndsWanting result old new
    ⊎ WhereTold old.desk.disk.reads new.desk.disk.reads (λ before after. OnHeader id (stored before).header (format_of before) Then result old new)
