-- What the call `inspect` does.
use Rattle.std.specs.Prelude.{◌≡◌, ◌⊎◌, ℕ, List, Option}
use Rattle.outside_words.specs.Faults.{Rose}
use Rattle.outside_io.specs.Sink as sinks
use Rattle.outside_io.specs.Clock as clocks
use Rattle.file_findings.specs.declared.kind.Kind.{Kind}
use Rattle.file_findings.specs.declared.table.Row.{Row}
use Rattle.file_findings.specs.Kinds.{name_of}
use Rattle.file_findings.specs.Rows.{row_text}
use Rattle.inspect_call.specs.declared.inspected.Inspected.{Inspected}
use Rattle.inspect_call.specs.declared.inspected.Inspected.TheVariants.{Clean, DiskFault, NotaryFault, WriteFault, NoMemory}
use Rattle.inspect_call.specs.declared.looking.Looked.{Looked}
use Rattle.inspect_call.specs.Looked.{NamedRose, SomeRose, IsLooked}
use Rattle.inspect_call.specs.Told.{fault_text, by_found, text_of}

-- the output failed, which was counted, or wanted memory: a front of the text is out
pub record IsCutOff (text : List ℕ) (result : Inspected) (old new : sinks.State) : Type 0 where
  pub status : ((result ≡ WriteFault) × Rose old.faults new.faults) ⊎ (result ≡ NoMemory)
  pub front : sinks.FrontIsOut text old new

-- the text is out, and it ends so; or the output failed
abbrev pub Says : Inspected → List ℕ → Inspected → sinks.State → sinks.State → Type 0
Says end text result old new = ((result ≡ end) × sinks.IsOut text old new) ⊎ IsCutOff text result old new

-- there is no memory for the text, and that is said
abbrev pub Wants : Inspected → sinks.State → sinks.State → Type 0
Wants result old new = Says NoMemory (fault_text NoMemory) result old new

abbrev pub Tells : Looked → Inspected → sinks.State → sinks.State → Type 0
Tells l result old new = Says (by_found l.found.items) (text_of l) result old new ⊎ Wants result old new

-- the lines of a look at the second that the clock tells are out, and it ends by them; or a fault is said
pub record Finds (id : Option ℕ) (result : Inspected) (store : Option (Option (List ℕ))) (books : List (Option (List ℕ))) (clock after : clocks.State) (old new : sinks.State) : Type 0 where
  pub second : ℕ
  pub told : clocks.Tells second clock after
  pub looked : Looked
  pub is : IsLooked id second store books looked
  pub tells : Tells looked result old new

pub record Faults (result : Inspected) (old new : sinks.State) : Type 0 where
  pub end : Inspected
  pub is : (end ≡ DiskFault) ⊎ ((end ≡ NotaryFault) ⊎ (end ≡ NoMemory))
  pub says : Says end (fault_text end) result old new

abbrev pub Inspects : Option ℕ → Inspected → Option (Option (List ℕ)) → List (Option (List ℕ)) → clocks.State → clocks.State → sinks.State → sinks.State → Type 0
Inspects id result store books clock after old new = Finds id result store books clock after old new ⊎ Faults result old new

-- each fault was counted where it came from
pub record HasCauses (result : Inspected) (store store' : Option ℕ) (books books' : List ℕ) (old new : sinks.State) : Type 0 where
  pub disk : result ≡ DiskFault → NamedRose store store'
  pub notary : result ≡ NotaryFault → SomeRose books books'
  pub write : result ≡ WriteFault → Rose old.faults new.faults

-- the row of a kind is out
pub record Explains (kind : Kind) (result : Inspected) (old new : sinks.State) : Type 0 where
  pub row : Row
  pub name : row.name.now ≡ name_of kind
  pub says : Says Clean (row_text row) result old new ⊎ Wants result old new
