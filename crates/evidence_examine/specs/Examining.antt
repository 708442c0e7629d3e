-- What an examiner of an evidence file tells, by a notary's answers alone.
use Rattle.std.specs.Prelude.{◌≡◌, ◌==◌, ◌&&◌, ◌+◌, ℕ, Bool, false, if◌then◌else◌, List, length, Option, Some, None, Result, Ok, Err}
use Rattle.std.specs.List.{Contains, find, sum_by}
use Rattle.std.specs.Option.{option_map}
use Rattle.notary_link.specs.declared.name.Name.{Name}
use Rattle.notary_link.specs.Batches.{Batch}
use Rattle.digest_model.specs.Layout.{Layout}
use Rattle.audit_model.specs.Asked.{is_absent}
use Rattle.evidence_file.specs.declared.entry.Entry.{Entry}
use Rattle.evidence_file.specs.declared.evidence.Evidence.{Evidence}
use Rattle.evidence_file.specs.Shown.{leaf_name}
use Rattle.evidence_examine.specs.declared.examined.Examined.{Examined}
use Rattle.evidence_examine.specs.declared.examined.Examined.TheVariants.{OtherHeader, Lines}
use Rattle.evidence_examine.specs.declared.fail.ExamineFail.{ExamineFail}
use Rattle.evidence_examine.specs.declared.fail.ExamineFail.TheVariants.{NotEvidence, NotaryFault, SealMissing, NoMemory}
use Rattle.evidence_examine.specs.Places.{layout_of, leaves_of, has_filed_places}
use Rattle.evidence_examine.specs.Texts.{shown_as, lines_of}

-- ---- by the answers

-- the file is of this id, and its header and the eras of the sealed tiles are as filed
abbrev pub is_right : ℕ → List Batch → Evidence → Bool
is_right id batches e = (e.header.id == id) && has_filed_places batches e

-- the leaf of an entry's granule was never filed
abbrev pub missing_at : List Batch → Layout → Entry → Bool
missing_at batches l e = is_absent (shown_as batches l e.granule e.shown)

-- the first such leaf; whether a name is filed does not rest on the list that is asked for
unfoldable pub first_missing : List Batch → Layout → List Entry → Option Name
first_missing batches l es = option_map (λ (e : Entry). leaf_name l e.granule) (find (missing_at batches l) es)

-- a text, unless the seal of a name is missing
abbrev pub unless_missing : Option Name → List ℕ → Result Examined ExamineFail
unless_missing None text = Ok (Lines text)
unless_missing (Some name) text = Err (SealMissing name)

-- the lines of these entries
abbrev pub lists_examined : List Batch → Layout → List Entry → Result Examined ExamineFail
lists_examined batches l es = unless_missing (first_missing batches l es) (lines_of batches l es)

-- of a file
abbrev pub file_examined : ℕ → List Batch → Evidence → Result Examined ExamineFail
file_examined id batches e = if is_right id batches e then lists_examined batches (layout_of e) e.entries else Ok OtherHeader

-- of bytes that spell a file, or none
abbrev pub examined_of : ℕ → List Batch → Option Evidence → Result Examined ExamineFail
examined_of id batches None = Err NotEvidence
examined_of id batches (Some e) = file_examined id batches e

-- this is told, unless the notary fails or memory runs out
abbrev pub IsToldOf : Result Examined ExamineFail → Result Examined ExamineFail → Type 0
IsToldOf defined (Err NotaryFault) = Unit {0}
IsToldOf defined (Err NoMemory) = Unit {0}
IsToldOf defined told = told ≡ defined

-- ---- whatever is told

-- the bytes spell a file of this id
abbrev pub is_of : ℕ → Option Evidence → Bool
is_of id None = false
is_of id (Some e) = e.header.id == id

-- where they do not, this is told, unless memory runs out
abbrev pub told_unasked : Option Evidence → Result Examined ExamineFail
told_unasked None = Err NotEvidence
told_unasked (Some e) = Ok OtherHeader

abbrev pub IsToldUnasked : Option Evidence → Result Examined ExamineFail → Type 0
IsToldUnasked file (Err NoMemory) = Unit {0}
IsToldUnasked file told = told ≡ told_unasked file

-- a file is refused by no other cause: a missing seal is that of a leaf of its granules
abbrev pub IsOfFile : Evidence → ExamineFail → Type 0
IsOfFile e NotEvidence = ⊥
IsOfFile e NotaryFault = Unit {0}
IsOfFile e (SealMissing name) = Contains (leaves_of e) name
IsOfFile e NoMemory = Unit {0}

-- bytes that spell none are refused as that alone, unless memory runs out
abbrev pub IsOfExamining : Option Evidence → ExamineFail → Type 0
IsOfExamining None NotEvidence = Unit {0}
IsOfExamining None NoMemory = Unit {0}
IsOfExamining None fail = ⊥
IsOfExamining (Some e) fail = IsOfFile e fail

-- ---- its questions

-- one for a second list
abbrev pub second_count : Option (List (List ℕ)) → ℕ
second_count None = 0
second_count (Some ts) = 1

-- how many lists an entry has
abbrev pub list_count : Entry → ℕ
list_count e = 1 + second_count e.original

-- at most one question for the header, one for each era and for the next one, and one for each list
abbrev pub questions : Evidence → ℕ
questions e = length e.eras + 2 + sum_by list_count e.entries
