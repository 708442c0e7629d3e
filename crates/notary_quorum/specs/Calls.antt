-- A call that is made on each member, and what a notary does in it, by what it says.
use Rattle.std.specs.Prelude.{◌≡◌, ◌≤◌, ◌+◌, ℕ, Bool, true, false, List, [], ◌∷◌, length, IfSome, IfOk}
use Rattle.std.specs.List.{slice_get}
use Rattle.outside_words.specs.Faults.{Rose}
use Rattle.outside_words.specs.Told.{WhereTold}
use Rattle.notary_link.specs.declared.name.Name.{Name}
use Rattle.notary_link.specs.declared.notary.NotaryLimits.{NotaryLimits}
use Rattle.notary_link.specs.Batches.{answer, moment_at}
use Rattle.notary_link.specs.Notary.{Lists, State, Call as Change, Entry, file, note, Keeps, Changes, HasReason, Traces, GoesOn}
use Rattle.notary_quorum.specs.declared.said.Said.{Said}
use Rattle.notary_quorum.specs.declared.said.Said.TheVariants.{Count, Asked, Moment, MarkAt, Done, OutOfTurn, Full, Failed, NoMemory}
use Rattle.notary_quorum.specs.Sayings.{count_said, answer_said, moment_said, mark_said, done_said}

-- a call of a notary
pub data Call : Type 0 where
  counts : ℕ → Call
  changes : Change → Call
  asks : ℕ → Name → List ℕ → Call
  moments : ℕ → ℕ → Call
  marks : ℕ → ℕ → Call

-- it may change what stands there
abbrev pub is_change : Call → Bool
is_change (changes change) = true
is_change call = false

-- the id that it is about
abbrev pub id_of : Call → ℕ
id_of (counts id) = id
id_of (changes (file id index batch)) = id
id_of (changes (note id mark)) = id
id_of (asks id name digest) = id
id_of (moments id index) = id
id_of (marks id place) = id

-- ---- What is said

-- neither an answer to another call, nor a refusal that a call can't give
abbrev pub Fits : Call → Said → Type 0
Fits call Failed = Unit {0}
Fits call NoMemory = Unit {0}
Fits (counts id) (Count n) = Unit {0}
Fits (asks id name digest) (Asked a) = Unit {0}
Fits (moments id index) (Moment moment) = Unit {0}
Fits (marks id place) (MarkAt mark) = Unit {0}
Fits (changes change) Done = Unit {0}
Fits (changes change) Full = Unit {0}
Fits (changes (file id index batch)) (OutOfTurn count) = Unit {0}
Fits call said = ⊥

-- in a call that only asks, memory is wanted only where asking takes memory
abbrev pub WantsFairly : Bool → Call → Type 0 → Type 0
WantsFairly takes call Wanting = is_change call ≡ false → Wanting → takes ≡ true

-- what is said has its grounds in the lists
abbrev pub HasGrounds : Call → NotaryLimits → Said → Lists → Type 0
HasGrounds (counts id) limits said lists = IfOk (count_said said) (λ n. n ≡ length (lists.batches id))
HasGrounds (changes change) limits said lists = HasReason change limits (done_said said) lists
HasGrounds (asks id name digest) limits said lists = IfOk (answer_said said) (λ a. a ≡ answer (lists.batches id) name digest)
HasGrounds (moments id index) limits said lists = IfOk (moment_said said) (λ m. m ≡ moment_at (lists.batches id) index)
HasGrounds (marks id place) limits said lists = IfOk (mark_said said) (λ m. m ≡ slice_get (lists.marks id) place)

-- what is done to the lists
abbrev pub Does : Call → NotaryLimits → Said → Lists → Lists → Type 0
Does (changes change) limits said old new = Changes change limits (done_said said) old new
Does call limits said old new = Keeps old new

-- ---- How often it is called

-- how many questions a call takes at most
abbrev pub questions : Call → ℕ
questions (asks id name digest) = 1
questions call = 0

-- a changing call stands in the trace once, and no other does
abbrev pub IsMade : Call → Said → List Entry → List Entry → Type 0
IsMade (changes change) said old new = Traces change (done_said said) old new
IsMade call said old new = new ≡ old

-- there may have been a fault behind it
abbrev pub is_in_doubt : Said → Bool
is_in_doubt Failed = true
is_in_doubt NoMemory = true
is_in_doubt said = false

-- ---- What a notary does

-- a notary met a call once, and said so
pub record Meets (call : Call) (said : Said) (old new : State) : Type 0 where
  pub fits : Fits call said
  pub grounds : IfSome old.lists (HasGrounds call old.limits said)
  pub does : WhereTold old.lists new.lists (Does call old.limits said)
  pub frame : GoesOn old new
  pub cause : said ≡ Failed → Rose old.faults new.faults
  pub asked : new.asked ≤ old.asked + questions call
  pub trace : WhereTold old.trace new.trace (IsMade call said)
  pub counted : old.shows ≡ true → is_in_doubt said ≡ false → new.faults ≡ old.faults

-- each of them met it, in order, and said so
abbrev pub EachMeets : Call → List Said → List State → List State → Type 0
EachMeets call [] [] [] = Unit {0}
EachMeets call (said ∷ all) (old ∷ olds) (new ∷ news) = Meets call said old new × EachMeets call all olds news
EachMeets call all olds news = ⊥
