-- What a call has seen of the lines that it carried out: how many, which was refused first, and which sessions are left.
use Rattle.std.specs.Prelude.{if◌then◌else◌, ◌≡◌, ◌⊎◌, ◌+◌, ◌<◌, ◌==◌, ◌&&◌, ℕ, min, not, get_or, Bool, true, false, List, [], ◌∷◌, ◌++◌, length, take, codes, Option, Some, None, IfSome, Result, Ok}
use Rattle.std.specs.Option.{is_some}
use Rattle.std.specs.List.{starts_with}
use Rattle.outside_words.specs.Told.{WhereTold}
use Rattle.tuple_bytes.specs.declared.header.Header.{Header}
use Rattle.stmt_text.specs.declared.error.ParseFail.{ParseFail}
use Rattle.stmt_text.specs.declared.stmt.Stmt.{Stmt}
use Rattle.stmt_text.specs.declared.stmt.Stmt.TheVariants as stmts
use Rattle.stmt_text.specs.declared.line.Line.{Line}
use Rattle.stmt_text.specs.declared.line.Line.TheVariants as lines
use Rattle.stmt_text.specs.Numbers.{max_u64}
use Rattle.line_runs.specs.declared.seen.Refusal.{Refusal}
use Rattle.line_runs.specs.declared.seen.Seen.{Seen}
use Rattle.line_runs.specs.declared.status.Status.{Status}
use Rattle.line_runs.specs.declared.status.Status.TheVariants as statuses
use Rattle.line_runs.specs.Devices.{Devices, Effect}
use Rattle.line_runs.specs.OnStore.{OnStore}
use Rattle.line_runs.specs.Running.{Running, Timed, carried, IsReplied}
use Rattle.line_runs.specs.Ran.{RunsStore, opened}

-- ---- the first refusal

-- a first refusal is seen exactly if some reply is one
abbrev pub SeesAny : Option Refusal → ℕ → Type 0
SeesAny (Some refusal) refused = 0 < refused
SeesAny None refused = refused ≡ 0

abbrev pub front_length : ℕ
front_length = 200

-- the front of a line, or nothing where memory was wanting for it
abbrev pub IsFrontOf : List ℕ → List ℕ → Type 0
IsFrontOf line front = (front ≡ take front_length line) ⊎ (front ≡ [])

-- One of these lines was refused, and none before it: by its number among them, its front and the reply to it.
pub record IsFirstRefused (scripted : Bool) (begin : Running) (done : List Timed) (refusal : Refusal) : Type 0 where
  pub replied : IsReplied refusal.reply scripted begin done
  pub number : refusal.number ≡ min (length replied.before + 1) max_u64
  pub front : IsFrontOf replied.line.line refusal.line
  pub none_before : (carried scripted begin replied.before).refused ≡ 0
  pub is_refused : 0 < (carried scripted begin (replied.before ++ replied.line ∷ [])).refused

-- ---- sessions

-- whether a session is seen as begun
abbrev pub is_begun : List Bool → ℕ → Bool
is_begun begun n = get_or begun n false

-- each of the sixteen is seen as begun exactly if it is
abbrev pub AreBegun : List Bool → Running → Type 0
AreBegun begun r = (n : ℕ) → n < 16 → is_begun begun n ≡ is_some (r.world.sessions n)

-- ---- all

-- of lines that were carried out from this beginning on
pub record Sees (scripted : Bool) (begin : Running) (done : List Timed) (seen : Seen) : Type 0 where
  pub lines : seen.lines ≡ min (length done) max_u64
  pub refused : seen.refused ≡ (carried scripted begin done).refused
  pub first : IfSome seen.first_refusal (IsFirstRefused scripted begin done)
  pub begun : AreBegun seen.begun (carried scripted begin done)

-- of none
pub record SeesNothing (seen : Seen) : Type 0 where
  pub lines : seen.lines ≡ 0
  pub refused : seen.refused ≡ 0
  pub first : seen.first_refusal ≡ None
  pub verdict : seen.verdict ≡ None
  pub begun : (n : ℕ) → is_begun seen.begun n ≡ false

-- how a call ends whose lines were all carried out says whether some reply is a refusal
pub record EndsByCount (result : Status) (refused : ℕ) : Type 0 where
  pub some : result ≡ statuses.Refused → 0 < refused
  pub none : result ≡ statuses.Ok → refused ≡ 0

-- so a first refusal is seen exactly if such a call ends as refused
pub record CountsRefusals (result : Status) (seen : Seen) : Type 0 where
  pub any : SeesAny seen.first_refusal seen.refused
  pub ending : EndsByCount result seen.refused

-- a run over a store of this header, of whose lines this was seen
pub record SeesStore (scripted : Bool) (header : Header) (seen : Seen) (result : Status) (old new : Devices) (before after : List ℕ) : Type 0 where
  pub run : RunsStore scripted header result old new before after
  pub sees : Sees scripted (opened header old before) run.runs.done seen

abbrev pub SeesHeader : Bool → Seen → Header → Effect
SeesHeader scripted seen header result old new = WhereTold old.desk.disk.reads new.desk.disk.reads (SeesStore scripted header seen result old new)

abbrev pub SeesOn : Bool → ℕ → Seen → Effect
SeesOn scripted id seen = OnStore id (SeesHeader scripted seen)

-- ---- how it is seen, line by line

-- a refusal leaves a session as it was, unless it is that of a conflict
abbrev pub leaves_session : List ℕ → Bool
leaves_session reply = starts_with (λ a b. a == b) reply (codes "refused ") && not (starts_with (λ a b. a == b) reply (codes "refused Conflict "))

-- whether a session is begun after a statement of its own that isn't refused so
abbrev pub after_stmt : Stmt → Bool → Bool
after_stmt stmts.Begin was = true
after_stmt stmts.Commit was = false
after_stmt stmts.Abort was = false
after_stmt stmt was = was

-- whether session n is begun after a line to which this was replied
abbrev pub begun_after : Result Line ParseFail → List ℕ → ℕ → Bool → Bool
begun_after (Ok (lines.InSession m stmt)) reply n was = if n == m && not (leaves_session reply) then after_stmt stmt was else was
begun_after result reply n was = was

abbrev pub Follows : Result Line ParseFail → List ℕ → List Bool → List Bool → Type 0
Follows result reply old new = (n : ℕ) → n < 16 → is_begun new n ≡ begun_after result reply n (is_begun old n)

-- a line of this number, to which this was replied
pub record IsOf (line reply : List ℕ) (number : ℕ) (refusal : Refusal) : Type 0 where
  pub number_is : refusal.number ≡ number
  pub front : IsFrontOf line refusal.line
  pub reply_is : refusal.reply ≡ reply

-- the first refusal after that line, where so many replies are refusals
abbrev pub NotesFirst : List ℕ → List ℕ → ℕ → ℕ → Option Refusal → Option Refusal → Type 0
NotesFirst line reply number refused (Some refusal) next = next ≡ Some refusal
NotesFirst line reply number refused None (Some refusal) = (0 < refused) × IsOf line reply number refusal
NotesFirst line reply number refused None None = refused ≡ 0

-- one line more is counted, and so many replies are refusals
pub record StaysBut (lines refused : ℕ) (old new : Seen) : Type 0 where
  pub lines_are : new.lines ≡ min (lines + 1) max_u64
  pub refused_are : new.refused ≡ refused
  pub begun : new.begun ≡ old.begun
  pub first : new.first_refusal ≡ old.first_refusal

-- a line was carried out, and so many replies are refusals then
pub record Notes (line reply : List ℕ) (refused : ℕ) (old new : Seen) : Type 0 where
  pub lines : new.lines ≡ min (old.lines + 1) max_u64
  pub refused_are : new.refused ≡ refused
  pub begun : new.begun ≡ old.begun
  pub first : NotesFirst line reply new.lines refused old.first_refusal new.first_refusal
