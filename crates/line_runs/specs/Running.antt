-- What a script does, line by line.
use Rattle.std.specs.Prelude.{◌≡◌, ◌<◌, ℕ, ◌+◌, length, slice_index, min, Bool, true, false, List, [], ◌∷◌, ◌++◌, fold, filter, not, map, codes, Some, None, Result, Ok, Err}
use Rattle.outside_words.specs.Told.{WhereTold}
use Rattle.outside_io.specs.Clock as clocks
use Rattle.history_model.specs.Stored.{stored}
use Rattle.history_model.specs.History.{last_moment}
use Rattle.tuple_bytes.specs.declared.header.Header.{Header}
use Rattle.stmt_text.specs.declared.error.ParseFail.{ParseFail}
use Rattle.stmt_text.specs.declared.error.ParseFail.TheVariants as fails
use Rattle.stmt_text.specs.declared.line.Line.{Line}
use Rattle.stmt_text.specs.Lines.{answer, is_blank, without_return}
use Rattle.notary_link.specs.declared.notary.NotaryLimits.{NotaryLimits}
use Rattle.notary_link.specs.Notary.{Lists}
use Rattle.statement_core.specs.Database as statements
use Rattle.store_world.specs.Found.{Found}
use Rattle.store_world.specs.World.{World, no_sessions}
use Rattle.store_world.specs.Steps.{Step, step}
use Rattle.store_world.specs.Finding.{MayTell, MayFind}
use Rattle.stmt_text.specs.declared.kind.LineKind.{LineKind}
use Rattle.stmt_text.specs.declared.kind.LineKind.TheVariants as kinds
use Rattle.stmt_text.specs.Kinds.{line_kind}
use Rattle.stmt_text.specs.Numbers.{max_u64}
use Rattle.store_world.specs.NoAlteration.{TellsNoAlteration}

-- where a run stands
pub record Running : Type 0 where
  pub world : World
  -- the store's first second
  pub epoch : ℕ
  -- the moment of a scripted run
  pub moment : ℕ
  -- all replies so far
  pub text : List ℕ
  -- how many of them are refusals
  pub refused : ℕ

-- the world of a store's bytes behind this header
abbrev pub world_of : Header → List ℕ → statements.Database
world_of header bytes = record { header = header; items = (stored bytes).items; end = (stored bytes).end }

-- before the first line, over a store without sessions and what a notary holds: a scripted run begins at the last moment
abbrev pub start : statements.Database → Lists → NotaryLimits → Running
start store lists limits = record {
  world = record { id = store.header.id; store = Some store; old_history = None; sessions = no_sessions; lists = lists; limits = limits; audited = 0 };
  epoch = store.header.epoch;
  moment = last_moment store.items;
  text = [];
  refused = 0;
}

-- ---- a line

-- A line, the second that the clock gave for it, and what it has from the notary where it asks it. A scripted run asks no clock,
-- and the second says nothing there.
pub record Timed : Type 0 where
  pub line : List ℕ
  pub second : ℕ
  pub found : Found

-- the clock seconds of a line
abbrev pub seconds_of : Bool → Running → ℕ → ℕ
seconds_of true r second = min (r.epoch + r.moment) max_u64
seconds_of false r second = second

-- with one reply more: the count stands still at the greatest number of 64 bits
abbrev pub counted : Bool → ℕ → ℕ
counted true refused = min (refused + 1) max_u64
counted false refused = refused

-- something is replied, and the world stays
abbrev pub replied : Running → List ℕ → Bool → Running
replied r text refusal = record { world = r.world; epoch = r.epoch; moment = r.moment; text = r.text ++ text; refused = counted refusal r.refused }

abbrev pub refused_text : List ℕ → List ℕ
refused_text name = codes "refused " ++ name ++ 10 ∷ []

abbrev pub refused_line : Running → List ℕ → Running
refused_line r name = replied r (refused_text name) true

-- after a step
abbrev pub stepped : Running → Step → Running
stepped r s = record { world = s.world; epoch = r.epoch; moment = r.moment; text = r.text ++ s.text; refused = counted s.is_refused r.refused }

-- a moment is set where the run is scripted
abbrev pub set_moment : Bool → Running → ℕ → Running
set_moment true r moment = record { world = r.world; epoch = r.epoch; moment = moment; text = r.text ++ codes "ok\n"; refused = r.refused }
set_moment false r moment = refused_line r (codes "NotScripted")

-- a blank line is nothing, and what stands outside scripts is no line of a run
abbrev pub said_by : LineKind → Bool → ℕ → Found → Running → Line → Running
said_by kinds.Blank scripted now found r line = r
said_by (kinds.InWorld part) scripted now found r line = stepped r (step r.world line now found)
said_by (kinds.SetsMoment moment) scripted now found r line = set_moment scripted r moment
said_by kinds.OutsideScripts scripted now found r line = refused_line r (codes "Syntax")

abbrev pub answered : Bool → ℕ → Found → Running → Result Line ParseFail → Running
answered scripted now found r (Ok line) = said_by (line_kind line) scripted now found r line
answered scripted now found r (Err fails.Syntax) = refused_line r (codes "Syntax")
answered scripted now found r (Err fails.NumberTooWide) = refused_line r (codes "NumberTooWide")
answered scripted now found r (Err fails.NoMemory) = r

-- a line is carried out
unfoldable pub carry : Bool → Running → Timed → Running
carry scripted r t = answered scripted (seconds_of scripted r t.second) t.found r (answer t.line)

-- lines, one after another
abbrev pub carried : Bool → Running → List Timed → Running
carried scripted r timed = fold (carry scripted) r timed

-- ---- what lines find

-- P of what a line that is read so finds in this world at these clock seconds
abbrev pub FindsBy : (World → Line → ℕ → Found → Type 0) → World → Result Line ParseFail → ℕ → Found → Type 0
FindsBy P w (Ok line) now found = P w line now found
FindsBy P w (Err fail) now found = Unit {0}

-- of each of these lines, in the world that it finds
abbrev pub EachFinds : (World → Line → ℕ → Found → Type 0) → Bool → Running → List Timed → Type 0
EachFinds P scripted r [] = Unit {0}
EachFinds P scripted r (t ∷ timed) = FindsBy P r.world (answer t.line) (seconds_of scripted r t.second) t.found × EachFinds P scripted (carry scripted r t) timed

-- any notary may tell it
abbrev pub AllMayTell : Bool → Running → List Timed → Type 0
AllMayTell = EachFinds (λ w line now found. MayTell w line found)

-- one that holds the lists of each world may
abbrev pub AllMayFind : Bool → Running → List Timed → Type 0
AllMayFind = EachFinds MayFind

-- the seconds of the lines that are not blank
abbrev pub is_said : Timed → Bool
is_said t = not (is_blank (without_return t.line))

abbrev pub seconds_taken : List Timed → List ℕ
seconds_taken timed = map (λ t. t.second) (filter is_said timed)

-- ---- the clock

-- these were the clock's next seconds, and those behind them are still to come
abbrev pub Gave : List ℕ → clocks.State → clocks.State → Type 0
Gave seconds old new = WhereTold old.answers new.answers (λ before after.
    ((i : ℕ) → i < length seconds → slice_index seconds i ≡ before i) × ((i : ℕ) → after i ≡ before (length seconds + i)))

-- a scripted run asks no clock, and others take a second for each line that is not blank
abbrev pub Takes : Bool → List Timed → clocks.State → clocks.State → Type 0
Takes true timed old new = new ≡ old
Takes false timed old new = Gave (seconds_taken timed) old new

-- none of these lines tells of an alteration, each in the world that it finds
abbrev pub AllTellNone : Bool → Running → List Timed → Type 0
AllTellNone = EachFinds (λ w line now found. TellsNoAlteration w line found)

-- one of these lines was replied so
pub record IsReplied (text : List ℕ) (scripted : Bool) (begin : Running) (timed : List Timed) : Type 0 where
  pub before : List Timed
  pub line : Timed
  pub behind : List Timed
  pub all : timed ≡ before ++ line ∷ behind
  pub reply : (carried scripted begin (before ++ line ∷ [])).text ≡ (carried scripted begin before).text ++ text
