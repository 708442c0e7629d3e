-- Laws of runs: what sound stores, acknowledged transactions and the last replies come to.
use Rattle.std.specs.Prelude.{◌≡◌, ℕ, Bool, List, Some, true, [], ◌∷◌, ◌++◌}
use Rattle.byte_grammar.specs.Reading.{IsBytes}
use Rattle.tuple_bytes.specs.declared.header.Header.{Header}
use Rattle.history_model.specs.Stored.{stored}
use Rattle.notary_link.specs.declared.notary.NotaryLimits.{NotaryLimits}
use Rattle.notary_link.specs.Notary.{Lists}
use Rattle.audit_model.specs.Altered.{history_in}
use Rattle.store_world.specs.Laws.{HoldsFiled, IsSoundWorld, HasFitHeader}
use Rattle.line_runs.specs.Running.{Running, Timed, start, world_of, carried, AllMayFind, AllTellNone, IsReplied, carry}
use Rattle.store_world.specs.Acknowledged.{ok_text}
use Rattle.store_world.specs.Appending.{IsStored, OnlyAppends}
use Rattle.line_runs.specs.Made.{all_but_two, added}

-- ---- over a store that is what was filed

-- A run that begins over a sound world ends over one, and none of its lines tells of an alteration.
abbrev pub SoundRunsAreUnaltered : Type 0
SoundRunsAreUnaltered = (scripted : Bool) (begin : Running) (timed : List Timed) → HasFitHeader begin.world → IsSoundWorld begin.world → AllMayFind scripted begin timed
    → AllTellNone scripted begin timed × IsSoundWorld (carried scripted begin timed).world

-- A run over bytes that hold what is filed under the id of their header begins over a sound world.
abbrev pub SoundBytesBeginSound : Type 0
SoundBytesBeginSound = (bytes : List ℕ) (header : Header) (lists : Lists) (limits : NotaryLimits) → IsBytes bytes → (stored bytes).header ≡ Some header
    → HoldsFiled (lists.batches header.id) header.id (history_in (stored bytes))
    → HasFitHeader (start (world_of header bytes) lists limits).world × IsSoundWorld (start (world_of header bytes) lists limits).world

-- ---- what is stored

-- A transaction of which `ok N` was replied is stored when the lines were carried out.
abbrev pub AcknowledgedIsStored : Type 0
AcknowledgedIsStored = (scripted : Bool) (begin : Running) (timed : List Timed) (digits : List ℕ) → IsReplied (ok_text digits) scripted begin timed → IsStored digits (carried scripted begin timed).world.store

-- No line of a run takes an item away, or changes one.
abbrev pub RunsOnlyAppend : Type 0
RunsOnlyAppend = (scripted : Bool) (begin : Running) (timed : List Timed) → OnlyAppends begin.world.store (carried scripted begin timed).world.store

-- ---- the end of a summary

-- the replies to the last two lines
abbrev pub last_two : Running → List Timed → List ℕ
last_two begin done = added (all_but_two begin done) (carried true begin done)

-- with no reply so far
abbrev pub silent : Running → Running
silent r = record r { text = [] }

-- the reply to a line
abbrev pub reply_to : Running → Timed → List ℕ
reply_to r t = (carry true (silent r) t).text

-- Behind the line that counts stand the replies to the last two lines.
abbrev pub LastTwoAreTold : Type 0
LastTwoAreTold = (begin : Running) (front : List Timed) (t u : Timed)
    → last_two begin (front ++ t ∷ u ∷ []) ≡ reply_to (carried true begin front) t ++ reply_to (carried true begin (front ++ t ∷ [])) u
