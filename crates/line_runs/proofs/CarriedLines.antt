-- The lines of an input are carried out.
use Rattle.std.proofs.Common.{◌≡◌, ◌∙◌, ◌≤◌, ◌<◌, ℕ, Bool, true, false, List, [], ◌∷◌, ◌++◌, length, take, refl, sym, ap, subst, arith, length-append, inl, inr, ⊎_elim, Result, Ok, Err}
use Rattle.std.specs.Prelude.{IsErrOf, OnOk}
use Rattle.std.proofs.lemmas.List.{map-append}
use Rattle.outside_words.specs.Told.{WhereTold, TellsAlike}
use Rattle.outside_words.proofs.Told.{told_map, told_then, told_same}
use Rattle.notary_link.specs.Notary as notaries
use Rattle.notary_link.proofs.Frame as notary_frames
use Rattle.disk_words.specs.Disk as disks
use Rattle.disk_words.proofs.Frame as disk_frames
use Rattle.outside_io.specs.declared.sink.StreamFail.{StreamFail}
use Rattle.outside_io.specs.declared.sink.StreamFail.TheVariants as streams
use Rattle.outside_io.specs.Sink as sinks
use Rattle.outside_io.proofs.Out.{nothing_out}
use Rattle.outside_io.specs.Source as sources
use Rattle.outside_io.specs.Clock as clocks
use Rattle.line_input.specs.declared.fail.InputFail.{InputFail}
use Rattle.line_input.specs.declared.fail.InputFail.TheVariants as inputs
use Rattle.line_input.specs.Lines.{IsFeedless, lines_of}
use Rattle.line_input.specs.Limits.{input_limit, piece_limit}
use Rattle.line_input.specs.Reader as readers
use Rattle.line_input.specs.Giving.{HasGiven}
use Rattle.line_input.specs.Reader.{Reading, IsAtLimit, Tells, SeesEnd}
use Rattle.line_input.proofs.Giving.{given_none, told_line, told_end, told_refused}
use Rattle.line_input.proofs.Front.{first_given, front_given, little_given, complete_given, within_given, end_given}
use Rattle.line_input.specs.Front.{AreFirst, TakesLittle}
use Rattle.store_world.specs.declared.fail.LineFail.{LineFail}
use Rattle.store_world.specs.declared.fail.LineFail.TheVariants as lines
use Rattle.line_runs.specs.declared.status.Status.{Status}
use Rattle.line_runs.specs.declared.status.Status.TheVariants as statuses
use Rattle.line_runs.specs.declared.run_fail.RunFail.{RunFail}
use Rattle.line_runs.specs.declared.runner.Runner.{Runner}
use Rattle.line_runs.specs.declared.seen.Seen.{Seen}
use Rattle.line_runs.specs.Saying.{SomeIsOut}
use Rattle.line_runs.specs.Running.{Running, Timed, carried, Takes}
use Rattle.line_runs.specs.Ran.{AreDone, IsNext, IsUnderWay, Reads, TakesNoMore, lines_in, text_before}
use Rattle.line_runs.specs.Failing.{EndsByUse}
use Rattle.line_runs.specs.Devices.{Desk, Devices}
use Rattle.line_runs.specs.Sees.{SeesAny, SeesNothing, Sees}
use Rattle.line_runs.specs.SeeingLines.{IsNew, CarriesSeen, CarriesSeenFrom}
use Rattle.line_runs.specs.Carrying.{FromWhere, IsLineOf, Replies, CarriesFrom, IsWritten, ending, of_line, of_input, of_output}
use Rattle.line_runs.proofs.Seconds.{takes_none, takes_then}
use Rattle.line_runs.proofs.Reading.{take_front, take_first, IsRead}
use Rattle.line_runs.proofs.Written.{before_more}
use Rattle.line_runs.proofs.Nothing.{nothing}
use Rattle.line_runs.proofs.Limits.{carry_limits}
use Rattle.line_runs.proofs.Standing.{IsStill}
use Rattle.line_runs.proofs.Seeing.{Hears, sees_none, sees_more}
use Rattle.line_runs.proofs.LinesRun.{lines_done, lines_begun}
use Rattle.line_runs.proofs.Lines.{Stands, stands_first, stands_more, sound_on, carried_more}

-- ---- frames

pub source_then : (old mid new : sources.State) → sources.GoesOn old mid → sources.GoesOn mid new → sources.GoesOn old new
source_then old mid new first next = record { told = next.told ∙ first.told; faults = omega (arith, first.faults, next.faults) }

pub source_same : (s : sources.State) → sources.GoesOn s s
source_same s = record { told = refl; faults = omega arith }

pub clock_then : (old mid new : clocks.State) → clocks.GoesOn old mid → clocks.GoesOn mid new → clocks.GoesOn old new
clock_then old mid new first next = record { told = next.told ∙ first.told }

pub clock_same : (s : clocks.State) → clocks.GoesOn s s
clock_same s = record { told = refl }

-- ---- between two lines

-- These lines were carried out from this beginning on. Written is what is said of the text before the last reply, and of all.
pub record Along (scripted : Bool) (runner : Runner) (old now : Desk) (clock ahead : clocks.State) (input left : sources.State) (reader : Reading) (seen : Seen) (Written : List ℕ → List ℕ → Type 0) (begin : Running) (before after : List ℕ) : Type 0 where
  pub done : List Timed
  pub read : WhereTold input.rest left.rest (IsRead (lines_in done) reader)
  pub takes : Takes scripted done clock ahead
  pub stands : Stands scripted begin done runner old now before after
  pub said : begin.text ≡ [] → Written (text_before scripted begin done) (carried scripted begin done).text
  pub sees : IsNew begin → Sees scripted begin done seen

-- what a turn of the loop keeps
pub record IsGoing (first runner : Runner) (old now : Desk) (clock ahead : clocks.State) (input left : sources.State) (reader : Reading) (seen : Seen) (Written : List ℕ → List ℕ → Type 0) : Type 0 where
  pub within : reader.taken ≤ input_limit
  pub scripted : runner.is_scripted ≡ first.is_scripted
  pub told : FromWhere first old now (Along first.is_scripted runner old now clock ahead input left reader seen Written)
  pub disk_frame : disks.GoesOn old.disk now.disk
  pub notary_frame : notaries.GoesOn old.notary now.notary
  pub clock_frame : clocks.GoesOn clock ahead
  pub input_frame : sources.GoesOn input left

-- the same, with what every call of the output keeps
pub record IsCarrying (first runner : Runner) (old now : Desk) (clock ahead : clocks.State) (input left : sources.State) (reader : Reading) (seen : Seen) (out written : sinks.State) : Type 0 where
  pub going : IsGoing first runner old now clock ahead input left reader seen (λ before text. sinks.IsOut text out written)
  pub any : SeesAny seen.first_refusal seen.refused
  pub counted : seen.refused ≡ runner.refused
  pub out_frame : sinks.GoesOn out written
  pub out_grows : SomeIsOut out written

pub begins : (runner : Runner) (s : Desk) (clock : clocks.State) (input : sources.State) (reader : Reading) (seen : Seen) (out : sinks.State) → IsStill s.disk → SeesNothing seen → reader ≡ record { line = []; pending = []; taken = 0; is_ended = false }
    → IsGoing runner runner s s clock clock input input reader seen (λ before text. sinks.IsOut text out out)
begins runner s clock input reader seen out still unseen fresh = record {
  within = omega (arith, ap (λ (r : Reading). r.taken) fresh);
  scripted = refl;
  told = told_same s.disk.reads s.disk.reads _ refl (λ bytes begin at. record {
    done = [];
    read = told_same input.rest input.rest _ refl (λ all. rw fresh (record { given = given_none all; within = omega arith }));
    takes = takes_none runner.is_scripted clock;
    stands = stands_first runner.is_scripted begin runner s bytes still at (told_same s.notary.lists s.notary.lists _ refl (λ lists. refl));
    said = λ silent. subst (λ (text : List ℕ). sinks.IsOut text out out) (sym silent) (nothing_out out out refl);
    sees = λ new. sees_none runner.is_scripted begin seen unseen new;
  });
  disk_frame = disk_frames.goes_on_same s.disk;
  notary_frame = notary_frames.goes_on_same s.notary;
  clock_frame = clock_same clock;
  input_frame = source_same input;
}

lines_more : (done : List Timed) (t : Timed) (line : List ℕ) → t.line ≡ line → lines_in (done ++ t ∷ []) ≡ lines_in done ++ line ∷ []
lines_more done t line is = map-append (λ (t : Timed). t.line) done (t ∷ []) ∙ ap (λ (l : List ℕ). lines_in done ++ l ∷ []) is

given_of : (input left : sources.State) (done : List (List ℕ)) (reader : Reading) → WhereTold input.rest left.rest (IsRead done reader) → WhereTold input.rest left.rest (λ all others. HasGiven all done reader others)
given_of input left done reader read = told_map input.rest left.rest _ _ read (λ all others r. r.given)

-- the lines after one more was read
pub read_on : (done : List (List ℕ)) (reader later : Reading) (input left rest : sources.State) → TellsAlike input.rest left.rest → WhereTold input.rest left.rest (IsRead done reader)
    → Tells (Ok true) reader later left rest → IsFeedless later.line → readers.Takes reader later left rest → WhereTold input.rest rest.rest (IsRead (done ++ later.line ∷ []) later)
read_on done reader later input left rest alike read tells clear takes =
    told_map input.rest rest.rest _ _ (told_line input left rest done reader later alike (given_of input left done reader read) tells clear takes)
    (λ all others given. record { given = given; within = takes.within })

-- no line was given out
abbrev pub GivesNoLine : Result Bool InputFail → Type 0
GivesNoLine (Ok true) = ⊥
GivesNoLine (Ok false) = Unit {0}
GivesNoLine (Err fail) = Unit {0}

-- the same lines, where none was read
pub read_off : (found : Result Bool InputFail) (done : List (List ℕ)) (reader later : Reading) (input left rest : sources.State) → TellsAlike input.rest left.rest → WhereTold input.rest left.rest (IsRead done reader)
    → GivesNoLine found → Tells found reader later left rest → SeesEnd found reader later → readers.Takes reader later left rest → WhereTold input.rest rest.rest (IsRead done later)
read_off (Ok false) done reader later input left rest alike read none tells sees takes =
    told_map input.rest rest.rest _ _ (told_end input left rest done reader later alike (given_of input left done reader read) tells sees takes)
    (λ all others g. record { given = g.0; within = takes.within })
read_off (Err fail) done reader later input left rest alike read none tells sees takes =
    told_map input.rest rest.rest _ _ (told_refused input left rest done reader later fail alike (given_of input left done reader read) tells sees takes)
    (λ all others given. record { given = given; within = takes.within })
read_off (Ok true) done reader later input left rest alike read none tells sees takes = absurd none

-- what is said of a reply of a run that is scripted so
abbrev Replied : Bool → List ℕ → Result (List ℕ) LineFail → Runner → Runner → Desk → Desk → clocks.State → clocks.State → Type 0
Replied scripted line result runner last old new clock ahead = FromWhere runner old new (Replies line scripted result last (record { desk = old; clock = clock }) (record { desk = new; clock = ahead }))

-- one line
module _ (first runner last : Runner) (old mid new : Desk) (clock tick tock : clocks.State) (input left rest : sources.State) (reader next : Reading) (seen heard : Seen) where
  -- a reply as the first runner sees it
  as_first : (result : Result (List ℕ) LineFail) → runner.is_scripted ≡ first.is_scripted → Replied runner.is_scripted next.line result runner last mid new tick tock → Replied first.is_scripted next.line result runner last mid new tick tock
  as_first result scripted replies = subst (λ (b : Bool). Replied b next.line result runner last mid new tick tock) scripted replies

  pub goes_on : (text : List ℕ) (Written After : List ℕ → List ℕ → Type 0)
      → IsGoing first runner old mid clock tick input left reader seen Written → SeesAny seen.first_refusal seen.refused → Hears next.line text last.refused seen heard
      → Tells (Ok true) reader next left rest → IsFeedless next.line → readers.Takes reader next left rest → sources.GoesOn left rest
      → Replied runner.is_scripted next.line (Ok text) runner last mid new tick tock → last.is_scripted ≡ runner.is_scripted → disks.GoesOn mid.disk new.disk → notaries.GoesOn mid.notary new.notary → clocks.GoesOn tick tock
      → ((before xs : List ℕ) → Written before xs → After xs (xs ++ text))
      → IsGoing first last old new clock tock input rest next heard After
  goes_on text Written After g any hears tells clear takes input_on replies scripted disk_on notary_on clock_on writes = record {
    within = takes.within;
    scripted = scripted ∙ g.scripted;
    told = told_then old.disk.reads mid.disk.reads new.disk.reads _ _ _ g.disk_frame.told g.told (as_first (Ok text) g.scripted replies)
        (λ before here after so_far from begin at.
        let a = so_far begin at in
        let r : Running = carried first.is_scripted begin a.done in
        let x = from r a.stands.at in
        let said : (carried first.is_scripted begin (a.done ++ x.timed ∷ [])).text ≡ r.text ++ text = ap (λ (y : Running). y.text) (carried_more first.is_scripted begin a.done x.timed) ∙ x.goes.reply in
        record {
          done = a.done ++ x.timed ∷ [];
          read = subst (λ (ls : List (List ℕ)). WhereTold input.rest rest.rest (IsRead ls next)) (sym (lines_more a.done x.timed next.line x.line_is)) (read_on (lines_in a.done) reader next input left rest g.input_frame.told a.read tells clear takes);
          takes = takes_then first.is_scripted a.done (x.timed ∷ []) clock tick tock g.clock_frame.told a.takes x.seconds;
          stands = stands_more first.is_scripted begin a.done x.timed runner last old mid new before here after g.notary_frame.limits notary_on.told.untold (carry_limits first.is_scripted r x.timed) text a.stands x.goes x.may x.finds;
          said = λ silent. subst (λ (b : List ℕ). After b (carried first.is_scripted begin (a.done ++ x.timed ∷ [])).text) (sym (before_more first.is_scripted begin a.done x.timed))
              (subst (After r.text) (sym said) (writes (text_before first.is_scripted begin a.done) r.text (a.said silent)));
          sees = λ is_new. sees_more first.is_scripted begin a.done x.timed next.line text last.refused x.line_is x.goes.reply x.goes.stands.refused seen heard any hears (a.sees is_new);
        });
    disk_frame = disk_frames.goes_on_then old.disk mid.disk new.disk g.disk_frame disk_on;
    notary_frame = notary_frames.goes_on_then old.notary mid.notary new.notary g.notary_frame notary_on;
    clock_frame = clock_then clock tick tock g.clock_frame clock_on;
    input_frame = source_then input left rest g.input_frame input_on;
  }

-- no line
module _ (found : Result Bool InputFail) (none : GivesNoLine found) (runner : Runner) (old now : Desk) (clock ahead : clocks.State) (input left rest : sources.State) (reader next : Reading) (seen : Seen) (Written : List ℕ → List ℕ → Type 0) where
  along_rest : (scripted : Bool) (begin : Running) (before after : List ℕ) → TellsAlike input.rest left.rest
      → Tells found reader next left rest → SeesEnd found reader next → readers.Takes reader next left rest
      → Along scripted runner old now clock ahead input left reader seen Written begin before after → Along scripted runner old now clock ahead input rest next seen Written begin before after
  along_rest scripted begin before after alike tells sees takes a = record {
    done = a.done;
    read = read_off found (lines_in a.done) reader next input left rest alike a.read none tells sees takes;
    takes = a.takes;
    stands = a.stands;
    said = a.said;
    sees = a.sees;
  }

  pub goes_no_further : (first : Runner) → IsGoing first runner old now clock ahead input left reader seen Written
      → Tells found reader next left rest → SeesEnd found reader next → readers.Takes reader next left rest → sources.GoesOn left rest
      → IsGoing first runner old now clock ahead input rest next seen Written
  goes_no_further first g tells sees takes input_on = record {
    within = takes.within;
    scripted = g.scripted;
    told = told_map old.disk.reads now.disk.reads _ _ g.told (λ before after all begin at. along_rest first.is_scripted begin before after g.input_frame.told tells sees takes (all begin at));
    disk_frame = g.disk_frame;
    notary_frame = g.notary_frame;
    clock_frame = g.clock_frame;
    input_frame = source_then input left rest g.input_frame input_on;
  }

-- ---- exits

on_ok : {A F P : Type 0} (result : Result A F) → P → OnOk result P
on_ok (Ok done) is = is
on_ok (Err fail) is = tt

-- between two lines
pub between_with : (result : Result (Unit {0}) RunFail) (scripted : Bool) (runner : Runner) (old now : Devices) (reader : Reading) (seen : Seen) (Written : List ℕ → List ℕ → Type 0)
    (begin : Running) (before after : List ℕ) → clocks.GoesOn old.clock now.clock
    → (a : Along scripted runner old.desk now.desk old.clock now.clock old.input now.input reader seen Written begin before after)
    → WhereTold old.input.rest now.input.rest (Reads (ending result) a.done nothing)
    → ((before text : List ℕ) → Written before text → IsWritten (nothing.line ≡ []) before text result old.out now.out)
    → ((r : Running) → EndsByUse (ending result) scripted r nothing)
    → CarriesSeen seen scripted result runner old now begin before after
between_with result scripted runner old now reader seen Written begin before after clock_frame a read writes uses =
    let r : Running = carried scripted begin a.done in
    record {
      carries = record {
        done = a.done;
        next = nothing;
        lines = lines_done scripted begin a.done (ending result) runner old.desk now.desk old.clock now.clock before after clock_frame a.takes a.stands (uses r);
        first = told_map old.input.rest now.input.rest _ _ a.read (λ all others x. first_given all (lines_in a.done) reader others x.given);
        read = read;
        stands = on_ok result a.stands.at;
        said = λ silent. writes (text_before scripted begin a.done) r.text (a.said silent);
        sound = a.stands.sound;
      };
      sees = a.sees;
    }

pub between : (first runner : Runner) (old now : Devices) (reader : Reading) (seen : Seen) (Written : List ℕ → List ℕ → Type 0) (result : Result (Unit {0}) RunFail)
    → IsGoing first runner old.desk now.desk old.clock now.clock old.input now.input reader seen Written
    → ((done : List Timed) (all others : List ℕ) → IsRead (lines_in done) reader all others → Reads (ending result) done nothing all others)
    → ((before text : List ℕ) → Written before text → IsWritten (nothing.line ≡ []) before text result old.out now.out)
    → ((scripted : Bool) (r : Running) → EndsByUse (ending result) scripted r nothing)
    → CarriesSeenFrom seen result first runner old now
between first runner old now reader seen Written result g reads writes uses = told_map old.desk.disk.reads now.desk.disk.reads _ _ g.told (λ before after all begin at.
    let a = all begin at in
    between_with result first.is_scripted runner old now reader seen Written begin before after g.clock_frame a
    (told_map old.input.rest now.input.rest _ _ a.read (λ all others r. reads a.done all others r)) writes (uses first.is_scripted))

-- what was read where the input ended
reads_ended : (reader next : Reading) (input left rest : sources.State) (done : List Timed) → TellsAlike input.rest left.rest → WhereTold input.rest left.rest (IsRead (lines_in done) reader)
    → Tells (Ok false) reader next left rest → SeesEnd (Ok false) reader next → readers.Takes reader next left rest → next.taken < input_limit → WhereTold input.rest rest.rest (Reads statuses.Ok done nothing)
reads_ended reader next input left rest done alike read tells sees takes below =
    told_map input.rest rest.rest _ _ (told_end input left rest (lines_in done) reader next alike (given_of input left (lines_in done) reader read) tells sees takes) (λ all others g.
    record { lines = end_given all (lines_in done) next others g.0 g.1 below; under_way = inl refl; little = tt; front = front_given all (lines_in done) next others g.0 takes.within })

pub ended : (first runner : Runner) (old now : Devices) (left : sources.State) (reader next : Reading) (seen : Seen)
    → IsGoing first runner old.desk now.desk old.clock now.clock old.input left reader seen (λ before text. sinks.IsOut text old.out now.out)
    → Tells (Ok false) reader next left now.input → SeesEnd (Ok false) reader next → readers.Takes reader next left now.input → next.taken < input_limit
    → CarriesSeenFrom seen (Ok tt) first runner old now
unfolding along_rest
ended first runner old now left reader next seen g tells sees takes below =
    let Out : List ℕ → List ℕ → Type 0 = λ before text. sinks.IsOut text old.out now.out in
    told_map old.desk.disk.reads now.desk.disk.reads _ _ g.told (λ before after all begin at.
    let a = all begin at in
    between_with (Ok tt) first.is_scripted runner old now next seen Out begin before after g.clock_frame
    (along_rest (Ok false) tt runner old.desk now.desk old.clock now.clock old.input left now.input reader next seen Out first.is_scripted begin before after g.input_frame.told tells sees takes a)
    (reads_ended reader next old.input left now.input a.done g.input_frame.told a.read tells sees takes below)
    (λ before text is. is) (λ r. tt))

-- the input failed, and its end was not seen
pub reads_failed : (fail : InputFail) (reader : Reading) (done : List Timed) (all others : List ℕ) → reader.is_ended ≡ false → (IsErrOf {T = Bool} (Err fail) inputs.InputLimit → IsAtLimit reader) → (IsErrOf {T = Bool} (Err fail) inputs.ReadFault → IsFeedless reader.pending)
    → IsRead (lines_in done) reader all others → Reads (ending (Err (of_input fail))) done nothing all others
reads_failed inputs.ReadFault reader done all others before limit fault r =
    record { lines = complete_given all (lines_in done) reader others r.given (fault refl) before; under_way = inl refl; little = tt; front = front_given all (lines_in done) reader others r.given r.within }
reads_failed inputs.InputLimit reader done all others before limit fault r =
    record { lines = within_given all (lines_in done) reader others r.given (limit refl); under_way = inl refl; little = tt; front = front_given all (lines_in done) reader others r.given r.within }
reads_failed inputs.NoMemory reader done all others before limit fault r =
    record { lines = first_given all (lines_in done) reader others r.given; under_way = inl refl; little = tt; front = front_given all (lines_in done) reader others r.given r.within }

pub written_failed : (fail : InputFail) (before text : List ℕ) (out later : sinks.State) → sinks.IsOut text out later → IsWritten (nothing.line ≡ []) before text (Err (of_input fail)) out later
written_failed inputs.ReadFault before text out later is = is
written_failed inputs.InputLimit before text out later is = is
written_failed inputs.NoMemory before text out later is = inr is

-- the output failed
pub reads_unwritten : (fail : StreamFail) (reader : Reading) (done : List Timed) (all others : List ℕ) → length reader.pending < piece_limit → IsRead (lines_in done) reader all others → Reads (ending (Err (of_output fail))) done nothing all others
reads_unwritten streams.Failed reader done all others less r =
    record { lines = first_given all (lines_in done) reader others r.given; under_way = inl refl; little = inl (little_given all (lines_in done) reader others r.given less); front = front_given all (lines_in done) reader others r.given r.within }
reads_unwritten streams.NoMemory reader done all others less r =
    record { lines = first_given all (lines_in done) reader others r.given; under_way = inl refl; little = tt; front = front_given all (lines_in done) reader others r.given r.within }

pub written_front : (fail : StreamFail) (before text : List ℕ) (out later : sinks.State) → sinks.IsOutBut before text out later → IsWritten (nothing.line ≡ []) before text (Err (of_output fail)) out later
written_front streams.Failed before text out later is = (refl, is)
written_front streams.NoMemory before text out later is = inl (refl, is)

-- the line failed
pub written_under_way : (fail : LineFail) (Idle : Type 0) (before text : List ℕ) (out written : sinks.State) → sinks.IsOut text out written → IsWritten Idle before text (Err (of_line fail)) out written
written_under_way lines.DiskFault Idle before text out written is = is
written_under_way lines.NotaryFault Idle before text out written is = is
written_under_way lines.NoMemory Idle before text out written is = inr is

pub first_before : (done : List (List ℕ)) (line : List ℕ) (all : List ℕ) → AreFirst (done ++ line ∷ []) all → AreFirst done all
first_before done line all h =
    let e : take (length done) (take (length (done ++ line ∷ [])) (lines_of all)) ≡ take (length done) (lines_of all) = take_front (length done) (length (done ++ line ∷ [])) (lines_of all) (omega (arith, length-append done (line ∷ []))) in
    sym (sym e ∙ ap (take (length done)) (sym h) ∙ take_first done (line ∷ []))

module _ (done : List Timed) (t : Timed) (line : List ℕ) (reader : Reading) (all others : List ℕ) (less : length reader.pending < piece_limit) (r : IsRead (lines_in done ++ line ∷ []) reader all others) where
  first_read : AreFirst (lines_in done ++ line ∷ []) all
  first_read = first_given all (lines_in done ++ line ∷ []) reader others r.given

  -- what was read where a device failed
  reads_begun : (s : Status) → t.line ≡ line → (AreFirst (lines_in done) all → AreDone (lines_in done) s all others) → (IsNext done t all → IsUnderWay s done t all) → (TakesLittle (lines_in (done ++ t ∷ [])) all others → TakesNoMore s done t all others) → Reads s done t all others
  reads_begun s is ends under little =
      let same = lines_more done t line is in
      record {
        lines = ends (first_before (lines_in done) line all first_read);
        under_way = under (subst (λ (ls : List (List ℕ)). AreFirst ls all) (sym same) first_read);
        little = little (subst (λ (ls : List (List ℕ)). TakesLittle ls all others) (sym same) (little_given all (lines_in done ++ line ∷ []) reader others r.given less));
        front = front_given all (lines_in done ++ line ∷ []) reader others r.given r.within;
      }

  pub reads_under_way : (fail : LineFail) → IsLineOf {A = List ℕ} line (Err fail) t.line → Reads (ending (Err (of_line fail))) done t all others
  reads_under_way lines.DiskFault is = reads_begun statuses.DiskFault is (λ f. f) (λ n. n) (λ l. l)
  reads_under_way lines.NotaryFault is = reads_begun statuses.NotaryFault is (λ f. f) (λ n. n) (λ l. l)
  reads_under_way lines.NoMemory is = record {
    lines = first_before (lines_in done) line all first_read;
    under_way = ⊎_elim (λ (e : t.line ≡ []). inl e) (λ (e : t.line ≡ line). inr (subst (λ (ls : List (List ℕ)). AreFirst ls all) (sym (lines_more done t line e)) first_read)) is;
    little = tt;
    front = front_given all (lines_in done ++ line ∷ []) reader others r.given r.within;
  }

module _ (first runner last : Runner) (old new : Devices) (mid : Desk) (tick : clocks.State) (left : sources.State) (reader next : Reading) (seen : Seen) where
  pub under_way : (fail : LineFail)
      → IsGoing first runner old.desk mid old.clock tick old.input left reader seen (λ before text. sinks.IsOut text old.out new.out)
      → ((n : ℕ) (c : List ℕ) → n ≤ disks.turn new.desk.disk → new.desk.disk.is_image c → new.desk.disk.was_image n c)
      → Tells (Ok true) reader next left new.input → IsFeedless next.line → readers.Takes reader next left new.input → length next.pending < piece_limit
      → Replied runner.is_scripted next.line (Err fail) runner last mid new.desk tick new.clock → notaries.GoesOn mid.notary new.desk.notary
      → CarriesSeenFrom seen (Err (of_line fail)) first last old new
  under_way fail g counts tells clear takes less replies notary_on =
      told_then old.desk.disk.reads mid.disk.reads new.desk.disk.reads _ _ _ g.disk_frame.told g.told
      (as_first first runner last old.desk mid new.desk old.clock tick new.clock old.input left new.input reader next seen seen (Err fail) g.scripted replies)
      (λ before here after so_far from begin at.
      let a = so_far begin at in
      let s = a.stands in
      let r : Running = carried first.is_scripted begin a.done in
      let x = from r s.at in
      let read = read_on (lines_in a.done) reader next old.input left new.input g.input_frame.told a.read tells clear takes in
      record {
        carries = record {
          done = a.done;
          next = x.timed;
          lines = lines_begun first.is_scripted begin a.done fail runner last old.desk mid new.desk old.clock tick new.clock next.line before here after g.clock_frame g.notary_frame notary_on counts a.takes s x;
          first = told_map old.input.rest new.input.rest _ _ read (λ all others h. first_before (lines_in a.done) next.line all (first_given all (lines_in a.done ++ next.line ∷ []) next others h.given));
          read = told_map old.input.rest new.input.rest _ _ read (λ all others h. reads_under_way a.done x.timed next.line next all others less h fail x.line_is);
          stands = tt;
          said = λ silent. written_under_way fail (x.timed.line ≡ []) (text_before first.is_scripted begin a.done) r.text old.out new.out (a.said silent);
          sound = sound_on first.is_scripted begin a.done x.timed runner last old.desk mid new.desk before here after g.notary_frame.limits notary_on.told.untold (Err fail) s x.goes;
        };
        sees = a.sees;
      })

-- what was carried out, without what was seen
pub carries_of : (seen : Seen) (result : Result (Unit {0}) RunFail) (first last : Runner) (old new : Devices) → CarriesSeenFrom seen result first last old new → CarriesFrom result first last old new
carries_of seen result first last old new told = told_map old.desk.disk.reads new.desk.disk.reads _ _ told (λ before after all begin at. (all begin at).carries)
