-- The lines of an input, taken one after another.
use Rattle.std.proofs.Common.{◌≡◌, ◌<◌, ◌≤◌, ◌+◌, ℕ, true, false, Bool, List, [], ◌∷◌, ◌++◌, ◌||◌, length, drop, map, reverse, take, Option, Some, None, Result, Ok, Err, IfOk, if◌then◌else◌, refl, sym, ap, subst, ◌∙◌, arith, length-append}
use Rattle.std.specs.Prelude.{IsErrOf}
use Rattle.std.specs.List.{filter}
use Rattle.std.proofs.lemmas.List.{append-nil, take_all, map-append, reverse-append}
use Rattle.std.proofs.lemmas.List.Elements.{filter-append}
use Rattle.outside_words.specs.Told.{WhereTold, TellsAlike}
use Rattle.outside_words.proofs.Told.{told_map}
use Rattle.outside_io.specs.declared.sink.StreamFail.{StreamFail}
use Rattle.outside_io.specs.declared.sink.StreamFail.TheVariants as streams
use Rattle.outside_io.specs.Sink as sinks
use Rattle.outside_io.proofs.Frame as sink_frames
use Rattle.outside_io.proofs.Out.{nothing_out, out_then, out_but_end}
use Rattle.outside_io.specs.Source as sources
use Rattle.line_input.specs.declared.fail.InputFail.{InputFail}
use Rattle.line_input.specs.declared.fail.InputFail.TheVariants as inputs
use Rattle.line_input.specs.Limits.{input_limit, piece_limit}
use Rattle.line_input.specs.Lines.{IsFeedless}
use Rattle.line_input.specs.Reader.{Reading, Tells, Takes, IsAtLimit, SeesEnd}
use Rattle.line_input.specs.Giving.{HasGiven}
use Rattle.line_input.proofs.Giving.{given_none, told_line, told_end, told_refused}
use Rattle.line_input.proofs.Front.{first_given, front_given, little_given, complete_given, within_given, end_given}
use Rattle.stmt_text.specs.declared.error.ParseFail.{ParseFail}
use Rattle.stmt_text.specs.declared.line.Line.{Line}
use Rattle.stmt_text.specs.declared.line.Line.TheVariants as lines
use Rattle.stmt_text.specs.Lines.{answer}
use Rattle.store_world.specs.declared.answered.Answered.{Answered}
use Rattle.timeline_model.specs.Scene.{Scene}
use Rattle.timeline_model.specs.Timeline.{Event, IsReading, IsTimeline, after, replies, step}
use Rattle.timeline_model.specs.Reports.{ReportsAreRight}
use Rattle.drill_core.specs.declared.fail.DrillFail.{DrillFail}
use Rattle.drill_core.specs.declared.fail.DrillFail.TheVariants as fails
use Rattle.drill_core.specs.declared.machine.Drill.{Drill}
use Rattle.drill_core.specs.Drills.{IsAt, faults_of, HasFewFaults}
use Rattle.drill_core.specs.Fail.{of_input, of_output}
use Rattle.drill_core.specs.Taken.{IsAnswered, text_of, is_refused}
use Rattle.drill_core.specs.Drilled.{is_said, readings_of, read_for, some_refused, Ends, Reads, Writes, Drills}

-- ---- lines and events

said_reading : (r : Result Line ParseFail) → IsReading r → is_said r ≡ true
said_reading (Ok (lines.Plain stmt)) is = refl
said_reading (Ok (lines.InSession n stmt)) is = refl
said_reading (Ok (lines.Drill event)) is = refl
said_reading (Ok lines.Blank) is = absurd is
said_reading (Err fail) is = refl

one_reading : (r : Result Line ParseFail) (b : Bool) → is_said r ≡ b → filter is_said (r ∷ []) ≡ (if b then r ∷ [] else [])
one_reading r true is = rw is refl
one_reading r false is = rw is refl

readings_more : (taken : List (List ℕ)) (line : List ℕ) → readings_of (taken ++ line ∷ []) ≡ readings_of taken ++ filter is_said (answer line ∷ [])
readings_more taken line = ap (filter is_said) (map-append answer taken (line ∷ [])) ∙ filter-append is_said (map answer taken) (answer line ∷ [])

read_more : (e : Event) (es : List Event) → read_for (e ∷ es) ≡ read_for es ++ e.line ∷ []
read_more e es = ap (map (λ (x : Event). x.line)) (reverse-append (e ∷ []) es) ∙ map-append (λ (x : Event). x.line) (reverse es) (e ∷ [])

-- ---- where a drill stands between two lines

pub record IsDrilling (begin : Scene) (input left : sources.State) (reader : Reading) (out written : sinks.State) (drill : Drill) (refused : Bool) : Type 0 where
  pub taken : List (List ℕ)
  pub events : List Event
  pub timeline : IsTimeline begin events
  pub lines_are : read_for events ≡ readings_of taken
  pub at : IsAt (after begin events) drill
  -- a fault a line
  pub faults : faults_of drill + length reader.pending ≤ reader.taken
  pub within : reader.taken ≤ input_limit
  pub given : WhereTold input.rest left.rest (λ all others. HasGiven all taken reader others)
  pub replied : sinks.IsOut (replies begin events) out written
  pub refused_is : refused ≡ some_refused begin events
  pub input_frame : sources.GoesOn input left
  pub out_frame : sinks.GoesOn out written
  pub input_faults : left.faults ≡ input.faults
  pub out_faults : written.faults ≡ out.faults

where_same : (o : Option (List ℕ)) (P : List ℕ → List ℕ → Type 0) → ((all : List ℕ) → P all all) → WhereTold o o P
where_same None P p = tt
where_same (Some all) P p = p all

pub begins : (begin : Scene) (input : sources.State) (reader : Reading) (out : sinks.State) (drill : Drill) → IsAt begin drill → faults_of drill ≡ 0 → reader ≡ record { line = []; pending = []; taken = 0; is_ended = false } → IsDrilling begin input input reader out out drill false
unfolding after replies some_refused
begins begin input reader out drill at none fresh = record {
  taken = [];
  events = [];
  timeline = tt;
  lines_are = refl;
  at = at;
  faults = rw fresh (omega (arith, none));
  within = rw fresh (omega arith);
  given = where_same input.rest (λ all others. HasGiven all [] reader others) (λ all. rw fresh (given_none all));
  replied = nothing_out out out refl;
  refused_is = refl;
  input_frame = record { told = refl; faults = omega arith };
  out_frame = sink_frames.goes_on_same out;
  input_faults = refl;
  out_faults = refl;
}

source_then : (old mid new : sources.State) → sources.GoesOn old mid → sources.GoesOn mid new → sources.GoesOn old new
source_then old mid new first next = record { told = next.told ∙ first.told; faults = omega (arith, first.faults, next.faults) }

few_left : {begin : Scene} {input left : sources.State} {reader : Reading} {out written : sinks.State} {drill : Drill} {refused : Bool} → IsDrilling begin input left reader out written drill refused → HasFewFaults drill
few_left so_far = let f = so_far.faults in let w = so_far.within in omega (arith, f, w)

-- ---- what is out

shorter : (begin : Scene) (es : List Event) → length (replies begin (drop 1 es)) ≤ length (replies begin es)
unfolding replies
shorter begin [] = omega arith
shorter begin (e ∷ es) = omega (arith, length-append (replies begin es) (step (after begin es) e.line e.found).text)

all_but_last : (begin : Scene) (es : List Event) (out written : sinks.State) → sinks.IsOut (replies begin es) out written → sinks.IsOutBut (replies begin (drop 1 es)) (replies begin es) out written
all_but_last begin es out written is = record {
  len = length (replies begin es);
  least = shorter begin es;
  out = is ∙ ap (sinks.appended out.held) (sym (take_all (length (replies begin es)) (replies begin es) (omega arith)));
}

no_more : (b : Bool) → b ≡ (b || false)
no_more true = refl
no_more false = refl

-- both of what is told of an input from the start on
with_both : (o m n : Option (List ℕ)) (P Q R : List ℕ → List ℕ → Type 0) → TellsAlike o m → WhereTold o m P → WhereTold o n Q → ((a x y : List ℕ) → P a x → Q a y → R a y) → WhereTold o n R
with_both None m n P Q R alike p q both = tt
with_both (Some a) (Some x) (Some y) P Q R alike p q both = both a x y p q
with_both (Some a) (Some x) None P Q R alike p q both = tt
with_both (Some a) None (Some y) P Q R alike p q both = absurd cc
with_both (Some a) None None P Q R alike p q both = tt

-- ---- a line

module _ (begin : Scene) (right : (es : List Event) → IsTimeline begin es → ReportsAreRight begin es) (input left : sources.State) (reader : Reading) (out written : sinks.State) (drill : Drill) (refused : Bool)
    (so_far : IsDrilling begin input left reader out written drill refused) where
  abbrev es : List Event
  es = so_far.events

  -- what a line adds to what was taken
  pub record TakesLine (line : List ℕ) (answered : Option Answered) (later : Drill) : Type 0 where
    pub events : List Event
    pub timeline : IsTimeline begin events
    pub lines_are : read_for events ≡ readings_of (so_far.taken ++ line ∷ [])
    pub at : IsAt (after begin events) later
    pub faults : faults_of later ≤ faults_of drill + 1
    pub text : replies begin events ≡ replies begin so_far.events ++ text_of answered
    pub before : length (replies begin (drop 1 events)) ≤ length (replies begin so_far.events)
    pub refused_is : some_refused begin events ≡ (some_refused begin so_far.events || is_refused answered)

  pub takes_line : (line : List ℕ) (answered : Option Answered) (later : Drill) → IsAnswered (answer line) (after begin so_far.events) answered drill later → TakesLine line answered later
  unfolding after replies some_refused
  takes_line line None later (blank, same) = record {
    events = es;
    timeline = so_far.timeline;
    lines_are = so_far.lines_are ∙ sym (readings_more so_far.taken line ∙ ap (λ (l : List (Result Line ParseFail)). readings_of so_far.taken ++ l) (one_reading (answer line) false (ap is_said blank)) ∙ append-nil (readings_of so_far.taken));
    at = subst (λ (d : Drill). IsAt (after begin es) d) (sym same) so_far.at;
    faults = (let f = ap faults_of same in omega (arith, f));
    text = sym (append-nil (replies begin es));
    before = shorter begin es;
    refused_is = no_more (some_refused begin es);
  }
  takes_line line (Some answered) later is = record {
    events = record { line = answer line; found = is.found } ∷ es;
    timeline = (so_far.timeline, is.may);
    lines_are =
        read_more (record { line = answer line; found = is.found }) es ∙ ap (λ (l : List (Result Line ParseFail)). l ++ answer line ∷ []) so_far.lines_are
        ∙ sym (readings_more so_far.taken line ∙ ap (λ (l : List (Result Line ParseFail)). readings_of so_far.taken ++ l) (one_reading (answer line) true (said_reading (answer line) is.may.line)));
    at = is.follows.at;
    faults = is.follows.faults;
    text = ap (λ (l : List ℕ). replies begin es ++ l) (sym is.follows.text);
    before = omega arith;
    refused_is = ap (λ (b : Bool). some_refused begin es || b) (sym is.follows.refused);
  }

  -- ---- the reader went on to the next line

  module _ (later : sources.State) (next : Reading) (told : Tells (Ok true) reader next left later) (feedless : IsFeedless next.line) (takes : Takes reader next left later) (frame : sources.GoesOn left later) where
    given_then : WhereTold input.rest later.rest (λ all others. HasGiven all (so_far.taken ++ next.line ∷ []) next others)
    given_then = told_line input left later so_far.taken reader next so_far.input_frame.told so_far.given told feedless takes

    -- its reply is out
    pub goes_on : (answered : Option Answered) (then_drill : Drill) (after_out : sinks.State) → IsAnswered (answer next.line) (after begin so_far.events) answered drill then_drill
        → reader.taken + length next.pending < next.taken + length reader.pending → later.faults ≡ left.faults
        → sinks.IsOut (text_of answered) written after_out → sinks.GoesOn written after_out → after_out.faults ≡ written.faults
        → (is_refusal : Bool) → is_refusal ≡ is_refused answered → IsDrilling begin input later next out after_out then_drill (refused || is_refusal)
    goes_on answered then_drill after_out is more same_input wrote out_on same_out is_refusal refusal_is =
        let t = takes_line next.line answered then_drill is in
        record {
          taken = so_far.taken ++ next.line ∷ [];
          events = t.events;
          timeline = t.timeline;
          lines_are = t.lines_are;
          at = t.at;
          faults = (let f = so_far.faults in let g = t.faults in omega (arith, f, g, more));
          within = takes.within;
          given = given_then;
          replied = subst (λ (l : List ℕ). sinks.IsOut l out after_out) (sym t.text) (out_then (replies begin es) (text_of answered) out written after_out so_far.replied wrote);
          refused_is = ap (λ (b : Bool). refused || b) refusal_is ∙ ap (λ (b : Bool). b || is_refused answered) so_far.refused_is ∙ sym t.refused_is;
          input_frame = source_then input left later so_far.input_frame frame;
          out_frame = sink_frames.goes_on_then out written after_out so_far.out_frame out_on;
          input_faults = same_input ∙ so_far.input_faults;
          out_faults = same_out ∙ so_far.out_faults;
        }

    -- memory was wanting before it was taken
    pub wanted : Drills begin (Err fails.NoMemory) input later out written
    wanted = record {
      taken = so_far.taken;
      events = es;
      timeline = so_far.timeline;
      right = right es so_far.timeline;
      lines_are = so_far.lines_are;
      read = with_both input.rest left.rest later.rest _ _ (Reads so_far.taken (Err fails.NoMemory)) so_far.input_frame.told so_far.given given_then
          (λ all others rest was is. record { ends = first_given all so_far.taken reader others was; front = front_given all (so_far.taken ++ next.line ∷ []) next rest is takes.within });
      replied = all_but_last begin es out written so_far.replied;
      refused = tt;
    }

    -- its reply was cut short
    pub unwritten : (fail : StreamFail) (answered : Option Answered) (then_drill : Drill) (after_out : sinks.State) → IsAnswered (answer next.line) (after begin so_far.events) answered drill then_drill
        → length next.pending < piece_limit → sinks.FrontIsOut (text_of answered) written after_out → Drills begin (Err (of_output fail)) input later out after_out
    unwritten fail answered then_drill after_out is little front = by fail
      where
        t : TakesLine next.line answered then_drill
        t = takes_line next.line answered then_drill is

        but : sinks.IsOutBut (replies begin (drop 1 t.events)) (replies begin t.events) out after_out
        but =
            let b = out_but_end (replies begin es) (text_of answered) out written after_out so_far.replied front in
            record {
              len = b.len;
              least = (let l = b.least in let s = t.before in omega (arith, l, s));
              out = b.out ∙ ap (λ (l : List ℕ). sinks.appended out.held (take b.len l)) (sym t.text);
            }

        read_then : (r : Result Bool DrillFail) → ((all others : List ℕ) → HasGiven all (so_far.taken ++ next.line ∷ []) next others → Ends (so_far.taken ++ next.line ∷ []) r all others) → WhereTold input.rest later.rest (Reads (so_far.taken ++ next.line ∷ []) r)
        read_then r ends = told_map input.rest later.rest _ _ given_then (λ all others g. record { ends = ends all others g; front = front_given all (so_far.taken ++ next.line ∷ []) next others g takes.within })

        by : (fail : StreamFail) → Drills begin (Err (of_output fail)) input later out after_out
        by streams.Failed = record {
          taken = so_far.taken ++ next.line ∷ [];
          events = t.events;
          timeline = t.timeline;
          right = right t.events t.timeline;
          lines_are = t.lines_are;
          read = read_then (Err fails.WriteFault) (λ all others g. (first_given all (so_far.taken ++ next.line ∷ []) next others g, little_given all (so_far.taken ++ next.line ∷ []) next others g little));
          replied = but;
          refused = tt;
        }
        by streams.NoMemory = record {
          taken = so_far.taken ++ next.line ∷ [];
          events = t.events;
          timeline = t.timeline;
          right = right t.events t.timeline;
          lines_are = t.lines_are;
          read = read_then (Err fails.NoMemory) (λ all others g. first_given all (so_far.taken ++ next.line ∷ []) next others g);
          replied = but;
          refused = tt;
        }

  -- ---- the reader gave no line

  module _ (later : sources.State) (next : Reading) (takes : Takes reader next left later) where
    ends_so : (r : Result Bool DrillFail) → WhereTold input.rest later.rest (Reads so_far.taken r) → Writes r (replies begin (drop 1 es)) (replies begin es) out written → IfOk r (λ is. is ≡ some_refused begin es) → Drills begin r input later out written
    ends_so r read replied is = record { taken = so_far.taken; events = es; timeline = so_far.timeline; right = right es so_far.timeline; lines_are = so_far.lines_are; read = read; replied = replied; refused = is }

    -- at the end
    pub ended : Tells (Ok false) reader next left later → SeesEnd (Ok false) reader next → next.taken < input_limit → Drills begin (Ok refused) input later out written
    ended told sees below = ends_so (Ok refused)
        (told_map input.rest later.rest _ _ (told_end input left later so_far.taken reader next so_far.input_frame.told so_far.given told sees takes)
        (λ all others g. record { ends = end_given all so_far.taken next others g.0 g.1 below; front = front_given all so_far.taken next others g.0 takes.within }))
        so_far.replied so_far.refused_is

    pub read_failed : (fail : InputFail) → Tells (Err fail) reader next left later → SeesEnd (Err fail) reader next → (IsErrOf {T = Bool} (Err fail) inputs.InputLimit → IsAtLimit next) → (IsErrOf {T = Bool} (Err fail) inputs.ReadFault → IsFeedless next.pending) → Drills begin (Err (of_input fail)) input later out written
    read_failed fail told sees at_limit feedless = by fail refl
      where
        reads_by : (r : Result Bool DrillFail) → ((all others : List ℕ) → HasGiven all so_far.taken next others → Ends so_far.taken r all others) → WhereTold input.rest later.rest (Reads so_far.taken r)
        reads_by r ends = told_map input.rest later.rest _ _ (told_refused input left later so_far.taken reader next fail so_far.input_frame.told so_far.given told sees takes)
            (λ all others g. record { ends = ends all others g; front = front_given all so_far.taken next others g takes.within })

        by : (f : InputFail) → fail ≡ f → Drills begin (Err (of_input f)) input later out written
        by inputs.ReadFault is = ends_so (Err fails.ReadFault) (reads_by (Err fails.ReadFault) (λ all others g. complete_given all so_far.taken next others g (feedless (ap (λ (f : InputFail). Err f) is)) sees.1)) so_far.replied tt
        by inputs.InputLimit is = ends_so (Err fails.InputLimit) (reads_by (Err fails.InputLimit) (λ all others g. within_given all so_far.taken next others g (at_limit (ap (λ (f : InputFail). Err f) is)))) so_far.replied tt
        by inputs.NoMemory is = ends_so (Err fails.NoMemory) (reads_by (Err fails.NoMemory) (λ all others g. first_given all so_far.taken next others g)) (all_but_last begin es out written so_far.replied) tt
