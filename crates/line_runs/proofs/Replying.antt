-- A line is carried out and replied to.
use Rattle.std.proofs.Common.{◌≡◌, ◌∙◌, ◌+◌, ℕ, Bool, true, false, List, [], ◌∷◌, ◌++◌, Option, Some, None, refl, sym, ap, subst, inl, inr, Result, Ok, Err}
use Rattle.std.specs.Prelude.{min, codes, IfSome, IfErr, IsOk, OnOk}
use Rattle.std.proofs.lemmas.List.{append-nil}
use Rattle.outside_words.proofs.Told.{told_map, told_same}
use Rattle.disk_words.specs.Disk.{State}
use Rattle.outside_io.specs.Clock as clocks
use Rattle.notary_link.specs.Notary as notaries
use Rattle.notary_link.specs.Notary.{Lists}
use Rattle.validator.proofs.Telling.{told_all, told_both}
use Rattle.stmt_text.specs.declared.error.ParseFail.{ParseFail}
use Rattle.stmt_text.specs.declared.line.Line.{Line}
use Rattle.stmt_text.specs.declared.line.Line.TheVariants as lines
use Rattle.stmt_text.specs.declared.stmt.Stmt.{Stmt}
use Rattle.stmt_text.specs.declared.stmt.Stmt.TheVariants as stmts
use Rattle.stmt_text.specs.Lines.{answer, is_blank, without_return}
use Rattle.stmt_text.specs.Numbers.{in_range, max_u64}
use Rattle.stmt_text.specs.Grammar.{SaysLine}
use Rattle.store_world.specs.declared.answered.Answered.{Answered}
use Rattle.store_world.specs.declared.fail.LineFail.{LineFail}
use Rattle.store_world.specs.declared.fail.LineFail.TheVariants as line_fails
use Rattle.store_world.specs.declared.open_store.OpenStore.{OpenStore}
use Rattle.store_world.specs.World.{World}
use Rattle.store_world.specs.Standing.{OpenWorld, StandsOver, StoreIsIn, IsIn}
use Rattle.store_world.specs.Lists.{IsBeside, ListsGo, WhereBeside}
use Rattle.statement_core.specs.Database as statements
use Rattle.session_model.specs.Service as sessions
use Rattle.session_model.specs.Service.{Session}
use Rattle.session_model.specs.Standing as standing
use Rattle.validator.specs.Desk.{KeepsSound}
use Rattle.store_world.specs.Steps.{step, IsInWorld, IsWorldLine}
use Rattle.store_world.specs.Finding.{MayTell, MayFind}
use Rattle.store_world.specs.Stepping.{StepsFor}
use Rattle.line_runs.specs.declared.runner.Runner.{Runner}
use Rattle.stmt_text.specs.declared.kind.LineKind.{LineKind}
use Rattle.stmt_text.specs.declared.kind.LineKind.TheVariants as kinds
use Rattle.stmt_text.specs.declared.kind.WorldPart.{WorldPart}
use Rattle.stmt_text.specs.declared.kind.WorldPart.TheVariants as parts
use Rattle.stmt_text.specs.declared.kind.NotaryLine.TheVariants as asked
use Rattle.stmt_text.specs.Kinds.{stmt_kind, line_kind}
use Rattle.line_runs.specs.Running.{Running, Timed, carry, counted, answered, said_by, seconds_of, stepped, set_moment, refused_line, refused_text, FindsBy, Takes}
use Rattle.line_runs.specs.Failing.{HasStored, MayEndOn, MayEndBy}
use Rattle.line_runs.specs.Devices.{Desk, desk, site}
use Rattle.line_runs.specs.Carrying.{IsAt, FromWhere, Goes, StepsFrom, LineFrom, RepliesFrom, IsLineOf, TakesFor, GivesSeconds, refusing, moved, SetsMoment}
use Rattle.line_runs.proofs.Faults.{ends_wanting, ends_refused}
use Rattle.line_runs.proofs.Seconds.{takes_blank, takes_second}
use Rattle.line_runs.proofs.Nothing.{no_finding, nothing, blank_nothing, blank_answer, carry_is, carry_nothing, nothing_finds}
use Rattle.line_runs.proofs.Standing.{IsStill, goes_still}

-- what holds in any case
on_any : {A E P : Type 0} (result : Result A E) → P → OnOk result P
on_any (Ok done) p = p
on_any (Err fail) p = tt

on_map : {A E P Q : Type 0} (result : Result A E) → OnOk result P → (P → Q) → OnOk result Q
on_map (Ok done) p f = f p
on_map (Err fail) p f = tt

beside_any : (w : World) (old new : Desk) {P : Lists → Lists → Type 0} → ((lists later : Lists) → P lists later) → WhereBeside w old new P
beside_any w old new {P} f = told_all old.notary.lists new.notary.lists (λ lists later. IsBeside w old.notary.limits lists → P lists later) (λ lists later beside. f lists later)

-- ---- where a run stands whose world stays

-- behind a refusal
pub at_refusal : (r : Running) (runner later : Runner) (name bytes : List ℕ) → later ≡ refusing runner → IsAt r runner bytes → IsAt (refused_line r name) later bytes
at_refusal r runner later name bytes is at = record {
  stands = subst (λ (held : OpenWorld). IsIn r.world held bytes) (sym (ap (λ (x : Runner). x.world) is)) at.stands;
  epoch = ap (λ (x : Runner). x.epoch) is ∙ at.epoch;
  moment = ap (λ (x : Runner). x.moment) is ∙ at.moment;
  refused = ap (λ (x : Runner). x.refused) is ∙ ap (counted true) at.refused;
}

-- at another moment
pub at_moment : (r : Running) (runner later : Runner) (moment : ℕ) (bytes : List ℕ) → later ≡ moved runner moment → IsAt r runner bytes → IsAt (set_moment true r moment) later bytes
at_moment r runner later moment bytes is at = record {
  stands = subst (λ (held : OpenWorld). IsIn r.world held bytes) (sym (ap (λ (x : Runner). x.world) is)) at.stands;
  epoch = ap (λ (x : Runner). x.epoch) is ∙ at.epoch;
  moment = ap (λ (x : Runner). x.moment) is;
  refused = ap (λ (x : Runner). x.refused) is ∙ at.refused;
}

-- what is said of each run that stands here
pub from_map : (runner : Runner) (old new : Desk) (P Q : Running → List ℕ → List ℕ → Type 0) → FromWhere runner old new P → ((r : Running) (before after : List ℕ) → IsAt r runner before → P r before after → Q r before after) → FromWhere runner old new Q
from_map runner old new P Q told f = told_map old.disk.reads new.disk.reads _ _ told (λ before after all r at. f r before after at (all r at))

pub from_same : (runner : Runner) (old new : Desk) → new.disk.reads ≡ old.disk.reads → (P : Running → List ℕ → List ℕ → Type 0) → ((r : Running) (bytes : List ℕ) → IsAt r runner bytes → P r bytes bytes) → FromWhere runner old new P
from_same runner old new same P f = told_same old.disk.reads new.disk.reads _ same (λ bytes r at. f r bytes at)

-- ---- where the disk and the notary are left alone

module _ (runner later : Runner) (s : State) (filed : notaries.State) (still : IsStill s) where
  -- what is said, and where the run stands then
  abbrev pub Still : (Running → Running) → Result (List ℕ) LineFail → Type 0
  Still next result = FromWhere runner (desk s filed) (desk s filed) (λ r. Goes r (next r) result later (desk s filed) (desk s filed))

  -- nothing came of it
  pub fails_goes : (next : Running → Running) (fail : LineFail) → ((r : Running) → (next r).world ≡ r.world) → Still next (Err fail)
  fails_goes next fail same = from_same runner (desk s filed) (desk s filed) refl _ (λ r bytes at. goes_still r (next r) (Err fail) runner later s filed bytes still at (same r) tt tt)

  -- a line is refused
  pub refuses_goes : (name text : List ℕ) → text ≡ refused_text name → later ≡ refusing runner → Still (λ r. refused_line r name) (Ok text)
  refuses_goes name text spelled is = from_same runner (desk s filed) (desk s filed) refl _
      (λ r bytes at. goes_still r (refused_line r name) (Ok text) runner later s filed bytes still at refl (ap (λ (x : List ℕ). r.text ++ x) (sym spelled)) (at_refusal r runner later name bytes is at))

  -- the moment is set
  pub sets_goes : (E : Type 0) (scripted : Bool) (moment : ℕ) (text : List ℕ) → SetsMoment {E = E} scripted moment (Ok text) runner later → Still (λ r. set_moment scripted r moment) (Ok text)
  sets_goes E true moment text sets = from_same runner (desk s filed) (desk s filed) refl _
      (λ r bytes at. goes_still r (set_moment true r moment) (Ok text) runner later s filed bytes still at refl (ap (λ (x : List ℕ). r.text ++ x) (sym sets.text)) (at_moment r runner later moment bytes sets.later_is at))
  sets_goes E false moment text sets = refuses_goes (codes "NotScripted") text sets.text sets.later_is

pub moment_same : (scripted : Bool) (moment : ℕ) (r : Running) → (set_moment scripted r moment).world ≡ r.world
moment_same true moment r = refl
moment_same false moment r = refl

-- nothing is said
pub blank_goes : (text : List ℕ) (runner : Runner) (s : State) (filed : notaries.State) → (still : IsStill s) → text ≡ [] → Still runner runner s filed still (λ r. r) (Ok text)
blank_goes text runner s filed still none = from_same runner (desk s filed) (desk s filed) refl _
    (λ r bytes at. goes_still r r (Ok text) runner runner s filed bytes still at refl (sym (ap (λ (x : List ℕ). r.text ++ x) none ∙ append-nil r.text)) at)

-- ---- a line of the world

-- what stands for a world
stands_of : (id : ℕ) (store : Option statements.Database) (begun : ℕ → Option Session) (held : OpenWorld) (bytes : List ℕ) → StoreIsIn id store begun held.opened bytes → StandsOver held bytes
stands_of id store begun held bytes is = by store held.opened is
  where
    by : (store : Option statements.Database) (o : Option OpenStore) → StoreIsIn id store begun o bytes → IfSome o (λ o. (w : sessions.Service) × standing.IsIn w o.sessions o.store bytes)
    by (Some w) (Some o) is = (record { store = w; sessions = begun }, is.0)
    by None None is = tt
    by (Some w) None is = absurd is
    by None (Some o) is = absurd is

module _ (line : Line) (now : ℕ) (runner last : Runner) (old new : Desk) where
  -- the done is the same, of another text
  same_done : (w next : World) (o n : State) (before after : List ℕ) (later : Lists) (Done Other : Type 0) → (Other → Done) → ListsGo w next Done o n before after later → ListsGo w next Other o n before after later
  same_done w next o n before after later Done Other f files = record { keeps = λ done. files.keeps (f done); between = files.between; ordered = files.ordered }

  beside_map : (w : World) (P Q : Lists → Lists → Type 0) → WhereBeside w old new P → ((lists later : Lists) → P lists later → Q lists later) → WhereBeside w old new Q
  beside_map w P Q told f = told_map old.notary.lists new.notary.lists _ _ told (λ lists later p beside. f lists later (p beside))

  pub steps_on : (answered : Answered) → StepsFor line now (Ok answered) runner.world last.world old new → KeepsSound (StandsOver runner.world) old new
      → last.epoch ≡ runner.epoch → last.moment ≡ runner.moment → last.refused ≡ counted answered.refused runner.refused → StepsFrom line now (Ok answered.text) runner last old new
  steps_on answered steps sound epoch moment refused = told_map old.disk.reads new.disk.reads _ _ (told_both old.disk.reads new.disk.reads _ _ steps sound) (λ before after h r at.
      let s = h.0 r.world at.stands in
      record {
        found = s.found;
        may = s.may;
        finds = s.finds;
        goes = record {
          reply = ap (λ (x : List ℕ). r.text ++ x) (sym s.goes.reply.text);
          stands = record {
            stands = s.goes.stands;
            epoch = epoch ∙ at.epoch;
            moment = moment ∙ at.moment;
            refused = refused ∙ ap (counted answered.refused) at.refused ∙ ap (λ (b : Bool). counted b r.refused) s.goes.reply.refused;
          };
          settled = s.goes.settled;
          images = s.goes.images;
          files = beside_map r.world _ _ s.files (λ lists later files. same_done _ _ _ _ before after later (IsOk {T = Answered} {E = LineFail} (Ok answered)) (IsOk {T = List ℕ} {E = LineFail} (Ok answered.text)) (λ ok. refl) files);
          sound = told_map old.notary.lists new.notary.lists _ _ h.1 (λ lists later k id only was. k id (stands_of r.world.id r.world.store r.world.sessions runner.world before at.stands.store) only was);
        };
        only = tt;
      })

  pub steps_off : (fail : LineFail) → StepsFor line now (Err fail) runner.world last.world old new → KeepsSound (StandsOver runner.world) old new → StepsFrom line now (Err fail) runner last old new
  steps_off fail steps sound = told_map old.disk.reads new.disk.reads _ _ (told_both old.disk.reads new.disk.reads _ _ steps sound) (λ before after h r at.
      let s = h.0 r.world at.stands in
      record {
        found = s.found;
        may = tt;
        finds = s.finds;
        goes = record {
          reply = tt;
          stands = tt;
          settled = λ only. tt;
          images = s.goes.images;
          files = beside_map r.world _ _ s.files (λ lists later files. same_done _ _ _ _ before after later (IsOk {T = Answered} {E = LineFail} (Err fail)) (IsOk {T = List ℕ} {E = LineFail} (Err fail)) (λ ok. let never : false ≡ true = ok in absurd cc) files);
          sound = told_map old.notary.lists new.notary.lists _ _ h.1 (λ lists later k id only was. k id (stands_of r.world.id r.world.store r.world.sessions runner.world before at.stands.store) only was);
        };
        only = (s.only, s.timely, s.unasked);
      })

-- ---- by what the line asks for

-- the seconds are those of the moment where the runner stands
pub seconds_are : (scripted : Bool) (r : Running) (runner : Runner) (epoch_is : runner.epoch ≡ r.epoch) (moment_is : runner.moment ≡ r.moment) (now : ℕ) (clock ahead : clocks.State) → GivesSeconds scripted runner now clock ahead → seconds_of scripted r now ≡ now
seconds_are true r runner epoch_is moment_is now clock ahead gives =
    ap (λ (e : ℕ). min (e + r.moment) max_u64) (sym epoch_is) ∙ ap (λ (m : ℕ). min (runner.epoch + m) max_u64) (sym moment_is) ∙ sym gives.0
seconds_are false r runner epoch_is moment_is now clock ahead gives = refl

pub takes_for : (kind : LineKind) (scripted : Bool) (runner : Runner) (now : ℕ) (clock ahead : clocks.State) → (kind ≡ kinds.Blank → ⊥) → GivesSeconds scripted runner now clock ahead → TakesFor kind scripted now clock ahead
takes_for kinds.Blank scripted runner now clock ahead ne gives = absurd (ne refl)
takes_for (kinds.InWorld part) true runner now clock ahead ne gives = gives.1
takes_for (kinds.InWorld part) false runner now clock ahead ne gives = gives
takes_for (kinds.SetsMoment m) true runner now clock ahead ne gives = gives.1
takes_for (kinds.SetsMoment m) false runner now clock ahead ne gives = gives
takes_for kinds.OutsideScripts true runner now clock ahead ne gives = gives.1
takes_for kinds.OutsideScripts false runner now clock ahead ne gives = gives

-- a line that isn't of the world finds nothing
finds_nothing : (line : Line) → ((part : WorldPart) → line_kind line ≡ kinds.InWorld part → ⊥) → (w : World) (now : ℕ) → MayTell w line no_finding × MayFind w line now no_finding
finds_nothing (lines.Plain stmts.Notarize) ne w now = absurd (ne (parts.Notary asked.Notarize) refl)
finds_nothing (lines.Plain stmts.Validate) ne w now = absurd (ne (parts.Notary asked.Validate) refl)
finds_nothing (lines.Plain stmts.Audit) ne w now = absurd (ne (parts.Notary asked.Audit) refl)
finds_nothing (lines.Plain (stmts.Policy k algs)) ne w now = absurd (ne (parts.Notary (asked.Policy k algs)) refl)
finds_nothing (lines.Plain (stmts.Analyse algorithm era)) ne w now = absurd (ne (parts.Notary (asked.Analyse algorithm era)) refl)
finds_nothing line ne w now = (tt, tt)

pub goes_by : (line : Line) (kind : LineKind) (second : ℕ) (result : Result (List ℕ) LineFail) (runner last : Runner) (old new : Desk) (clock ahead : clocks.State)
    → line_kind line ≡ kind → ((part : WorldPart) → kind ≡ kinds.InWorld part → ⊥) → TakesFor kind runner.is_scripted second clock ahead → IfErr result (λ fail. fail ≡ line_fails.NoMemory)
    → FromWhere runner old new (λ r. Goes r (said_by kind runner.is_scripted (seconds_of runner.is_scripted r second) no_finding r line) result last old new)
    → LineFrom line result runner last (record { desk = old; clock = clock }) (record { desk = new; clock = ahead })
goes_by line kind second result runner last old new clock ahead is ne takes wants told = from_map runner old new _ _ told (λ r before after at goes.
    let nothing_is = finds_nothing line (λ part e. ne part (sym is ∙ e)) r.world (seconds_of runner.is_scripted r second) in
    record {
      second = second;
      found = no_finding;
      seconds = subst (λ (k : LineKind). TakesFor k runner.is_scripted second clock ahead) (sym is) takes;
      may = on_any result nothing_is.0;
      finds = beside_any r.world old new (λ lists later. nothing_is.1);
      goes = subst (λ (k : LineKind). Goes r (said_by k runner.is_scripted (seconds_of runner.is_scripted r second) no_finding r line) result last old new before after) (sym is) goes;
      only = ends_wanting (HasStored r (said_by (line_kind line) runner.is_scripted (seconds_of runner.is_scripted r second) no_finding r line)) line r.world (seconds_of runner.is_scripted r second) result wants;
    })

-- a step at the seconds that were given
pub steps_by : (line : Line) (part : WorldPart) (now : ℕ) (result : Result (List ℕ) LineFail) (runner last : Runner) (old new : Desk) (clock ahead : clocks.State)
    → line_kind line ≡ kinds.InWorld part → GivesSeconds runner.is_scripted runner now clock ahead → StepsFrom line now result runner last old new → LineFrom line result runner last (record { desk = old; clock = clock }) (record { desk = new; clock = ahead })
steps_by line part now result runner last old new clock ahead is gives told = from_map runner old new _ _ told (λ r before after at s.
    let seconds = seconds_are runner.is_scripted r runner at.epoch at.moment now clock ahead gives in
    record {
      second = now;
      found = s.found;
      seconds = subst (λ (k : LineKind). TakesFor k runner.is_scripted now clock ahead) (sym is) (takes_for (kinds.InWorld part) runner.is_scripted runner now clock ahead (λ e. cc) gives);
      may = s.may;
      finds = subst (λ (n : ℕ). WhereBeside r.world old new (λ lists later. MayFind r.world line n s.found)) (sym seconds) s.finds;
      goes = subst (λ (k : LineKind). Goes r (said_by k runner.is_scripted (seconds_of runner.is_scripted r now) s.found r line) result last old new before after) (sym is)
          (subst (λ (n : ℕ). Goes r (stepped r (step r.world line n s.found)) result last old new before after) (sym seconds) s.goes);
      only = subst (λ (k : LineKind). IfErr result (MayEndOn line r.world (seconds_of runner.is_scripted r now) (HasStored r (said_by k runner.is_scripted (seconds_of runner.is_scripted r now) s.found r line)))) (sym is)
          (subst (λ (n : ℕ). IfErr result (MayEndOn line r.world n (HasStored r (stepped r (step r.world line n s.found))))) (sym seconds) s.only);
    })

-- a line of the world
pub world_line : (line : Line) (part : WorldPart) → line_kind line ≡ kinds.InWorld part → IsWorldLine line
world_line line part e = subst IsInWorld (sym e) tt

-- ---- as bytes

filled_stmt : (stmt : Stmt) → stmt_kind stmt ≡ kinds.Blank → ⊥
filled_stmt (stmts.Now moment) e = cc
filled_stmt stmt e = cc

pub takes_filled : (kind : LineKind) (scripted : Bool) (t : Timed) (clock ahead : clocks.State) → (kind ≡ kinds.Blank → ⊥) → is_blank (without_return t.line) ≡ false → TakesFor kind scripted t.second clock ahead → Takes scripted (t ∷ []) clock ahead
takes_filled kinds.Blank scripted t clock ahead ne filled takes = absurd (ne refl)
takes_filled (kinds.InWorld part) true t clock ahead ne filled takes = takes
takes_filled (kinds.InWorld part) false t clock ahead ne filled takes = takes_second t clock ahead filled takes
takes_filled (kinds.SetsMoment m) true t clock ahead ne filled takes = takes
takes_filled (kinds.SetsMoment m) false t clock ahead ne filled takes = takes_second t clock ahead filled takes
takes_filled kinds.OutsideScripts true t clock ahead ne filled takes = takes
takes_filled kinds.OutsideScripts false t clock ahead ne filled takes = takes_second t clock ahead filled takes

pub takes_line : (scripted : Bool) (t : Timed) (l : Line) (clock ahead : clocks.State) → SaysLine in_range t.line l → TakesFor (line_kind l) scripted t.second clock ahead → Takes scripted (t ∷ []) clock ahead
takes_line scripted t lines.Blank clock ahead said takes = takes_blank scripted t clock ahead said takes
takes_line scripted t (lines.Plain stmt) clock ahead said takes = takes_filled (stmt_kind stmt) scripted t clock ahead (filled_stmt stmt) said.filled takes
takes_line scripted t (lines.InSession n stmt) clock ahead said takes = takes_filled (kinds.InWorld parts.Sessions) scripted t clock ahead (λ e. cc) said.filled takes
takes_line scripted t (lines.Drill event) clock ahead said takes = takes_filled kinds.OutsideScripts scripted t clock ahead (λ e. cc) said.filled takes

pub line_of : (bytes : List ℕ) (result : Result (List ℕ) LineFail) → IsLineOf bytes result bytes
line_of bytes (Ok text) = refl
line_of bytes (Err line_fails.DiskFault) = refl
line_of bytes (Err line_fails.NotaryFault) = refl
line_of bytes (Err line_fails.NoMemory) = inr refl

-- a line of the grammar
pub replies_by : (bytes : List ℕ) (l : Line) (result : Result (List ℕ) LineFail) (runner last : Runner) (old new : Desk) (clock ahead : clocks.State) → answer bytes ≡ Ok l → SaysLine in_range bytes l
    → LineFrom l result runner last (record { desk = old; clock = clock }) (record { desk = new; clock = ahead }) → RepliesFrom bytes result runner last (record { desk = old; clock = clock }) (record { desk = new; clock = ahead })
replies_by bytes l result runner last old new clock ahead is said told = from_map runner old new _ _ told (λ r before after at g.
    let t : Timed = record { line = bytes; second = g.second; found = g.found } in
    record {
      timed = t;
      line_is = line_of bytes result;
      seconds = takes_line runner.is_scripted t l clock ahead said g.seconds;
      may = on_map result g.may (λ may. (subst (λ (x : Result Line ParseFail). FindsBy (λ w line now found. MayTell w line found) r.world x (seconds_of runner.is_scripted r g.second) g.found) (sym is) may, tt));
      finds = told_map old.notary.lists new.notary.lists _ _ g.finds (λ lists later finds beside. (subst (λ (x : Result Line ParseFail). FindsBy MayFind r.world x (seconds_of runner.is_scripted r g.second) g.found) (sym is) (finds beside), tt));
      goes = subst (λ (n : Running). Goes r n result last old new before after) (sym (carry_is runner.is_scripted r t (Ok l) is)) g.goes;
      only = subst (λ (x : Result Line ParseFail). IfErr result (MayEndBy x r.world (seconds_of runner.is_scripted r g.second) (HasStored r (carry runner.is_scripted r t)))) (sym is)
          (subst (λ (n : Running). IfErr result (MayEndBy (Ok l) r.world (seconds_of runner.is_scripted r g.second) (HasStored r n))) (sym (carry_is runner.is_scripted r t (Ok l) is)) g.only);
    })

pub filled_answer : (bytes : List ℕ) (b : Bool) (fail : ParseFail) → is_blank (without_return bytes) ≡ b → answer bytes ≡ Err fail → is_blank (without_return bytes) ≡ false
filled_answer bytes true fail e is = let no = sym (blank_answer bytes e) ∙ is in absurd cc
filled_answer bytes false fail e is = e

-- one that is refused
pub replies_refused : (bytes name : List ℕ) (fail : ParseFail) (second : ℕ) (result : Result (List ℕ) LineFail) (runner last : Runner) (s : State) (filed : notaries.State) (clock ahead : clocks.State) → answer bytes ≡ Err fail
    → ((scripted : Bool) (now : ℕ) (r : Running) → answered scripted now no_finding r (Err fail) ≡ refused_line r name) → GivesSeconds runner.is_scripted runner second clock ahead → IfErr result (λ fail. fail ≡ line_fails.NoMemory)
    → (still : IsStill s) → Still runner last s filed still (λ r. refused_line r name) result → RepliesFrom bytes result runner last (site s filed clock) (site s filed ahead)
replies_refused bytes name fail second result runner last s filed clock ahead is names gives wants still told = from_map runner (desk s filed) (desk s filed) _ _ told (λ r before after at goes.
    let t : Timed = record { line = bytes; second = second; found = no_finding } in
    record {
      timed = t;
      line_is = line_of bytes result;
      seconds = takes_filled kinds.OutsideScripts runner.is_scripted t clock ahead (λ e. cc) (filled_answer bytes (is_blank (without_return bytes)) fail refl is) (takes_for kinds.OutsideScripts runner.is_scripted runner second clock ahead (λ e. cc) gives);
      may = on_any result (subst (λ (x : Result Line ParseFail). FindsBy (λ w line now found. MayTell w line found) r.world x (seconds_of runner.is_scripted r second) no_finding) (sym is) tt, tt);
      finds = beside_any r.world (desk s filed) (desk s filed) (λ lists later. (subst (λ (x : Result Line ParseFail). FindsBy MayFind r.world x (seconds_of runner.is_scripted r second) no_finding) (sym is) tt, tt));
      goes = subst (λ (n : Running). Goes r n result last (desk s filed) (desk s filed) before after) (sym (carry_is runner.is_scripted r t (Err fail) is ∙ names runner.is_scripted (seconds_of runner.is_scripted r second) r)) goes;
      only = subst (λ (x : Result Line ParseFail). IfErr result (MayEndBy x r.world (seconds_of runner.is_scripted r second) (HasStored r (carry runner.is_scripted r t)))) (sym is) (ends_refused (HasStored r (carry runner.is_scripted r t)) result wants);
    })

-- none was begun
pub replies_none : (bytes : List ℕ) (runner last : Runner) (s : State) (filed : notaries.State) (clock : clocks.State) → IsStill s → RepliesFrom bytes (Err line_fails.NoMemory) runner last (site s filed clock) (site s filed clock)
replies_none bytes runner last s filed clock still = from_same runner (desk s filed) (desk s filed) refl _ (λ r all at. record {
  timed = nothing;
  line_is = inl refl;
  seconds = takes_blank runner.is_scripted nothing clock clock blank_nothing refl;
  may = tt;
  finds = beside_any r.world (desk s filed) (desk s filed) (λ lists later. nothing_finds MayFind (λ w now. tt) runner.is_scripted r);
  goes = goes_still r (carry runner.is_scripted r nothing) (Err line_fails.NoMemory) runner last s filed all still at (ap (λ (x : Running). x.world) (carry_nothing runner.is_scripted r)) tt tt;
  only = subst (λ (x : Result Line ParseFail). MayEndBy x r.world (seconds_of runner.is_scripted r nothing.second) (HasStored r (carry runner.is_scripted r nothing)) line_fails.NoMemory) (sym (blank_answer [] blank_nothing)) (tt, tt, tt);
})
