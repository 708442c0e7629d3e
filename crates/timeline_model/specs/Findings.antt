-- What a line finds, and so what it does, is one thing.
use Rattle.std.specs.Prelude.{◌≡◌, ◌⊎◌, ℕ, List}
use Rattle.std.specs.Bool.{OnFalse}
use Rattle.history_model.specs.History.{History}
use Rattle.notary_link.specs.declared.notary.NotaryLimits.{NotaryLimits}
use Rattle.stmt_text.specs.declared.stmt.Stmt.TheVariants as stmts
use Rattle.stmt_text.specs.declared.line.Line.{Line}
use Rattle.stmt_text.specs.declared.line.Line.TheVariants as lines
use Rattle.store_world.specs.Found.{Found}
use Rattle.store_world.specs.World.{World}
use Rattle.store_world.specs.Steps.{has_more, step}
use Rattle.store_world.specs.Finding.{MayFind}
use Rattle.timeline_model.specs.Scene.{Scene, nothing_yet, world_of}
use Rattle.timeline_model.specs.Timeline.{Event, after, IsTimeline}
use Rattle.timeline_model.specs.Filed.{IsFiledOver, HasClash}

-- the same verdict of a validation, and of an audit that doesn't go on; the same analysis of an analysis
abbrev pub FindsSame : World → Line → Found → Found → Type 0
FindsSame w (lines.Plain stmts.Validate) one other = one.verdict ≡ other.verdict
FindsSame w (lines.Plain stmts.Audit) one other = OnFalse (has_more w) (one.verdict ≡ other.verdict)
FindsSame w (lines.Plain (stmts.Analyse algorithm era)) one other = one.analysis ≡ other.analysis
FindsSame w line one other = Unit {0}

-- so the line does the same, whatever else of the findings matters to it
pub record DoesSame (w : World) (line : Line) (now : ℕ) (one other : Found) : Type 0 where
  pub finds : FindsSame w line one other
  pub step : step w line now one ≡ step w line now other

-- two inputs clash, one of them for what was filed under an id
abbrev pub HasFiledClash : Scene → List Event → ℕ → Type 0
HasFiledClash t es id = (h : History) × (n : ℕ) × IsFiledOver t es id h n × HasClash t es h n

-- Whatever lines and crashes came, alterations too.
abbrev pub FindingsAreOne : Type 0
FindingsAreOne = (limits : NotaryLimits) (es : List Event) (id : ℕ) (line : Line) (one other : Found) → IsTimeline (nothing_yet limits) es
    → MayFind (world_of (after (nothing_yet limits) es) id) line (after (nothing_yet limits) es).clock one → MayFind (world_of (after (nothing_yet limits) es) id) line (after (nothing_yet limits) es).clock other
    → DoesSame (world_of (after (nothing_yet limits) es) id) line (after (nothing_yet limits) es).clock one other ⊎ HasFiledClash (nothing_yet limits) es id
