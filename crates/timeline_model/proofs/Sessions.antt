-- What sessions want to store stays what a line can hold; and what becomes of the sessions of a world.
use Rattle.std.proofs.Common.{◌≡◌, ℕ, Bool, true, false, List, [], ◌∷◌, ◌++◌, Option, Some, None, IfSome, Result, Ok, Err, refl, sym, ap, subst}
use Rattle.std.specs.Prelude.{is_some}
use Rattle.std.specs.List.{AllByRecursion}
use Rattle.byte_grammar.specs.Reading.{IsBytes}
use Rattle.tuple_bytes.specs.declared.op.Op.{Op}
use Rattle.history_model.specs.declared.change.TableFail.{TableFail}
use Rattle.history_model.specs.declared.change.Write.{Write}
use Rattle.history_model.specs.Answers.{prepared}
use Rattle.history_model.specs.State.{after_ops}
use Rattle.notary_link.specs.declared.mark.Mark.{Mark}
use Rattle.store_engine.specs.declared.fail.StoreFail.{StoreFail}
use Rattle.stmt_text.specs.declared.stmt.Stmt.{Stmt}
use Rattle.stmt_text.specs.declared.line.Line.{Line}
use Rattle.stmt_text.specs.declared.line.Line.TheVariants as lines
use Rattle.stmt_text.specs.Fits.{FitsStmt, FitsParts}
use Rattle.statement_core.specs.Database as statements
use Rattle.statement_core.specs.Database.{tables_now}
use Rattle.statement_core.specs.Steps.{write_in}
use Rattle.statement_core.proofs.Preparing.{op_is}
use Rattle.validator.specs.declared.verdict.Verdict.{Verdict}
use Rattle.validator.specs.declared.fail.AuditFail.{AuditFail}
use Rattle.validator.specs.Notarizing.{Heard}
use Rattle.validator.specs.Verdicts.{mark_of}
use Rattle.validator.specs.Texts.{verdict_text}
use Rattle.session_model.specs.Service as sessions
use Rattle.session_model.specs.Service.{Session}
use Rattle.session_model.specs.Statements.{size_fault, pended, pend, change_or_read, say}
use Rattle.session_model.specs.Steps as session_steps
use Rattle.session_model.proofs.Each.{KeptBy, one_line}
use Rattle.session_model.proofs.Storing.{AsksFor}
use Rattle.store_world.specs.Found.{Found}
use Rattle.store_world.specs.World as worlds
use Rattle.store_world.specs.World.{no_sessions, with_audited}
use Rattle.store_world.specs.Steps as world_steps
use Rattle.store_world.specs.Steps.{Step, notarized, intent_in, carried_out, unless, turn_in, turns_world, turned, validated, has_more, piece_audited, algorithm_of, marked, on_tables}
use Rattle.store_world.proofs.Acknowledging.{by_line}
use Rattle.store_world.proofs.Analysing.{analysed_stays}
use Rattle.timeline_model.specs.Scene.{Scene, sessions_over, world_of, store_in}
use Rattle.timeline_model.proofs.Spellings.{FitsChange, IsFitOp, change_fits}
use Rattle.timeline_model.proofs.Statements.{with_begun}

-- ---- what a line can hold

-- each session wants to store operations whose parts a line can hold
abbrev pub AreFit : (ℕ → Option Session) → Type 0
AreFit begun = (n : ℕ) → IfSome (begun n) (λ s. AllByRecursion IsFitOp s.pending)

one_more : (ops : List Op) (op : Op) → AllByRecursion IsFitOp ops → IsFitOp op → AllByRecursion IsFitOp (ops ++ op ∷ [])
one_more [] op all is = (is, tt)
one_more (first ∷ ops) op all is = (all.0, one_more ops op all.1 is)

module _ (w : statements.Database) where
  pended_fit : (pending : List Op) (op : Op) (fault : Option StoreFail) → AllByRecursion IsFitOp pending → IsFitOp op → AllByRecursion IsFitOp (pended pending op fault).pending
  pended_fit pending op None all is = one_more pending op all is
  pended_fit pending op (Some fail) all is = all

  pend_fit : (pending : List Op) (change : Write) → FitsChange change → (r : Result Op TableFail) → prepared (after_ops pending (tables_now w)) change ≡ r → AllByRecursion IsFitOp pending → AllByRecursion IsFitOp (pend pending r).pending
  pend_fit pending change fits (Ok op) is all = pended_fit pending op (size_fault (pending ++ op ∷ [])) all (record { change = change; is = op_is (after_ops pending (tables_now w)) change op is; fits = fits })
  pend_fit pending change fits (Err fail) is all = all

  change_fit : (pending : List Op) (change : Option Write) (stmt : Stmt) → IfSome change FitsChange → AllByRecursion IsFitOp pending → AllByRecursion IsFitOp (change_or_read w pending change stmt).pending
  change_fit pending (Some change) stmt fits all = pend_fit pending change fits (prepared (after_ops pending (tables_now w)) change) refl all
  change_fit pending None stmt fits all = all

  say_fit : (pending : List Op) (stmt : Stmt) → FitsStmt stmt → AllByRecursion IsFitOp pending → AllByRecursion IsFitOp (say w pending stmt).pending
  unfolding say
  say_fit pending stmt fits all = change_fit pending (write_in stmt) stmt (change_fits stmt fits) all

session_fit : (w : sessions.Service) (line : Line) (now : ℕ) → FitsParts line → AreFit w.sessions → AreFit (session_steps.serve w line now).world.sessions
session_fit w line now fits all = one_line (λ s. AllByRecursion IsFitOp s.pending) w tt line now (by line fits) all
  where
    by : (line : Line) → FitsParts line → KeptBy (λ s. AllByRecursion IsFitOp s.pending) w tt line
    by (lines.Plain stmt) fits = tt
    by (lines.InSession n stmt) fits = λ s all. say_fit w.store s.pending stmt fits.1 all
    by lines.Blank fits = tt
    by (lines.Drill event) fits = tt

-- what a line asks to be stored
pub asked_fit : (w : sessions.Service) (line : Line) (ops : List Op) → AsksFor w line ops → FitsParts line → AreFit w.sessions → AllByRecursion IsFitOp ops
asked_fit w (lines.Plain stmt) ops (change, asked, one) fits all =
    subst (AllByRecursion IsFitOp) (sym one) (record { change = change; is = refl; fits = subst (λ (o : Option Write). IfSome o FitsChange) asked (change_fits stmt fits.0) }, tt)
asked_fit w (lines.InSession n stmt) ops (s, is, same) fits all =
    subst (AllByRecursion IsFitOp) (sym same) (subst (λ (o : Option Session). IfSome o (λ s. AllByRecursion IsFitOp s.pending)) is (all n))
asked_fit w lines.Blank ops asked fits all = absurd asked
asked_fit w (lines.Drill event) ops asked fits all = absurd asked

-- ---- an audit keeps the id, what is old, the limits, the sessions, and that there is a store

pub record KeepsRest (w new : worlds.World) : Type 0 where
  pub id : new.id ≡ w.id
  pub old : new.old_history ≡ w.old_history
  pub limits : new.limits ≡ w.limits
  pub sessions : new.sessions ≡ w.sessions
  pub store : is_some new.store ≡ is_some w.store

rest_same : (w : worlds.World) → KeepsRest w w
rest_same w = record { id = refl; old = refl; limits = refl; sessions = refl; store = refl }

unless_rest : (w : worlds.World) (fault : Option AuditFail) (new : worlds.World) (s : Step) → KeepsRest w new → KeepsRest w s.world → KeepsRest w (unless fault new s).world
unless_rest w (Some fail) new s one other = one
unless_rest w None new s one other = other

pub notarized_rest : (w : worlds.World) (o : Option statements.Database) → w.store ≡ o → (now : ℕ) (heard : Heard) (refusal : Option AuditFail) → KeepsRest w (notarized w o now heard refusal).world
notarized_rest w None is now heard refusal = rest_same w
notarized_rest w (Some store) is now heard refusal =
    let i = intent_in store now heard in
    let rest : KeepsRest w (world_steps.filed (worlds.with_store w (world_steps.reached i.frontier store)) i.batches) = record { id = refl; old = refl; limits = refl; sessions = refl; store = sym (ap is_some is) } in
    unless_rest w i.fault w (carried_out w store i refusal) (rest_same w) (unless_rest w refusal _ _ rest rest)

pub turned_rest : (w : worlds.World) (o : Option statements.Database) → w.store ≡ o → (heard : Heard) (k algs : ℕ) → KeepsRest w (turned w o heard k algs).world
turned_rest w None is heard k algs = rest_same w
turned_rest w (Some store) is heard k algs =
    let turn = turn_in store heard k algs in
    unless_rest w turn.fault w (turns_world w store turn) (rest_same w) (record { id = refl; old = refl; limits = refl; sessions = refl; store = sym (ap is_some is) })

-- whatever its auditor has read
read_rest : (w : worlds.World) (read : ℕ) → KeepsRest w (with_audited w read)
read_rest w read = record { id = refl; old = refl; limits = refl; sessions = refl; store = refl }

pub validated_rest : (w : worlds.World) (read now : ℕ) (found : Result Verdict AuditFail) (refusal : Option AuditFail) → KeepsRest w (validated (with_audited w read) now found refusal).world
validated_rest w read now (Err fail) refusal = read_rest w read
validated_rest w read now (Ok verdict) refusal = by (mark_of verdict now)
  where
    by : (m : Option Mark) → KeepsRest w (marked (with_audited w read) m refusal (verdict_text verdict)).world
    by None = read_rest w read
    by (Some mark) = unless_rest w refusal (with_audited w read) _ (read_rest w read) (record { id = refl; old = refl; limits = refl; sessions = refl; store = refl })

pub audited_rest : (b : Bool) (w : worlds.World) (now : ℕ) (found : Result Verdict AuditFail) (refusal : Option AuditFail) → KeepsRest w (piece_audited b w now found refusal).world
audited_rest true w now found refusal = read_rest w _
audited_rest false w now found refusal = validated_rest w 0 now found refusal

-- ---- a line

-- the id, what is old and the limits stay; and without a store there is no session, if that was so
pub record StaysUnder (w new : worlds.World) : Type 0 where
  pub id : new.id ≡ w.id
  pub old : new.old_history ≡ w.old_history
  pub limits : new.limits ≡ w.limits
  pub over : sessions_over w.store w.sessions ≡ w.sessions → sessions_over new.store new.sessions ≡ new.sessions
  pub fit : AreFit w.sessions → AreFit new.sessions

over_same : (a b : Option statements.Database) (begun : ℕ → Option Session) → is_some a ≡ is_some b → sessions_over b begun ≡ begun → sessions_over a begun ≡ begun
over_same None None begun same over = over
over_same (Some x) b begun same over = refl
over_same None (Some y) begun same over = absurd cc

stays_under : (w new : worlds.World) → KeepsRest w new → StaysUnder w new
stays_under w new rest = record {
  id = rest.id;
  old = rest.old;
  limits = rest.limits;
  over = λ over. subst (λ (begun : ℕ → Option Session). sessions_over new.store begun ≡ begun) (sym rest.sessions) (over_same new.store w.store w.sessions rest.store over);
  fit = subst AreFit (sym rest.sessions);
}

tables_under : (w : worlds.World) (o : Option statements.Database) (line : Line) (now : ℕ) → FitsParts line → StaysUnder w (on_tables w o line now).world
tables_under w None line now fits = stays_under w w (rest_same w)
tables_under w (Some store) line now fits = record { id = refl; old = refl; limits = refl; over = λ over. refl; fit = session_fit (with_begun w store) line now fits }

pub step_under : (w : worlds.World) (line : Line) (now : ℕ) (found : Found) → FitsParts line → StaysUnder w (world_steps.step w line now found).world
step_under w line now found = by_line (λ line s. FitsParts line → StaysUnder w s.world) w line now found (λ line. tables_under w w.store line now)
    (λ fits. stays_under w (notarized w w.store now found.heard found.refusal).world (notarized_rest w w.store refl now found.heard found.refusal))
    (λ k algs fits. stays_under w (turned w w.store found.heard k algs).world (turned_rest w w.store refl found.heard k algs)) (λ fits. stays_under w (validated w now found.verdict found.refusal).world (validated_rest w w.audited now found.verdict found.refusal))
    (λ fits. stays_under w (piece_audited (has_more w) w now found.verdict found.refusal).world (audited_rest (has_more w) w now found.verdict found.refusal))
    (λ algorithm era fits. subst (StaysUnder w) (sym (analysed_stays w (algorithm_of algorithm) found.analysis found.body)) (stays_under w w (rest_same w)))

-- ---- the world of a scene

over_fit : (o : Option statements.Database) (begun : ℕ → Option Session) → AreFit begun → AreFit (sessions_over o begun)
over_fit None begun all = λ n. tt
over_fit (Some store) begun all = all

pub world_fit : (t : Scene) (id : ℕ) → AreFit t.sessions → AreFit (world_of t id).sessions
unfolding world_of
world_fit t id all = over_fit (store_in id t.bytes) t.sessions all

over_over : (o : Option statements.Database) (begun : ℕ → Option Session) → sessions_over o (sessions_over o begun) ≡ sessions_over o begun
over_over None begun = refl
over_over (Some store) begun = refl

pub none_over : (o : Option statements.Database) → sessions_over o no_sessions ≡ no_sessions
none_over None = refl
none_over (Some store) = refl

-- what is over its store
pub world_over : (t : Scene) (id : ℕ) → sessions_over (world_of t id).store (world_of t id).sessions ≡ (world_of t id).sessions
unfolding world_of
world_over t id = over_over (store_in id t.bytes) t.sessions

-- ---- a scene

-- bytes, and sessions that want to store what a line can hold
pub record IsFit (t : Scene) : Type 0 where
  pub bytes : IsBytes t.bytes
  pub sessions : AreFit t.sessions
