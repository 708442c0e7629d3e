-- Each refusal of sessions comes exactly by its cause.
use Rattle.std.proofs.Common.{◌≡◌, ◌≢◌, ℕ, false, Option, Some, None, List, [], ◌∷◌, refl, subst, ◌∙◌}
use Rattle.tuple_bytes.specs.declared.op.Op.{Op}
use Rattle.stmt_text.specs.declared.stmt.Stmt.{Stmt}
use Rattle.stmt_text.specs.declared.stmt.Stmt.TheVariants as stmts
use Rattle.store_engine.specs.declared.fail.StoreFail.{StoreFail}
use Rattle.store_engine.specs.Refusals.{commit_fault}
use Rattle.statement_core.specs.declared.reply.Refusal.TheVariants as refusals
use Rattle.statement_core.specs.declared.reply.Reply.{Reply}
use Rattle.statement_core.specs.Database as stores
use Rattle.session_model.specs.Service.{Session, Service}
use Rattle.session_model.specs.Steps.{Replied, Stopped, stored, store_pending, unless_conflict, conflict, in_session, serve}
use Rattle.session_model.specs.Promises.{IsExact, RefusalsAreExact}

module _ (w : Service) (n : ℕ) (now : ℕ) where
  -- a reply is none of the three
  replied : (stmt : Stmt) (s : Session) (reply : Reply) → w.sessions n ≡ Some s → stmt ≢ stmts.Begin → ((number : ℕ) → stmt ≡ stmts.Commit → conflict w s ≡ Some number → ⊥) → IsExact w n stmt (Replied reply)
  replied stmt s reply is other free = record {
    no_session = (λ e. cc, λ h. cc (is, h.0));
    session_open = (λ e. cc, λ h. absurd (other h.1));
    conflict = λ number. (λ e. cc, λ h. absurd (free number h.2 (subst (λ (x : Session). conflict w x ≡ Some number) (let same : h.0 ≡ s = cc (is, h.1) in same) h.3)));
  }

  of_stored : (s : Session) → w.sessions n ≡ Some s → conflict w s ≡ None → (ops : List Op) (fault : Option StoreFail) → IsExact w n stmts.Commit (stored w n ops now fault).answer
  of_stored s is free ops None = replied stmts.Commit s _ is (λ e. cc) (λ number e h. cc (free, h))
  of_stored s is free ops (Some fail) = replied stmts.Commit s _ is (λ e. cc) (λ number e h. cc (free, h))

  of_pending : (s : Session) → w.sessions n ≡ Some s → conflict w s ≡ None → (ops : List Op) → IsExact w n stmts.Commit (store_pending w n ops now).answer
  of_pending s is free [] = replied stmts.Commit s _ is (λ e. cc) (λ number e h. cc (free, h))
  of_pending s is free (op ∷ ops) = of_stored s is free (op ∷ ops) (commit_fault (stores.tail_of_database w.store) false (op ∷ ops) now)

  of_commit : (s : Session) → w.sessions n ≡ Some s → (c : Option ℕ) → conflict w s ≡ c → IsExact w n stmts.Commit (unless_conflict w n s.pending now c).answer
  of_commit s is None free = of_pending s is free s.pending
  of_commit s is (Some number) first = record {
    no_session = (λ e. cc, λ h. cc (is, h.0));
    session_open = (λ e. cc, λ h. absurd (let e : stmts.Commit ≡ stmts.Begin = h.1 in cc));
    conflict = λ other. (
      λ e. (s, is, refl, (let same : number ≡ other = cc in first ∙ (let f : Some number ≡ Some other = cc in f))),
      λ h.
          let same : h.0 ≡ s = cc (is, h.1) in
          let found : conflict w s ≡ Some other = subst (λ (x : Session). conflict w x ≡ Some other) same h.3 in
          let e : number ≡ other = cc (first, found) in
          let f : Stopped (refusals.Conflict number) ≡ Stopped (refusals.Conflict other) = cc in f,
    );
  }

  unbegun : (stmt : Stmt) → w.sessions n ≡ None → stmt ≢ stmts.Begin → IsExact w n stmt (Stopped refusals.NoSession)
  unbegun stmt is other = record {
    no_session = (λ e. (is, other), λ h. refl);
    session_open = (λ e. cc, λ h. absurd (other h.1));
    conflict = λ number. (λ e. cc, λ h. cc (is, h.1));
  }

  of_session : (o : Option Session) → w.sessions n ≡ o → (stmt : Stmt) → IsExact w n stmt (in_session w n o stmt now).answer
  of_session None is stmts.Begin = record {
    no_session = (λ e. cc, λ h. absurd (h.1 refl));
    session_open = (λ e. cc, λ h. absurd (h.0 is));
    conflict = λ number. (λ e. cc, λ h. cc (is, h.1));
  }
  of_session None is stmt = unbegun stmt is (λ e. cc)
  of_session (Some s) is stmts.Begin = record {
    no_session = (λ e. cc, λ h. absurd (h.1 refl));
    session_open = (λ e. (λ none. cc (is, none), refl), λ h. refl);
    conflict = λ number. (λ e. cc, λ h. absurd (let e : stmts.Begin ≡ stmts.Commit = h.2 in cc));
  }
  of_session (Some s) is stmts.Commit = of_commit s is (conflict w s) refl
  of_session (Some s) is stmt = replied stmt s _ is (λ e. cc) (λ number e h. cc)

pub refusals_are_exact : RefusalsAreExact
unfolding serve
refusals_are_exact w n stmt now = of_session w n now (w.sessions n) refl stmt
