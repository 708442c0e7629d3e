-- What a reply acknowledges is stored, and only items more are stored.
use Rattle.std.proofs.Common.{◌≡◌, ◌∙◌, ℕ, Bool, List, [], ◌∷◌, ◌++◌, Option, Some, None, Result, Ok, Err, refl, sym, ap, subst}
use Rattle.std.specs.Prelude.{codes}
use Rattle.std.specs.Fmt.{decimal}
use Rattle.std.specs.Option.{is_some}
use Rattle.std.proofs.lemmas.List.{append_cancel_left, append_cancel_right}
use Rattle.history_model.specs.History.{txns}
use Rattle.notary_link.specs.declared.mark.Mark.{Mark}
use Rattle.stmt_text.specs.declared.stmt.LineAlgorithm.{LineAlgorithm}
use Rattle.stmt_text.specs.declared.stmt.Stmt.TheVariants as stmts
use Rattle.stmt_text.specs.declared.line.Line.{Line}
use Rattle.stmt_text.specs.declared.line.Line.TheVariants as lines
use Rattle.statement_core.specs.declared.reply.Reply.{Reply}
use Rattle.statement_core.specs.declared.reply.Reply.TheVariants as replies
use Rattle.statement_core.specs.Replies.{reply_text}
use Rattle.statement_core.specs.Promises.{HasOneMore, IsPromised}
use Rattle.statement_core.specs.Database as statements
use Rattle.session_model.specs.Service as sessions
use Rattle.session_model.specs.Steps as session_steps
use Rattle.session_model.specs.Steps.{Answer, Replied, Stopped, reply_of}
use Rattle.session_model.specs.Promises as session_promises
use Rattle.session_model.proofs.Promising.{steps_keep_promises}
use Rattle.validator.specs.declared.verdict.Verdict.{Verdict}
use Rattle.validator.specs.declared.fail.AuditFail.{AuditFail}
use Rattle.validator.specs.Verdicts.{mark_of}
use Rattle.validator.specs.Texts.{verdict_text}
use Rattle.store_world.specs.World.{World}
use Rattle.store_world.specs.Found.{Found}
use Rattle.validator.specs.Notarizing.{Heard}
use Rattle.store_world.specs.Steps.{Step, step, on_tables, intent_in, notarized, unless, carried_out, turn_in, turns_world, turned, validated, has_more, piece_audited, analysed, algorithm_of, marked, reached, why_none}
use Rattle.store_world.specs.Acknowledged.{HasTxn, ok_text}
use Rattle.store_world.specs.Appending.{IsStored, Extends, OnlyAppends, StepsAcknowledge, StepsOnlyAppend}
use Rattle.store_world.proofs.Texts.{SaysOk, says_ok, reply_ok, refusal_no, notarized_no, turned_no, validated_no, audited_no, analysed_no}
use Rattle.store_world.proofs.Adding.{step_adds, extends_same, added_extends, reached_extends, item_extends}
use Rattle.store_world.proofs.Validating.{with_audit}
use Rattle.store_world.proofs.Analysing.{analysed_stays}

-- a line is a notarization, a policy, a validation, a piece of an audit or an analysis, or goes to the tables
pub by_line : (P : Line → Step → Type 0) (w : World) (line : Line) (now : ℕ) (found : Found)
    → ((line : Line) → P line (on_tables w w.store line now)) → P (lines.Plain stmts.Notarize) (notarized w w.store now found.heard found.refusal)
    → ((k algs : ℕ) → P (lines.Plain (stmts.Policy k algs)) (turned w w.store found.heard k algs)) → P (lines.Plain stmts.Validate) (validated w now found.verdict found.refusal)
    → P (lines.Plain stmts.Audit) (piece_audited (has_more w) w now found.verdict found.refusal)
    → ((algorithm : LineAlgorithm) (era : Option ℕ) → P (lines.Plain (stmts.Analyse algorithm era)) (analysed w (algorithm_of algorithm) found.analysis found.body)) → P line (step w line now found)
unfolding step
by_line P w (lines.Plain stmts.Notarize) now found tables notarizes turns validates audits analyses = notarizes
by_line P w (lines.Plain (stmts.Policy k algs)) now found tables notarizes turns validates audits analyses = turns k algs
by_line P w (lines.Plain stmts.Validate) now found tables notarizes turns validates audits analyses = validates
by_line P w (lines.Plain stmts.Audit) now found tables notarizes turns validates audits analyses = audits
by_line P w (lines.Plain (stmts.Analyse algorithm era)) now found tables notarizes turns validates audits analyses = analyses algorithm era
by_line P w line now found tables notarizes turns validates audits analyses = tables line

-- ---- only items more are stored

pub appends_none : (o : Option statements.Database) → OnlyAppends o o
appends_none None = tt
appends_none (Some w) = extends_same w

module _ (w : World) where
  -- this step appends
  abbrev Appends : Step → Type 0
  Appends s = OnlyAppends w.store s.world.store

  none_stored : (s : Step) → s.world.store ≡ w.store → Appends s
  none_stored s is = subst (λ (o : Option statements.Database). OnlyAppends w.store o) (sym is) (appends_none w.store)

  pub some_stored : (store new : statements.Database) → Some store ≡ w.store → Extends store new → OnlyAppends w.store (Some new)
  some_stored store new is more = subst (λ (o : Option statements.Database). OnlyAppends o (Some new)) is more

  pub tables_append : (o : Option statements.Database) → o ≡ w.store → (line : Line) (now : ℕ) → Appends (on_tables w o line now)
  tables_append None is line now = appends_none w.store
  tables_append (Some store) is line now =
      let before : sessions.Service = record { store = store; sessions = w.sessions } in
      let new = (session_steps.serve before line now).world.store in
      some_stored store new is (added_extends store new (step_adds before line now))

  unless_appends : (fault : Option AuditFail) (new : World) (s : Step) → OnlyAppends w.store new.store → Appends s → Appends (unless fault new s)
  unless_appends (Some fail) new s more is = more
  unless_appends None new s more is = is

  notarized_appends : (o : Option statements.Database) → o ≡ w.store → (now : ℕ) (heard : Heard) (refusal : Option AuditFail) → Appends (notarized w o now heard refusal)
  notarized_appends None is now heard refusal = appends_none w.store
  notarized_appends (Some store) is now heard refusal =
      let i = intent_in store now heard in
      let more = some_stored store (reached i.frontier store) is (reached_extends i.frontier store) in
      unless_appends i.fault w (carried_out w store i refusal) (appends_none w.store) (unless_appends refusal _ _ more more)

  turned_appends : (o : Option statements.Database) → o ≡ w.store → (heard : Heard) (k algs : ℕ) → Appends (turned w o heard k algs)
  turned_appends None is heard k algs = appends_none w.store
  turned_appends (Some store) is heard k algs =
      let t = turn_in store heard k algs in
      unless_appends t.fault w (turns_world w store t) (appends_none w.store) (some_stored store (statements.with_item store t.item) is (item_extends store t.item))

  marked_appends : (m : Option Mark) (refusal : Option AuditFail) (text : List ℕ) → Appends (marked w m refusal text)
  marked_appends None refusal text = appends_none w.store
  marked_appends (Some mark) refusal text = unless_appends refusal w _ (appends_none w.store) (appends_none w.store)

  validated_appends : (now : ℕ) (found : Result Verdict AuditFail) (refusal : Option AuditFail) → Appends (validated w now found refusal)
  validated_appends now (Ok verdict) refusal = marked_appends (mark_of verdict now) refusal (verdict_text verdict)
  validated_appends now (Err fail) refusal = appends_none w.store

  audited_appends : (b : Bool) (now : ℕ) (found : Result Verdict AuditFail) (refusal : Option AuditFail) → Appends (piece_audited b w now found refusal)
  audited_appends b now found refusal = none_stored (piece_audited b w now found refusal) (with_audit b w now found refusal).same.store

pub steps_append : StepsOnlyAppend
steps_append w line now found = by_line (λ line s. Appends w s) w line now found (λ line. tables_append w w.store refl line now) (notarized_appends w w.store refl now found.heard found.refusal)
    (λ k algs. turned_appends w w.store refl found.heard k algs) (validated_appends w now found.verdict found.refusal)
    (audited_appends w (has_more w) now found.verdict found.refusal)
    (λ algorithm era. none_stored w (analysed w (algorithm_of algorithm) found.analysis found.body) (ap (λ (x : World). x.store) (analysed_stays w (algorithm_of algorithm) found.analysis found.body)))

-- ---- what is acknowledged is stored

-- a step that is replied so
abbrev Acknowledges : List ℕ → Step → Type 0
Acknowledges digits s = s.text ≡ ok_text digits → IsStored digits s.world.store

the_digits : (number : ℕ) (digits : List ℕ) → reply_text (replies.Committed number) ≡ ok_text digits → decimal number ≡ digits
unfolding reply_text
the_digits number digits is = append_cancel_right (decimal number) digits (10 ∷ []) (append_cancel_left (codes "ok ") (decimal number ++ 10 ∷ []) (digits ++ 10 ∷ []) is)

one_more : (w new : statements.Database) (number : ℕ) (digits : List ℕ) → HasOneMore w new number → decimal number ≡ digits → HasTxn digits new.items
one_more w new number digits m is = record {
  txn = m.txn;
  number = ap decimal m.numbered ∙ is;
  before = txns w.items;
  behind = [];
  among = m.behind;
  place = m.numbered ∙ m.next;
}

-- an answer of that number was a reply
pub promised : (w new : statements.Database) (answer : Answer) (number : ℕ) → session_promises.IsPromised w answer new → reply_of answer ≡ replies.Committed number → HasOneMore w new number
promised w new (Replied reply) number is same = subst (λ (r : Reply). IsPromised w r new) same is
promised w new (Stopped refusal) number is same = absurd cc

statement_acknowledges : (w : sessions.Service) (line : Line) (now : ℕ) (digits : List ℕ) → reply_text (reply_of (session_steps.serve w line now).answer) ≡ ok_text digits → HasTxn digits (session_steps.serve w line now).world.store.items
statement_acknowledges w line now digits text =
    let s = session_steps.serve w line now in
    let ok = reply_ok (reply_of s.answer) (subst SaysOk (sym text) (says_ok digits)) in
    one_more w.store s.world.store ok.0 digits (promised w.store s.world.store s.answer ok.0 (steps_keep_promises w line now).store ok.1) (the_digits ok.0 digits (sym (ap reply_text ok.1) ∙ text))

module _ (w : World) (digits : List ℕ) where
  says_else : (s : Step) → (SaysOk s.text → ⊥) → Acknowledges digits s
  says_else s never is = absurd (never (subst SaysOk (sym is) (says_ok digits)))

  pub tables_acknowledge : (o : Option statements.Database) (line : Line) (now : ℕ) → Acknowledges digits (on_tables w o line now)
  tables_acknowledge None line now = says_else (on_tables w None line now) (refusal_no w (why_none (is_some w.old_history)))
  tables_acknowledge (Some store) line now = statement_acknowledges (record { store = store; sessions = w.sessions }) line now digits

pub steps_acknowledge : StepsAcknowledge
steps_acknowledge w line now found digits = by_line (λ line s. Acknowledges digits s) w line now found (λ line. tables_acknowledge w digits w.store line now)
    (says_else w digits (notarized w w.store now found.heard found.refusal) (notarized_no w w.store now found.heard found.refusal))
    (λ k algs. says_else w digits (turned w w.store found.heard k algs) (turned_no w w.store found.heard k algs)) (says_else w digits (validated w now found.verdict found.refusal) (validated_no w now found.verdict found.refusal))
    (says_else w digits (piece_audited (has_more w) w now found.verdict found.refusal) (audited_no (has_more w) w now found.verdict found.refusal))
    (λ algorithm era. says_else w digits (analysed w (algorithm_of algorithm) found.analysis found.body) (analysed_no w (algorithm_of algorithm) found.analysis found.body))
