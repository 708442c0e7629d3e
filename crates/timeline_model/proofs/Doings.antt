-- Each event of a timeline files, marks, or leaves what is filed and marked.
use Rattle.std.proofs.Common.{◌≡◌, ◌⊎◌, inl, inr, ℕ, ◌+◌, ◌-◌, ◌<◌, ◌≤◌, ◌==◌, Bool, true, false, List, [], ◌∷◌, ◌++◌, length, take, Option, Some, None, Result, Ok, Err, refl, sym, ap, subst, ◌∙◌, arith}
use Rattle.std.specs.Prelude.{nat_le, nat_lt, if◌then◌else◌, codes}
use Rattle.std.specs.Bool.{OnFalse}
use Rattle.std.specs.Option.{option_map}
use Rattle.std.proofs.lemmas.Bool.{cases_eq, eq-eqb, eqb-true, ne_eqb}
use Rattle.std.proofs.lemmas.Option.{same_Some}
use Rattle.std.proofs.lemmas.Bool.Decides.{nat_tests}
use Rattle.byte_grammar.specs.Reading.{IsBytes}
use Rattle.tuple_bytes.specs.declared.header.Header.{Header}
use Rattle.tuple_bytes.specs.declared.item.Item.{Item}
use Rattle.history_model.specs.declared.format.Format.{Format}
use Rattle.history_model.specs.declared.format.Format.TheVariants.{One, Two}
use Rattle.history_model.specs.declared.stored.Stored.{Stored}
use Rattle.history_model.specs.Stored.{stored, format_of}
use Rattle.history_model.specs.History.{History, history}
use Rattle.history_model.proofs.Stores.{stored_history}
use Rattle.disk_words.specs.Disk.{written}
use Rattle.tuple_bytes.specs.Limits.{max_moment}
use Rattle.digest_model.specs.Laws.{HasSpelling}
use Rattle.digest_model.proofs.Spelled.{has_spelling}
use Rattle.notary_link.specs.declared.mark.Mark.{Mark}
use Rattle.notary_link.specs.Notary.{Call, Lists}
use Rattle.stmt_text.specs.declared.event.Event.{Event}
use Rattle.stmt_text.specs.declared.event.Event.TheVariants as events
use Rattle.stmt_text.specs.declared.stmt.LineAlgorithm.{LineAlgorithm}
use Rattle.stmt_text.specs.declared.stmt.Stmt.TheVariants as stmts
use Rattle.stmt_text.specs.declared.line.Line.{Line}
use Rattle.stmt_text.specs.declared.line.Line.TheVariants as lines
use Rattle.statement_core.specs.Database as statements
use Rattle.audit_model.specs.Altered.{history_in, history_with, under_id}
use Rattle.validator.specs.declared.verdict.Verdict.{Verdict}
use Rattle.validator.specs.declared.fail.AuditFail.{AuditFail}
use Rattle.validator.specs.Notarizing.{Heard}
use Rattle.validator.specs.Verdicts.{IsFoundIn, mark_of}
use Rattle.validator.specs.Texts.{verdict_text, refusal_text}
use Rattle.store_world.specs.Found.{Found}
use Rattle.store_world.specs.World as worlds
use Rattle.store_world.specs.World.{with_audited, with_mark, history_or, is_new, old_under}
use Rattle.store_world.specs.Steps as world_steps
use Rattle.store_world.specs.Steps.{on_tables, unless, turn_in, turns_world, turned, validated, algorithm_of, marked, has_more, audits_on, piece_audited}
use Rattle.store_world.specs.Finding.{FindsVerdict}
use Rattle.store_world.proofs.Analysing.{analysed_stays}
use Rattle.store_world.proofs.LineKinds.{GoesToTables}
use Rattle.txn_journal.specs.Create.{is_free}
use Rattle.timeline_model.specs.Scene.{Scene, Crash, entered_anew, store_under, store_as, store_in, world_with, world_of, batches_of}
use Rattle.store_engine.specs.Appended.{standing}
use Rattle.store_world.specs.LineCalls.{items_added, with_items, appends, end_of_store, notary_calls, validate_calls, audit_calls, noting}
use Rattle.timeline_model.specs.Lines.{Act, quiet, says, refuses, over_world, over_store, header_at, makes, inits, altered, shortened, brings}
use Rattle.timeline_model.specs.Timeline.{with_calls, calls_in, stopped, crashed, crashed_behind, under, MayBeFound}
use Rattle.store_world.proofs.LineItems.{none_added}
use Rattle.timeline_model.proofs.Acts.{Acts, acts_entered, take_none}

-- ---- what leaves the lists

pub same_lists : (id : ℕ) (was is : Scene) → is.lists ≡ was.lists → Acts id was is
same_lists id was is same = inl (record { batches = ap (λ (l : Lists). l.batches id) same; marks = ap (λ (l : Lists). l.marks id) same })

pub unstopped : (t : Scene) (crash : Crash) (a : Act) → a.notary_calls ≡ [] → (stopped t crash a).lists ≡ t.lists
unstopped t crash a none =
    ap (λ (calls : List Call). with_calls (take (crash.after - length a.disk_calls) calls) t.lists) none
    ∙ ap (λ (calls : List Call). with_calls calls t.lists) (take_none (crash.after - length a.disk_calls))

-- ---- a line, stopped or not

-- it acts so, where it leaves bytes
abbrev pub ActsOn : ℕ → Scene → Scene → Type 0
ActsOn id t is = IsBytes is.bytes → Acts id t is

pub record ActsEither (id : ℕ) (t : Scene) (a : Act) : Type 0 where
  pub whole : ActsOn id t a.next.scene
  pub in_part : (crash : Crash) → crash.after < calls_in a → ActsOn id t (stopped t crash a)

pub under_crash : (id : ℕ) (t : Scene) (a : Act) (crash : Option Crash) → ActsEither id t a → ActsOn id t (under crash t a).scene
under_crash id t a None acts = acts.whole
under_crash id t a (Some crash) acts = by (nat_le (calls_in a) crash.after) refl
  where
    by : (b : Bool) → nat_le (calls_in a) crash.after ≡ b → ActsOn id t (if b then crashed_behind a.next else crashed (stopped t crash a)).scene
    by true le = λ bytes. acts_entered id t a.next.scene (acts.whole bytes)
    by false more = acts.in_part crash (grind (arith, nat_tests, more))

-- no call of the notary
pub without_notary : (id : ℕ) (t : Scene) (a : Act) → a.notary_calls ≡ [] → a.next.scene.lists ≡ t.lists → ActsEither id t a
without_notary id t a none same = record {
  whole = λ bytes. same_lists id t a.next.scene same;
  in_part = λ crash early bytes. same_lists id t (stopped t crash a) (unstopped t crash a none);
}

-- ---- spellings

spelled_by : (bytes : List ℕ) (o : Option Header) (s : History) → IsBytes bytes → (stored bytes).header ≡ o → option_map (λ (h : Header). history h (stored bytes).items) o ≡ Some s → HasSpelling s
spelled_by bytes None s fits is held_is = absurd cc
spelled_by bytes (Some h) s fits is held_is =
    let same : history h (stored bytes).items ≡ s = same_Some (history h (stored bytes).items) s held_is in
    subst HasSpelling same (has_spelling (history h (stored bytes).items) (stored_history bytes h fits is))

pub spelled_of : (bytes : List ℕ) (s : History) → IsBytes bytes → history_in (stored bytes) ≡ Some s → HasSpelling s
spelled_of bytes s fits held_is = spelled_by bytes (stored bytes).header s fits refl held_is

-- ---- the world that stands under an id

pub record StoreIs (i : ℕ) (bytes : List ℕ) (store : statements.Database) : Type 0 where
  pub header : (stored bytes).header ≡ Some store.header
  pub items : (stored bytes).items ≡ store.items
  pub end : (stored bytes).end ≡ store.end
  pub own : store.header.id ≡ i
  pub format : format_of bytes ≡ Some Two

store_by : (i : ℕ) (bytes : List ℕ) (o : Option Header) (store : statements.Database) → format_of bytes ≡ Some Two → (stored bytes).header ≡ o → store_under i o (stored bytes) ≡ Some store → StoreIs i bytes store
store_by i bytes None store new is e = absurd cc
store_by i bytes (Some h) store new is e = by (h.id == i) refl e
  where
    by : (b : Bool) → (h.id == i) ≡ b → (if b then Some (record { header = h; items = (stored bytes).items; end = (stored bytes).end }) else None) ≡ Some store → StoreIs i bytes store
    by true own e =
        let same : record { header = h; items = (stored bytes).items; end = (stored bytes).end } ≡ store = same_Some (record { header = h; items = (stored bytes).items; end = (stored bytes).end }) store e in
        record {
          header = is ∙ ap (λ (w : statements.Database). Some w.header) same;
          items = ap (λ (w : statements.Database). w.items) same;
          end = ap (λ (w : statements.Database). w.end) same;
          own = sym (ap (λ (w : statements.Database). w.header.id) same) ∙ eqb-true h.id i own;
          format = new;
        }
    by false other e = absurd cc

pub store_is : (i : ℕ) (bytes : List ℕ) (store : statements.Database) → store_in i bytes ≡ Some store → StoreIs i bytes store
store_is i bytes store e = by (format_of bytes) refl e
  where
    by : (o : Option Format) → format_of bytes ≡ o → store_as o (store_under i (stored bytes).header (stored bytes)) ≡ Some store → StoreIs i bytes store
    by None is e = absurd cc
    by (Some One) is e = absurd cc
    by (Some Two) is e = store_by i bytes (stored bytes).header store is refl e

under_same : (i : ℕ) (header : Option Header) (s : Stored) (old : Option History) → old ≡ None → history_or (store_under i header s) old ≡ under_id i header s
under_same i None s old none = none
under_same i (Some h) s old none = by (h.id == i)
  where
    by : (b : Bool) → history_or (if b then Some (record { header = h; items = s.items; end = s.end }) else None) old ≡ (if b then Some (history h s.items) else None)
    by true = refl
    by false = none

-- its history, or an old one, is what is stored under the id
pub history_same : (i : ℕ) (bytes : List ℕ) → history_or (store_in i bytes) (old_under i bytes) ≡ history_with i (stored bytes)
history_same i bytes = by (is_new (format_of bytes))
  where
    by : (b : Bool) → history_or (if b then store_under i (stored bytes).header (stored bytes) else None) (if b then None else history_with i (stored bytes)) ≡ history_with i (stored bytes)
    by true = under_same i (stored bytes).header (stored bytes) None refl
    by false = refl

-- ---- lines on tables

tables_lists : (w : worlds.World) (o : Option statements.Database) (line : Line) (now : ℕ) → (on_tables w o line now).world.lists ≡ w.lists
tables_lists w None line now = refl
tables_lists w (Some store) line now = refl

pub tables : (id : ℕ) (t : Scene) (o : Option ℕ) (line : Line) (found : Found) → GoesToTables line → ActsEither id t (over_store t o line found)
unfolding world_of
tables id t None line found is = without_notary id t (over_store t None line found) refl refl
tables id t (Some i) line found is = without_notary id t (over_store t (Some i) line found) (is.calls (world_of t i) t.clock found)
    (ap (λ (s : world_steps.Step). s.world.lists) (is.steps (world_of t i) t.clock found) ∙ tables_lists (world_of t i) (store_in i t.bytes) line t.clock)

-- ---- the lines that a drill has besides

init_acts : (id : ℕ) (t was : Scene) (header : Header) → t.lists ≡ was.lists → ActsEither id was (inits t header)
init_acts id t was header same = by (nat_lt max_moment t.clock)
  where
    by_free : (b : Bool) → ActsEither id was (if b then makes t header else quiet (refuses t (codes "AlreadyThere")))
    by_free true = without_notary id was (makes t header) refl same
    by_free false = without_notary id was (quiet (refuses t (codes "AlreadyThere"))) refl same

    by : (b : Bool) → ActsEither id was (if b then quiet (refuses t (codes "TooLate")) else if is_free t.bytes then makes t header else quiet (refuses t (codes "AlreadyThere")))
    by true = without_notary id was (quiet (refuses t (codes "TooLate"))) refl same
    by false = by_free (is_free t.bytes)

alter_acts : (id : ℕ) (t : Scene) (place : ℕ) (bytes : List ℕ) → ActsEither id t (quiet (altered t place bytes))
alter_acts id t place bytes = by (nat_le (place + length bytes) (length t.bytes))
  where
    by : (b : Bool) → ActsEither id t (quiet (if b then says (entered_anew (record t { bytes = written place bytes t.bytes })) (codes "ok") else refuses t (codes "NoPlace")))
    by true = without_notary id t (quiet (says (entered_anew (record t { bytes = written place bytes t.bytes })) (codes "ok"))) refl refl
    by false = without_notary id t (quiet (refuses t (codes "NoPlace"))) refl refl

cut_acts : (id : ℕ) (t : Scene) (n : ℕ) → ActsEither id t (quiet (shortened t n))
cut_acts id t n = by (nat_le n (length t.bytes))
  where
    by : (b : Bool) → ActsEither id t (quiet (if b then says (entered_anew (record t { bytes = take n t.bytes })) (codes "ok") else refuses t (codes "NoPlace")))
    by true = without_notary id t (quiet (says (entered_anew (record t { bytes = take n t.bytes })) (codes "ok"))) refl refl
    by false = without_notary id t (quiet (refuses t (codes "NoPlace"))) refl refl

pub drill_acts : (id : ℕ) (t : Scene) (event : Event) → ActsEither id t (brings t event)
drill_acts id t (events.Init i width k algs) = init_acts id (entered_anew (record t { id = Some i })) t (header_at i t.clock width k algs) refl
drill_acts id t (events.Crash after choice) = without_notary id t (brings t (events.Crash after choice)) refl refl
drill_acts id t (events.Alter place bytes) = alter_acts id t place bytes
drill_acts id t (events.Cut n) = cut_acts id t n

-- ---- a validation, and a piece of an audit

-- the calls of either: one at most
noting_few : (i : ℕ) (m : Option Mark) → length (noting i m) ≤ 1
noting_few i None = omega arith
noting_few i (Some mark) = omega arith

validate_few : (w : worlds.World) (now : ℕ) (r : Result Verdict AuditFail) → length (validate_calls w now r) ≤ 1
validate_few w now (Ok verdict) = noting_few w.id (mark_of verdict now)
validate_few w now (Err fail) = omega arith

audit_few : (b : Bool) (w : worlds.World) (now : ℕ) (r : Result Verdict AuditFail) → length (audit_calls b w now r) ≤ 1
audit_few true w now r = omega arith
audit_few false w now r = validate_few w now r

module _ (id i : ℕ) (t : Scene) (line : Line) (found : Found) where
  -- the bytes stay
  bytes_stay : (o : Option statements.Database) (lists : Lists) (end : ℕ) → with_items end (items_added o o) t.bytes ≡ t.bytes
  bytes_stay o lists end = ap (λ (is : List Item). with_items end is t.bytes) (none_added o)

  -- the line makes one call at most
  module _ (o : Option statements.Database) (is : store_in i t.bytes ≡ o) (few_calls : length (notary_calls (world_with t i o) line t.clock found) ≤ 1) where
    abbrev w : worlds.World
    w = world_with t i o

    -- what a line that judges finds
    abbrev IsFound : Result Verdict AuditFail → Type 0
    IsFound r = IsFoundIn (batches_of t i) (history_or o (old_under i t.bytes)) r

    history_is : history_or o (old_under i t.bytes) ≡ history_with i (stored t.bytes)
    history_is = ap (λ (x : Option statements.Database). history_or x (old_under i t.bytes)) (sym is) ∙ history_same i t.bytes

    marks_here : (verdict : Verdict) (mark : Mark) (after : Scene) → IsFound (Ok verdict) → mark_of verdict t.clock ≡ Some mark → after.bytes ≡ t.bytes → after.clock ≡ t.clock → after.lists ≡ with_mark i mark t.lists → ActsOn id t after
    marks_here verdict mark after may mark_is bytes_same clock_same lists_are bytes = by (cases_eq id i)
      where
        by : (id ≡ i) ⊎ (id ≡ i → ⊥) → Acts id t after
        by (inl own) = inr (inr (record {
          mark = mark;
          verdict = verdict;
          now = t.clock;
          now_is = sym clock_same;
          is_mark = mark_is;
          found =
              let there : IsFoundIn (batches_of t i) (history_with i (stored t.bytes)) (Ok verdict) =
              subst (λ (x : Option History). IsFoundIn (batches_of t i) x (Ok verdict)) history_is may in
              subst (λ (x : ℕ). IsFoundIn (batches_of t x) (history_with x (stored after.bytes)) (Ok verdict)) (sym own)
              (subst (λ (x : List ℕ). IsFoundIn (batches_of t i) (history_with i (stored x)) (Ok verdict)) (sym bytes_same) there);
          spelled = λ s held_is. spelled_of after.bytes s bytes held_is;
          batches = ap (λ (l : Lists). l.batches id) lists_are;
          marks = ap (λ (l : Lists). l.marks id) lists_are ∙ ap (λ (b : Bool). if b then t.lists.marks id ++ mark ∷ [] else t.lists.marks id) (eq-eqb id i own);
        }))
        by (inr other) = inl (record {
          batches = ap (λ (l : Lists). l.batches id) lists_are;
          marks = ap (λ (l : Lists). l.marks id) lists_are ∙ ap (λ (b : Bool). if b then t.lists.marks id ++ mark ∷ [] else t.lists.marks id) (ne_eqb id i other);
        })

    module _ (s : world_steps.Step) (same : s.world.store ≡ o) where
      abbrev with_s : Act
      with_s = over_world t w line found s

      no_disk : length with_s.disk_calls ≡ 0
      no_disk = ap (λ (is : List Item). length (appends (standing (end_of_store o) t.bytes) is)) (ap (items_added o) same ∙ none_added o)

      bytes_same : with_s.next.scene.bytes ≡ t.bytes
      bytes_same = ap (λ (is : List Item). with_items (end_of_store o) is t.bytes) (ap (items_added o) same ∙ none_added o)

      -- stopped before its one call
      early : (crash : Crash) → crash.after < calls_in with_s → (stopped t crash with_s).lists ≡ t.lists
      early crash soon =
          let none : crash.after - length with_s.disk_calls ≡ 0 = omega (arith, soon, no_disk, few_calls) in
          ap (λ (n : ℕ). with_calls (take n with_s.notary_calls) t.lists) none

      left : s.world.lists ≡ t.lists → ActsEither id t with_s
      left lists_same = record {
        whole = λ bytes. same_lists id t with_s.next.scene lists_same;
        in_part = λ crash soon bytes. same_lists id t (stopped t crash with_s) (early crash soon);
      }

      noted : (verdict : Verdict) (mark : Mark) → IsFound (Ok verdict) → mark_of verdict t.clock ≡ Some mark → s.world.lists ≡ with_mark i mark t.lists → ActsEither id t with_s
      noted verdict mark may mark_is lists_are = record {
        whole = λ bytes. marks_here verdict mark with_s.next.scene may mark_is bytes_same refl lists_are bytes;
        in_part = λ crash soon bytes. same_lists id t (stopped t crash with_s) (early crash soon);
      }

    -- what was found is told and marked, whatever the auditor has read then
    validates : (read : ℕ) (r : Result Verdict AuditFail) → IsFound r → ActsEither id t (over_world t w line found (validated (with_audited w read) t.clock r found.refusal))
    validates read (Err fail) may = left (world_steps.refuses (with_audited w read) (refusal_text fail)) refl refl
    validates read (Ok verdict) may = by (mark_of verdict t.clock) refl
      where
        by_room : (mark : Mark) → mark_of verdict t.clock ≡ Some mark → (refusal : Option AuditFail) → ActsEither id t (over_world t w line found (marked (with_audited w read) (Some mark) refusal (verdict_text verdict)))
        by_room mark mark_is None = noted (world_steps.says (worlds.with_lists (with_audited w read) (with_mark i mark t.lists)) (verdict_text verdict)) refl verdict mark may mark_is refl
        by_room mark mark_is (Some fail) = left (world_steps.refuses (with_audited w read) (refusal_text fail)) refl refl

        by : (m : Option Mark) → mark_of verdict t.clock ≡ m → ActsEither id t (over_world t w line found (marked (with_audited w read) m found.refusal (verdict_text verdict)))
        by None mark_is = left (world_steps.says (with_audited w read) (verdict_text verdict)) refl refl
        by (Some mark) mark_is = by_room mark mark_is found.refusal

    -- a piece that goes on finds nothing
    audits : (b : Bool) → OnFalse b (FindsVerdict w t.clock found) → ActsEither id t (over_world t w line found (piece_audited b w t.clock found.verdict found.refusal))
    audits true may = left (audits_on w) refl refl
    audits false may = validates 0 found.verdict may.0

pub validate_acts : (id : ℕ) (t : Scene) (o : Option ℕ) (found : Found) → MayBeFound o t (Ok (lines.Plain stmts.Validate)) found → ActsEither id t (over_store t o (lines.Plain stmts.Validate) found)
unfolding world_of world_steps.step notary_calls
validate_acts id t None found may = without_notary id t (over_store t None (lines.Plain stmts.Validate) found) refl refl
validate_acts id t (Some i) found may =
    validates id i t (lines.Plain stmts.Validate) found (store_in i t.bytes) refl (validate_few (world_with t i (store_in i t.bytes)) t.clock found.verdict) t.audited found.verdict may.0

pub audit_acts : (id : ℕ) (t : Scene) (o : Option ℕ) (found : Found) → MayBeFound o t (Ok (lines.Plain stmts.Audit)) found → ActsEither id t (over_store t o (lines.Plain stmts.Audit) found)
unfolding world_of world_steps.step notary_calls
audit_acts id t None found may = without_notary id t (over_store t None (lines.Plain stmts.Audit) found) refl refl
audit_acts id t (Some i) found may =
    let w = world_with t i (store_in i t.bytes) in
    audits id i t (lines.Plain stmts.Audit) found (store_in i t.bytes) refl (audit_few (has_more w) w t.clock found.verdict) (has_more w) may

-- ---- a policy

policy_lists : (w : worlds.World) (o : Option statements.Database) (heard : Heard) (k algs : ℕ) → (turned w o heard k algs).world.lists ≡ w.lists
policy_lists w None heard k algs = refl
policy_lists w (Some store) heard k algs = by (turn_in store heard k algs).fault
  where
    by : (fault : Option AuditFail) → (unless fault w (turns_world w store (turn_in store heard k algs))).world.lists ≡ w.lists
    by (Some fail) = refl
    by None = refl

pub policy_acts : (id : ℕ) (t : Scene) (k algs : ℕ) (o : Option ℕ) (found : Found) → ActsEither id t (over_store t o (lines.Plain (stmts.Policy k algs)) found)
unfolding world_of world_steps.step notary_calls
policy_acts id t k algs None found = without_notary id t (over_store t None (lines.Plain (stmts.Policy k algs)) found) refl refl
policy_acts id t k algs (Some i) found = without_notary id t (over_store t (Some i) (lines.Plain (stmts.Policy k algs)) found) refl
    (policy_lists (world_of t i) (store_in i t.bytes) found.heard k algs)

-- ---- an analysis

pub analyse_acts : (id : ℕ) (t : Scene) (algorithm : LineAlgorithm) (era o : Option ℕ) (found : Found) → ActsEither id t (over_store t o (lines.Plain (stmts.Analyse algorithm era)) found)
unfolding world_of world_steps.step notary_calls
analyse_acts id t algorithm era None found = without_notary id t (over_store t None (lines.Plain (stmts.Analyse algorithm era)) found) refl refl
analyse_acts id t algorithm era (Some i) found = without_notary id t (over_store t (Some i) (lines.Plain (stmts.Analyse algorithm era)) found) refl
    (ap (λ (w : worlds.World). w.lists) (analysed_stays (world_of t i) (algorithm_of algorithm) found.analysis found.body))
