-- A line that is replied `ok` and a number has stored a transaction of that number.
use Rattle.std.proofs.Common.{◌≡◌, inl, inr, ℕ, ◌+◌, ◌<◌, ◌≤◌, ◌^◌, Bool, true, false, List, [], ◌∷◌, ◌++◌, length, Option, Some, None, Result, Ok, Err, refl, sym, ap, subst, ◌∙◌, append_assoc, arith}
use Rattle.std.specs.Prelude.{nat_le, nat_lt, if◌then◌else◌, codes}
use Rattle.std.specs.Fmt.{decimal}
use Rattle.std.specs.Option.{is_some}
use Rattle.std.specs.List.{AllByRecursion}
use Rattle.std.proofs.lemmas.Fmt.{decimal_injective}
use Rattle.std.proofs.lemmas.List.{append_cancel_left, append_cancel_right}
use Rattle.std.proofs.lemmas.List.Elements.{filter_map-append}
use Rattle.byte_grammar.specs.Reading.{IsBytes}
use Rattle.tuple_bytes.specs.declared.item.Item.{Item}
use Rattle.tuple_bytes.specs.declared.item.Item.TheVariants as items
use Rattle.tuple_bytes.specs.declared.item.Txn.{Txn}
use Rattle.tuple_bytes.specs.declared.op.Op.{Op}
use Rattle.tuple_bytes.specs.Limits.{max_moment}
use Rattle.history_model.specs.History.{History, history, txns, txn_in}
use Rattle.store_engine.specs.Refusals.{commit_fault}
use Rattle.store_engine.specs.Leaving.{Takes}
use Rattle.stmt_text.specs.declared.error.ParseFail.{ParseFail}
use Rattle.stmt_text.specs.declared.event.Event.TheVariants as events
use Rattle.stmt_text.specs.declared.stmt.LineAlgorithm.{LineAlgorithm}
use Rattle.stmt_text.specs.declared.stmt.Stmt.{Stmt}
use Rattle.stmt_text.specs.declared.stmt.Stmt.TheVariants as stmts
use Rattle.stmt_text.specs.declared.line.Line.{Line}
use Rattle.stmt_text.specs.declared.line.Line.TheVariants as lines
use Rattle.stmt_text.specs.Fits.{FitsParts}
use Rattle.statement_core.specs.declared.reply.Reply.TheVariants as replies
use Rattle.statement_core.specs.Replies.{reply_text}
use Rattle.statement_core.specs.Database as statements
use Rattle.statement_core.proofs.Promising.{none_more}
use Rattle.session_model.specs.Steps as session_steps
use Rattle.session_model.specs.Steps.{Answer, Replied, reply_of}
use Rattle.session_model.proofs.Promising.{steps_keep_promises}
use Rattle.session_model.proofs.Storing.{StoresOrNot, stores_or_not}
use Rattle.store_world.specs.Found.{Found}
use Rattle.store_world.specs.World as worlds
use Rattle.store_world.specs.World.{old_under}
use Rattle.store_world.specs.Steps as world_steps
use Rattle.store_world.proofs.Acknowledging.{promised}
use Rattle.store_world.proofs.Texts.{SaysOk, says_ok, reply_ok, refusal_no, notarized_no, turned_no, validated_no, audited_no, analysed_no}
use Rattle.store_world.specs.Steps.{why_none, on_tables, notarized, validated, has_more, algorithm_of}
use Rattle.txn_journal.specs.Create.{is_free}
use Rattle.timeline_model.specs.Scene.{Scene, Crash, entered_anew, nothing_yet, store_in, world_with, world_of, held}
use Rattle.store_world.specs.LineCalls.{notary_calls, items_added}
use Rattle.timeline_model.specs.Lines.{Act, Next, quiet, says, refuses, over_world, over_store, header_at, makes, brings, act}
use Rattle.timeline_model.specs.Timeline.{Event, calls_in, stopped, crashed, crashed_behind, under, without_crash, act_on, name_of, step, after, IsReading, IsDrillLine, FitsReading, MayCome}
use Rattle.timeline_model.specs.Sound.{stored_by, stores, HasAlso}
use Rattle.timeline_model.specs.Acknowledged.{IsAcknowledged, HasTxn, IsStoredAs, AcknowledgedStaysStored}
use Rattle.store_world.proofs.LineKinds.{GoesToTables, goes_to_tables}
use Rattle.timeline_model.proofs.Doings.{StoreIs, store_is}
use Rattle.timeline_model.proofs.Statements.{new_txn, with_begun}
use Rattle.timeline_model.proofs.Events.{fit_after, nothing_fit}
use Rattle.timeline_model.proofs.StayBytes.{still_fit}
use Rattle.timeline_model.proofs.Sessions.{AreFit, IsFit, asked_fit}
use Rattle.timeline_model.proofs.Spellings.{IsFitOp}
use Rattle.timeline_model.proofs.Fitting.{few, takes_txn}
use Rattle.timeline_model.proofs.Sound.{stored_held, one_stored, stores_whole}
use Rattle.timeline_model.proofs.SoundLines.{stored_without_crash, event_good}

-- ---- texts

abbrev ok_text : ℕ → List ℕ
ok_text number = codes "ok " ++ decimal number ++ 10 ∷ []

no_refusal : (t : Scene) (name : List ℕ) → SaysOk (refuses t name).text → ⊥
no_refusal t name ok = (let first = ok.first in omega (arith, first))

-- ---- of a reply

committed_text : (number : ℕ) → reply_text (replies.Committed number) ≡ ok_text number
unfolding reply_text
committed_text number = refl

-- ---- what was stored

-- a transaction is stored behind all others, and its number is told
pub record Acknowledges (more : List Item) (t : Scene) (next : Next) : Type 0 where
  pub txn : Txn
  pub one : more ≡ items.Txn txn ∷ []
  pub before : History
  pub held_before : held t ≡ Some before
  pub held_now : held next.scene ≡ Some (history before.header (before.items ++ items.Txn txn ∷ []))
  pub counted : txn.number ≡ length (txns before.items) + 1
  pub few_yet : txn.number < 2 ^ 64
  pub text : next.text ≡ ok_text txn.number

abbrev pub IfOk : List Item → Scene → Next → Type 0
IfOk more t next = SaysOk next.text → Acknowledges more t next

refusal_not : (more : List Item) (t was : Scene) (name : List ℕ) → IfOk more was (refuses t name)
refusal_not more t was name ok = absurd (no_refusal t name ok)

module _ (i : ℕ) (t : Scene) (line : Line) (found : Found) (store : statements.Database) (is : store_in i t.bytes ≡ Some store)
    (bytes_before : IsBytes t.bytes) (no_calls : notary_calls (world_with t i (Some store)) line t.clock found ≡ []) where
  abbrev w : worlds.World
  w = world_with t i (Some store)

  abbrev next : session_steps.Served
  next = session_steps.serve (with_begun w store) line t.clock

  facts : StoreIs i t.bytes store
  facts = store_is i t.bytes store is

  module _ (s : world_steps.Step) (s_is : s ≡ world_steps.after_statement w (session_steps.serve (with_begun w store) line t.clock)) where
    store_of_step : s.world.store ≡ Some next.world.store
    store_of_step = ap (λ (x : world_steps.Step). x.world.store) s_is

    text_of_step : s.text ≡ reply_text (reply_of next.answer)
    text_of_step = ap (λ (x : world_steps.Step). x.text) s_is

    -- a transaction more was promised
    not_same : next.world.store ≡ store → SaysOk s.text → ⊥
    not_same same ok = by (reply_ok (reply_of next.answer) (subst SaysOk text_of_step ok))
      where
        by : (number : ℕ) × (reply_of next.answer ≡ replies.Committed number) → ⊥
        by (number, reply) =
            let promise = promised store next.world.store next.answer number (steps_keep_promises (with_begun w store) line t.clock).store reply in
            none_more (txns store.items) promise.txn (sym (ap (λ (x : statements.Database). txns x.items) same) ∙ promise.behind)

    module _ (ops : List Op) (some : 1 ≤ length ops) (fit : AllByRecursion IsFitOp ops) (free : commit_fault (statements.tail_of_database store) false ops t.clock ≡ None)
        (stored_is : next.world.store ≡ statements.with_txn store (new_txn store ops t.clock)) (answer : next.answer ≡ Replied (replies.Committed (new_txn store ops t.clock).number)) where
      abbrev txn : Txn
      txn = new_txn store ops t.clock

      store_same : s.world.store ≡ Some (statements.with_txn store (new_txn store ops t.clock))
      store_same = store_of_step ∙ ap (λ (x : statements.Database). Some x) stored_is

      small : txn.number < 2 ^ 32
      small = few i t store is bytes_before ops some fit free

      in_file : Takes t.bytes (items.Txn txn)
      in_file = takes_txn i t store is bytes_before ops some fit free

      acknowledges : Acknowledges (items_added (Some store) s.world.store) t (over_world t w line found s).next
      acknowledges = record {
        txn = txn;
        one = one_stored i t line found store is bytes_before no_calls s (items.Txn txn) in_file store_same;
        before = history store.header store.items;
        held_before = stored_held store.header store.items t (record { header_is = facts.header; items_are = facts.items; format = facts.format });
        held_now = stored_held store.header (store.items ++ items.Txn txn ∷ []) (over_world t w line found s).next.scene
            (stores_whole i t line found store is bytes_before no_calls s (items.Txn txn) in_file store_same);
        counted = refl;
        few_yet = (let lt = small in omega (arith, lt));
        text = text_of_step ∙ ap (λ (x : Answer). reply_text (reply_of x)) answer ∙ committed_text txn.number;
      }

    statement_acks : FitsParts line → AreFit t.sessions → IfOk (items_added (Some store) s.world.store) t (over_world t w line found s).next
    statement_acks fits begun ok = by (stores_or_not (with_begun w store) line t.clock)
      where
        by : StoresOrNot (with_begun w store) line t.clock (session_steps.serve (with_begun w store) line t.clock) → Acknowledges (items_added (Some store) s.world.store) t (over_world t w line found s).next
        by (inl same) = absurd (not_same same ok)
        by (inr one) = acknowledges one.ops one.some (asked_fit (with_begun w store) line one.ops one.asked fits begun) one.free one.store one.answer

tables_acks : (i : ℕ) (t : Scene) (line : Line) → FitsParts line → (found : Found) → IsFit t → (o : Option statements.Database) → store_in i t.bytes ≡ o
    → (s : world_steps.Step) → s ≡ on_tables (world_with t i o) o line t.clock → notary_calls (world_with t i o) line t.clock found ≡ [] → IfOk (items_added o s.world.store) t (over_world t (world_with t i o) line found s).next
tables_acks i t line parts found fits (Some store) is s s_is no_calls ok = statement_acks i t line found store is fits.bytes no_calls s s_is parts fits.sessions ok
tables_acks i t line parts found fits None is s s_is no_calls ok =
    absurd (refusal_no (world_with t i None) (why_none (is_some (old_under i t.bytes))) (subst SaysOk (ap (λ (x : world_steps.Step). x.text) s_is) ok))

over_tables : (t : Scene) (o : Option ℕ) (line : Line) → FitsParts line → (found : Found) → IsFit t → GoesToTables line → IfOk (stored_by o t (Ok line) found) t (over_store t o line found).next
unfolding world_of
over_tables t None line parts found fits is = refusal_not [] t t (codes "NotAStore")
over_tables t (Some i) line parts found fits is = tables_acks i t line parts found fits (store_in i t.bytes) refl
    (world_steps.step (world_of t i) line t.clock found) (is.steps (world_of t i) t.clock found) (is.calls (world_of t i) t.clock found)

-- ---- other lines say something else

over_notarize : (t : Scene) (o : Option ℕ) (found : Found) → SaysOk (over_store t o (lines.Plain stmts.Notarize) found).next.text → ⊥
unfolding world_steps.step
over_notarize t None found ok = no_refusal t (codes "NotAStore") ok
over_notarize t (Some i) found ok = notarized_no (world_of t i) (world_of t i).store t.clock found.heard found.refusal ok

over_policy : (t : Scene) (k algs : ℕ) (o : Option ℕ) (found : Found) → SaysOk (over_store t o (lines.Plain (stmts.Policy k algs)) found).next.text → ⊥
unfolding world_steps.step
over_policy t k algs None found ok = no_refusal t (codes "NotAStore") ok
over_policy t k algs (Some i) found ok = turned_no (world_of t i) (world_of t i).store found.heard k algs ok

over_validate : (t : Scene) (o : Option ℕ) (found : Found) → SaysOk (over_store t o (lines.Plain stmts.Validate) found).next.text → ⊥
unfolding world_steps.step
over_validate t None found ok = no_refusal t (codes "NotAStore") ok
over_validate t (Some i) found ok = validated_no (world_of t i) t.clock found.verdict found.refusal ok

over_audit : (t : Scene) (o : Option ℕ) (found : Found) → SaysOk (over_store t o (lines.Plain stmts.Audit) found).next.text → ⊥
unfolding world_steps.step
over_audit t None found ok = no_refusal t (codes "NotAStore") ok
over_audit t (Some i) found ok = audited_no (has_more (world_of t i)) (world_of t i) t.clock found.verdict found.refusal ok

over_analyse : (t : Scene) (algorithm : LineAlgorithm) (era o : Option ℕ) (found : Found) → SaysOk (over_store t o (lines.Plain (stmts.Analyse algorithm era)) found).next.text → ⊥
unfolding world_steps.step
over_analyse t algorithm era None found ok = no_refusal t (codes "NotAStore") ok
over_analyse t algorithm era (Some i) found ok = analysed_no (world_of t i) (algorithm_of algorithm) found.analysis found.body ok

says_only_ok : (t : Scene) → SaysOk (says t (codes "ok")).text → ⊥
says_only_ok t ok = (let third = ok.third in omega (arith, third))

inits_not : (t : Scene) (id width k algs : ℕ) → SaysOk (brings t (events.Init id width k algs)).next.text → ⊥
inits_not t id width k algs = by (nat_lt max_moment t.clock) (is_free t.bytes)
  where
    by : (late free : Bool) → SaysOk (if late then quiet (refuses (entered_anew (record t { id = Some id })) (codes "TooLate")) else if free then makes (entered_anew (record t { id = Some id })) (header_at id t.clock width k algs) else quiet (refuses (entered_anew (record t { id = Some id })) (codes "AlreadyThere"))).next.text → ⊥
    by true free ok = (let first = ok.first in omega (arith, first))
    by false true ok = (let first = ok.first in omega (arith, first))
    by false false ok = (let first = ok.first in omega (arith, first))

changed_not : (b : Bool) (t later : Scene) → SaysOk (if b then says later (codes "ok") else refuses t (codes "NoPlace")).text → ⊥
changed_not true t later ok = says_only_ok later ok
changed_not false t later ok = no_refusal t (codes "NoPlace") ok

-- ---- each line

stmt_acks : (t : Scene) (stmt : Stmt) (found : Found) → IsDrillLine (lines.Plain stmt) → FitsParts (lines.Plain stmt) → IsFit t → IfOk (stored_by t.id t (Ok (lines.Plain stmt)) found) t (act t (lines.Plain stmt) found).next
unfolding act world_steps.step notary_calls
stmt_acks t stmts.Notarize found is parts fits ok = absurd (over_notarize t t.id found ok)
stmt_acks t (stmts.Policy k algs) found is parts fits ok = absurd (over_policy t k algs t.id found ok)
stmt_acks t stmts.Validate found is parts fits ok = absurd (over_validate t t.id found ok)
stmt_acks t stmts.Audit found is parts fits ok = absurd (over_audit t t.id found ok)
stmt_acks t (stmts.Now moment) found is parts fits ok = absurd (says_only_ok t ok)
stmt_acks t stmts.Begin found is parts fits ok = absurd is
stmt_acks t stmts.Commit found is parts fits ok = absurd is
stmt_acks t stmts.Abort found is parts fits ok = absurd is
stmt_acks t (stmts.Analyse algorithm era) found is parts fits ok = absurd (over_analyse t algorithm era t.id found ok)
stmt_acks t stmt found is parts fits ok = over_tables t t.id (lines.Plain stmt) parts found fits (goes_to_tables (lines.Plain stmt) tt) ok

line_acks : (t : Scene) (line : Line) (found : Found) → IsDrillLine line → FitsParts line → IsFit t → IfOk (stored_by t.id t (Ok line) found) t (act t line found).next
unfolding act world_steps.step notary_calls
line_acks t (lines.Plain stmt) found is parts fits ok = stmt_acks t stmt found is parts fits ok
line_acks t (lines.Drill (events.Init id width k algs)) found is parts fits ok = absurd (inits_not t id width k algs ok)
line_acks t (lines.Drill (events.Crash calls choice)) found is parts fits ok = absurd (says_only_ok t ok)
line_acks t (lines.Drill (events.Alter place piece)) found is parts fits ok = absurd (changed_not (nat_le (place + length piece) (length t.bytes)) t _ ok)
line_acks t (lines.Drill (events.Cut n)) found is parts fits ok = absurd (changed_not (nat_le n (length t.bytes)) t _ ok)
line_acks t lines.Blank found is parts fits ok = absurd is
line_acks t (lines.InSession session stmt) found is parts fits ok = over_tables t t.id (lines.InSession session stmt) parts found fits (goes_to_tables (lines.InSession session stmt) tt) ok

reading_acks : (t : Scene) (l : Result Line ParseFail) (found : Found) → IsReading l → FitsReading l → IsFit t → IfOk (stored_by t.id t l found) t (act_on t l found).next
reading_acks t (Ok l) found is parts fits = line_acks t l found is parts fits
reading_acks t (Err fail) found is parts fits = refusal_not (stored_by t.id t (Err fail) found) t t (name_of fail)

-- ---- each event

-- one that is stopped says something else
under_acks : (more : List Item) (t : Scene) (a : Act) (crash : Option Crash) → IfOk more t a.next → IfOk more t (under crash t a)
under_acks more t a None acks = acks
under_acks more t a (Some crash) acks = by (nat_le (calls_in a) crash.after)
  where
    by : (b : Bool) → IfOk more t (if b then crashed_behind a.next else crashed (stopped t crash a))
    by true ok = (let said = acks ok in record { txn = said.txn; one = said.one; before = said.before; held_before = said.held_before; held_now = said.held_now; counted = said.counted; few_yet = said.few_yet; text = said.text })
    by false ok = absurd (let first = ok.first in omega (arith, first))

event_acks : (t : Scene) (e : Event) → IsFit t → MayCome t e → IfOk (stores t e) t (step t e.line e.found)
unfolding step
event_acks t e fits may ok =
    let acks = under_acks (stored_by t.id (without_crash t) e.line e.found) (without_crash t) (act_on (without_crash t) e.line e.found) t.crash (reading_acks (without_crash t) e.line e.found may.line may.fits (still_fit t fits)) ok in
    record { txn = acks.txn; one = sym (stored_without_crash t.id t e.line e.found) ∙ acks.one; before = acks.before; held_before = acks.held_before; held_now = acks.held_now; counted = acks.counted; few_yet = acks.few_yet; text = acks.text }

-- ---- its place, at once and later

txns_both : (xs ys : List Item) → txns (xs ++ ys) ≡ txns xs ++ txns ys
txns_both xs ys = filter_map-append txn_in xs ys

-- more items stand behind it
place_stays : (number : ℕ) (txn : Txn) (h : History) (more : List Item) → HasTxn number txn h → HasTxn number txn (history h.header (h.items ++ more))
place_stays number txn h more has = record {
  before = has.before;
  behind = has.behind ++ txns more;
  parts = txns_both h.items more ∙ ap (λ (ts : List Txn). ts ++ txns more) has.parts ∙ append_assoc has.before (txn ∷ has.behind) (txns more);
  counted = has.counted;
}

module _ (t : Scene) (e : Event) (number : ℕ) where
  -- at once
  pub stored_at : IsFit t → MayCome t e → IsAcknowledged t e number → IsStoredAs t e number (step t e.line e.found).scene
  stored_at fits may told =
      let acks = event_acks t e fits may (subst SaysOk (sym told.text) (says_ok (decimal number))) in
      let same : ok_text acks.txn.number ≡ ok_text number = sym acks.text ∙ told.text in
      let digits : decimal acks.txn.number ≡ decimal number = append_cancel_left (codes "ok ") (decimal acks.txn.number) (decimal number) (append_cancel_right (codes "ok " ++ decimal acks.txn.number) (codes "ok " ++ decimal number) (10 ∷ []) same) in
      let is : acks.txn.number ≡ number = decimal_injective acks.txn.number number acks.few_yet told.wide digits in
      record {
        txn = acks.txn;
        stored = acks.one;
        numbered = is;
        history = history acks.before.header (acks.before.items ++ items.Txn acks.txn ∷ []);
        held_is = acks.held_now;
        place = record { before = txns acks.before.items; behind = []; parts = txns_both acks.before.items (items.Txn acks.txn ∷ []); counted = sym is ∙ acks.counted };
      }

  -- and at a later event
  pub stored_still : (was is : Scene) (more : List Item) → ((h : History) → held was ≡ Some h → HasAlso h more (held is)) → IsStoredAs t e number was → IsStoredAs t e number is
  stored_still was is more extends known = by (extends known.history known.held_is)
    where
      by : HasAlso known.history more (held is) → IsStoredAs t e number is
      by (inl same) = record { txn = known.txn; stored = known.stored; numbered = known.numbered; history = known.history; held_is = same; place = known.place }
      by (inr longer) = record {
        txn = known.txn;
        stored = known.stored;
        numbered = known.numbered;
        history = history known.history.header (known.history.items ++ more);
        held_is = longer;
        place = place_stays number known.txn known.history more known.place;
      }

pub stays_stored : AcknowledgedStaysStored
unfolding after
stays_stored limits [] e es number is inside told = stored_at (after (nothing_yet limits) es) e number (fit_after (nothing_yet limits) es (nothing_fit limits) is.0) is.1 told
stays_stored limits (last ∷ later) e es number is inside told =
    stored_still (after (nothing_yet limits) es) e number (after (nothing_yet limits) (later ++ e ∷ es)) (after (nothing_yet limits) (last ∷ (later ++ e ∷ es))) (stores (after (nothing_yet limits) (later ++ e ∷ es)) last)
    (event_good (after (nothing_yet limits) (later ++ e ∷ es)) last (fit_after (nothing_yet limits) (later ++ e ∷ es) (nothing_fit limits) is.0) is.1 inside.1).extends
    (stays_stored limits later e es number is.0 inside.0 told)
