-- A statement on tables and a line of a session do to the world what they do to the store and its sessions.
use Rattle.std.proofs.Common.{◌≡◌, ◌≢◌, ℕ, Bool, List, ◌++◌, ◌∷◌, [], length, length-append, Option, Some, None, Result, Ok, Err, IsOk, IfErr, inl, inr, refl, sym, ap, subst, ◌∙◌, arith}
use Rattle.std.proofs.lemmas.Bool.{OnTrue_from}
use Rattle.outside_words.specs.Told.{WhereTold}
use Rattle.outside_words.proofs.Told.{told_map, told_same}
use Rattle.disk_words.specs.Disk as disks
use Rattle.disk_model.proofs.Moments.{weaker}
use Rattle.tuple_bytes.specs.declared.header.Header.{Header}
use Rattle.history_model.specs.declared.format.Format.{Format}
use Rattle.history_model.specs.declared.format.Format.TheVariants.{Two}
use Rattle.history_model.specs.Stored.{stored, format_of}
use Rattle.notary_link.specs.Notary as notaries
use Rattle.audit_model.specs.Altered.{history_with}
use Rattle.store_engine.specs.Opened.{Opened}
use Rattle.store_engine.specs.Appended.{standing}
use Rattle.stmt_text.specs.declared.line.Line.{Line}
use Rattle.stmt_text.specs.Kinds.{line_kind}
use Rattle.statement_core.specs.declared.reply.Reply.{Reply}
use Rattle.statement_core.specs.declared.statements.StepFail.{StepFail}
use Rattle.statement_core.specs.declared.statements.StepFail.TheVariants as steps_as
use Rattle.statement_core.specs.Replies.{reply_text, is_refusal}
use Rattle.statement_core.specs.Database as statements
use Rattle.statement_core.specs.Steps as statement_steps
use Rattle.statement_core.specs.Stepping.{MakesFor}
use Rattle.statement_core.specs.Promises as statement_promises
use Rattle.session_model.specs.Service as sessions
use Rattle.session_model.specs.Steps as session_steps
use Rattle.session_model.specs.Steps.{Answer, Replied, Stopped, reply_of}
use Rattle.session_model.specs.Promises as promises
use Rattle.session_model.proofs.Promising.{steps_keep_promises}
use Rattle.session_model.specs.Standing.{Machine, IsStatementLine, StepsIn, StepsTo, of_store, serving}
use Rattle.session_model.specs.Standing as machines
use Rattle.statement_core.specs.declared.reply.Reply.TheVariants as replies
use Rattle.tuple_bytes.specs.declared.item.Item.{Item}
use Rattle.tuple_bytes.specs.declared.item.Item.TheVariants as items
use Rattle.validator.specs.Desk.{desk}
use Rattle.audit_steps.specs.declared.auditing.Auditing.{Auditing}
use Rattle.store_world.specs.Appending.{Extends}
use Rattle.store_world.specs.declared.answered.Answered.{Answered}
use Rattle.store_world.specs.declared.fail.LineFail.{LineFail}
use Rattle.store_world.specs.World.{World, old_in, old_under, StoresOf}
use Rattle.store_world.specs.Standing.{IsIn, StoreIsIn}
use Rattle.store_world.specs.declared.fail.LineFail.TheVariants as fails
use Rattle.store_world.specs.Answers.{replied, fault_of, IsReplied}
use Rattle.store_world.specs.Found.{Found}
use Rattle.store_world.specs.ItemsMore.{items_added, end_of_store}
use Rattle.store_world.specs.LineCalls.{appends, notary_calls}
use Rattle.store_world.specs.CallsMade.{MakesOfDisk, MakesOfNotary, MakesLineCalls}
use Rattle.store_world.specs.Faults.{IsOfStoring, MayEndIn, early_of, audit_goes_on}
use Rattle.store_world.specs.Parts.{alone, StepsBeside}
use Rattle.store_world.specs.Steps.{Step, step, on_tables, after_statement}
use Rattle.store_world.specs.Stepping.{StoresEither, Goes, Steps}
use Rattle.store_world.proofs.Left.{given, beside_by, beside_same, files_still}
use Rattle.store_world.proofs.Adding.{step_adds, added_extends}
use Rattle.store_world.proofs.Kept.{audit_kept}
use Rattle.store_world.proofs.CallsTold.{none_made, statement_calls}
use Rattle.store_world.proofs.Faults.{ends_storing, ends_any_time, ends_asking}
use Rattle.store_world.proofs.LineKinds.{none_found, goes_to_tables}

-- the world of an open store, with its sessions
pub record HasStore (w : World) (kept : Machine) (s : Opened) (bytes : List ℕ) : Type 0 where
  pub world : statements.Database
  pub is : w.store ≡ Some world
  pub with_sessions : machines.IsIn (record { store = world; sessions = w.sessions }) kept s bytes
  pub stands : statements.IsIn world s bytes
  pub own : world.header.id ≡ w.id
  pub none_old : w.old_history ≡ None

-- bytes in the second format hold nothing in the first
pub none_old : (id : ℕ) (bytes : List ℕ) → format_of bytes ≡ Some Two → old_under id bytes ≡ None
none_old id bytes new = ap (λ (o : Option Format). old_in o (history_with id (stored bytes))) new

pub has_store : (w : World) (kept : Machine) (s : Opened) (auditing : Option Auditing) (bytes : List ℕ) → IsIn w (alone kept s auditing) bytes → HasStore w kept s bytes
has_store w kept s auditing bytes i = by w.store refl i.store
  where
    by : (o : Option statements.Database) → w.store ≡ o → StoreIsIn w.id o w.sessions (Some (record { store = s; sessions = kept })) bytes → HasStore w kept s bytes
    by (Some world) is stands = record { world = world; is = is; with_sessions = stands.0; stands = stands.0.store; own = stands.1; none_old = i.old ∙ none_old w.id bytes stands.0.store.open_on.stores.format }
    by None is stands = absurd stands

pub answered_as : (refused : Bool) (text : List ℕ) (reply : Reply) → refused ≡ is_refusal reply → text ≡ reply_text reply → IsReplied (Ok reply) (Ok (record { refused = refused; text = text }))
answered_as refused text reply is says = ap (λ (b : Bool). record { refused = b; text = text }) is ∙ ap (λ (t : List ℕ). record { refused = is_refusal reply; text = t }) says

pub not_notary : (fail : StepFail) → fault_of fail ≡ fails.NotaryFault → ⊥
not_notary steps_as.DiskFault is = absurd cc
not_notary steps_as.NoMemory is = absurd cc

-- ---- what stays has nothing more

pub never_longer : (l : List Item) (x : Item) → l ++ x ∷ [] ≡ l → ⊥
never_longer l x same = let e : length (l ++ x ∷ []) ≡ length l = ap length same in let more = length-append l (x ∷ []) in omega (arith, e, more)

abbrev items_in : Option statements.Database → List Item
items_in None = []
items_in (Some w) = w.items

pub items_stay : (x w : statements.Database) → Some x ≡ Some w → x.items ≡ w.items
items_stay x w same = ap items_in same

-- a reply without a transaction more has made no call
unmoved : (w : statements.Database) (next : statement_steps.Performed) (reply : Reply) (s : Opened) (old new : disks.State) → MakesFor w next (Ok reply) s old new → Some next.world ≡ Some w → new.trace ≡ old.trace
unmoved w next (replies.Committed number) s old new makes stays =
    absurd (never_longer w.items (items.Txn makes.txn) (sym (ap (λ (x : statement_steps.Performed). x.world.items) makes.stores) ∙ items_stay next.world w stays))
unmoved w next reply s old new makes stays = makes

-- what an answer promises is what its reply promises
of_answer : (w new : statements.Database) (answer : Answer) → promises.IsPromised w answer new → statement_promises.IsPromised w (reply_of answer) new
of_answer w new (Replied reply) is = is
of_answer w new (Stopped refusal) is = is

module _ (kept later_kept : Machine) (s later : Opened) (header : later.header ≡ s.header) (old new : disks.State) (auditing : Option Auditing) where
  module _ (w : World) (b a : List ℕ) (i : IsIn w (alone kept s auditing) b) (has : HasStore w kept s b) where
    abbrev own : sessions.Service
    own = record { store = has.world; sessions = w.sessions }

    either : (next : session_steps.Served) (c : List ℕ) → statements.StoresEither has.world next.world.store c → StoresEither w (after_statement w next).world c
    either next c (inl stores) = inl (subst (λ (o : Option statements.Database). StoresOf w.id o w.old_history c) (sym has.is) stores)
    either next c (inr stores) = inr stores

    goes : (next : session_steps.Served) (r : Result Reply StepFail) (result : Result Answered LineFail) → Extends has.world next.world.store → StepsIn own next r (serving kept s) (serving later_kept later) old new b a → IsReplied r result
        → Goes w (after_statement w next) result (alone later_kept later auditing) old new b a
    goes next (Ok reply) (Ok answered) more steps is = record {
      reply = record { text = ap (λ (x : Answered). x.text) is ∙ ap (λ (x : Reply). (replied x).text) steps.reply; refused = ap (λ (x : Answered). x.refused) is ∙ ap (λ (x : Reply). (replied x).refused) steps.reply };
      stands = record {
        id = ap (λ (h : Header). h.id) header ∙ i.id;
        store = (steps.stands, ap (λ (h : Header). h.id) (sym steps.stands.store.header ∙ header) ∙ i.id);
        old = has.none_old ∙ sym (none_old w.id a steps.stands.store.open_on.stores.format);
        is_old = i.is_old;
        audit = audit_kept w.id auditing has.world next.world.store s later b a more steps.places has.stands steps.stands.store i.audit;
        audited = i.audited;
      };
      settled = steps.settled;
      images = λ only. weaker (steps.images only) (either next);
      kept = λ only. either next a (steps.kept only);
      same = λ stays. unmoved has.world (of_store next) reply s old new steps.trace (stays ∙ has.is);
    }
    goes next r (Err fail) more steps is = record {
      reply = tt;
      stands = tt;
      settled = λ only. tt;
      images = λ only. weaker (steps.images only) (either next);
      kept = λ only. either next a (steps.kept only);
      same = λ stays. tt;
    }
    goes next (Err fail) (Ok answered) more steps is = absurd cc

    -- in a fault of the disk, only where it stores
    only : (next : session_steps.Served) (r : Result Reply StepFail) (result : Result Answered LineFail) → StepsIn own next r (serving kept s) (serving later_kept later) old new b a → IsReplied r result → IfErr result (IsOfStoring (Some next.world.store ≢ w.store))
    only next r (Ok answered) steps is = tt
    only next (Ok reply) (Err fails.NoMemory) steps is = tt
    only next (Ok reply) (Err fails.DiskFault) steps is = absurd is
    only next (Ok reply) (Err fails.NotaryFault) steps is = absurd is
    only next (Err steps_as.NoMemory) (Err fail) steps is = subst (λ (x : Result Answered LineFail). IfErr x (IsOfStoring (Some next.world.store ≢ w.store))) (sym is) tt
    only next (Err steps_as.DiskFault) (Err fail) steps is = subst (λ (x : Result Answered LineFail). IfErr x (IsOfStoring (Some next.world.store ≢ w.store))) (sym is)
        (λ stays. never_longer has.world.items (items.Txn steps.trace.txn) (sym (ap (λ (x : statement_steps.Performed). x.world.items) steps.trace.stores) ∙ items_stay next.world.store has.world (stays ∙ has.is)))

    -- the calls that store what it stores, and none of the notary
    makes : (line : Line) (now : ℕ) (found : Found) (next : session_steps.Served) (r : Result Reply StepFail) (result : Result Answered LineFail) (filed : notaries.State) → notary_calls w line now found ≡ [] → statement_promises.KeepsPromise has.world (of_store next)
        → StepsIn own next r (serving kept s) (serving later_kept later) old new b a → IsReplied r result → MakesLineCalls w line now found (after_statement w next) result (desk old filed) (desk new filed) b
    makes line now found next r result filed none promised steps is = record {
      disk = subst (λ (o : Option statements.Database). MakesOfDisk (appends (standing (end_of_store o) b) (items_added o (Some next.world.store))) result old new) (sym has.is)
          (statement_calls has.world s b has.stands w.sessions next kept later_kept later old new a r result is promised steps);
      notary = subst (λ (cs : List notaries.Call). WhereTold filed.trace filed.trace (MakesOfNotary cs result)) (sym none) (told_same filed.trace filed.trace _ refl (λ was. none_made result was was refl));
      order = told_same filed.trace filed.trace _ refl (λ was. inl refl);
    }

  module _ (line : Line) (now : ℕ) (on : IsStatementLine line) (r : Result Reply StepFail) (result : Result Answered LineFail) (answers : IsReplied r result) where
    steps : (filed : notaries.State) (w : World) (b a : List ℕ) → IsIn w (alone kept s auditing) b → StepsTo line now r (serving kept s) (serving later_kept later) old new b a → Steps line now w result (alone later_kept later auditing) (desk old filed) (desk new filed) b a
    steps filed w b a i does =
        let has = has_store w kept s auditing b i in
        let goes_on = goes_to_tables line on in
        let before : sessions.Service = record { store = has.world; sessions = w.sessions } in
        let next = session_steps.serve before line now in
        let is = goes_on.steps w now none_found ∙ ap (λ (o : Option statements.Database). on_tables w o line now) has.is in
        let done = does before has.with_sessions in
        record {
          found = none_found;
          may = given result (goes_on.tells w none_found);
          turn = given result tt;
          goes = subst (λ (x : Step). Goes w x result (alone later_kept later auditing) old new b a) (sym is)
              (goes w b a i has next r result (added_extends has.world next.world.store (step_adds before line now)) done answers);
          only = subst (λ (x : Step). IfErr result (MayEndIn (line_kind line) (x.world.store ≢ w.store))) (sym is) (ends_storing (Some next.world.store ≢ w.store) (line_kind line) goes_on.kind result (only w b a i has next r result done answers));
          timely = ends_any_time (early_of w line now) (goes_on.early w now) result;
          quiet = OnTrue_from (audit_goes_on w line) (filed ≡ filed) (λ goes. refl);
          unasked = ends_asking (audit_goes_on w line) (goes_on.pieces w) result;
          finds = beside_by w (desk old filed) (desk new filed) _ (λ lists later_lists was is beside. goes_on.may w now none_found);
          files = beside_same w (desk old filed) (desk new filed) refl _ (λ lists beside. files_still w (step w line now none_found).world (IsOk result) old new b a lists (ap (λ (x : Step). x.world.lists) is) beside.lists);
          makes = beside_by w (desk old filed) (desk new filed) _ (λ lists later_lists was_told is_told beside. subst (λ (x : Step). MakesLineCalls w line now none_found x result (desk old filed) (desk new filed) b) (sym is)
              (makes w b a i has line now none_found next r result filed (goes_on.calls w now none_found) (of_answer has.world next.world.store next.answer (steps_keep_promises before line now).store) done answers));
        }

    pub beside : WhereTold old.reads new.reads (StepsTo line now r (serving kept s) (serving later_kept later) old new) → StepsBeside line now result (alone kept s auditing) (alone later_kept later auditing) old new
    beside told filed = told_map old.reads new.reads _ _ told (λ b a does w i. steps filed w b a i does)
