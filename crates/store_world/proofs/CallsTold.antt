-- What the parts of a line say of its calls gives those of the disk; and those of the notary, where it is said how many were done.
use Rattle.std.proofs.Common.{◌≡◌, ◌⊎◌, inl, inr, ℕ, zero, suc, ◌≤◌, Bool, List, [], ◌∷◌, length, take, drop, Option, Some, None, IsSome, IfErr, Result, Ok, Err, refl, sym, ap, subst, ◌∙◌, arith}
use Rattle.std.specs.Prelude.{◌==◌, slice_index}
use Rattle.std.proofs.lemmas.List.{append-nil, drop_at}
use Rattle.byte_grammar.specs.Gated.{open_gate}
use Rattle.outside_words.specs.Runs.{after_calls, FailsAfter}
use Rattle.outside_words.specs.Told.{WhereTold}
use Rattle.outside_words.proofs.Told.{told_map}
use Rattle.disk_words.specs.declared.DiskFail.TheVariants as disk_fails
use Rattle.disk_words.specs.Disk as disks
use Rattle.disk_model.specs.Moments.{calls_of, MakesCalls}
use Rattle.tuple_bytes.specs.declared.item.Item.{Item}
use Rattle.tuple_bytes.specs.declared.item.Item.TheVariants as items
use Rattle.tuple_bytes.specs.Spelling.{spell_item, spell_txn}
use Rattle.segment_file.specs.Append.{append_calls}
use Rattle.segment_file.specs.Writes.{segment_writes}
use Rattle.notary_link.specs.declared.fail.NotaryFail.TheVariants as notary_fails
use Rattle.notary_link.specs.Notary as notaries
use Rattle.notary_link.specs.Notary.{Call, Entry}
use Rattle.notary_link.specs.Runs as runs
use Rattle.store_engine.specs.Opened.{Opened}
use Rattle.store_engine.specs.Appended.{standing}
use Rattle.stmt_text.specs.declared.line.Line.{Line}
use Rattle.statement_core.specs.declared.reply.Reply.{Reply}
use Rattle.statement_core.specs.declared.reply.Reply.TheVariants as replies
use Rattle.statement_core.specs.declared.statements.StepFail.{StepFail}
use Rattle.statement_core.specs.declared.statements.StepFail.TheVariants as steps
use Rattle.statement_core.specs.Database as statements
use Rattle.statement_core.specs.Steps as statement_steps
use Rattle.statement_core.specs.Stepping.{MakesFor, Appends}
use Rattle.statement_core.specs.Promises.{KeepsPromise, IsPromised}
use Rattle.session_model.specs.Service as sessions
use Rattle.session_model.specs.Service.{Session}
use Rattle.session_model.specs.Steps as session_steps
use Rattle.session_model.specs.Standing.{Machine, of_store, StepsIn, serving}
use Rattle.validator.specs.Desk.{Desk, desk}
use Rattle.validator.specs.declared.fail.AuditFail.{AuditFail}
use Rattle.validator.specs.declared.fail.AuditFail.TheVariants as audits
use Rattle.validator.specs.Notarizing.{Heard, Intent, IsRefusedBy}
use Rattle.validator.specs.Reaching as reaching
use Rattle.validator.specs.Reaching.{CarriesOut}
use Rattle.validator.specs.declared.turned.Turned.{Turned}
use Rattle.validator.specs.Turning.{MakesTurn, IsOfTurning}
use Rattle.validator.specs.Texts.{refusal_text}
use Rattle.store_world.specs.declared.answered.Answered.{Answered}
use Rattle.store_world.specs.declared.fail.LineFail.{LineFail}
use Rattle.store_world.specs.declared.fail.LineFail.TheVariants as fails
use Rattle.store_world.specs.Answers.{said, refusal, replied, Replies, IsAnswer, IsReplied}
use Rattle.store_world.specs.World.{World}
use Rattle.store_world.specs.Found.{Found}
use Rattle.store_world.specs.Steps.{Step, intent_in, reached, carried_out, unless, notarized}
use Rattle.store_world.specs.ItemsMore.{items_added, end_of_store}
use Rattle.store_world.specs.LineCalls.{appends, disk_calls, notary_calls}
use Rattle.store_world.specs.CallsMade.{MakesOfDisk, IsAnswered, MakesOfNotary, MakesLineCalls}
use Rattle.store_world.proofs.LineItems.{drop_all, none_added, carried_world}

-- ---- no call

untouched : (calls : List disks.Call) (old new : disks.State) → new.trace ≡ old.trace → MakesOfDisk calls (Err fails.NoMemory) old new
untouched [] old new same = inl same
untouched (call ∷ calls) old new same = inr (inl same)

no_calls : (result : Result Answered LineFail) (old new : disks.State) → new.trace ≡ old.trace → MakesOfDisk [] result old new
no_calls (Ok answered) old new same = same
no_calls (Err fails.DiskFault) old new same = inl same
no_calls (Err fails.NotaryFault) old new same = inl same
no_calls (Err fails.NoMemory) old new same = inl same

pub none_made : (result : Result Answered LineFail) (was now : List Entry) → now ≡ was → MakesOfNotary [] result was now
none_made (Ok answered) was now same = same
none_made (Err fails.DiskFault) was now same = same
none_made (Err fails.NotaryFault) was now same = inl same
none_made (Err fails.NoMemory) was now same = inl same

-- ---- the store and the disk stay

module _ (w : World) (line : Line) (now : ℕ) (found : Found) (next : Step) (stays : next.world.store ≡ w.store) (before : List ℕ) where
  none_stored : disk_calls w next before ≡ []
  none_stored = ap (appends (standing (end_of_store w.store) before)) (ap (items_added w.store) stays ∙ none_added w.store)

  module _ (result : Result Answered LineFail) (old new : disks.State) (same : new.trace ≡ old.trace) (filed later : notaries.State) where
    pub calls_beside : WhereTold filed.trace later.trace (MakesOfNotary (notary_calls w line now found) result) → MakesLineCalls w line now found next result (desk old filed) (desk new later) before
    calls_beside makes = record {
      disk = subst (λ (cs : List disks.Call). MakesOfDisk cs result old new) (sym none_stored) (no_calls result old new same);
      notary = makes;
      order = told_map filed.trace later.trace _ _ makes (λ was is made. inr (subst (λ (cs : List disks.Call). MakesCalls cs (Ok tt) old new) (sym none_stored) same));
    }

    -- where the notary is to be called as little
    pub calls_none : notary_calls w line now found ≡ [] → WhereTold filed.trace later.trace (λ was is. is ≡ was) → MakesLineCalls w line now found next result (desk old filed) (desk new later) before
    calls_none none unchanged = calls_beside (subst (λ (cs : List Call). WhereTold filed.trace later.trace (MakesOfNotary cs result)) (sym none) (told_map filed.trace later.trace _ _ unchanged (λ was is same_trace. none_made result was is same_trace)))

-- ---- a statement, or a line of a session

module _ (w : statements.Database) (s : Opened) (before : List ℕ) (i : statements.IsIn w s before) where
  -- the store stands where a journal over these bytes does
  same_calls : (payload : List ℕ) → append_calls s.at payload ≡ append_calls (standing w.end before) payload
  same_calls payload =
      ap (λ (gate : Bool). calls_of (segment_writes gate s.at.length s.at.end payload)) i.open_on.gate
      ∙ ap (λ (long : ℕ). calls_of (segment_writes (slice_index before s.at.end == open_gate) long s.at.end payload)) (sym i.open_on.length_is)
      ∙ ap (λ (end : ℕ). calls_of (segment_writes (slice_index before end == open_gate) (length before) end payload)) i.end

  pub one_item : (item : Item) → append_calls s.at (spell_item item) ≡ appends (standing w.end before) (item ∷ [])
  one_item item = same_calls (spell_item item) ∙ sym (append-nil (append_calls (standing w.end before) (spell_item item)))

  module _ (begun : ℕ → Option Session) (next : session_steps.Served) (m later_m : Machine) (later : Opened) (old new : disks.State) (after : List ℕ) where
    abbrev from : sessions.Service
    from = record { store = w; sessions = begun }

    abbrev here : statement_steps.Performed
    here = of_store next

    abbrev made_calls : List disks.Call
    made_calls = appends (standing w.end before) (items_added (Some w) (Some next.world.store))

    none_calls : next.world.store ≡ w → made_calls ≡ []
    none_calls same = ap (λ (x : statements.Database). appends (standing w.end before) (drop (length w.items) x.items)) same ∙ ap (appends (standing w.end before)) (drop_all w.items)

    -- one append
    txn_calls : (r : Result Reply StepFail) (a : Appends w here r s old new) → append_calls s.at (spell_txn a.txn) ≡ made_calls
    txn_calls r a =
        one_item (items.Txn a.txn)
        ∙ ap (appends (standing w.end before)) (sym (ap (λ (x : statement_steps.Performed). drop (length w.items) x.world.items) a.stores ∙ drop_at w.items (items.Txn a.txn ∷ []) (length w.items) refl))

    stayed : (result : Result Answered LineFail) → next.world.store ≡ w → new.trace ≡ old.trace → MakesOfDisk made_calls result old new
    stayed result same trace = subst (λ (cs : List disks.Call). MakesOfDisk cs result old new) (sym (none_calls same)) (no_calls result old new trace)

    -- what was stored is acknowledged, or there is no memory for that
    acknowledged : (answer : Answered) (result : Result Answered LineFail) → Replies answer result → MakesCalls made_calls (Ok tt) old new → MakesOfDisk made_calls result old new
    acknowledged answer (Ok answered) reply makes = makes
    acknowledged answer (Err fails.NoMemory) reply makes = inl makes
    acknowledged answer (Err fails.DiskFault) reply makes = absurd reply
    acknowledged answer (Err fails.NotaryFault) reply makes = absurd reply

    -- a reply
    told_calls : (reply : Reply) (result : Result Answered LineFail) → IsReplied (Ok reply) result → IsPromised w reply next.world.store → MakesFor w here (Ok reply) s old new → MakesOfDisk made_calls result old new
    told_calls (replies.Committed number) result answer promised makes = acknowledged (replied (replies.Committed number)) result answer (subst (λ (cs : List disks.Call). MakesCalls cs (Ok tt) old new) (txn_calls (Ok (replies.Committed number)) makes) makes.makes)
    told_calls reply result answer promised makes = stayed result promised makes

    wanted : Appends w here (Err steps.NoMemory) s old new ⊎ (new.trace ≡ old.trace) → MakesOfDisk made_calls (Err fails.NoMemory) old new
    wanted (inl a) = subst (λ (cs : List disks.Call). MakesOfDisk cs (Err fails.NoMemory) old new) (txn_calls (Err steps.NoMemory) a) a.makes
    wanted (inr same) = untouched made_calls old new same

    -- the calls of the disk, by what the statement came to
    pub statement_calls : (r : Result Reply StepFail) (result : Result Answered LineFail) → IsReplied r result → KeepsPromise w here → StepsIn from next r (serving m s) (serving later_m later) old new before after → MakesOfDisk made_calls result old new
    statement_calls (Ok reply) result answer promised told = told_calls reply result answer (subst (λ (x : Reply). IsPromised w x next.world.store) (sym told.reply) promised) told.trace
    statement_calls (Err steps.DiskFault) result answer promised told = subst (λ (x : Result Answered LineFail). MakesOfDisk made_calls x old new) (sym answer)
        (inr (subst (λ (cs : List disks.Call). MakesCalls cs (Err disk_fails.Failed) old new) (txn_calls (Err steps.DiskFault) told.trace) told.trace.makes))
    statement_calls (Err steps.NoMemory) result answer promised told = subst (λ (x : Result Answered LineFail). MakesOfDisk made_calls x old new) (sym answer) (wanted told.trace)

-- ---- a notarization

module _ (calls : List disks.Call) (old new : disks.State) where
  all_made : (answer : Answered) (result : Result Answered LineFail) → Replies answer result → MakesCalls calls (Ok tt) old new → MakesOfDisk calls result old new
  all_made answer (Ok answered) reply makes = makes
  all_made answer (Err fails.NoMemory) reply makes = inl makes
  all_made answer (Err fails.DiskFault) reply makes = absurd reply
  all_made answer (Err fails.NotaryFault) reply makes = absurd reply

  memory_wanted : (new.trace ≡ old.trace) ⊎ MakesCalls calls (Ok tt) old new ⊎ MakesCalls calls (Err disk_fails.NoMemory) old new → MakesOfDisk calls (Err fails.NoMemory) old new
  memory_wanted (inl same) = untouched calls old new same
  memory_wanted (inr made) = made

  by_result : (result other : Result Answered LineFail) → result ≡ other → MakesOfDisk calls other old new → MakesOfDisk calls result old new
  by_result result other is makes = subst (λ (x : Result Answered LineFail). MakesOfDisk calls x old new) (sym is) makes

  -- where nothing speaks against it
  audit_calls : (text : ℕ → List ℕ) (r : Result ℕ AuditFail) (result : Result Answered LineFail) → IsAnswer text r result → IsRefusedBy None r → reaching.MakesFor calls r old new → MakesOfDisk calls result old new
  audit_calls text (Ok tiles) result answer free makes = all_made (said (text tiles)) result answer makes
  audit_calls text (Err audits.Full) result answer free makes = all_made (refusal (refusal_text audits.Full)) result answer makes
  audit_calls text (Err audits.DiskFault) result answer free makes = by_result result (Err fails.DiskFault) answer makes
  audit_calls text (Err audits.NotaryFault) result answer free makes = by_result result (Err fails.NotaryFault) answer makes
  audit_calls text (Err audits.NoMemory) result answer free makes = by_result result (Err fails.NoMemory) answer (memory_wanted makes)
  audit_calls text (Err (audits.ClockBack last)) result answer free makes = absurd cc
  audit_calls text (Err audits.TooLate) result answer free makes = absurd cc
  audit_calls text (Err audits.StoreFull) result answer free makes = absurd cc
  audit_calls text (Err audits.TooManyEras) result answer free makes = absurd cc
  audit_calls text (Err audits.Closed) result answer free makes = absurd cc
  audit_calls text (Err audits.Broken) result answer free makes = absurd cc
  audit_calls text (Err (audits.SealMissing name)) result answer free makes = absurd cc
  audit_calls text (Err (audits.OutOfTurn count)) result answer free makes = all_made (refusal (refusal_text (audits.OutOfTurn count))) result answer makes

  -- so of a policy
  pub turn_calls : (text : Turned → List ℕ) (r : Result Turned AuditFail) (result : Result Answered LineFail) → IsAnswer text r result → IsRefusedBy None r → IfErr r IsOfTurning → MakesTurn calls r old new → MakesOfDisk calls result old new
  turn_calls text (Ok era) result answer free only makes = all_made (said (text era)) result answer makes
  turn_calls text (Err audits.DiskFault) result answer free only makes = by_result result (Err fails.DiskFault) answer makes
  turn_calls text (Err audits.NotaryFault) result answer free only makes = by_result result (Err fails.NotaryFault) answer (inl makes)
  turn_calls text (Err audits.NoMemory) result answer free only makes = by_result result (Err fails.NoMemory) answer (memory_wanted makes)
  turn_calls text (Err audits.Full) result answer free only makes = absurd only
  turn_calls text (Err (audits.OutOfTurn count)) result answer free only makes = absurd only
  turn_calls text (Err (audits.ClockBack last)) result answer free only makes = absurd only
  turn_calls text (Err audits.TooLate) result answer free only makes = absurd only
  turn_calls text (Err audits.StoreFull) result answer free only makes = absurd cc
  turn_calls text (Err audits.TooManyEras) result answer free only makes = absurd cc
  turn_calls text (Err audits.Closed) result answer free only makes = absurd cc
  turn_calls text (Err audits.Broken) result answer free only makes = absurd cc
  turn_calls text (Err (audits.SealMissing name)) result answer free only makes = absurd cc

module _ (now : ℕ) (w : World) (ws : statements.Database) (is : w.store ≡ Some ws) (s : Opened) (before : List ℕ) (stands : statements.IsIn ws s before) (heard : Heard) (taken : Option AuditFail) where
  abbrev intent : Intent
  intent = intent_in ws now heard

  abbrev calls_to : Option statements.Database → List disks.Call
  calls_to store = appends (standing ws.end before) (items_added (Some ws) store)

  frontier_is : (o : Option ℕ) → reaching.frontier_calls s o ≡ calls_to (Some (reached o ws))
  frontier_is None = sym (ap (appends (standing ws.end before)) (drop_all ws.items))
  frontier_is (Some moment) = one_item ws s before stands (items.Frontier moment) ∙ ap (appends (standing ws.end before)) (sym (drop_at ws.items (items.Frontier moment ∷ []) (length ws.items) refl))

  -- the calls of its Frontier
  pub frontier_stored : reaching.frontier_calls s intent.frontier ≡ calls_to (carried_out w ws intent taken).world.store
  frontier_stored = frontier_is intent.frontier ∙ ap calls_to (sym (ap (λ (x : World). x.store) (carried_world w ws intent taken)))

  -- what holds of the calls, whether something speaks against it or not
  pub by_fault : (P : List disks.Call → Type 0) → ((fail : AuditFail) → intent.fault ≡ Some fail → P []) → (intent.fault ≡ None → P (reaching.frontier_calls s intent.frontier)) → P (disk_calls w (notarized w w.store now heard taken) before)
  by_fault P against free = subst (λ (o : Option statements.Database). P (appends (standing (end_of_store o) before) (items_added o (notarized w o now heard taken).world.store))) (sym is) (by intent.fault refl)
    where
      by : (o : Option AuditFail) → intent.fault ≡ o → P (calls_to (unless o w (carried_out w ws intent taken)).world.store)
      by (Some fail) e = subst (λ (store : Option statements.Database). P (calls_to store)) (sym is) (subst (λ (its : List Item). P (appends (standing ws.end before) its)) (sym (drop_all ws.items)) (against fail e))
      by None e = subst P frontier_stored (free e)

  module _ (later : Opened) (after : List ℕ) (old new : Desk) (r : Result ℕ AuditFail) (told : CarriesOut intent ws.items r s later old new before after) where
    pub notarization_calls : (text : ℕ → List ℕ) (result : Result Answered LineFail) → IsAnswer text r result → MakesOfDisk (disk_calls w (notarized w w.store now heard taken) before) result old.disk new.disk
    notarization_calls text result answer = by_fault (λ cs. MakesOfDisk cs result old.disk new.disk)
        (λ fail e. no_calls result old.disk new.disk (told.free (subst (λ (f : Option AuditFail). IsSome f) (sym e) refl)).0.trace)
        (λ e. audit_calls (reaching.frontier_calls s intent.frontier) old.disk new.disk text r result answer (subst (λ (o : Option AuditFail). IsRefusedBy o r) e told.refused) told.trace)

-- ---- the notary, where it is told how many of the calls were done

module _ (new : List Entry) where
  -- all of them
  pub all_answered : (calls : List Call) (old : List Entry) → new ≡ after_calls runs.is_done calls old → IsAnswered calls old new
  all_answered [] old made = made
  all_answered (call ∷ []) old made = inl made
  all_answered (call ∷ other ∷ calls) old made = all_answered (other ∷ calls) (runs.is_done call ∷ old) made

  -- as many as fit, and the next one found no room
  pub full_answered : (fit : ℕ) (calls : List Call) (old : List Entry) → FailsAfter runs.is_done (runs.was_answered notary_fails.Full) fit calls old new → IsAnswered (take (suc fit) calls) old new
  full_answered zero [] old fails = absurd fails
  full_answered (suc fit) [] old fails = absurd fails
  full_answered zero (call ∷ calls) old fails = inr fails
  full_answered (suc fit) (call ∷ calls) old fails = next (take (suc fit) calls) refl (full_answered fit calls (runs.is_done call ∷ old) fails)
    where
      next : (rest : List Call) → take (suc fit) calls ≡ rest → IsAnswered (take (suc fit) calls) (runs.is_done call ∷ old) new → IsAnswered (call ∷ take (suc fit) calls) old new
      next [] is made = subst (λ (cs : List Call). IsAnswered (call ∷ cs) old new) (sym is) (inl (subst (λ (cs : List Call). IsAnswered cs (runs.is_done call ∷ old) new) is made))
      next (other ∷ rest) is made = subst (λ (cs : List Call). IsAnswered (call ∷ cs) old new) (sym is) (subst (λ (cs : List Call). IsAnswered cs (runs.is_done call ∷ old) new) is made)

  -- no more than fit, and the next one failed
  pub failed_within : (k fit : ℕ) (calls : List Call) (old : List Entry) → k ≤ fit → FailsAfter runs.is_done (runs.was_answered notary_fails.Failed) k calls old new → runs.MakesCalls (take (suc fit) calls) (Err notary_fails.Failed) old new
  failed_within zero fit [] old within fails = absurd fails
  failed_within (suc k) fit [] old within fails = absurd fails
  failed_within zero fit (call ∷ calls) old within fails = inl fails
  failed_within (suc k) zero (call ∷ calls) old within fails = absurd (omega (arith, within))
  failed_within (suc k) (suc fit) (call ∷ calls) old within fails = inr (failed_within k fit calls (runs.is_done call ∷ old) (omega (arith, within)) fails)

  -- that was replied, or there is no memory for that
  pub all_replied : (calls : List Call) (old : List Entry) (answer : Answered) (result : Result Answered LineFail) → Replies answer result → IsAnswered calls old new → MakesOfNotary calls result old new
  all_replied calls old answer (Ok answered) reply made = made
  all_replied calls old answer (Err fails.NoMemory) reply made = inl made
  all_replied calls old answer (Err fails.DiskFault) reply made = absurd reply
  all_replied calls old answer (Err fails.NotaryFault) reply made = absurd reply

  -- some first ones, and memory wanted behind them
  pub some_made : (k : ℕ) (calls : List Call) (old : List Entry) → new ≡ after_calls runs.is_done (take k calls) old → MakesOfNotary calls (Err fails.NoMemory) old new
  some_made zero [] old made = inl made
  some_made zero (call ∷ calls) old made = inr (inl made)
  some_made (suc k) [] old made = inl made
  some_made (suc k) (call ∷ calls) old made = by calls refl (some_made k calls (runs.is_done call ∷ old) made)
    where
      by : (rest : List Call) → calls ≡ rest → MakesOfNotary calls (Err fails.NoMemory) (runs.is_done call ∷ old) new → MakesOfNotary (call ∷ calls) (Err fails.NoMemory) old new
      by rest is (inr stops) = inr (inr stops)
      by [] is (inl all) = subst (λ (cs : List Call). MakesOfNotary (call ∷ cs) (Err fails.NoMemory) old new) (sym is) (inl (inl (subst (λ (cs : List Call). IsAnswered cs (runs.is_done call ∷ old) new) is all)))
      by (other ∷ rest) is (inl all) = subst (λ (cs : List Call). MakesOfNotary (call ∷ cs) (Err fails.NoMemory) old new) (sym is) (inl (subst (λ (cs : List Call). IsAnswered cs (runs.is_done call ∷ old) new) is all))
