-- The notary's calls of a notarization, by what it came to, and that they stand behind those of the disk.
use Rattle.std.proofs.Common.{◌≡◌, ◌⊎◌, inl, inr, ℕ, suc, ◌+◌, List, [], ◌∷◌, length, take, Option, Some, None, IsSome, Result, Ok, Err, refl, sym, ap, subst, ◌∙◌, arith}
use Rattle.std.proofs.lemmas.List.{take_all, take-take}
use Rattle.outside_words.specs.Runs.{after_calls}
use Rattle.outside_words.specs.Told.{WhereTold}
use Rattle.outside_words.proofs.Told.{told_map}
use Rattle.notary_link.specs.declared.fail.NotaryFail.TheVariants as notary_fails
use Rattle.notary_link.specs.declared.notary.NotaryLimits.{NotaryLimits}
use Rattle.notary_link.specs.Batches.{Batch}
use Rattle.notary_link.specs.Filing.{filings, fitting, room_in}
use Rattle.notary_link.specs.Notary.{Call, Entry, Lists, Keeps}
use Rattle.notary_link.specs.Runs as runs
use Rattle.store_engine.specs.Opened.{Opened}
use Rattle.stmt_text.specs.declared.stmt.Stmt.TheVariants as stmts
use Rattle.stmt_text.specs.declared.line.Line.TheVariants as lines
use Rattle.statement_core.specs.Database as statements
use Rattle.validator.specs.Desk.{Desk}
use Rattle.validator.specs.declared.fail.AuditFail.{AuditFail}
use Rattle.validator.specs.declared.fail.AuditFail.TheVariants as audits
use Rattle.validator.specs.Filing.{FilesFor, CallsFor, StopsWithin, Files}
use Rattle.validator.specs.Notarizing.{Heard, Intent, IsRefusedBy}
use Rattle.validator.specs.Reaching as reaching
use Rattle.validator.specs.Reaching.{CarriesOut}
use Rattle.validator.specs.Texts.{refusal_text}
use Rattle.validator.proofs.Filed.{same_room}
use Rattle.store_world.specs.declared.answered.Answered.{Answered}
use Rattle.store_world.specs.declared.fail.LineFail.{LineFail}
use Rattle.store_world.specs.declared.fail.LineFail.TheVariants as fails
use Rattle.store_world.specs.Answers.{said, refusal, IsAnswer}
use Rattle.store_world.specs.World.{World}
use Rattle.store_world.specs.Steps.{filed_for, intent_in, notarized}
use Rattle.store_world.proofs.LineKinds.{heard_so}
use Rattle.store_world.specs.LineCalls.{disk_calls, filing_calls, unless, notarize_calls, notary_calls}
use Rattle.store_world.specs.CallsMade.{IsAnswered, MakesOfNotary, MakesLineCalls}
use Rattle.store_world.proofs.CallsTold as told_calls
use Rattle.store_world.proofs.CallsTold.{none_made, all_answered, all_replied, full_answered, failed_within, some_made}

length-filings : (id index : ℕ) (batches : List Batch) → length (filings id index batches) ≡ length batches
length-filings id index [] = refl
length-filings id index (batch ∷ batches) = omega (arith, length-filings id (index + 1) batches)

-- all of them fit, where all were filed; and none was out of turn
abbrev FitsAll : Result ℕ AuditFail → Type 0 → Type 0
FitsAll (Ok n) all = all
FitsAll (Err (audits.OutOfTurn count)) all = ⊥
FitsAll (Err fail) all = Unit {0}

module _ (id from fit : ℕ) (batches : List Batch) (was now : List Entry) where
  abbrev all : List Call
  all = filings id from batches

  abbrev calls : List Call
  calls = take (suc fit) all

  all_made : fit ≡ length batches → now ≡ after_calls runs.is_done all was → IsAnswered calls was now
  all_made few made = subst (λ (cs : List Call). IsAnswered cs was now) (sym (take_all (suc fit) all (omega (arith, few, length-filings id from batches)))) (all_answered now all was made)

  wanted : (now ≡ was) ⊎ StopsWithin fit all notary_fails.NoMemory was now → MakesOfNotary calls (Err fails.NoMemory) was now
  wanted (inl same) = some_made now 0 calls was same
  wanted (inr (done, within, (less, made))) = some_made now done calls was (made ∙ ap (λ (cs : List Call). after_calls runs.is_done cs was) (sym (take-take done (suc fit) all (omega (arith, within)))))

  faulted : (now ≡ was) ⊎ StopsWithin fit all notary_fails.Failed was now → MakesOfNotary calls (Err fails.NotaryFault) was now
  faulted (inl same) = inl same
  faulted (inr (done, within, stops)) = inr (failed_within now done fit all was within stops)

  by_result : (result other : Result Answered LineFail) → result ≡ other → MakesOfNotary calls other was now → MakesOfNotary calls result was now
  by_result result other is makes = subst (λ (x : Result Answered LineFail). MakesOfNotary calls x was now) (sym is) makes

  made_by : (text : ℕ → List ℕ) (r : Result ℕ AuditFail) (result : Result Answered LineFail) → IsAnswer text r result → IsRefusedBy None r → FitsAll r (fit ≡ length batches) → CallsFor id from fit batches r was now → MakesOfNotary calls result was now
  made_by text (Ok n) result answer free few made = all_replied now calls was (said (text n)) result answer (all_made few made)
  made_by text (Err audits.Full) result answer free few made = all_replied now calls was (refusal (refusal_text audits.Full)) result answer (full_answered now fit all was made)
  made_by text (Err audits.NotaryFault) result answer free few made = by_result result (Err fails.NotaryFault) answer (faulted made)
  made_by text (Err audits.DiskFault) result answer free few made = by_result result (Err fails.DiskFault) answer made
  made_by text (Err audits.NoMemory) result answer free few made = by_result result (Err fails.NoMemory) answer (wanted made)
  made_by text (Err (audits.ClockBack last)) result answer free few made = absurd cc
  made_by text (Err audits.TooLate) result answer free few made = absurd cc
  made_by text (Err audits.StoreFull) result answer free few made = absurd cc
  made_by text (Err audits.TooManyEras) result answer free few made = absurd cc
  made_by text (Err audits.Closed) result answer free few made = absurd cc
  made_by text (Err audits.Broken) result answer free few made = absurd cc
  made_by text (Err (audits.SealMissing name)) result answer free few made = absurd cc
  made_by text (Err (audits.OutOfTurn count)) result answer free few made = absurd few

all_fit : (id : ℕ) (limits : NotaryLimits) (batches : List Batch) (r : Result ℕ AuditFail) (lists later : Lists) → FilesFor id limits batches r lists later → FitsAll r (fitting (room_in limits lists) batches ≡ length batches)
all_fit id limits batches (Ok n) lists later files = files.fit
all_fit id limits batches (Err (audits.OutOfTurn count)) lists later files = files
all_fit id limits batches (Err audits.Full) lists later files = tt
all_fit id limits batches (Err audits.NotaryFault) lists later files = tt
all_fit id limits batches (Err audits.DiskFault) lists later files = tt
all_fit id limits batches (Err audits.NoMemory) lists later files = tt
all_fit id limits batches (Err (audits.ClockBack last)) lists later files = tt
all_fit id limits batches (Err audits.TooLate) lists later files = tt
all_fit id limits batches (Err audits.StoreFull) lists later files = tt
all_fit id limits batches (Err audits.TooManyEras) lists later files = tt
all_fit id limits batches (Err audits.Closed) lists later files = tt
all_fit id limits batches (Err audits.Broken) lists later files = tt
all_fit id limits batches (Err (audits.SealMissing name)) lists later files = tt

module _ (now : ℕ) (w : World) (ws : statements.Database) (is : w.store ≡ Some ws) (s : Opened) (before : List ℕ) (stands : statements.IsIn ws s before) (heard : Heard) (taken : Option AuditFail)
    (own : s.header.id ≡ w.id) (later : Opened) (lists later_lists : Lists) (keeps : Keeps w.lists lists) (after : List ℕ) (old new : Desk) (limits : w.limits ≡ old.notary.limits)
    (r : Result ℕ AuditFail) (told : CarriesOut (intent_in ws now heard) ws.items r s later old new before after) (Reached : Type 0) (files : Files s.header.id (intent_in ws now heard) r Reached old.notary new.notary lists later_lists)
    (counted : heard.count ≡ length (filed_for w)) where
  abbrev intent : Intent
  intent = intent_in ws now heard

  no_call : (fail : AuditFail) → intent.fault ≡ Some fail → WhereTold old.notary.trace new.notary.trace (λ was is. is ≡ was)
  no_call fail e = (told.free (subst (λ (o : Option AuditFail). IsSome o) (sym e) refl)).1

  abbrev CallsOf : ℕ → ℕ → Type 0
  CallsOf id room = WhereTold old.notary.trace new.notary.trace (CallsFor id intent.first (fitting room intent.batches) intent.batches r) × FitsAll r (fitting room intent.batches ≡ length intent.batches)

  same_seals : room_in old.notary.limits lists ≡ room_in w.limits w.lists
  same_seals = ap (λ (l : NotaryLimits). room_in l lists) (sym limits) ∙ same_room w.id w.limits [] w.lists lists lists keeps

  calls_world : CallsOf w.id (room_in w.limits w.lists)
  calls_world =
      subst (λ (id : ℕ). CallsOf id (room_in w.limits w.lists)) own
      (subst (λ (room : ℕ). CallsOf s.header.id room) same_seals
      (files.calls, all_fit s.header.id old.notary.limits intent.batches r lists later_lists files.files))

  module _ (text : ℕ → List ℕ) (result : Result Answered LineFail) (answer : IsAnswer text r result) where
    by_fault : (o : Option AuditFail) → intent.fault ≡ o → WhereTold old.notary.trace new.notary.trace (MakesOfNotary (unless o (filing_calls w intent.batches)) result)
    by_fault (Some fail) e = told_map old.notary.trace new.notary.trace _ _ (no_call fail e) (λ was is same. none_made result was is same)
    by_fault None e = told_map old.notary.trace new.notary.trace _ _ calls_world.0
        (λ was is made. subst (λ (from : ℕ). MakesOfNotary (take (suc (fitting (room_in w.limits w.lists) intent.batches)) (filings w.id from intent.batches)) result was is) counted
        (made_by w.id intent.first (fitting (room_in w.limits w.lists) intent.batches) intent.batches was is text r result answer (subst (λ (o : Option AuditFail). IsRefusedBy o r) e told.refused) calls_world.1 made))

    filings_made : WhereTold old.notary.trace new.notary.trace (MakesOfNotary (notarize_calls w w.store now heard) result)
    filings_made = subst (λ (o : Option statements.Database). WhereTold old.notary.trace new.notary.trace (MakesOfNotary (notarize_calls w o now heard) result)) (sym is) (by_fault intent.fault refl)

    -- behind those of the disk
    in_order : WhereTold old.notary.trace new.notary.trace (reaching.CallsBehind (disk_calls w (notarized w w.store now heard taken) before) old.disk new.disk)
    in_order = told_calls.by_fault now w ws is s before stands heard taken (λ cs. WhereTold old.notary.trace new.notary.trace (reaching.CallsBehind cs old.disk new.disk))
        (λ fail e. told_map old.notary.trace new.notary.trace _ _ (no_call fail e) (λ was is same. inl same))
        (λ e. told.order)

    pub notarization_makes : MakesLineCalls w (lines.Plain stmts.Notarize) now (heard_so heard taken) (notarized w w.store now heard taken) result old new before
    unfolding notary_calls
    notarization_makes = record {
      disk = told_calls.notarization_calls now w ws is s before stands heard taken later after old new r told text result answer;
      notary = filings_made;
      order = in_order;
    }
