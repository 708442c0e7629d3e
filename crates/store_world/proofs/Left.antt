-- A line that leaves the store and its disk as they were.
use Rattle.std.proofs.Common.{◌≡◌, ℕ, List, Option, Some, None, Result, Ok, Err, OnOk, IfOk, inl, refl, sym, ap, subst, ◌∙◌}
use Rattle.std.specs.Option.{is_some}
use Rattle.disk_words.specs.Disk.{State, turn, Only, Unchanged}
use Rattle.disk_model.specs.Moments.{EveryImage}
use Rattle.disk_model.proofs.Moments.{started, stays}
use Rattle.history_model.specs.History.{History}
use Rattle.notary_link.specs.Notary.{Lists, Keeps}
use Rattle.store_engine.specs.Opened.{Stores}
use Rattle.statement_core.specs.Database as statements
use Rattle.session_model.specs.Service.{Session}
use Rattle.store_world.specs.declared.open_store.OpenStore.{OpenStore}
use Rattle.outside_words.specs.Told.{WhereTold}
use Rattle.outside_words.proofs.Told.{told_map, told_same}
use Rattle.validator.specs.Desk.{Desk}
use Rattle.validator.proofs.Telling.{told_by}
use Rattle.audit_steps.specs.declared.auditing.Auditing.{Auditing}
use Rattle.audit_steps.specs.Auditing.{IsAuditOf, read_by}
use Rattle.store_world.specs.declared.answered.Answered.{Answered}
use Rattle.store_world.specs.declared.fail.LineFail.{LineFail}
use Rattle.store_world.specs.World.{World, old_under, StoresOf, StoresWorld}
use Rattle.store_world.specs.Standing.{OpenWorld, IsIn, StoreIsIn}
use Rattle.store_world.specs.Lists.{IsBeside, AreBetween, ListsGo, WhereBeside}
use Rattle.store_world.specs.Parts.{with_auditing}
use Rattle.store_world.specs.Steps.{Step}
use Rattle.store_world.specs.Stepping.{StoresEither, IsReply, Goes}
use Rattle.store_world.proofs.Between.{kept_between}

pub given : {P : Type 0} (result : Result Answered LineFail) → P → OnOk result P
given (Ok answered) p = p
given (Err fail) p = tt

pub stores_of : (id : ℕ) (o : Option statements.Database) (old : Option History) (begun : ℕ → Option Session) (s : Option OpenStore) (bytes : List ℕ) → old ≡ old_under id bytes → StoreIsIn id o begun s bytes → StoresOf id o old bytes
stores_of id (Some w) old begun (Some s) bytes is i = subst (λ h. Stores h w.items bytes) i.0.store.header i.0.store.open_on.stores
stores_of id None old begun None bytes is i = (i.0, is)
stores_of id (Some w) old begun None bytes is i = absurd i
stores_of id None old begun (Some s) bytes is i = absurd i

-- all but the lists and what the auditor has read is the same
pub record StaysSame (w next : World) : Type 0 where
  pub id : next.id ≡ w.id
  pub store : next.store ≡ w.store
  pub old : next.old_history ≡ w.old_history
  pub sessions : next.sessions ≡ w.sessions

pub stays_same : (w : World) → StaysSame w w
stays_same w = record { id = refl; store = refl; old = refl; sessions = refl }

pub same_world : (w next : World) → next ≡ w → StaysSame w next
same_world w next is = subst (StaysSame w) (sym is) (stays_same w)

pub stores_world : (w : World) (held : OpenWorld) (bytes : List ℕ) → IsIn w held bytes → StoresWorld w bytes
stores_world w held bytes i = stores_of w.id w.store w.old_history w.sessions held.opened bytes i.old i.store

module _ (w : World) (held : OpenWorld) (old new : State) (bytes : List ℕ) (i : IsIn w held bytes)
    (same : Unchanged old new) (only_now : (c : List ℕ) → old.was_image (turn old) c → old.is_image c) where
  pub same_images : (next : World) → Only bytes old → EveryImage old new (StoresEither w next)
  same_images next only = stays old old new (StoresEither w next)
      (started old (StoresEither w next) only_now (λ c now. inl (subst (λ b. StoresWorld w b) (sym (only c now)) (stores_world w held bytes i)))) same

  -- the bytes store what they stored
  still_stores : (next : World) → StaysSame w next → StoresWorld next bytes
  still_stores next stays = subst (λ (o : Option History). StoresOf next.id next.store o bytes) (sym stays.old)
      (subst (λ (o : Option statements.Database). StoresOf next.id o w.old_history bytes) (sym stays.store)
      (subst (λ (n : ℕ). StoresOf n w.store w.old_history bytes) (sym stays.id) (stores_world w held bytes i)))

  -- an audit of these bytes is under way behind it
  pub left_auditing : (next : Step) (result : Result Answered LineFail) (auditing : Option Auditing) → StaysSame w next.world → OnOk result (IsAuditOf w.id auditing bytes × (read_by auditing ≡ next.world.audited)) → IfOk result (IsReply next)
      → Goes w next result (with_auditing held auditing) old new bytes bytes
  left_auditing next (Ok answered) auditing stays audit reply = record {
    reply = reply;
    stands = record {
      id = i.id ∙ sym stays.id;
      store = subst (λ (f : ℕ → Option Session). StoreIsIn next.world.id next.world.store f held.opened bytes) (sym stays.sessions)
          (subst (λ (o : Option statements.Database). StoreIsIn next.world.id o w.sessions held.opened bytes) (sym stays.store)
          (subst (λ (n : ℕ). StoreIsIn n w.store w.sessions held.opened bytes) (sym stays.id) i.store));
      old = stays.old ∙ i.old ∙ ap (λ (n : ℕ). old_under n bytes) (sym stays.id);
      is_old = i.is_old ∙ ap (λ (o : Option History). is_some o) (sym stays.old);
      audit = subst (λ (n : ℕ). IsAuditOf n auditing bytes) (sym stays.id) audit.0;
      audited = audit.1;
    };
    settled = λ only c now. only c ((same.images c).0 now);
    images = same_images next.world;
    kept = λ only. inl (stores_world w held bytes i);
    same = λ same_store. same.trace;
  }
  left_auditing next (Err fail) auditing stays audit reply = record {
    reply = tt;
    stands = tt;
    settled = λ only. tt;
    images = same_images next.world;
    kept = λ only. inl (stores_world w held bytes i);
    same = λ same_store. tt;
  }

  -- the auditor is as it was
  pub left : (next : Step) (result : Result Answered LineFail) → StaysSame w next.world → next.world.audited ≡ w.audited → IfOk result (IsReply next) → Goes w next result held old new bytes bytes
  left next result stays audited reply = left_auditing next result held.auditing stays (given result (i.audit, i.audited ∙ sym audited)) reply

  -- the lists may have changed
  pub files_left : (next : World) (Done : Type 0) (later : Lists) → StaysSame w next → (Done → Keeps next.lists later) → AreBetween w.lists next.lists later
      → ListsGo w next Done old new bytes bytes later
  files_left next Done later stays_so keeps between = record {
    keeps = keeps;
    between = between;
    ordered = λ id more only. (λ c now. only c ((same.images c).0 now), still_stores next stays_so);
  }

-- the lists stand, and no step adds to them
pub files_still : (w next : World) (Done : Type 0) (old new : State) (before after : List ℕ) (lists : Lists) → next.lists ≡ w.lists → Keeps w.lists lists → ListsGo w next Done old new before after lists
files_still w next Done old new before after lists same keeps = record {
  keeps = λ done. subst (λ (l : Lists). Keeps l lists) (sym same) keeps;
  between = subst (λ (l : Lists). AreBetween w.lists l lists) (sym same) (kept_between w.lists lists keeps);
  ordered = λ id more. absurd (more (keeps.batches id));
}

-- ---- where a notary tells its lists

pub beside_by : (w : World) (old new : Desk) (P : Lists → Lists → Type 0) → ((lists later : Lists) → old.notary.lists ≡ Some lists → new.notary.lists ≡ Some later → IsBeside w old.notary.limits lists → P lists later) → WhereBeside w old new P
beside_by w old new P f = told_by old.notary.lists new.notary.lists (λ lists later. IsBeside w old.notary.limits lists → P lists later) (λ lists later was is beside. f lists later was is beside)

pub beside_told : (w : World) (old new : Desk) (P Q : Lists → Lists → Type 0) → WhereTold old.notary.lists new.notary.lists P → ((lists later : Lists) → IsBeside w old.notary.limits lists → P lists later → Q lists later) → WhereBeside w old new Q
beside_told w old new P Q told f = told_map old.notary.lists new.notary.lists P (λ lists later. IsBeside w old.notary.limits lists → Q lists later) told (λ lists later p beside. f lists later beside p)

pub beside_same : (w : World) (old new : Desk) → new.notary.lists ≡ old.notary.lists → (P : Lists → Lists → Type 0) → ((lists : Lists) → IsBeside w old.notary.limits lists → P lists lists) → WhereBeside w old new P
beside_same w old new same P f = told_same old.notary.lists new.notary.lists (λ lists later. IsBeside w old.notary.limits lists → P lists later) same f
