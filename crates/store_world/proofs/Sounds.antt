-- A statement on tables, or a line of a session, leaves a sound store sound.
use Rattle.std.proofs.Common.{◌≡◌, ℕ, ◌≤◌, List, ◌++◌, ◌∷◌, [], Option, Some, None, IfSome, Result, inl, inr, refl, sym, ap, subst, ◌∙◌}
use Rattle.std.specs.Option.{option_map}
use Rattle.outside_words.specs.Told.{WhereTold}
use Rattle.outside_words.proofs.Told.{told_same}
use Rattle.disk_words.specs.Disk.{State, turn, Only}
use Rattle.tuple_bytes.specs.declared.header.Header.{Header}
use Rattle.tuple_bytes.specs.declared.item.Item.{Item}
use Rattle.tuple_bytes.specs.declared.item.Item.TheVariants as items
use Rattle.tuple_bytes.specs.Spelling.{FitsHeader}
use Rattle.history_model.specs.History.{History, history}
use Rattle.history_model.specs.Stored.{stored}
use Rattle.notary_link.specs.Batches.{Batch}
use Rattle.audit_model.specs.Altered.{history_in}
use Rattle.audit_model.specs.Sound.{IsNotarized, HoldsNotarized, IsSound}
use Rattle.audit_model.proofs.Adding.{added_stays}
use Rattle.store_engine.specs.Opened.{Opened, Stores}
use Rattle.stmt_text.specs.declared.line.Line.{Line}
use Rattle.statement_core.specs.declared.reply.Reply.{Reply}
use Rattle.statement_core.specs.declared.statements.StepFail.{StepFail}
use Rattle.statement_core.specs.Database.{Database, StoresEither}
use Rattle.session_model.specs.Service as sessions
use Rattle.session_model.specs.Steps.{serve}
use Rattle.session_model.specs.Standing.{Machine, IsIn, StepsTo, serving}
use Rattle.audit_steps.specs.declared.auditing.Auditing.{Auditing}
use Rattle.store_world.specs.Parts.{alone, StaysSound}
use Rattle.store_world.proofs.Adding.{Adds, step_adds}

-- ---- what is filed

module _ (batches : List Batch) (id n : ℕ) (header : Header) (stored_items : List Item) (bytes : List ℕ) (stores : Stores header stored_items bytes) where
  is_history : history_in (stored bytes) ≡ Some (history header stored_items)
  is_history = ap (λ (o : Option Header). option_map (λ (h : Header). history h (stored bytes).items) o) stores.header_is ∙ ap (λ (l : List Item). Some (history header l)) stores.items_are

  from_bytes : HoldsNotarized batches id n (history_in (stored bytes)) → IsNotarized batches id n (history header stored_items)
  from_bytes holds = subst (λ (h : Option History). HoldsNotarized batches id n h) is_history holds

  to_bytes : IsNotarized batches id n (history header stored_items) → HoldsNotarized batches id n (history_in (stored bytes))
  to_bytes is = subst (λ (h : Option History). HoldsNotarized batches id n h) (sym is_history) is

-- where something is told before
told_with : {A : Type 0} (o n : Option A) (P Q : A → A → Type 0) (R : A → Type 0) → WhereTold o n P → IfSome o R → ((b a : A) → R b → P b a → Q b a) → WhereTold o n Q
told_with (Some b) (Some a) P Q R told given f = f b a given told
told_with (Some b) None P Q R told given f = tt
told_with None n P Q R told given f = tt

module _ (kept later_kept : Machine) (s later : Opened) (line : Line) (now : ℕ) (r : Result Reply StepFail) (old new : State) (fits : FitsHeader s.header)
    (counts_now : (c : List ℕ) → turn old ≤ turn new → new.is_image c → new.was_image (turn old) c) where
  module _ (b a : List ℕ) (image : old.is_image b) (does : StepsTo line now r (serving kept s) (serving later_kept later) old new b a) (only : Only b old) (w : sessions.Service) (i : IsIn w kept s b) where
    fits_own : FitsHeader w.store.header
    fits_own = subst FitsHeader i.store.header fits

    stores_own : Stores w.store.header w.store.items b
    stores_own = subst (λ (h : Header). Stores h w.store.items b) i.store.header i.store.open_on.stores

    module _ (batches : List Batch) (id n : ℕ) (was : IsNotarized batches id n (history w.store.header w.store.items)) (c : List ℕ) where
      in_new : (x : Database) → Adds w.store x → Stores x.header x.items c → HoldsNotarized batches id n (history_in (stored c))
      in_new x (inl is) stores = to_bytes batches id n w.store.header w.store.items c (subst (λ (y : Database). Stores y.header y.items c) is stores) was
      in_new x (inr added) stores = to_bytes batches id n w.store.header (w.store.items ++ items.Txn added.txn ∷ []) c (subst (λ (y : Database). Stores y.header y.items c) added.is stores)
          (added_stays batches id n w.store.header w.store.items (items.Txn added.txn) fits_own was added.later tt)

      in_either : StoresEither w.store (serve w line now).world.store c → HoldsNotarized batches id n (history_in (stored c))
      in_either (inl stores) = to_bytes batches id n w.store.header w.store.items c stores was
      in_either (inr stores) = in_new (serve w line now).world.store (step_adds w line now) stores

    stays : (batches : List Batch) (id : ℕ) → IsSound old.is_image batches id → IsSound new.is_image batches id
    stays batches id (inl none) = inl none
    stays batches id (inr (n, counted, all)) =
        let was = from_bytes batches id n w.store.header w.store.items b stores_own (all b image) in
        let every = (does w i).images only in
        inr (n, counted, λ c now_image. in_either batches id n was c (every.each c (counts_now c every.later now_image)))

  abbrev Stands : List ℕ → Type 0
  Stands bytes = (w : sessions.Service) × IsIn w kept s bytes

  pub stays_sound : IfSome old.reads old.is_image → WhereTold old.reads new.reads (StepsTo line now r (serving kept s) (serving later_kept later) old new) → (auditing : Option Auditing) → StaysSound (alone kept s auditing) old new
  stays_sound reads told auditing filed = told_with old.reads new.reads (StepsTo line now r (serving kept s) (serving later_kept later) old new)
      (λ before after. WhereTold filed.lists filed.lists (λ lists later_lists. (id : ℕ) → Stands before → Only before old → IsSound old.is_image (lists.batches id) id → IsSound new.is_image (later_lists.batches id) id))
      old.is_image told reads
      (λ b a image does. told_same filed.lists filed.lists (λ lists later_lists. (id : ℕ) → Stands b → Only b old → IsSound old.is_image (lists.batches id) id → IsSound new.is_image (later_lists.batches id) id) refl
      (λ lists id is only. stays b a image does only is.0 is.1 (lists.batches id) id))
