-- A command on a store, by how the store was opened.
use Rattle.std.proofs.Common.{◌≡◌, ◌≤◌, ℕ, List, length, Option, Some, None, sym, ap, subst, arith, inl, inr, ⊎_elim}
use Rattle.std.specs.Prelude.{IfSome}
use Rattle.outside_words.specs.Told.{WhereTold}
use Rattle.outside_words.specs.Faults.{Rose}
use Rattle.outside_words.proofs.Told.{told_map}
use Rattle.disk_words.specs.Disk as disks
use Rattle.disk_model.specs.Moments.{EveryImage}
use Rattle.outside_io.specs.Sink as sinks
use Rattle.tuple_bytes.specs.declared.header.Header.{Header}
use Rattle.history_model.specs.declared.format.Format.{Format}
use Rattle.history_model.specs.declared.format.Format.TheVariants.{Two}
use Rattle.history_model.specs.Stored.{stored, format_of}
use Rattle.store_engine.specs.declared.fail.StoreFail.{StoreFail}
use Rattle.store_engine.specs.declared.fail.StoreFail.TheVariants as stores
use Rattle.store_engine.specs.Causes.{IsNoStore}
use Rattle.line_runs.specs.declared.status.Status.{Status}
use Rattle.line_runs.specs.declared.status.Status.TheVariants as statuses
use Rattle.line_runs.specs.Outcome.{Said, refused}
use Rattle.line_runs.specs.Devices.{Devices, Effect, AllIsLeft, devices}
use Rattle.line_runs.specs.OnStore.{OnFormat, OnHeader, OnStore}

-- ---- what is told

-- what was told of the bytes when the store was opened
pub told_from : (o m n : Option (List ℕ)) (P : List ℕ → Type 0) (Q R : List ℕ → List ℕ → Type 0) → m ≡ o → IfSome o P → WhereTold m n Q → ((b a : List ℕ) → P b → Q b a → R b a) → WhereTold o n R
told_from None m n P Q R e p q f = tt
told_from (Some b) m None P Q R e p q f = tt
told_from (Some b) m (Some a) P Q R e p q f = f b a p (subst (λ (x : Option (List ℕ)). WhereTold x (Some a) Q) e q)

pub told_of : (o n : Option (List ℕ)) (P : List ℕ → Type 0) (R : List ℕ → List ℕ → Type 0) → IfSome o P → ((b a : List ℕ) → P b → R b a) → WhereTold o n R
told_of None n P R p f = tt
told_of (Some b) None P R p f = tt
told_of (Some b) (Some a) P R p f = f b a p

-- ---- from the state before the store was opened

pub cause_from : (first old new : ℕ) → first ≤ old → Rose old new → Rose first new
cause_from first old new le rose = omega (arith, le, rose)

pub only_before : (first old : disks.State) (bytes : List ℕ) → disks.Unchanged first old → disks.Only bytes first → disks.Only bytes old
only_before first old bytes same only c is = only c ((same.images c).0 is)

pub every_image_from : (first old new : disks.State) (P : List ℕ → Type 0) → disks.Unchanged first old → EveryImage old new P → EveryImage first new P
every_image_from first old new P same every =
    let turns : disks.turn old ≡ disks.turn first = ap length same.trace in
    record {
      later = omega (arith, every.later, turns);
      each = λ c was. every.each c (subst (λ (t : ℕ). new.was_image t c) (sym turns) was);
      before = λ t c le was. ⊎_elim (λ (e : old.was_image t c). inl ((same.since t c).0 e)) (λ (p : P c). inr p) (every.before t c (omega (arith, le, turns)) was);
    }

-- these devices with this disk
abbrev pub at_disk : disks.State → Devices → Devices
at_disk disk d = devices disk d.desk.notary d.clock d.input d.out

-- ---- by how the store was opened

-- the bytes have this header, of the id, and are a file in segments
pub record IsHeaderOf (id : ℕ) (bytes : List ℕ) (header : Header) : Type 0 where
  pub header_is : (stored bytes).header ≡ Some header
  pub id_is : header.id ≡ id
  pub format_is : format_of bytes ≡ Some Two

pub opened_on : (id : ℕ) (Then : Header → Effect) (result : Status) (old new : Devices)
    → WhereTold old.desk.disk.reads new.desk.disk.reads (λ before after. (header : Header) × IsHeaderOf id before header × Then header result old new) → OnStore id Then result old new
opened_on id Then result old new told = inr (inr (told_map old.desk.disk.reads new.desk.disk.reads _ _ told (λ before after h.
    subst (λ (o : Option Header). OnHeader id o (format_of before) Then result old new) (sym h.1.header_is)
    ((λ e. subst (λ (f : Option Format). OnFormat f (Then h.0) result old new) (sym h.1.format_is) h.2), (λ ne. absurd (ne h.1.id_is))))))

-- what is said of the bytes that the header stands in is said wherever they are told
pub telling : (o n : Option (List ℕ)) (H : List ℕ → Header → Type 0) (P : Header → List ℕ → List ℕ → Type 0) → WhereTold o n (λ before after. (header : Header) × H before header × P header before after) → WhereTold o n (λ before after. (header : Header) × H before header × WhereTold o n (P header))
telling (Some b) (Some a) H P h = h
telling (Some b) None H P h = tt
telling None n H P h = tt

-- a refusal of the opening, by its name
pub is_none_by : (id : ℕ) (o : Option (List ℕ)) (fail named : StoreFail) → fail ≡ named
    → IfSome o (λ bytes. IsNoStore id (stored bytes).header (format_of bytes) fail) → IfSome o (λ bytes. IsNoStore id (stored bytes).header (format_of bytes) named)
is_none_by id o fail named is none = subst (λ (f : StoreFail). IfSome o (λ bytes. IsNoStore id (stored bytes).header (format_of bytes) f)) is none

module _ (id : ℕ) (Then : Header → Effect) (result : Status) (old new : Devices) (left : AllIsLeft old new) where
  pub nowhere : IfSome old.desk.disk.reads (λ bytes. IsNoStore id (stored bytes).header (format_of bytes) stores.NotAStore) → Said (refused statuses.NotAStore) result old.out new.out → OnStore id Then result old new
  nowhere none said = inr (inr (told_of old.desk.disk.reads new.desk.disk.reads _ _ none (λ before after other. by (stored before).header (format_of before) other)))
    where
      by : (header : Option Header) (format : Option Format) → IsNoStore id header format stores.NotAStore → OnHeader id header format Then result old new
      by None format other = record { said = said; left = left }
      by (Some header) format other = ((λ e. absurd (other e)), (λ ne. record { said = said; left = left }))

  pub old_format : IfSome old.desk.disk.reads (λ bytes. IsNoStore id (stored bytes).header (format_of bytes) stores.OldFormat) → Said (refused statuses.OldFormat) result old.out new.out → OnStore id Then result old new
  old_format is_old said = inr (inr (told_of old.desk.disk.reads new.desk.disk.reads _ _ is_old (λ before after one. by (stored before).header (format_of before) one)))
    where
      by : (header : Option Header) (format : Option Format) → IsNoStore id header format stores.OldFormat → OnHeader id header format Then result old new
      by None format one = absurd one.0
      by (Some header) format one = ((λ e. subst (λ (f : Option Format). OnFormat f (Then header) result old new) (sym one.1) (record { said = said; left = left })), (λ ne. absurd (ne one.0)))

  pub unopened : Rose old.desk.disk.faults new.desk.disk.faults → Said (refused statuses.DiskFault) result old.out new.out → OnStore id Then result old new
  unopened rose said = inl (rose, record { said = said; left = left })

  pub wanting : result ≡ statuses.NoMemory → sinks.Unchanged old.out new.out → OnStore id Then result old new
  wanting is none_out = inr (inl (record { wanting = is; none_out = none_out; left = left }))
