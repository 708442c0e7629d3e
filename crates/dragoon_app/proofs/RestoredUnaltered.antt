-- Of a sound store `restore` loses nothing, and says of nothing that it is missing.
use Rattle.std.proofs.Common.{◌≡◌, ◌∙◌, ℕ, ◌+◌, Bool, true, false, cond, List, [], ◌∷◌, length, Option, Some, None, refl, sym, ap, subst, arith, ⊎_elim, Result, Ok, Err}
use Rattle.std.specs.Prelude.{IfSome, nat_le, if◌then◌else◌}
use Rattle.std.proofs.lemmas.Bool.Decides.{nat_tests}
use Rattle.outside_words.proofs.Told.{told_map}
use Rattle.notary_link.specs.declared.answer.Answer.{Answer}
use Rattle.notary_link.specs.declared.name.Name.{Name}
use Rattle.notary_link.specs.declared.name.Name.TheVariants as names
use Rattle.notary_link.specs.Batches.{Batch}
use Rattle.history_model.specs.declared.stored.Stored.{Stored}
use Rattle.history_model.specs.History.{History}
use Rattle.history_model.specs.Stored.{stored}
use Rattle.digest_model.specs.Layout.{layout, max_granules}
use Rattle.policy_eras.specs.Policy.{first_past}
use Rattle.audit_model.specs.Altered.{history_with}
use Rattle.audit_model.specs.Notary.{NotaryOf, is_same}
use Rattle.audit_model.specs.Sound.{IsSound, AllNotarized}
use Rattle.validator.proofs.Telling.{if_both}
use Rattle.forensic_report.proofs.Filed.{own_header}
use Rattle.restore_copy.specs.declared.fail.RestoreFail.TheVariants as fails
use Rattle.restore_copy.specs.declared.restored.Restored.{Restored}
use Rattle.restore_copy.specs.Passing.{Sources, if_same, beside, sources_of}
use Rattle.restore_copy.specs.Choosing.{sealed_end}
use Rattle.restore_copy.specs.Restored.{restored, restored_as}
use Rattle.restore_copy.specs.Runs.{runs_of}
use Rattle.restore_copy.specs.Restoring.{Ending, has_layout, told_of, unless_missing, units_restored, restored_of, restored_beside, OrRefused, WithSomeCopy}
use Rattle.restore_copy.proofs.Own.{own_kept, own_filed}
use Rattle.line_runs.specs.declared.status.Status.{Status}
use Rattle.line_runs.proofs.OnStore.{told_of as told_from}
use Rattle.dragoon_app.specs.AllDevices.{AllDevices}
use Rattle.dragoon_app.specs.Audited.{IsUnaltered, SaysUnaltered}
use Rattle.dragoon_app.specs.Restored.{restore_outcome, Restores, LosesNone, SaysNoneLost}
use Rattle.dragoon_app.proofs.EvidenceUnaltered.{held_by}
use Rattle.dragoon_app.proofs.Unaltered.{unaltered_said}

-- ---- what is told of a notarized history

-- there are no runs of no number
no_runs : (numbers : List ℕ) → numbers ≡ [] → runs_of numbers ≡ []
unfolding runs_of
no_runs numbers none = ap (λ (gs : List ℕ). runs_of gs) none

-- whether there is room or not
by_room : (r : Restored) → r.lost ≡ [] → (b : Bool) (answer : Ending) → OrRefused (if b then Ok (Some r) else Err fails.StoreFull) answer → LosesNone answer
by_room r none b (Ok None) told = tt
by_room r none true (Ok (Some made)) told = (let same : made ≡ r = cc in ap (λ (x : Restored). x.lost) same ∙ none)
by_room r none false (Ok (Some made)) told = absurd cc
by_room r none b (Err fails.AlreadyThere) told = tt
by_room r none b (Err fails.DiskFault) told = tt
by_room r none b (Err fails.NotaryFault) told = tt
by_room r none true (Err fails.HeaderLost) told = absurd cc
by_room r none false (Err fails.HeaderLost) told = absurd cc
by_room r none true (Err (fails.SealMissing name)) told = absurd cc
by_room r none false (Err (fails.SealMissing name)) told = absurd cc
by_room r none b (Err fails.StoreFull) told = tt
by_room r none b (Err fails.NoMemory) told = tt

-- where nothing is filed
unsealed_none : (answer : Ending) → OrRefused (Ok None) answer → LosesNone answer
unsealed_none (Ok None) told = tt
unsealed_none (Ok (Some made)) told = absurd cc
unsealed_none (Err fails.AlreadyThere) told = tt
unsealed_none (Err fails.DiskFault) told = tt
unsealed_none (Err fails.NotaryFault) told = tt
unsealed_none (Err fails.HeaderLost) told = absurd cc
unsealed_none (Err (fails.SealMissing name)) told = absurd cc
unsealed_none (Err fails.StoreFull) told = tt
unsealed_none (Err fails.NoMemory) told = tt

module _ (id : ℕ) (store : Stored) (copy : Option History) where
  module _ (first : Batch) (rest : List Batch) (n : ℕ) (s : History) (count : length rest ≡ n) (filed : NotaryOf (first ∷ rest) id s n) (under : history_with id store ≡ Some s) where
    abbrev all : List Batch
    all = first ∷ rest

    abbrev ss : Sources
    ss = record { first = s; second = beside s n copy }

    within : nat_le (sealed_end ss n) max_granules ≡ true
    within = let few = filed.within in grind (arith, nat_tests, few)

    passes : if_same all n (history_with id store) ≡ Some s
    passes = ap (if_same all n) under ∙ ap (λ (a : Answer). let o : Option History = cond (is_same a) (Some s) None in o) (own_header all id n s filed)

    beside_is : restored_beside all id store copy ≡ told_of all n ss
    beside_is =
        ap (λ (m : ℕ). restored_of all m (sources_of m (if_same all m (history_with id store)) copy)) count
        ∙ ap (λ (o : Option History). restored_of all n (sources_of n o copy)) passes
        ∙ ap (λ (b : Bool). let e : Ending = cond b (units_restored all n ss) (Err (fails.SealMissing (names.Cum (first_past (layout s))))) in e) within
        ∙ ap (λ (o : Option Name). unless_missing o (told_of all n ss)) (own_filed all id n ss filed)

    lost : (restored_as all ss n).lost ≡ []
    lost = no_runs _ (own_kept all id n ss filed)

    filed_none : (answer : Ending) → OrRefused (restored_beside all id store copy) answer → LosesNone answer
    filed_none answer told = by_room (restored_as all ss n) lost (has_layout (restored all ss n)) answer (subst (λ (e : Ending). OrRefused e answer) beside_is told)

  in_batches : (batches : List Batch) (n : ℕ) (s : History) → length batches ≡ n + 1 → NotaryOf batches id s n → history_with id store ≡ Some s → (answer : Ending) → OrRefused (restored_beside batches id store copy) answer → LosesNone answer
  in_batches [] n s count filed under answer told = unsealed_none answer told
  in_batches (first ∷ rest) n s count filed under answer told = filed_none first rest n s (omega (arith, count)) filed under answer told

-- of a sound store
sound_none : (id : ℕ) (is_image : List ℕ → Type 0) (batches : List Batch) (bytes : List ℕ) (copy : Option History) (answer : Ending) → is_image bytes → IsSound is_image batches id
    → OrRefused (restored_beside batches id (stored bytes) copy) answer → LosesNone answer
sound_none id is_image batches bytes copy answer here sound told = ⊎_elim
    (λ (none : batches ≡ []). unsealed_none answer (subst (λ (bs : List Batch). OrRefused (restored_beside bs id (stored bytes) copy) answer) none told))
    (λ (some : (n : ℕ) × (length batches ≡ n + 1) × AllNotarized is_image batches id n).
    (let held = held_by batches id some.0 (stored bytes).header (stored bytes) (some.2 bytes here) in in_batches id (stored bytes) copy batches some.0 held.0 some.1 held.2 held.1 answer told))
    sound

-- ---- what is out

module _ (id : ℕ) (result : Status) (old new : AllDevices) where
  pub none_lost : IfSome old.devices.desk.disk.reads old.devices.desk.disk.is_image → Restores id result old new → SaysNoneLost id result old new
  none_lost image r = told_from old.devices.desk.disk.reads new.devices.desk.disk.reads _ _ (if_both old.devices.desk.disk.reads old.devices.desk.disk.is_image _ image r.store_alone) (λ b a h.
      told_map old.devices.desk.notary.lists new.devices.desk.notary.lists _ _ h.1 (λ lists later is sound.
      (r.answer, sound_none id old.devices.desk.disk.is_image (lists.batches id) b is.copy r.answer h.0 sound is.answered, r.said)))

  well : (answer : Ending) → LosesNone answer → IsUnaltered (restore_outcome answer).status
  well (Ok None) none = tt
  well (Ok (Some r)) none = tt
  well (Err fails.AlreadyThere) none = tt
  well (Err fails.DiskFault) none = tt
  well (Err fails.NotaryFault) none = tt
  well (Err fails.HeaderLost) none = absurd none
  well (Err (fails.SealMissing name)) none = absurd none
  well (Err fails.StoreFull) none = tt
  well (Err fails.NoMemory) none = tt

  pub restore_unaltered : SaysNoneLost id result old new → SaysUnaltered id result old.devices.desk new.devices.desk
  restore_unaltered says = told_map old.devices.desk.disk.reads new.devices.desk.disk.reads _ _ says (λ b a h.
      told_map old.devices.desk.notary.lists new.devices.desk.notary.lists _ _ h (λ lists later is sound.
      (let x = is sound in unaltered_said (restore_outcome x.0) result old.devices.out new.devices.out x.2 (well x.0 x.1))))
