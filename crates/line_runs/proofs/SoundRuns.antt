-- A sound world stays sound along a run, and no line tells of an alteration.
use Rattle.std.proofs.Common.{◌≡◌, ℕ, ◌+◌, Bool, true, false, List, [], ◌∷◌, length, Option, Some, refl, sym, subst, inl, inr, ⊎_elim, Result, Ok, Err}
use Rattle.tuple_bytes.specs.declared.header.Header.{Header}
use Rattle.history_model.specs.Stored.{stored}
use Rattle.history_model.specs.StoredHistory.{StoredIsHistory}
use Rattle.notary_link.specs.declared.notary.NotaryLimits.{NotaryLimits}
use Rattle.notary_link.specs.Batches.{Batch}
use Rattle.notary_link.specs.Notary.{Lists}
use Rattle.audit_model.specs.Altered.{history_in}
use Rattle.audit_model.specs.Sound.{IsSound, AllNotarized}
use Rattle.stmt_text.specs.declared.error.ParseFail.{ParseFail}
use Rattle.stmt_text.specs.declared.error.ParseFail.TheVariants as fails
use Rattle.stmt_text.specs.declared.line.Line.{Line}
use Rattle.stmt_text.specs.Lines.{answer}
use Rattle.store_world.specs.Found.{Found}
use Rattle.store_world.specs.World.{World}
use Rattle.store_world.specs.Finding.{MayFind}
use Rattle.store_world.specs.Laws.{HoldsFiled, IsSoundWorld, HasFitHeader, SoundWorldsStaySound}
use Rattle.store_world.specs.NoAlteration.{TellsNoAlteration}
use Rattle.stmt_text.specs.declared.kind.LineKind.{LineKind}
use Rattle.stmt_text.specs.declared.kind.LineKind.TheVariants as kinds
use Rattle.stmt_text.specs.Kinds.{line_kind}
use Rattle.line_runs.specs.Running.{Running, Timed, start, world_of, carry, carried, answered, said_by, seconds_of, set_moment, FindsBy, AllMayFind, AllTellNone}
use Rattle.line_runs.specs.Laws.{SoundRunsAreUnaltered, SoundBytesBeginSound}
use Rattle.line_runs.proofs.Nothing.{carry_is}

abbrev IsGood : World → Type 0
IsGood w = HasFitHeader w × IsSoundWorld w

module _ (law : SoundWorldsStaySound) (scripted : Bool) where
  moment_good : (b : Bool) (r : Running) (moment : ℕ) → IsGood r.world → IsGood (set_moment b r moment).world
  moment_good true r moment good = good
  moment_good false r moment good = good

  said_good : (kind : LineKind) (now : ℕ) (found : Found) (r : Running) (line : Line) → IsGood r.world → MayFind r.world line now found → IsGood (said_by kind scripted now found r line).world
  said_good kinds.Blank now found r line good may = good
  said_good (kinds.InWorld part) now found r line good may =
      let stays = law r.world line now found good.0 good.1 may in
      (stays.1, stays.0)
  said_good (kinds.SetsMoment moment) now found r line good may = moment_good scripted r moment good
  said_good kinds.OutsideScripts now found r line good may = good

  answered_good : (x : Result Line ParseFail) (now : ℕ) (found : Found) (r : Running) → IsGood r.world → FindsBy MayFind r.world x now found → FindsBy (λ w line now found. TellsNoAlteration w line found) r.world x now found × IsGood (answered scripted now found r x).world
  answered_good (Ok line) now found r good may = ((law r.world line now found good.0 good.1 may).2, said_good (line_kind line) now found r line good may)
  answered_good (Err fails.Syntax) now found r good may = (tt, good)
  answered_good (Err fails.NumberTooWide) now found r good may = (tt, good)
  answered_good (Err fails.NoMemory) now found r good may = (tt, good)

  all_good : (r : Running) (timed : List Timed) → IsGood r.world → AllMayFind scripted r timed → AllTellNone scripted r timed × IsSoundWorld (carried scripted r timed).world
  all_good r [] good may = (tt, good.1)
  all_good r (t ∷ timed) good may =
      let this = answered_good (answer t.line) (seconds_of scripted r t.second) t.found r good may.0 in
      let next : IsGood (carry scripted r t).world = subst (λ (s : Running). IsGood s.world) (sym (carry_is scripted r t (answer t.line) refl)) this.1 in
      let rest = all_good (carry scripted r t) timed next may.1 in
      ((this.0, rest.0), rest.1)

pub sound_runs : SoundWorldsStaySound → SoundRunsAreUnaltered
sound_runs law = λ scripted begin timed fit sound may. all_good law scripted begin timed (fit, sound) may

-- over bytes that are an image of a sound disk
pub sound_begin : (is_image : List ℕ → Type 0) (bytes : List ℕ) (header : Header) (lists : Lists) (limits : NotaryLimits) → is_image bytes → (stored bytes).header ≡ Some header → IsSound is_image (lists.batches header.id) header.id
    → IsSoundWorld (start (world_of header bytes) lists limits).world
sound_begin is_image bytes header lists limits here has sound =
    let batches : List Batch = lists.batches header.id in
    subst (λ (o : Option Header). HoldsFiled batches header.id (history_in (record { header = o; items = (stored bytes).items; end = (stored bytes).end }))) has (⊎_elim
    (λ (none : batches ≡ []). inl none)
    (λ (some : (n : ℕ) × (length batches ≡ n + 1) × AllNotarized is_image batches header.id n). inr (some.0, some.1, some.2 bytes here))
    sound)

pub sound_start : StoredIsHistory → SoundBytesBeginSound
sound_start law = λ bytes header lists limits fits has holds. (
  ((law bytes header fits has).header, refl),
  subst (λ (o : Option Header). HoldsFiled (lists.batches header.id) header.id (history_in (record { header = o; items = (stored bytes).items; end = (stored bytes).end }))) has holds,
)
