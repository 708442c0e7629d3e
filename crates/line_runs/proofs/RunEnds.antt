-- How a run ends behind lines that were carried out, and what was read and written then.
use Rattle.std.proofs.Common.{if◌then◌else◌, ◌≡◌, ◌∙◌, ℕ, Bool, true, false, List, [], refl, sym, ap, subst, inl, inr, ⊎_elim, Result, Ok, Err}
use Rattle.std.specs.Prelude.{◌⊎◌, nat_lt, IsErrOf}
use Rattle.outside_words.specs.Faults.{Rose}
use Rattle.outside_words.specs.Told.{WhereTold}
use Rattle.outside_words.proofs.Told.{told_map}
use Rattle.outside_io.specs.Sink.{State, IsOut, IsOutBut, FrontIsOut}
use Rattle.outside_io.proofs.Out.{out_then, out_but_end}
use Rattle.line_input.specs.Front.{AreFirst}
use Rattle.line_runs.specs.declared.status.Status.{Status}
use Rattle.line_runs.specs.declared.status.Status.TheVariants as statuses
use Rattle.line_runs.specs.declared.run_fail.RunFail.{RunFail}
use Rattle.line_runs.specs.declared.run_fail.RunFail.TheVariants as fails
use Rattle.line_runs.specs.Carrying.{IsWritten, ending, EndsWith}
use Rattle.line_runs.specs.Devices.{Desk, Devices}
use Rattle.line_runs.specs.Failing.{EndsByUse}
use Rattle.line_runs.specs.Outcome.{Said, CutsOff, refused}
use Rattle.line_runs.specs.Ran.{IsNext, TakesNoMore, Reads, CauseOf, IsToTell, IsCutAtEnd, Writes, IsSettled, ending_of, lines_in}
use Rattle.line_runs.specs.Running.{Running, Timed}
use Rattle.line_runs.specs.Texts.{fault_line}
use Rattle.line_runs.proofs.Faults.{KeepsUse}
use Rattle.validator.proofs.Telling.{told_both}

abbrev pub Ended : Type 0
Ended = Result (Unit {0}) RunFail

-- these devices with this output
abbrev pub at_out : State → Devices → Devices
at_out out d = record { desk = d.desk; clock = d.clock; input = d.input; out = out }

module _ (old new : Devices) (written : State) (done : List Timed) (next : Timed) (shown : List ℕ) (x : Running) where
  abbrev ReadAs : Status → Type 0
  ReadAs s = WhereTold old.input.rest new.input.rest (Reads s done next)

  abbrev IsFirst : Type 0
  IsFirst = WhereTold old.input.rest new.input.rest (λ all others. AreFirst (lines_in done) all)

  abbrev Told : Status → Type 0
  Told s = IsToTell done next old (at_out written new) s

  abbrev From : Status → (List ℕ → List ℕ → Type 0) → Type 0
  From s P = (all others : List ℕ) → Reads s done next all others → P all others

  -- How a run with this end is told by this status.
  pub record IsToldBy (result : Status) (r : Ended) : Type 0 where
    pub read : ReadAs result
    pub said : Writes (next.line ≡ []) (IsToTell done next old (at_out written new)) shown x result old.out written
    -- where it settles all, the lines did
    pub settles : IsSettled result old.desk new.desk → IsSettled (ending r) old.desk new.desk
    pub uses : KeepsUse (ending r) result

  -- ---- the line of a fault is out, or it was cut short

  module _ (fail : RunFail) (s : Status) (is : ending (Err fail) ≡ s) (read : ReadAs s) (first : IsFirst) (whole : IsOut x.text old.out new.out) (cause : CauseOf s old (at_out written new)) where
    tell : Told s
    tell = record { cause = cause; read = read }

    cut : {t : Status} → CutsOff t → FrontIsOut (fault_line s) new.out written → Writes (next.line ≡ []) (IsToTell done next old (at_out written new)) shown x t old.out written
    cut cuts front = inr (inr (cuts, inr (inr (s, tell, out_but_end x.text (fault_line s) old.out new.out written whole front))))

    told : ((Rose old.desk.disk.faults new.desk.disk.faults → ⊥) × (Rose old.desk.notary.faults new.desk.notary.faults → ⊥) → IsSettled s old.desk new.desk)
        → From s (λ all others. (next.line ≡ []) ⊎ IsNext done next all) → From s (TakesNoMore statuses.WriteFault done next)
        → (result : Status) → Said (refused s) result new.out written → IsToldBy result (Err fail)
    told never under little result said = ⊎_elim
        (λ (h : (result ≡ s) × IsOut (fault_line s) new.out written). subst (λ (t : Status). IsToldBy t (Err fail)) (sym h.0) (record {
          read = read;
          said = inr (inl (tell, out_then x.text (fault_line s) old.out new.out written whole h.1));
          settles = λ z. subst (λ (n : Status). IsSettled n old.desk new.desk) (sym is) z;
          uses = λ scripted y t used. subst (λ (n : Status). EndsByUse n scripted y t) is used;
        }))
        (λ (h : CutsOff result × FrontIsOut (fault_line s) new.out written). ⊎_elim
        (λ (e : result ≡ statuses.WriteFault). subst (λ (t : Status). IsToldBy t (Err fail)) (sym e) (record {
          read = told_map old.input.rest new.input.rest _ _ both (λ all others r. record { lines = r.0; under_way = under all others r.1; little = little all others r.1; front = r.1.front });
          said = cut (inl refl) h.1;
          settles = λ z. subst (λ (n : Status). IsSettled n old.desk new.desk) (sym is) (never (z.write refl));
          uses = λ scripted y t used. tt;
        }))
        (λ (e : result ≡ statuses.NoMemory). subst (λ (t : Status). IsToldBy t (Err fail)) (sym e) (record {
          read = told_map old.input.rest new.input.rest _ _ both (λ all others r. record { lines = r.0; under_way = under all others r.1; little = tt; front = r.1.front });
          said = cut (inr refl) h.1;
          settles = λ z. absurd (z.memory refl);
          uses = λ scripted y t used. tt;
        })) h.0)
        said
      where
        both : WhereTold old.input.rest new.input.rest (λ all others. AreFirst (lines_in done) all × Reads s done next all others)
        both = told_both old.input.rest new.input.rest _ _ first read

  -- ---- no fault line is told

  abbrev IsShort : State → Type 0
  IsShort out = ((next.line ≡ []) × IsOutBut shown x.text old.out out) ⊎ IsOut x.text old.out out

  cut_short : (out : State) → IsShort out → IsCutAtEnd (next.line ≡ []) (IsToTell done next old (at_out written new)) shown x.text old.out out
  cut_short out (inl short) = inl short
  cut_short out (inr all) = inr (inl all)

  unsaid : (fail : RunFail) → CutsOff (ending (Err fail)) → ReadAs (ending (Err fail)) → IsShort new.out
      → (result : Status) → (result ≡ ending (Err fail)) × (written ≡ new.out) → IsToldBy result (Err fail)
  unsaid fail cuts read short result ends = subst (λ (t : Status). IsToldBy t (Err fail)) (sym ends.0) (record {
    read = read;
    said = inr (inr (cuts, cut_short written (subst IsShort (sym ends.1) short)));
    settles = λ z. z;
    uses = λ scripted y t used. used;
  })

  -- ---- a failure

  pub told_failed : (fail : RunFail) (result : Status) → (IsErrOf {T = Unit {0}} (Err fail) fails.DiskFault → Rose old.desk.disk.faults new.desk.disk.faults) → (IsErrOf {T = Unit {0}} (Err fail) fails.NotaryFault → Rose old.desk.notary.faults new.desk.notary.faults)
      → (IsErrOf {T = Unit {0}} (Err fail) fails.ReadFault → Rose old.input.faults new.input.faults) → EndsWith fail result new.out written
      → IsFirst → ReadAs (ending (Err fail)) → IsWritten (next.line ≡ []) shown x.text (Err fail) old.out new.out → IsToldBy result (Err fail)
  told_failed fails.DiskFault result disk notary input ends first read whole = told fails.DiskFault statuses.DiskFault refl read first whole (inl (refl, disk refl)) (λ never. absurd (never.0 (disk refl)))
      (λ all others r. inr r.under_way) (λ all others r. inr r.little) result ends
  told_failed fails.NotaryFault result disk notary input ends first read whole = told fails.NotaryFault statuses.NotaryFault refl read first whole (inr (inl (refl, notary refl))) (λ never. absurd (never.1 (notary refl)))
      (λ all others r. inr r.under_way) (λ all others r. inr r.little) result ends
  told_failed fails.ReadFault result disk notary input ends first read whole = told fails.ReadFault statuses.ReadFault refl read first whole (inr (inr (inl (refl, input refl)))) (λ never. record { disk = λ e. cc; notary = λ e. cc; memory = λ e. cc; write = λ e. absurd cc })
      (λ all others r. r.under_way) (λ all others r. inl (inl r.lines)) result ends
  told_failed fails.InputLimit result disk notary input ends first read whole = told fails.InputLimit statuses.InputLimit refl read first whole (inr (inr (inr refl))) (λ never. record { disk = λ e. cc; notary = λ e. cc; memory = λ e. cc; write = λ e. absurd cc })
      (λ all others r. r.under_way) (λ all others r. inl (inl r.lines.0)) result ends
  told_failed fails.WriteFault result disk notary input ends first read short = unsaid fails.WriteFault (inl refl) read (inl short) result ends
  told_failed fails.NoMemory result disk notary input ends first read short = unsaid fails.NoMemory (inr refl) read short result ends

-- ---- all lines were carried out

pub ok_settled : (old new : Desk) → IsSettled statuses.Ok old new
ok_settled old new = record { disk = λ e. cc; notary = λ e. cc; memory = λ e. cc; write = λ e. absurd cc }

module _ (old new : Devices) (done : List Timed) (next : Timed) (shown : List ℕ) (x : Running) where
  abbrev AllTold : Status → Type 0
  AllTold result = IsToldBy old new new.out done next shown x result (Ok tt)

  pub told_well : (refusals : ℕ) → refusals ≡ x.refused → WhereTold old.input.rest new.input.rest (Reads statuses.Ok done next) → IsOut x.text old.out new.out → (b : Bool) → nat_lt 0 refusals ≡ b → AllTold (if b then statuses.Refused else statuses.Ok)
  told_well refusals at read out b flag = by b (ap (λ (f : Bool). if f then statuses.Refused else statuses.Ok) (sym flag ∙ ap (nat_lt 0) at))
    where
      by : (b : Bool) → (if b then statuses.Refused else statuses.Ok) ≡ ending_of x → AllTold (if b then statuses.Refused else statuses.Ok)
      by true is = record {
        read = told_map old.input.rest new.input.rest _ _ read (λ all others r. record { lines = r.lines; under_way = r.under_way; little = tt; front = r.front });
        said = inl (is, out);
        settles = λ z. ok_settled old.desk new.desk;
        uses = λ scripted y t used. tt;
      }
      by false is = record { read = read; said = inl (is, out); settles = λ z. z; uses = λ scripted y t used. used }
