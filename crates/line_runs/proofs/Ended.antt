-- What was said ends a call as it may end.
use Rattle.std.proofs.Common.{◌≡◌, ◌≢◌, ◌++◌, ◌∙◌, ℕ, Bool, true, false, List, [], ◌∷◌, take, refl, sym, ap, subst, append_assoc, inl, inr}
use Rattle.std.specs.Prelude.{if◌then◌else◌, nat_lt}
use Rattle.std.specs.List.{list_any}
use Rattle.outside_io.specs.Sink as sinks
use Rattle.outside_io.specs.Sink.{State}
use Rattle.outside_io.proofs.Out.{nothing_out, out_then}
use Rattle.store_world.specs.declared.fail.LineFail.{LineFail}
use Rattle.store_world.specs.declared.fail.LineFail.TheVariants as lines
use Rattle.line_runs.specs.declared.run_fail.RunFail.{RunFail}
use Rattle.line_runs.specs.declared.run_fail.RunFail.TheVariants as fails
use Rattle.line_runs.specs.declared.status.Status.{Status}
use Rattle.line_runs.specs.declared.status.Status.TheVariants as statuses
use Rattle.line_runs.specs.Texts.{fault_line}
use Rattle.line_runs.specs.Outcome.{Outcome, CutsOff, Said, refused}
use Rattle.line_runs.specs.Saying.{SomeIsOut}
use Rattle.line_runs.specs.Ran.{ending_by}
use Rattle.line_runs.specs.Carrying.{EndsWith, of_line, status_of}
use Rattle.line_runs.specs.Ends.{Ends, IsFault, IsEndOf, is_like, run_ends, make_ends}

-- ---- some text

pub none_out : (old new : State) → new.held ≡ old.held → SomeIsOut old new
none_out old new same = ([], nothing_out old new same)

pub out_more : (old mid new : State) → SomeIsOut old mid → SomeIsOut mid new → SomeIsOut old new
out_more old mid new first next = (first.0 ++ next.0, out_then first.0 next.0 old mid new first.1 next.1)

pub front_out : (text : List ℕ) (old new : State) → sinks.FrontIsOut text old new → SomeIsOut old new
front_out text old new front = (take front.len text, front.out)

-- ---- what was said

module _ (kinds : List Status) (result : Status) (out written : State) where
  -- a text that was cut off names no fault
  pub ends_cut : CutsOff result → Ends kinds result out written
  ends_cut (inl e) = subst (λ (s : Status). Ends kinds s out written) (sym e) (record { status = refl; named = λ fault. absurd fault })
  ends_cut (inr e) = subst (λ (s : Status). Ends kinds s out written) (sym e) (record { status = refl; named = λ fault. absurd fault })

  pub ends_said : (d : Outcome) → IsEndOf kinds d.status → (IsFault d.status → d.text ≡ fault_line d.status) → Said d result out written → Ends kinds result out written
  ends_said d may tells (inl (is, text)) = record {
    status = subst (IsEndOf kinds) (sym is) may;
    named = λ fault. ([], subst (λ (line : List ℕ). sinks.IsOut line out written) (tells (subst IsFault is fault) ∙ ap fault_line (sym is)) text);
  }
  ends_said d may tells (inr (cut, front)) = ends_cut cut

  pub ends_refused : (why : Status) → IsEndOf kinds why → Said (refused why) result out written → Ends kinds result out written
  ends_refused why may said = ends_said (refused why) may (λ fault. refl) said

  -- behind what was out before
  pub ends_behind : (first : State) → SomeIsOut first out → Ends kinds result out written → Ends kinds result first written
  ends_behind first before e = record {
    status = e.status;
    named = λ fault. let h = e.named fault in
        (before.0 ++ h.0, subst (λ (text : List ℕ). sinks.IsOut text first written) (sym (append_assoc before.0 h.0 (fault_line result))) (out_then before.0 (h.0 ++ fault_line result) first out written before.1 h.1));
  }

  -- a status of no kind of these
  pub ends_never : (x : Status) → list_any (is_like x) (statuses.WriteFault ∷ statuses.NoMemory ∷ kinds) ≡ false → Ends kinds result out written → result ≢ x
  ends_never x none e is = let two : false ≡ true = sym none ∙ subst (IsEndOf kinds) is e.status in absurd cc

-- ---- lines

-- a run that stopped told why
pub ended : (kinds : List Status) (result : Status) (out written : State) (fail : RunFail) → IsEndOf kinds (status_of fail) → EndsWith fail result out written → Ends kinds result out written
ended kinds result out written fails.DiskFault may ends = ends_refused kinds result out written statuses.DiskFault may ends
ended kinds result out written fails.NotaryFault may ends = ends_refused kinds result out written statuses.NotaryFault may ends
ended kinds result out written fails.ReadFault may ends = ends_refused kinds result out written statuses.ReadFault may ends
ended kinds result out written fails.InputLimit may ends = ends_refused kinds result out written statuses.InputLimit may ends
ended kinds result out written fails.WriteFault may ends = ends_cut kinds result out written (inl ends.0)
ended kinds result out written fails.NoMemory may ends = ends_cut kinds result out written (inr ends.0)

pub run_may : (fail : RunFail) → IsEndOf run_ends (status_of fail)
run_may fails.DiskFault = refl
run_may fails.NotaryFault = refl
run_may fails.ReadFault = refl
run_may fails.InputLimit = refl
run_may fails.WriteFault = refl
run_may fails.NoMemory = refl

pub make_may : (fail : LineFail) → IsEndOf make_ends (status_of (of_line fail))
make_may lines.DiskFault = refl
make_may lines.NotaryFault = refl
make_may lines.NoMemory = refl

-- behind all lines of a script
made_may : (some : Bool) → IsEndOf make_ends (if some then statuses.Refused else statuses.Ok)
made_may true = refl
made_may false = refl

made_well : (some : Bool) → IsFault (if some then statuses.Refused else statuses.Ok) → ⊥
made_well true fault = fault
made_well false fault = fault

pub made_ended : (refusals : ℕ) (text : List ℕ) (result : Status) (out written : State) → Said (record { status = ending_by refusals; text = text }) result out written → Ends make_ends result out written
made_ended refusals text result out written said =
    ends_said make_ends result out written (record { status = ending_by refusals; text = text }) (made_may (nat_lt 0 refusals)) (λ fault. absurd (made_well (nat_lt 0 refusals) fault)) said
