use Rattle.std.proofs.Common.{List, ℕ, subst, refl, arith, inl, inr, ◌∙◌}
use Rattle.disk_words.proofs.Frame as disk_frames
use Rattle.line_runs.specs.Devices.{devices}
use Rattle.line_runs.specs.MakingLines.{MakesTextFrom}
use Rattle.line_runs.proofs.Behaving.{goes_on_beside, all_left, unchanged_same}
use Rattle.line_runs.proofs.SoundKept.{sound_same}
use Rattle.line_runs.specs.Ends.{make_ends}
use Rattle.line_runs.specs.declared.status.Status.TheVariants as statuses
use Rattle.line_runs.proofs.Ended.{ends_cut}
use Rattle.line_runs.proofs.Seeing.{ends_other}
use Rattle.line_runs.proofs.make.make_opened.Goals as goal

pub returns-in-Ok-clause-told : goal.returns-in-Ok-clause-told
returns-in-Ok-clause-told g c = λ input. inr (subst (λ (text : List ℕ). MakesTextFrom c.args.count text c.args.runner.now c.make_text.result
    (devices (g.D.Disk.state c.args.disk.now) (g.N.Notary.state c.args.notary.now) (g.C.Clock.state c.args.clock.now) input (g.O.Sink.state c.args.out.now))
    (devices (g.D.Disk.state c.make_text.new.disk) (g.N.Notary.state c.make_text.new.notary) (g.C.Clock.state c.make_text.new.clock) input (g.O.Sink.state c.make_text.new.out)))
    (c.as_slice.ensures.value ∙ c.in-Ok.ensures.value) (c.make_text.ensures.told input))

pub returns-in-Err-clause-told : goal.returns-in-Err-clause-told
returns-in-Err-clause-told g c = λ input. inl (record { wanting = refl; none_out = refl; left = all_left _ _ _ _ _ (unchanged_same _) })

pub returns-in-Err-clause-sound : goal.returns-in-Err-clause-sound
returns-in-Err-clause-sound g c = sound_same _ (g.D.Disk.state c.args.disk.now) (g.N.Notary.state c.args.notary.now)

pub returns-in-Err-clause-goes_on : goal.returns-in-Err-clause-goes_on
returns-in-Err-clause-goes_on g c = λ input. goes_on_beside _ _ _ (disk_frames.goes_on_same _) (record { told = refl; faults = omega arith })

pub returns-in-Ok-clause-ends : goal.returns-in-Ok-clause-ends
returns-in-Ok-clause-ends g c = c.make_text.ensures.ends

pub returns-in-Err-clause-ends : goal.returns-in-Err-clause-ends
returns-in-Err-clause-ends g c = ends_cut make_ends statuses.NoMemory (g.O.Sink.state c.args.out.now) (g.O.Sink.state c.args.out.now) (inr refl)

pub returns-in-Err-clause-counted : goal.returns-in-Err-clause-counted
returns-in-Err-clause-counted g c = ends_other statuses.NoMemory c.args.runner.now.refused (λ e. cc) (λ e. cc)
