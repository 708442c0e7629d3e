-- What lines leave as a run: between two of them, and where one failed.
use Rattle.std.proofs.Common.{◌≤◌, ℕ, Bool, List, [], ◌∷◌, refl, sym, subst, inl, Err}
use Rattle.outside_words.proofs.Told.{told_map}
use Rattle.disk_words.specs.Disk as disks
use Rattle.disk_model.proofs.Moments.{weaker}
use Rattle.notary_link.specs.Notary as notaries
use Rattle.outside_io.specs.Clock as clocks
use Rattle.store_world.specs.declared.fail.LineFail.{LineFail}
use Rattle.store_world.specs.declared.fail.LineFail.TheVariants as lines
use Rattle.store_world.specs.World.{StoresWorld}
use Rattle.store_world.specs.Finding.{MayFind}
use Rattle.line_runs.specs.declared.runner.Runner.{Runner}
use Rattle.line_runs.specs.declared.status.Status.{Status}
use Rattle.line_runs.specs.Devices.{Desk}
use Rattle.line_runs.specs.Running.{Running, Timed, carried, Takes}
use Rattle.line_runs.specs.Failing.{EndsByUse}
use Rattle.line_runs.specs.Ran.{RunsLines, IsSettled}
use Rattle.line_runs.specs.Carrying.{Replies, of_line, status_of}
use Rattle.line_runs.proofs.Faults.{uses_run}
use Rattle.line_runs.proofs.Seconds.{takes_then, takes_blank}
use Rattle.line_runs.proofs.Nothing.{nothing, blank_nothing, carry_nothing, nothing_finds}
use Rattle.line_runs.proofs.Standing.{stores_in}
use Rattle.line_runs.proofs.Lines.{Stands, images_on, kept_on, found_on, files_on, files_done, each_more, front_of_more}

-- between two lines
pub lines_done : (scripted : Bool) (begin : Running) (done : List Timed) (s : Status) (runner : Runner) (old now : Desk) (clock ahead : clocks.State) (before after : List ℕ) → clocks.GoesOn clock ahead → Takes scripted done clock ahead
    → Stands scripted begin done runner old now before after → EndsByUse s scripted (carried scripted begin done) nothing
    → RunsLines scripted begin done nothing s (record { desk = old; clock = clock }) (record { desk = now; clock = ahead }) before after
lines_done scripted begin done s runner old now clock ahead before after clock_on takes stands uses =
    let r : Running = carried scripted begin done in
    record {
      none = λ settled. refl;
      tells = stands.tells;
      uses = uses;
      seconds = takes_then scripted done (nothing ∷ []) clock ahead ahead clock_on.told takes (takes_blank scripted nothing ahead ahead blank_nothing refl);
      images = λ only. weaker (stands.images only) (front_of_more scripted begin done (nothing ∷ []));
      kept = λ only c is. inl (subst (StoresWorld r.world) (sym (stands.settled only c is)) (stores_in r runner after stands.at));
      settled = λ settled only. stands.settled only;
      stores = λ settled. stores_in r runner after stands.at;
      found = told_map old.notary.lists now.notary.lists _ _ stands.found (λ lists later all beside. each_more MayFind scripted begin done nothing (all beside) (nothing_finds MayFind (λ w now. tt) scripted r));
      files = files_done scripted begin done nothing runner old now before after (IsSettled s old now) (carry_nothing scripted r) stands;
    }

-- a line failed, and was under way
unsettled : (fail : LineFail) (old new : Desk) → IsSettled (status_of (of_line fail)) old new → ⊥
unsettled lines.DiskFault old new s = s.disk refl
unsettled lines.NotaryFault old new s = s.notary refl
unsettled lines.NoMemory old new s = s.memory refl

pub lines_begun : (scripted : Bool) (begin : Running) (done : List Timed) (fail : LineFail) (runner last : Runner) (old mid new : Desk) (clock tick tock : clocks.State) (line before here after : List ℕ)
    → clocks.GoesOn clock tick → notaries.GoesOn old.notary mid.notary → notaries.GoesOn mid.notary new.notary → ((n : ℕ) (c : List ℕ) → n ≤ disks.turn new.disk → new.disk.is_image c → new.disk.was_image n c)
    → Takes scripted done clock tick → Stands scripted begin done runner old mid before here
    → (x : Replies line scripted (Err fail) last (record { desk = mid; clock = tick }) (record { desk = new; clock = tock }) (carried scripted begin done) here after)
    → RunsLines scripted begin done x.timed (status_of (of_line fail)) (record { desk = old; clock = clock }) (record { desk = new; clock = tock }) before after
lines_begun scripted begin done fail runner last old mid new clock tick tock line before here after clock_on first_on notary_on counts takes s x = record {
  none = λ settled. absurd (unsettled fail old new settled);
  tells = s.tells;
  uses = uses_run scripted (carried scripted begin done) x.timed fail x.only;
  seconds = takes_then scripted done (x.timed ∷ []) clock tick tock clock_on.told takes x.seconds;
  images = λ only. images_on scripted begin done x.timed runner last old mid new before here after first_on.limits notary_on.told.untold fail s x.goes only;
  kept = λ only c is. kept_on scripted begin done x.timed runner last old mid new before here after first_on.limits notary_on.told.untold fail counts s x.goes only c is;
  settled = λ settled only. absurd (unsettled fail old new settled);
  stores = λ settled. absurd (unsettled fail old new settled);
  found = found_on scripted begin done x.timed runner last old mid new before here after first_on.limits notary_on.told.untold s x.finds;
  files = files_on scripted begin done x.timed runner last old mid new before here after first_on.limits notary_on.told.untold fail (IsSettled (status_of (of_line fail)) old new) (unsettled fail old new) s x.goes;
}
