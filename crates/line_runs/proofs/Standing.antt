-- Where a run stands after a line that leaves the world alone.
use Rattle.std.proofs.Common.{◌≡◌, ℕ, List, ◌++◌, refl, sym, ap, subst, inl, Result, Ok, Err}
use Rattle.std.specs.Prelude.{OnOk, IfOk, IsOk}
use Rattle.disk_words.specs.Disk.{State, turn, Only}
use Rattle.disk_model.proofs.Moments.{started}
use Rattle.outside_words.proofs.Told.{told_same}
use Rattle.notary_link.specs.Notary as notaries
use Rattle.store_world.specs.declared.fail.LineFail.{LineFail}
use Rattle.store_world.specs.Stepping.{StoresEither}
use Rattle.store_world.specs.World.{World, StoresWorld}
use Rattle.store_world.proofs.Left.{stores_world, beside_same, files_still}
use Rattle.line_runs.specs.declared.runner.Runner.{Runner}
use Rattle.line_runs.specs.Running.{Running}
use Rattle.line_runs.specs.Devices.{desk}
use Rattle.line_runs.specs.Carrying.{IsAt, Goes}

pub stores_in : (r : Running) (runner : Runner) (bytes : List ℕ) → IsAt r runner bytes → StoresWorld r.world bytes
stores_in r runner bytes at = stores_world r.world runner.world bytes at.stands

-- since this turn there was no other moment than now
abbrev pub IsStill : State → Type 0
IsStill s = (c : List ℕ) → s.was_image (turn s) c → s.is_image c

pub goes_still : (r next : Running) (result : Result (List ℕ) LineFail) (runner later : Runner) (s : State) (filed : notaries.State) (bytes : List ℕ) → IsStill s → IsAt r runner bytes → next.world ≡ r.world
    → IfOk result (λ text. next.text ≡ r.text ++ text) → OnOk result (IsAt next later bytes) → Goes r next result later (desk s filed) (desk s filed) bytes bytes
goes_still r next result runner later s filed bytes still at same reply stands = record {
  reply = reply;
  stands = stands;
  settled = λ only. settled result only;
  images = λ only. started s (StoresEither r.world next.world) still (λ c here. inl (subst (StoresWorld r.world) (sym (only c here)) (stores_in r runner bytes at)));
  files = beside_same r.world (desk s filed) (desk s filed) refl _ (λ lists beside. files_still r.world next.world (IsOk result) s s bytes bytes lists (ap (λ (w : World). w.lists) same) beside.lists);
  sound = told_same filed.lists filed.lists _ refl (λ lists id only sound. sound);
}
  where
    settled : (result : Result (List ℕ) LineFail) → Only bytes s → OnOk result (Only bytes s)
    settled (Ok text) only = only
    settled (Err fail) only = tt
