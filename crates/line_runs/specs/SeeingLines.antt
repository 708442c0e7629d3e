-- What the parts of `run` have seen of their lines, wherever the runner stands.
use Rattle.std.specs.Prelude.{◌≡◌, ℕ, Bool, List, [], None, Result}
use Rattle.line_runs.specs.declared.run_fail.RunFail.{RunFail}
use Rattle.line_runs.specs.declared.runner.Runner.{Runner}
use Rattle.line_runs.specs.declared.seen.Seen.{Seen}
use Rattle.line_runs.specs.declared.status.Status.{Status}
use Rattle.line_runs.specs.Devices.{Devices}
use Rattle.line_runs.specs.Running.{Running}
use Rattle.line_runs.specs.Ran.{Runs}
use Rattle.line_runs.specs.Carrying.{FromWhere, Carries}
use Rattle.line_runs.specs.Sees.{Sees}

-- before the first line: no session is begun, and no reply is a refusal
pub record IsNew (begin : Running) : Type 0 where
  pub refused : begin.refused ≡ 0
  pub begun : (n : ℕ) → begin.world.sessions n ≡ None

-- lines were carried out, of which this was seen
pub record CarriesSeen (seen : Seen) (scripted : Bool) (result : Result (Unit {0}) RunFail) (last : Runner) (old new : Devices) (begin : Running) (before after : List ℕ) : Type 0 where
  pub carries : Carries scripted result last old new begin before after
  pub sees : IsNew begin → Sees scripted begin carries.done seen

abbrev pub CarriesSeenFrom : Seen → Result (Unit {0}) RunFail → Runner → Runner → Devices → Devices → Type 0
CarriesSeenFrom seen result runner last old new = FromWhere runner old.desk new.desk (CarriesSeen seen runner.is_scripted result last old new)

-- the same of a run
pub record RunsSeen (seen : Seen) (scripted : Bool) (begin : Running) (result : Status) (old new : Devices) (before after : List ℕ) : Type 0 where
  pub runs : Runs scripted begin result old new before after
  pub sees : IsNew begin → Sees scripted begin runs.done seen

abbrev pub RunsSeenFrom : Seen → Status → Runner → Devices → Devices → Type 0
RunsSeenFrom seen result runner old new = FromWhere runner old.desk new.desk (λ begin before after. begin.text ≡ [] → RunsSeen seen runner.is_scripted begin result old new before after)
