-- What the code keeps between two steps, as a progress of the definition.
use Rattle.std.specs.Prelude.{ℕ, List, Bool, false, slice_index_or}
use Rattle.workload_make.specs.declared.maker.Maker.{Maker}
use Rattle.workload_make.specs.Script.{Progress}

-- a key is present where its place says so
abbrev pub present_in : List Bool → ℕ → Bool
present_in places = λ key. slice_index_or places key false

abbrev pub progress_of : Maker → Progress
progress_of m = record { moment = m.moment; generator = m.words; is_present = present_in m.present }
