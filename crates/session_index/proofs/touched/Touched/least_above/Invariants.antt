use Rattle.std.proofs.Common.{◌≡◌, drop}
use Rattle.session_model.specs.Index.{least_above, lesser}
use Rattle.session_model.specs.Standing.{numbers_at}
use Rattle.session_index.proofs.touched.Touched.least_above.Given as goal

abbrev pub invariant-loop-place : goal.invariant-loop-place
invariant-loop-place l = lesser l.least (least_above l.begun (numbers_at l.self) (drop l.place-index l.places)) ≡ least_above l.begun (numbers_at l.self) l.places
