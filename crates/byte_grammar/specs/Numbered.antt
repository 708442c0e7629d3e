-- Words with a number behind them.
use Rattle.std.specs.Prelude.{ℕ, List, ◌++◌}
use Rattle.std.specs.Fmt.{decimal}

-- words and a number behind them
abbrev pub numbered : List ℕ → ℕ → List ℕ
numbered words n = words ++ decimal n
