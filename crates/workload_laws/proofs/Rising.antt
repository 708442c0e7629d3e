-- The moments of a script do not fall.
use Rattle.std.proofs.Common.{◌≡◌, ◌<◌, ◌≤◌, ◌+◌, ◌*◌, ◌^◌, ◌%◌, ℕ, zero, suc, List, [], ◌∷◌, ◌++◌, length, arith, length-append}
use Rattle.stmt_text.specs.declared.stmt.Stmt.{Stmt}
use Rattle.stmt_text.specs.declared.stmt.Stmt.TheVariants as stmts
use Rattle.workload_make.specs.declared.change.Change.{Change}
use Rattle.workload_make.specs.declared.change.Change.TheVariants.{Insert, Update, Delete}
use Rattle.workload_make.specs.Script.{Progress, before_steps, key, amount, first_word, change_at, change_stmt, next_moment, after_step, steps, script_stmts}
use Rattle.workload_laws.specs.Rising.{RisesFrom, ScriptsRise}

-- a change sets no moment
change_rises : (width moment : ℕ) (c : Change) (k v : ℕ) (rest : List Stmt) → RisesFrom width moment rest → RisesFrom width moment (change_stmt c k v ∷ rest)
change_rises width moment Insert k v rest h = h
change_rises width moment Update k v rest h = h
change_rises width moment Delete k v rest h = h

steps_rise : (n width : ℕ) (m : Progress) → 0 < width → m.moment < 2 ^ 64 → RisesFrom width m.moment (steps n width m ++ (stmts.Notarize ∷ stmts.Validate ∷ []))
unfolding steps
steps_rise zero width m some fits = tt
steps_rise (suc n) width m some fits =
    let less : first_word m % width < width = omega arith in
    let not_before : m.moment ≤ next_moment width m = omega arith in
    let soon : next_moment width m < m.moment + width = omega (arith, less) in
    (not_before, soon, change_rises width (next_moment width m) (change_at m) (key m) (amount m) _ (steps_rise n width (after_step width m) some (omega arith)))

steps_length : (n width : ℕ) (m : Progress) → length (steps n width m) ≡ 2 * n
unfolding steps
steps_length zero width m = omega arith
steps_length (suc n) width m = omega (arith, steps_length n width (after_step width m))

moments : (width last seed count : ℕ) → 0 < width → last < 2 ^ 64 → RisesFrom width last (script_stmts width last seed count)
unfolding script_stmts
moments width last seed count some fits = steps_rise count width (before_steps last seed) some fits

statements : (width last seed count : ℕ) → length (script_stmts width last seed count) ≡ 2 * count + 3
unfolding script_stmts
statements width last seed count = omega (arith, length-append (steps count width (before_steps last seed)) (stmts.Notarize ∷ stmts.Validate ∷ []), steps_length count width (before_steps last seed))

pub scripts_rise : ScriptsRise
scripts_rise = record { moments = moments; statements = statements }
