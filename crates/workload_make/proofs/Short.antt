-- How long a script is at most.
use Rattle.std.proofs.Common.{refl, List, append-nil, le_trans, ℕ, zero, suc, ◌+◌, ◌*◌, ◌<◌, ◌≤◌, ◌^◌, [], ◌++◌, length, arith, lit<, sym, length-append}
use Rattle.std.specs.Fmt.{decimal}
use Rattle.std.specs.List.{flat_map}
use Rattle.std.proofs.lemmas.Fmt.{length-decimal-le}
use Rattle.std.proofs.lemmas.Grind.{flat_map-append}
use Rattle.stmt_text.specs.declared.stmt.Stmt.TheVariants as stmts
use Rattle.workload_make.specs.declared.change.Change.{Change}
use Rattle.workload_make.specs.declared.change.Change.TheVariants.{Insert, Update, Delete}
use Rattle.workload_make.specs.Script.{Progress, key, amount, next_moment, change_stmt, change_at, ended_line, step_stmts, after_step, before_steps, steps, script}
use Rattle.workload_make.proofs.Lines.{now_line, insert_line, update_line, delete_line}
use Rattle.workload_make.proofs.Steps.{steps_text, script_pieces}

now_short : (m : ℕ) → m < 2 ^ 64 → length (ended_line (stmts.Now m)) ≤ 25
now_short m fits =
    let digits : length (decimal m) ≤ 20 = length-decimal-le 20 m (lit< tt) (omega arith) fits in
    rw now_line (simp length-append (omega arith))

pub change_short : (c : Change) (k v : ℕ) → k < 10 ^ 4 → v < 10 ^ 5 → length (ended_line (change_stmt c k v)) ≤ 23
change_short Insert k v few small =
    let keys : length (decimal k) ≤ 4 = length-decimal-le 4 k (lit< tt) few (omega arith) in
    let amounts : length (decimal v) ≤ 5 = length-decimal-le 5 v (lit< tt) small (omega arith) in
    rw (insert_line k v) (simp length-append (omega arith))
change_short Update k v few small =
    let keys : length (decimal k) ≤ 4 = length-decimal-le 4 k (lit< tt) few (omega arith) in
    let amounts : length (decimal v) ≤ 5 = length-decimal-le 5 v (lit< tt) small (omega arith) in
    rw (update_line k v) (simp length-append (omega arith))
change_short Delete k v few small =
    let keys : length (decimal k) ≤ 4 = length-decimal-le 4 k (lit< tt) few (omega arith) in
    rw (delete_line k) (simp length-append (omega arith))

both_short : (a b : List ℕ) (m n : ℕ) → length a ≤ m → length b ≤ n → length (a ++ b) ≤ m + n
both_short a b m n first second = simp length-append (omega arith)

step_short : (width : ℕ) (m : Progress) → length (flat_map ended_line (step_stmts width m)) ≤ 48
step_short width m =
    let moment : next_moment width m < 2 ^ 64 = omega arith in
    let key_fits : key m < 10 ^ 4 = omega arith in
    let amount_fits : amount m < 10 ^ 5 = omega arith in
    both_short (ended_line (stmts.Now (next_moment width m))) (ended_line (change_stmt (change_at m) (key m) (amount m)) ++ []) 25 23
    (now_short (next_moment width m) moment)
    (rw append-nil (change_short (change_at m) (key m) (amount m) key_fits amount_fits))

steps_short : (n width : ℕ) (m : Progress) → length (steps_text n width m) ≤ 48 * n
unfolding steps
steps_short zero width m = omega arith
steps_short (suc n) width m =
    let fits : length (flat_map ended_line (step_stmts width m) ++ steps_text n width (after_step width m)) ≤ 48 + 48 * n = both_short _ _ 48 (48 * n) (step_short width m) (steps_short n width (after_step width m)) in
    rw (flat_map-append ended_line (step_stmts width m) (steps n width (after_step width m))) (le_trans fits (omega arith))

pub scripts_are_short : (width last seed count : ℕ) → length (script width last seed count) ≤ 48 * count + 48
scripts_are_short width last seed count =
    let text = script_pieces width last seed count (before_steps last seed) [] _ _ _ refl refl refl refl refl in
    rw (sym text) (simp length-append (let inner = steps_short count width (before_steps last seed) in omega arith))
