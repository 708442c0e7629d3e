-- The steps of a script, one by one.
use Rattle.std.proofs.Common.{◌≡◌, ◌≢◌, ℕ, zero, suc, ◌+◌, ◌-◌, ◌<◌, ◌≤◌, Bool, true, false, List, [], ◌∷◌, ◌++◌, codes, sym, append_assoc, append-nil, length, get_or, set, eqb, if◌then◌else◌, refl, ap, ◌∙◌, arith}
use Rattle.std.specs.List.{flat_map}
use Rattle.std.proofs.Math.Path.{fun_ext}
use Rattle.std.proofs.Math.ListN.{replicate}
use Rattle.std.proofs.lemmas.Grind.{flat_map-append, common_steps}
use Rattle.std.proofs.lemmas.Bool.Decides.{nat_tests}
use Rattle.std.proofs.lemmas.List.{get_or-set_other}
use Rattle.workload_make.specs.Progress.{present_in}
use Rattle.workload_make.specs.Script.{Progress, before_steps, ended_line, step_stmts, steps, after_step, script, script_stmts}
use Rattle.stmt_text.specs.declared.stmt.Stmt.TheVariants as stmts
use Rattle.stmt_text.specs.Printing.{line_text, stmt_text}

abbrev pub steps_text : ℕ → ℕ → Progress → List ℕ
steps_text n width m = flat_map ended_line (steps n width m)

pub first_step : (n i width : ℕ) (m : Progress) → i < n
    → steps_text (n - i) width m ≡ flat_map ended_line (step_stmts width m) ++ steps_text (n - (i + 1)) width (after_step width m)
unfolding steps
first_step n i width m below =
    let more : n - i ≡ suc (n - (i + 1)) = omega arith in
    ap (λ k. steps_text k width m) more ∙ flat_map-append ended_line (step_stmts width m) (steps (n - (i + 1)) width (after_step width m))

-- the invariant, one step on
pub steps_go_on : (n i width : ℕ) (m next : Progress) (out longer all : List ℕ) → i < n
    → out ++ steps_text (n - i) width m ≡ all
    → longer ≡ out ++ flat_map ended_line (step_stmts width m)
    → next ≡ after_step width m
    → longer ++ steps_text (n - (i + 1)) width next ≡ all
steps_go_on n i width m next out longer all below so_far text after =
    let rest : List ℕ = steps_text (n - (i + 1)) width (after_step width m) in
    ap (λ x. longer ++ steps_text (n - (i + 1)) width x) after ∙ ap (λ t. t ++ rest) text
    ∙ append_assoc out (flat_map ended_line (step_stmts width m)) rest
    ∙ ap (λ t. out ++ t) (sym (first_step n i width m below)) ∙ so_far

-- and at its end
pub steps_end : (n i width : ℕ) (m : Progress) (out all : List ℕ) → n ≤ i → out ++ steps_text (n - i) width m ≡ all → out ≡ all
unfolding steps
steps_end n i width m out all over so_far =
    let none : n - i ≡ 0 = omega arith in
    sym (append-nil out) ∙ ap (λ k. out ++ steps_text k width m) (sym none) ∙ so_far

-- the text, put together in its three pieces
pub script_pieces : (width last seed count : ℕ) (m : Progress) (none head body whole : List ℕ)
    → none ≡ [] → head ≡ none ++ codes "create made id int amount int\n"
    → m ≡ before_steps last seed → body ≡ head ++ steps_text count width m
    → whole ≡ body ++ codes "notarize\nvalidate\n"
    → whole ≡ script width last seed count
unfolding script script_stmts line_text stmt_text
script_pieces width last seed count m none head body whole empty begun first put ended =
    ended ∙ ap (λ t. t ++ codes "notarize\nvalidate\n") (put ∙ ap (λ t. t ++ steps_text count width m) (begun ∙ ap (λ t. t ++ codes "create made id int amount int\n") empty)
    ∙ ap (λ x. codes "create made id int amount int\n" ++ steps_text count width x) first)
    ∙ ap (λ t. codes "create made id int amount int\n" ++ t) (sym (flat_map-append ended_line (steps count width (before_steps last seed)) (stmts.Notarize ∷ stmts.Validate ∷ [])))

-- ---- the keys, as places of a list

pub none_present : (n : ℕ) → ◌≡◌ {A = ℕ → Bool} (present_in (replicate n false)) (λ k. false)
none_present n = fun_ext (λ k. at n k)
  where
    at : (n k : ℕ) → get_or (replicate n false) k false ≡ false
    at zero k = refl
    at (suc n) zero = refl
    at (suc n) (suc k) = at n k

pub one_written : (present : List Bool) (key : ℕ) (b : Bool) → key < length present
    → ◌≡◌ {A = ℕ → Bool} (present_in (set present key b)) (λ k. if eqb k key then b else present_in present k)
one_written present key b within = fun_ext (λ k. by k (eqb k key) refl)
  where
    by : (k : ℕ) (c : Bool) → eqb k key ≡ c → get_or (set present key b) k false ≡ (if c then b else get_or present k false)
    by k true e = let same : k ≡ key = grind (arith, nat_tests, e) in grind (arith, common_steps)
    by k false e = let other : k ≢ key = grind (arith, nat_tests, e) in get_or-set_other present key k b false other
