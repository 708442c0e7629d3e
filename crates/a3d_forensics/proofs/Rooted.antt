-- What is told of a descent from the roots of a tree, a level after the other, and through one tree after another.
use Rattle.std.proofs.Common.{◌≡◌, ℕ, suc, ◌+◌, ◌*◌, ◌/◌, ◌^◌, Bool, true, false, List, [], ◌∷◌, ◌++◌, map, length, Option, None, Result, Ok, Err, refl, sym, ap, subst, ◌∙◌, inl, inr, arith}
use Rattle.std.specs.List.{flat_map, sum_by}
use Rattle.std.proofs.lemmas.Bool.{cases_Bool}
use Rattle.std.proofs.lemmas.List.{append-nil}
use Rattle.std.proofs.lemmas.List.Sums.{sum_by-cons}
use Rattle.notary_link.specs.declared.answer.Answer.{Answer}
use Rattle.notary_link.specs.declared.answer.Answer.TheVariants.{Same, Differs, Absent}
use Rattle.notary_link.specs.declared.fail.AskFail.{AskFail}
use Rattle.notary_link.specs.Batches.{Batch}
use Rattle.history_model.specs.History.{History}
use Rattle.digest_model.specs.Layout.{layout, has_tree}
use Rattle.digest_model.specs.Roots.{has_root_at, down_from, roots_of}
use Rattle.audit_model.specs.Names.{node_name}
use Rattle.audit_model.specs.Notary.{nodes_of}
use Rattle.audit_model.specs.Ranges.{range_has}
use Rattle.audit_model.specs.Tree.{is_different, found_from, forks_from, found, checks}
use Rattle.audit_model.specs.Asked.{IsTold, stop_at, or_stop, first_stop, unless_stopped}
use Rattle.a3d_forensics.specs.declared.found.A3dFound.{A3dFound}
use Rattle.a3d_forensics.specs.declared.tree.Tree.{Tree}
use Rattle.a3d_forensics.specs.Asking.{node_told, Compares}
use Rattle.a3d_forensics.specs.Descent.{granules_from, stop_from, found_in, checks_in, stop_in, tree_found, tree_checks, tree_stop, tree_told}
use Rattle.a3d_forensics.specs.Going.{stop_under, more_from, gone_from, left_by, GoesFrom, more_at}
use Rattle.a3d_forensics.specs.Rooted.{root_at_level, roots_below, granules_under, checks_under, gone_over, GoesOver, gone_through, GoesThrough}
use Rattle.a3d_forensics.specs.Trees.{trees_of}
use Rattle.audit_model.proofs.Stops.{ended, stops_whole, or_none}
use Rattle.a3d_forensics.proofs.Going.{same_found, granules_append, at_more, at_stops}

-- ---- one root

node_is : (era : ℕ) (a : Answer) (level index : ℕ) → node_told era a level index ≡ unless_stopped (stop_at a (node_name era level index)) (is_different a)
node_is era Same level index = refl
node_is era Differs level index = refl
node_is era Absent level index = refl

one_level : (leaves level root : ℕ) → has_root_at leaves level ≡ true → root ≡ 2 * (leaves / 2 ^ (level + 1)) → root_at_level leaves level ≡ (level, root) ∷ []
one_level leaves level root has place = (let at : ℕ → ℕ × ℕ = λ i. (level, i) in rw has (ap (λ (i : ℕ). at i ∷ []) (sym place)))

module _ (tree : Tree) (nodes : ℕ → ℕ → Answer) (level : ℕ) (old : A3dFound) where
  -- of no root
  pub over_none : has_root_at tree.leaves level ≡ false → GoesOver tree nodes (root_at_level tree.leaves level) (Ok tt) old old
  unfolding first_stop
  over_none none = rw none (ap Ok (same_found old.granules (old.granules ++ []) old.checks (old.checks + 0) (sym (append-nil old.granules)) (omega arith)))

  module _ (root : ℕ) (has : has_root_at tree.leaves level ≡ true) (place : root ≡ 2 * (tree.leaves / 2 ^ (level + 1))) where
    -- the root's own answer stops it
    pub root_stops : (fail : AskFail) (new : A3dFound) → Compares tree.era (nodes level root) level root (Err fail) → GoesOver tree nodes (root_at_level tree.leaves level) (Err fail) old new
    unfolding first_stop
    root_stops fail new told =
        let one = one_level tree.leaves level root has place in
        let stopped = subst (λ (d : Result Bool AskFail). IsTold d (Err fail)) (node_is tree.era (nodes level root) level root) told in
        subst (λ (roots : List (ℕ × ℕ)). IsTold (gone_over tree nodes roots old) (Err fail)) (sym one)
        (stops_whole (stop_at (nodes level root) (node_name tree.era level root)) (is_different (nodes level root)) (gone_over tree nodes ((level, root) ∷ []) old) fail stopped (λ stop. rw stop refl))

    -- or what is below it
    pub root_goes : (differs : Bool) (result : Result (Unit {0}) AskFail) (mid new : A3dFound) → mid.granules ≡ old.granules → mid.checks ≡ old.checks + 1
        → Compares tree.era (nodes level root) level root (Ok differs) → GoesFrom tree nodes level root differs result mid new → GoesOver tree nodes (root_at_level tree.leaves level) result old new
    unfolding first_stop
    root_goes differs result mid new same one_more told gone =
        let one = one_level tree.leaves level root has place in
        let answered = ended (stop_at (nodes level root) (node_name tree.era level root)) (is_different (nodes level root)) differs
        (subst (λ (d : Result Bool AskFail). IsTold d (Ok differs)) (node_is tree.era (nodes level root) level root) told) in
        let here_it = granules_from tree.first (found_from nodes level root) in
        let sum : sum_by (checks_under nodes) ((level, root) ∷ []) ≡ 1 + 2 * forks_from nodes level root + 0 = sum_by-cons (checks_under nodes) (level, root) [] in
        let granules_same : mid.granules ++ here_it ≡ old.granules ++ (here_it ++ []) =
        ap (λ (gs : List ℕ). gs ++ here_it) same ∙ ap (λ (gs : List ℕ). old.granules ++ gs) (sym (append-nil here_it)) in
        let checks_same : mid.checks + 2 * forks_from nodes level root ≡ old.checks + sum_by (checks_under nodes) ((level, root) ∷ []) = omega (arith, one_more, sum) in
        let stop_same : stop_under tree.era nodes level root ≡ first_stop (stop_from tree.era nodes (level, root) ∷ []) =
        sym (ap (λ (s : Option AskFail). or_stop (or_stop s (stop_under tree.era nodes level root)) None) answered.0 ∙ or_none (stop_under tree.era nodes level root)) in
        let whole : gone_from tree nodes level root mid ≡ gone_over tree nodes ((level, root) ∷ []) old =
        ap (λ (s : Option AskFail). unless_stopped s (more_from tree.first nodes level root mid)) stop_same
        ∙ ap (unless_stopped (first_stop (stop_from tree.era nodes (level, root) ∷ []))) (same_found _ _ _ _ granules_same checks_same) in
        subst (λ (roots : List (ℕ × ℕ)). IsTold (gone_over tree nodes roots old) (left_by result new)) (sym one)
        (subst (λ (d : Result A3dFound AskFail). IsTold d (left_by result new)) whole (gone answered.1))

-- ---- from level to level

pub next_roots : (leaves level : ℕ) → roots_below leaves (suc level) ≡ root_at_level leaves level ++ roots_below leaves level
unfolding down_from
next_roots leaves level = elim (cases_Bool (has_root_at leaves level)) [
  | inl one ↦ rw one refl
  | inr none ↦ rw none refl
]

-- what is told of a whole tree is what is told from here on
abbrev pub GoesDown : (ℕ → ℕ → ℕ → Answer) → Tree → A3dFound → ℕ → A3dFound → Type 0
GoesDown nodes tree start level found = gone_through nodes (tree ∷ []) start ≡ gone_over tree (nodes tree.era) (roots_below tree.leaves level) found

joined : (f : ℕ → ℕ → Answer) (first : ℕ) (roots : List (ℕ × ℕ)) → flat_map (granules_under first f) roots ≡ granules_from first (flat_map (λ root. found_from f root.0 root.1) roots)
joined f first [] = refl
joined f first (root ∷ roots) =
    ap (λ (gs : List ℕ). granules_under first f root ++ gs) (joined f first roots)
    ∙ sym (granules_append first (found_from f root.0 root.1) (flat_map (λ root. found_from f root.0 root.1) roots))

counted : (f : ℕ → ℕ → Answer) (roots : List (ℕ × ℕ)) → sum_by (checks_under f) roots ≡ length roots + 2 * sum_by (λ root. forks_from f root.0 root.1) roots
counted f [] = omega arith
counted f (root ∷ roots) =
    let rest = counted f roots in
    let all = sum_by-cons (checks_under f) root roots in
    let forks = sum_by-cons (λ (r : ℕ × ℕ). forks_from f r.0 r.1) root roots in
    omega (arith, rest, all, forks)

module _ (nodes : ℕ → ℕ → ℕ → Answer) (tree : Tree) (start : A3dFound) where
  pub begins : GoesDown nodes tree start 32 start
  unfolding roots_of found checks first_stop
  begins =
      let f = nodes tree.era in
      let roots = roots_below tree.leaves 32 in
      let one = sum_by-cons (checks_in nodes) tree [] in
      let sum = counted f roots in
      let many : start.checks + sum_by (checks_in nodes) (tree ∷ []) ≡ start.checks + sum_by (checks_under f) roots = omega (arith, one, sum) in
      let all : found_in nodes tree ++ [] ≡ flat_map (granules_under tree.first f) roots = append-nil (found_in nodes tree) ∙ sym (joined f tree.first roots) in
      ap (λ (s : Option AskFail). unless_stopped s (more_at (found_in nodes) (checks_in nodes) (tree ∷ []) start)) (or_none (stop_in nodes tree))
      ∙ ap (unless_stopped (stop_in nodes tree)) (same_found _ _ _ _ (ap (λ (gs : List ℕ). start.granules ++ gs) all) many)

  pub goes_down : (level next : ℕ) (old new : A3dFound) → next ≡ suc level → GoesDown nodes tree start next old → GoesOver tree (nodes tree.era) (root_at_level tree.leaves level) (Ok tt) old new → GoesDown nodes tree start level new
  goes_down level next old new e on told =
      on ∙ ap (λ (l : ℕ). gone_over tree (nodes tree.era) (roots_below tree.leaves l) old) e ∙ ap (λ (roots : List (ℕ × ℕ)). gone_over tree (nodes tree.era) roots old) (next_roots tree.leaves level)
      ∙ at_more (stop_from tree.era (nodes tree.era)) (granules_under tree.first (nodes tree.era)) (checks_under (nodes tree.era)) (root_at_level tree.leaves level) (roots_below tree.leaves level) old new told

  pub stops_tree : (level next : ℕ) (fail : AskFail) (old new : A3dFound) → next ≡ suc level → GoesDown nodes tree start next old → GoesOver tree (nodes tree.era) (root_at_level tree.leaves level) (Err fail) old new
      → GoesThrough nodes (tree ∷ []) (Err fail) start new
  stops_tree level next fail old new e on told =
      subst (λ (d : Result A3dFound AskFail). IsTold d (Err fail))
      (sym (on ∙ ap (λ (l : ℕ). gone_over tree (nodes tree.era) (roots_below tree.leaves l) old) e ∙ ap (λ (roots : List (ℕ × ℕ)). gone_over tree (nodes tree.era) roots old) (next_roots tree.leaves level)))
      (at_stops (stop_from tree.era (nodes tree.era)) (granules_under tree.first (nodes tree.era)) (checks_under (nodes tree.era)) (root_at_level tree.leaves level) (roots_below tree.leaves level) old fail told)

  pub ends : (level : ℕ) (found : A3dFound) → level ≡ 0 → GoesDown nodes tree start level found → Ok found ≡ gone_through nodes (tree ∷ []) start
  unfolding first_stop down_from
  ends level found e on =
      sym (on ∙ ap (λ (l : ℕ). gone_over tree (nodes tree.era) (roots_below tree.leaves l) found) e ∙ ap Ok (same_found _ _ _ _ (append-nil found.granules) (omega arith)))

-- ---- from tree to tree

-- what is told of a range is what is told from here on
abbrev pub GoesOn : List Batch → History → Option ℕ → ℕ → List Tree → A3dFound → Type 0
GoesOn batches s era n left found = gone_through (nodes_of batches s) (trees_of era (layout s) n) (record { granules = []; checks = 0 }) ≡ gone_through (nodes_of batches s) left found

module _ (batches : List Batch) (s : History) (era : Option ℕ) (n : ℕ) where
  pub begins_all : (found : A3dFound) → found.granules ≡ [] → found.checks ≡ 0 → GoesOn batches s era n (trees_of era (layout s) n) found
  begins_all found none nought = ap (gone_through (nodes_of batches s) (trees_of era (layout s) n)) (sym (same_found found.granules [] found.checks 0 none nought))

  pub goes_on_to : (tree : Tree) (left : List Tree) (old new : A3dFound) → GoesOn batches s era n (tree ∷ left) old → GoesThrough (nodes_of batches s) (tree ∷ []) (Ok tt) old new → GoesOn batches s era n left new
  goes_on_to tree left old new on told = on ∙ at_more (stop_in (nodes_of batches s)) (found_in (nodes_of batches s)) (checks_in (nodes_of batches s)) (tree ∷ []) left old new told

  whole : gone_through (nodes_of batches s) (trees_of era (layout s) n) (record { granules = []; checks = 0 })
      ≡ unless_stopped (tree_stop batches s era n) (record { granules = tree_found batches s era n; checks = tree_checks batches s era n })
  unfolding tree_found tree_checks tree_stop
  whole = ap (unless_stopped (first_stop (map (stop_in (nodes_of batches s)) (trees_of era (layout s) n)))) (same_found _ _ _ _ refl (omega arith))

  -- what is told of the range
  of_range : (result : Result A3dFound AskFail) → range_has has_tree era s n ≡ true → IsTold (gone_through (nodes_of batches s) (trees_of era (layout s) n) (record { granules = []; checks = 0 })) result
      → IsTold (tree_told batches s era n) result
  of_range result has told = rw has (subst (λ (d : Result A3dFound AskFail). IsTold d result) whole told)

  pub stops_all : (tree : Tree) (left : List Tree) (fail : AskFail) (old new : A3dFound) → range_has has_tree era s n ≡ true → GoesOn batches s era n (tree ∷ left) old
      → GoesThrough (nodes_of batches s) (tree ∷ []) (Err fail) old new → IsTold (tree_told batches s era n) (Err fail)
  stops_all tree left fail old new has on told =
      of_range (Err fail) has (subst (λ (d : Result A3dFound AskFail). IsTold d (Err fail)) (sym on)
      (at_stops (stop_in (nodes_of batches s)) (found_in (nodes_of batches s)) (checks_in (nodes_of batches s)) (tree ∷ []) left old fail told))

  pub ends_all : (found : A3dFound) → range_has has_tree era s n ≡ true → GoesOn batches s era n [] found → IsTold (tree_told batches s era n) (Ok found)
  unfolding first_stop
  ends_all found has on = of_range (Ok found) has (sym (on ∙ ap Ok (same_found _ _ _ _ (append-nil found.granules) (omega arith))))
