-- What is told of a descent from one node, and through one place after another.
use Rattle.std.proofs.Common.{◌≡◌, ℕ, zero, suc, ◌+◌, ◌*◌, Bool, true, false, List, [], ◌∷◌, ◌++◌, map, Option, Some, None, Result, Ok, Err, refl, sym, ap, subst, ◌∙◌, arith}
use Rattle.std.specs.List.{flat_map, sum_by}
use Rattle.std.proofs.lemmas.List.{append_assoc, append-nil, map-append}
use Rattle.std.proofs.lemmas.List.Concat.{flat_map-append}
use Rattle.std.proofs.lemmas.List.Sums.{sum_by-append}
use Rattle.notary_link.specs.declared.answer.Answer.{Answer}
use Rattle.notary_link.specs.declared.fail.AskFail.{AskFail}
use Rattle.audit_model.specs.Tree.{is_different, found_from, forks_from}
use Rattle.audit_model.specs.Asked.{IsTold, or_stop, first_stop, unless_stopped}
use Rattle.a3d_forensics.specs.declared.found.A3dFound.{A3dFound}
use Rattle.a3d_forensics.specs.declared.tree.Tree.{Tree}
use Rattle.a3d_forensics.specs.Asking.{ComparesChildren}
use Rattle.a3d_forensics.specs.Descent.{stop_at_children, stop_below, granules_from}
use Rattle.a3d_forensics.specs.Going.{stop_under, more_from, gone_from, left_by, GoesFrom, more_at, gone_at}
use Rattle.audit_model.proofs.Stops.{ended, stops_whole, first_stop-append}

pub same_found : (xs ys : List ℕ) (m n : ℕ) → xs ≡ ys → m ≡ n → ◌≡◌ {A = A3dFound} (record { granules = xs; checks = m }) (record { granules = ys; checks = n })
same_found xs ys m n e f = rw (e, f) refl

module _ {A : Type 0} (c a b : Option AskFail) (found : A) (fail : AskFail) where
  stops_first : c ≡ Some fail → unless_stopped (or_stop c (or_stop a b)) found ≡ Err fail
  stops_first e = rw e refl

  stops_next : c ≡ None → a ≡ Some fail → unless_stopped (or_stop c (or_stop a b)) found ≡ Err fail
  stops_next e f = rw (e, f) refl

stops_last : {A : Type 0} (c a b : Option AskFail) (found : A) → c ≡ None → a ≡ None → unless_stopped (or_stop c (or_stop a b)) found ≡ unless_stopped b found
stops_last c a b found e f = rw (e, f) refl

pub granules_append : (first : ℕ) (xs ys : List ℕ) → granules_from first (xs ++ ys) ≡ granules_from first xs ++ granules_from first ys
granules_append first xs ys = map-append (λ (leaf : ℕ). first + leaf) xs ys

-- ---- from a node

module _ (tree : Tree) (nodes : ℕ → ℕ → Answer) (index : ℕ) (old : A3dFound) where
  same : (level : ℕ) → is_different (nodes level index) ≡ false → old ≡ more_from tree.first nodes level index old
  unfolding found_from forks_from
  same zero no_it = rw no_it (same_found old.granules (old.granules ++ []) old.checks (old.checks + 2 * 0) (sym (append-nil old.granules)) (omega arith))
  same (suc level) no_it = rw no_it (same_found old.granules (old.granules ++ []) old.checks (old.checks + 2 * 0) (sym (append-nil old.granules)) (omega arith))

  -- of a node that is the same
  pub nothing_from : (level : ℕ) (differs : Bool) → differs ≡ false → GoesFrom tree nodes level index differs (Ok tt) old old
  nothing_from level differs no_it is =
      let same_node : is_different (nodes level index) ≡ false = sym is ∙ no_it in
      rw same_node (ap Ok (same level same_node))

  -- of a leaf that differs
  pub leaf_from : (level : ℕ) (differs : Bool) (new : A3dFound) → level ≡ 0 → differs ≡ true → new.granules ≡ old.granules ++ (tree.first + index) ∷ [] → new.checks ≡ old.checks
      → GoesFrom tree nodes level index differs (Ok tt) old new
  unfolding stop_below found_from forks_from
  leaf_from zero differs new leaf yes_it granules checks is =
      let differs_so : is_different (nodes 0 index) ≡ true = sym is ∙ yes_it in
      rw differs_so (ap Ok (same_found new.granules (old.granules ++ (tree.first + index) ∷ []) new.checks (old.checks + 2 * 0) granules (omega (arith, checks))))
  leaf_from (suc level) differs new leaf yes_it granules checks is = absurd (omega (arith, leaf))

  -- of two children, where the node differs
  forked : (level : ℕ) → is_different (nodes (suc level) index) ≡ true → gone_from tree nodes (suc level) index old
      ≡ unless_stopped (or_stop (stop_at_children tree.era (nodes level (2 * index)) (nodes level (2 * index + 1)) level index) (or_stop (stop_under tree.era nodes level (2 * index)) (stop_under tree.era nodes level (2 * index + 1))))
      (record {
        granules = old.granules ++ (granules_from tree.first (found_from nodes level (2 * index)) ++ granules_from tree.first (found_from nodes level (2 * index + 1)));
        checks = old.checks + 2 * (1 + forks_from nodes level (2 * index) + forks_from nodes level (2 * index + 1));
      })
  unfolding stop_below found_from forks_from
  forked level e =
      let both = granules_append tree.first (found_from nodes level (2 * index)) (found_from nodes level (2 * index + 1)) in
      rw (e, both) refl

module _ (tree : Tree) (nodes : ℕ → ℕ → Answer) (level below index : ℕ) (differs : Bool) (old : A3dFound) (up : suc below ≡ level) (yes_it : differs ≡ true) where
  goes : (result : Result (Unit {0}) AskFail) (new : A3dFound) → (is_different (nodes (suc below) index) ≡ true → IsTold (gone_from tree nodes (suc below) index old) (left_by result new))
      → GoesFrom tree nodes level index differs result old new
  goes result new f is =
      subst (λ (l : ℕ). IsTold (gone_from tree nodes l index old) (left_by result new)) up (f (ap (λ (l : ℕ). is_different (nodes l index)) up ∙ sym is ∙ yes_it))

  -- the children stop it
  pub children_stop : (fail : AskFail) (new : A3dFound) → ComparesChildren tree.era nodes below index (Err fail) → GoesFrom tree nodes level index differs (Err fail) old new
  children_stop fail new told = goes (Err fail) new (λ e.
      stops_whole (stop_at_children tree.era (nodes below (2 * index)) (nodes below (2 * index + 1)) below index) (is_different (nodes below (2 * index)), is_different (nodes below (2 * index + 1)))
      (gone_from tree nodes (suc below) index old) fail told
      (λ stop. forked tree nodes index old below e
      ∙ stops_first (stop_at_children tree.era (nodes below (2 * index)) (nodes below (2 * index + 1)) below index) (stop_under tree.era nodes below (2 * index)) (stop_under tree.era nodes below (2 * index + 1)) _ fail stop))

  module _ (l r : Bool) (mid : A3dFound) (asked : ComparesChildren tree.era nodes below index (Ok (l, r))) where
    go_on : (stop_at_children tree.era (nodes below (2 * index)) (nodes below (2 * index + 1)) below index ≡ None) × ◌≡◌ {A = Bool × Bool} (l, r) (is_different (nodes below (2 * index)), is_different (nodes below (2 * index + 1)))
    go_on = ended (stop_at_children tree.era (nodes below (2 * index)) (nodes below (2 * index + 1)) below index) (is_different (nodes below (2 * index)), is_different (nodes below (2 * index + 1))) (l, r) asked

    -- what is below the left one stops it
    pub left_stops : (fail : AskFail) (then new : A3dFound) → GoesFrom tree nodes below (2 * index) l (Err fail) mid then → GoesFrom tree nodes level index differs (Err fail) old new
    left_stops fail then new left = goes (Err fail) new (λ e.
        stops_whole (stop_under tree.era nodes below (2 * index)) (more_from tree.first nodes below (2 * index) mid)
        (gone_from tree nodes (suc below) index old) fail (left (ap (λ (p : Bool × Bool). p.0) go_on.1))
        (λ stop. forked tree nodes index old below e
        ∙ stops_next (stop_at_children tree.era (nodes below (2 * index)) (nodes below (2 * index + 1)) below index) (stop_under tree.era nodes below (2 * index)) (stop_under tree.era nodes below (2 * index + 1)) _ fail go_on.0 stop))

    -- and then what is below the right one is told
    pub right_goes : (result : Result (Unit {0}) AskFail) (then new : A3dFound) → mid.granules ≡ old.granules → mid.checks ≡ old.checks + 2
        → GoesFrom tree nodes below (2 * index) l (Ok tt) mid then → GoesFrom tree nodes below (2 * index + 1) r result then new → GoesFrom tree nodes level index differs result old new
    right_goes result then new granules checks left right = goes result new (λ e.
        let lefts = granules_from tree.first (found_from nodes below (2 * index)) in
        let rights = granules_from tree.first (found_from nodes below (2 * index + 1)) in
        let done = ended (stop_under tree.era nodes below (2 * index)) (more_from tree.first nodes below (2 * index) mid) then (left (ap (λ (p : Bool × Bool). p.0) go_on.1)) in
        let xs : then.granules ≡ old.granules ++ lefts = ap (λ (f : A3dFound). f.granules) done.1 ∙ ap (λ (g : List ℕ). g ++ lefts) granules in
        let n : then.checks ≡ mid.checks + 2 * forks_from nodes below (2 * index) = ap (λ (f : A3dFound). f.checks) done.1 in
        let same_end : gone_from tree nodes below (2 * index + 1) then ≡ gone_from tree nodes (suc below) index old =
        ap (unless_stopped (stop_under tree.era nodes below (2 * index + 1)))
        (same_found (then.granules ++ rights) (old.granules ++ (lefts ++ rights))
        (then.checks + 2 * forks_from nodes below (2 * index + 1)) (old.checks + 2 * (1 + forks_from nodes below (2 * index) + forks_from nodes below (2 * index + 1)))
        (ap (λ (g : List ℕ). g ++ rights) xs ∙ append_assoc old.granules lefts rights)
        (omega (arith, n, checks)))
        ∙ sym (stops_last (stop_at_children tree.era (nodes below (2 * index)) (nodes below (2 * index + 1)) below index) (stop_under tree.era nodes below (2 * index)) (stop_under tree.era nodes below (2 * index + 1)) _ go_on.0 done.0)
        ∙ sym (forked tree nodes index old below e) in
        subst (λ (d : Result A3dFound AskFail). IsTold d (left_by result new)) same_end (right (ap (λ (p : Bool × Bool). p.1) go_on.1)))

-- ---- places after places

module _ {X : Type 0} (stop : X → Option AskFail) (granules : X → List ℕ) (checks : X → ℕ) (xs ys : List X) (old : A3dFound) where
  stops_in_order : first_stop (map stop (xs ++ ys)) ≡ or_stop (first_stop (map stop xs)) (first_stop (map stop ys))
  stops_in_order = ap first_stop (map-append stop xs ys) ∙ first_stop-append (map stop xs) (map stop ys)

  found_in_order : (new : A3dFound) → new ≡ more_at granules checks xs old → more_at granules checks (xs ++ ys) old ≡ more_at granules checks ys new
  found_in_order new e =
      let found : new.granules ≡ old.granules ++ flat_map granules xs = ap (λ (f : A3dFound). f.granules) e in
      let many : new.checks ≡ old.checks + sum_by checks xs = ap (λ (f : A3dFound). f.checks) e in
      let sums = sum_by-append checks xs ys in
      same_found _ _ _ _
      (ap (λ (gs : List ℕ). old.granules ++ gs) (flat_map-append granules xs ys)
      ∙ sym (append_assoc old.granules (flat_map granules xs) (flat_map granules ys))
      ∙ ap (λ (gs : List ℕ). gs ++ flat_map granules ys) (sym found))
      (omega (arith, many, sums))

  pub at_more : (new : A3dFound) → IsTold (gone_at stop granules checks xs old) (Ok new) → gone_at stop granules checks (xs ++ ys) old ≡ gone_at stop granules checks ys new
  at_more new told =
      let done = ended (first_stop (map stop xs)) (more_at granules checks xs old) new told in
      let stops : first_stop (map stop (xs ++ ys)) ≡ first_stop (map stop ys) =
      stops_in_order ∙ ap (λ (s : Option AskFail). or_stop s (first_stop (map stop ys))) done.0 in
      rw (stops, found_in_order new done.1) refl

  pub at_stops : (fail : AskFail) → IsTold (gone_at stop granules checks xs old) (Err fail) → IsTold (gone_at stop granules checks (xs ++ ys) old) (Err fail)
  at_stops fail told =
      stops_whole (first_stop (map stop xs)) (more_at granules checks xs old) (gone_at stop granules checks (xs ++ ys) old) fail told (λ stop. rw (stops_in_order, stop) refl)
