-- A range of the first tiles of a history, held against what was notarized.
use Rattle.std.proofs.Common.{◌≡◌, ◌≢◌, ◌⊎◌, ℕ, zero, suc, ◌+◌, ◌-◌, ◌*◌, ◌^◌, ◌<◌, ◌≤◌, true, List, [], ◌∷◌, Option, Some, None, refl, sym, ap, subst, inl, inr, arith}
use Rattle.std.specs.List.{Contains, flat_map}
use Rattle.std.proofs.lemmas.List.Elements.{Contains-append_cases}
use Rattle.history_model.specs.History.{History}
use Rattle.digest_model.specs.Layout.{layout, first_granule, tile_of, has_tree, era_of}
use Rattle.digest_model.specs.Roots.{roots_of}
use Rattle.digest_model.proofs.Lists.{none_of, from_map}
use Rattle.digest_model.proofs.Members.{here, there, Contains-map, Contains-flat_map}
use Rattle.digest_model.proofs.Roots.{is_root}
use Rattle.notary_link.specs.declared.answer.Answer.{Answer}
use Rattle.notary_link.specs.declared.answer.Answer.TheVariants.{Same}
use Rattle.notary_link.specs.declared.fail.AskFail.TheVariants.{NotaryInconsistent}
use Rattle.notary_link.specs.Batches.{Batch}
use Rattle.audit_model.specs.Names.{node_name}
use Rattle.audit_model.specs.Altered.{IsAltered, HashClash}
use Rattle.audit_model.specs.Laws.{IsAudit, AnswersCompare, TreeIsConsistent, NodesAreConsistent, DescentHasAltered, DescentIsAltered}
use Rattle.audit_model.specs.Notary.{NotaryOf, nodes_of}
use Rattle.audit_model.specs.Ranges.{range_of, range_has}
use Rattle.audit_model.specs.Tree.{IsFound, IsConsistent, IsTree, leaves, as_root, found_from, found}
use Rattle.audit_model.proofs.Compare.{own_same}
use Rattle.audit_model.proofs.Descent.{found_exact}
use Rattle.audit_model.proofs.TreeAudit.{reached_within}
use Rattle.audit_model.proofs.Stops.{no_stop}
use Rattle.a3d_forensics.specs.declared.tree.Tree.{Tree}
use Rattle.a3d_forensics.specs.Descent.{granules_from, found_in, stop_from, stop_in, tree_found, tree_stop}
use Rattle.a3d_forensics.specs.Trees.{tiles_before, tree_of, trees_of}
use Rattle.a3d_forensics.proofs.Consistent.{from_fine, each_fine}
use Rattle.a3d_forensics.proofs.Ending.{ends}
use Rattle.a3d_forensics.proofs.EraTrees.{IsOf, of_range, tree_in, first_is, era_is, within_all, tile_inside, own_leaf, tree_is, leaves_of, over_some, each_planned, trees_alike}
use Rattle.a3d_forensics.proofs.Ranges.{in_range_of, own_tiles}
use Rattle.a3d_forensics.proofs.Filed.{node_filed}

-- ---- lists joined

from_joined : {X : Type 0} (f : X → List ℕ) (xs : List X) (y : ℕ) → Contains (flat_map f xs) y → (x : X) × Contains xs x × Contains (f x) y
from_joined f [] y is = absurd (none_of y is)
from_joined f (x ∷ xs) y is = elim (Contains-append_cases (f x) (flat_map f xs) y is) [
  | inl first ↦ (x, here x xs, first)
  | inr rest ↦ (let r = from_joined f xs y rest in (r.0, there x r.0 xs r.1, r.2))
]

none_joined : {X : Type 0} (f : X → List ℕ) (xs : List X) → ((x : X) → Contains xs x → f x ≡ []) → flat_map f xs ≡ []
none_joined f [] each = refl
none_joined f (x ∷ xs) each =
    let first = each x (here x xs) in
    let rest = none_joined f xs (λ y is. each y (there x y xs is)) in
    rw (first, rest) refl

-- ---- another history under the notarized header and eras

module _ (batches : List Batch) (id : ℕ) (h s : History) (era : Option ℕ) (n : ℕ) (audit : IsAudit batches id h s n) (has : range_has has_tree era h n ≡ true) where
  same_trees : trees_of era (layout h) n ≡ trees_of era (layout s) n
  same_trees = trees_alike (layout h) (layout s) n audit.places era

  -- the tree of an era, its tiles, and the answers for its nodes
  module _ (number : ℕ) (of : IsOf era (layout h) n (tree_of (layout h) n number) number) where
    abbrev a : ℕ
    a = tiles_before (layout h) n number

    abbrev b : ℕ
    b = tiles_before (layout h) n (number + 1)

    small : (tree_of (layout h) n number).leaves < 2 ^ 32
    small = (let few = within_all (layout h) n number in let low = audit.filed.within in omega (arith, few, low))

    some_tree : (level index : ℕ) → (index + 1) * 2 ^ level ≤ (tree_of (layout h) n number).leaves → IsTree h n number a b
    some_tree level index over = tree_is h era n number (tree_of (layout h) n number) has of (over_some (layout h) n number level index over)

    tree_sound : TreeIsConsistent → IsConsistent (tree_of (layout h) n number).leaves (nodes_of batches s (tree_of (layout h) n number).era)
    tree_sound consistent level index reached differs =
        let nodes = nodes_of batches s (tree_of (layout h) n number).era in
        let within = reached_within (tree_of (layout h) n number).leaves nodes (suc level) index reached in
        let is = consistent batches id h s n number a b audit (some_tree (suc level) index within) in
        let many = leaves_of h n number in
        let whole : IsConsistent (tree_of (layout h) n number).leaves nodes =
        subst (λ (m : ℕ). IsConsistent m nodes) many (subst (λ (e : ℕ). IsConsistent (leaves h a b) (nodes_of batches s e)) (sym (era_is (layout h) n number)) is) in
        whole level index reached differs

    -- an altered granule of the tree is found
    tree_has : DescentHasAltered → (g : ℕ) → (tree_of (layout h) n number).first ≤ g → g < (tree_of (layout h) n number).first + (tree_of (layout h) n number).leaves → IsAltered h (Some s) n g
        → Contains (found_in (nodes_of batches s) (tree_of (layout h) n number)) g ⊎ HashClash h (Some s) n
    tree_has descent g from to altered =
        let nodes = nodes_of batches s (tree_of (layout h) n number).era in
        let first = first_is (layout h) n number in
        let many = leaves_of h n number in
        let place : (tree_of (layout h) n number).first + (g - (tree_of (layout h) n number).first) ≡ g = omega (arith, from) in
        let same : g ≡ first_granule (layout h) a + (g - (tree_of (layout h) n number).first) = omega (arith, place, first) in
        let is = some_tree 0 (g - (tree_of (layout h) n number).first) (omega (arith, from, to)) in
        elim (descent batches id h s n number a b (g - (tree_of (layout h) n number).first) audit is (omega (arith, from, to, many)) (subst (IsAltered h (Some s) n) same altered)) [
          | inl found_it ↦
              (let listed : IsFound (tree_of (layout h) n number).leaves nodes (g - (tree_of (layout h) n number).first) =
              subst (λ (m : ℕ). IsFound m nodes (g - (tree_of (layout h) n number).first)) many
              (subst (λ (e : ℕ). IsFound (leaves h a b) (nodes_of batches s e) (g - (tree_of (layout h) n number).first)) (sym (era_is (layout h) n number)) found_it) in
              let among = (found_exact (tree_of (layout h) n number).leaves (g - (tree_of (layout h) n number).first) nodes small).1 listed in
              inl (subst (Contains (found_in (nodes_of batches s) (tree_of (layout h) n number))) place
              (Contains-map (λ (leaf : ℕ). (tree_of (layout h) n number).first + leaf) (found (tree_of (layout h) n number).leaves nodes) (g - (tree_of (layout h) n number).first) among)))
          | inr clash ↦ inr clash
        ]

    -- and each that is found is one
    tree_only : DescentIsAltered → (g : ℕ) → Contains (found_in (nodes_of batches s) (tree_of (layout h) n number)) g → IsAltered h (Some s) n g × Contains (range_of era (layout h) n) (tile_of (layout h) g)
    tree_only descent g among =
        let nodes = nodes_of batches s (tree_of (layout h) n number).era in
        let first = first_is (layout h) n number in
        let many = leaves_of h n number in
        let r = from_map (λ (leaf : ℕ). (tree_of (layout h) n number).first + leaf) (found (tree_of (layout h) n number).leaves nodes) g among in
        let place = r.2 in
        let is_found = (found_exact (tree_of (layout h) n number).leaves r.0 nodes small).0 r.1 in
        let within = reached_within (tree_of (layout h) n number).leaves nodes 0 r.0 is_found.reached in
        let is = some_tree 0 r.0 within in
        let listed : IsFound (leaves h a b) (nodes_of batches s number) r.0 =
        subst (λ (e : ℕ). IsFound (leaves h a b) (nodes_of batches s e) r.0) (era_is (layout h) n number) (subst (λ (m : ℕ). IsFound m nodes r.0) (sym many) is_found) in
        let altered = descent batches id h s n number a b r.0 audit is listed in
        let same : first_granule (layout h) a + r.0 ≡ g = omega (arith, place, first) in
        (subst (IsAltered h (Some s) n) same altered, of.in_range (tile_of (layout h) g) (tile_inside (layout h) n number g (omega (arith, place), omega (arith, place, within))))

  pub audited_ends : AnswersCompare → TreeIsConsistent → tree_stop batches s era n ≡ None
  unfolding tree_stop
  audited_ends compare consistent = no_stop (stop_in (nodes_of batches s)) (trees_of era (layout s) n) (λ tree among.
      let in_h : Contains (trees_of era (layout h) n) tree = subst (λ (trees : List Tree). Contains trees tree) (sym same_trees) among in
      let r = of_range era (layout h) n tree in_h in
      let planned = each_planned h era n tree has audit.filed.within in_h in
      let sound : IsConsistent tree.leaves (nodes_of batches s tree.era) =
      subst (λ (t : Tree). IsConsistent t.leaves (nodes_of batches s t.era)) (sym r.1.is) (tree_sound r.0 (record { is = refl; in_range = r.1.in_range }) consistent) in
      ends tree.era tree.leaves (nodes_of batches s tree.era) sound (node_filed compare batches id h s n tree audit.filed planned))

  -- the tree of a tile of the range
  own_of : (g : ℕ) → Contains (range_of era (layout h) n) (tile_of (layout h) g)
      → IsOf era (layout h) n (tree_of (layout h) n (era_of (layout h) (tile_of (layout h) g))) (era_of (layout h) (tile_of (layout h) g))
  own_of g inside = record { is = refl; in_range = own_tiles (layout h) era n (tile_of (layout h) g) inside }

  pub all_listed : DescentHasAltered → (g : ℕ) → Contains (range_of era (layout h) n) (tile_of (layout h) g) → IsAltered h (Some s) n g → Contains (tree_found batches s era n) g ⊎ HashClash h (Some s) n
  unfolding tree_found
  all_listed descent g inside altered =
      let below = in_range_of (layout h) era n (tile_of (layout h) g) inside in
      let among = tree_in era (layout h) n (tile_of (layout h) g) inside in
      let leaf = own_leaf (layout h) n g below in
      elim (tree_has (era_of (layout h) (tile_of (layout h) g)) (own_of g inside) descent g leaf.0 leaf.1 altered) [
        | inl found_it ↦
            inl (Contains-flat_map (found_in (nodes_of batches s)) (trees_of era (layout s) n) (tree_of (layout h) n (era_of (layout h) (tile_of (layout h) g))) g
            (subst (λ (trees : List Tree). Contains trees (tree_of (layout h) n (era_of (layout h) (tile_of (layout h) g)))) same_trees among) found_it)
        | inr clash ↦ inr clash
      ]

  pub only_listed : DescentIsAltered → (g : ℕ) → Contains (tree_found batches s era n) g → IsAltered h (Some s) n g × Contains (range_of era (layout h) n) (tile_of (layout h) g)
  unfolding tree_found
  only_listed descent g among =
      let joined = from_joined (found_in (nodes_of batches s)) (trees_of era (layout s) n) g among in
      let in_h : Contains (trees_of era (layout h) n) joined.0 = subst (λ (trees : List Tree). Contains trees joined.0) (sym same_trees) joined.1 in
      let r = of_range era (layout h) n joined.0 in_h in
      tree_only r.0 (record { is = refl; in_range = r.1.in_range }) descent g (subst (λ (t : Tree). Contains (found_in (nodes_of batches s) t) g) r.1.is joined.2)

pub never_inconsistent : NodesAreConsistent → (batches : List Batch) (id : ℕ) (h s : History) (range : Option ℕ) (n tiles era level index : ℕ) → NotaryOf batches id h n
    → tree_stop batches s range tiles ≢ Some (NotaryInconsistent era level index)
unfolding tree_stop
never_inconsistent consistent batches id h s range n tiles era level index filed =
    each_fine (stop_in (nodes_of batches s)) (trees_of range (layout s) tiles)
    (λ tree. each_fine (stop_from tree.era (nodes_of batches s tree.era)) (roots_of tree.leaves)
    (from_fine tree.era (nodes_of batches s tree.era) (λ l i differs. consistent batches id h s n tree.era l i filed differs))) era level index

-- ---- the notarized history

same_from : (era : ℕ) (nodes : ℕ → ℕ → Answer) (root : ℕ × ℕ) → nodes root.0 root.1 ≡ Same → stop_from era nodes root ≡ None
same_from era nodes root e = rw e refl

same_leaf : (nodes : ℕ → ℕ → Answer) (level index : ℕ) → nodes level index ≡ Same → found_from nodes level index ≡ []
unfolding found_from
same_leaf nodes zero index e = rw e refl
same_leaf nodes (suc level) index e = rw e refl

module _ (batches : List Batch) (id n : ℕ) (h : History) (era : Option ℕ) (filed : NotaryOf batches id h n) (has : range_has has_tree era h n ≡ true) where
  root_same : (tree : Tree) → Contains (trees_of era (layout h) n) tree → (root : ℕ × ℕ) → Contains (roots_of tree.leaves) root → nodes_of batches h tree.era root.0 root.1 ≡ Same
  root_same tree among root is =
      let within = reached_within tree.leaves (nodes_of batches h tree.era) root.0 root.1 (as_root (is_root tree.leaves root is)) in
      own_same batches id h n (node_name tree.era root.0 root.1) filed ((each_planned h era n tree has filed.within among).planned root.0 root.1 within)

  tree_none : (tree : Tree) → Contains (trees_of era (layout h) n) tree → found_in (nodes_of batches h) tree ≡ []
  unfolding found
  tree_none tree among =
      ap (granules_from tree.first) (none_joined (λ root. found_from (nodes_of batches h tree.era) root.0 root.1) (roots_of tree.leaves)
      (λ root is. same_leaf (nodes_of batches h tree.era) root.0 root.1 (root_same tree among root is)))

  pub none_found : tree_found batches h era n ≡ []
  unfolding tree_found
  none_found = none_joined (found_in (nodes_of batches h)) (trees_of era (layout h) n) tree_none

  pub none_stops : tree_stop batches h era n ≡ None
  unfolding tree_stop
  none_stops = no_stop (stop_in (nodes_of batches h)) (trees_of era (layout h) n) (λ tree among.
      no_stop (stop_from tree.era (nodes_of batches h tree.era)) (roots_of tree.leaves) (λ root is. same_from tree.era (nodes_of batches h tree.era) root (root_same tree among root is)))
