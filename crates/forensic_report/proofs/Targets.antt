-- What the answers tell of each tile, where nothing stopped.
use Rattle.std.proofs.Common.{◌≡◌, ◌⊎◌, inl, inr, ℕ, ◌<◌, true, List, Option, Some, None, Result, Ok, Err, refl, sym, ap, subst, ◌∙◌, arith}
use Rattle.std.specs.List.{Contains}
use Rattle.history_model.specs.History.{History}
use Rattle.digest_model.specs.Layout.{Layout, layout, SameTiles, exponent, whole}
use Rattle.digest_model.proofs.Layouts.{same_exponent}
use Rattle.notary_link.specs.declared.answer.Answer.{Answer}
use Rattle.notary_link.specs.declared.answer.Answer.TheVariants.{Same}
use Rattle.notary_link.specs.declared.fail.AskFail.{AskFail}
use Rattle.notary_link.specs.Batches.{Batch}
use Rattle.audit_model.specs.Ranges.{range_of}
use Rattle.audit_model.specs.Tiled.{IsTarget}
use Rattle.tiled_forensics.specs.Target.{parts, tile_told}
use Rattle.tiled_forensics.proofs.Targets.{is_same, is_target}
use Rattle.forensic_report.specs.declared.algorithm.Algorithm.TheVariants.{Tiled}
use Rattle.forensic_report.specs.Analysis.{Analysis, Targets, Found}
use Rattle.forensic_report.specs.Finding.{extent_of, stop_told, failing, analysis_by, targets_told, has_chains}
use Rattle.audit_model.proofs.Stops.{none_stops}
use Rattle.forensic_report.proofs.Lists.{unstopped, in_mapped, from_mapped}
use Rattle.a3d_forensics.proofs.Ranges.{in_range_of}
use Rattle.forensic_report.proofs.Layouts.{same_range}
use Rattle.forensic_report.proofs.Told.{stop_at_tile, failing_tile, stop_of_tiles, failing_tiles, tile_is}

-- a tile that fails is listed with its target
abbrev pub IsListed : Layout → (ℕ → Answer) → List (ℕ × ℕ) → ℕ → Type 0
IsListed l answers targets tile = (target : ℕ) × Contains targets (tile, target) × IsTarget (exponent l tile) answers target

-- Each tile of the range is the same or listed, and no other is listed.
pub record AreTargets (era : Option ℕ) (l : Layout) (answers : ℕ → ℕ → Answer) (n : ℕ) (targets : List (ℕ × ℕ)) : Type 0 where
  pub each : (tile : ℕ) → Contains (range_of era l n) tile → (answers tile whole ≡ Same) ⊎ IsListed l (answers tile) targets tile
  pub only : (t : ℕ × ℕ) → Contains targets t → Contains (range_of era l n) t.0 × IsTarget (exponent l t.0) (answers t.0) t.1

-- the same of tiles that lie alike
pub alike_targets : (era : Option ℕ) (l m : Layout) (answers : ℕ → ℕ → Answer) (n : ℕ) (targets : List (ℕ × ℕ)) → SameTiles n l m → AreTargets era m answers n targets → AreTargets era l answers n targets
alike_targets era l m answers n targets same are = record {
  each = λ tile among. elim (are.each tile (subst (λ (tiles : List ℕ). Contains tiles tile) one_range among)) [
    | inl is ↦ inl is
    | inr t ↦ inr (t.0, t.1, subst (λ (k : ℕ). IsTarget k (answers tile) t.0) (sym (same_exponent l m tile (same tile (in_range_of l era n tile among)))) t.2)
  ];
  only = λ t is.
      let o = are.only t is in
      let among = subst (λ (tiles : List ℕ). Contains tiles t.0) (sym one_range) o.0 in
      (among, subst (λ (k : ℕ). IsTarget k (answers t.0) t.1) (sym (same_exponent l m t.0 (same t.0 (in_range_of l era n t.0 among)))) o.1);
}
  where
    one_range : range_of era l n ≡ range_of era m n
    one_range = same_range era l m n same

same_pair : (a b : ℕ × ℕ) → Some a ≡ Some b → a ≡ b
same_pair a b e = cc

-- a failing tile was told its target
failed : (tile : ℕ) (told : Result (Option ℕ) AskFail) (t : ℕ × ℕ) → failing tile told ≡ Some t → (tile ≡ t.0) × (told ≡ Ok (Some t.1))
failed tile (Ok (Some target)) t e =
    let same = same_pair (tile, target) t e in
    (ap (λ (x : ℕ × ℕ). x.0) same, ap (λ (x : ℕ × ℕ). Ok (Some x.1)) same)
failed tile (Ok None) t e = absurd cc
failed tile (Err fail) t e = absurd cc

module _ (batches : List Batch) (s : History) (era : Option ℕ) (n : ℕ) (has : has_chains Tiled era s n ≡ true) where
  abbrev tiles : List ℕ
  tiles = range_of era (layout s) n

  target_is : (tile target : ℕ) → Contains tiles tile → tile_told batches s tile ≡ Ok (Some target) → IsTarget (exponent (layout s) tile) (parts batches s tile) target
  target_is tile target among is =
      is_target (parts batches s tile whole) (parts batches s tile) (exponent (layout s) tile) tile target refl (sym (tile_is batches s era n tile has among) ∙ is)

  listed_by : (tile : ℕ) (told : Result (Option ℕ) AskFail) → tile_told batches s tile ≡ told → stop_told told ≡ None → Contains tiles tile
      → (parts batches s tile whole ≡ Same) ⊎ IsListed (layout s) (parts batches s tile) (failing_tiles batches s tiles) tile
  listed_by tile (Err fail) is none among = absurd cc
  listed_by tile (Ok None) is none among =
      inl (is_same (parts batches s tile whole) (parts batches s tile) (exponent (layout s) tile) tile (sym (tile_is batches s era n tile has among) ∙ is))
  listed_by tile (Ok (Some target)) is none among =
      let listed = in_mapped (failing_tile batches s) tiles tile (tile, target) among (ap (failing tile) is) in
      inr (target, listed, target_is tile target among is)

  are_targets : stop_of_tiles batches s tiles ≡ None → AreTargets era (layout s) (parts batches s) n (failing_tiles batches s tiles)
  are_targets none = record {
    each = λ tile among. listed_by tile (tile_told batches s tile) refl (none_stops (stop_at_tile batches s) tiles tile none among) among;
    only = λ t is.
        let g = from_mapped (failing_tile batches s) tiles t is in
        let f = failed g.source (tile_told batches s g.source) t g.gives in
        let among = subst (λ (tile : ℕ). Contains tiles tile) f.0 g.is_in in
        (among, target_is t.0 t.1 among (ap (tile_told batches s) (sym f.0) ∙ f.1));
  }

  -- what was found are the targets
  pub record AreTold (a : Analysis) : Type 0 where
    pub targets : List (ℕ × ℕ)
    pub is : a ≡ Found (extent_of era s n) (Targets targets)
    pub are : AreTargets era (layout s) (parts batches s) n targets

  pub told_of : (a : Analysis) → Ok a ≡ analysis_by Targets (extent_of era s n) (targets_told batches s (range_of era (layout s) n)) → AreTold a
  told_of a is =
      let u = unstopped Targets (extent_of era s n) (stop_of_tiles batches s tiles) (failing_tiles batches s tiles) a is in
      record { targets = failing_tiles batches s tiles; is = u.1; are = are_targets u.0 }
