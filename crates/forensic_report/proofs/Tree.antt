-- What the leaves of the trees show.
use Rattle.std.proofs.Common.{◌≡◌, ◌⊎◌, inl, inr, ℕ, true, false, List, Option, Some, Ok, sym, ap, subst, ◌∙◌}
use Rattle.std.specs.List.{Contains}
use Rattle.history_model.specs.History.{History}
use Rattle.digest_model.specs.Layout.{layout, tile_of, has_tree}
use Rattle.notary_link.specs.Batches.{Batch}
use Rattle.audit_model.specs.Altered.{HasOtherHeader, HashClash}
use Rattle.audit_model.specs.Laws.{IsAudit}
use Rattle.audit_model.specs.Ranges.{range_has}
use Rattle.audit_model.proofs.Filed.{each}
use Rattle.audit_model.proofs.Planned.{other_is_not}
use Rattle.audit_model.proofs.TreeAudit.{descent_has, descent_is}
use Rattle.a3d_forensics.specs.Descent.{tree_found, tree_checks, tree_stop, tree_told}
use Rattle.a3d_forensics.proofs.Notarized.{all_listed, only_listed}
use Rattle.forensic_report.specs.declared.algorithm.Algorithm.TheVariants.{A3d}
use Rattle.forensic_report.specs.Analysis.{Analysis, Findings, Leaves, Found, is_some_bad, bad_tiles}
use Rattle.forensic_report.specs.Finding.{extent_of, analysis_by, has_chains}
use Rattle.forensic_report.specs.Shows.{IsAlteredWithin, AreAltered, Shows}
use Rattle.forensic_report.proofs.Layouts.{tree_of_audit}
use Rattle.forensic_report.proofs.Lists.{unstopped, none_bad}
use Rattle.forensic_report.proofs.Told.{leaves, found_in_tree, tree_is}
use Rattle.forensic_report.proofs.Headers.{IsPassed, own_shows, passed_shows}

-- what the descent finds
abbrev found_leaves : List Batch → History → Option ℕ → ℕ → Findings
found_leaves batches s era n = leaves (found_in_tree batches s era n)

-- ---- under the header and the eras that were filed

module _ (era : Option ℕ) (batches : List Batch) (id : ℕ) (h s : History) (n : ℕ) (audit : IsAudit batches id h s n) (has : range_has has_tree era h n ≡ true) where
  listed : (g : ℕ) → IsAlteredWithin era h (Some s) n g → Contains (tree_found batches s era n) g ⊎ HashClash h (Some s) n
  listed g alt = all_listed batches id h s era n audit has descent_has g alt.inside alt.altered

  unaltered : is_some_bad (bad_tiles (extent_of era s n) (found_leaves batches s era n)) ≡ false → (g : ℕ) → IsAlteredWithin era h (Some s) n g → HashClash h (Some s) n
  unaltered none g alt = elim (listed g alt) [
    | inl is ↦ absurd (none_bad (tile_of (layout s)) (tree_found batches s era n) g none is)
    | inr clash ↦ clash
  ]

  only : AreAltered h s n (extent_of era s n) (found_leaves batches s era n)
  only one = each (λ g. IsAlteredWithin era h (Some s) n g) (tree_found batches s era n)
      (λ g among. (let l = only_listed batches id h s era n audit has descent_is g among in record { altered = l.0; inside = l.1 }))

  leaves_own : Shows A3d batches h (Some s) n (Found (extent_of era s n) (found_leaves batches s era n))
  leaves_own = own_shows A3d era batches id h s n (found_leaves batches s era n) audit (λ g alt promised. listed g alt) unaltered tt only tt

-- ---- under any header that is answered the same

none_under_other : (era : Option ℕ) (h s : History) (n : ℕ) (granules : List ℕ) (checks : ℕ) → HasOtherHeader h (Some s) n → AreAltered h s n (extent_of era s n) (Leaves granules checks)
none_under_other era h s n granules checks other one = absurd (other_is_not h s n other one)

leaves_show : (era : Option ℕ) (batches : List Batch) (id : ℕ) (h s : History) (n : ℕ) → has_chains A3d era s n ≡ true → IsAudit batches id h s n ⊎ IsPassed h s n
    → Shows A3d batches h (Some s) n (Found (extent_of era s n) (found_leaves batches s era n))
leaves_show era batches id h s n has (inl audit) = leaves_own era batches id h s n audit (tree_of_audit batches id h s n audit era has)
leaves_show era batches id h s n has (inr passed) =
    passed_shows A3d era batches h s n (found_leaves batches s era n) passed (none_under_other era h s n (tree_found batches s era n) (tree_checks batches s era n) passed.other) tt

pub tree_shows : (era : Option ℕ) (batches : List Batch) (id : ℕ) (h s : History) (n : ℕ) (a : Analysis) → has_chains A3d era s n ≡ true
    → IsAudit batches id h s n ⊎ IsPassed h s n → Ok a ≡ analysis_by leaves (extent_of era s n) (tree_told batches s era n) → Shows A3d batches h (Some s) n a
tree_shows era batches id h s n a has header is =
    let u = unstopped leaves (extent_of era s n) (tree_stop batches s era n) (found_in_tree batches s era n) a (is ∙ ap (analysis_by leaves (extent_of era s n)) (tree_is batches s era n has)) in
    subst (λ (x : Analysis). Shows A3d batches h (Some s) n x) (sym u.1) (leaves_show era batches id h s n has header)
