-- What is answered for the header and the eras goes by the header and the sealed tiles.
use Rattle.std.proofs.Common.{◌≡◌, ℕ, zero, suc, ◌+◌, ◌<◌, ◌≤◌, Bool, List, length, refl, ap, ◌∙◌, arith}
use Rattle.std.specs.Prelude.{◌&&◌}
use Rattle.std.specs.List.{list_all, range_with_len}
use Rattle.tuple_bytes.specs.declared.header.Header.{Header}
use Rattle.history_model.specs.History.{History}
use Rattle.digest_model.specs.Layout.{Era, layout, sealed_eras, SameTiles}
use Rattle.digest_model.specs.Digests.{header_digest}
use Rattle.digest_model.proofs.Eras.{same_era_digest}
use Rattle.digest_model.proofs.Layouts.{same_eras}
use Rattle.notary_link.specs.declared.name.Name.TheVariants as names
use Rattle.notary_link.specs.Batches.{Batch, answer}
use Rattle.audit_model.specs.Names.{digest}
use Rattle.audit_model.specs.Notary.{answers, is_same, is_era_same, is_no_era, era_check, with_eras, header_answer}

module _ (batches : List Batch) (h s : History) (n : ℕ) (places : SameTiles n (layout h) (layout s)) where
  same_test : (e : ℕ) → e < length (sealed_eras (layout h) n) → is_era_same batches h (suc e) ≡ is_era_same batches s (suc e)
  unfolding digest
  same_test e below = ap (λ (d : List ℕ). is_same (answer batches (names.Era (suc e)) d)) (same_era_digest h s n e places below)

  same_tests : (a m : ℕ) → a + m ≤ length (sealed_eras (layout h) n) → list_all (is_era_same batches h) (range_with_len (a + 1) m) ≡ list_all (is_era_same batches s) (range_with_len (a + 1) m)
  same_tests a zero few = refl
  same_tests a (suc m) few =
      let next : a + 1 ≡ suc a = omega arith in
      let first : is_era_same batches h (a + 1) ≡ is_era_same batches s (a + 1) = rw next (same_test a (omega (arith, few))) in
      ap (λ (b : Bool). b && list_all (is_era_same batches h) (range_with_len (a + 1 + 1) m)) first
      ∙ ap (λ (b : Bool). is_era_same batches s (a + 1) && b) (same_tests (a + 1) m (omega (arith, few)))

  same_check : era_check batches h n ≡ era_check batches s n
  unfolding era_check
  same_check =
      ap (λ (b : Bool). b && is_no_era batches (length (sealed_eras (layout h) n) + 1)) (same_tests 0 (length (sealed_eras (layout h) n)) (omega arith))
      ∙ ap (λ (eras : List Era). list_all (is_era_same batches s) (range_with_len 1 (length eras)) && is_no_era batches (length eras + 1)) (same_eras (layout h) (layout s) n places)

  pub same_header_answer : h.header ≡ s.header → header_answer batches h n ≡ header_answer batches s n
  unfolding header_answer digest
  same_header_answer one =
      ap (λ (header : Header). with_eras (answer batches names.Header (header_digest header)) (era_check batches h n)) one
      ∙ ap (with_eras (answers batches s names.Header)) same_check
