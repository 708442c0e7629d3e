-- Batches of seconds before their tiles had ended, with one entry more.
use Rattle.std.proofs.Common.{◌≡◌, ◌≢◌, ℕ, ◌+◌, Bool, if◌then◌else◌, List, [], ◌∷◌, ◌++◌, length, refl, sym, ap, ◌∙◌}
use Rattle.std.proofs.lemmas.Bool.{eq-eqb, ne_eqb}
use Rattle.std.proofs.lemmas.List.{length_push}
use Rattle.notary_link.specs.declared.mark.Mark.{Mark}
use Rattle.notary_link.specs.Batches.{Batch}
use Rattle.notary_link.specs.Notary.{Call, file, note}
use Rattle.notary_book.proofs.Lists.{files, notes}
use Rattle.file_findings.specs.declared.finding.Finding.{Finding}
use Rattle.file_findings.proofs.Along.{found_none, found_with}
use Rattle.store_inspect.specs.declared.seen.StoreKnown.{StoreKnown}
use Rattle.book_inspect.specs.Entries.{batches_of}
use Rattle.inspect_call.specs.declared.both.Early.{Early}
use Rattle.inspect_call.specs.Both.{early_at, batch_early}
use Rattle.inspect_call.specs.Known.{KnowsEarly, TakesEarly}

module _ (k : StoreKnown) (id : ℕ) (old new : Early) (calls : List Call) (known : KnowsEarly k id old calls) where
  pub early_batch : (index : ℕ) (batch : Batch) → TakesEarly k batch.moment old new → KnowsEarly k id new (calls ++ file id index batch ∷ [])
  early_batch index batch t =
      let own : List Finding = early_at k (length (batches_of id calls)) batch.moment in
      record {
        batches = t.batches ∙ ap (λ (n : ℕ). n + 1) known.batches ∙ sym (ap length (files calls id index batch).filed ∙ length_push (batches_of id calls) batch);
        found = found_with (batch_early k id) calls (file id index batch) old.found.items new.found.items _ t.found
            (ap (λ (n : ℕ). early_at k n batch.moment) known.batches ∙ sym (ap (λ (b : Bool). if b then own else []) (eq-eqb id id refl))) known.found;
      }

  pub early_other : (i index : ℕ) (batch : Batch) → i ≢ id → new.found.items ≡ old.found.items → new.batches ≡ old.batches → KnowsEarly k id new (calls ++ file i index batch ∷ [])
  early_other i index batch apart found batches =
      let own : List Finding = early_at k (length (batches_of id calls)) batch.moment in
      record {
        batches = batches ∙ known.batches ∙ sym (ap length ((files calls i index batch).others id (λ e. apart (sym e))));
        found = found ∙ known.found ∙ sym (found_none (batch_early k id) calls (file i index batch) (ap (λ (b : Bool). if b then own else []) (ne_eqb i id apart)));
      }

  pub early_mark : (i : ℕ) (mark : Mark) → new.found.items ≡ old.found.items → new.batches ≡ old.batches → KnowsEarly k id new (calls ++ note i mark ∷ [])
  early_mark i mark found batches = record {
    batches = batches ∙ known.batches ∙ sym (ap length ((notes calls i mark).batches id));
    found = found ∙ known.found ∙ sym (found_none (batch_early k id) calls (note i mark) refl);
  }
