-- The order of entries, with one more.
use Rattle.std.proofs.Common.{◌≡◌, ◌≢◌, ℕ, ◌+◌, Bool, true, false, not, eqb, if◌then◌else◌, List, [], ◌∷◌, ◌++◌, length, Option, Some, None, ◌⊎◌, ⊎_elim, refl, sym, ap, ◌∙◌, arith}
use Rattle.std.proofs.lemmas.Bool.{eq-eqb, ne_eqb, cases_eq}
use Rattle.std.proofs.lemmas.List.{length_push}
use Rattle.notary_link.specs.declared.mark.Mark.{Mark}
use Rattle.notary_link.specs.Batches.{Batch}
use Rattle.notary_link.specs.Notary.{Call, file, note, Files, Notes}
use Rattle.notary_book.specs.Books.{lists_of}
use Rattle.notary_book.proofs.Lists.{files, notes}
use Rattle.file_findings.specs.declared.finding.Finding.{Finding}
use Rattle.file_findings.specs.declared.finding.Finding.TheVariants.{DamagedList}
use Rattle.file_findings.specs.Along.{listed, found_along}
use Rattle.file_findings.proofs.Along.{found_none, found_with}
use Rattle.book_inspect.specs.declared.order.Order.{Order}
use Rattle.book_inspect.specs.Entries.{batches_of}
use Rattle.book_inspect.specs.Order.{id_of, first_id, out_of_turn}
use Rattle.book_inspect.specs.KnownOrder.{count_in, first_or, KnowsOrder, TakesTurn, TakesNone}

first_push : (calls : List Call) (call : Call) → first_or (first_id calls) (id_of call) ≡ first_id (calls ++ call ∷ [])
first_push [] call = refl
first_push (first ∷ calls) call = refl

yes : (b : Bool) (m n : ℕ) → b ≡ true → (if b then m else n) ≡ m
yes b m n e = ap (λ (c : Bool). if c then m else n) e

no : (b : Bool) (m n : ℕ) → b ≡ false → (if b then m else n) ≡ n
no b m n e = ap (λ (c : Bool). if c then m else n) e

module _ (old new : Order) (calls : List Call) (known : KnowsOrder old calls) where
  module _ (id index : ℕ) (batch : Batch) (t : TakesTurn id index old new) where
    counted : (q : ℕ) → (id ≡ q) ⊎ (id ≢ q) → count_in new q ≡ length (batches_of q (calls ++ file id index batch ∷ []))
    counted q = ⊎_elim
        (λ same.
        t.counts q ∙ yes (eqb id q) (count_in old q + 1) (count_in old q) (eq-eqb id q same) ∙ ap (λ (n : ℕ). n + 1) (known.counts q)
        ∙ sym (ap (λ (i : ℕ). length (batches_of i (calls ++ file id index batch ∷ []))) (sym same) ∙ ap length (files calls id index batch).filed ∙ length_push (batches_of id calls) batch
        ∙ ap (λ (i : ℕ). length (batches_of i calls) + 1) same))
        (λ apart.
        t.counts q ∙ no (eqb id q) (count_in old q + 1) (count_in old q) (ne_eqb id q apart) ∙ known.counts q
        ∙ sym (ap length ((files calls id index batch).others q (λ e. apart (sym e)))))

    pub turn_known : KnowsOrder new (calls ++ file id index batch ∷ [])
    turn_known =
        let call : Call = file id index batch in
        let at : ℕ → ℕ → List Finding = λ place count. listed (not (eqb index count)) (DamagedList (place + 1)) in
        record {
          entries = omega (arith, t.entries, known.entries, length_push calls call);
          first = t.first ∙ ap (λ (o : Option ℕ). first_or o id) known.first ∙ first_push calls call;
          counts = λ q. counted q (cases_eq id q);
          found = found_with out_of_turn calls call old.found.items new.found.items _ t.found (ap (λ (n : ℕ). at n (count_in old id)) known.entries ∙ ap (at (length calls)) (known.counts id)) known.found;
        }

  pub none_known : (id : ℕ) (mark : Mark) → TakesNone id old new → KnowsOrder new (calls ++ note id mark ∷ [])
  none_known id mark t =
      let call : Call = note id mark in
      record {
        entries = omega (arith, t.entries, known.entries, length_push calls call);
        first = t.first ∙ ap (λ (o : Option ℕ). first_or o id) known.first ∙ first_push calls call;
        counts = λ q. t.counts q ∙ known.counts q ∙ sym (ap length ((notes calls id mark).batches q));
        found = t.found ∙ known.found ∙ sym (found_none out_of_turn calls call refl);
      }
