-- All that is odd about the entries of a book.
use Rattle.std.proofs.Common.{◌≡◌, ℕ, ◌+◌, min, max, List, ◌++◌, length, take, append_assoc, Option, ap, ◌∙◌, arith}
use Rattle.std.proofs.lemmas.List.{take_min}
use Rattle.notary_link.specs.Notary.{Call}
use Rattle.file_findings.specs.declared.finding.Finding.{Finding}
use Rattle.book_inspect.specs.declared.entries.Entries.{Entries}
use Rattle.book_inspect.specs.declared.order.Order.{Order}
use Rattle.book_inspect.specs.Entries.{batches_of, latest_filed, findings_of_entries}
use Rattle.book_inspect.specs.Order.{first_id, damaged_list, foreign, other_id, ahead, book_ahead}
use Rattle.book_inspect.specs.KnownEntries.{KnowsEntries}
use Rattle.book_inspect.specs.KnownOrder.{KnowsOrder}
use Rattle.book_inspect.specs.Book.{entry_findings}

regroup : (a b c d e : List Finding) → (((a ++ b) ++ c) ++ d) ++ e ≡ a ++ (b ++ (c ++ (d ++ e)))
regroup a b c d e = simp append_assoc

module _ (id second : ℕ) (e : Entries) (o : Order) (calls : List Call) (known : KnowsEntries id e calls) (order : KnowsOrder o calls) where
  damaged : (part : List Finding) (listed : ℕ) → part ≡ take listed o.found.items → listed ≡ min (length o.found.items) 1 → part ≡ damaged_list calls
  damaged part listed is_part few =
      let one : listed ≡ min 1 (length o.found.items) = omega (arith, few) in
      is_part ∙ ap (λ (n : ℕ). take n o.found.items) one ∙ take_min 1 o.found.items ∙ ap (take 1) order.found

  others : foreign o.first (e.batches + e.marks) ≡ other_id id calls
  others =
      ap (λ (f : Option ℕ). foreign f (e.batches + e.marks)) order.first ∙ ap (λ (n : ℕ). foreign (first_id calls) (n + e.marks)) known.batches
      ∙ ap (λ (n : ℕ). foreign (first_id calls) (length (batches_of id calls) + n)) known.marks

  late : (last : ℕ) → last ≡ max e.latest_filed e.latest_marked → ahead last second ≡ book_ahead id second calls
  late last is = ap (λ (n : ℕ). ahead n second) (is ∙ ap (λ (m : ℕ). max m e.latest_marked) known.latest_of_batches ∙ ap (max (latest_filed id calls)) known.latest_of_marks)

  pub entry_all : (f0 f1 f2 f3 f4 part more : List Finding) (listed last : ℕ) → part ≡ take listed o.found.items → listed ≡ min (length o.found.items) 1 → f1 ≡ f0 ++ part → f2 ≡ f1 ++ foreign o.first (e.batches + e.marks)
      → f3 ≡ f2 ++ more → more ≡ findings_of_entries id calls → last ≡ max e.latest_filed e.latest_marked → f4 ≡ f3 ++ ahead last second → f4 ≡ f0 ++ entry_findings id second calls
  entry_all f0 f1 f2 f3 f4 part more listed last is_part few is1 is2 is3 is_more is_last is4 =
      let a : List Finding = damaged_list calls in
      let b : List Finding = other_id id calls in
      let d : List Finding = findings_of_entries id calls in
      is4 ∙ ap (λ (l : List Finding). l ++ ahead last second) (is3 ∙ ap (λ (l : List Finding). l ++ more) (is2 ∙ ap (λ (l : List Finding). l ++ foreign o.first (e.batches + e.marks)) is1))
      ∙ ap (λ (l : List Finding). (((f0 ++ l) ++ foreign o.first (e.batches + e.marks)) ++ more) ++ ahead last second) (damaged part listed is_part few)
      ∙ ap (λ (l : List Finding). (((f0 ++ a) ++ l) ++ more) ++ ahead last second) others
      ∙ ap (λ (l : List Finding). (((f0 ++ a) ++ b) ++ l) ++ ahead last second) is_more
      ∙ ap (λ (l : List Finding). (((f0 ++ a) ++ b) ++ d) ++ l) (late last is_last)
      ∙ regroup f0 a b d (book_ahead id second calls)
