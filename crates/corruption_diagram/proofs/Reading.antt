-- The marks of an id, asked for one after another.
use Rattle.std.proofs.Common.{◌≡◌, ℕ, ◌+◌, ◌-◌, ◌<◌, ◌≤◌, ◌^◌, List, [], ◌∷◌, ◌++◌, length, take, Option, Some, None, false, refl, sym, ap, ◌∙◌, subst, inl, inr, arith}
use Rattle.std.specs.List.{slice_get}
use Rattle.std.specs.Option.{is_some, IfSome}
use Rattle.std.proofs.lemmas.Option.{slice_get_within, slice_get-get_or, slice_get_cases, same_Some}
use Rattle.std.proofs.lemmas.List.{take_more, take_all}
use Rattle.outside_words.specs.Told.{WhereTold}
use Rattle.notary_link.specs.declared.mark.Mark.{Mark}
use Rattle.notary_link.specs.Batches.{Batch, moment_at}
use Rattle.notary_link.specs.Notary.{Lists, Keeps, marks_in_all}
use Rattle.notary_link.proofs.Sums.{marks_placed}

-- the mark of a place is the next one
next_mark : (marks : List Mark) (place : ℕ) (m : Mark) → Some m ≡ slice_get marks place → take (place + 1) marks ≡ take place marks ++ m ∷ []
next_mark marks place m is =
    let within = slice_get_within marks place m (sym is) in
    take_more marks place m within ∙ ap (λ (x : Mark). take place marks ++ x ∷ []) (same_Some _ m (sym (slice_get-get_or marks place m within) ∙ sym is))

-- where a place has none, all were read
no_more : (marks : List Mark) (place : ℕ) → None ≡ slice_get marks place → take place marks ≡ marks
no_more marks place none = take_all place marks (past marks place none)
  where
    past : (marks : List Mark) (place : ℕ) → None ≡ slice_get marks place → length marks ≤ place
    past marks place none = elim (slice_get_cases marks place).1 [ inl some ↦ (let e : slice_get marks place ≡ Some some.0 = some.2 in absurd cc) | inr none ↦ none.0 ]

module _ (id place : ℕ) (P : List Batch → List Mark → Type 0) where
  -- one more is read
  pub told_mark : (mark : Mark) (R : List Batch → List Mark → Type 0) (o m n : Option Lists) → (is_some m ≡ false → is_some n ≡ false) → WhereTold o m Keeps
      → WhereTold o m (λ before after. P (before.batches id) (take place (before.marks id))) → IfSome m (λ lists. Some mark ≡ slice_get (lists.marks id) place)
      → ((batches : List Batch) (marks : List Mark) → P batches marks → R batches (marks ++ mark ∷ []))
      → WhereTold o n (λ before after. R (before.batches id) (take (place + 1) (before.marks id)))
  told_mark mark R (Some b) (Some x) (Some a) stays keeps known given f =
      let is : Some mark ≡ slice_get (b.marks id) place = given ∙ ap (λ (marks : List Mark). slice_get marks place) (keeps.marks id) in
      subst (R (b.batches id)) (sym (next_mark (b.marks id) place mark is)) (f (b.batches id) (take place (b.marks id)) known)
  told_mark mark R (Some b) None (Some a) stays keeps known given f = let h = stays refl in absurd cc
  told_mark mark R (Some b) m None stays keeps known given f = tt
  told_mark mark R None m n stays keeps known given f = tt

  -- all were read
  pub told_end : (R : List Batch → List Mark → Type 0) (o m n : Option Lists) → (is_some m ≡ false → is_some n ≡ false) → WhereTold o m Keeps
      → WhereTold o m (λ before after. P (before.batches id) (take place (before.marks id))) → IfSome m (λ lists. None ≡ slice_get (lists.marks id) place)
      → ((batches : List Batch) (marks : List Mark) → P batches marks → R batches marks)
      → WhereTold o n (λ before after. R (before.batches id) (before.marks id))
  told_end R (Some b) (Some x) (Some a) stays keeps known given f =
      let none : None ≡ slice_get (b.marks id) place = given ∙ ap (λ (marks : List Mark). slice_get marks place) (keeps.marks id) in
      f (b.batches id) (b.marks id) (subst (P (b.batches id)) (no_more (b.marks id) place none) known)
  told_end R (Some b) None (Some a) stays keeps known given f = let h = stays refl in absurd cc
  told_end R (Some b) m None stays keeps known given f = tt
  told_end R None m n stays keeps known given f = tt

  -- as many as there are places
  pub told_full : (R : List Batch → List Mark → Type 0) (o n : Option Lists) → IfSome o (λ lists. marks_in_all lists ≤ 4294967295) → id < 2 ^ 64 → 2 ^ 32 - 1 ≤ place
      → WhereTold o n (λ before after. P (before.batches id) (take place (before.marks id)))
      → ((batches : List Batch) (marks : List Mark) → P batches marks → R batches marks)
      → WhereTold o n (λ before after. R (before.batches id) (before.marks id))
  told_full R (Some b) (Some a) few fits past known f =
      f (b.batches id) (b.marks id) (subst (P (b.batches id)) (take_all place (b.marks id) (omega (arith, marks_placed b few id fits, past))) known)
  told_full R (Some b) None few fits past known f = tt
  told_full R None n few fits past known f = tt

-- the moment of a batch
pub told_batch : (id index : ℕ) (moment : Option ℕ) (P R : List Batch → Type 0) (o m n : Option Lists) → (is_some m ≡ false → is_some n ≡ false) → WhereTold o m Keeps
    → WhereTold o m (λ before after. P (before.batches id)) → IfSome m (λ lists. moment ≡ moment_at (lists.batches id) index)
    → ((batches : List Batch) → P batches → moment ≡ moment_at batches index → R batches) → WhereTold o n (λ before after. R (before.batches id))
told_batch id index moment P R (Some b) (Some x) (Some a) stays keeps known given f = f (b.batches id) known (given ∙ ap (λ (batches : List Batch). moment_at batches index) (keeps.batches id))
told_batch id index moment P R (Some b) None (Some a) stays keeps known given f = let h = stays refl in absurd cc
told_batch id index moment P R (Some b) m None stays keeps known given f = tt
told_batch id index moment P R None m n stays keeps known given f = tt

-- one reader after another
pub told_both : (id : ℕ) (P Q R : List Batch → List Mark → Type 0) (o m n : Option Lists) → (is_some m ≡ false → is_some n ≡ false) → WhereTold o m Keeps
    → WhereTold o m (λ before after. P (before.batches id) (before.marks id)) → WhereTold m n (λ before after. Q (before.batches id) (before.marks id))
    → ((batches : List Batch) (marks : List Mark) → P batches marks → Q batches marks → R batches marks) → WhereTold o n (λ before after. R (before.batches id) (before.marks id))
told_both id P Q R (Some b) (Some x) (Some a) stays keeps first next f =
    f (b.batches id) (b.marks id) first (subst (λ (marks : List Mark). Q (b.batches id) marks) (keeps.marks id) (subst (λ (batches : List Batch). Q batches (x.marks id)) (keeps.batches id) next))
told_both id P Q R (Some b) None (Some a) stays keeps first next f = let h = stays refl in absurd cc
told_both id P Q R (Some b) m None stays keeps first next f = tt
told_both id P Q R None m n stays keeps first next f = tt
