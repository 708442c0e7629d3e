-- The tiles that are still looked at.
use Rattle.std.proofs.Common.{◌≡◌, ◌⊎◌, ℕ, ◌+◌, ◌-◌, List, [], get_or, Option, Some, None, true, false, Ok, inl, inr, subst, refl, arith}
use Rattle.std.specs.Option.{is_some}
use Rattle.outside_words.specs.Told.{WhereTold}
use Rattle.notary_link.specs.declared.answer.Answer.{Answer}
use Rattle.notary_link.specs.declared.answer.Answer.TheVariants.{Same, Differs}
use Rattle.notary_link.specs.declared.name.Name.TheVariants.{Cum}
use Rattle.notary_link.specs.Batches.{Batch, answer}
use Rattle.notary_link.specs.Notary.{Lists, Keeps}
use Rattle.mono_forensics.specs.Finds.{link_answers, Compares}

-- the last of all tiles and the last one that is looked at differ, and the one before these is the same
pub record AreBetween (answers : ℕ → Answer) (last low high : ℕ) : Type 0 where
  pub ends : answers last ≡ Differs
  pub differs : answers high ≡ Differs
  pub before : (low ≡ 0) ⊎ (answers (low - 1) ≡ Same)

module _ (answers : ℕ → Answer) where
  -- all tiles
  pub all_between : (last : ℕ) → Compares answers last (Ok true) → AreBetween answers last 0 last
  all_between last differs = record { ends = differs; differs = differs; before = inl refl }

  -- those up to the middle
  pub lower : (last low high middle : ℕ) → AreBetween answers last low high → Compares answers middle (Ok true) → AreBetween answers last low middle
  lower last low high middle are differs = record { ends = are.ends; differs = differs; before = are.before }

  -- those after it
  pub upper : (last low high middle : ℕ) → AreBetween answers last low high → Compares answers middle (Ok false) → AreBetween answers last (middle + 1) high
  upper last low high middle are same = record { ends = are.ends; differs = are.differs; before = inr (let e : middle + 1 - 1 ≡ middle = omega arith in rw e same) }

-- what is known of the answers, and one answer more
module _ (id : ℕ) (links : List (List ℕ)) (P Q R : (ℕ → Answer) → Type 0) where
  pub told_more : (o m n : Option Lists) → (is_some m ≡ false → is_some n ≡ false) → WhereTold o m Keeps
      → WhereTold o m (λ before after. P (link_answers before id links)) → WhereTold m n (λ before after. Q (link_answers before id links))
      → ((answers : ℕ → Answer) → P answers → Q answers → R answers) → WhereTold o n (λ before after. R (link_answers before id links))
  told_more (Some b) (Some x) (Some a) stays keeps known next f = f (link_answers b id links) known (subst (λ (batches : List Batch). Q (λ tile. answer batches (Cum tile) (get_or links tile []))) (keeps.batches id) next)
  told_more (Some b) None (Some a) stays keeps known next f = let h = stays refl in absurd cc
  told_more (Some b) m None stays keeps known next f = tt
  told_more None m n stays keeps known next f = tt
