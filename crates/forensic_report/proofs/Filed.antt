-- What is planned was filed.
use Rattle.std.proofs.Common.{◌≡◌, ℕ, Bool, true, false, List, refl, sym, ap, ◌∙◌, inl, inr}
use Rattle.std.specs.List.{Contains}
use Rattle.history_model.specs.History.{History}
use Rattle.digest_model.specs.Layout.{layout}
use Rattle.notary_link.specs.declared.answer.Answer.{Answer}
use Rattle.notary_link.specs.declared.answer.Answer.TheVariants.{Same, Differs, Absent}
use Rattle.notary_link.specs.declared.name.Name.{Name}
use Rattle.notary_link.specs.declared.name.Name.TheVariants as names
use Rattle.notary_link.specs.Batches.{Batch}
use Rattle.audit_model.specs.Names.{planned, digest}
use Rattle.audit_model.specs.Notary.{NotaryOf, answers, era_check, with_eras, header_answer}
use Rattle.audit_model.proofs.Compare.{compare, own_same, one_answer}
use Rattle.audit_model.proofs.EraCheck.{check_holds}
use Rattle.audit_model.proofs.Exact.{header_planned}
use Rattle.audit_model.specs.Asked.{is_absent}

module _ (batches : List Batch) (id n : ℕ) (h s : History) (filed : NotaryOf batches id h n) (name : Name) (is : Contains (planned (layout h) n) name) where
  pub is_there : is_absent (answers batches s name) ≡ false
  is_there = rw (compare batches id h s n name filed is) (elim (one_answer (digest s name) (digest h name)) [
    | inl same ↦ rw same.1 refl
    | inr differs ↦ rw differs.1 refl
  ])

  pub not_absent : answers batches s name ≡ Absent → ⊥
  not_absent absent = (let there_it : is_absent Absent ≡ false = sym (ap is_absent absent) ∙ is_there in cc)

-- the header and the eras that were filed are answered the same
pub own_header : (batches : List Batch) (id n : ℕ) (h : History) → NotaryOf batches id h n → header_answer batches h n ≡ Same
unfolding header_answer
own_header batches id n h filed =
    let header = own_same batches id h n names.Header filed (header_planned (layout h) n) in
    let eras = check_holds batches id h h n filed refl (λ e below. refl) in
    rw (header, eras) refl

-- and a header was filed
pub header_not_absent : (batches : List Batch) (id n : ℕ) (h s : History) → NotaryOf batches id h n → header_answer batches s n ≡ Absent → ⊥
unfolding header_answer
header_not_absent batches id n h s filed absent = not_absent batches id n h s filed names.Header (header_planned (layout h) n) (only_header (answers batches s names.Header) (era_check batches s n) absent)
  where
    only_header : (a : Answer) (b : Bool) → with_eras a b ≡ Absent → a ≡ Absent
    only_header Same true e = absurd cc
    only_header Same false e = absurd cc
    only_header Differs b e = absurd cc
    only_header Absent b e = refl
