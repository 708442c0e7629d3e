-- A notary that holds each tile and fails no question answers all of the search.
use Rattle.std.proofs.Common.{◌≡◌, ℕ, ◌<◌, ◌^◌, ◌-◌, Bool, true, false, cond, List, Option, Some, None, Result, Ok, Err, refl, sym, ap, subst, ◌∙◌, arith}
use Rattle.std.specs.Prelude.{IsErrOf, IfSome, IsSome, nat_eq}
use Rattle.std.specs.Cmp.Lexicographic.{pointwise}
use Rattle.std.specs.Option.{is_some}
use Rattle.outside_words.specs.Faults.{HasCause, Rose}
use Rattle.outside_words.specs.Told.{WhereTold}
use Rattle.outside_words.proofs.Quiet.{not_risen}
use Rattle.history_model.specs.History.{History}
use Rattle.digest_model.specs.Layout.{layout}
use Rattle.notary_link.specs.declared.answer.Answer.{Answer}
use Rattle.notary_link.specs.declared.answer.Answer.TheVariants.{Same, Differs, Absent}
use Rattle.notary_link.specs.declared.fail.NotaryFail.{NotaryFail}
use Rattle.notary_link.specs.declared.fail.NotaryFail.TheVariants.{Failed, OutOfTurn, Full, NoMemory}
use Rattle.notary_link.specs.declared.name.Name.TheVariants.{Cum}
use Rattle.notary_link.specs.declared.seal.Seal.{Seal}
use Rattle.notary_link.specs.Batches.{Batch, answer, answer_by, filed, compared}
use Rattle.notary_link.specs.Notary.{Entry, Lists, State, Keeps, Unchanged, GoesOn, GivesAnswer, IsAsked}
use Rattle.notary_link.proofs.Quiet.{no_change}
use Rattle.audit_model.specs.Names.{digest}
use Rattle.audit_model.specs.Notary.{NotaryOf}
use Rattle.audit_model.proofs.Compare.{compare}
use Rattle.audit_model.proofs.Planned.{cum_planned}
use Rattle.mono_forensics.specs.Sure.{FailsNoQuestion, HoldsTiles}

-- ---- a tile that is held has its seal

seen : (ours theirs : List ℕ) → compared ours theirs ≡ Absent → ⊥
seen ours theirs is = by (pointwise nat_eq ours theirs) is
  where
    by : (b : Bool) → cond b Same Differs ≡ Absent → ⊥
    by true is = absurd cc
    by false is = absurd cc

-- what is found is compared
absent_alike : (found : Option Seal) (ours other : List ℕ) → answer_by found ours ≡ Absent → answer_by found other ≡ Absent
absent_alike None ours other is = refl
absent_alike (Some seal) ours other is = absurd (seen ours seal.digest is)

pub is_there : (batches : List Batch) (id : ℕ) (h : History) (tiles tile : ℕ) (ours : List ℕ) → NotaryOf batches id h tiles → tile < tiles → answer batches (Cum tile) ours ≡ Absent → ⊥
unfolding answer
is_there batches id h tiles tile ours holds within is =
    let ask = compare batches id h h tiles (Cum tile) holds (cum_planned (layout h) tiles tile within) in
    seen (digest h (Cum tile)) (digest h (Cum tile)) (sym ask ∙ absent_alike (filed batches (Cum tile)) ours (digest h (Cum tile)) is)

-- ---- behind a question that changed nothing

told_trace : (o n : Option (List Entry)) → IsSome o → is_some n ≡ is_some o → WhereTold o n (λ before after. after ≡ before) → n ≡ o
told_trace (Some b) (Some a) told alike same = ap Some same
told_trace (Some b) None told alike same = absurd cc
told_trace None n told alike same = absurd cc

told_lists : (o n : Option Lists) (id many : ℕ) → (is_some o ≡ true → is_some n ≡ false → ⊥) → WhereTold o n Keeps → HoldsTiles o id many → HoldsTiles n id many
told_lists (Some b) (Some a) id many stays same (h, tiles, holds, within) = (h, tiles, subst (λ (batches : List Batch). NotaryOf batches id h tiles) (sym (same.batches id)) holds, within)
told_lists (Some b) None id many stays same holds = absurd (stays refl refl)
told_lists None n id many stays same holds = absurd holds

module _ (takes_memory : Bool) (old new : State) (sure : FailsNoQuestion takes_memory old) (on : GoesOn old new) (same : Unchanged old new) where
  same_trace : new.trace ≡ old.trace
  same_trace = told_trace old.trace new.trace sure.traced on.traced same.trace

  trace_is : (o : Option (List Entry)) → old.trace ≡ o → IsSome o → new.faults ≡ old.faults
  trace_is (Some before) is told = no_change old new on sure.sure before is same_trace
  trace_is None is told = absurd cc

  pub no_fault : new.faults ≡ old.faults
  no_fault = trace_is old.trace refl sure.traced

  none_risen : Rose old.faults new.faults → ⊥
  none_risen = not_risen old.faults new.faults no_fault sure.counts

  pub sure_still : FailsNoQuestion takes_memory new
  sure_still = record {
    no_memory = sure.no_memory;
    sure = on.sure ∙ sure.sure;
    traced = subst IsSome (sym same_trace) sure.traced;
    counts = subst (λ (n : ℕ). n < 2 ^ 64 - 1) (sym no_fault) sure.counts;
  }

  pub holds_still : (id many : ℕ) → HoldsTiles old.lists id many → HoldsTiles new.lists id many
  holds_still id many = told_lists old.lists new.lists id many (λ was is. none_risen (on.told.ends was is)) same.lists

  -- the question was answered, and the digest is found
  module _ (result : Result Answer NotaryFail) (cause : HasCause Failed old.faults new.faults result) (only : IsAsked result) (memory : IsErrOf result NoMemory → takes_memory ≡ true) where
    pub no_refusal : (fail : NotaryFail) → result ≡ Err fail → ⊥
    no_refusal Failed is = none_risen (cause is)
    no_refusal NoMemory is = let both : true ≡ false = sym (memory is) ∙ sure.no_memory in absurd cc
    no_refusal (OutOfTurn count) is = subst IsAsked is only
    no_refusal Full is = subst IsAsked is only

  pub none_absent : (id tile many : ℕ) (ours : List ℕ) → tile < many → HoldsTiles old.lists id many → GivesAnswer id (Cum tile) ours (Ok Absent) old → ⊥
  none_absent id tile many ours within = by old.lists
    where
      by : (o : Option Lists) → HoldsTiles o id many → IfSome o (λ (lists : Lists). Absent ≡ answer (lists.batches id) (Cum tile) ours) → ⊥
      by (Some lists) (h, tiles, holds, le) gives = is_there (lists.batches id) id h tiles tile ours holds (omega (arith, within, le)) (sym gives)
      by None holds gives = holds
