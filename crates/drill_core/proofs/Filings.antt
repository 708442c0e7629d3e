-- What the notary holds behind some of a line's calls.
use Rattle.std.proofs.Common.{◌≡◌, inl, inr, ℕ, true, false, List, [], ◌∷◌, ◌++◌, refl, sym, ◌∙◌, ap, subst, if◌then◌else◌, ◌==◌}
use Rattle.std.proofs.lemmas.Bool.{cases_eq, eq-eqb, ne_eqb}
use Rattle.outside_words.specs.Runs.{after_calls}
use Rattle.notary_link.specs.declared.fail.NotaryFail.{NotaryFail}
use Rattle.notary_link.specs.declared.memory.MemNotary.{MemNotary}
use Rattle.notary_link.specs.Calls.{trace_of, lists_of, lists_after}
use Rattle.notary_link.specs.Notary.{Call, file, note, Entry, Lists, Adds}
use Rattle.notary_link.specs.Runs.{is_done, was_answered}
use Rattle.notary_link.proofs.After.{lists_follow, undone_keeps, done_adds}
use Rattle.timeline_model.specs.Timeline.{with_call, with_calls}
use Rattle.drill_core.proofs.Ready.{same_lists}

-- what a call adds is what a timeline has
adds_are : (call : Call) (old new : Lists) → Adds call old new → new ≡ with_call call old
adds_are (file id index batch) old new adds = same_lists (with_call (file id index batch) old) new (record { batches = at; marks = adds.marks })
  where
    at : (any : ℕ) → new.batches any ≡ (if any == id then old.batches any ++ batch ∷ [] else old.batches any)
    at any = elim (cases_eq any id) [
      | inl same ↦ (let e : (any == id) ≡ true = eq-eqb any id same in rw e (subst (λ (k : ℕ). new.batches k ≡ old.batches k ++ batch ∷ []) (sym same) adds.filed))
      | inr apart ↦ (let e : (any == id) ≡ false = ne_eqb any id apart in rw e (adds.others any apart))
    ]
adds_are (note id mark) old new adds = same_lists (with_call (note id mark) old) new (record { batches = adds.batches; marks = at })
  where
    at : (any : ℕ) → new.marks any ≡ (if any == id then old.marks any ++ mark ∷ [] else old.marks any)
    at any = elim (cases_eq any id) [
      | inl same ↦ (let e : (any == id) ≡ true = eq-eqb any id same in rw e (subst (λ (k : ℕ). new.marks k ≡ old.marks k ++ mark ∷ []) (sym same) adds.noted))
      | inr apart ↦ (let e : (any == id) ≡ false = ne_eqb any id apart in rw e (adds.others any apart))
    ]

calls_are : (calls : List Call) (trace : List Entry) → lists_after (after_calls is_done calls trace) ≡ with_calls calls (lists_after trace)
calls_are [] trace = refl
calls_are (call ∷ calls) trace = calls_are calls (is_done call ∷ trace) ∙ ap (with_calls calls) (adds_are call (lists_after trace) (lists_after (is_done call ∷ trace)) (done_adds call trace))

lists_are : (notary : MemNotary) → lists_of notary.made.items ≡ lists_after (trace_of notary.made.items)
lists_are notary = same_lists (lists_after (trace_of notary.made.items)) (lists_of notary.made.items) (lists_follow notary (trace_of notary.made.items) refl)

-- the same trace, the same lists
pub same_trace : (old new : MemNotary) → trace_of new.made.items ≡ trace_of old.made.items → lists_of new.made.items ≡ lists_of old.made.items
same_trace old new same = lists_are new ∙ ap lists_after same ∙ sym (lists_are old)

-- some calls more, and one that failed
pub failed_trace : (old new : MemNotary) (call : Call) (fail : NotaryFail) (calls : List Call) → trace_of new.made.items ≡ was_answered fail call ∷ after_calls is_done calls (trace_of old.made.items)
    → lists_of new.made.items ≡ with_calls calls (lists_of old.made.items)
failed_trace old new call fail calls is =
    lists_are new ∙ ap lists_after is
    ∙ same_lists (lists_after (after_calls is_done calls (trace_of old.made.items))) (lists_after (was_answered fail call ∷ after_calls is_done calls (trace_of old.made.items))) (undone_keeps call fail (after_calls is_done calls (trace_of old.made.items)))
    ∙ calls_are calls (trace_of old.made.items)
    ∙ ap (with_calls calls) (sym (lists_are old))
