-- Lists on the way from a world to the next one.
use Rattle.std.proofs.Common.{◌≡◌, ◌≢◌, ℕ, ◌+◌, ◌==◌, if◌then◌else◌, List, [], ◌∷◌, ◌++◌, length, take, sym, ap, subst, ◌∙◌, arith, ⊎_elim}
use Rattle.std.proofs.Math.Seq.{take-length, take-append-add}
use Rattle.std.proofs.lemmas.Bool.{cases_eq, eq-eqb, ne_eqb}
use Rattle.std.proofs.lemmas.List.{append-nil}
use Rattle.notary_link.specs.declared.mark.Mark.{Mark}
use Rattle.notary_link.specs.Batches.{Batch}
use Rattle.notary_link.specs.Notary.{Lists, Keeps, Notes}
use Rattle.notary_link.specs.Filing.{FilesAll}
use Rattle.store_world.specs.World.{with_batches, with_mark}
use Rattle.store_world.specs.Lists.{IsBetween, AreBetween}

module _ {A : Type 0} where
  same_between : (l middle : List A) → middle ≡ l → IsBetween l l middle
  same_between l middle is = record { len = length l; least = omega arith; front = is ∙ sym (take-length l) }

  -- some of those that are to come
  more_between : (l news middle : List A) (done : ℕ) → middle ≡ l ++ take done news → IsBetween l (l ++ news) middle
  more_between l news middle done is = record { len = length l + done; least = omega arith; front = is ∙ sym (take-append-add l news done) }

  -- under the id, and under any other
  here : (id any : ℕ) (a b : List A) → any ≡ id → (if any == id then a else b) ≡ a
  here id any a b is = ap (λ t. if t then a else b) (eq-eqb any id is)

  there : (id any : ℕ) (a b : List A) → any ≢ id → (if any == id then a else b) ≡ b
  there id any a b apart = ap (λ t. if t then a else b) (ne_eqb any id apart)

  between_at : (id any : ℕ) (l news middle : List A) → (any ≡ id → IsBetween l (l ++ news) middle) → (any ≢ id → IsBetween l l middle)
      → IsBetween l (if any == id then l ++ news else l) middle
  between_at id any l news middle at others = ⊎_elim
      (λ is. subst (λ (x : List A). IsBetween l x middle) (sym (here id any (l ++ news) l is)) (at is))
      (λ apart. subst (λ (x : List A). IsBetween l x middle) (sym (there id any (l ++ news) l apart)) (others apart))
      (cases_eq any id)

  keeps_at : (id any : ℕ) (l news later : List A) → (any ≡ id → later ≡ l ++ news) → (any ≢ id → later ≡ l) → later ≡ (if any == id then l ++ news else l)
  keeps_at id any l news later at others = ⊎_elim
      (λ is. at is ∙ sym (here id any (l ++ news) l is))
      (λ apart. others apart ∙ sym (there id any (l ++ news) l apart))
      (cases_eq any id)

-- all stands as it stood
pub kept_between : (lists later : Lists) → Keeps lists later → AreBetween lists lists later
kept_between lists later keeps = record {
  batches = λ id. same_between (lists.batches id) (later.batches id) (keeps.batches id);
  marks = λ id. same_between (lists.marks id) (later.marks id) (keeps.marks id);
}

pub keeps_then : (old mid new : Lists) → Keeps old mid → Keeps mid new → Keeps old new
keeps_then old mid new first next = record { batches = λ id. next.batches id ∙ first.batches id; marks = λ id. next.marks id ∙ first.marks id }

module _ (id : ℕ) (old lists later : Lists) (keeps : Keeps old lists) where
  module _ (some : List Batch) (files : FilesAll id some lists later) where
    at : (any : ℕ) → any ≡ id → later.batches any ≡ old.batches any ++ some
    at any is = subst (λ (i : ℕ). later.batches i ≡ old.batches i ++ some) (sym is) (files.filed ∙ ap (λ (l : List Batch). l ++ some) (keeps.batches id))

    apart : (any : ℕ) → any ≢ id → later.batches any ≡ old.batches any
    apart any other = files.others any other ∙ keeps.batches any

    pub filed_keeps : Keeps (with_batches id some old) later
    filed_keeps = record {
      batches = λ any. keeps_at id any (old.batches any) some (later.batches any) (at any) (apart any);
      marks = λ any. files.marks any ∙ keeps.marks any;
    }

  -- some of the batches were filed
  pub filed_between : (news : List Batch) (done : ℕ) → FilesAll id (take done news) lists later → AreBetween old (with_batches id news old) later
  filed_between news done files = record {
    batches = λ any. between_at id any (old.batches any) news (later.batches any)
        (λ is. more_between (old.batches any) news (later.batches any) done (at (take done news) files any is))
        (λ other. same_between (old.batches any) (later.batches any) (apart (take done news) files any other));
    marks = λ any. same_between (old.marks any) (later.marks any) (files.marks any ∙ keeps.marks any);
  }

  module _ (mark : Mark) where
    module _ (notes : Notes id mark lists later) where
      noted_at : (any : ℕ) → any ≡ id → later.marks any ≡ old.marks any ++ mark ∷ []
      noted_at any is = subst (λ (i : ℕ). later.marks i ≡ old.marks i ++ mark ∷ []) (sym is) (notes.noted ∙ ap (λ (l : List Mark). l ++ mark ∷ []) (keeps.marks id))

      noted_apart : (any : ℕ) → any ≢ id → later.marks any ≡ old.marks any
      noted_apart any other = notes.others any other ∙ keeps.marks any

      pub noted_keeps : Keeps (with_mark id mark old) later
      noted_keeps = record {
        batches = λ any. notes.batches any ∙ keeps.batches any;
        marks = λ any. keeps_at id any (old.marks any) (mark ∷ []) (later.marks any) (noted_at any) (noted_apart any);
      }

      pub noted_between : AreBetween old (with_mark id mark old) later
      noted_between = record {
        batches = λ any. same_between (old.batches any) (later.batches any) (notes.batches any ∙ keeps.batches any);
        marks = λ any. between_at id any (old.marks any) (mark ∷ []) (later.marks any)
            (λ is. more_between (old.marks any) (mark ∷ []) (later.marks any) 1 (noted_at any is))
            (λ other. same_between (old.marks any) (later.marks any) (noted_apart any other));
      }

    -- a mark that is to come, and is not there
    pub unmarked_yet : Keeps lists later → AreBetween old (with_mark id mark old) later
    unmarked_yet same = record {
      batches = λ any. same_between (old.batches any) (later.batches any) (all.batches any);
      marks = λ any. between_at id any (old.marks any) (mark ∷ []) (later.marks any)
          (λ is. more_between (old.marks any) (mark ∷ []) (later.marks any) 0 (all.marks any ∙ sym (append-nil (old.marks any))))
          (λ other. same_between (old.marks any) (later.marks any) (all.marks any));
    }
      where
        all : Keeps old later
        all = keeps_then old lists later keeps same
