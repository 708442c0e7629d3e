-- Devices in a row, one after another.
use Rattle.std.proofs.Common.{◌≡◌, ◌<◌, ◌+◌, ℕ, zero, suc, List, [], ◌∷◌, ◌++◌, inl, inr, length, take, drop, set, get_or, map, Some, None, refl, sym, ap, subst, ◌∙◌, arith, add-one, add-zero}
use Rattle.std.specs.List.{AllZip, slice_get}
use Rattle.std.proofs.lemmas.List.{take_more, map-append, get_or-drop, drop-set-lt}
use Rattle.std.proofs.lemmas.Slice.Zip.{all_zipped_more}
use Rattle.std.proofs.Math.Seq.{take-suc-set}
use Rattle.outside_words.specs.Faults.{Rose}
use Rattle.inspect_call.specs.Looked.{SomeRose}

-- ---- what is still to come

drop_one : {N : Type 0} (l : List N) (i : ℕ) → drop (suc i) l ≡ drop 1 (drop i l)
drop_one [] zero = refl
drop_one [] (suc i) = refl
drop_one (x ∷ l) zero = refl
drop_one (x ∷ l) (suc i) = drop_one l i

rest_on : {N : Type 0} (before items : List N) (i : ℕ) → drop i items ≡ drop i before → drop (suc i) items ≡ drop (suc i) before
rest_on {N} before items i same = drop_one items i ∙ ap (λ (l : List N). drop 1 l) same ∙ sym (drop_one before i)

pub rest_after : {N : Type 0} (before items : List N) (i : ℕ) (new : N) → drop i items ≡ drop i before → drop (i + 1) (set items i new) ≡ drop (i + 1) before
rest_after {N} before items i new same = drop-set-lt (i + 1) items i new (omega arith) ∙ ap (λ (k : ℕ). drop k items) (add-one i) ∙ rest_on before items i same ∙ ap (λ (k : ℕ). drop k before) (sym (add-one i))

-- the next one is still what it was
pub still : {N : Type 0} (before items : List N) (i : ℕ) (old : N) → drop i items ≡ drop i before → old ≡ get_or items i old → old ≡ get_or before i old
still {N} before items i old rest is =
    is ∙ ap (λ (k : ℕ). get_or items k old) (sym (add-zero i)) ∙ sym (get_or-drop i items 0 old) ∙ ap (λ (l : List N). get_or l 0 old) rest ∙ get_or-drop i before 0 old ∙ ap (λ (k : ℕ). get_or before k old) (add-zero i)

-- ---- one more

-- of what each gave
pub gave_more : {N A R : Type 0} (f : N → A) (P : A → R → Type 0) (before : List N) (i : ℕ) (old : N) (given : List R) (new : R) → i < length before → old ≡ get_or before i old → AllZip P (map f (take i before)) given → P (f old) new → AllZip P (map f (take (i + 1) before)) (given ++ new ∷ [])
gave_more {N} {A} {R} f P before i old given new few is each one =
    let more : map f (take i before) ++ f old ∷ [] ≡ map f (take (i + 1) before) = sym (ap (map f) (take_more before i old few ∙ ap (λ (n : N). take i before ++ n ∷ []) (sym is)) ∙ map-append f (take i before) (old ∷ [])) in
    subst (λ (l : List A). AllZip P l (given ++ new ∷ [])) more (all_zipped_more P (map f (take i before)) given (f old) new each one)

-- of what became of each
pub kept_more : {N : Type 0} (P : N → N → Type 0) (before items : List N) (i : ℕ) (old new : N) → i < length before → i < length items → old ≡ get_or before i old → AllZip P (take i before) (take i items) → P old new → AllZip P (take (i + 1) before) (take (i + 1) (set items i new))
kept_more {N} P before items i old new few less is each one =
    let olds : take i before ++ old ∷ [] ≡ take (i + 1) before = sym (take_more before i old few ∙ ap (λ (n : N). take i before ++ n ∷ []) (sym is)) in
    let news : take i items ++ new ∷ [] ≡ take (i + 1) (set items i new) = sym (ap (λ (k : ℕ). take k (set items i new)) (add-one i) ∙ take-suc-set items i new less) in
    subst (λ (l : List N). AllZip P l (take (i + 1) (set items i new))) olds (subst (AllZip P (take i before ++ old ∷ [])) news (all_zipped_more P (take i before) (take i items) old new each one))

-- and of all, where the others were not touched
pub kept_all : {N : Type 0} (P : N → N → Type 0) (same : (n : N) → P n n) (i : ℕ) (before items : List N) → AllZip P (take i before) (take i items) → drop i items ≡ drop i before → AllZip P before items
kept_all {N} P same zero before items each rest = subst (AllZip P before) (sym rest) (all_same before)
  where
    all_same : (l : List N) → AllZip P l l
    all_same [] = tt
    all_same (n ∷ l) = (same n, all_same l)
kept_all P same (suc i) [] [] each rest = tt
kept_all P same (suc i) [] (n ∷ items) each rest = absurd each
kept_all P same (suc i) (b ∷ before) [] each rest = absurd each
kept_all P same (suc i) (b ∷ before) (n ∷ items) each rest = (each.0, kept_all P same i before items each.1 rest)

-- one has failed
pub rose_at : {N : Type 0} (f : N → ℕ) (before items : List N) (i : ℕ) (old new : N) → i < length before → length items ≡ length before → old ≡ get_or before i old → Rose (f old) (f new) → SomeRose (map f before) (map f (set items i new))
rose_at f [] items i old new few long is rose = absurd (omega (arith, few))
rose_at f (b ∷ before) [] i old new few long is rose = absurd (omega (arith, long))
rose_at {N} f (b ∷ before) (n ∷ items) zero old new few long is rose = inl (subst (λ (m : N). Rose (f m) (f new)) is rose)
rose_at f (b ∷ before) (n ∷ items) (suc i) old new few long is rose = inr (rose_at f before items i old new (omega (arith, few)) (omega (arith, long)) is rose)

-- ---- eras

-- what stands at a place, after those before it
pub take_got : {A : Type 0} (xs : List A) (n : ℕ) (x : A) → slice_get xs n ≡ Some x → take (n + 1) xs ≡ take n xs ++ x ∷ []
take_got {A} xs n x is = ap (λ (k : ℕ). take k xs) (add-one n) ∙ by_suc xs n is
  where
    by_suc : (ys : List A) (m : ℕ) → slice_get ys m ≡ Some x → take (suc m) ys ≡ take m ys ++ x ∷ []
    by_suc [] m is = absurd (cc)
    by_suc (y ∷ ys) zero is = cc
    by_suc (y ∷ ys) (suc m) is = ap (λ (l : List A). y ∷ l) (by_suc ys m is)

pub got_none : {A : Type 0} (xs : List A) (n : ℕ) → n < length xs → slice_get xs n ≡ None → ⊥
got_none [] n few none = omega (arith, few)
got_none (x ∷ xs) zero few none = cc
got_none (x ∷ xs) (suc n) few none = got_none xs n (omega (arith, few)) none
