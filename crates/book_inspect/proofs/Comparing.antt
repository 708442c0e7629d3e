-- A book that is held against other lists, with one payload more.
use Rattle.std.proofs.Common.{◌≡◌, ◌≢◌, ℕ, ◌+◌, ◌<◌, ◌≤◌, ◌&&◌, nat_eq, Bool, true, false, cond, if◌then◌else◌, filter, get_or, take, drop, List, [], ◌∷◌, ◌++◌, length, length-append, refl, sym, ap, ◌∙◌, arith}
use Rattle.std.specs.Cmp.Lexicographic.{pointwise, unequal}
use Rattle.std.proofs.lemmas.List.{length_push, take_more, drop_all, at_drop_more}
use Rattle.std.proofs.lemmas.List.Elements.{filter-append}
use Rattle.file_findings.specs.declared.finding.Finding.{Finding}
use Rattle.file_findings.proofs.Along.{found_with}
use Rattle.book_inspect.specs.declared.copies.Compared.{Compared}
use Rattle.book_inspect.specs.declared.copies.Lists.{Lists}
use Rattle.book_inspect.specs.declared.copies.Own.{Own}
use Rattle.book_inspect.specs.Copies.{same_list, is_batch, is_mark, own_in, filed_of, noted_of, apart_by, apart}
use Rattle.book_inspect.specs.KnownCopies.{KnowsApart, TakesOwn}

-- ---- lists with one more

pub payloads_more : (payloads : List (List ℕ)) (i : ℕ) (payload seen : List ℕ) → i < length payloads → payload ≡ get_or payloads i payload → seen ≡ payload → take i payloads ++ seen ∷ [] ≡ take (i + 1) payloads
payloads_more payloads i payload seen below at same = ap (λ (p : List ℕ). take i payloads ++ p ∷ []) (same ∙ at) ∙ sym (take_more payloads i payload below)

one : {A : Type 0} (b : Bool) (x : A) → length (cond b (x ∷ []) []) ≡ (if b then 1 else 0)
one true x = refl
one false x = refl

count_push : {A : Type 0} (p : A → Bool) (xs : List A) (x : A) → length (filter p (xs ++ x ∷ [])) ≡ length (filter p xs) + (if p x then 1 else 0)
count_push p xs x = ap length (filter-append p xs (x ∷ [])) ∙ length-append (filter p xs) (filter p (x ∷ [])) ∙ ap (λ (n : ℕ). length (filter p xs) + n) (one (p x) x)

-- ---- a payload more

pub apart_known : (id : ℕ) (other : Lists) (old new : Compared) (before : List (List ℕ)) (payload : List ℕ) → KnowsApart id other old before → TakesOwn (own_in id payload) other payload old new → KnowsApart id other new (before ++ payload ∷ [])
apart_known id other old new before payload known t =
    let own : Own = own_in id payload in
    let at : ℕ → ℕ → ℕ → List Finding = λ entries batches marks. apart_by own other (entries + 1) batches marks payload in
    record {
      entries = omega (arith, t.entries, known.entries, length_push before payload);
      batches = t.batches ∙ ap (λ (n : ℕ). n + (if is_batch own then 1 else 0)) known.batches ∙ sym (count_push (λ (p : List ℕ). is_batch (own_in id p)) before payload);
      marks = t.marks ∙ ap (λ (n : ℕ). n + (if is_mark own then 1 else 0)) known.marks ∙ sym (count_push (λ (p : List ℕ). is_mark (own_in id p)) before payload);
      found = found_with (apart id other) before payload old.found.items new.found.items _ t.found
          (ap (λ (n : ℕ). at n old.batches old.marks) known.entries ∙ ap (λ (n : ℕ). at (length before) n old.marks) known.batches ∙ ap (at (length before) (length (filed_of id before))) known.marks) known.found;
    }

-- ---- lists from a place on

pub same_drop : (xs ys : List (List ℕ)) (i : ℕ) (x y : List ℕ) → i < length xs → i < length ys → x ≡ get_or xs i x → y ≡ get_or ys i y → same_list (drop i xs) (drop i ys) ≡ (pointwise nat_eq x y && same_list (drop (i + 1) xs) (drop (i + 1) ys))
same_drop xs ys i x y here there is_x is_y =
    let more : Bool = same_list (drop (i + 1) xs) (drop (i + 1) ys) in
    at_drop_more (λ (l : List (List ℕ)). same_list l (drop i ys)) xs i x here
    ∙ at_drop_more (λ (l : List (List ℕ)). same_list (get_or xs i x ∷ drop (i + 1) xs) l) ys i y there
    ∙ ap (λ (a : List ℕ). pointwise nat_eq a (get_or ys i y) && more) (sym is_x)
    ∙ ap (λ (b : List ℕ). pointwise nat_eq x b && more) (sym is_y)

-- where the first are the same, and where they are not
pub same_yes : (whole rest : Bool) (xs ys : List (List ℕ)) (i : ℕ) (same : Bool) → whole ≡ same_list (drop i xs) (drop i ys) → same_list (drop i xs) (drop i ys) ≡ (same && rest) → same ≡ true → whole ≡ rest
same_yes whole rest xs ys i same so_far step is = so_far ∙ step ∙ ap (λ (b : Bool). b && rest) is

pub same_no : (whole rest : Bool) (xs ys : List (List ℕ)) (i : ℕ) (same : Bool) → whole ≡ same_list (drop i xs) (drop i ys) → same_list (drop i xs) (drop i ys) ≡ (same && rest) → same ≡ false → false ≡ whole
same_no whole rest xs ys i same so_far step is = sym (so_far ∙ step ∙ ap (λ (b : Bool). b && rest) is)

pub same_end : (xs ys : List (List ℕ)) (i : ℕ) → same_list xs ys ≡ same_list (drop i xs) (drop i ys) → length xs ≤ i → length ys ≤ i → true ≡ same_list xs ys
same_end xs ys i so_far all others = sym (so_far ∙ ap (λ (l : List (List ℕ)). same_list l (drop i ys)) (drop_all i xs all) ∙ ap (same_list []) (drop_all i ys others))

pub same_long : (xs ys : List (List ℕ)) → length xs ≢ length ys → false ≡ same_list xs ys
same_long xs ys apart = sym (unequal (pointwise nat_eq) xs ys apart)

-- ---- any list

pub items_more : {A : Type 0} (xs : List A) (i : ℕ) (x : A) → i < length xs → x ≡ get_or xs i x → take i xs ++ x ∷ [] ≡ take (i + 1) xs
items_more {A} xs i x below at = ap (λ (y : A). take i xs ++ y ∷ []) at ∙ sym (take_more xs i x below)
