-- What is found of things, with one thing more.
use Rattle.std.proofs.Common.{◌≡◌, List, [], ◌∷◌, ◌++◌, append_assoc, sym, ap, ◌∙◌}
use Rattle.std.proofs.lemmas.List.{append-nil}
use Rattle.file_findings.specs.Along.{along, found_along}

along_more : {A B : Type 0} (f : List A → A → List B) (before xs : List A) (x : A) → along f before (xs ++ x ∷ []) ≡ along f before xs ++ f (before ++ xs) x
along_more {A} {B} f before [] x = append-nil (f before x) ∙ ap (λ (b : List A). f b x) (sym (append-nil before))
along_more {A} {B} f before (y ∷ ys) x =
    ap (λ (l : List B). f before y ++ l) (along_more f (before ++ y ∷ []) ys x ∙ ap (λ (b : List A). along f (before ++ y ∷ []) ys ++ f b x) (append_assoc before (y ∷ []) ys))
    ∙ sym (append_assoc (f before y) (along f (before ++ y ∷ []) ys) (f (before ++ (y ∷ ys)) x))

pub found_more : {A B : Type 0} (f : List A → A → List B) (xs : List A) (x : A) → found_along f (xs ++ x ∷ []) ≡ found_along f xs ++ f xs x
found_more f xs x = along_more f [] xs x

-- where nothing is found of it
pub found_none : {A B : Type 0} (f : List A → A → List B) (xs : List A) (x : A) → f xs x ≡ [] → found_along f (xs ++ x ∷ []) ≡ found_along f xs
found_none {A} {B} f xs x none = found_more f xs x ∙ ap (λ (l : List B). found_along f xs ++ l) none ∙ append-nil (found_along f xs)

-- where this is
pub found_with : {A B : Type 0} (f : List A → A → List B) (xs : List A) (x : A) (old new more : List B) → new ≡ old ++ more → more ≡ f xs x → old ≡ found_along f xs → new ≡ found_along f (xs ++ x ∷ [])
found_with {A} {B} f xs x old new more is same so_far = is ∙ ap (λ (l : List B). l ++ more) so_far ∙ ap (λ (l : List B). found_along f xs ++ l) same ∙ sym (found_more f xs x)
