-- Findings of one place after another.
use Rattle.std.proofs.Common.{◌≡◌, List, [], ◌∷◌, ◌++◌, append_assoc, sym, ap, ◌∙◌}
use Rattle.file_findings.specs.Along.{found_along}
use Rattle.file_findings.proofs.Along.{found_more}

pub placed_more : {A B : Type 0} (f : List A → A → List B) (front old new more : List B) (xs : List A) (x : A) → new ≡ old ++ more → more ≡ f xs x → old ≡ front ++ found_along f xs → new ≡ front ++ found_along f (xs ++ x ∷ [])
placed_more {A} {B} f front old new more xs x is same so_far =
    is ∙ ap (λ (l : List B). l ++ more) so_far ∙ append_assoc front (found_along f xs) more ∙ ap (λ (l : List B). front ++ (found_along f xs ++ l)) same ∙ ap (λ (l : List B). front ++ l) (sym (found_more f xs x))
