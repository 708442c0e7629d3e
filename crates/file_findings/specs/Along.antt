-- What is found of things that stand one after another.
use Rattle.std.specs.Prelude.{Bool, if◌then◌else◌, List, [], ◌∷◌, ◌++◌, Option, Vec}
use Rattle.std.specs.Option.{option_map}
use Rattle.std.specs.declared.alloc.Global.{Global}
use Rattle.file_findings.specs.declared.finding.Finding.{Finding}

-- one thing, where it is so
abbrev pub listed : {B : Type 0} → Bool → B → List B
listed so it = if so then it ∷ [] else []

-- what is found of each, which stands after those before it
abbrev pub along : {A B : Type 0} → (List A → A → List B) → List A → List A → List B
along f before [] = []
along f before (x ∷ xs) = f before x ++ along f (before ++ x ∷ []) xs

-- what is found of all
abbrev pub found_along : {A B : Type 0} → (List A → A → List B) → List A → List B
found_along f xs = along f [] xs

-- what a function gives that finds in a list, or finds no list at all
abbrev pub found_in : Option (Vec Finding Global) → Option (List Finding)
found_in found = option_map (λ v. v.items) found
