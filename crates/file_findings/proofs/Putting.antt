-- Lines, kind by kind.
use Rattle.std.proofs.Common.{◌≡◌, ℕ, ◌-◌, min, List, ◌++◌, length, take, append_assoc, ap, ◌∙◌, arith}
use Rattle.std.specs.List.{flat_map}
use Rattle.std.proofs.lemmas.List.{take_min}
use Rattle.file_findings.specs.declared.finding.Found.{Found}
use Rattle.file_findings.specs.declared.kind.Kind.{Kind}
use Rattle.file_findings.specs.Lines.{line_of, of_kind, more_line, kind_lines, most_lines}

-- those of a kind, up to the most, and how many more there are
pub kind_put : (all : List Found) (kind : Kind) (some part : List Found) (before lines after : List ℕ) (listed more : ℕ) → some ≡ of_kind kind all → listed ≡ min most_lines (length some) → part ≡ take listed some
    → lines ≡ before ++ flat_map line_of part → more ≡ length some - listed → after ≡ lines ++ more_line kind more → after ≡ before ++ kind_lines all kind
kind_put all kind some part before lines after listed more same few is_part lines_is more_is after_is =
    let own : List Found = of_kind kind all in
    let front : part ≡ take most_lines own = is_part ∙ ap (λ (n : ℕ). take n some) few ∙ take_min most_lines some ∙ ap (λ (xs : List Found). take most_lines xs) same in
    let count : more ≡ length own - most_lines = omega (arith, ap length same, few, more_is) in
    after_is ∙ ap (λ (l : List ℕ). l ++ more_line kind more) lines_is ∙ append_assoc before (flat_map line_of part) (more_line kind more)
    ∙ ap (λ (xs : List Found). before ++ (flat_map line_of xs ++ more_line kind more)) front ∙ ap (λ (n : ℕ). before ++ (flat_map line_of (take most_lines own) ++ more_line kind n)) count
