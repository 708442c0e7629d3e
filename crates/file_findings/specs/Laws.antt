-- What holds of the table.
use Rattle.std.specs.Prelude.{◌≡◌, ℕ, Some}
use Rattle.file_findings.specs.declared.kind.Kind.{Kind}
use Rattle.file_findings.specs.Kinds.{name_of, named}

-- each name is that of one kind: the kind of its name is the kind itself
abbrev pub NamesAreApart : Type 0
NamesAreApart = (kind : Kind) → named (name_of kind) ≡ Some kind
