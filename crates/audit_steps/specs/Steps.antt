-- The steps of a piece: what is read, and what follows.
use Rattle.std.specs.Prelude.{◌≡◌, ◌+◌, ℕ, false, List, length, nat_le, take, Option, Some, None, IfSome}
use Rattle.tuple_bytes.specs.Spelling.{FitsHeader}
use Rattle.history_model.specs.Stored.{stored}
use Rattle.audit_model.specs.Altered.{history_with}
use Rattle.audit_steps.specs.declared.auditing.Auditing.{Auditing}
use Rattle.audit_steps.specs.declared.piece.Piece.{Piece}
use Rattle.audit_steps.specs.declared.next.Next.{Next}
use Rattle.audit_steps.specs.declared.next.Next.TheVariants as nexts
use Rattle.audit_steps.specs.Auditing.{read_by, AreTakenOrNone, IsUnderWay}
use Rattle.audit_steps.specs.PieceSize.{piece}
use Rattle.audit_steps.specs.Pieces.{HasMore}

-- ---- what is kept

-- the header has a spelling, and the chains are under it, whatever the bytes are
pub record FitsTogether (a : Auditing) : Type 0 where
  pub header : FitsHeader a.header
  pub chains : IfSome a.chains (λ c. c.header ≡ a.header)

-- ---- a piece that was read

-- what was read goes on behind the items before, and takes the chains along
pub record IsPieceOf (id : ℕ) (x : List ℕ) (a : Auditing) (p : Piece) : Type 0 where
  pub last : p.last ≡ nat_le (length (stored x).items) (a.read + piece)
  pub goes_on : p.last ≡ false → IsUnderWay id x p.auditing
  pub read : p.last ≡ false → p.auditing.read ≡ a.read + piece
  pub header : p.auditing.header ≡ a.header
  pub chains : AreTakenOrNone a.header (take (a.read + piece) (stored x).items) p.auditing.chains

-- ---- what follows

-- it has read a piece more, and some items are left
pub record IsNext (id : ℕ) (x : List ℕ) (a : Option Auditing) (b : Auditing) : Type 0 where
  pub more : HasMore id a x
  pub under_way : IsUnderWay id x b
  pub read : b.read ≡ read_by a + piece

-- it has read all items, and these are their chains
pub record HasReadAll (id : ℕ) (x : List ℕ) (a : Auditing) : Type 0 where
  pub header : (stored x).header ≡ Some a.header
  pub id_is : a.header.id ≡ id
  pub chains : AreTakenOrNone a.header (stored x).items a.chains

-- the audit at its end; there is none where the bytes have no header with the id
abbrev pub IsAtEnd : ℕ → List ℕ → Option Auditing → Type 0
IsAtEnd id x None = history_with id (stored x) ≡ None
IsAtEnd id x (Some a) = HasReadAll id x a

-- what follows a piece: the audit goes on exactly where more is left
abbrev pub NextIs : ℕ → List ℕ → Option Auditing → Next → Type 0
NextIs id x a (nexts.Going b) = IsNext id x a b
NextIs id x a (nexts.Last b) = IsAtEnd id x b × (HasMore id a x → ⊥)

-- what it keeps fits together
abbrev pub FitsNext : Next → Type 0
FitsNext (nexts.Going b) = FitsTogether b
FitsNext (nexts.Last None) = Unit {0}
FitsNext (nexts.Last (Some b)) = FitsTogether b
