-- What follows a piece.
use Rattle.std.proofs.Common.{◌≡◌, ℕ, ◌+◌, ◌<◌, ◌≤◌, nat_le, true, false, List, length, Option, Some, None, IfSome, sym, ap, subst, ◌∙◌, arith}
use Rattle.std.proofs.lemmas.Bool.{leb-true}
use Rattle.std.proofs.lemmas.Bool.Decides.{nat_tests}
use Rattle.std.proofs.lemmas.List.{take_all}
use Rattle.tuple_bytes.specs.declared.header.Header.{Header}
use Rattle.tuple_bytes.specs.declared.item.Item.{Item}
use Rattle.history_model.specs.Stored.{stored}
use Rattle.audit_model.specs.Altered.{history_with}
use Rattle.validator.proofs.Validated as validated
use Rattle.audit_steps.specs.declared.auditing.Auditing.{Auditing}
use Rattle.audit_steps.specs.declared.piece.Piece.{Piece}
use Rattle.audit_steps.specs.declared.next.Next.TheVariants as nexts
use Rattle.audit_steps.specs.Auditing.{AreTakenOrNone, IsAuditOf, IsUnderWay, read_by}
use Rattle.audit_steps.specs.Steps.{IsPieceOf, NextIs}

-- a history is stored under the id
pub some_history : (id : ℕ) (x : List ℕ) (header : Header) → (stored x).header ≡ Some header → header.id ≡ id → history_with id (stored x) ≡ None → ⊥
some_history id x header is ours none = (let has = validated.has_history id (stored x) header is ours in cc (has, none))

module _ (id : ℕ) (x : List ℕ) (w : Option Auditing) (a : Auditing) (p : Piece) (u : IsUnderWay id x a) (begun : a.read ≡ read_by w) (piece : IsPieceOf id x a p) where
  few : p.last ≡ true → length (stored x).items ≤ a.read + 256
  few is = leb-true (length (stored x).items) (a.read + 256) (sym piece.last ∙ is)

  next_last : p.last ≡ true → NextIs id x w (nexts.Last (Some p.auditing))
  next_last is = (
    record {
      header = u.header ∙ ap Some (sym piece.header);
      id_is = ap (λ (h : Header). h.id) piece.header ∙ u.id_is;
      chains = subst (λ (h : Header). AreTakenOrNone h (stored x).items p.auditing.chains) (sym piece.header)
          (subst (λ (items : List Item). AreTakenOrNone a.header items p.auditing.chains) (take_all (a.read + 256) (stored x).items (few is)) piece.chains);
    },
    λ more. (let left = more.left in let most = few is in omega (arith, left, most, begun)),
  )

  next_going : p.last ≡ false → NextIs id x w (nexts.Going p.auditing)
  next_going is =
      let over : nat_le (length (stored x).items) (a.read + 256) ≡ false = sym piece.last ∙ is in
      let left : a.read + 256 < length (stored x).items = grind (arith, nat_tests, over) in
      record {
        more = record { history = some_history id x a.header u.header u.id_is; left = omega (arith, left, begun) };
        under_way = piece.goes_on is;
        read = piece.read is ∙ ap (λ (n : ℕ). n + 256) begun;
      }

module _ (id : ℕ) (w : Option Auditing) (a : Auditing) where
  abbrev Begun : List ℕ → Type 0
  Begun bytes = IsAuditOf id w bytes → IsUnderWay id bytes a × (a.read ≡ read_by w)

  -- what a fact of the piece gives, where the bytes are told
  behind_begun : (F : ℕ → List ℕ → Type 0) (Q : List ℕ → Type 0) (reads near : Option (List ℕ)) → near ≡ reads → IfSome reads Begun → IfSome near (λ bytes. (i : ℕ) → IsUnderWay i bytes a → F i bytes)
      → ((bytes : List ℕ) → IsUnderWay id bytes a → a.read ≡ read_by w → F id bytes → Q bytes) → IfSome reads (λ bytes. IsAuditOf id w bytes → Q bytes)
  behind_begun F Q reads near same begun facts f = by reads begun (subst (λ (o : Option (List ℕ)). IfSome o (λ bytes. (i : ℕ) → IsUnderWay i bytes a → F i bytes)) same facts)
    where
      by : (reads : Option (List ℕ)) → IfSome reads Begun → IfSome reads (λ bytes. (i : ℕ) → IsUnderWay i bytes a → F i bytes) → IfSome reads (λ bytes. IsAuditOf id w bytes → Q bytes)
      by None begun facts = tt
      by (Some bytes) begun facts = λ audit. let u = begun audit in f bytes u.0 u.1 (facts id u.0)

  module _ (p : Piece) (reads near : Option (List ℕ)) (same : near ≡ reads) (begun : IfSome reads Begun) (pieces : IfSome near (λ bytes. (i : ℕ) → IsUnderWay i bytes a → IsPieceOf i bytes a p)) where
    pub told_last : p.last ≡ true → IfSome reads (λ bytes. IsAuditOf id w bytes → NextIs id bytes w (nexts.Last (Some p.auditing)))
    told_last is = behind_begun (λ i bytes. IsPieceOf i bytes a p) (λ bytes. NextIs id bytes w (nexts.Last (Some p.auditing))) reads near same begun pieces
        (λ bytes u read piece. next_last id bytes w a p u read piece is)

    pub told_going : p.last ≡ false → IfSome reads (λ bytes. IsAuditOf id w bytes → NextIs id bytes w (nexts.Going p.auditing))
    told_going is = behind_begun (λ i bytes. IsPieceOf i bytes a p) (λ bytes. NextIs id bytes w (nexts.Going p.auditing)) reads near same begun pieces
        (λ bytes u read piece. next_going id bytes w a p u read piece is)

  pub told_few : (old new : ℕ) (reads near : Option (List ℕ)) → near ≡ reads → IfSome reads Begun
      → IfSome near (λ bytes. (i : ℕ) → IsUnderWay i bytes a → new ≤ old + 512) → IfSome reads (λ bytes. IsAuditOf id w bytes → new ≤ old + 512)
  told_few old new reads near same begun few = behind_begun (λ i bytes. new ≤ old + 512) (λ bytes. new ≤ old + 512) reads near same begun few (λ bytes u read is. is)

-- where nothing is stored under the id
pub told_nowhere : (id : ℕ) (w taken : Option Auditing) (reads : Option (List ℕ)) → taken ≡ None → IfSome reads (λ bytes. taken ≡ None → history_with id (stored bytes) ≡ None)
    → IfSome reads (λ bytes. IsAuditOf id w bytes → NextIs id bytes w (nexts.Last None))
told_nowhere id w taken None none told = tt
told_nowhere id w taken (Some bytes) none told = λ audit. (let is = told none in (is, λ more. more.history is))
