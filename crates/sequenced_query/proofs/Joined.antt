-- Two rows, one behind the other, beside a row or beside two others.
use Rattle.std.proofs.Common.{◌≡◌, ℕ, ◌<◌, Bool, true, false, ◌&&◌, List, [], ◌∷◌, ◌++◌, length, refl, sym, ap, ◌∙◌, append_assoc, arith}
use Rattle.std.specs.Ordering.{is_eq, ordering_then}
use Rattle.std.specs.Cmp.Lexicographic.{slice_cmp}
use Rattle.std.specs.declared.cmp.Ordering.{Ordering}
use Rattle.std.specs.declared.cmp.Ordering.TheVariants.{Less, Equal, Greater}
use Rattle.tuple_bytes.specs.declared.value.Value.{Value}
use Rattle.tuple_bytes.specs.Order.{value_cmp}
use Rattle.sequenced_query.specs.Merging.{same_row}
use Rattle.sequenced_query.proofs.Merged.{same_row_is, is_same_row}

-- rows are the same where their fronts, of one length, and their rests are
pub same_parts : (a b c d : List Value) → length a ≡ length c → same_row (a ++ b) (c ++ d) ≡ (same_row a c && same_row b d)
same_parts [] b [] d e = refl
same_parts [] b (y ∷ c) d e = cc
same_parts (x ∷ a) b [] d e = cc
same_parts (x ∷ a) b (y ∷ c) d e = by (value_cmp x y) (same_parts a b c d (omega (arith, e)))
  where
    by : (r : Ordering) → same_row (a ++ b) (c ++ d) ≡ (same_row a c && same_row b d)
        → is_eq (ordering_then r (slice_cmp value_cmp (a ++ b) (c ++ d))) ≡ (is_eq (ordering_then r (slice_cmp value_cmp a c)) && same_row b d)
    by Less h = refl
    by Equal h = h
    by Greater h = refl

-- a row that is shorter than the first of two is not both
pub too_short : (row l r : List Value) → length row < length l → same_row row (l ++ r) ≡ false
too_short row [] r lt = absurd (omega (arith, lt))
too_short [] (x ∷ l) r lt = refl
too_short (y ∷ row) (x ∷ l) r lt = by (value_cmp y x) (too_short row l r (omega (arith, lt)))
  where
    by : (o : Ordering) → same_row row (l ++ r) ≡ false → is_eq (ordering_then o (slice_cmp value_cmp row (l ++ r))) ≡ false
    by Less h = refl
    by Equal h = h
    by Greater h = refl

-- which row comes first is nothing to whether they are the same
pub same_either : (a b : List Value) → same_row a b ≡ same_row b a
same_either a b = by (same_row a b) (same_row b a) refl refl
  where
    by : (x y : Bool) → same_row a b ≡ x → same_row b a ≡ y → x ≡ y
    by true true e f = refl
    by false false e f = refl
    by true false e f = sym (is_same_row b a (sym (same_row_is a b e))) ∙ f
    by false true e f = sym e ∙ is_same_row a b (sym (same_row_is b a f))

-- a row is cut where the first of the two ends
pub row_cut : (row first rest left right : List Value) → row ≡ first ++ rest → length first ≡ length left → (a b : Bool) → a ≡ same_row first left → b ≡ same_row rest right
    → (a && b) ≡ same_row row (left ++ right)
row_cut row first rest left right is e a b fronts rests =
    ap (λ (x : Bool). x && b) fronts ∙ ap (λ (x : Bool). same_row first left && x) rests
    ∙ sym (same_parts first rest left right e) ∙ ap (λ (l : List Value). same_row l (left ++ right)) (sym is)

-- the longer one of two left rows is cut where the shorter one ends
pub first_cut : (one other left first rest right other_left other_right : List Value) → left ++ right ≡ one → other_left ++ other_right ≡ other → left ≡ first ++ rest → length first ≡ length other_left
    → (a b : Bool) → a ≡ same_row first other_left → b ≡ same_row other_right (rest ++ right) → (a && b) ≡ same_row one other
first_cut one other left first rest right other_left other_right is_one is_other is e a b fronts rests =
    row_cut (left ++ right) first (rest ++ right) other_left other_right (ap (λ (l : List Value). l ++ right) is ∙ append_assoc first rest right) e a b fronts (rests ∙ same_either other_right (rest ++ right))
    ∙ ap (λ (l : List Value). same_row l (other_left ++ other_right)) is_one ∙ ap (λ (l : List Value). same_row one l) is_other

pub other_cut : (one other left first rest right other_left other_right : List Value) → left ++ right ≡ one → other_left ++ other_right ≡ other → other_left ≡ first ++ rest → length first ≡ length left
    → (a b : Bool) → a ≡ same_row left first → b ≡ same_row right (rest ++ other_right) → (a && b) ≡ same_row one other
other_cut one other left first rest right other_left other_right is_one is_other is e a b fronts rests =
    ap (λ (x : Bool). x && b) fronts ∙ ap (λ (x : Bool). same_row left first && x) rests
    ∙ sym (same_parts left right first (rest ++ other_right) (sym e))
    ∙ ap (λ (l : List Value). same_row (left ++ right) l) (sym (ap (λ (l : List Value). l ++ other_right) is ∙ append_assoc first rest other_right))
    ∙ ap (λ (l : List Value). same_row l (other_left ++ other_right)) is_one ∙ ap (λ (l : List Value). same_row one l) is_other

-- of two tests the second is made where the first holds
pub second_told : (a b c : Bool) → a ≡ true → (a && b) ≡ c → b ≡ c
second_told a b c holds h = ap (λ (x : Bool). x && b) (sym holds) ∙ h

pub first_told : (a b c : Bool) → a ≡ false → (a && b) ≡ c → a ≡ c
first_told a b c fails h = fails ∙ ap (λ (x : Bool). x && b) (sym fails) ∙ h
