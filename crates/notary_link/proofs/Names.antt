-- Names that compare alike are one, and `same_name` says of two names whether they are.
use Rattle.std.proofs.Common.{◌≡◌, ◌==◌, ◌&&◌, ℕ, zero, suc, Bool, true, false, refl, sym, ap, ◌∙◌, arith}
use Rattle.std.proofs.lemmas.Bool.Decides.{nat_tests}
use Rattle.std.specs.Ordering.{nat_cmp, on, then_cmp, ordering_then, is_eq}
use Rattle.std.specs.declared.cmp.Ordering.{Ordering}
use Rattle.std.specs.declared.cmp.Ordering.TheVariants.{Less, Equal, Greater}
use Rattle.notary_link.specs.declared.name.Name.{Name}
use Rattle.notary_link.specs.declared.name.Name.TheVariants.{Header, Cum, Tile, Node, Era, EraNode}
use Rattle.notary_link.specs.Batches.{same_name}
use Rattle.notary_link.specs.NameOrder.{name_cmp, name_rank, first_number, second_number, third_number}

is_eq_then : (a b : Ordering) → is_eq (ordering_then a b) ≡ (is_eq a && is_eq b)
is_eq_then Less b = refl
is_eq_then Equal b = refl
is_eq_then Greater b = refl

is_eq_nat : (a b : ℕ) → is_eq (nat_cmp a b) ≡ (a == b)
is_eq_nat a b = grind (arith, nat_tests)

and_true : (b : Bool) → (b && true) ≡ b
and_true true = refl
and_true false = refl

one_number : (b : Bool) → ((b && true) && true) ≡ b
one_number true = refl
one_number false = refl

-- all numbers of two names are equal
abbrev alike : Name → Name → Bool
alike a b = (((name_rank a == name_rank b) && (first_number a == first_number b)) && (second_number a == second_number b)) && (third_number a == third_number b)

parts : (a b : Name) → alike a b ≡ same_name a b
parts Header Header = refl
parts Header (Cum m) = refl
parts Header (Tile m b) = refl
parts Header (Node m n) = refl
parts Header (Era f) = refl
parts Header (EraNode f m n) = refl
parts (Cum j) Header = refl
parts (Cum j) (Cum m) = one_number (j == m)
parts (Cum j) (Tile m b) = refl
parts (Cum j) (Node m n) = refl
parts (Cum j) (Era f) = refl
parts (Cum j) (EraNode f m n) = refl
parts (Tile j a) Header = refl
parts (Tile j a) (Cum m) = refl
parts (Tile j a) (Tile m b) = and_true ((j == m) && (a == b))
parts (Tile j a) (Node m n) = refl
parts (Tile j a) (Era f) = refl
parts (Tile j a) (EraNode f m n) = refl
parts (Node l i) Header = refl
parts (Node l i) (Cum m) = refl
parts (Node l i) (Tile m b) = refl
parts (Node l i) (Node m n) = and_true ((l == m) && (i == n))
parts (Node l i) (Era f) = refl
parts (Node l i) (EraNode f m n) = refl
parts (Era e) Header = refl
parts (Era e) (Cum m) = refl
parts (Era e) (Tile m b) = refl
parts (Era e) (Node m n) = refl
parts (Era e) (Era f) = one_number (e == f)
parts (Era e) (EraNode f m n) = refl
parts (EraNode e l i) Header = refl
parts (EraNode e l i) (Cum m) = refl
parts (EraNode e l i) (Tile m b) = refl
parts (EraNode e l i) (Node m n) = refl
parts (EraNode e l i) (Era f) = refl
parts (EraNode e l i) (EraNode f m n) = refl

pub eq_is_same : (a b : Name) → is_eq (name_cmp a b) ≡ same_name a b
unfolding name_cmp
eq_is_same a b =
    is_eq_then (then_cmp (then_cmp (on name_rank nat_cmp) (on first_number nat_cmp)) (on second_number nat_cmp) a b) (nat_cmp (third_number a) (third_number b))
    ∙ ap (λ (c : Bool). c && is_eq (nat_cmp (third_number a) (third_number b))) (is_eq_then (then_cmp (on name_rank nat_cmp) (on first_number nat_cmp) a b) (nat_cmp (second_number a) (second_number b)))
    ∙ ap (λ (c : Bool). (c && is_eq (nat_cmp (second_number a) (second_number b))) && is_eq (nat_cmp (third_number a) (third_number b))) (is_eq_then (nat_cmp (name_rank a) (name_rank b)) (nat_cmp (first_number a) (first_number b)))
    ∙ rw (is_eq_nat (name_rank a) (name_rank b), is_eq_nat (first_number a) (first_number b), is_eq_nat (second_number a) (second_number b), is_eq_nat (third_number a) (third_number b)) (parts a b)

-- the name of a kind with these numbers
abbrev named : ℕ → ℕ → ℕ → ℕ → Name
named zero a b c = Header
named (suc zero) a b c = Cum a
named (suc (suc zero)) a b c = Tile a b
named (suc (suc (suc zero))) a b c = Node a b
named (suc (suc (suc (suc zero)))) a b c = Era a
named (suc (suc (suc (suc (suc n))))) a b c = EraNode a b c

named_so : (n : Name) → named (name_rank n) (first_number n) (second_number n) (third_number n) ≡ n
named_so Header = refl
named_so (Cum j) = refl
named_so (Tile j a) = refl
named_so (Node l i) = refl
named_so (Era e) = refl
named_so (EraNode e l i) = refl

both : (a b : Bool) → (a && b) ≡ true → (a ≡ true) × (b ≡ true)
both true true e = (refl, refl)
both true false e = absurd cc
both false b e = absurd cc

same_number : (a b : ℕ) → (a == b) ≡ true → a ≡ b
same_number a b e = grind (arith, nat_tests)

pub same_is : (a b : Name) → same_name a b ≡ true → a ≡ b
same_is a b e =
    let all = both (((name_rank a == name_rank b) && (first_number a == first_number b)) && (second_number a == second_number b)) (third_number a == third_number b) (parts a b ∙ e) in
    let three = both ((name_rank a == name_rank b) && (first_number a == first_number b)) (second_number a == second_number b) all.0 in
    let two = both (name_rank a == name_rank b) (first_number a == first_number b) three.0 in
    sym (named_so a)
    ∙ ap (λ (n : ℕ). named n (first_number a) (second_number a) (third_number a)) (same_number (name_rank a) (name_rank b) two.0)
    ∙ ap (λ (n : ℕ). named (name_rank b) n (second_number a) (third_number a)) (same_number (first_number a) (first_number b) two.1)
    ∙ ap (λ (n : ℕ). named (name_rank b) (first_number b) n (third_number a)) (same_number (second_number a) (second_number b) three.1)
    ∙ ap (λ (n : ℕ). named (name_rank b) (first_number b) (second_number b) n) (same_number (third_number a) (third_number b) all.1)
    ∙ named_so b

own_number : (n : ℕ) → (n == n) ≡ true
own_number n = grind (arith, nat_tests)

and_both : (a b : Bool) → a ≡ true → b ≡ true → (a && b) ≡ true
and_both true b e f = f
and_both false b e f = absurd cc

pub is_itself : (a : Name) → same_name a a ≡ true
is_itself Header = refl
is_itself (Cum j) = own_number j
is_itself (Tile j a) = and_both (j == j) (a == a) (own_number j) (own_number a)
is_itself (Node l i) = and_both (l == l) (i == i) (own_number l) (own_number i)
is_itself (Era e) = own_number e
is_itself (EraNode e l i) = and_both ((e == e) && (l == l)) (i == i) (and_both (e == e) (l == l) (own_number e) (own_number l)) (own_number i)
