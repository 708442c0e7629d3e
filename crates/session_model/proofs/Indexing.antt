-- The numbers of all places show the conflicts.
use Rattle.std.proofs.Common.{◌≡◌, ℕ, zero, suc, ◌+◌, ◌<◌, ◌≤◌, min, nat_lt, Bool, true, false, cond, ◌||◌, if◌then◌else◌, Option, Some, None, IfSome, List, [], ◌∷◌, ◌++◌, length, map, refl, sym, ap, subst, ◌∙◌, arith}
use Rattle.std.specs.List.{filter, find, list_any}
use Rattle.std.specs.Option.{option_map}
use Rattle.std.proofs.lemmas.Bool.Decides.{nat_tests}
use Rattle.std.proofs.lemmas.List.{drop-append-le}
use Rattle.std.proofs.lemmas.List.Elements.{filter-append}
use Rattle.tuple_bytes.specs.declared.op.Op.{Op}
use Rattle.tuple_bytes.specs.declared.item.Txn.{Txn}
use Rattle.session_model.specs.declared.place.Place.{Place}
use Rattle.session_model.specs.Places.{touches, touches_one, first_touching, since}
use Rattle.session_model.specs.Index.{touch_numbers, NumberedFrom, lesser, least_above, IndexShowsConflicts, IndexGrows}

-- ---- places one by one

or_other : (a b c d : Bool) → ((a || b) || (c || d)) ≡ ((a || c) || (b || d))
or_other true b c d = refl
or_other false true true d = refl
or_other false true false d = refl
or_other false false c d = refl

any_apart : (p : Place) (ps : List Place) (ops : List Op)
    → list_any (λ op. list_any (touches op) (p ∷ ps)) ops ≡ (list_any (λ op. list_any (touches op) (p ∷ [])) ops || list_any (λ op. list_any (touches op) ps) ops)
any_apart p ps [] = refl
any_apart p ps (op ∷ ops) =
    ap (λ b. (touches op p || list_any (touches op) ps) || b) (any_apart p ps ops)
    ∙ or_other (touches op p) (list_any (touches op) ps) (list_any (λ o. list_any (touches o) (p ∷ [])) ops) (list_any (λ o. list_any (touches o) ps) ops)
    ∙ ap (λ b. (b || list_any (λ o. list_any (touches o) (p ∷ [])) ops) || (list_any (touches op) ps || list_any (λ o. list_any (touches o) ps) ops)) (sym (or_false (touches op p)))
  where
    or_false : (b : Bool) → (b || false) ≡ b
    or_false true = refl
    or_false false = refl

-- no number is below
at_least : (n : ℕ) (places : List Place) (ts : List Txn) → NumberedFrom n ts → IfSome (first_touching places ts) (λ number. n < number)
at_least n places [] h = tt
at_least n places (t ∷ ts) h =
    by (touches_one places t) (find (touches_one places) ts) (at_least (n + 1) places ts h.1)
  where
    by : (b : Bool) (o : Option Txn) → IfSome (option_map (λ (u : Txn). u.number) o) (λ number. n + 1 < number) → IfSome (option_map (λ (u : Txn). u.number) (cond b (Some t) o)) (λ number. n < number)
    by true o more = omega (arith, h.0)
    by false None more = tt
    by false (Some u) more = omega (arith, more)

first_of_two : (n : ℕ) (p : Place) (ps : List Place) (ts : List Txn) → NumberedFrom n ts → first_touching (p ∷ ps) ts ≡ lesser (first_touching (p ∷ []) ts) (first_touching ps ts)
first_of_two n p ps [] h = refl
first_of_two n p ps (t ∷ ts) h =
    ap (λ b. option_map (λ (u : Txn). u.number) (cond b (Some t) (find (touches_one (p ∷ ps)) ts))) (any_apart p ps t.ops)
    ∙ by (touches_one (p ∷ []) t) (touches_one ps t) (find (touches_one (p ∷ [])) ts) (find (touches_one ps) ts) (find (touches_one (p ∷ ps)) ts) (at_least (n + 1) (p ∷ []) ts h.1) (at_least (n + 1) ps ts h.1) (first_of_two (n + 1) p ps ts h.1)
  where
    by : (a b : Bool) (x y z : Option Txn) → IfSome (option_map (λ (u : Txn). u.number) x) (λ number. n + 1 < number) → IfSome (option_map (λ (u : Txn). u.number) y) (λ number. n + 1 < number)
        → option_map (λ (u : Txn). u.number) z ≡ lesser (option_map (λ (u : Txn). u.number) x) (option_map (λ (u : Txn). u.number) y)
        → option_map (λ (u : Txn). u.number) (cond (a || b) (Some t) z) ≡ lesser (option_map (λ (u : Txn). u.number) (cond a (Some t) x)) (option_map (λ (u : Txn). u.number) (cond b (Some t) y))
    by true true x y z ox oy same = let e : t.number ≡ min t.number t.number = omega arith in ap Some e
    by true false x None z ox oy same = refl
    by true false x (Some u) z ox oy same = let e : t.number ≡ min t.number u.number = omega (arith, h.0, oy) in ap Some e
    by false true None y z ox oy same = refl
    by false true (Some u) y z ox oy same = let e : t.number ≡ min u.number t.number = omega (arith, h.0, ox) in ap Some e
    by false false x y z ox oy same = same

-- ---- the numbers of a place

-- up to begun they are passed over
passed : (p : Place) (begun n : ℕ) (xs ys : List Txn) → NumberedFrom n (xs ++ ys) → n + length xs ≡ begun → find (nat_lt begun) (touch_numbers (xs ++ ys) p) ≡ find (nat_lt begun) (touch_numbers ys p)
passed p begun n [] ys h e = refl
passed p begun n (x ∷ xs) ys h e =
    by (touches_one (p ∷ []) x)
    ∙ passed p begun (n + 1) xs ys h.1 (omega arith)
  where
    by : (b : Bool) → find (nat_lt begun) (map (λ (u : Txn). u.number) (cond b (x ∷ filter (touches_one (p ∷ [])) (xs ++ ys)) (filter (touches_one (p ∷ [])) (xs ++ ys)))) ≡ find (nat_lt begun) (touch_numbers (xs ++ ys) p)
    by true = let low : nat_lt begun x.number ≡ false = grind (arith, nat_tests, h.0) in ap (λ b. cond b (Some x.number) (find (nat_lt begun) (touch_numbers (xs ++ ys) p))) low
    by false = refl

-- and behind it the first counts
counted : (p : Place) (begun n : ℕ) (ys : List Txn) → NumberedFrom n ys → begun ≤ n → find (nat_lt begun) (touch_numbers ys p) ≡ first_touching (p ∷ []) ys
counted p begun n [] h le = refl
counted p begun n (y ∷ ys) h le = by (touches_one (p ∷ []) y) (counted p begun (n + 1) ys h.1 (omega arith))
  where
    by : (b : Bool) → find (nat_lt begun) (touch_numbers ys p) ≡ first_touching (p ∷ []) ys
        → find (nat_lt begun) (map (λ (u : Txn). u.number) (cond b (y ∷ filter (touches_one (p ∷ [])) ys) (filter (touches_one (p ∷ [])) ys))) ≡ option_map (λ (u : Txn). u.number) (cond b (Some y) (find (touches_one (p ∷ [])) ys))
    by true rest = let high : nat_lt begun y.number ≡ true = grind (arith, nat_tests, h.0) in ap (λ b. cond b (Some y.number) (find (nat_lt begun) (touch_numbers ys p))) high
    by false rest = rest

behind : (n : ℕ) (xs ys : List Txn) → NumberedFrom n (xs ++ ys) → NumberedFrom (n + length xs) ys
behind n [] ys h = let e : n ≡ n + 0 = omega arith in subst (λ k. NumberedFrom k ys) e h
behind n (x ∷ xs) ys h = let e : n + 1 + length xs ≡ n + suc (length xs) = omega arith in subst (λ k. NumberedFrom k ys) e (behind (n + 1) xs ys h.1)

shown : (begun n : ℕ) (xs ys : List Txn) → NumberedFrom n (xs ++ ys) → n + length xs ≡ begun → (places : List Place) → least_above begun (touch_numbers (xs ++ ys)) places ≡ first_touching places ys
shown begun n xs ys h e [] = sym (none ys)
  where
    none : (ts : List Txn) → first_touching [] ts ≡ None
    none [] = refl
    none (t ∷ ts) = ap (λ b. option_map (λ (u : Txn). u.number) (cond b (Some t) (find (touches_one []) ts))) (quiet t.ops) ∙ none ts
      where
        quiet : (ops : List Op) → list_any (λ op. list_any (touches op) []) ops ≡ false
        quiet [] = refl
        quiet (op ∷ ops) = quiet ops
shown begun n xs ys h e (p ∷ ps) =
    let from : NumberedFrom begun ys = subst (λ k. NumberedFrom k ys) e (behind n xs ys h) in
    ap (λ o. lesser o (least_above begun (touch_numbers (xs ++ ys)) ps)) (passed p begun n xs ys h e ∙ counted p begun begun ys from (omega arith))
    ∙ ap (lesser (first_touching (p ∷ []) ys)) (shown begun n xs ys h e ps)
    ∙ sym (first_of_two begun p ps ys from)

-- the transactions between two begins
parted : (from begun : ℕ) (ts : List Txn) → from ≤ begun → begun ≤ length ts → (xs : List Txn) × (since from ts ≡ xs ++ since begun ts) × (from + length xs ≡ begun)
parted zero zero ts le lt = ([], refl, refl)
parted zero (suc begun) [] le lt = absurd (omega arith)
parted zero (suc begun) (t ∷ ts) le lt =
    let rest = parted zero begun ts (omega arith) (omega arith) in
    (t ∷ rest.0, ap (λ l. t ∷ l) rest.1, omega (arith, rest.2))
parted (suc from) zero ts le lt = absurd (omega arith)
parted (suc from) (suc begun) [] le lt = absurd (omega arith)
parted (suc from) (suc begun) (t ∷ ts) le lt =
    let rest = parted from begun ts (omega arith) (omega arith) in
    (rest.0, rest.1, omega (arith, rest.2))

pub index_shows_conflicts : IndexShowsConflicts
index_shows_conflicts from begun ts places le lt h =
    let parts = parted from begun ts le lt in
    ap (λ l. least_above begun (touch_numbers l) places) parts.1
    ∙ shown begun from parts.0 (since begun ts) (subst (NumberedFrom from) parts.1 h) parts.2 places

map-append : {A B : Type 0} (f : A → B) (xs ys : List A) → map f (xs ++ ys) ≡ map f xs ++ map f ys
map-append f [] ys = refl
map-append f (x ∷ xs) ys = ap (λ l. f x ∷ l) (map-append f xs ys)

pub index_grows : IndexGrows
index_grows from ts t place le =
    ap (λ l. touch_numbers l place) (drop-append-le from ts (t ∷ []) le)
    ∙ ap (map (λ (u : Txn). u.number)) (filter-append (touches_one (place ∷ [])) (since from ts) (t ∷ []))
    ∙ map-append (λ (u : Txn). u.number) (filter (touches_one (place ∷ [])) (since from ts)) (filter (touches_one (place ∷ [])) (t ∷ []))
    ∙ ap (λ l. touch_numbers (since from ts) place ++ l) (by (touches_one (place ∷ []) t))
  where
    by : (b : Bool) → map (λ (u : Txn). u.number) (cond b (t ∷ []) []) ≡ (if b then t.number ∷ [] else [])
    by true = refl
    by false = refl
