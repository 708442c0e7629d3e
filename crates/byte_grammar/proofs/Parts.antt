-- What a reader and a spelling owe each other, and how pieces make a whole.
use Rattle.std.proofs.Common.{◌≡◌, ℕ, zero, suc, ◌+◌, ◌≤◌, Bool, true, false, cond, ltb, List, [], ◌∷◌, ◌++◌, length, get_or, take, drop, Option, Some, None, refl, sym, ap, subst, ◌∙◌, append_assoc, arith}
use Rattle.std.specs.Prelude.{◌&&◌}
use Rattle.std.specs.List.{flat_map, AllByRecursion}
use Rattle.std.proofs.lemmas.Bool.{ltb-false, le-ltb}
use Rattle.std.proofs.lemmas.List.{take_at, drop_at, take-append-drop, length-append, length-take, get_or-append-add}
use Rattle.std.proofs.lemmas.Option.{same_Some}
use Rattle.byte_grammar.specs.Reading.{Reader, IsBytes, ◌>>=◌, part, seq, mapped, checked, many, counted, sized}

pub record Reads {A : Type 0} (read : Reader A) (spell : A → List ℕ) (Fits : A → Type 0) : Type 0 where
  -- what is read is spelled so
  pub takes : (bytes : List ℕ) (a : A) (rest : List ℕ) → IsBytes bytes → read bytes ≡ Some (a, rest) → (bytes ≡ spell a ++ rest) × Fits a
  -- what is spelled so is read, whatever follows
  pub again : (a : A) (rest : List ℕ) → Fits a → read (spell a ++ rest) ≡ Some (a, rest)

pub IsBytes-after : (bytes front rest : List ℕ) → bytes ≡ front ++ rest → IsBytes bytes → IsBytes rest
IsBytes-after bytes front rest e fits i =
    let here : get_or rest i 0 ≡ get_or bytes (length front + i) 0 = rw e (sym (get_or-append-add front rest i 0)) in
    rw here (fits (length front + i))

pub bind_some : {A B : Type 0} (o : Option A) (f : A → Option B) (y : B) → (o >>= f) ≡ Some y → (x : A) × (o ≡ Some x) × (f x ≡ Some y)
bind_some (Some x) f y e = (x, refl, e)
bind_some None f y e = absurd cc

pub then_some : {A : Type 0} (b : Bool) (x y : A) → cond b (Some x) None ≡ Some y → (b ≡ true) × (x ≡ y)
then_some true x y e = (refl, cc)
then_some false x y e = absurd cc

pub else_some : {A : Type 0} (b : Bool) (x y : A) → cond b None (Some x) ≡ Some y → (b ≡ false) × (x ≡ y)
else_some true x y e = absurd cc
else_some false x y e = (refl, cc)

pub if_some : {A : Type 0} (b : Bool) (o : Option A) (y : A) → cond b o None ≡ Some y → (b ≡ true) × (o ≡ Some y)
if_some true o y e = (refl, e)
if_some false o y e = absurd cc

pub and_left : (a b : Bool) → (a && b) ≡ true → a ≡ true
and_left true b e = refl
and_left false b e = e

pub and_right : (a b : Bool) → (a && b) ≡ true → b ≡ true
and_right true b e = e
and_right false b e = absurd cc

-- ---- one after the other

pub seq_reads : {A B : Type 0} (ra : Reader A) (sa : A → List ℕ) (Fa : A → Type 0) (rb : Reader B) (sb : B → List ℕ) (Fb : B → Type 0)
    → Reads ra sa Fa → Reads rb sb Fb → Reads (seq ra rb) (λ (p : A × B). sa p.0 ++ sb p.1) (λ (p : A × B). Fa p.0 × Fb p.1)
unfolding seq
seq_reads {A} {B} ra sa Fa rb sb Fb a_law b_law = record {
  takes = λ bytes p rest fits e.
      let s = bind_some (ra bytes) (λ a. rb a.1 >>= λ b. Some ((a.0, b.0), b.1)) (p, rest) e in
      let t = bind_some (rb s.0.1) (λ b. Some ((s.0.0, b.0), b.1)) (p, rest) s.2 in
      let ta = a_law.takes bytes s.0.0 s.0.1 fits s.1 in
      let tb = b_law.takes s.0.1 t.0.0 t.0.1 (IsBytes-after bytes (sa s.0.0) s.0.1 ta.0 fits) t.1 in
      let parts : bytes ≡ (sa s.0.0 ++ sb t.0.0) ++ t.0.1 = ta.0 ∙ ap (λ (x : List ℕ). sa s.0.0 ++ x) tb.0 ∙ sym (append_assoc (sa s.0.0) (sb t.0.0) t.0.1) in
      let found : (A × B) × List ℕ = ((s.0.0, t.0.0), t.0.1) in
      let same : found ≡ (p, rest) = same_Some found (p, rest) t.2 in
      subst (λ (y : (A × B) × List ℕ). (bytes ≡ (sa y.0.0 ++ sb y.0.1) ++ y.1) × (Fa y.0.0 × Fb y.0.1)) same (parts, (ta.1, tb.1));
  again = λ p rest fits. rw (append_assoc (sa p.0) (sb p.1) rest, a_law.again p.0 (sb p.1 ++ rest) fits.0, b_law.again p.1 rest fits.1) refl;
}

-- ---- seen otherwise

pub mapped_takes : {A B : Type 0} (f : A → B) (r : Reader A) (s : A → List ℕ) (F : A → Type 0) → Reads r s F
    → (bytes : List ℕ) (b : B) (rest : List ℕ) → IsBytes bytes → mapped f r bytes ≡ Some (b, rest) → (a : A) × (f a ≡ b) × (bytes ≡ s a ++ rest) × F a
unfolding mapped
mapped_takes {A} {B} f r s F law bytes b rest fits e =
    let t = bind_some (r bytes) (λ a. Some (f a.0, a.1)) (b, rest) e in
    let ta = law.takes bytes t.0.0 t.0.1 fits t.1 in
    let found : B × List ℕ = (f t.0.0, t.0.1) in
    let same : found ≡ (b, rest) = same_Some found (b, rest) t.2 in
    let rest_is : t.0.1 ≡ rest = ap (λ (y : B × List ℕ). y.1) same in
    (t.0.0, ap (λ (y : B × List ℕ). y.0) same, subst (λ (x : List ℕ). bytes ≡ s t.0.0 ++ x) rest_is ta.0, ta.1)

pub mapped_again : {A B : Type 0} (f : A → B) (r : Reader A) (s : A → List ℕ) (F : A → Type 0) → Reads r s F
    → (a : A) (rest : List ℕ) → F a → mapped f r (s a ++ rest) ≡ Some (f a, rest)
unfolding mapped
mapped_again f r s F law a rest fits = rw (law.again a rest fits) refl

-- ---- a test

pub checked_reads : {A : Type 0} (test : A → Bool) (r : Reader A) (s : A → List ℕ) (F : A → Type 0) → Reads r s F
    → Reads (checked test r) s (λ (a : A). F a × (test a ≡ true))
unfolding checked
checked_reads {A} test r s F law = record {
  takes = λ bytes a rest fits e.
      let t = bind_some (r bytes) (λ x. cond (test x.0) (Some x) None) (a, rest) e in
      let g = then_some (test t.0.0) t.0 (a, rest) t.2 in
      let ta = law.takes bytes t.0.0 t.0.1 fits t.1 in
      subst (λ (y : A × List ℕ). (bytes ≡ s y.0 ++ y.1) × (F y.0 × (test y.0 ≡ true))) g.1 (ta.0, (ta.1, g.0));
  again = λ a rest fits. rw (law.again a rest fits.0, fits.1) refl;
}

-- the same, where the condition is said otherwise
pub reads_as : {A : Type 0} (r : Reader A) (s : A → List ℕ) (F G : A → Type 0) → Reads r s F → ((a : A) → F a → G a) → ((a : A) → G a → F a) → Reads r s G
reads_as r s F G law there back = record {
  takes = λ bytes a rest fits e. let t = law.takes bytes a rest fits e in (t.0, there a t.1);
  again = λ a rest fits. law.again a rest (back a fits);
}

-- ---- many

pub many_takes : {A : Type 0} (r : Reader A) (s : A → List ℕ) (F : A → Type 0) → Reads r s F
    → (n : ℕ) (bytes : List ℕ) (xs : List A) (rest : List ℕ) → IsBytes bytes → many r n bytes ≡ Some (xs, rest) → (bytes ≡ flat_map s xs ++ rest) × AllByRecursion F xs × (length xs ≡ n)
unfolding many
many_takes {A} r s F law zero bytes xs rest fits e =
    let none : List A × List ℕ = ([], bytes) in
    subst (λ (y : List A × List ℕ). (bytes ≡ flat_map s y.0 ++ y.1) × AllByRecursion F y.0 × (length y.0 ≡ 0)) (same_Some none (xs, rest) e) (refl, tt, refl)
many_takes {A} r s F law (suc n) bytes xs rest fits e =
    let t = bind_some (r bytes) (λ first. many r n first.1 >>= λ others. Some (first.0 ∷ others.0, others.1)) (xs, rest) e in
    let u = bind_some (many r n t.0.1) (λ others. Some (t.0.0 ∷ others.0, others.1)) (xs, rest) t.2 in
    let ta = law.takes bytes t.0.0 t.0.1 fits t.1 in
    let tb = many_takes r s F law n t.0.1 u.0.0 u.0.1 (IsBytes-after bytes (s t.0.0) t.0.1 ta.0 fits) u.1 in
    let parts : bytes ≡ (s t.0.0 ++ flat_map s u.0.0) ++ u.0.1 = ta.0 ∙ ap (λ (x : List ℕ). s t.0.0 ++ x) tb.0 ∙ sym (append_assoc (s t.0.0) (flat_map s u.0.0) u.0.1) in
    let found : List A × List ℕ = (t.0.0 ∷ u.0.0, u.0.1) in
    subst (λ (y : List A × List ℕ). (bytes ≡ flat_map s y.0 ++ y.1) × AllByRecursion F y.0 × (length y.0 ≡ suc n)) (same_Some found (xs, rest) u.2) (parts, (ta.1, tb.1), ap suc tb.2)

pub many_again : {A : Type 0} (r : Reader A) (s : A → List ℕ) (F : A → Type 0) → Reads r s F
    → (xs : List A) (rest : List ℕ) → AllByRecursion F xs → many r (length xs) (flat_map s xs ++ rest) ≡ Some (xs, rest)
unfolding many
many_again r s F law [] rest fits = refl
many_again r s F law (x ∷ xs) rest fits = rw (append_assoc (s x) (flat_map s xs) rest, law.again x (flat_map s xs ++ rest) fits.0, many_again r s F law xs rest fits.1) refl

pub counted_reads : {A : Type 0} (rc : Reader ℕ) (sc : ℕ → List ℕ) (Fc : ℕ → Type 0) (test : ℕ → Bool) (r : Reader A) (s : A → List ℕ) (F : A → Type 0)
    → Reads rc sc Fc → Reads r s F → Reads (counted rc test r) (λ (xs : List A). sc (length xs) ++ flat_map s xs) (λ (xs : List A). (Fc (length xs) × (test (length xs) ≡ true)) × AllByRecursion F xs)
unfolding counted
counted_reads {A} rc sc Fc test r s F c_law law = record {
  takes = λ bytes xs rest fits e.
      let t = bind_some (rc bytes) (λ n. cond (test n.0) (many r n.0 n.1) None) (xs, rest) e in
      let g = if_some (test t.0.0) (many r t.0.0 t.0.1) (xs, rest) t.2 in
      let tc = c_law.takes bytes t.0.0 t.0.1 fits t.1 in
      let tm = many_takes r s F law t.0.0 t.0.1 xs rest (IsBytes-after bytes (sc t.0.0) t.0.1 tc.0 fits) g.1 in
      let parts : bytes ≡ (sc t.0.0 ++ flat_map s xs) ++ rest = tc.0 ∙ ap (λ (x : List ℕ). sc t.0.0 ++ x) tm.0 ∙ sym (append_assoc (sc t.0.0) (flat_map s xs) rest) in
      subst (λ (k : ℕ). (bytes ≡ (sc k ++ flat_map s xs) ++ rest) × ((Fc k × (test k ≡ true)) × AllByRecursion F xs)) (sym tm.2) (parts, ((tc.1, g.0), tm.1));
  again = λ xs rest fits. rw (append_assoc (sc (length xs)) (flat_map s xs) rest, c_law.again (length xs) (flat_map s xs ++ rest) fits.0.0, fits.0.1, many_again r s F law xs rest fits.1) refl;
}

-- ---- a length and as many bytes

pub sized_reads : (rc : Reader ℕ) (sc : ℕ → List ℕ) (Fc : ℕ → Type 0) → Reads rc sc Fc → Reads (sized rc) (λ (bs : List ℕ). sc (length bs) ++ bs) (λ (bs : List ℕ). Fc (length bs))
unfolding sized
sized_reads rc sc Fc law = record {
  takes = λ bytes bs rest fits e.
      let t = bind_some (rc bytes) (λ n. part n.0 n.1) (bs, rest) e in
      let n = t.0 in
      let g = else_some (ltb (length n.1) n.0) (take n.0 n.1, drop n.0 n.1) (bs, rest) t.2 in
      let tc = law.takes bytes n.0 n.1 fits t.1 in
      let long : n.0 ≤ length n.1 = ltb-false _ _ g.0 in
      let len : length (take n.0 n.1) ≡ n.0 = omega (arith, length-take n.0 n.1) in
      let parts : bytes ≡ (sc n.0 ++ take n.0 n.1) ++ drop n.0 n.1 = tc.0 ∙ ap (λ (x : List ℕ). sc n.0 ++ x) (sym (take-append-drop n.0 n.1)) ∙ sym (append_assoc (sc n.0) (take n.0 n.1) (drop n.0 n.1)) in
      let here : (bytes ≡ (sc (length (take n.0 n.1)) ++ take n.0 n.1) ++ drop n.0 n.1) × Fc (length (take n.0 n.1)) = subst (λ (k : ℕ). (bytes ≡ (sc k ++ take n.0 n.1) ++ drop n.0 n.1) × Fc k) (sym len) (parts, tc.1) in
      subst (λ (y : List ℕ × List ℕ). (bytes ≡ (sc (length y.0) ++ y.0) ++ y.1) × Fc (length y.0)) g.1 here;
  again = λ bs rest fits.
      let long : ltb (length (bs ++ rest)) (length bs) ≡ false = le-ltb _ _ (omega (arith, length-append bs rest)) in
      rw (append_assoc (sc (length bs)) bs rest, law.again (length bs) (bs ++ rest) fits, long, take_at bs rest (length bs) refl, drop_at bs rest (length bs) refl) refl;
}
