-- Which transaction is the first that touches something.
use Rattle.std.proofs.Common.{◌≡◌, ℕ, suc, Bool, true, false, cond, ◌&&◌, ◌||◌, Option, Some, None, MatchOption, List, [], ◌∷◌, ◌↔◌, refl, sym, ap, ◌∙◌, arith}
use Rattle.std.specs.List.{Contains, find, list_any}
use Rattle.std.specs.Option.{option_map}
use Rattle.std.proofs.lemmas.List.Folds.{list_any_at}
use Rattle.tuple_bytes.specs.declared.value.Value.{Value}
use Rattle.tuple_bytes.specs.declared.op.Op.{Op}
use Rattle.tuple_bytes.specs.declared.op.Op.TheVariants.{Create, Put, Remove}
use Rattle.history_model.specs.Values.{key_of, same_name, same_key}
use Rattle.tuple_bytes.specs.declared.item.Txn.{Txn}
use Rattle.session_model.specs.declared.place.Place.{Place}
use Rattle.session_model.specs.declared.place.Place.TheVariants.{Key, Keys}
use Rattle.session_model.specs.Places.{touches, touches_one, first_touching}
use Rattle.session_model.specs.Later.{NoneTouches}
use Rattle.session_model.specs.Conflicts.{IsFirstTouching, ConflictsAreFirst, ReadsAreASet, SameReadsConflictAlike, AllKeysCoverEach}

module _ (places : List Place) where
  one_first : (t : Txn) (ts : List Txn) (b : Bool) → touches_one places t ≡ b → (o : Option Txn)
      → MatchOption (option_map (λ (u : Txn). u.number) o) (NoneTouches places ts) (IsFirstTouching places ts)
      → MatchOption (option_map (λ (u : Txn). u.number) (cond b (Some t) o)) (NoneTouches places (t ∷ ts)) (IsFirstTouching places (t ∷ ts))
  one_first t ts true is o h = record { before = []; txn = t; others = ts; parts = refl; none = tt; touches = is; numbered = refl }
  one_first t ts false is None h = (is, h)
  one_first t ts false is (Some u) h = record { before = t ∷ h.before; txn = h.txn; others = h.others; parts = ap (λ l. t ∷ l) h.parts; none = (is, h.none); touches = h.touches; numbered = h.numbered }

  first_is : (ts : List Txn) → MatchOption (first_touching places ts) (NoneTouches places ts) (IsFirstTouching places ts)
  first_is [] = tt
  first_is (t ∷ ts) = one_first t ts (touches_one places t) refl (find (touches_one places) ts) (first_is ts)

pub conflicts_are_first : ConflictsAreFirst
conflicts_are_first places ts = first_is places ts

-- ---- as a set

any_has : {X : Type 0} (p : X → Bool) (xs : List X) → list_any p xs ≡ true → (x : X) × Contains xs x × (p x ≡ true)
any_has p [] e = cc
any_has {X} p (x ∷ xs) e = by (p x) refl (any_has p xs)
  where
    by : (b : Bool) → p x ≡ b → (list_any p xs ≡ true → (y : X) × Contains xs y × (p y ≡ true)) → (y : X) × Contains (x ∷ xs) y × (p y ≡ true)
    by true is rest = (x, (0, omega arith, refl), is)
    by false is rest =
        let further : list_any p xs ≡ true = rw is at e in
        let h = rest further in
        (h.0, (suc h.1.0, omega (arith, h.1.1), h.1.2), h.2)

has_any : {X : Type 0} (p : X → Bool) (xs : List X) (x : X) → Contains xs x → p x ≡ true → list_any p xs ≡ true
has_any p xs x h e = list_any_at p xs h.0 x h.1 (ap p h.2 ∙ e)

same_bool : (a b : Bool) → (a ≡ true → b ≡ true) → (b ≡ true → a ≡ true) → a ≡ b
same_bool true b f g = sym (f refl)
same_bool false true f g = g refl
same_bool false false f g = refl

same_any : (p : Place → Bool) (a b : List Place) → ((place : Place) → Contains a place ↔ Contains b place) → list_any p a ≡ list_any p b
same_any p a b same = same_bool (list_any p a) (list_any p b)
    (λ e. let h = any_has p a e in has_any p b h.0 ((same h.0).0 h.1) h.2)
    (λ e. let h = any_has p b e in has_any p a h.0 ((same h.0).1 h.1) h.2)

pub any_alike : {X : Type 0} (f g : X → Bool) → ((x : X) → f x ≡ g x) → (xs : List X) → list_any f xs ≡ list_any g xs
any_alike f g same [] = refl
any_alike f g same (x ∷ xs) = ap (λ b. b || list_any f xs) (same x) ∙ ap (λ b. g x || b) (any_alike f g same xs)

find_alike : {X : Type 0} (f g : X → Bool) → ((x : X) → f x ≡ g x) → (xs : List X) → find f xs ≡ find g xs
find_alike f g same [] = refl
find_alike f g same (x ∷ xs) = ap (λ b. cond b (Some x) (find f xs)) (same x) ∙ ap (λ o. cond (g x) (Some x) o) (find_alike f g same xs)

pub same_reads_conflict_alike : SameReadsConflictAlike
same_reads_conflict_alike a b ts same =
    ap (option_map (λ (t : Txn). t.number)) (find_alike (touches_one a) (touches_one b)
    (λ t. any_alike (λ op. list_any (touches op) a) (λ op. list_any (touches op) b) same t.ops) ts)

pub reads_are_a_set : ReadsAreASet
reads_are_a_set a b ts same = same_reads_conflict_alike a b ts (λ op. same_any (touches op) a b same)

-- a key is one of all keys
covered : (op : Op) (table : List ℕ) (key : Value) (rest : Bool) → (touches op (Keys table) || (touches op (Key table key) || rest)) ≡ (touches op (Keys table) || rest)
covered (Create name columns) table key rest = refl
covered (Put name row) table key rest = by (same_name name table) (same_key (key_of row) key)
  where
    by : (b c : Bool) → (b || ((b && c) || rest)) ≡ (b || rest)
    by true c = refl
    by false c = refl
covered (Remove name removed) table key rest = by (same_name name table) (same_key removed key)
  where
    by : (b c : Bool) → (b || ((b && c) || rest)) ≡ (b || rest)
    by true c = refl
    by false c = refl

pub all_keys_cover_each : AllKeysCoverEach
all_keys_cover_each table key places op = covered op table key (list_any (touches op) places)
