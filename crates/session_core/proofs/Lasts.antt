-- What is noted of reads, over a session's operations: what is read leaves it, an operation more stands behind all others, and a
-- refused one may be taken back.
use Rattle.std.proofs.Common.{◌≡◌, ◌≢◌, ◌⊎◌, inl, inr, ℕ, zero, suc, ◌+◌, ◌<◌, ◌≤◌, Bool, true, false, ◌&&◌, cond, Option, Some, None, is_some, Result, Ok, Err, List, [], ◌∷◌, ◌++◌, take, drop, length, refl, sym, ap, subst, ◌∙◌, arith}
use Rattle.std.specs.BTreeMap.{is_at}
use Rattle.std.specs.Map.{lookup}
use Rattle.std.proofs.lemmas.List.{drop_all, length-append, take-append-le}
use Rattle.tuple_bytes.specs.Order.{name_cmp, value_cmp}
use Rattle.tuple_bytes.specs.declared.value.Value.{Value}
use Rattle.tuple_bytes.specs.declared.op.Op.{Op}
use Rattle.tuple_bytes.specs.declared.op.Op.TheVariants as ops
use Rattle.tuple_bytes.proofs.Exact.{names_exact, values_exact}
use Rattle.history_model.specs.declared.change.TableFail.{TableFail}
use Rattle.history_model.specs.declared.change.Write.{Write}
use Rattle.history_model.specs.Answers.{write_key, write_name}
use Rattle.history_model.specs.Values.{key_of, same_name, same_key}
use Rattle.history_model.proofs.Pending.{equal_of}
use Rattle.tt_table.specs.declared.known.Known.{Known}
use Rattle.tt_table.specs.Known.{IsKnown, NoneCreates, NoneOfKey, creates, is_of_key}
use Rattle.stmt_text.specs.declared.stmt.Stmt.{Stmt}
use Rattle.stmt_text.specs.declared.stmt.Stmt.TheVariants as stmts
use Rattle.store_engine.specs.declared.fail.StoreFail.{StoreFail}
use Rattle.statement_core.specs.declared.reply.Reply.TheVariants.{Done}
use Rattle.session_model.specs.declared.place.Place.{Place}
use Rattle.session_model.specs.declared.place.Place.TheVariants.{Key, Existence}
use Rattle.session_model.specs.PlaceOrder.{place_key, place_table}
use Rattle.session_model.specs.Statements.{pend, pended, size_fault}
use Rattle.session_core.specs.Noted.{Firsts, Lasts, Marks, AreFirsts, AreLasts, AreNoted, HasOwn, HasTables, IsNotedAt, IsNotedForGet, IsKnownForGet, IsRead, KeepsFirsts, LowersFirsts, PutsBack, PutsFirst, SetsLasts, first_at, last_at}
use Rattle.session_core.proofs.Puts.{Puts}

-- ---- what was named was read

pub table_more : (places : Lasts) (table : List ℕ) (n : ℕ) (old new : Firsts) → Puts name_cmp table n old new → IsRead places (Existence table) → HasTables places old → HasTables places new
table_more places table n old new puts read has name named = by (is_at (name_cmp table) name) refl (sym (ap is_some (puts name)) ∙ named)
  where
    by : (b : Bool) → is_at (name_cmp table) name ≡ b → is_some (cond b (Some n) (lookup (is_at (name_cmp name)) old)) ≡ true → IsRead places (Existence name)
    by true e named = subst (λ (t : List ℕ). IsRead places (Existence t)) (names_exact table name (equal_of (name_cmp table name) e)) read
    by false e named = has name named

-- ---- a table that is named, and has this number or its own

pub lowered : (old between new : Firsts) (table : List ℕ) (k : ℕ) → KeepsFirsts old between → k ≤ first_at old table → PutsFirst table k between new → LowersFirsts old new
lowered old between new table k keeps le puts name = by (puts name)
  where
    by : (first_at new name ≡ first_at between name) ⊎ ((name ≡ table) × (first_at new name ≡ k)) → first_at new name ≤ first_at old name
    by (inl same) = let e : first_at new name ≡ first_at old name = same ∙ keeps name in omega arith
    by (inr at) = let low : first_at new name ≤ first_at old table = subst (λ (n : ℕ). n ≤ first_at old table) (sym at.1) le in subst (λ (t : List ℕ). first_at new name ≤ first_at old t) (sym at.0) low

-- ---- over no operation

none_make : (name : List ℕ) (n : ℕ) → NoneCreates name (take n [])
none_make name zero = tt
none_make name (suc n) = tt

none_change : (name : List ℕ) (key : Value) (n : ℕ) → NoneOfKey name key (drop n [])
none_change name key zero = tt
none_change name key (suc n) = tt

-- ---- what is known

module _ (marks : Marks) (pending : List Op) (are : AreNoted marks pending) where
  pub known_at : (name : List ℕ) (key : Value) (known : Known) → IsNotedAt marks name key known → IsKnown name key known pending
  known_at name key known at =
      let from : known.creates_from ≡ first_at marks.tables name = at.0 in
      record {
        created = are.firsts name known.creates_from (omega arith);
        changed = subst (λ (k : ℕ). NoneOfKey name key (drop k pending)) (sym at.1) (are.lasts name key);
      }

  pub known_for_get : (stmt : Stmt) (known : Known) → IsNotedForGet marks stmt known → IsKnownForGet pending stmt known
  known_for_get (stmts.Get table key moment) known at = known_at table key known at
  known_for_get stmt known at = tt

-- ---- what is read leaves it

module _ (n : ℕ) (old : Marks) (pending : List Op) (counted : n ≡ length pending + 1) (are : AreNoted old pending) where
  set_lasts : (new : Lasts) → SetsLasts n old.places new → AreLasts new pending
  set_lasts new sets name key = by (sets (Key name key))
    where
      by : (last_at new (Key name key) ≡ last_at old.places (Key name key)) ⊎ (last_at new (Key name key) ≡ n) → NoneOfKey name key (drop (last_at new (Key name key)) pending)
      by (inl same) = subst (λ (k : ℕ). NoneOfKey name key (drop k pending)) (sym same) (are.lasts name key)
      by (inr set) = subst (λ (l : List Op). NoneOfKey name key l) (sym (ap (λ (k : ℕ). drop k pending) set ∙ drop_all n pending (omega arith))) tt

  lower_firsts : (new : Firsts) → LowersFirsts old.tables new → AreFirsts new pending
  lower_firsts new lowers name k le = let lower : first_at new name ≤ first_at old.tables name = lowers name in are.firsts name k (omega arith)

  pub still_noted : (new : Marks) → SetsLasts n old.places new.places → LowersFirsts old.tables new.tables → AreNoted new pending
  still_noted new sets lowers = record { lasts = set_lasts new.places sets; firsts = lower_firsts new.tables lowers }

-- ---- an operation more

module _ (n : ℕ) (places : Lasts) (name : List ℕ) (key : Value) where
  same_place : (t : List ℕ) (k : Value) → last_at places (Key t k) ≡ n → (a : Bool) → same_name t name ≡ a → (b : Bool) → same_key k key ≡ b → (a && b) ≡ true → last_at places (Key name key) ≡ n
  same_place t k h false p b q e = absurd cc
  same_place t k h true p false q e = absurd cc
  same_place t k h true p true q e =
      let same : Key t k ≡ Key name key = ap (λ (m : List ℕ). Key m k) (names_exact t name (equal_of (name_cmp t name) p)) ∙ ap (Key name) (values_exact k key (equal_of (value_cmp k key) q)) in
      subst (λ (x : Place). last_at places x ≡ n) same h

module _ (n : ℕ) (marks : Marks) (name : List ℕ) where
  own_last : (key : Value) (op : Op) → HasOwn n marks op → is_of_key name key op ≡ true → last_at marks.places (Key name key) ≡ n
  own_last key (ops.Create t columns) h e = absurd cc
  own_last key (ops.Put t row) h e = same_place n marks.places name key t (key_of row) h (same_name t name) refl (same_key (key_of row) key) refl e
  own_last key (ops.Remove t k) h e = same_place n marks.places name key t k h (same_name t name) refl (same_key k key) refl e

  own_first : (op : Op) → HasOwn n marks op → creates name op ≡ true → first_at marks.tables name < n
  own_first (ops.Create t columns) h e = subst (λ (m : List ℕ). first_at marks.tables m < n) (names_exact t name (equal_of (name_cmp t name) e)) h
  own_first (ops.Put t row) h e = absurd cc
  own_first (ops.Remove t k) h e = absurd cc

module _ (name : List ℕ) (key : Value) (op : Op) (none : is_of_key name key op ≡ false) where
  none_more : (pending : List Op) → NoneOfKey name key pending → NoneOfKey name key (pending ++ op ∷ [])
  none_more [] h = (none, tt)
  none_more (p ∷ pending) h = (h.0, none_more pending h.1)

  none_later : (k : ℕ) (pending : List Op) → NoneOfKey name key (drop k pending) → NoneOfKey name key (drop k (pending ++ op ∷ []))
  none_later zero pending h = none_more pending h
  none_later (suc k) [] h = none_change name key k
  none_later (suc k) (p ∷ pending) h = none_later k pending h

module _ (name : List ℕ) (op : Op) (none : creates name op ≡ false) where
  none_makes : (k : ℕ) (pending : List Op) → NoneCreates name (take k pending) → NoneCreates name (take k (pending ++ op ∷ []))
  none_makes zero pending h = tt
  none_makes (suc k) [] h = (none, none_make name k)
  none_makes (suc k) (p ∷ pending) h = (h.0, none_makes k pending h.1)

module _ (n : ℕ) (marks : Marks) (pending : List Op) (counted : n ≡ length pending + 1) (are : AreNoted marks pending) where
  last_more : (op : Op) → HasOwn n marks op → AreLasts marks.places (pending ++ op ∷ [])
  last_more op has name key = by (is_of_key name key op) refl
    where
      by : (b : Bool) → is_of_key name key op ≡ b → NoneOfKey name key (drop (last_at marks.places (Key name key)) (pending ++ op ∷ []))
      by true is =
          let at : last_at marks.places (Key name key) ≡ n = own_last n marks name key op has is in
          let size : length (pending ++ op ∷ []) ≡ length pending + 1 = length-append pending (op ∷ []) in
          subst (λ (l : List Op). NoneOfKey name key l) (sym (drop_all (last_at marks.places (Key name key)) (pending ++ op ∷ []) (omega arith))) tt
      by false none = none_later name key op none (last_at marks.places (Key name key)) pending (are.lasts name key)

  first_more : (op : Op) → HasOwn n marks op → AreFirsts marks.tables (pending ++ op ∷ [])
  first_more op has name k le = by (creates name op) refl
    where
      by : (b : Bool) → creates name op ≡ b → NoneCreates name (take k (pending ++ op ∷ []))
      by true is =
          let before : first_at marks.tables name < n = own_first n marks name op has is in
          subst (λ (l : List Op). NoneCreates name l) (sym (take-append-le k pending (op ∷ []) (omega arith))) (are.firsts name k le)
      by false none = none_makes name op none k pending (are.firsts name k le)

  one_more : (op : Op) → HasOwn n marks op → AreNoted marks (pending ++ op ∷ [])
  one_more op has = record { lasts = last_more op has; firsts = first_more op has }

  pub pend_noted : (r : Result Op TableFail) → ((op : Op) → r ≡ Ok op → HasOwn n marks op) → AreNoted marks (pend pending r).pending
  pend_noted (Ok op) has = by (size_fault (pending ++ op ∷ []))
    where
      by : (f : Option StoreFail) → AreNoted marks (pended pending op f).pending
      by None = one_more op (has op refl)
      by (Some fail) = are
  pend_noted (Err fail) has = are

-- ---- a refused one

-- it is not pending
pub refused_left : (pending : List Op) (r : Result Op TableFail) → (pend pending r).reply ≢ Done → (pend pending r).pending ≡ pending
refused_left pending (Ok op) refused = by (size_fault (pending ++ op ∷ [])) refused
  where
    by : (f : Option StoreFail) → (pended pending op f).reply ≢ Done → (pended pending op f).pending ≡ pending
    by None refused = absurd (refused refl)
    by (Some fail) refused = refl
refused_left pending (Err fail) refused = refl

none_before : (name : List ℕ) (n k : ℕ) (pending : List Op) → n ≤ k → NoneCreates name (take k pending) → NoneCreates name (take n pending)
none_before name zero k pending le h = tt
none_before name (suc n) zero pending le h = absurd (omega arith)
none_before name (suc n) (suc k) [] le h = tt
none_before name (suc n) (suc k) (p ∷ pending) le h = (h.0, none_before name n k pending (omega arith) h.1)

module _ (old new : Marks) (pending : List Op) (are : AreNoted old pending) (change : Write) (known : Known) (is : IsKnown (write_name change) (write_key change) known pending) (back : PutsBack known change old new) where
  back_lasts : AreLasts new.places pending
  back_lasts name key = by (back.lasts (Key name key))
    where
      by : (last_at new.places (Key name key) ≡ last_at old.places (Key name key)) ⊎ ((Key name key ≡ Key (write_name change) (write_key change)) × (last_at new.places (Key name key) ≡ known.changes_to)) → NoneOfKey name key (drop (last_at new.places (Key name key)) pending)
      by (inl same) = subst (λ (k : ℕ). NoneOfKey name key (drop k pending)) (sym same) (are.lasts name key)
      by (inr at) = subst (λ (k : ℕ). NoneOfKey name key (drop k pending)) (sym at.1) (subst (λ (place : Place). NoneOfKey (place_table place) (place_key place) (drop known.changes_to pending)) (sym at.0) is.changed)

  back_firsts : AreFirsts new.tables pending
  back_firsts name n le = by (back.firsts name)
    where
      by : (first_at new.tables name ≡ first_at old.tables name) ⊎ ((name ≡ write_name change) × (first_at new.tables name ≡ known.creates_from)) → NoneCreates name (take n pending)
      by (inl same) = are.firsts name n (subst (λ (k : ℕ). n ≤ k) same le)
      by (inr at) = none_before name n known.creates_from pending (subst (λ (k : ℕ). n ≤ k) at.1 le) (subst (λ (m : List ℕ). NoneCreates m (take known.creates_from pending)) (sym at.0) is.created)

  pub back_noted : AreNoted new pending
  back_noted = record { lasts = back_lasts; firsts = back_firsts }
