-- Items more, that no clock set back.
use Rattle.std.proofs.Common.{◌≡◌, ℕ, zero, suc, ◌≤◌, max, false, List, [], ◌∷◌, ◌++◌, fold, refl, sym, ap, subst, ◌∙◌, arith, ⊎_elim, append_assoc}
use Rattle.std.specs.List.{AllByRecursion, list_any}
use Rattle.std.proofs.lemmas.Bool.{cases_eq, cases_lt}
use Rattle.std.proofs.lemmas.List.{append-nil}
use Rattle.std.proofs.lemmas.List.Elements.{filter_map-append}
use Rattle.std.proofs.lemmas.List.Sums.{fold-append}
use Rattle.tuple_bytes.specs.declared.op.Op.{Op}
use Rattle.tuple_bytes.specs.declared.item.Item.{Item}
use Rattle.tuple_bytes.specs.declared.item.Item.TheVariants as kinds
use Rattle.tuple_bytes.specs.declared.item.Txn.{Txn}
use Rattle.history_model.specs.Glance.{IsOrdered}
use Rattle.history_model.specs.History.{txn_in, txns, moment_in, after_last, last_moment, MayFollow}
use Rattle.history_model.specs.State.{State, after_op, after_txns, state}
use Rattle.history_model.proofs.Histories.{NoneAfter, none_at, state_before, state_after}
use Rattle.statement_core.specs.Database as stores
pub use Rattle.statement_core.proofs.Promising.{txns_more}
use Rattle.session_model.specs.declared.place.Place.{Place}
use Rattle.session_model.specs.Places.{touches, touches_one}
use Rattle.session_model.specs.Later.{Rise, IsLater, NoneTouches}
use Rattle.session_model.proofs.Untouched.{ordered_state, kept_ops}

-- ---- one item more

pub last_more : (items : List Item) (item : Item) → last_moment (items ++ item ∷ []) ≡ after_last (last_moment items) item
last_more items item = fold-append after_last 0 items (item ∷ [])

pub last_is : (items : List Item) (item : Item) → last_moment items ≤ moment_in item → last_moment (items ++ item ∷ []) ≡ moment_in item
last_is items item le = let e = last_more items item in omega (arith, e)

-- an item that is no transaction
pub txns_no_more : (items : List Item) (item : Item) → txns (item ∷ []) ≡ [] → txns (items ++ item ∷ []) ≡ txns items
txns_no_more items item none = filter_map-append txn_in items (item ∷ []) ∙ ap (λ ts. txns items ++ ts) none ∙ append-nil (txns items)

-- an item without a moment
pub last_kept : (items : List Item) (item : Item) → moment_in item ≡ 0 → last_moment (items ++ item ∷ []) ≡ last_moment items
last_kept items item none = let e = last_more items item in omega (arith, e, none)

above : (m : ℕ) (items : List Item) → m ≤ fold (λ n i. max n (moment_in i)) m items
above m [] = omega arith
above m (item ∷ items) = omega (arith, above (max m (moment_in item)) items)

none_above : (m : ℕ) (items : List Item) → AllByRecursion (λ t. t.moment ≤ fold (λ n i. max n (moment_in i)) m items) (txns items)
none_above m [] = tt
none_above m (kinds.Txn t ∷ items) = (omega (arith, above (max m t.moment) items), none_above (max m t.moment) items)
none_above m (kinds.Frontier moment ∷ items) = none_above (max m moment) items
none_above m (kinds.Policy tile granule k algs ∷ items) = none_above (max m 0) items

-- no transaction is after the last moment
pub none_after : (items : List Item) → NoneAfter (last_moment items) (txns items)
none_after items = none_above 0 items

-- after the last transaction the state stays
pub state_stays : (h : List Txn) (last : ℕ) → NoneAfter last h → (m : ℕ) → last ≤ m → state h m ≡ state h last
unfolding state
state_stays h last none zero le = let e : 0 ≡ last = omega arith in ap (state h) e
state_stays h last none (suc m) le = ⊎_elim
    (λ same. ap (state h) (sym same))
    (λ apart. ap (λ l. after_txns l (state h m)) (none_at (suc m) last h (omega arith) none) ∙ state_stays h last none m (omega arith))
    (cases_eq last (suc m))

later_none : (m n : ℕ) (h : List Txn) → m ≤ n → NoneAfter m h → NoneAfter n h
later_none m n [] le h = tt
later_none m n (t ∷ ts) le h = (omega (arith, h.0), later_none m n ts le h.1)

-- the tables of now
abbrev pub now_of : List Item → State
now_of items = state (txns items) (last_moment items)

-- the item touches none of these places
abbrev pub IsQuiet : List Place → Item → Type 0
IsQuiet places (kinds.Txn t) = touches_one places t ≡ false
IsQuiet places (kinds.Frontier moment) = Unit {0}
IsQuiet places (kinds.Policy tile granule k algs) = Unit {0}

module _ {A : Type 0} (places : List Place) (F : State → A) (kept : (op : Op) (s : State) → IsOrdered s → list_any (touches op) places ≡ false → F (after_op op s) ≡ F s) where
  module _ (items : List Item) (t : Txn) (le : last_moment items ≤ t.moment) (quiet : touches_one places t ≡ false) where
    none : NoneAfter t.moment (txns items)
    none = later_none (last_moment items) t.moment (txns items) le (none_after items)

    over : (m : ℕ) → t.moment ≤ m → F (state (txns items ++ t ∷ []) m) ≡ F (state (txns items) m)
    over m after = ap F (state_after t (txns items) none m after) ∙ kept_ops places F kept t.ops (state (txns items) m) (ordered_state (txns items) m) quiet

    txn_at : (m : ℕ) → F (state (txns (items ++ kinds.Txn t ∷ [])) m) ≡ F (state (txns items) m)
    txn_at m = ap (λ h. F (state h m)) (txns_more items t) ∙ ⊎_elim (λ before. ap F (state_before t (txns items) m before)) (λ after. over m after) (cases_lt m t.moment)

    txn_now : F (now_of (items ++ kinds.Txn t ∷ [])) ≡ F (now_of items)
    txn_now =
        ap (λ m. F (state (txns (items ++ kinds.Txn t ∷ [])) m)) (last_is items (kinds.Txn t) le)
        ∙ txn_at t.moment ∙ ap F (state_stays (txns items) (last_moment items) (none_after items) t.moment le)

  -- at a moment, and now
  pub quiet_at : (m : ℕ) (items : List Item) (item : Item) → MayFollow (last_moment items) item → IsQuiet places item → F (state (txns (items ++ item ∷ [])) m) ≡ F (state (txns items) m)
  quiet_at m items (kinds.Txn t) le quiet = txn_at items t le quiet m
  quiet_at m items (kinds.Frontier moment) le quiet = ap (λ h. F (state h m)) (txns_no_more items (kinds.Frontier moment) refl)
  quiet_at m items (kinds.Policy tile granule k algs) le quiet = ap (λ h. F (state h m)) (txns_no_more items (kinds.Policy tile granule k algs) refl)

  pub quiet_now : (items : List Item) (item : Item) → MayFollow (last_moment items) item → IsQuiet places item → F (now_of (items ++ item ∷ [])) ≡ F (now_of items)
  quiet_now items (kinds.Txn t) le quiet = txn_now items t le quiet
  quiet_now items (kinds.Frontier moment) le quiet =
      ap (λ m. F (state (txns (items ++ kinds.Frontier moment ∷ [])) m)) (last_is items (kinds.Frontier moment) le)
      ∙ ap (λ h. F (state h moment)) (txns_no_more items (kinds.Frontier moment) refl)
      ∙ ap F (state_stays (txns items) (last_moment items) (none_after items) moment le)
  quiet_now items (kinds.Policy tile granule k algs) le quiet =
      ap (λ m. F (state (txns (items ++ kinds.Policy tile granule k algs ∷ [])) m)) (last_kept items (kinds.Policy tile granule k algs) refl)
      ∙ quiet_at (last_moment items) items (kinds.Policy tile granule k algs) le quiet

-- ---- items more

module _ {A : Type 0} (places : List Place) (G : List Item → A) (one : (items : List Item) (item : Item) → MayFollow (last_moment items) item → IsQuiet places item → G (items ++ item ∷ []) ≡ G items) where
  next : (items : List Item) (item : Item) (more : List Item) → Rise (last_moment items) (item ∷ more) → IsQuiet places item
      → (Rise (last_moment (items ++ item ∷ [])) more → G ((items ++ item ∷ []) ++ more) ≡ G (items ++ item ∷ [])) → G (items ++ item ∷ more) ≡ G items
  next items item more rise quiet rest =
      ap G (sym (append_assoc items (item ∷ []) more)) ∙ rest (subst (λ m. Rise m more) (sym (last_more items item)) rise.1) ∙ one items item rise.0 quiet

  pub all_quiet : (more items : List Item) → Rise (last_moment items) more → NoneTouches places (txns more) → G (items ++ more) ≡ G items
  all_quiet [] items rise quiet = ap G (append-nil items)
  all_quiet (kinds.Txn t ∷ more) items rise quiet = next items (kinds.Txn t) more rise quiet.0 (λ r. all_quiet more (items ++ kinds.Txn t ∷ []) r quiet.1)
  all_quiet (kinds.Frontier moment ∷ more) items rise quiet = next items (kinds.Frontier moment) more rise tt (λ r. all_quiet more (items ++ kinds.Frontier moment ∷ []) r quiet)
  all_quiet (kinds.Policy tile granule k algs ∷ more) items rise quiet = next items (kinds.Policy tile granule k algs) more rise tt (λ r. all_quiet more (items ++ kinds.Policy tile granule k algs ∷ []) r quiet)

-- ---- later histories

rise_on : (xs items ys : List Item) → Rise (last_moment items) xs → Rise (last_moment (items ++ xs)) ys → Rise (last_moment items) (xs ++ ys)
rise_on [] items ys rise more = subst (λ l. Rise (last_moment l) ys) (append-nil items) more
rise_on (x ∷ xs) items ys rise more =
    let e : last_moment (items ++ x ∷ []) ≡ after_last (last_moment items) x = last_more items x in
    (rise.0, subst (λ m. Rise m (xs ++ ys)) e (rise_on xs (items ++ x ∷ []) ys (subst (λ m. Rise m xs) (sym e) rise.1) (subst (λ l. Rise (last_moment l) ys) (sym (append_assoc items (x ∷ []) xs)) more)))

pub later_same : (w : stores.Database) → IsLater w w
later_same w = record { items = []; behind = sym (append-nil w.items); rise = tt }

pub later_still : (a b c : stores.Database) → IsLater a b → IsLater b c → IsLater a c
later_still a b c ab bc = record {
  items = ab.items ++ bc.items;
  behind = bc.behind ∙ ap (λ l. l ++ bc.items) ab.behind ∙ append_assoc a.items ab.items bc.items;
  rise = rise_on ab.items a.items bc.items ab.rise (subst (λ l. Rise (last_moment l) bc.items) ab.behind bc.rise);
}

pub later_txn : (w : stores.Database) (t : Txn) → last_moment w.items ≤ t.moment → IsLater w (stores.with_txn w t)
later_txn w t le = record { items = kinds.Txn t ∷ []; behind = refl; rise = (le, tt) }

pub later_frontier : (w : stores.Database) (moment : ℕ) → last_moment w.items ≤ moment → IsLater w (stores.with_frontier w moment)
later_frontier w moment le = record { items = kinds.Frontier moment ∷ []; behind = refl; rise = (le, tt) }

pub later_policy : (w : stores.Database) (tile granule k algs : ℕ) → IsLater w (stores.with_item w (kinds.Policy tile granule k algs))
later_policy w tile granule k algs = record { items = kinds.Policy tile granule k algs ∷ []; behind = refl; rise = (tt, tt) }
