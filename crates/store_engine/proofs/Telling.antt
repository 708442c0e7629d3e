-- What items say, from item to item.
use Rattle.std.proofs.Common.{◌≡◌, ℕ, zero, suc, ◌+◌, ◌<◌, ◌≤◌, max, List, [], ◌∷◌, ◌++◌, length, get_or, take, fold, length-append, Option, Some, None, refl, sym, ap, subst, ◌∙◌, arith}
use Rattle.std.specs.List.{AllByRecursion, filter_map, cons_option}
use Rattle.std.specs.List.Sorted.{IsNonDecreasingBy}
use Rattle.std.proofs.lemmas.List.{append-nil, take_more}
use Rattle.std.proofs.lemmas.List.Elements.{filter_map-append}
use Rattle.std.proofs.lemmas.List.Sums.{fold-append}
use Rattle.tuple_bytes.specs.declared.header.Header.{Header}
use Rattle.tuple_bytes.specs.declared.item.Item.{Item}
use Rattle.tuple_bytes.specs.declared.item.Item.TheVariants as kinds
use Rattle.tuple_bytes.specs.declared.item.Txn.{Txn}
use Rattle.tuple_bytes.specs.Items.{item_of}
use Rattle.history_model.specs.Stored.{items_of}
use Rattle.history_model.specs.History.{history, txn_in, txns, after_last, last_moment}
use Rattle.digest_model.specs.Layout.{Policy, policy_of, first_era, with_item}
use Rattle.policy_eras.specs.Policy.{with_found, with_payload}
use Rattle.chain_state.proofs.Histories.{policy_none, policy_more}
use Rattle.tt_table.specs.Stands.{StandsFor}
use Rattle.tt_table.specs.Versions.{TablesVersions}
use Rattle.store_engine.specs.declared.contents.Contents.{Contents}
use Rattle.store_engine.specs.Contents.{Tells, IsInTime}
use Rattle.store_engine.specs.declared.replay.Gathered.{Gathered}
use Rattle.store_engine.specs.Replay.{IsRead, IsGathered}
use Rattle.store_engine.proofs.StoredFiles.{item_more, no_item_more}

-- the greatest moment behind one item more
pub last_more : (items : List Item) (item : Item) → last_moment (items ++ item ∷ []) ≡ after_last (last_moment items) item
last_more items item = fold-append after_last 0 items (item ∷ [])

pub txns_more : (items : List Item) (t : Txn) → txns (items ++ kinds.Txn t ∷ []) ≡ txns items ++ t ∷ []
txns_more items t = filter_map-append txn_in items (kinds.Txn t ∷ [])

-- an item that is no transaction
pub txns_stay : (items : List Item) (item : Item) → txn_in item ≡ None → txns (items ++ item ∷ []) ≡ txns items
txns_stay items item none = filter_map-append txn_in items (item ∷ []) ∙ ap (λ (o : Option Txn). txns items ++ cons_option o []) none ∙ append-nil (txns items)

cons_short : {B : Type 0} (o : Option B) (ys : List B) (n : ℕ) → length ys ≤ n → length (cons_option o ys) ≤ suc n
cons_short (Some y) ys n h = omega (arith, h)
cons_short None ys n h = omega (arith, h)

pub filter_map_short : {A B : Type 0} (f : A → Option B) (xs : List A) → length (filter_map f xs) ≤ length xs
filter_map_short f [] = omega arith
filter_map_short f (x ∷ xs) = cons_short (f x) (filter_map f xs) (length xs) (filter_map_short f xs)

-- eras that are those of the items are those with one item more
eras_more : (header : Header) (items : List Item) (item : Item) (eras more : Policy) → eras ≡ policy_of (history header items) → more ≡ with_item eras item → more ≡ policy_of (history header (items ++ item ∷ []))
eras_more header items item eras more are is = is ∙ ap (λ (p : Policy). with_item p item) are ∙ sym (policy_more header items item)

-- the eras with what a payload spells
pub turned_by : (payload : List ℕ) (item : Item) (eras : Policy) → item_of payload ≡ Some item → with_payload eras payload ≡ with_item eras item
turned_by payload item eras spelled = ap (with_found eras) spelled

-- a transaction more
pub tells_txn : (c : Contents) (t : Txn) (tables : TablesVersions) (last : ℕ) → last ≡ max c.last t.moment → ((ts : List Txn) → StandsFor c.tables ts → StandsFor tables (ts ++ t ∷ []))
    → (header : Header) (items : List Item) → Tells header c items → Tells header (record { count = c.count + 1; last = last; tables = tables; eras = c.eras }) (items ++ kinds.Txn t ∷ [])
tells_txn c t tables last is stands header items tells = record {
  count = omega (arith, ap (λ (ts : List Txn). length ts) (txns_more items t), length-append (txns items) (t ∷ []), tells.count);
  last = is ∙ ap (λ (l : ℕ). max l t.moment) tells.last ∙ sym (last_more items (kinds.Txn t));
  tables = subst (StandsFor tables) (sym (txns_more items t)) (stands (txns items) tells.tables);
  eras = eras_more header items (kinds.Txn t) c.eras c.eras tells.eras refl;
}

-- an item more that is no transaction
module _ (c : Contents) (item : Item) (other : txn_in item ≡ None) (last : ℕ) (eras : Policy) (is : last ≡ after_last c.last item) (turned : eras ≡ with_item c.eras item) where
  pub tells_other : (header : Header) (items : List Item) → Tells header c items → Tells header (record { count = c.count; last = last; tables = c.tables; eras = eras }) (items ++ item ∷ [])
  tells_other header items tells = record {
    count = tells.count ∙ ap (λ (ts : List Txn). length ts) (sym (txns_stay items item other));
    last = is ∙ ap (λ (l : ℕ). after_last l item) tells.last ∙ sym (last_more items item);
    tables = subst (StandsFor c.tables) (sym (txns_stay items item other)) tells.tables;
    eras = eras_more header items item c.eras eras tells.eras turned;
  }

-- ---- going over a list

-- one element more of it
pub next_taken : {A : Type 0} (xs : List A) (i : ℕ) (x y : A) → i < length xs → x ≡ get_or xs i x → y ≡ x → take (i + 1) xs ≡ take i xs ++ y ∷ []
next_taken xs i x y lt is same = take_more xs i x lt ∙ ap (λ z. take i xs ++ z ∷ []) (sym is ∙ sym same)

pub take_all : {A : Type 0} (i : ℕ) (xs : List A) → length xs ≤ i → take i xs ≡ xs
take_all zero [] h = refl
take_all zero (x ∷ xs) h = absurd (omega arith)
take_all (suc i) [] h = refl
take_all (suc i) (x ∷ xs) h = ap (λ l. x ∷ l) (take_all i xs (omega arith))

all_below : (P : Txn → Type 0) (d : Txn) (xs : List Txn) (i : ℕ) → ((k : ℕ) → k < i → k < length xs → P (get_or xs k d)) → AllByRecursion P (take i xs)
all_below P d xs zero h = tt
all_below P d [] (suc i) h = tt
all_below P d (x ∷ xs) (suc i) h = (h 0 (omega arith) (omega arith), all_below P d xs i (λ k lt in_xs. h (suc k) (omega arith) (omega arith)))

-- where moments do not fall, none before is later
pub none_later_before : (xs : List Txn) (i : ℕ) (t : Txn) → IsNonDecreasingBy (λ (u : Txn). u.moment) xs → i < length xs → t ≡ get_or xs i t → AllByRecursion (λ (u : Txn). u.moment ≤ t.moment) (take i xs)
none_later_before xs i t rise lt is =
    let same : (get_or xs i t).moment ≡ t.moment = ap (λ (u : Txn). u.moment) (sym is) in
    all_below (λ (u : Txn). u.moment ≤ t.moment) t xs i (λ k low in_xs. let le = rise k i t (omega arith) lt in omega arith)

-- ---- the last moment is the greatest

no_less : (items : List Item) (a : ℕ) → a ≤ fold after_last a items
no_less [] a = omega arith
no_less (i ∷ items) a = omega (arith, no_less items (after_last a i))

pub none_above : (items : List Item) (a : ℕ) → AllByRecursion (λ (t : Txn). t.moment ≤ fold after_last a items) (txns items)
none_above [] a = tt
none_above (kinds.Txn t ∷ items) a = (omega (arith, no_less items (max a t.moment)), none_above items (max a t.moment))
none_above (kinds.Frontier m ∷ items) a = none_above items (max a m)
none_above (kinds.Policy tile granule k algs ∷ items) a = none_above items (max a 0)

-- ---- payload by payload

-- no more transactions than payloads
pub few_txns : (payloads : List (List ℕ)) → length (txns (items_of payloads)) ≤ length payloads
few_txns payloads =
    let a = filter_map_short txn_in (items_of payloads) in
    let b = filter_map_short item_of payloads in
    omega (arith, a, b)

-- a payload that spells an item, and one that spells none
pub read_more : (header : Header) (payloads : List (List ℕ)) (payload : List ℕ) (item : Item) (c d : Contents) → item_of payload ≡ Some item → ((items : List Item) → Tells header c items → Tells header d (items ++ item ∷ [])) → (IsInTime c → IsInTime d)
    → IsRead header payloads c → IsRead header (payloads ++ payload ∷ []) d
read_more header payloads payload item c d spelled tells in_time read = record {
  tells = subst (Tells header d) (sym (item_more payloads payload item spelled)) (tells (items_of payloads) read.tells);
  in_time = in_time read.in_time;
}

pub read_no_more : (header : Header) (payloads : List (List ℕ)) (payload : List ℕ) (c : Contents) → item_of payload ≡ None → IsRead header payloads c → IsRead header (payloads ++ payload ∷ []) c
read_no_more header payloads payload c spelled read = record {
  tells = subst (Tells header c) (sym (no_item_more payloads payload spelled)) read.tells;
  in_time = read.in_time;
}

-- the same of what is gathered
pub gathered_none : (header : Header) (g : Gathered) → g.txns.items ≡ [] → g.last ≡ 0 → g.eras ≡ first_era header → IsGathered header g []
gathered_none header g none last first = record { txns_are = none; last_is = last; eras_are = first ∙ sym (policy_none header) }

pub gathered_txn : (header : Header) (payloads : List (List ℕ)) (payload : List ℕ) (t : Txn) (g d : Gathered) → item_of payload ≡ Some (kinds.Txn t) → d.txns.items ≡ g.txns.items ++ t ∷ [] → d.last ≡ max g.last t.moment → d.eras ≡ g.eras
    → IsGathered header g (items_of payloads) → IsGathered header d (items_of (payloads ++ payload ∷ []))
gathered_txn header payloads payload t g d spelled pushed last eras so_far =
    let items = items_of payloads in
    subst (IsGathered header d) (sym (item_more payloads payload (kinds.Txn t) spelled)) (record {
      txns_are = pushed ∙ ap (λ (ts : List Txn). ts ++ t ∷ []) so_far.txns_are ∙ sym (txns_more items t);
      last_is = last ∙ ap (λ (l : ℕ). max l t.moment) so_far.last_is ∙ sym (last_more items (kinds.Txn t));
      eras_are = eras_more header items (kinds.Txn t) g.eras d.eras so_far.eras_are eras;
    })

pub gathered_other : (header : Header) (payloads : List (List ℕ)) (payload : List ℕ) (item : Item) (g d : Gathered) → txn_in item ≡ None → item_of payload ≡ Some item → d.txns.items ≡ g.txns.items → d.last ≡ after_last g.last item → d.eras ≡ with_item g.eras item
    → IsGathered header g (items_of payloads) → IsGathered header d (items_of (payloads ++ payload ∷ []))
gathered_other header payloads payload item g d other spelled pushed last eras so_far =
    let items = items_of payloads in
    subst (IsGathered header d) (sym (item_more payloads payload item spelled)) (record {
      txns_are = pushed ∙ so_far.txns_are ∙ sym (txns_stay items item other);
      last_is = last ∙ ap (λ (l : ℕ). after_last l item) so_far.last_is ∙ sym (last_more items item);
      eras_are = eras_more header items item g.eras d.eras so_far.eras_are eras;
    })

pub gathered_no_more : (header : Header) (payloads : List (List ℕ)) (payload : List ℕ) (g : Gathered) → item_of payload ≡ None → IsGathered header g (items_of payloads) → IsGathered header g (items_of (payloads ++ payload ∷ []))
gathered_no_more header payloads payload g spelled so_far = subst (IsGathered header g) (sym (no_item_more payloads payload spelled)) so_far
