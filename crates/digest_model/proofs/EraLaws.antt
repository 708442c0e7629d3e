-- A later era leaves the tiles before it, and within an era the granules go by a formula.
use Rattle.std.proofs.Common.{◌≡◌, ℕ, zero, suc, ◌+◌, ◌*◌, ◌^◌, ◌<◌, ◌≤◌, nat_le, Bool, true, false, cond, List, [], ◌∷◌, ◌++◌, filter, fold, refl, sym, ap, subst, ◌∙◌, append-nil, arith}
use Rattle.std.specs.List.{All}
use Rattle.std.proofs.lemmas.Bool.Decides.{nat_tests}
use Rattle.std.proofs.lemmas.List.Elements.{All-head, All-tail, filter-append}
use Rattle.std.proofs.lemmas.List.Sums.{fold-append}
use Rattle.tuple_bytes.specs.declared.header.Header.{Header}
use Rattle.tuple_bytes.specs.declared.item.Item.{Item}
use Rattle.tuple_bytes.specs.declared.item.Item.TheVariants as items
use Rattle.history_model.specs.History.{History, history}
use Rattle.digest_model.specs.Layout.{Layout, Era, Policy, SameTiles, exponent, first_granule, era_in, begins_at, layout_by, is_next, offered, with_item, first_era, policy_of, layout}
use Rattle.digest_model.specs.Eras.{IsBehindTiles}
use Rattle.digest_model.proofs.Layouts as layouts

-- an era more is the last one of the tiles that it reaches
pub pushed : (first : Era) (later : List Era) (e : Era) (tile : ℕ) → era_in first (later ++ e ∷ []) tile ≡ cond (nat_le e.tile tile) e (era_in first later tile)
unfolding era_in
pushed first [] e tile = refl
pushed first (next ∷ later) e tile = pushed (cond (nat_le next.tile tile) next first) later e tile

begun_alike : (later : List Era) (e : Era) (tile : ℕ) → tile < e.tile → filter (begins_at tile) (later ++ e ∷ []) ≡ filter (begins_at tile) later
begun_alike later e tile below =
    let other : begins_at tile e ≡ false = grind (arith, nat_tests, below) in
    let none : filter (begins_at tile) (e ∷ []) ≡ [] = rw other refl in
    filter-append (begins_at tile) later (e ∷ []) ∙ ap (λ (es : List Era). filter (begins_at tile) later ++ es) none ∙ append-nil (filter (begins_at tile) later)

-- an era that begins at tile n or behind it leaves the first n tiles
pub later_era : (p : Policy) (e : Era) (n : ℕ) → n ≤ e.tile → SameTiles n (layout_by p) (layout_by (record { first = p.first; later = p.later ++ e ∷ [] }))
later_era p e n behind tile below =
    let other : nat_le e.tile tile ≡ false = grind (arith, nat_tests, behind, below) in
    let same : era_in p.first (p.later ++ e ∷ []) tile ≡ era_in p.first p.later tile = pushed p.first p.later e tile ∙ ap (λ (b : Bool). cond b e (era_in p.first p.later tile)) other in
    record {
      exponent = ap (λ (x : Era). x.k) (sym same);
      algorithms = ap (λ (x : Era). x.algs) (sym same);
      begun = sym (begun_alike p.later e tile (omega (arith, behind, below)));
    }

-- the same eras have the same tiles
pub same_layout : (h s : History) → policy_of h ≡ policy_of s → layout h ≡ layout s
unfolding layout
same_layout h s eras = ap layout_by eras

pub itself : (n : ℕ) (l : Layout) → SameTiles n l l
itself n l tile below = record { exponent = refl; algorithms = refl; begun = refl }

pub same_tiles : (h s : History) (n : ℕ) → policy_of h ≡ policy_of s → SameTiles n (layout h) (layout s)
same_tiles h s n eras = subst (λ (l : Layout). SameTiles n (layout h) l) (same_layout h s eras) (itself n (layout h))

pub then_alike : (n : ℕ) (l m o : Layout) → SameTiles n l m → SameTiles n m o → SameTiles n l o
then_alike n l m o first next tile below =
    let a = first tile below in
    let b = next tile below in
    record { exponent = a.exponent ∙ b.exponent; algorithms = a.algorithms ∙ b.algorithms; begun = a.begun ∙ b.begun }

-- so does what is offered there, taken or not
pub offered_later : (p : Policy) (e : Era) (granule n : ℕ) → n ≤ e.tile → SameTiles n (layout_by p) (layout_by (offered p e granule))
offered_later p e granule n behind = by (is_next p e granule)
  where
    by : (b : Bool) → SameTiles n (layout_by p) (layout_by (cond b (record { first = p.first; later = p.later ++ e ∷ [] }) p))
    by true = later_era p e n behind
    by false = itself n (layout_by p)

-- so does each item that leaves them
pub item_later : (p : Policy) (item : Item) (n : ℕ) → IsBehindTiles n item → SameTiles n (layout_by p) (layout_by (with_item p item))
item_later p (items.Txn t) n behind = itself n (layout_by p)
item_later p (items.Frontier moment) n behind = itself n (layout_by p)
item_later p (items.Policy tile granule k algs) n behind = offered_later p (record { tile = tile; k = k; algs = algs }) granule n behind

items_later : (p : Policy) (more : List Item) (n : ℕ) → All (IsBehindTiles n) more → SameTiles n (layout_by p) (layout_by (fold with_item p more))
items_later p [] n behind = itself n (layout_by p)
items_later p (item ∷ more) n behind =
    then_alike n (layout_by p) (layout_by (with_item p item)) (layout_by (fold with_item (with_item p item) more))
    (item_later p item n (All-head (IsBehindTiles n) item more behind)) (items_later (with_item p item) more n (All-tail (IsBehindTiles n) item more behind))

-- items more that leave the first n tiles leave them where they were
pub tiles_stay : (header : Header) (items more : List Item) (n : ℕ) → All (IsBehindTiles n) more → SameTiles n (layout (history header items)) (layout (history header (items ++ more)))
unfolding layout policy_of
tiles_stay header items more n behind =
    subst (λ (p : Policy). SameTiles n (layout_by (fold with_item (first_era header) items)) (layout_by p)) (sym (fold-append with_item (first_era header) items more))
    (items_later (fold with_item (first_era header) items) more n behind)

-- from a tile on, as long as the exponent stays, each tile has as many granules
pub within_era : (l : Layout) (a d k : ℕ) → ((tile : ℕ) → a ≤ tile → tile < a + d → exponent l tile ≡ k) → first_granule l (a + d) ≡ first_granule l a + d * 2 ^ k
within_era l a zero k each = (let none : a + 0 ≡ a = omega arith in rw none (omega arith))
within_era l a (suc d) k each =
    let next : a + suc d ≡ a + d + 1 = omega arith in
    let before = within_era l a d k (λ tile from below. each tile from (omega (arith, below))) in
    let size : 2 ^ exponent l (a + d) ≡ 2 ^ k = ap (λ (e : ℕ). 2 ^ e) (each (a + d) (omega arith) (omega arith)) in
    let ends = layouts.adjoin l (a + d) in
    rw next (omega (arith, before, size, ends))
