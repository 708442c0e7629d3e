-- The policies that name the eras of more tiles, as they begin in one history, restore them behind another.
use Rattle.std.proofs.Common.{◌≡◌, ℕ, zero, suc, ◌+◌, ◌-◌, ◌≤◌, nat_le, nat_lt, Bool, true, cond, List, [], ◌∷◌, ◌++◌, length, map, filter, fold, inl, inr, refl, sym, ap, subst, ◌∙◌, append-nil, append_assoc, length-append, arith}
use Rattle.std.specs.Prelude.{◌==◌, ◌&&◌}
use Rattle.std.specs.List.{flat_map, range_with_len}
use Rattle.std.proofs.lemmas.Bool.{and_from, cases_Bool}
use Rattle.std.proofs.lemmas.Bool.Decides.{nat_tests}
use Rattle.std.proofs.lemmas.List.Sums.{fold-append}
use Rattle.tuple_bytes.specs.declared.header.Header.{Header}
use Rattle.tuple_bytes.specs.declared.item.Item.{Item}
use Rattle.tuple_bytes.specs.declared.item.Item.TheVariants as items
use Rattle.tuple_bytes.specs.declared.item.Txn.{Txn}
use Rattle.history_model.specs.History.{History, history}
use Rattle.digest_model.specs.Layout.{Layout, Era, Policy, SameTiles, first_granule, layout_by, last_tile, is_next, with_item, first_era, policy_of, layout, turns, sealed_eras}
use Rattle.digest_model.specs.Eras.{Ascends, is_below, policy_item, policy_items, ErasAreRestored}
use Rattle.digest_model.proofs.Layouts as layouts
use Rattle.digest_model.proofs.EraLaws.{later_era, itself, then_alike}
use Rattle.digest_model.proofs.Eras.{first_is, eras_ascend, eras_are_few, sealed_are, sealed_come_first, equal_tiles}

-- the eras of more tiles stand behind those of fewer
sealed_more : (l : Layout) (a d : ℕ) → sealed_eras l (a + d) ≡ sealed_eras l a ++ flat_map (turns l) (range_with_len a d)
unfolding sealed_eras
sealed_more l a zero = (let none : a + 0 ≡ a = omega arith in rw none (sym (append-nil (sealed_eras l a))))
sealed_more l a (suc d) =
    let next : a + suc d ≡ suc a + d = omega arith in
    let one : a + 1 ≡ suc a = omega arith in
    ap (sealed_eras l) next
    ∙ sealed_more l (suc a) d
    ∙ append_assoc (sealed_eras l a) (turns l a) (flat_map (turns l) (range_with_len (suc a) d))
    ∙ ap (λ (from : ℕ). sealed_eras l a ++ (turns l a ++ flat_map (turns l) (range_with_len from d))) (sym one)

-- eras that begin at tile n or behind it leave the first n tiles
eras_later : (first : Era) (later es : List Era) (n from : ℕ) → n ≤ from → Ascends from es
    → SameTiles n (layout_by (record { first = first; later = later })) (layout_by (record { first = first; later = later ++ es }))
eras_later first later [] n from behind up = rw (append-nil later) (itself n (layout_by (record { first = first; later = later })))
eras_later first later (e ∷ es) n from behind up =
    let place = up.0 in
    subst (λ (all : List Era). SameTiles n (layout_by (record { first = first; later = later })) (layout_by (record { first = first; later = all }))) (append_assoc later (e ∷ []) es)
    (then_alike n (layout_by (record { first = first; later = later })) (layout_by (record { first = first; later = later ++ e ∷ [] })) (layout_by (record { first = first; later = (later ++ e ∷ []) ++ es }))
    (later_era (record { first = first; later = later }) e n (omega (arith, behind, place)))
    (eras_later first (later ++ e ∷ []) es n e.tile (omega (arith, behind, place)) up.1))

-- an era among others begins at the tile of the one before it or behind it, and those behind it begin there
around : (x : Era) (front : List Era) (e : Era) (more : List Era) → Ascends x.tile (front ++ e ∷ more) → (last_tile x front ≤ e.tile) × Ascends e.tile more
unfolding last_tile
around x [] e more up = up
around x (y ∷ front) e more up = around y front e more up.1

-- behind the first eras of a history the next one of them is the next one
module _ (s : History) where
  next_again : (front : List Era) (e : Era) (more : List Era) → (policy_of s).later ≡ front ++ e ∷ more
      → is_next (record { first = (policy_of s).first; later = front }) e (first_granule (layout s) e.tile) ≡ true
  unfolding is_next layout
  next_again front e more parts =
      let few = eras_are_few s in
      let long = length-append front (e ∷ more) in
      let count : length (policy_of s).later ≡ length (front ++ e ∷ more) = ap (length {A = Era}) parts in
      let ordered = around (policy_of s).first front e more (subst (λ (es : List Era). Ascends (policy_of s).first.tile es) parts (eras_ascend s)) in
      let behind = ordered.0 in
      let alike : SameTiles e.tile (layout_by (record { first = (policy_of s).first; later = front })) (layout_by (policy_of s)) =
      subst (λ (es : List Era). SameTiles e.tile (layout_by (record { first = (policy_of s).first; later = front })) (layout_by (record { first = (policy_of s).first; later = es }))) (sym parts)
      (eras_later (policy_of s).first front (e ∷ more) e.tile e.tile (omega arith) (omega arith, ordered.1)) in
      let place = layouts.same_begins (layout_by (record { first = (policy_of s).first; later = front })) (layout_by (policy_of s)) e.tile alike in
      let a : nat_lt (length front) 255 ≡ true = grind (arith, nat_tests, few, long, count) in
      let b : nat_le (last_tile (policy_of s).first front) e.tile ≡ true = grind (arith, nat_tests, behind) in
      let c : (first_granule (layout_by (policy_of s)) e.tile == first_granule (layout_by (record { first = (policy_of s).first; later = front })) e.tile) ≡ true = grind (arith, nat_tests, place) in
      and_from (nat_lt (length front) 255 && nat_le (last_tile (policy_of s).first front) e.tile) (first_granule (layout_by (policy_of s)) e.tile == first_granule (layout_by (record { first = (policy_of s).first; later = front })) e.tile)
      (and_from (nat_lt (length front) 255) (nat_le (last_tile (policy_of s).first front) e.tile) a b) c

  -- so their policies restore them, one after the other
  again : (front es more : List Era) → (policy_of s).later ≡ front ++ (es ++ more)
      → fold with_item (record { first = (policy_of s).first; later = front }) (map (policy_item (layout s)) es) ≡ record { first = (policy_of s).first; later = front ++ es }
  again front [] more parts = ap (λ (all : List Era). record { first = (policy_of s).first; later = all }) (sym (append-nil front))
  again front (e ∷ es) more parts =
      ap (λ (b : Bool). fold with_item (cond b (record { first = (policy_of s).first; later = front ++ e ∷ [] }) (record { first = (policy_of s).first; later = front })) (map (policy_item (layout s)) es))
      (next_again front e (es ++ more) parts)
      ∙ again (front ++ e ∷ []) es more (parts ∙ sym (append_assoc front (e ∷ []) (es ++ more)))
      ∙ ap (λ (all : List Era). record { first = (policy_of s).first; later = all }) (append_assoc front (e ∷ []) es)

-- transactions begin no era
pub txns_begin_none : (p : Policy) (ts : List Txn) → fold with_item p (map items.Txn ts) ≡ p
txns_begin_none p [] = refl
txns_begin_none p (t ∷ ts) = txns_begin_none p ts

-- items more are the next ones after those so far
pub eras_of_more : (header : Header) (is more : List Item) → policy_of (history header (is ++ more)) ≡ fold with_item (policy_of (history header is)) more
unfolding policy_of
eras_of_more header is more = fold-append with_item (first_era header) is more

pub restore : ErasAreRestored
unfolding policy_items
restore h s a b ts one within own =
    let reach : a + (b - a) ≡ b = omega (arith, within) in
    let all : sealed_eras (layout s) b ≡ sealed_eras (layout s) a ++ flat_map (turns (layout s)) (range_with_len a (b - a)) =
    ap (sealed_eras (layout s)) (sym reach) ∙ sealed_more (layout s) a (b - a) in
    let front = sealed_come_first s b in
    let parts : (policy_of s).later ≡ sealed_eras (layout s) a ++ (flat_map (turns (layout s)) (range_with_len a (b - a)) ++ front.0) =
    front.1 ∙ ap (λ (es : List Era). es ++ front.0) all ∙ append_assoc (sealed_eras (layout s) a) (flat_map (turns (layout s)) (range_with_len a (b - a))) front.0 in
    let first : (policy_of h).first ≡ (policy_of s).first = first_is h ∙ ap (λ (header : Header). record { tile = 0; k = header.k; algs = header.algs }) one ∙ sym (first_is s) in
    let begun : policy_of h ≡ record { first = (policy_of s).first; later = sealed_eras (layout s) a } =
    ap (λ (e : Era). record { first = e; later = (policy_of h).later }) first ∙ ap (λ (es : List Era). record { first = (policy_of s).first; later = es }) own in
    ap (λ (p : Policy). p.later)
    (eras_of_more h.header h.items (policy_items s a b ++ map items.Txn ts)
    ∙ fold-append with_item (policy_of h) (policy_items s a b) (map items.Txn ts)
    ∙ txns_begin_none (fold with_item (policy_of h) (policy_items s a b)) ts
    ∙ ap (λ (p : Policy). fold with_item p (policy_items s a b)) begun
    ∙ again s (sealed_eras (layout s) a) (flat_map (turns (layout s)) (range_with_len a (b - a))) front.0 parts)
    ∙ sym all

-- ---- a history whose eras but the first are those of the first tiles of another

below_twice : (n : ℕ) (es : List Era) → filter (is_below n) (filter (is_below n) es) ≡ filter (is_below n) es
below_twice n [] = refl
below_twice n (e ∷ es) = elim (cases_Bool (is_below n e)) [
  | inl low ↦ rw (low, low) (ap (λ (xs : List Era). e ∷ xs) (below_twice n es))
  | inr high ↦ rw high (below_twice n es)
]

-- has them in these tiles
pub all_sealed : (h s : History) (n : ℕ) → (policy_of h).later ≡ sealed_eras (layout s) n → sealed_eras (layout h) n ≡ sealed_eras (layout s) n
all_sealed h s n own =
    sealed_are h n ∙ ap (filter (is_below n)) (own ∙ sealed_are s n) ∙ below_twice n (policy_of s).later ∙ sym (sealed_are s n)

-- so that these tiles are alike
pub sealed_alike : (h s : History) (n : ℕ) → h.header ≡ s.header → (policy_of h).later ≡ sealed_eras (layout s) n → SameTiles n (layout h) (layout s)
sealed_alike h s n one own = equal_tiles h s n one (all_sealed h s n own)
