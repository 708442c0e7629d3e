-- A history that grows stays the notarized one; a batch more is filed.
use Rattle.std.proofs.Common.{◌≡◌, ℕ, ◌+◌, ◌*◌, ◌/◌, ◌<◌, ◌≤◌, false, List, [], ◌∷◌, ◌++◌, map, filter, refl, sym, ap, subst, ◌∙◌, arith}
use Rattle.std.specs.Prelude.{nat_eq}
use Rattle.std.specs.List.{All, range_with_len}
use Rattle.std.proofs.lemmas.Bool.{ne_eqb}
use Rattle.std.proofs.lemmas.Nat.{le-div}
use Rattle.std.proofs.lemmas.List.{append-nil, map-append}
use Rattle.std.proofs.lemmas.List.Elements.{All-nil, All-cons, filter-append, filter_map-append}
use Rattle.std.proofs.lemmas.List.Sums.{fold-append}
use Rattle.std.proofs.lemmas.List.FromFn.{map-range_with_len_more}
use Rattle.tuple_bytes.specs.declared.header.Header.{Header}
use Rattle.tuple_bytes.specs.declared.item.Item.{Item}
use Rattle.tuple_bytes.specs.declared.item.Item.TheVariants as items
use Rattle.tuple_bytes.specs.declared.item.Txn.{Txn}
use Rattle.notary_link.specs.declared.seal.Seal.{Seal}
use Rattle.notary_link.specs.Batches.{Batch}
use Rattle.history_model.specs.History.{history, txn_in, txns, is_in_granule, rows, last_moment, after_last, MayFollow}
use Rattle.digest_model.specs.Layout.{layout, first_granule}
use Rattle.digest_model.specs.Eras.{IsBehindTiles}
use Rattle.audit_model.specs.Names.{batch}
use Rattle.audit_model.specs.Filing.{AddedStaysNotarized, FrontierStaysFiled, FrontierFilesSame, FilingBegins, FilingExtends}
use Rattle.digest_model.proofs.Layouts as layouts
use Rattle.digest_model.proofs.EraLaws.{tiles_stay}
use Rattle.audit_model.proofs.Filed.{same_batch, same_batches}

-- the rows of a history that grows, where none of the new item is among them
rows_stay : (header : Header) (is : List Item) (item : Item) (g : ℕ) → filter (is_in_granule header g) (txns (item ∷ [])) ≡ [] → rows (history header is) g ≡ rows (history header (is ++ item ∷ [])) g
unfolding rows
rows_stay header is item g none =
    let split = filter_map-append txn_in is (item ∷ []) in
    let parts = filter-append (is_in_granule header g) (txns is) (txns (item ∷ [])) in
    let alone = append-nil (filter (is_in_granule header g) (txns is)) in
    sym (ap (filter (is_in_granule header g)) split ∙ parts ∙ ap (λ (ts : List Txn). filter (is_in_granule header g) (txns is) ++ ts) none ∙ alone)

-- a frontier has no rows
frontier_rows : (header : Header) (is : List Item) (moment g : ℕ) → rows (history header is) g ≡ rows (history header (is ++ items.Frontier moment ∷ [])) g
frontier_rows header is moment g = rows_stay header is (items.Frontier moment) g refl

-- a moment that is not before the end of a granule lies in another one
lies_behind : (width moment g limit : ℕ) → 0 < width → g < limit → limit * width ≤ moment → moment / width ≡ g → ⊥
lies_behind width moment g limit some below behind e = (let more = le-div limit moment width some behind in omega (arith, more, e, below))

-- a later item has no rows in the granules before
later_rows : (header : Header) (is : List Item) (item : Item) (g limit last : ℕ) → 0 < header.width → g < limit → limit * header.width ≤ last → MayFollow last item
    → rows (history header is) g ≡ rows (history header (is ++ item ∷ [])) g
later_rows header is (items.Frontier moment) g limit last some below behind follows = frontier_rows header is moment g
later_rows header is (items.Policy tile granule k algs) g limit last some below behind follows = rows_stay header is (items.Policy tile granule k algs) g refl
later_rows header is (items.Txn t) g limit last some below behind follows =
    let other : nat_eq (t.moment / header.width) g ≡ false = ne_eqb (t.moment / header.width) g (lies_behind header.width t.moment g limit some below (omega arith)) in
    rows_stay header is (items.Txn t) g (rw other refl)

one_behind : (n : ℕ) (item : Item) → IsBehindTiles n item → All (IsBehindTiles n) (item ∷ [])
one_behind n item behind = All-cons (IsBehindTiles n) item [] behind (All-nil (IsBehindTiles n))

pub added_stays : AddedStaysNotarized
added_stays batches id n header is item fits notarized follows behind =
    let width = fits.width.0 in
    let reached = notarized.reached in
    let last : last_moment (is ++ item ∷ []) ≡ after_last (last_moment is) item = fold-append after_last 0 is (item ∷ []) in
    let begin = layouts.same_begins (layout (history header is)) (layout (history header (is ++ item ∷ []))) n (tiles_stay header is (item ∷ []) n (one_behind n item behind)) in
    let same = same_batches (history header is) (history header (is ++ item ∷ [])) 0 n refl (let none : 0 + n ≡ n = omega arith in rw none (tiles_stay header is (item ∷ []) n (one_behind n item behind))) (λ g below. later_rows header is item g (first_granule (layout (history header is)) n) (last_moment is) (omega (arith, width)) (let none : 0 + n ≡ n = omega arith in subst (λ (m : ℕ). g < first_granule (layout (history header is)) m) none below) reached follows) in
    record {
      filed = record { seals = notarized.filed.seals ∙ same; header = notarized.filed.header; within = (let within = notarized.filed.within in omega (arith, within, begin)) };
      reached = rw last (subst (λ (g : ℕ). g * header.width ≤ after_last (last_moment is) item) begin (omega (arith, reached)));
    }

pub frontier_filed : FrontierStaysFiled
frontier_filed batches id n header is moment filed =
    let begin = layouts.same_begins (layout (history header is)) (layout (history header (is ++ items.Frontier moment ∷ []))) n (tiles_stay header is (items.Frontier moment ∷ []) n (one_behind n (items.Frontier moment) tt)) in
    let same = same_batches (history header is) (history header (is ++ items.Frontier moment ∷ [])) 0 n refl (tiles_stay header is (items.Frontier moment ∷ []) (0 + n) (one_behind (0 + n) (items.Frontier moment) tt)) (λ g below. frontier_rows header is moment g) in
    record { seals = filed.seals ∙ same; header = filed.header; within = (let within = filed.within in omega (arith, within, begin)) }

pub frontier_same : FrontierFilesSame
frontier_same header is moment i = sym (same_batch (history header is) (history header (is ++ items.Frontier moment ∷ [])) i refl (tiles_stay header is (items.Frontier moment ∷ []) i (one_behind i (items.Frontier moment) tt)) (λ g below. frontier_rows header is moment g))

-- ---- a batch more

pub filing_begins : FilingBegins
filing_begins id h b header seals = record { seals = ap (λ (x : List Seal). x ∷ []) seals; header = header; within = (let none = layouts.begins (layout h) in omega (arith, none)) }

pub filing_extends : FilingExtends
filing_extends batches id h n b filed within seals =
    let more = map-range_with_len_more (batch h) 0 (n + 1) (n + 1) (omega arith) in
    record {
      seals = map-append (λ (x : Batch). x.seals) batches (b ∷ [])
          ∙ ap (λ (xs : List (List Seal)). xs ++ b.seals ∷ []) filed.seals
          ∙ ap (λ (x : List Seal). map (batch h) (range_with_len 0 (n + 1)) ++ x ∷ []) seals
          ∙ sym more;
      header = filed.header;
      within = within;
    }
