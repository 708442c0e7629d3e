-- What is gathered fits.
use Rattle.std.proofs.Common.{◌≡◌, ℕ, suc, ◌^◌, ◌<◌, ◌≤◌, Bool, true, false, cond, List, [], ◌∷◌, length, map, filter, Option, Some, None, IfSome, refl, arith}
use Rattle.std.specs.Prelude.{nat_le}
use Rattle.std.specs.List.{All, AllByRecursion}
use Rattle.std.proofs.lemmas.Bool.{and_from, le-leb, eqb-true}
use Rattle.std.proofs.lemmas.List.{length-map}
use Rattle.std.proofs.lemmas.List.Elements.{All-head, All-tail}
use Rattle.notary_link.specs.Batches.{Batch}
use Rattle.tuple_bytes.specs.declared.header.Header.{Header}
use Rattle.tuple_bytes.specs.declared.item.Item.{Item}
use Rattle.tuple_bytes.specs.declared.item.Item.TheVariants as items
use Rattle.tuple_bytes.specs.declared.item.Txn.{Txn}
use Rattle.tuple_bytes.specs.Spelling.{spell_txn}
use Rattle.history_model.specs.Stored.{IsStorable}
use Rattle.history_model.specs.History.{History, history, txns, granule_of, is_in_granule, rows}
use Rattle.evidence_file.specs.Evidence.{IsTxnOf, FitsList, FitsSecond, FitsEntry, ascend}
use Rattle.evidence_file.specs.Shown.{spelled_rows}
use Rattle.std.specs.List.Sorted.{IsStrictlyIncreasing}
use Rattle.digest_model.specs.Layout.{max_granules}
use Rattle.digest_model.proofs.Lists.{increasing_tail}
use Rattle.digest_model.proofs.Spelled.{has_spelling}
use Rattle.evidence_file.specs.Gathering.{held_in, is_notarized, original_in, entry_in, gathered, IsSource, GatheredFits}
use Rattle.evidence_file.proofs.Taken.{eras_fit}

more_count : (b : Bool) (t : Txn) (ts : List Txn) (n : ℕ) → length (map spell_txn ts) ≤ n → length (map spell_txn (cond b (t ∷ ts) ts)) ≤ suc n
more_count true t ts n le = omega (arith, le)
more_count false t ts n le = omega (arith, le)

count_of : (header : Header) (g : ℕ) (is : List Item) → length (map spell_txn (filter (is_in_granule header g) (txns is))) ≤ length is
count_of header g [] = omega arith
count_of header g (items.Frontier moment ∷ is) = omega (arith, count_of header g is)
count_of header g (items.Policy tile granule k algs ∷ is) = omega (arith, count_of header g is)
count_of header g (items.Txn t ∷ is) = more_count (is_in_granule header g t) t (filter (is_in_granule header g) (txns is)) (length is) (count_of header g is)

more_txns : (header : Header) (g : ℕ) (b : Bool) (t : Txn) (ts : List Txn) → is_in_granule header g t ≡ b → IsStorable (items.Txn t)
    → AllByRecursion (IsTxnOf header.width g) (map spell_txn ts) → AllByRecursion (IsTxnOf header.width g) (map spell_txn (cond b (t ∷ ts) ts))
more_txns header g true t ts e here others = (record { some = record { txn = t; storable = here; spelled = refl }; place = eqb-true (granule_of header.width t.moment) g e }, others)
more_txns header g false t ts e here others = others

txns_of : (header : Header) (g : ℕ) (is : List Item) → All IsStorable is → AllByRecursion (IsTxnOf header.width g) (map spell_txn (filter (is_in_granule header g) (txns is)))
txns_of header g [] all = tt
txns_of header g (items.Frontier moment ∷ is) all = txns_of header g is (All-tail IsStorable (items.Frontier moment) is all)
txns_of header g (items.Policy tile granule k algs ∷ is) all = txns_of header g is (All-tail IsStorable (items.Policy tile granule k algs) is all)
txns_of header g (items.Txn t ∷ is) all =
    more_txns header g (is_in_granule header g t) t (filter (is_in_granule header g) (txns is)) refl (All-head IsStorable (items.Txn t) is all)
    (txns_of header g is (All-tail IsStorable (items.Txn t) is all))

pub list_fits : (header : Header) (is : List Item) (g : ℕ) → All IsStorable is → length is < 2 ^ 32 → FitsList header.width g (spelled_rows (history header is) g)
unfolding rows
list_fits header is g all few = (omega (arith, few, count_of header g is), txns_of header g is all)

-- ---- entries

original_fits : (batches : List Batch) (s : History) (copy : Option History) (g : ℕ) → IfSome copy IsSource → FitsSecond s.header.width g (original_in batches s copy g)
original_fits batches s None g is = tt
original_fits batches s (Some c) g is = by (is_notarized batches s g (held_in s c g)) (list_fits s.header c.items g is.0.items is.1)
  where
    by : (b : Bool) → FitsList s.header.width g (held_in s c g) → FitsSecond s.header.width g (cond b (Some (held_in s c g)) None)
    by true fit = fit
    by false fit = tt

entries_fit : (batches : List Batch) (s : History) (copy : Option History) (gs : List ℕ) → IsSource s → IfSome copy IsSource → All (λ g. g < max_granules) gs
    → AllByRecursion (FitsEntry s.header.width) (map (entry_in batches s copy) gs)
entries_fit batches s copy [] is cs low = tt
entries_fit batches s copy (g ∷ gs) is cs low =
    let below : g < max_granules = All-head (λ g. g < max_granules) g gs low in (
      record { granule = below; shown = list_fits s.header s.items g is.0.items is.1; original = original_fits batches s copy g cs },
      entries_fit batches s copy gs is cs (All-tail (λ g. g < max_granules) g gs low),
    )

entries_ascend : (batches : List Batch) (s : History) (copy : Option History) (from g : ℕ) (gs : List ℕ) → from ≤ g → IsStrictlyIncreasing (g ∷ gs)
    → ascend from (map (entry_in batches s copy) (g ∷ gs)) ≡ true
unfolding ascend
entries_ascend batches s copy from g [] le inc = and_from (nat_le from g) true (le-leb from g le) refl
entries_ascend batches s copy from g (x ∷ xs) le inc =
    let step : g < x = inc 0 (omega arith) in
    and_from (nat_le from g) (ascend (suc g) (map (entry_in batches s copy) (x ∷ xs))) (le-leb from g le) (entries_ascend batches s copy (suc g) x xs (omega (arith, step)) (increasing_tail g (x ∷ xs) inc))

all_ascend : (batches : List Batch) (s : History) (copy : Option History) (gs : List ℕ) → IsStrictlyIncreasing gs → ascend 0 (map (entry_in batches s copy) gs) ≡ true
unfolding ascend
all_ascend batches s copy [] inc = refl
all_ascend batches s copy (g ∷ gs) inc = entries_ascend batches s copy 0 g gs (omega arith) inc

pub gathered_fits : GatheredFits
unfolding gathered
gathered_fits batches s copy gs is cs few inc low =
    let eras = eras_fit s (has_spelling s is.0).items in
    record {
      header = is.0.header;
      few = eras.few;
      eras = eras.fit;
      next = eras.next;
      count = omega (arith, few, length-map gs (entry_in batches s copy));
      entries = entries_fit batches s copy gs is cs low;
      order = all_ascend batches s copy gs inc;
    }
