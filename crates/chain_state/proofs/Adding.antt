-- One spelling more.
use Rattle.std.proofs.Common.{◌≡◌, ℕ, true, false, Bool, cond, List, [], ◌∷◌, ◌++◌, Option, Some, None, unwrap_or, refl, sym, ap, ◌∙◌, length-append, arith}
use Rattle.std.specs.Prelude.{IfSome, IfOk, Result, Ok, Err}
use Rattle.std.specs.Result.{result_ok}
use Rattle.std.specs.List.{cons_option}
use Rattle.std.proofs.lemmas.List.Elements.{filter_map-append}
use Rattle.tuple_bytes.specs.declared.header.Header.{Header}
use Rattle.tuple_bytes.specs.declared.item.Item.{Item}
use Rattle.tuple_bytes.specs.declared.item.Item.TheVariants as items
use Rattle.tuple_bytes.specs.declared.item.Txn.{Txn}
use Rattle.tuple_bytes.specs.Items.{item_of}
use Rattle.tuple_bytes.specs.Spelling.{spell_txn, FitsTxn, Spells}
use Rattle.tuple_bytes.proofs.ItemLaws.{whole_again}
use Rattle.history_model.specs.History.{history, txns, granule_of}
use Rattle.history_model.specs.Stored.{items_of}
use Rattle.digest_model.specs.Layout.{Era, Policy, policy_of, with_item, is_next}
use Rattle.digest_model.specs.Digests.{next_link}
use Rattle.policy_eras.specs.Policy.{count_of, with_found, with_payload}
use Rattle.tile_chains.specs.declared.granule.GranuleHash.{GranuleHash}
use Rattle.tile_chains.specs.Hashed.{HasHashed}
use Rattle.tile_seals.specs.Kept.{Planned}
use Rattle.chain_state.specs.declared.closed.Closed.{Closed}
use Rattle.chain_state.specs.Chained.{Chained}
use Rattle.chain_state.specs.Kept.{Keeps, IsSealed}
use Rattle.chain_state.proofs.Histories.{policy_more}
use Rattle.chain_state.proofs.Moving.{open_added, closed_added, sealed_added, open_turned, closed_turned, sealed_turned}

-- the items that are told
pub told_more : (sp : List (List ℕ)) (b : List ℕ) (item : Item) → Spells item b → items_of (sp ++ b ∷ []) ≡ items_of sp ++ item ∷ []
told_more sp b item spells =
    filter_map-append item_of sp (b ∷ [])
    ∙ ap (λ (o : Option Item). items_of sp ++ cons_option o []) (whole_again b item spells)

-- one spelling is of one item
pub one_item : (b : List ℕ) (x y : Item) → Spells x b → Spells y b → x ≡ y
one_item b x y is_x is_y = ap (λ (o : Option Item). unwrap_or o x) (sym (whole_again b x is_x) ∙ whole_again b y is_y)

moment_read : Item → ℕ
moment_read (items.Txn t) = t.moment
moment_read (items.Frontier moment) = moment
moment_read (items.Policy tile granule k algs) = 0

-- and of one moment
pub one_moment : (b : List ℕ) (t u : Txn) → FitsTxn t → FitsTxn u → b ≡ spell_txn t → b ≡ spell_txn u → t.moment ≡ u.moment
unfolding moment_read
one_moment b t u fits_t fits_u is_t is_u = ap moment_read (one_item b (items.Txn t) (items.Txn u) (fits_t, is_t) (fits_u, is_u))

some_added : (header : Header) (xs : List Item) (t : Txn) (g : ℕ) (o : Option Planned) → g ≡ granule_of header.width t.moment → IfSome o (IsSealed (history header xs) g) → IfSome o (IsSealed (history header (xs ++ items.Txn t ∷ [])) g)
some_added header xs t g None here is = tt
some_added header xs t g (Some p) here is = sealed_added header xs t g here p is

module _ (header : Header) (eras : Policy) (xs : List Item) (t : Txn) (g room : ℕ) (b link after : List ℕ) (hash next : GranuleHash) (closed : List Closed) (count capacity : ℕ) (sealed : Option Planned) where
  abbrev before : Chained
  before = record { header = header; items = xs; granule = g; room = room }

  abbrev behind : Chained
  behind = record { header = header; items = xs ++ items.Txn t ∷ []; granule = g; room = room }

  pub kept_added : Keeps before eras link hash closed count capacity sealed → g ≡ granule_of header.width t.moment → FitsTxn t → b ≡ spell_txn t → after ≡ next_link link b
      → ((n : ℕ) (ys : List (List ℕ)) → HasHashed hash n ys → HasHashed next n (ys ++ b ∷ [])) → Keeps behind eras after next closed count capacity sealed
  kept_added is here fits spelled linked hashes = record {
    fits = is.fits;
    policy = is.policy ∙ sym (policy_more header xs (items.Txn t));
    behind = open_added header xs t g here link after b hash next spelled is.behind linked hashes;
    before = closed_added header xs t g here closed is.before;
    tiles = some_added header xs t g sealed here is.tiles;
    spare = is.spare;
    within = is.within;
    most = is.most;
  }

-- ---- a policy more

-- so many eras as before are those of before
pub same_count : (p : Policy) (item : Item) → count_of (with_item p item) ≡ count_of p → with_item p item ≡ p
same_count p (items.Txn t) same = refl
same_count p (items.Frontier moment) same = refl
same_count p (items.Policy tile granule k algs) same = by (is_next p era granule) same
  where
    era : Era
    era = record { tile = tile; k = k; algs = algs }

    by : (b : Bool) → count_of (cond b (record { first = p.first; later = p.later ++ era ∷ [] }) p) ≡ count_of p → cond b (record { first = p.first; later = p.later ++ era ∷ [] }) p ≡ p
    by true longer = absurd (let long = length-append p.later (era ∷ []) in omega (arith, longer, long))
    by false same = refl

module _ (header : Header) (eras : Policy) (xs : List Item) (item : Item) (other : txns (item ∷ []) ≡ []) (g room : ℕ) (b link : List ℕ) (hash : GranuleHash) (closed : List Closed) (count capacity : ℕ) (sealed : Option Planned) where
  abbrev old : Chained
  old = record { header = header; items = xs; granule = g; room = room }

  abbrev new : Chained
  new = record { header = header; items = xs ++ item ∷ []; granule = g; room = room }

  turned_eras : Keeps old eras link hash closed count capacity sealed → Spells item b → with_payload eras b ≡ policy_of (history header (xs ++ item ∷ []))
  turned_eras is spells = ap (with_found eras) (whole_again b item spells) ∙ ap (λ (p : Policy). with_item p item) is.policy ∙ sym (policy_more header xs item)

  -- no tile is kept
  pub kept_turned : Keeps old eras link hash closed count capacity sealed → Spells item b → Keeps new (with_payload eras b) link hash closed count capacity None
  kept_turned is spells = record {
    fits = is.fits;
    policy = turned_eras is spells;
    behind = open_turned header xs item other g link hash is.behind;
    before = closed_turned header xs item other g closed is.before;
    tiles = tt;
    spare = is.spare;
    within = is.within;
    most = is.most;
  }

  some_turned : policy_of (history header (xs ++ item ∷ [])) ≡ policy_of (history header xs) → (o : Option Planned) → IfSome o (IsSealed (history header xs) g) → IfSome o (IsSealed (history header (xs ++ item ∷ [])) g)
  some_turned same None is = tt
  some_turned same (Some p) is = sealed_turned header xs item other g same p is

  -- where the eras stay, so do the tiles
  pub kept_unturned : Keeps old eras link hash closed count capacity sealed → Spells item b → count_of (with_payload eras b) ≡ count_of eras → Keeps new (with_payload eras b) link hash closed count capacity sealed
  kept_unturned is spells same =
      let by = kept_turned is spells in
      let found : with_payload eras b ≡ with_item eras item = ap (with_found eras) (whole_again b item spells) in
      let stay = same_count eras item (ap count_of (sym found) ∙ same) in
      record {
        fits = by.fits;
        policy = by.policy;
        behind = by.behind;
        before = by.before;
        tiles = some_turned (sym by.policy ∙ found ∙ stay ∙ is.policy) sealed is.tiles;
        spare = by.spare;
        within = by.within;
        most = by.most;
      }

-- what was folded, or nothing
pub ok_kept : {E : Type 0} (r : Result Planned E) (P : Planned → Type 0) → IfOk r P → IfSome (result_ok r) P
ok_kept (Ok p) P is = is
ok_kept (Err e) P is = tt
