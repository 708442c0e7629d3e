-- Where granules lie: all that the proofs use of tiles.
use Rattle.std.proofs.Common.{◌≡◌, ℕ, zero, suc, ◌+◌, ◌-◌, ◌<◌, ◌≤◌, Bool, true, false, List, [], ◌∷◌, Option, Some, None, refl, sym, ap, subst, ◌∙◌, arith}
use Rattle.std.specs.Prelude.{nat_eq, filter}
use Rattle.std.specs.List.{Contains, list_all, range_with_len}
use Rattle.tuple_bytes.specs.declared.header.Header.{Header}
use Rattle.history_model.specs.History.{History}
use Rattle.digest_model.specs.Layout.{Layout, layout, layout_by, first_era, SameTile, SameTiles, tile_size, first_granule, tile_of, max_granules, has_tile_chains, has_tree}
use Rattle.digest_model.proofs.Layouts as layouts
use Rattle.digest_model.proofs.Members.{here, there}
use Rattle.notary_link.specs.Batches.{Batch}
use Rattle.audit_model.specs.Altered.{HasPlacesOf, IsAltered}
use Rattle.audit_model.specs.Laws.{IsAudit}
use Rattle.audit_model.specs.Ranges.{is_of, range_of, range_has}
use Rattle.a3d_forensics.proofs.Ranges.{in_range_of, of_all, each_has}
use Rattle.forensic_report.specs.declared.algorithm.Algorithm.{Algorithm}
use Rattle.forensic_report.specs.declared.algorithm.Algorithm.TheVariants.{Mono, Tiled, TiledExactly, A3d}
use Rattle.forensic_report.specs.declared.fail.AnalyseFail.TheVariants.{NoEra, NotSealedSo}
use Rattle.forensic_report.specs.Finding.{tile_has, has_era, has_chains, IsOfAnalysis}
use Rattle.forensic_report.specs.Laws.{RangesAreShared}
use Rattle.forensic_report.specs.Shows.{IsAlteredWithin}

-- the number of a granule within its tile
unfoldable pub number_of : Layout → ℕ → ℕ
number_of l g = g - first_granule l (tile_of l g)

-- each granule is the one of its number in its tile
pub in_its_tile : (l : Layout) (g : ℕ) → first_granule l (tile_of l g) + number_of l g ≡ g
unfolding number_of
in_its_tile l g = (let from = layouts.tile_begins l g in omega (arith, from))

pub number_below : (l : Layout) (g : ℕ) → number_of l g < tile_size l (tile_of l g)
unfolding number_of
number_below l g = (let from = layouts.tile_begins l g in let below = layouts.tile_ends l g in omega (arith, from, below))

-- and the granule of a number of a tile lies there
pub tile_of_number : (l : Layout) (tile number : ℕ) → number < tile_size l tile → tile_of l (first_granule l tile + number) ≡ tile
tile_of_number l tile number below = layouts.only_tile l tile (first_granule l tile + number) (omega arith) (omega (arith, below))

-- a tile has a granule
pub some_granule : (l : Layout) (tile : ℕ) → 0 < tile_size l tile
some_granule l tile = layouts.some l tile

-- the tile of a sealed granule is sealed, and each granule of a sealed tile
pub tile_sealed : (l : Layout) (n g : ℕ) → g < first_granule l n → tile_of l g < n
tile_sealed l n g inside = layouts.tile_within l n (tile_of l g) g (layouts.tile_begins l g) inside

pub granule_sealed : (l : Layout) (n tile number : ℕ) → tile < n → number < tile_size l tile → first_granule l tile + number < first_granule l n
granule_sealed l n tile number inside below = (let ends = layouts.ends_within l n tile inside in omega (arith, ends, below))

-- a granule whose tile is sealed is sealed
pub sealed_with_tile : (l : Layout) (n g : ℕ) → tile_of l g < n → g < first_granule l n
sealed_with_tile l n g inside = (let ends = layouts.ends_within l n (tile_of l g) inside in let own = layouts.tile_ends l g in omega (arith, ends, own))

-- ---- the range

same_filter : (p q : ℕ → Bool) (a n : ℕ) → ((tile : ℕ) → tile < a + n → p tile ≡ q tile) → filter p (range_with_len a n) ≡ filter q (range_with_len a n)
same_filter p q a zero each = refl
same_filter p q a (suc n) each =
    let first = each a (omega arith) in
    let rest = same_filter p q (a + 1) n (λ tile below. each tile (omega (arith, below))) in
    rw (first, rest) refl

same_is_of : (era : Option ℕ) (l m : Layout) (n tile : ℕ) → SameTiles n l m → tile < n → is_of era l tile ≡ is_of era m tile
same_is_of None l m n tile same below = refl
same_is_of (Some number) l m n tile same below = ap (λ (e : ℕ). nat_eq e number) (layouts.same_era_of l m n tile below same)

-- tiles that lie alike have the same range
pub same_range : (era : Option ℕ) (l m : Layout) (n : ℕ) → SameTiles n l m → range_of era l n ≡ range_of era m n
unfolding range_of
same_range era l m n same = same_filter (is_of era l) (is_of era m) 0 n (λ tile below. same_is_of era l m n tile same (omega (arith, below)))

-- each altered granule is one of all tiles
pub within_all : (h : History) (s : Option History) (n g : ℕ) → IsAltered h s n g → IsAlteredWithin None h s n g
within_all h s n g alt = record { altered = alt; inside = of_all (layout h) n (tile_of (layout h) g) (tile_sealed (layout h) n g alt.is_sealed) }

-- and an altered granule of a tile of the range is one of the range
pub within_tile : (era : Option ℕ) (h : History) (s : Option History) (n tile number : ℕ) → Contains (range_of era (layout h) n) tile → number < tile_size (layout h) tile
    → IsAltered h s n (first_granule (layout h) tile + number) → IsAlteredWithin era h s n (first_granule (layout h) tile + number)
within_tile era h s n tile number among below alt = record {
  altered = alt;
  inside = subst (λ (t : ℕ). Contains (range_of era (layout h) n) t) (sym (tile_of_number (layout h) tile number below)) among;
}

-- ---- tests of tiles

all_pass : (p : ℕ → Bool) (xs : List ℕ) → ((x : ℕ) → Contains xs x → p x ≡ true) → list_all p xs ≡ true
all_pass p [] each = refl
all_pass p (x ∷ xs) each =
    let first = each x (here x xs) in
    let rest = all_pass p xs (λ y is. each y (there x y xs is)) in
    rw (first, rest) refl

all_alike : (p q : ℕ → Bool) (xs : List ℕ) → ((x : ℕ) → Contains xs x → p x ≡ q x) → list_all p xs ≡ list_all q xs
all_alike p q [] each = refl
all_alike p q (x ∷ xs) each =
    let first = each x (here x xs) in
    let rest = all_alike p q xs (λ y is. each y (there x y xs is)) in
    rw (first, rest) refl

-- ---- of the range

-- each tile has the chain over all, and so has the header
pub mono_has : (era : Option ℕ) (s : History) (n : ℕ) → has_chains Mono era s n ≡ true
unfolding range_has
mono_has None s zero = refl
mono_has None s (suc n) = all_pass (tile_has Mono (layout s)) (range_of None (layout s) (suc n)) (λ tile among. refl)
mono_has (Some era) s n = all_pass (tile_has Mono (layout s)) (range_of (Some era) (layout s) n) (λ tile among. refl)

-- so it is another algorithm that lacks its chains
pub lacking_refuses : (algorithm : Algorithm) (era : Option ℕ) (s : History) (n : ℕ) → has_chains algorithm era s n ≡ false → IsOfAnalysis algorithm era NotSealedSo
lacking_refuses Mono era s n lacks = absurd (let all = mono_has era s n in let both : true ≡ false = sym all ∙ lacks in cc)
lacking_refuses Tiled era s n lacks = tt
lacking_refuses (TiledExactly kappa) era s n lacks = tt
lacking_refuses A3d era s n lacks = tt

-- and an era that is not there was named
pub eraless_refuses : (algorithm : Algorithm) (era : Option ℕ) (s : History) → has_era era s ≡ false → IsOfAnalysis algorithm era NoEra
eraless_refuses algorithm None s lacks = absurd cc
eraless_refuses algorithm (Some era) s lacks = tt

-- ---- of a file with the sealed tiles of what was filed

range_alike : (has : Layout → ℕ → Bool) (era : Option ℕ) (h s : History) (n : ℕ) → HasPlacesOf h s n
    → ((tile : ℕ) → SameTile (layout h) (layout s) tile → has (layout h) tile ≡ has (layout s) tile) → range_has has era h n ≡ range_has has era s n
unfolding range_has
range_alike has era h s n one alike = by era n one.tiles
  where
    core : (era : Option ℕ) (n : ℕ) → SameTiles n (layout h) (layout s) → list_all (has (layout h)) (range_of era (layout h) n) ≡ list_all (has (layout s)) (range_of era (layout s) n)
    core era n same =
        all_alike (has (layout h)) (has (layout s)) (range_of era (layout h) n) (λ tile among. alike tile (same tile (in_range_of (layout h) era n tile among)))
        ∙ ap (list_all (has (layout s))) (same_range era (layout h) (layout s) n same)

    by : (era : Option ℕ) (n : ℕ) → SameTiles n (layout h) (layout s) → range_has has era h n ≡ range_has has era s n
    by None zero same = ap (λ (header : Header). has (layout_by (first_era header)) 0) one.header
    by None (suc n) same = core None (suc n) same
    by (Some era) n same = core (Some era) n same

one_so : (l m : Layout) (algorithm : Algorithm) (tile : ℕ) → SameTile l m tile → tile_has algorithm l tile ≡ tile_has algorithm m tile
one_so l m Mono tile same = refl
one_so l m Tiled tile same = layouts.same_chains l m tile same
one_so l m (TiledExactly kappa) tile same = layouts.same_chains l m tile same
one_so l m A3d tile same = layouts.same_tree l m tile same

same_chains : (algorithm : Algorithm) (h s : History) (era : Option ℕ) (n : ℕ) → HasPlacesOf h s n → has_chains algorithm era h n ≡ has_chains algorithm era s n
same_chains algorithm h s era n one = range_alike (tile_has algorithm) era h s n one (λ tile same. one_so (layout h) (layout s) algorithm tile same)

pub ranges_shared : RangesAreShared
ranges_shared = record { tiles = λ h s era n one. same_range era (layout h) (layout s) n one.tiles; chains = same_chains }

module _ (batches : List Batch) (id : ℕ) (h s : History) (n : ℕ) (audit : IsAudit batches id h s n) where
  pub places_of : HasPlacesOf h s n
  places_of = record { header = audit.header; tiles = audit.places }

  pub ends_within : first_granule (layout s) n ≤ max_granules
  ends_within = subst (λ (end : ℕ). end ≤ max_granules) (layouts.same_begins (layout h) (layout s) n audit.places) audit.filed.within

  -- both have the same range
  pub range_of_audit : (era : Option ℕ) → range_of era (layout h) n ≡ range_of era (layout s) n
  range_of_audit era = same_range era (layout h) (layout s) n audit.places

  -- so both have the chains that are asked for, or neither has
  pub same_has : (algorithm : Algorithm) (era : Option ℕ) → has_chains algorithm era h n ≡ has_chains algorithm era s n
  same_has algorithm era = same_chains algorithm h s era n places_of

  pub chains_of_audit : (era : Option ℕ) (tile : ℕ) → has_chains Tiled era s n ≡ true → Contains (range_of era (layout h) n) tile → has_tile_chains (layout h) tile ≡ true
  chains_of_audit era tile has among = each_has (tile_has Tiled) era h n tile (same_has Tiled era ∙ has) among

  pub tree_of_audit : (era : Option ℕ) → has_chains A3d era s n ≡ true → range_has has_tree era h n ≡ true
  tree_of_audit era has = same_has A3d era ∙ has
