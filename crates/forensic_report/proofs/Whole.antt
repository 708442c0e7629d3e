-- A report as a whole.
use Rattle.std.proofs.Common.{◌≡◌, ℕ, ◌^◌, ◌<◌, ◌≤◌, true, false, List, [], ◌∷◌, ◌++◌, length, codes, Some, None, refl, ap, ◌∙◌, arith, append_assoc, sym, get_or}
use Rattle.std.specs.List.{slice_get, All, Contains}
use Rattle.std.proofs.lemmas.List.Elements.{All-head}
use Rattle.digest_model.specs.Layout.{Layout, exponent, first_granule, tile_of, max_granules}
use Rattle.digest_model.proofs.Layouts.{ascends, tile_begins, counts}
use Rattle.forensic_report.specs.declared.algorithm.Algorithm.{Algorithm}
use Rattle.forensic_report.specs.Analysis.{Extent, Analysis, Findings, Region, Targets, Leaves, Found, range, bad_tiles, is_some_bad, FitsFindings}
use Rattle.forensic_report.specs.Reporting.{Begins}
use Rattle.forensic_report.specs.Writing.{IsFailing}
use Rattle.forensic_report.specs.Texts.{Kept, head_words, head_line, findings_text, first_line, diagram_text, altered_text, body_text, report_text}
use Rattle.forensic_report.proofs.Joined.{three}
use Rattle.a3d_forensics.proofs.Ranges.{in_range_of}
use Rattle.forensic_report.proofs.Layouts.{sealed_with_tile}
use Rattle.forensic_report.proofs.Marking.{region_first}

-- ---- the first bad tile

sealed : (extent : Extent) (tile : ℕ) → Contains (range extent) tile → tile < extent.tiles
sealed extent tile among = in_range_of extent.layout extent.era extent.tiles tile among

pub first_within : (extent : Extent) (tile : ℕ) (found : Findings) → FitsFindings extent found → slice_get (bad_tiles extent found) 0 ≡ Some tile → tile < extent.tiles
first_within extent tile (Region None) fits is = absurd cc
first_within extent tile (Region (Some first)) fits is = let same : first ≡ tile = (let e = region_first extent (Some first) fits in cc) in omega (arith, same, fits)
first_within extent tile (Targets []) fits is = absurd cc
first_within extent tile (Targets (t ∷ targets)) fits is =
    let same : t.0 ≡ tile = cc in
    let inside = sealed extent t.0 (All-head (λ (t : ℕ × ℕ). Contains (range extent) t.0 × (t.1 < 2 ^ exponent extent.layout t.0)) t targets fits.each).0 in
    omega (arith, same, inside)
first_within extent tile (Leaves [] checks) fits is = absurd cc
first_within extent tile (Leaves (g ∷ granules) checks) fits is =
    let same : tile_of extent.layout g ≡ tile = cc in
    let inside = sealed extent (tile_of extent.layout g) (All-head (λ (g : ℕ). Contains (range extent) (tile_of extent.layout g)) g granules fits.within) in
    omega (arith, same, inside)

-- a granule's tile has no greater number
pub tile_below : (l : Layout) (g : ℕ) → tile_of l g ≤ g
tile_below l g = omega (arith, counts l (tile_of l g), tile_begins l g)

-- granules of tiles of the range lie in sealed ones, before the last granule
module _ (extent : Extent) (granules : List ℕ) (fits : All (λ g. Contains (range extent) (tile_of extent.layout g)) granules) where
  pub leaves_within : All (λ g. tile_of extent.layout g < extent.tiles) granules
  leaves_within = λ k d below. sealed extent (tile_of extent.layout (get_or granules k d)) (fits k d below)

  pub leaves_below : first_granule extent.layout extent.tiles ≤ max_granules → All (λ g. g < max_granules) granules
  leaves_below small = λ k d below.
      let inside = sealed_with_tile extent.layout extent.tiles (get_or granules k d) (leaves_within k d below) in
      omega (arith, inside, small)

pub first_below : (granules : List ℕ) (g : ℕ) → All (λ g. g < max_granules) granules → Some g ≡ slice_get granules 0 → g < max_granules
first_below [] g below is = absurd cc
first_below (x ∷ granules) g below is = let same : g ≡ x = cc in omega (arith, same, All-head (λ (g : ℕ). g < max_granules) x granules below)

-- targets of such tiles are of sealed ones, and can be told
pub targets_within : (extent : Extent) (targets : List (ℕ × ℕ)) → All (λ t. Contains (range extent) t.0 × (t.1 < 2 ^ exponent extent.layout t.0)) targets → All (λ t. t.0 < extent.tiles) targets
targets_within extent targets fits = λ k d below. sealed extent (get_or targets k d).0 (fits k d below).0

pub all_failing : (extent : Extent) (targets : List (ℕ × ℕ)) → first_granule extent.layout extent.tiles ≤ max_granules
    → All (λ t. Contains (range extent) t.0 × (t.1 < 2 ^ exponent extent.layout t.0)) targets → All (IsFailing extent.layout) targets
all_failing extent targets small fits = λ k d below.
    let both : Contains (range extent) (get_or targets k d).0 × ((get_or targets k d).1 < 2 ^ exponent extent.layout (get_or targets k d).0) = fits k d below in
    let inside = sealed extent (get_or targets k d).0 both.0 in
    let up = ascends extent.layout (get_or targets k d).0 extent.tiles (omega (arith, inside)) in
    (omega (arith, small, up), both.1)

pub few_tiles : (l : Layout) (n : ℕ) → first_granule l n ≤ max_granules → n ≤ 1048576
few_tiles l n few = omega (arith, few, counts l n)

-- ---- the first line

pub head_altered : (algorithm : Algorithm) (id count tile : ℕ) (extent : Extent) (findings : Findings) → count ≡ length (range extent) → slice_get (bad_tiles extent findings) 0 ≡ Some tile
    → head_words algorithm id extent.era count (codes "altered") ≡ head_line algorithm id (Found extent findings)
unfolding head_line
head_altered algorithm id count tile extent findings many is =
    let some : is_some_bad (bad_tiles extent findings) ≡ true = some_bad (bad_tiles extent findings) is in
    rw some (ap (λ (n : ℕ). head_words algorithm id extent.era n (codes "altered")) many)
  where
    some_bad : (bad : List ℕ) → slice_get bad 0 ≡ Some tile → is_some_bad bad ≡ true
    some_bad [] is = absurd cc
    some_bad (b ∷ bad) is = refl

pub head_clean : (algorithm : Algorithm) (id count : ℕ) (extent : Extent) (findings : Findings) → count ≡ length (range extent) → slice_get (bad_tiles extent findings) 0 ≡ None
    → head_words algorithm id extent.era count (codes "clean") ≡ head_line algorithm id (Found extent findings)
unfolding head_line
head_clean algorithm id count extent findings many is =
    let none : is_some_bad (bad_tiles extent findings) ≡ false = none_bad (bad_tiles extent findings) is in
    rw none (ap (λ (n : ℕ). head_words algorithm id extent.era n (codes "clean")) many)
  where
    none_bad : (bad : List ℕ) → slice_get bad 0 ≡ None → is_some_bad bad ≡ false
    none_bad [] is = refl
    none_bad (b ∷ bad) is = absurd cc

-- ---- what comes behind it

pub altered_is : (algorithm : Algorithm) (extent : Extent) (tile : ℕ) (kept : Kept) (findings : Findings) (old one two new : List ℕ) → slice_get (bad_tiles extent findings) 0 ≡ Some tile
    → one ≡ old ++ findings_text algorithm extent kept findings → two ≡ one ++ first_line kept tile → new ≡ two ++ diagram_text kept extent.tiles (bad_tiles extent findings)
    → new ≡ old ++ body_text algorithm kept (Found extent findings)
altered_is algorithm extent tile kept findings old one two new first put next last =
    three old (findings_text algorithm extent kept findings) (first_line kept tile) (diagram_text kept extent.tiles (bad_tiles extent findings)) one two new put next last
    ∙ ap (λ (text : List ℕ). old ++ text) (with (bad_tiles extent findings) first)
  where
    with : (bad : List ℕ) → slice_get bad 0 ≡ Some tile → findings_text algorithm extent kept findings ++ first_line kept tile ++ diagram_text kept extent.tiles bad ≡ altered_text algorithm extent kept findings bad
    with [] is = absurd cc
    with (b ∷ bad) is = let same : tile ≡ b = cc in rw same refl

pub nothing_behind : (algorithm : Algorithm) (extent : Extent) (kept : Kept) (findings : Findings) → slice_get (bad_tiles extent findings) 0 ≡ None → body_text algorithm kept (Found extent findings) ≡ []
nothing_behind algorithm extent kept findings is = none (bad_tiles extent findings) is
  where
    none : (bad : List ℕ) → slice_get bad 0 ≡ None → altered_text algorithm extent kept findings bad ≡ []
    none [] is = refl
    none (b ∷ bad) is = absurd cc

-- ---- the whole

pub report_is : (algorithm : Algorithm) (id : ℕ) (extent : Extent) (kept : Kept) (findings : Findings) (old head new : List ℕ) → head ≡ old ++ head_line algorithm id (Found extent findings)
    → new ≡ head ++ body_text algorithm kept (Found extent findings) → new ≡ old ++ report_text algorithm id kept (Found extent findings)
unfolding report_text
report_is algorithm id extent kept findings old head new first next =
    next ∙ ap (λ (t : List ℕ). t ++ body_text algorithm kept (Found extent findings)) first ∙ append_assoc old (head_line algorithm id (Found extent findings)) (body_text algorithm kept (Found extent findings))

-- the first line begins it
pub report_begins : (algorithm : Algorithm) (id : ℕ) (kept : Kept) (a : Analysis) (old new : List ℕ) → new ≡ old ++ report_text algorithm id kept a → Begins (old ++ head_line algorithm id a) new
unfolding report_text
report_begins algorithm id kept a old new put = record { rest = body_text algorithm kept a; is = put ∙ sym (append_assoc old (head_line algorithm id a) (body_text algorithm kept a)) }
