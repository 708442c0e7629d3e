-- The tiles that fail among some.
use Rattle.std.proofs.Common.{◌≡◌, ℕ, zero, suc, ◌+◌, ◌-◌, ◌^◌, ◌<◌, ◌≤◌, List, [], ◌∷◌, ◌++◌, length, map, Option, Some, None, IfSome, Result, Ok, Err, refl, sym, ap, ◌∙◌, arith}
use Rattle.std.specs.List.{All, Contains, filter_map, range_with_len, cons_option, sum_by}
use Rattle.std.specs.List.Sorted.{IsStrictlyIncreasing}
use Rattle.std.proofs.lemmas.List.{map-append}
use Rattle.std.proofs.lemmas.List.Elements.{filter_map-append, All-append, All-nil, All-push}
use Rattle.std.proofs.lemmas.List.Sums.{sum_by-append}
use Rattle.history_model.specs.History.{History}
use Rattle.digest_model.specs.Layout.{exponent}
use Rattle.notary_link.specs.declared.fail.AskFail.{AskFail}
use Rattle.notary_link.specs.declared.fail.AskFail.TheVariants as ask_fails
use Rattle.notary_link.specs.Batches.{Batch}
use Rattle.audit_model.specs.Asked.{IsTold, or_stop, first_stop, unless_stopped}
use Rattle.tiled_forensics.specs.Target.{tile_told, target_questions}
use Rattle.a3d_forensics.proofs.Finding.{increasing_append}
use Rattle.forensic_report.specs.Analysis.{Extent, Targets, Found, range, asked_by, AreTargets}
use Rattle.forensic_report.specs.Entries.{entry_of}
use Rattle.forensic_report.specs.Fails.{of_asking}
use Rattle.forensic_report.specs.Finding.{stop_told, failing, analysis_by, targets_told}
use Rattle.forensic_report.specs.Values.{OrGivesUp}
use Rattle.audit_model.proofs.Stops.{first_stop-append}
use Rattle.forensic_report.proofs.Told.{stop_at_tile, failing_tile, stop_of_tiles, failing_tiles}

-- ---- one element more

first_stop_one : (stop : Option AskFail) → stop ≡ None → first_stop (stop ∷ []) ≡ None
unfolding first_stop
first_stop_one None is = refl
first_stop_one (Some fail) is = absurd cc

behind_first : (first later last : Option AskFail) (fail : AskFail) → or_stop first later ≡ None → (later ≡ None → last ≡ Some fail) → or_stop first last ≡ Some fail
behind_first None later last fail none then_so = then_so none
behind_first (Some other) later last fail none then_so = absurd cc

module _ (stop : ℕ → Option AskFail) where
  none_more : (tiles : List ℕ) (tile : ℕ) → first_stop (map stop tiles) ≡ None → stop tile ≡ None → first_stop (map stop (tiles ++ tile ∷ [])) ≡ None
  none_more tiles tile none next =
      ap first_stop (map-append stop tiles (tile ∷ [])) ∙ first_stop-append (map stop tiles) (stop tile ∷ []) ∙ rw none (first_stop_one (stop tile) next)

  -- the first one that stops
  stops_at : (tiles : List ℕ) (tile : ℕ) (rest : List ℕ) (fail : AskFail) → first_stop (map stop tiles) ≡ None → stop tile ≡ Some fail → first_stop (map stop (tiles ++ tile ∷ rest)) ≡ Some fail
  unfolding first_stop
  stops_at [] tile rest fail none is = rw is refl
  stops_at (first ∷ tiles) tile rest fail none is =
      behind_first (stop first) (first_stop (map stop tiles)) (first_stop (map stop (tiles ++ tile ∷ rest))) fail none (λ later. stops_at tiles tile rest fail later is)

-- tiles in a row, and one of them
range_at : (first m n : ℕ) → m < n → range_with_len first n ≡ range_with_len first m ++ (first + m) ∷ range_with_len (first + m + 1) (n - m - 1)
range_at first m zero below = absurd (omega (arith, below))
range_at first zero (suc n) below =
    let here : first ≡ first + 0 = omega arith in
    let behind : first + 1 ≡ first + 0 + 1 = omega arith in
    let left : n ≡ suc n - 0 - 1 = omega arith in
    ap (λ (a : ℕ). a ∷ range_with_len (first + 1) n) here ∙ ap (λ (a : ℕ). (first + 0) ∷ range_with_len a n) behind ∙ ap (λ (k : ℕ). (first + 0) ∷ range_with_len (first + 0 + 1) k) left
range_at first (suc m) (suc n) below =
    let next : first + 1 + m ≡ first + suc m = omega arith in
    let left : n - m - 1 ≡ suc n - suc m - 1 = omega arith in
    ap (λ (rest : List ℕ). first ∷ rest) (range_at (first + 1) m n (omega (arith, below))
    ∙ ap (λ (a : ℕ). range_with_len (first + 1) m ++ a ∷ range_with_len (a + 1) (n - m - 1)) next
    ∙ ap (λ (k : ℕ). range_with_len (first + 1) m ++ (first + suc m) ∷ range_with_len (first + suc m + 1) k) left)

pub range_split : (first tile end : ℕ) → first ≤ tile → tile < end → range_with_len first (tile - first) ++ tile ∷ range_with_len (tile + 1) (end - tile - 1) ≡ range_with_len first (end - first)
range_split first tile end from below =
    let place : first + (tile - first) ≡ tile = omega (arith, from) in
    let left : end - first - (tile - first) - 1 ≡ end - tile - 1 = omega (arith, from, below) in
    sym (range_at first (tile - first) (end - first) (omega (arith, from, below))
    ∙ ap (λ (t : ℕ). range_with_len first (tile - first) ++ t ∷ range_with_len (t + 1) (end - first - (tile - first) - 1)) place
    ∙ ap (λ (k : ℕ). range_with_len first (tile - first) ++ tile ∷ range_with_len (tile + 1) k) left)

-- ---- of the tiles of a history

-- nothing stopped at these tiles, and these of them fail
pub record AreFailing (batches : List Batch) (s : History) (tiles : List ℕ) (targets : List (ℕ × ℕ)) : Type 0 where
  pub none : stop_of_tiles batches s tiles ≡ None
  pub are : targets ≡ failing_tiles batches s tiles

module _ (batches : List Batch) (s : History) where
  pub none_failing : (tiles : List ℕ) (targets : List (ℕ × ℕ)) → tiles ≡ [] → targets ≡ [] → AreFailing batches s tiles targets
  unfolding first_stop
  none_failing tiles targets no_tile none = rw no_tile (record { none = refl; are = none })

  module _ (tiles : List ℕ) (tile : ℕ) (targets : List (ℕ × ℕ)) (so : AreFailing batches s tiles targets) where
    entry_is : (told : Option ℕ) → Ok told ≡ tile_told batches s tile → filter_map (failing_tile batches s) (tile ∷ []) ≡ entry_of tile told
    entry_is told is = ap (λ (r : Result (Option ℕ) AskFail). cons_option (failing tile r) []) (sym is) ∙ by told
      where
        by : (o : Option ℕ) → cons_option (failing tile (Ok o)) [] ≡ entry_of tile o
        by None = refl
        by (Some target) = refl

    pub one_more : (told : Option ℕ) → Ok told ≡ tile_told batches s tile → AreFailing batches s (tiles ++ tile ∷ []) (targets ++ entry_of tile told)
    one_more told is = record {
      none = none_more (stop_at_tile batches s) tiles tile so.none (ap stop_told (sym is));
      are = ap (λ (l : List (ℕ × ℕ)). l ++ entry_of tile told) so.are
          ∙ sym (filter_map-append (failing_tile batches s) tiles (tile ∷ []) ∙ ap (λ (more : List (ℕ × ℕ)). failing_tiles batches s tiles ++ more) (entry_is told is));
    }

  module _ (extent : Extent) where
    by_stop : (tiles : List ℕ) (stop : Option AskFail) → stop_of_tiles batches s tiles ≡ stop → analysis_by Targets extent (targets_told batches s tiles) ≡ analysis_by Targets extent (unless_stopped stop (failing_tiles batches s tiles))
    by_stop tiles stop is = ap (λ (o : Option AskFail). analysis_by Targets extent (unless_stopped o (failing_tiles batches s tiles))) is

    pub all_failing : (tiles : List ℕ) (targets : List (ℕ × ℕ)) → AreFailing batches s tiles targets → Ok (Found extent (Targets targets)) ≡ analysis_by Targets extent (targets_told batches s tiles)
    all_failing tiles targets so = ap (λ (ts : List (ℕ × ℕ)). Ok (Found extent (Targets ts))) so.are ∙ sym (by_stop tiles None so.none)

    module _ (tiles : List ℕ) (tile : ℕ) (rest : List ℕ) (targets : List (ℕ × ℕ)) (so : AreFailing batches s tiles targets) where
      abbrev all : List ℕ
      all = tiles ++ tile ∷ rest

      stop_is : (fail : AskFail) → Err fail ≡ tile_told batches s tile → Err (of_asking fail) ≡ analysis_by Targets extent (targets_told batches s all)
      stop_is fail told = sym (by_stop all (Some fail) (stops_at (stop_at_tile batches s) tiles tile rest fail so.none (ap stop_told (sym told))))

      pub stopped : (fail : AskFail) → IsTold (tile_told batches s tile) (Err fail) → OrGivesUp (λ found. found ≡ analysis_by Targets extent (targets_told batches s all)) (Err (of_asking fail))
      stopped ask_fails.NotaryFault told = tt
      stopped ask_fails.NoMemory told = tt
      stopped (ask_fails.SealMissing name) told = stop_is (ask_fails.SealMissing name) told
      stopped ask_fails.NotSealedSo told = stop_is ask_fails.NotSealedSo told
      stopped (ask_fails.NotaryInconsistent era level index) told = stop_is (ask_fails.NotaryInconsistent era level index) told

-- ---- whatever is told

module _ (extent : Extent) where
  abbrev IsFitting : ℕ × ℕ → Type 0
  IsFitting t = Contains (range extent) t.0 × (t.1 < 2 ^ exponent extent.layout t.0)

  -- as many questions as the targets have bits
  abbrev pub bits_of : List (ℕ × ℕ) → ℕ
  bits_of targets = sum_by (λ t. exponent extent.layout t.0) targets

  pub none_fit : (targets : List (ℕ × ℕ)) → targets ≡ [] → AreTargets extent targets
  none_fit targets none = rw none (record { ascend = λ k below. absurd (omega (arith, below)); each = All-nil IsFitting })

  pub none_asked : (targets : List (ℕ × ℕ)) (first old : ℕ) → targets ≡ [] → old ≤ old + (first - first + bits_of targets)
  none_asked targets first old none = omega arith

  module _ (tile : ℕ) (targets new : List (ℕ × ℕ)) (told : Option ℕ) (is : new ≡ targets ++ entry_of tile told) where
    entry_fits : (o : Option ℕ) → Contains (range extent) tile → IfSome o (λ target. target < 2 ^ exponent extent.layout tile) → All IsFitting (entry_of tile o)
    entry_fits None among within = All-nil IsFitting
    entry_fits (Some target) among within = All-push IsFitting [] (tile, target) (All-nil IsFitting) (among, within)

    entries_ascend : (o : Option ℕ) → IsStrictlyIncreasing (map (λ t. t.0) (entry_of tile o))
    entries_ascend None k below = absurd (omega (arith, below))
    entries_ascend (Some target) k below = absurd (omega (arith, below))

    entries_behind : (o : Option ℕ) → All (λ t. tile ≤ t) (map (λ t. t.0) (entry_of tile o))
    entries_behind None = All-nil (λ (t : ℕ). tile ≤ t)
    entries_behind (Some target) = All-push (λ (t : ℕ). tile ≤ t) [] tile (All-nil (λ (t : ℕ). tile ≤ t)) (omega arith)

    pub fit_more : All (λ t. t < tile) (map (λ t. t.0) targets) → AreTargets extent targets → Contains (range extent) tile → IfSome told (λ target. target < 2 ^ exponent extent.layout tile) → AreTargets extent new
    fit_more before fit among within = rw is (record {
      ascend = rw (map-append (λ (t : ℕ × ℕ). t.0) targets (entry_of tile told)) (increasing_append (map (λ t. t.0) targets) (map (λ t. t.0) (entry_of tile told)) tile fit.ascend (entries_ascend told) before (entries_behind told));
      each = All-append IsFitting targets (entry_of tile told) fit.each (entry_fits told among within);
    })

    questions_of : (o : Option ℕ) → target_questions (exponent extent.layout tile) o ≡ 1 + bits_of (entry_of tile o)
    questions_of None = refl
    questions_of (Some target) = omega arith

    pub asked_more : (first old mid later : ℕ) → first ≤ tile → mid ≤ old + (tile - first + bits_of targets) → later ≤ mid + target_questions (exponent extent.layout tile) told
        → later ≤ old + (tile + 1 - first + bits_of new)
    asked_more first old mid later from before next =
        let sum : bits_of (targets ++ entry_of tile told) ≡ bits_of targets + bits_of (entry_of tile told) = sum_by-append (λ (t : ℕ × ℕ). exponent extent.layout t.0) targets (entry_of tile told) in
        let few = questions_of told in
        rw is (omega (arith, sum, few, from, before, next))

-- the tiles so far lie before the next one
pub all_before : (tile : ℕ) (targets new : List (ℕ × ℕ)) (told : Option ℕ) → new ≡ targets ++ entry_of tile told → All (λ t. t < tile) (map (λ t. t.0) targets) → All (λ t. t < tile + 1) (map (λ t. t.0) new)
all_before tile targets new told is before =
    rw (is, map-append (λ (t : ℕ × ℕ). t.0) targets (entry_of tile told)) (All-append (λ (t : ℕ). t < tile + 1) (map (λ t. t.0) targets) (map (λ t. t.0) (entry_of tile told)) (λ k d below. (let low = before k d below in omega (arith, low))) (entry told))
  where
    entry : (o : Option ℕ) → All (λ t. t < tile + 1) (map (λ t. t.0) (entry_of tile o))
    entry None = All-nil (λ (t : ℕ). t < tile + 1)
    entry (Some target) = All-push (λ (t : ℕ). t < tile + 1) [] tile (All-nil (λ (t : ℕ). t < tile + 1)) (omega arith)
