-- Lines put behind one another, by what a notary has.
use Rattle.std.proofs.Common.{◌≡◌, ℕ, zero, suc, ◌+◌, ◌-◌, ◌<◌, ◌≤◌, List, [], ◌∷◌, ◌++◌, length, get_or, drop, map, min, fold, Option, Result, Ok, refl, sym, ap, ◌∙◌, arith, append_assoc}
use Rattle.std.specs.List.{flat_map, range_with_len}
use Rattle.std.proofs.lemmas.List.{append-nil, drop_more, drop_all}
use Rattle.std.proofs.lemmas.List.FromFn.{map-range_with_len_more}
use Rattle.std.proofs.lemmas.List.Sums.{fold-append}
use Rattle.notary_link.specs.declared.fail.AskFail.{AskFail}
use Rattle.digest_model.specs.Layout.{Layout, tile_of}
use Rattle.notary_link.specs.declared.mark.Mark.{Mark}
use Rattle.notary_link.specs.Batches.{Batch}
use Rattle.audit_model.specs.Spans.{changed_from}
use Rattle.corruption_diagram.specs.declared.span.Span.{Span}
use Rattle.corruption_diagram.specs.declared.clean_marks.CleanMark.{CleanMark}
use Rattle.corruption_diagram.specs.CleanMarks.{StandFor}
use Rattle.corruption_diagram.specs.Spans.{when_changed}
use Rattle.forensic_report.specs.declared.asking.Recent.{Recent}
use Rattle.forensic_report.specs.declared.algorithm.Algorithm.{Algorithm}
use Rattle.forensic_report.specs.Texts.{Kept, least, span_of, region_span, region_line, region_line_in, target_line, target_line_in, granule_line, granule_line_in}
use Rattle.forensic_report.specs.Reporting.{Begins}
use Rattle.forensic_report.specs.Writing.{IsSpanOf}

-- ---- what is out stays

pub begins_same : (text : List ℕ) → Begins text text
begins_same text = record { rest = []; is = sym (append-nil text) }

pub begins_more : (front text more new : List ℕ) → Begins front text → new ≡ text ++ more → Begins front new
begins_more front text more new begins put = record { rest = begins.rest ++ more; is = put ∙ ap (λ (l : List ℕ). l ++ more) begins.is ∙ append_assoc front begins.rest more }

-- ---- a line for each

module _ {X : Type 0} (line : X → List ℕ) where
  pub next_line : (xs : List X) (i : ℕ) (d : X) (old out new : List ℕ) → i < length xs → new ≡ out ++ line (get_or xs i d)
      → out ++ flat_map line (drop i xs) ≡ old ++ flat_map line xs → new ++ flat_map line (drop (i + 1) xs) ≡ old ++ flat_map line xs
  next_line xs i d old out new within put is =
      ap (λ (l : List ℕ). l ++ flat_map line (drop (i + 1) xs)) put
      ∙ append_assoc out (line (get_or xs i d)) (flat_map line (drop (i + 1) xs))
      ∙ ap (λ (rest : List X). out ++ flat_map line rest) (sym (drop_more xs i d within))
      ∙ is

  pub all_lines : (xs : List X) (i : ℕ) (old out : List ℕ) → length xs ≤ i → out ++ flat_map line (drop i xs) ≡ old ++ flat_map line xs → out ≡ old ++ flat_map line xs
  all_lines xs i old out past is = sym (append-nil out) ∙ ap (λ (rest : List X). out ++ flat_map line rest) (sym (drop_all i xs past)) ∙ is

-- ---- by what a notary has

abbrev pub kept_at : ℕ → List Batch → List Mark → Kept
kept_at now batches marks = record { batches = batches; marks = marks; now = now }

-- the lines of so many are out, where the clean marks are those of the id
abbrev pub LinesAre : {X : Type 0} → (Kept → X → List ℕ) → List X → ℕ → List CleanMark → ℕ → List ℕ → List ℕ → List Batch → List Mark → Type 0
LinesAre line xs i clean now old out batches marks = StandFor marks clean
    → out ++ flat_map (line (kept_at now batches marks)) (drop i xs) ≡ old ++ flat_map (line (kept_at now batches marks)) xs

abbrev pub WasTold : List CleanMark → ℕ → ℕ → Span → List Batch → List Mark → Type 0
WasTold clean now tile span batches marks = StandFor marks clean → ◌≡◌ {A = Result Span AskFail} (Ok span) (Ok (when_changed batches marks tile now))

-- so are the lines of granules, and the span that is at hand is one of theirs
abbrev pub GranulesAre : Layout → List ℕ → ℕ → List CleanMark → ℕ → Option Recent → List ℕ → List ℕ → List Batch → List Mark → Type 0
GranulesAre l xs i clean now recent old out batches marks = StandFor marks clean → IsSpanOf (kept_at now batches marks) recent
    × (out ++ flat_map (granule_line l (kept_at now batches marks)) (drop i xs) ≡ old ++ flat_map (granule_line l (kept_at now batches marks)) xs)

abbrev pub WasAsked : List CleanMark → ℕ → Option Recent → ℕ → Span → List Batch → List Mark → Type 0
WasAsked clean now recent tile span batches marks = StandFor marks clean → IsSpanOf (kept_at now batches marks) recent → span ≡ span_of (kept_at now batches marks) tile

-- the least moment from which one of the tiles up to a tile was changed
abbrev pub LeastIs : List CleanMark → ℕ → ℕ → ℕ → List Batch → List Mark → Type 0
LeastIs clean first tile from batches marks = StandFor marks clean → from ≡ least (map (changed_from batches marks) (range_with_len first (tile - first)))

-- ---- a line in its span

pub region_is : (l : Layout) (n first from : ℕ) (kept : Kept) (old new : List ℕ) → from ≡ (region_span kept first n).from → new ≡ old ++ region_line_in l n first (record { from = from; to = kept.now })
    → new ≡ old ++ region_line l n kept first
unfolding region_line
region_is l n first from kept old new is put = put ∙ ap (λ (from : ℕ). old ++ region_line_in l n first (record { from = from; to = kept.now })) is

pub target_is : (algorithm : Algorithm) (l : Layout) (t : ℕ × ℕ) (span : Span) (kept : Kept) (old new : List ℕ) → ◌≡◌ {A = Result Span AskFail} (Ok span) (Ok (span_of kept t.0))
    → new ≡ old ++ target_line_in algorithm l t span → new ≡ old ++ target_line algorithm l kept t
unfolding target_line
target_is algorithm l t span kept old new is put = let same : span ≡ span_of kept t.0 = cc in put ∙ ap (λ (s : Span). old ++ target_line_in algorithm l t s) same

pub granule_is : (l : Layout) (g : ℕ) (span : Span) (kept : Kept) (old new : List ℕ) → span ≡ span_of kept (tile_of l g)
    → new ≡ old ++ granule_line_in g span → new ≡ old ++ granule_line l kept g
unfolding granule_line
granule_is l g span kept old new is put = put ∙ ap (λ (s : Span). old ++ granule_line_in g s) is

-- ---- the least of many

least_more : (f : ℕ → ℕ) (first tile from span : ℕ) → first < tile → from ≡ least (map f (range_with_len first (tile - first))) → span ≡ f tile
    → min from span ≡ least (map f (range_with_len first (tile + 1 - first)))
least_more f first tile from span past is next = go (tile - first) refl
  where
    at : (m : ℕ) → tile - first ≡ suc m → min from span ≡ least (map f (range_with_len first (suc m + 1)))
    at m many =
        let one : first + 1 + m ≡ tile = omega (arith, many, past) in
        let more : suc m + 1 ≡ suc (m + 1) = omega arith in
        let before : from ≡ fold min (f first) (map f (range_with_len (first + 1) m)) = is ∙ ap (λ (n : ℕ). least (map f (range_with_len first n))) many in
        rw (more, map-range_with_len_more f (first + 1) m tile one, fold-append min (f first) (map f (range_with_len (first + 1) m)) (f tile ∷ []), before, next) refl

    go : (n : ℕ) → tile - first ≡ n → min from span ≡ least (map f (range_with_len first (tile + 1 - first)))
    go zero none = absurd (omega (arith, none, past))
    go (suc m) many = let same : tile + 1 - first ≡ suc m + 1 = omega (arith, many, past) in rw same (at m many)

pub least_told : (clean : List CleanMark) (now first tile from : ℕ) (span : Span) → first < tile → (batches : List Batch) (marks : List Mark) → LeastIs clean first tile from batches marks → WasTold clean now tile span batches marks
    → LeastIs clean first (tile + 1) (min from span.from) batches marks
least_told clean now first tile from span past batches marks is told stand =
    let same : span ≡ when_changed batches marks tile now = (let e = told stand in cc) in
    least_more (changed_from batches marks) first tile from span.from past (is stand) (ap (λ (s : Span). s.from) same)
