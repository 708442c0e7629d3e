-- The first line of bytes, by the place of their first feed.
use Rattle.std.proofs.Common.{◌≡◌, ◌<◌, ◌+◌, ◌-◌, ℕ, List, [], ◌∷◌, length, take, drop, sym, ap, ◌∙◌, arith}
use Rattle.std.proofs.lemmas.List.{take_all, length-drop}
use Rattle.memchr.specs.Find.{Nowhere, Passes, is_byte}
use Rattle.line_input.specs.Lines.{feed, lines_of}
use Rattle.line_input.proofs.Lines.{lines_first, lines_last, lines_none}
use Rattle.line_input.proofs.Cuts.{feedless_before, feedless_all, cut_at}

-- at a feed before which there is none
pub lines_cut : (text : List ℕ) (at : ℕ) → at < length text → Passes (is_byte feed) text at → Nowhere (Passes (is_byte feed) text) 0 at
    → lines_of text ≡ take at text ∷ lines_of (take (length text - (at + 1)) (drop (at + 1) text))
lines_cut text at l is none =
    let behind : take (length text - (at + 1)) (drop (at + 1) text) ≡ drop (at + 1) text = take_all (length text - (at + 1)) (drop (at + 1) text) (omega (arith, length-drop (at + 1) text)) in
    ap lines_of (cut_at text at l is) ∙ lines_first (take at text) (drop (at + 1) text) (feedless_before text at none)
    ∙ ap (λ (xs : List ℕ). take at text ∷ lines_of xs) (sym behind)

-- without one
pub lines_whole : (text : List ℕ) → 0 < length text → Nowhere (Passes (is_byte feed) text) 0 (length text) → lines_of text ≡ text ∷ lines_of []
lines_whole text some none = lines_last text (feedless_all text none) some ∙ ap (λ (xs : List (List ℕ)). text ∷ xs) (sym lines_none)
