use Rattle.std.proofs.Common.{◌≡◌, [], ◌∷◌, ◌++◌, ◌+◌, List, ℕ, map, codes, ap, ◌∙◌}
use Rattle.digest_model.specs.Layout.{exponent, first_granule}
use Rattle.digest_model.specs.Layout.{layout_by}
use Rattle.byte_grammar.specs.Numbered.{numbered}
use Rattle.forensic_report.specs.Texts.{bits_text, list_text, candidates_by, granules_by, when_text}
use Rattle.forensic_report.proofs.Joined.{seven}
use Rattle.forensic_report.proofs.lines.put_target.Goals as goal

pub returns : goal.returns
returns c =
    let l = layout_by c.args.eras.now in
    let tile = c.args.tile in
    let before = c.extend_from_slice-2.new.self.items in
    let put : c.put_candidates.new.out.items ≡ c.extend_from_slice-2.new.self.items ++ list_text (granules_by c.args.algorithm (layout_by c.args.eras.now) c.args.tile c.args.target) =
    c.in_ok-put_candidates.ensures.ok
    ∙ ap (λ (n : ℕ). before ++ list_text (map (λ (number : ℕ). n + number) c.candidates_by.result)) c.first.ensures.value
    ∙ ap (λ (numbers : List ℕ). before ++ list_text (map (λ (number : ℕ). first_granule l tile + number) numbers)) (c.candidates_by.ensures.value ∙ ap (candidates_by c.args.algorithm c.args.target) c.exponent-bits.ensures.value) in
    let bits = rw c.exponent-bits.ensures.value at c.in_ok-put_bits.ensures.ok in
    let number = rw c.from.ensures at c.in_ok-put_numbered.ensures.ok in record {
      ok = seven c.args.out.now.items (numbered (codes "tile ") tile) (codes " target ") (bits_text (exponent l tile) c.args.target) (codes " candidates") (list_text (granules_by c.args.algorithm (layout_by c.args.eras.now) tile c.args.target)) (when_text c.args.span) (10 ∷ [])
          c.put_numbered.new.out.items c.extend_from_slice.new.self.items c.put_bits.new.out.items before c.put_candidates.new.out.items c.put_when.new.out.items c.push.new.self.items
          number c.in_ok-extend_from_slice.ensures.items bits c.in_ok-extend_from_slice-2.ensures.items put c.in_ok-put_when.ensures.ok c.in_ok-push.ensures.items;
    }
