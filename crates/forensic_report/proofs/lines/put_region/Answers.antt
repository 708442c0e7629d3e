use Rattle.std.proofs.Common.{◌≡◌, ℕ, [], ◌∷◌, ◌-◌, codes, ap, ◌∙◌, arith}
use Rattle.digest_model.specs.Layout.{first_granule, end_granule}
use Rattle.digest_model.specs.Layout.{layout_by}
use Rattle.byte_grammar.specs.Numbered.{numbered}
use Rattle.forensic_report.specs.Texts.{when_text}
use Rattle.forensic_report.proofs.Joined.{six}
use Rattle.forensic_report.proofs.Shifted.{last_ends, some_before}
use Rattle.forensic_report.proofs.lines.put_region.Goals as goal

pub returns : goal.returns
returns c =
    let l = layout_by c.args.eras.now in
    let first = rw c.from.ensures at c.in_ok-put_numbered.ensures.ok in
    let last = rw c.from-2.ensures at c.in_ok-put_numbered-2.ensures.ok in
    let from = rw c.first.ensures.value at c.in_ok-put_numbered-3.ensures.ok in
    let ends : c.first-2.result - 1 ≡ end_granule l (c.args.tiles - 1) - 1 = ap (λ (n : ℕ). n - 1) (c.first-2.ensures.value ∙ last_ends l c.args.tiles (omega (arith, c.requires.some))) in
    let to = rw ends at c.in_ok-put_numbered-4.ensures.ok in record {
      ok = six c.args.out.now.items (numbered (codes "tiles ") c.args.first) (numbered (codes " to ") (c.args.tiles - 1)) (numbered (codes " granules ") (first_granule l c.args.first)) (numbered (codes " to ") (end_granule l (c.args.tiles - 1) - 1)) (when_text c.args.span) (10 ∷ [])
          c.put_numbered.new.out.items c.put_numbered-2.new.out.items c.put_numbered-3.new.out.items c.put_numbered-4.new.out.items c.put_when.new.out.items c.push.new.self.items
          first last from to c.in_ok-put_when.ensures.ok c.in_ok-push.ensures.items;
    }

pub overflow_sub-first : goal.overflow_sub-first
overflow_sub-first c = omega (arith, c.first-2.ensures.value, some_before (layout_by c.args.eras.now) c.args.tiles (omega (arith, c.requires.some)))
