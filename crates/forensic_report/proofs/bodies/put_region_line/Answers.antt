use Rattle.std.proofs.Common.{◌≡◌, ◌++◌, map, arith}
use Rattle.outside_words.proofs.Told.{told_map}
use Rattle.notary_link.specs.Notary.{Lists}
use Rattle.audit_model.specs.Spans.{changed_from}
use Rattle.digest_model.specs.Layout.{layout_by}
use Rattle.corruption_diagram.specs.CleanMarks.{StandFor}
use Rattle.forensic_report.specs.Texts.{kept_of, least, region_tiles, region_line}
use Rattle.forensic_report.proofs.Putting.{region_is}
use Rattle.forensic_report.proofs.Whole.{few_tiles}
use Rattle.forensic_report.proofs.bodies.put_region_line.Goals as goal

pub returns-clause-value : goal.returns-clause-value
returns-clause-value g c =
    let l = layout_by c.args.eras.now in
    told_map _ _
    (λ (before after : Lists). StandFor (before.marks c.args.request.id) c.args.clean.now → c.in_ok-from.from ≡ least (map (changed_from (before.batches c.args.request.id) (before.marks c.args.request.id)) (region_tiles c.args.first c.args.tiles)))
    (λ (before after : Lists). StandFor (before.marks c.args.request.id) c.args.clean.now → c.put_region.new.out.items ≡ c.args.out.now.items ++ region_line l c.args.tiles (kept_of before c.args.request.id c.args.request.now) c.args.first)
    c.in_ok-from.ensures.value
    (λ before after is stand. region_is l c.args.tiles c.args.first c.in_ok-from.from (kept_of before c.args.request.id c.args.request.now) c.args.out.now.items c.put_region.new.out.items (is stand) c.in_ok-put_region.ensures.ok)

pub least_from-requires-clause-small : goal.least_from-requires-clause-small
least_from-requires-clause-small g c = omega (arith, few_tiles (layout_by c.args.eras.now) c.args.tiles c.requires.within)
