use Rattle.std.proofs.Common.{◌≡◌, ◌++◌, List, arith}
use Rattle.notary_link.specs.declared.mark.Mark.{Mark}
use Rattle.notary_link.specs.Batches.{Batch}
use Rattle.digest_model.specs.Layout.{layout_by}
use Rattle.corruption_diagram.specs.CleanMarks.{StandFor}
use Rattle.corruption_diagram.proofs.Reading.{told_both}
use Rattle.forensic_report.specs.Analysis.{Found, bad_tiles}
use Rattle.forensic_report.specs.Values.{findings_of, extent_by}
use Rattle.forensic_report.specs.Texts.{findings_text, first_line, diagram_text, body_text}
use Rattle.forensic_report.proofs.Calls.{after_two, after_three, after_four}
use Rattle.forensic_report.proofs.Putting.{kept_at}
use Rattle.forensic_report.proofs.Whole.{first_within, few_tiles, altered_is}
use Rattle.forensic_report.proofs.text.put_altered.Goals as goal

pub put_first_change-requires : goal.put_first_change-requires
put_first_change-requires g c = record {
  small = omega (arith, first_within (extent_by c.args.examined.now) c.args.tile (findings_of c.args.examined.now.findings) c.requires.fits.each c.requires.first, few_tiles (layout_by c.args.examined.now.eras) c.args.examined.now.tiles c.requires.fits.within);
}

pub returns-clause-value : goal.returns-clause-value
returns-clause-value g c =
    let S = g.N.Notary.state in
    let extent = extent_by c.args.examined.now in
    let n = c.args.examined.now.tiles in
    let tile = c.args.tile in
    let findings = findings_of c.args.examined.now.findings in
    let old = c.args.out.now.items in
    let one = c.put_findings.new.out.items in
    let next = c.put_first_change.new.out.items in
    let new = c.put_diagram.new.out.items in
    let read = c.in_ok-clean.ensures in
    let found = c.in_ok-put_findings.ensures in
    let first = c.in_ok-put_first_change.ensures in
    let drawn = c.in_ok-put_diagram.ensures in
    let two = after_two (S c.args.notary.now) (S c.read.new.notary) (S c.put_findings.new.notary) read.same read.frame found.same found.frame in
    let three = after_three (S c.args.notary.now) (S c.read.new.notary) (S c.put_findings.new.notary) (S c.put_first_change.new.notary) read.same read.frame found.same found.frame first.same first.frame in
    told_both c.args.request.id
    (λ (batches : List Batch) (marks : List Mark). (one ≡ old ++ findings_text c.args.request.algorithm extent (kept_at c.args.request.now batches marks) findings) × (next ≡ one ++ first_line (kept_at c.args.request.now batches marks) tile))
    (λ (batches : List Batch) (marks : List Mark). new ≡ next ++ diagram_text (kept_at c.args.request.now batches marks) n (bad_tiles extent findings))
    (λ (batches : List Batch) (marks : List Mark). new ≡ old ++ body_text c.args.request.algorithm (kept_at c.args.request.now batches marks) (Found extent findings)) _ _ _
    drawn.frame.told.untold three.same.lists
    (told_both c.args.request.id
    (λ (batches : List Batch) (marks : List Mark). one ≡ old ++ findings_text c.args.request.algorithm extent (kept_at c.args.request.now batches marks) findings)
    (λ (batches : List Batch) (marks : List Mark). next ≡ one ++ first_line (kept_at c.args.request.now batches marks) tile)
    (λ (batches : List Batch) (marks : List Mark). (one ≡ old ++ findings_text c.args.request.algorithm extent (kept_at c.args.request.now batches marks) findings) × (next ≡ one ++ first_line (kept_at c.args.request.now batches marks) tile)) _ _ _
    first.frame.told.untold two.same.lists
    (told_both c.args.request.id
    (λ (batches : List Batch) (marks : List Mark). StandFor marks c.in_ok-clean.clean)
    (λ (batches : List Batch) (marks : List Mark). StandFor marks c.in_ok-clean.clean → one ≡ old ++ findings_text c.args.request.algorithm extent (kept_at c.args.request.now batches marks) findings)
    (λ (batches : List Batch) (marks : List Mark). one ≡ old ++ findings_text c.args.request.algorithm extent (kept_at c.args.request.now batches marks) findings) _ _ _
    found.frame.told.untold read.same.lists read.value found.value (λ batches marks stand text. text stand))
    first.value (λ batches marks text line. (text, line)))
    drawn.value
    (λ batches marks texts text. altered_is c.args.request.algorithm extent tile (kept_at c.args.request.now batches marks) findings old one next new c.requires.first texts.0 texts.1 text)

pub returns-clause-same : goal.returns-clause-same
returns-clause-same g c =
    let S = g.N.Notary.state in
    let read = c.in_ok-clean.ensures in
    let found = c.in_ok-put_findings.ensures in
    let first = c.in_ok-put_first_change.ensures in
    let drawn = c.in_ok-put_diagram.ensures in
    (after_four (S c.args.notary.now) (S c.read.new.notary) (S c.put_findings.new.notary) (S c.put_first_change.new.notary) (S c.put_diagram.new.notary)
    read.same read.frame found.same found.frame first.same first.frame drawn.same drawn.frame).same

pub returns-clause-frame : goal.returns-clause-frame
returns-clause-frame g c =
    let S = g.N.Notary.state in
    let read = c.in_ok-clean.ensures in
    let found = c.in_ok-put_findings.ensures in
    let first = c.in_ok-put_first_change.ensures in
    let drawn = c.in_ok-put_diagram.ensures in
    (after_four (S c.args.notary.now) (S c.read.new.notary) (S c.put_findings.new.notary) (S c.put_first_change.new.notary) (S c.put_diagram.new.notary)
    read.same read.frame found.same found.frame first.same first.frame drawn.same drawn.frame).frame

pub returns-in_err-put_diagram-clause-same : goal.returns-in_err-put_diagram-clause-same
returns-in_err-put_diagram-clause-same g c =
    let S = g.N.Notary.state in
    let read = c.in_ok-clean.ensures in
    let found = c.in_ok-put_findings.ensures in
    let first = c.in_ok-put_first_change.ensures in
    let drawn = c.in_err-put_diagram.ensures in
    (after_four (S c.args.notary.now) (S c.read.new.notary) (S c.put_findings.new.notary) (S c.put_first_change.new.notary) (S c.put_diagram.new.notary)
    read.same read.frame found.same found.frame first.same first.frame drawn.same drawn.frame).same

pub returns-in_err-put_diagram-clause-frame : goal.returns-in_err-put_diagram-clause-frame
returns-in_err-put_diagram-clause-frame g c =
    let S = g.N.Notary.state in
    let read = c.in_ok-clean.ensures in
    let found = c.in_ok-put_findings.ensures in
    let first = c.in_ok-put_first_change.ensures in
    let drawn = c.in_err-put_diagram.ensures in
    (after_four (S c.args.notary.now) (S c.read.new.notary) (S c.put_findings.new.notary) (S c.put_first_change.new.notary) (S c.put_diagram.new.notary)
    read.same read.frame found.same found.frame first.same first.frame drawn.same drawn.frame).frame
