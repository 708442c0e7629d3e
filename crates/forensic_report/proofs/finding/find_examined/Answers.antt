use Rattle.std.proofs.Common.{◌≡◌, ◌≤◌, ◌-◌, ℕ, List, length, Option, Ok, arith, sym, ap, subst, ◌∙◌}
use Rattle.std.proofs.lemmas.List.FromFn.{length-range_with_len}
use Rattle.outside_words.specs.Told.{WhereTold}
use Rattle.history_model.specs.History.{history}
use Rattle.digest_model.specs.Layout.{Layout, layout, exponent, first_granule, max_granules, max_later, sealed_eras}
use Rattle.digest_model.proofs.Eras.{exponents_fit}
use Rattle.digest_model.proofs.Spelled.{has_spelling}
use Rattle.audit_model.specs.Ranges.{range_of}
use Rattle.policy_eras.proofs.Histories.{layout_is}
use Rattle.notary_link.specs.Notary.{Lists}
use Rattle.forensic_report.specs.Analysis.{Extent, Found, FitsFindings, asked_first, asked_by}
use Rattle.forensic_report.specs.Finding.{extent_of, IsFoundBy}
use Rattle.forensic_report.specs.Values.{findings_of, OrGivesUp}
use Rattle.forensic_report.proofs.Questions.{few_sealed}
use Rattle.forensic_report.proofs.finding.find_examined.Goals as goal

-- the tiles that lie so, in a history
abbrev lying : Option ℕ → ℕ → Layout → Extent
lying era n l = record { layout = l; tiles = n; era = era }

pub returns-clause-value : goal.returns-clause-value
returns-clause-value g c =
    let s = history c.args.header.now c.args.items.now in
    subst (λ (l : Layout). WhereTold (g.N.Notary.state c.args.notary.now).lists (g.N.Notary.state c.search.new.notary).lists (λ (before after : Lists).
    OrGivesUp (IsFoundBy c.args.asked.algorithm c.args.asked.era (before.batches c.args.header.now.id) c.args.asked.tiles s) (Ok (Found (lying c.args.asked.era c.args.asked.tiles l) (findings_of c.in_ok-findings.findings)))))
    (sym (layout_is s c.requires.eras)) c.in_ok-findings.ensures.searches.value

pub returns-clause-fits : goal.returns-clause-fits
returns-clause-fits g c =
    let s = history c.args.header.now c.args.items.now in
    let same = sym (layout_is s c.requires.eras) in
    let tiles = c.tiles_of-range.ensures.value s c.requires.eras in
    let count : c.tiles_of-range.result.end - c.tiles_of-range.result.start ≡ length (range_of c.args.asked.era (layout s) c.args.asked.tiles) =
    sym (length-range_with_len c.tiles_of-range.result.start (c.tiles_of-range.result.end - c.tiles_of-range.result.start)) ∙ ap (length {A = ℕ}) tiles in record {
      short = λ tile. subst (λ (l : Layout). exponent l tile ≤ 10) same (exponents_fit s tile (has_spelling s c.requires.history));
      within = subst (λ (l : Layout). first_granule l c.args.asked.tiles ≤ max_granules) same c.requires.within;
      few = subst (λ (l : Layout). length (sealed_eras l c.args.asked.tiles) ≤ max_later) same (few_sealed s c.args.asked.tiles);
      counted = subst (λ (l : Layout). c.tiles_of-range.result.end - c.tiles_of-range.result.start ≡ length (range_of c.args.asked.era l c.args.asked.tiles)) same count;
      each = subst (λ (l : Layout). FitsFindings (lying c.args.asked.era c.args.asked.tiles l) (findings_of c.in_ok-findings.findings)) same c.in_ok-findings.ensures.searches.fits;
    }

pub returns-clause-asked : goal.returns-clause-asked
returns-clause-asked g c =
    let few = c.in_ok-findings.ensures.searches.asked in
    let s = history c.args.header.now c.args.items.now in
    let n = c.args.asked.tiles in
    let first = ap (λ (l : Layout). asked_first l n) (layout_is s c.requires.eras) in
    let same = ap (λ (l : Layout). asked_by (lying c.args.asked.era n l) (findings_of c.in_ok-findings.findings)) (layout_is s c.requires.eras) in
    λ eras. omega (arith, few, first, same)
