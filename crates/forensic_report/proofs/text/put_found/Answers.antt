use Rattle.std.proofs.Common.{◌≡◌, ◌++◌, [], List, ℕ, None, Some, refl, sym, ap, ◌∙◌}
use Rattle.outside_words.proofs.Told.{told_same, told_map}
use Rattle.notary_link.specs.Notary.{Lists}
use Rattle.notary_link.proofs.Frame.{goes_on_same}
use Rattle.std.specs.List.{slice_get}
use Rattle.std.proofs.lemmas.List.{append-nil}
use Rattle.forensic_report.specs.Analysis.{Found, bad_tiles}
use Rattle.forensic_report.specs.Values.{findings_of, extent_by}
use Rattle.forensic_report.specs.Texts.{kept_of, body_text, report_text}
use Rattle.forensic_report.proofs.Whole.{head_altered, head_clean, nothing_behind, report_is}
use Rattle.forensic_report.proofs.text.put_found.Goals as goal

pub returns-in_err-put_head-in-None-clause-frame : goal.returns-in_err-put_head-in-None-clause-frame
returns-in_err-put_head-in-None-clause-frame g c = goes_on_same (g.N.Notary.state c.args.notary.now)

pub returns-in_err-put_head-in-Some-clause-frame : goal.returns-in_err-put_head-in-Some-clause-frame
returns-in_err-put_head-in-Some-clause-frame g c = goes_on_same (g.N.Notary.state c.args.notary.now)

pub returns-in_ok-put_head-in-None-clause-frame : goal.returns-in_ok-put_head-in-None-clause-frame
returns-in_ok-put_head-in-None-clause-frame g c = goes_on_same (g.N.Notary.state c.args.notary.now)

pub returns-in_ok-put_head-in-None-clause-value : goal.returns-in_ok-put_head-in-None-clause-value
returns-in_ok-put_head-in-None-clause-value g c =
    let s = g.N.Notary.state c.args.notary.now in
    let extent = extent_by c.args.examined.now in
    let findings = findings_of c.args.examined.now.findings in
    let out = c.args.out.now.items in
    let new = c.put_head.new.out.items in
    let none : slice_get (bad_tiles (extent_by c.args.examined.now) (findings_of c.args.examined.now.findings)) 0 ≡ None = sym c.in-None.ensures.value in
    let put = c.in_ok-put_head-in-None.ensures.ok ∙ ap (λ (line : List ℕ). out ++ line) (head_clean c.args.request.algorithm c.args.request.id c.args.examined.now.count extent findings c.requires.fits.counted none) in
    told_same s.lists s.lists (λ before after. new ≡ out ++ report_text c.args.request.algorithm c.args.request.id (kept_of before c.args.request.id c.args.request.now) (Found extent findings)) refl
    (λ lists. report_is c.args.request.algorithm c.args.request.id extent (kept_of lists c.args.request.id c.args.request.now) findings out new new put
    (sym (ap (λ (rest : List ℕ). new ++ rest) (nothing_behind c.args.request.algorithm extent (kept_of lists c.args.request.id c.args.request.now) findings none) ∙ append-nil new)))

pub returns-in_ok-put_head-in-None-clause-begins : goal.returns-in_ok-put_head-in-None-clause-begins
returns-in_ok-put_head-in-None-clause-begins g c =
    let extent = extent_by c.args.examined.now in
    let none : slice_get (bad_tiles (extent_by c.args.examined.now) (findings_of c.args.examined.now.findings)) 0 ≡ None = sym c.in-None.ensures.value in
    record { rest = []; is = c.in_ok-put_head-in-None.ensures.ok ∙ ap (λ (line : List ℕ). c.args.out.now.items ++ line) (head_clean c.args.request.algorithm c.args.request.id c.args.examined.now.count extent (findings_of c.args.examined.now.findings) c.requires.fits.counted none) ∙ sym (append-nil _) }

pub returns-in_ok-put_altered-in-Some-clause-value : goal.returns-in_ok-put_altered-in-Some-clause-value
returns-in_ok-put_altered-in-Some-clause-value g c =
    let extent = extent_by c.args.examined.now in
    let findings = findings_of c.args.examined.now.findings in
    let out = c.args.out.now.items in
    let head = c.put_head-in-Some.new.out.items in
    let new = c.put_altered.new.out.items in
    let some : slice_get (bad_tiles (extent_by c.args.examined.now) (findings_of c.args.examined.now.findings)) 0 ≡ Some c.in-Some.tile = sym c.in-Some.ensures.value in
    let put = c.in_ok-put_head-in-Some.ensures.ok ∙ ap (λ (line : List ℕ). out ++ line) (head_altered c.args.request.algorithm c.args.request.id c.args.examined.now.count c.in-Some.tile extent findings c.requires.fits.counted some) in
    told_map _ _
    (λ (before after : Lists). new ≡ head ++ body_text c.args.request.algorithm (kept_of before c.args.request.id c.args.request.now) (Found extent findings))
    (λ (before after : Lists). new ≡ out ++ report_text c.args.request.algorithm c.args.request.id (kept_of before c.args.request.id c.args.request.now) (Found extent findings))
    c.in_ok-put_altered-in-Some.ensures.value
    (λ before after text. report_is c.args.request.algorithm c.args.request.id extent (kept_of before c.args.request.id c.args.request.now) findings out head new put text)

pub returns-in_ok-put_altered-in-Some-clause-begins :
    goal.returns-in_ok-put_altered-in-Some-clause-begins
returns-in_ok-put_altered-in-Some-clause-begins g c =
    let extent = extent_by c.args.examined.now in
    let findings = findings_of c.args.examined.now.findings in
    let out = c.args.out.now.items in
    let more = c.in_ok-put_altered-in-Some.ensures.more in
    let some : slice_get (bad_tiles (extent_by c.args.examined.now) (findings_of c.args.examined.now.findings)) 0 ≡ Some c.in-Some.tile = sym c.in-Some.ensures.value in
    let put = c.in_ok-put_head-in-Some.ensures.ok ∙ ap (λ (line : List ℕ). out ++ line) (head_altered c.args.request.algorithm c.args.request.id c.args.examined.now.count c.in-Some.tile extent findings c.requires.fits.counted some) in
    record { rest = more.rest; is = more.is ∙ ap (λ (t : List ℕ). t ++ more.rest) put }
