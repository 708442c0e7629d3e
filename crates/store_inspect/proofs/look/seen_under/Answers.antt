use Rattle.std.proofs.Common.{◌≡◌, ◌++◌, [], length, refl, ap, ◌∙◌}
use Rattle.std.proofs.lemmas.List.{length-map}
use Rattle.tuple_bytes.specs.Spelling.{spell_item}
use Rattle.history_model.specs.Stored.{items_of, found_behind}
use Rattle.file_findings.specs.declared.finding.Finding.TheVariants.{OtherId, FirstFormat}
use Rattle.file_findings.specs.Along.{listed}
use Rattle.store_inspect.specs.Runs.{tails_of, past_limit}
use Rattle.store_inspect.proofs.Seeing.{all_found, under_seen}
use Rattle.store_inspect.proofs.look.seen_under.Goals as goal

pub returns : goal.returns
returns c =
    let id = c.args.id in
    let second = c.args.second in
    let front = c.args.front in
    let file = c.args.file.now in
    let its = c.in_ok-runs.runs.items in
    let walk = c.in_ok-walk.walk in
    let knows = c.in_ok-walk.ensures.value in
    let other = OtherId front.header.id in
    let f1 = c.note.new.found.items in
    let count : length c.as_slice.result.now ≡ length its = ap length c.as_slice.ensures.value ∙ length-map its spell_item in
    let e1 = c.in_ok-note.ensures.value ∙ ap (λ l. l ++ listed c.is_other.result other) c.new-findings.ensures.items ∙ ap (λ b. [] ++ listed b other) c.is_other.ensures.value in
    let e2 = c.in_ok-note-2.ensures.value ∙ ap (λ b. f1 ++ listed b FirstFormat) c.is_first.ensures.value in
    let tails = c.deref-2.ensures.value ∙ c.in_ok-note_past.ensures.value ∙ ap (λ l. l ++ past_limit file.size) (c.in_ok-runs.ensures.tails ∙ ap (tails_of front.format) c.deref.ensures.value) in
    let odd = c.deref-3.ensures.value ∙ c.in_ok-findings.ensures.value front.header its knows in
    let found = all_found id second front file its c.deref-2.result.now f1 c.note-2.new.found.items c.note_all.new.found.items c.note_all-2.new.found.items c.note_ahead.new.found.items c.deref-3.result.now walk.moments.greatest
    e1 e2 c.in_ok-note_all.ensures.value tails c.in_ok-note_all-2.ensures.value odd c.in_ok-note_ahead.ensures.value knows.moments.greatest in
    record {
      value = under_seen id second front file its _ c.known_of.result c.requires.front (c.in_ok-runs.ensures.items ∙ ap (λ l. items_of (found_behind l).0) c.deref.ensures.value) found refl
          (c.known_of.ensures.value its knows count);
    }
