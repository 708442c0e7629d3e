use Rattle.std.proofs.Common.{ℕ, ◌+◌, ap, subst, ◌∙◌, arith, add-one}
use Rattle.digest_model.specs.Layout.{era_at}
use Rattle.inspect_call.specs.Known.{NotesEra}
use Rattle.inspect_call.proofs.Eras.{era_more}
use Rattle.inspect_call.proofs.both.unsealed_eras.Goals as goal

pub loop-n-preserved : goal.loop-n-preserved
loop-n-preserved c =
    let p = c.args.eras.now in
    let n = c.loop-n.n in
    era_more c.args.sealed p.later n c.at-era.result c.loop-n.found.items c.note_era.new.found.items (omega (arith, c.loop-n-test.true, c.count-later.ensures.value)) (c.at-era.ensures.value ∙ ap (era_at p) (add-one n)) (subst (λ (m : ℕ). NotesEra c.at-era.result (m + 1) c.args.sealed c.loop-n.found.items c.note_era.new.found.items) c.from.ensures c.in_ok-note_era.ensures.value) c.loop-n.invariant
