use Rattle.std.proofs.Common.{[], ◌∷◌, ◌++◌, ◌≡◌, Err, drop, rules}
use Rattle.disk_model.proofs.Runs.{run_stopped, run_then}
use Rattle.disk_words.proofs.Frame.{goes_on_then}
use Rattle.txn_journal.proofs.creation.make.Goals as goal

pub returns-clause-told : goal.returns-clause-told
returns-clause-told g c =
    let S = g.D.Disk.state in
    let two = run_then ((0, 0 ∷ []) ∷ []) ((1, drop 1 c.args.head.now ++ 0 ∷ []) ∷ []) _ (S c.args.disk.now) (S c.close_head.new.disk) (S c.fill_head.new.disk) c.in_ok-close_head.ensures.frame c.in_ok-close_head.ensures.told c.in_ok-fill_head.ensures.told in
    run_then ((0, 0 ∷ []) ∷ (1, drop 1 c.args.head.now ++ 0 ∷ []) ∷ []) ((0, 167 ∷ []) ∷ []) _ (S c.args.disk.now) (S c.fill_head.new.disk) (S c.open_head.new.disk) (goes_on_then _ _ _ c.in_ok-close_head.ensures.frame c.in_ok-fill_head.ensures.frame) two c.open_head.ensures.told

pub returns-in_err-close_head-clause-told : goal.returns-in_err-close_head-clause-told
returns-in_err-close_head-clause-told g c =
    let S = g.D.Disk.state in
    let same : c.from_residual.result ≡ Err c.in_err-close_head.field-0.0 = search rules in
    rw same (run_stopped ((0, 0 ∷ []) ∷ []) ((1, drop 1 c.args.head.now ++ 0 ∷ []) ∷ (0, 167 ∷ []) ∷ []) _ (S c.args.disk.now) (S c.close_head.new.disk) c.in_err-close_head.ensures.told)

pub returns-in_err-fill_head-clause-told : goal.returns-in_err-fill_head-clause-told
returns-in_err-fill_head-clause-told g c =
    let S = g.D.Disk.state in
    let same : c.from_residual-in_err-fill_head.result ≡ Err c.in_err-fill_head.field-0.0 = search rules in
    let two = run_then ((0, 0 ∷ []) ∷ []) ((1, drop 1 c.args.head.now ++ 0 ∷ []) ∷ []) _ (S c.args.disk.now) (S c.close_head.new.disk) (S c.fill_head.new.disk) c.in_ok-close_head.ensures.frame c.in_ok-close_head.ensures.told c.in_err-fill_head.ensures.told in
    rw same (run_stopped ((0, 0 ∷ []) ∷ (1, drop 1 c.args.head.now ++ 0 ∷ []) ∷ []) ((0, 167 ∷ []) ∷ []) _ (S c.args.disk.now) (S c.fill_head.new.disk) two)

pub returns-in_err-fill_head-clause-frame : goal.returns-in_err-fill_head-clause-frame
returns-in_err-fill_head-clause-frame g c = goes_on_then _ _ _ c.in_ok-close_head.ensures.frame c.in_err-fill_head.ensures.frame

pub returns-clause-frame : goal.returns-clause-frame
returns-clause-frame g c = goes_on_then _ _ _ (goes_on_then _ _ _ c.in_ok-close_head.ensures.frame c.in_ok-fill_head.ensures.frame) c.open_head.ensures.frame
