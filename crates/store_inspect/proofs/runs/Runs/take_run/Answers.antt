use Rattle.std.proofs.Common.{◌++◌, Result, Ok, Err, OnOk, refl, ap, ◌∙◌}
use Rattle.std.proofs.lemmas.Result.{on_ok_weaker}
use Rattle.history_model.specs.Stored.{items_of}
use Rattle.store_inspect.proofs.Running.{run_is, run_tail}
use Rattle.store_inspect.proofs.runs.Runs.take_run.Goals as goal

whatever : {T E : Type 0} {P : Type 0} (r : Result T E) → P → OnOk r P
whatever (Ok x) p = p
whatever (Err e) p = tt

pub returns-clause-items : goal.returns-clause-items
returns-clause-items c =
    let own = c.up_to_end-own.result.now in
    let bytes = c.args.bytes.now in
    whatever c.note_tail.result (c.in_ok-gate.ensures.value.items_are
    ∙ ap (λ found. c.args.self.now.items ++ items_of found.0) (run_is c.args.format c.args.run c.run_start.result own bytes c.up_to_end-own.ensures.value c.run_start.ensures.value c.requires.short c.requires.has))

pub returns-clause-tails : goal.returns-clause-tails
returns-clause-tails c =
    let own = c.up_to_end-own.result.now in
    let bytes = c.args.bytes.now in
    on_ok_weaker c.note_tail.result (λ more. more
    ∙ ap (λ l. c.args.self.now.tails.items ++ l)
    (run_tail c.args.format c.args.run c.run_start.result c.in_ok-gate.gate own bytes _ c.ending-ending.result c.up_to_end-own.ensures.value c.run_start.ensures.value c.requires.short c.requires.has
    c.in_ok-gate.ensures.within c.in_ok-gate.ensures.value.gate_is c.ending-ending.ensures.value refl)) c.note_tail.ensures.value
