use Rattle.std.proofs.Common.{ℕ, List, Option, Some, sym, subst, ap, ◌∙◌}
use Rattle.outside_words.specs.Listed.{listed_from}
use Rattle.outside_words.specs.Quiet.{none_listed}
use Rattle.notary_link.specs.Memory as notary_memory
use Rattle.timeline_model.specs.Scene.{Crash}
use Rattle.drill_core.specs.Drills.{crash_of}
use Rattle.drill_core.specs.Devices.{IsRestartedBy}
use Rattle.drill_core.proofs.Ready.{on_ok}
use Rattle.drill_core.proofs.DeviceFacts.{restarts}
use Rattle.drill_core.proofs.machine.Drill.restart.Goals as goal

pub returns-clause-value : goal.returns-clause-value
returns-clause-value c =
    let d = c.args.self.now in
    on_ok c.say.result _ (subst (λ (o : Option Crash). IsRestartedBy o d (record { alloc = d.alloc; id = d.id; world = d.world; disk = c.crash.new.self; notary = c.failing.new.self; clock = d.clock; crash = d.crash })) (sym (ap crash_of c.in-Some.is))
    (restarts c.in-Some.crash.choice d c.crash.new.self c.failing.new.self c.in_ok-crash.ensures.ok
    (c.failing.ensures.changes ∙ ap (λ (l : List ℕ). Some (listed_from (notary_memory.turn_of d.notary) l)) c.new-2.ensures.items)
    (c.failing.ensures.sure ∙ ap none_listed c.new.ensures.items) c.failing.ensures.same))
