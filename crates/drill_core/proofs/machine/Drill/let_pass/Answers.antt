use Rattle.std.proofs.Common.{ℕ, List, Some, ap, ◌∙◌}
use Rattle.outside_words.specs.Listed.{listed_from}
use Rattle.outside_words.specs.Quiet.{none_listed}
use Rattle.notary_link.specs.Memory as notary_memory
use Rattle.disk_words.specs.Disk.{turn}
use Rattle.disk_model.specs.Memory as disk_memory
use Rattle.drill_core.proofs.DeviceFacts.{passes}
use Rattle.drill_core.proofs.machine.Drill.let_pass.Goals as goal

pub returns : goal.returns
returns c = record {
  value = passes c.args.self.now c.failing.new.self c.failing-2.new.self
      (c.failing.ensures.changes ∙ ap (λ (l : List ℕ). Some (listed_from (turn (disk_memory.state_of c.args.self.now.disk)) l)) c.new-2.ensures.items)
      (c.failing.ensures.sure ∙ ap none_listed c.new.ensures.items) c.failing.ensures.same.reads c.failing.ensures.faults
      (c.failing-2.ensures.changes ∙ ap (λ (l : List ℕ). Some (listed_from (notary_memory.turn_of c.args.self.now.notary) l)) c.new-4.ensures.items)
      (c.failing-2.ensures.sure ∙ ap none_listed c.new-3.ensures.items) c.failing-2.ensures.same;
}
