-- A frontier's spelling has nine bytes, and whether a store is closed does not count.
use Rattle.std.proofs.Common.{◌∙◌, ap, length, refl}
use Rattle.tuple_bytes.specs.Spelling.{spell_frontier}
use Rattle.segment_file.specs.Append.{append_calls}
use Rattle.store_engine.specs.Opened.{Opened}
use Rattle.store_engine.proofs.store.Store.frontier_calls.Goals as goal

pub returns : goal.returns
returns c = record {
  each = λ moment. c.calls.ensures.each (spell_frontier moment) refl ∙ ap (λ (s : Opened). length (append_calls s.at (spell_frontier moment))) c.self.view_is;
}
