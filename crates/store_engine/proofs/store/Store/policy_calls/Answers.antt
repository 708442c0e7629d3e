-- A policy's spelling has eleven bytes, and whether a store is closed does not count.
use Rattle.std.proofs.Common.{◌∙◌, ap, length, refl}
use Rattle.tuple_bytes.specs.Spelling.{spell_policy}
use Rattle.segment_file.specs.Append.{append_calls}
use Rattle.store_engine.specs.Opened.{Opened}
use Rattle.store_engine.proofs.store.Store.policy_calls.Goals as goal

pub returns : goal.returns
returns c = record {
  each = λ tile granule k algs. c.calls.ensures.each (spell_policy tile granule k algs) refl ∙ ap (λ (s : Opened). length (append_calls s.at (spell_policy tile granule k algs))) c.self.view_is;
}
