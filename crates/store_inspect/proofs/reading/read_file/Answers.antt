use Rattle.std.proofs.Common.{◌≡◌, length, min, take, ap, ◌∙◌, arith}
use Rattle.std.proofs.lemmas.List.{take_at}
use Rattle.history_model.specs.Stored.{max_file}
use Rattle.store_inspect.proofs.Counting.{read_is}
use Rattle.store_inspect.proofs.reading.read_file.Goals as goal

pub returns-clause-value : goal.returns-clause-value
returns-clause-value g c =
    let into = c.read_at.new.into in
    let whole : length into ≡ c.in_ok-front.front.len = c.read_at.auto.into ∙ c.deref_mut.ensures.len in
    let long : length into ≡ min c.in_ok-size.size max_file = omega (arith, whole, c.in_ok-front.ensures.len, c.min.ensures) in
    let front : c.truncate.new.self.items ≡ take c.in_ok-count.count into = c.truncate.ensures.items ∙ ap (take c.in_ok-count.count) (take_at into _ c.in_ok-front.front.len whole) in
    read_is _ _ _ c.in_ok-count.count into c.in_ok-size.ensures.same.reads c.in_ok-size.ensures.value c.in_ok-count.ensures.value long front
