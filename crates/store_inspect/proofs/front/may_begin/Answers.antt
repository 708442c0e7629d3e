use Rattle.std.proofs.Common.{◌∙◌}
use Rattle.store_inspect.proofs.Counting.{made}
use Rattle.store_inspect.proofs.front.may_begin.Goals as goal

pub returns : goal.returns
returns c = record {
  value = c.is_some.ensures ∙ made c.args.front.now c.copy_from_slice.new.self c.copy_from_slice-2.new.self c.front_of.result (c.copy_from_slice.ensures.after ∙ c.encode_header.ensures.value) c.copy_from_slice-2.ensures.after c.front_of.ensures.header;
}
