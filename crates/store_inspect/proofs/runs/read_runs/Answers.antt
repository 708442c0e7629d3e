use Rattle.std.proofs.Common.{◌≡◌, ap, refl, ◌∙◌, arith}
use Rattle.std.specs.List.{flat_map, range_with_len}
use Rattle.history_model.specs.Stored.{items_of}
use Rattle.store_inspect.specs.Runs.{runs_in, run_of, tail_at}
use Rattle.store_inspect.proofs.Running.{flat_more, all_items}
use Rattle.store_inspect.proofs.runs.read_runs.Goals as goal

pub loop-run-preserved : goal.loop-run-preserved
loop-run-preserved c = record {
  items = flat_more (λ q. items_of (run_of c.args.format q c.args.bytes.now).0) c.loop-run.run c.loop-run.runs.items c.take_run.new.self.items _ c.loop-run.invariant.items refl c.in_ok-take_run.ensures.items;
  tails = flat_more (tail_at c.args.format c.args.bytes.now) c.loop-run.run c.loop-run.runs.tails.items c.take_run.new.self.tails.items _ c.loop-run.invariant.tails refl c.in_ok-take_run.ensures.tails;
}

pub returns : goal.returns
returns c =
    let bytes = c.args.bytes.now in
    let all : c.loop-run.run ≡ runs_in c.args.format bytes = omega (arith, c.runs_in-run-end.ensures.value) in
    record {
      items = c.loop-run.invariant.items ∙ ap (λ n. flat_map (λ q. items_of (run_of c.args.format q bytes).0) (range_with_len 0 n)) all ∙ all_items c.args.format bytes c.requires.format;
      tails = c.loop-run.invariant.tails ∙ ap (λ n. flat_map (tail_at c.args.format bytes) (range_with_len 0 n)) all;
    }
