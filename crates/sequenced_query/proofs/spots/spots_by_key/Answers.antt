use Rattle.std.proofs.Common.{◌<◌, List, map, length, sym, ap, ◌∙◌, Bor, arith}
use Rattle.std.proofs.lemmas.List.{get_or-map, length-map}
use Rattle.tt_table.specs.declared.version.Version.{Version}
use Rattle.sequenced_query.proofs.Spotted.{next_key, all_keys}
use Rattle.sequenced_query.proofs.spots.spots_by_key.Goals as goal

abbrev lent : Bor (List Version) → List Version
lent k = k.now

pub loop-key-preserved : goal.loop-key-preserved
loop-key-preserved c =
    let below : c.loop-key.key < length (map lent c.args.keys.now) = omega (arith, length-map c.args.keys.now lent, c.loop-key-test.true) in
    next_key c.args.span c.loop-key.spots.items c.add_key.new.spots.items c.in_ok-add_key.ensures.stays c.loop-key.key (map lent c.args.keys.now) c.as_slice.result.now below
    (c.as_slice.ensures.value ∙ ap lent c.index-keys-key.is ∙ sym (get_or-map lent c.args.keys.now c.loop-key.key c.index-keys-key.result c.as_slice.result.now c.loop-key-test.true))
    c.loop-key.invariant c.in_ok-add_key.ensures.added

pub returns : goal.returns
returns c = record {
  value = all_keys c.args.span c.loop-key.spots.items c.loop-key.key (map lent c.args.keys.now) (omega (arith, length-map c.args.keys.now lent, c.loop-key-test.false)) c.loop-key.invariant;
}
