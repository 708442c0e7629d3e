use Rattle.std.proofs.Common.{◌≡◌, map, take, length}
use Rattle.digest_model.specs.Layout.{layout_by}
use Rattle.digest_model.specs.Layout.{tile_of}
use Rattle.forensic_report.specs.Texts.{bad_row}
use Rattle.forensic_report.proofs.bad.mark_granules.Given as goal

abbrev pub invariant-loop-granule : goal.invariant-loop-granule
invariant-loop-granule l = record {
  size : length l.bad ≡ length l.fn.bad;
  row : l.bad ≡ bad_row (map (tile_of (layout_by l.eras)) (take l.granule-index l.granules)) (length l.fn.bad);
}
