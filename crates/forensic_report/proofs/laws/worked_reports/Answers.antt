use Rattle.std.proofs.Common.{refl, arith}
use Rattle.std.proofs.lemmas.Fmt.{decimal_digit, decimal-digits_of}
use Rattle.digest_model.specs.Layout.{exponent, first_granule, tile_of, tile_up, era_in, turns, sealed_eras, era_of}
use Rattle.audit_model.specs.Ranges.{range_of}
use Rattle.digest_model.specs.Roots.{down_from}
use Rattle.audit_model.specs.Tiled.{candidates_of, exactly_of}
use Rattle.corruption_diagram.specs.Diagram.{placed, diagram}
use Rattle.forensic_report.specs.Texts.{head_line, region_line, target_line, granule_line, first_line, diagram_text, report_text}
use Rattle.forensic_report.proofs.laws.worked_reports.Goals as goal

pub returns : goal.returns
unfolding exponent first_granule tile_of tile_up era_in turns sealed_eras era_of range_of down_from candidates_of exactly_of placed diagram head_line region_line target_line granule_line first_line diagram_text report_text
returns c = record {
  unsealed = rw (decimal_digit 7 (omega arith), decimal_digit 0 (omega arith)) refl;
  unsealed_era = rw (decimal_digit 7 (omega arith), decimal_digit 2 (omega arith), decimal_digit 0 (omega arith)) refl;
  clean = rw (decimal_digit 7 (omega arith), decimal_digit 1 (omega arith)) refl;
  other_header = rw (decimal_digit 7 (omega arith), decimal_digit 3 (omega arith), decimal_digit 2 (omega arith)) refl;
  tiled = rw (decimal_digit 7 (omega arith), decimal_digit 1 (omega arith), decimal_digit 0 (omega arith), decimal_digit 5 (omega arith), decimal-digits_of 480 (omega arith) (omega arith), decimal-digits_of 500 (omega arith) (omega arith)) refl;
  exactly_one = rw (decimal_digit 7 (omega arith), decimal_digit 1 (omega arith), decimal_digit 0 (omega arith), decimal-digits_of 480 (omega arith) (omega arith), decimal-digits_of 500 (omega arith) (omega arith)) refl;
  exactly_two = rw (decimal_digit 7 (omega arith), decimal_digit 1 (omega arith), decimal_digit 0 (omega arith), decimal-digits_of 480 (omega arith) (omega arith), decimal-digits_of 500 (omega arith) (omega arith)) refl;
  tree = rw (decimal_digit 7 (omega arith), decimal_digit 3 (omega arith), decimal_digit 5 (omega arith), decimal_digit 9 (omega arith), decimal-digits_of 12 (omega arith) (omega arith), decimal_digit 1 (omega arith), decimal-digits_of 720 (omega arith) (omega arith), decimal-digits_of 800 (omega arith) (omega arith)) refl;
  region = rw (decimal_digit 7 (omega arith), decimal_digit 8 (omega arith), decimal_digit 5 (omega arith), decimal-digits_of 480 (omega arith) (omega arith), decimal-digits_of 510 (omega arith) (omega arith), decimal-digits_of 500 (omega arith) (omega arith)) refl;
  one_granule = rw (decimal_digit 7 (omega arith), decimal_digit 2 (omega arith), decimal_digit 1 (omega arith), decimal-digits_of 130 (omega arith) (omega arith), decimal-digits_of 140 (omega arith) (omega arith), decimal-digits_of 120 (omega arith) (omega arith), decimal-digits_of 125 (omega arith) (omega arith)) refl;
  of_an_era = rw (decimal_digit 7 (omega arith), decimal_digit 1 (omega arith), decimal_digit 2 (omega arith), decimal_digit 5 (omega arith), decimal-digits_of 480 (omega arith) (omega arith), decimal-digits_of 500 (omega arith) (omega arith), decimal-digits_of 240 (omega arith) (omega arith)) refl;
  of_no_tile = rw (decimal_digit 7 (omega arith), decimal_digit 1 (omega arith), decimal_digit 0 (omega arith)) refl;
  left_out = rw (decimal_digit 7 (omega arith), decimal-digits_of 65 (omega arith) (omega arith), decimal-digits_of 64 (omega arith) (omega arith), decimal_digit 9 (omega arith), decimal-digits_of 10 (omega arith) (omega arith), decimal_digit 3 (omega arith)) refl;
}
