-- The runs of records of a store file, one in the first format and in the second one a segment, and what stands after the gate of each.
use Rattle.std.specs.Prelude.{ℕ, suc, ◌+◌, ◌-◌, ◌/◌, ◌==◌, nat_lt, Bool, false, not, ◌&&◌, List, ◌++◌, length, take, drop, slice_index}
use Rattle.std.specs.List.{flat_map, range_with_len}
use Rattle.byte_grammar.specs.Gated.{open_gate, records, end_behind}
use Rattle.tuple_bytes.specs.Limits.{max_payload}
use Rattle.history_model.specs.declared.format.Format.{Format}
use Rattle.history_model.specs.declared.format.Format.TheVariants.{One, Two}
use Rattle.history_model.specs.Stored.{store_shape, max_file, header_length}
use Rattle.history_model.specs.Segments.{segment_end, last_segment, found_in}
use Rattle.history_model.specs.Placing.{next_start}
use Rattle.file_findings.specs.declared.finding.Finding.{Finding}
use Rattle.file_findings.specs.declared.finding.Finding.TheVariants.{Trailing}
use Rattle.file_findings.specs.declared.tail.Ending.{Ending}
use Rattle.file_findings.specs.Along.{listed}
use Rattle.file_findings.specs.Tail.{tail_of}

-- how many runs there are
abbrev pub runs_in : Format → List ℕ → ℕ
runs_in One bytes = 1
runs_in Two bytes = suc (last_segment bytes)

-- the place that no byte of a run reaches
abbrev pub limit_of : Format → ℕ → ℕ
limit_of One q = max_file
limit_of Two q = segment_end q

-- the payloads of a run, and the place of the gate that ends it
abbrev pub run_of : Format → ℕ → List ℕ → List (List ℕ) × ℕ
run_of One q bytes = records store_shape header_length 0 (drop header_length bytes)
run_of Two q bytes = found_in store_shape q bytes

-- the bytes after a gate, up to a place
abbrev pub after_gate : ℕ → ℕ → List ℕ → List ℕ
after_gate gate limit bytes = take (limit - (gate + 1)) (drop (gate + 1) bytes)

-- the last place that a cut-off append or group writes after a gate
abbrev pub reach_of : Format → ℕ → ℕ
reach_of One gate = end_behind gate max_payload
reach_of Two gate = next_start gate

-- an append has begun a segment: a crash may leave any byte there, with none after it
abbrev pub is_begun : Format → ℕ → ℕ → Bool
is_begun One gate bytes = false
is_begun Two gate bytes = (next_start (gate - 1) == gate) && (bytes == 0)

-- a run whose gate, of this byte, has so many bytes after it
abbrev pub ending_of : Format → ℕ → ℕ → ℕ → ℕ → Ending
ending_of format q gate byte bytes = record { segment = q; gate = gate; reach = reach_of format gate; is_open = (byte == open_gate) && not (is_begun format gate bytes) }

-- what stands after the gate of a run
abbrev pub tail_from : Format → List ℕ → ℕ → ℕ → List Finding
tail_from format bytes q gate =
    let after = after_gate gate (limit_of format q) bytes in
    tail_of store_shape (ending_of format q gate (slice_index bytes gate) (length after)) after

abbrev pub tail_at : Format → List ℕ → ℕ → List Finding
tail_at format bytes q = tail_from format bytes q (run_of format q bytes).1

-- that of all runs
abbrev pub tails_of : Format → List ℕ → List Finding
tails_of format bytes = flat_map (tail_at format bytes) (range_with_len 0 (runs_in format bytes))

-- bytes past the limit of a file that is so long, after all segments
abbrev pub past_limit : ℕ → List Finding
past_limit long = listed (nat_lt max_file long) (Trailing (max_file / segment_end 0) max_file (long - max_file) 0)

abbrev pub trailing : Format → List ℕ → List Finding
trailing format bytes = tails_of format (take max_file bytes) ++ past_limit (length bytes)
