-- Reading an evidence file.
use Rattle.std.specs.Prelude.{◌==◌, ◌&&◌, ℕ, zero, suc, nat_le, nat_lt, Bool, true, false, is_some, List, length, Option, Some, None}
use Rattle.std.specs.List.{list_all}
use Rattle.std.specs.Int.{w32, w64}
use Rattle.byte_grammar.specs.Reading.{Reader, ◌>>=◌, up_to, number, constant, seq, mapped, checked, counted, sized, tagged, whole}
use Rattle.tuple_bytes.specs.declared.header.Header.{Header}
use Rattle.tuple_bytes.specs.Limits.{max_payload, max_exponent, max_algorithms, max_granules}
use Rattle.tuple_bytes.specs.HeaderBytes.{epoch_at, width_at, small_at}
use Rattle.tuple_bytes.specs.Items.{item_of}
use Rattle.history_model.specs.History.{granule_of}
use Rattle.history_model.specs.Spelled.{txn_moment}
use Rattle.digest_model.specs.Layout.{max_later, first_era}
use Rattle.policy_eras.specs.declared.era.Era.{Era}
use Rattle.evidence_file.specs.declared.entry.Entry.{Entry}
use Rattle.evidence_file.specs.declared.evidence.Evidence.{Evidence}
use Rattle.evidence_file.specs.Evidence.{evidence_text, ascend, are_next}

-- ---- the parts, one after the other

abbrev pub fields_from : ℕ × (ℕ × (ℕ × (ℕ × ℕ))) → Header
fields_from p = record { id = p.0; epoch = p.1.0; width = p.1.1.0; k = p.1.1.1.0; algs = p.1.1.1.1 }

-- the header fields, as they stand in a store
unfoldable pub fields_at : Reader Header
fields_at bytes = mapped fields_from (seq (number w64) (seq epoch_at (seq width_at (seq (small_at max_exponent) (small_at max_algorithms))))) bytes

abbrev pub era_from : ℕ × (ℕ × (ℕ × ℕ)) → Era
era_from p = record { tile = p.0; granule = p.1.0; k = p.1.1.0; algs = p.1.1.1 }

-- an era, as it stands behind the tag of a policy
unfoldable pub era_at : Reader Era
era_at bytes = mapped era_from (seq (number w32) (seq (number w32) (seq (small_at max_exponent) (small_at max_algorithms)))) bytes

unfoldable pub eras_at : Reader (List Era)
eras_at bytes = counted (number w32) (up_to max_later) era_at bytes

-- the moment of the transaction that bytes spell, where they spell one
abbrev pub spelled_moment : List ℕ → Option ℕ
spelled_moment bytes = item_of bytes >>= txn_moment

-- bytes that spell a transaction, and not too many
abbrev pub is_txn : List ℕ → Bool
is_txn bytes = nat_le (length bytes) max_payload && is_some (spelled_moment bytes)

unfoldable pub txn_at : Reader (List ℕ)
txn_at bytes = checked is_txn (sized (number w32)) bytes

-- a count has no limit but its four bytes
abbrev pub any_count : ℕ → Bool
any_count n = true

unfoldable pub list_at : Reader (List (List ℕ))
list_at bytes = counted (number w32) any_count txn_at bytes

unfoldable pub second_by : ℕ → Reader (Option (List (List ℕ)))
second_by zero bytes = Some (None, bytes)
second_by (suc zero) bytes = mapped Some list_at bytes
second_by (suc (suc n)) bytes = None

unfoldable pub second_at : Reader (Option (List (List ℕ)))
second_at bytes = tagged second_by bytes

-- a granule that a store may have
abbrev pub is_granule : ℕ → Bool
is_granule g = nat_lt g max_granules

unfoldable pub granule_at : Reader ℕ
granule_at bytes = checked is_granule (number w32) bytes

abbrev pub entry_from : ℕ × (List (List ℕ) × Option (List (List ℕ))) → Entry
entry_from p = record { granule = p.0; shown = p.1.0; original = p.1.1 }

unfoldable pub entry_at : Reader Entry
entry_at bytes = mapped entry_from (seq granule_at (seq list_at second_at)) bytes

unfoldable pub entries_at : Reader (List Entry)
entries_at bytes = counted (number w32) any_count entry_at bytes

abbrev pub evidence_from : Unit {0} × (Header × (List Era × List Entry)) → Evidence
evidence_from p = record { header = p.1.0; eras = p.1.1.0; entries = p.1.1.1 }

unfoldable pub parts_at : Reader Evidence
parts_at bytes = mapped evidence_from (seq (constant evidence_text) (seq fields_at (seq eras_at entries_at))) bytes

-- ---- what the parts owe each other

-- a moment lies in a granule
abbrev pub is_within : ℕ → ℕ → Option ℕ → Bool
is_within width g (Some moment) = granule_of width moment == g
is_within width g None = false

abbrev pub is_txn_of : ℕ → ℕ → List ℕ → Bool
is_txn_of width g bytes = is_within width g (spelled_moment bytes)

unfoldable pub is_list_of : ℕ → ℕ → List (List ℕ) → Bool
is_list_of width g ts = list_all (is_txn_of width g) ts

abbrev pub is_second_of : ℕ → ℕ → Option (List (List ℕ)) → Bool
is_second_of width g None = true
is_second_of width g (Some ts) = is_list_of width g ts

-- the transactions of an entry lie in its granule
unfoldable pub is_entry : ℕ → Entry → Bool
is_entry width e = is_list_of width e.granule e.shown && is_second_of width e.granule e.original

unfoldable pub is_consistent : Evidence → Bool
is_consistent e = are_next (first_era e.header) e.eras && (ascend 0 e.entries && list_all (is_entry e.header.width) e.entries)

unfoldable pub evidence_at : Reader Evidence
evidence_at bytes = checked is_consistent parts_at bytes

-- the evidence that all of the bytes spell
unfoldable pub evidence_of : List ℕ → Option Evidence
evidence_of bytes = whole evidence_at bytes
