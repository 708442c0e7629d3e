-- Records are replayed, one after another.
use Rattle.std.proofs.Common.{◌≡◌, ℕ, ◌==◌, ◌<◌, ◌++◌, List, [], ◌∷◌, length, length-append, Option, Some, None, refl, sym, ap, subst, ◌∙◌, arith}
use Rattle.std.specs.Prelude.{false, true, IfSome, slice_index}
use Rattle.std.proofs.lemmas.List.Elements.{filter_map-append}
use Rattle.disk_words.specs.Disk.{State, Unchanged, GoesOn}
use Rattle.byte_grammar.specs.Gated.{open_gate}
use Rattle.tuple_bytes.specs.declared.header.Header.{Header}
use Rattle.tuple_bytes.specs.declared.item.Item.{Item}
use Rattle.tuple_bytes.specs.Items.{item_of}
use Rattle.history_model.specs.Stored.{max_file, items_of, found_behind}
use Rattle.txn_journal.specs.Reading.{ahead}
use Rattle.segment_file.specs.Append.{Standing}
use Rattle.segment_file.specs.Walk.{Walking, HasSeen, ReadsOn, StandsBefore, GoesBehind}
use Rattle.segment_file.proofs.Collecting as collecting
use Rattle.segment_file.proofs.Collecting.{IsCollecting, IsAll}
use Rattle.chain_state.specs.Chained.{Chained}
use Rattle.store_engine.specs.declared.contents.Contents.{Contents}
use Rattle.store_engine.specs.declared.replay.Gathered.{Gathered}
use Rattle.store_engine.specs.Chaining.{AreChainsOf}
use Rattle.store_engine.specs.Taking.{HaveTaken}
use Rattle.store_engine.specs.Contents.{Tells}
use Rattle.store_engine.specs.Replay.{IsRead, IsGathered, Replays}
use Rattle.store_engine.proofs.Taken.{chains_taken}

-- ---- from record to record

-- the payloads so far
pub record HasRead (first now : State) (opened w : Walking) (payloads : List (List ℕ)) : Type 0 where
  pub collecting : IsCollecting first now opened w (items_of payloads)
  pub few : length payloads < w.reading.place
  pub within : w.reading.place < max_file

pub has_read_none : (first : State) (opened : Walking) → opened.reading.place ≡ 64 → HasRead first first opened opened []
has_read_none first opened begins = record {
  collecting = collecting.starts first opened;
  few = omega (arith, begins);
  within = omega (arith, begins);
}

pub has_read_more : (first old new : State) (opened w v : Walking) (payloads : List (List ℕ)) → HasRead first old opened w payloads
    → IfSome old.reads (λ bytes. HasSeen bytes w → ReadsOn bytes w true v) → IfSome old.reads (λ bytes. HasSeen bytes w → HasSeen bytes v) → Unchanged old new → GoesOn old new → new.faults ≡ old.faults
    → GoesBehind w v → HasRead first new opened v (payloads ++ v.reading.payload ∷ [])
has_read_more first old new opened w v payloads so_far reads seen same frame none moves = record {
  collecting = collecting.one_more first old new opened w v (items_of payloads) (items_of (payloads ++ v.reading.payload ∷ [])) so_far.collecting reads seen same frame none
      (filter_map-append item_of payloads (v.reading.payload ∷ []));
  few = (let size = length-append payloads (v.reading.payload ∷ []) in let on = moves.place in let few = so_far.few in omega (arith, size, on, few));
  within = moves.within;
}

-- the contents are what the payloads say, and the chains took them
pub record IsReplaying (first now : State) (opened w : Walking) (header : Header) (c : Contents) (chains : Option Chained) : Type 0 where
  pub payloads : List (List ℕ)
  pub so_far : HasRead first now opened w payloads
  pub read : IsRead header payloads c
  pub taken : HaveTaken header payloads chains

-- the transactions are gathered that the payloads spell, and the chains took them
pub record IsGatheringTxns (first now : State) (opened w : Walking) (header : Header) (g : Gathered) (chains : Option Chained) : Type 0 where
  pub payloads : List (List ℕ)
  pub so_far : HasRead first now opened w payloads
  pub gathered : IsGathered header g (items_of payloads)
  pub taken : HaveTaken header payloads chains

-- ---- behind the last record

-- a file that stands where a reader does
abbrev pub file_at : Walking → List ℕ → Standing
file_at w bytes = record { end = w.reading.place; length = length bytes; gate_is_open = (slice_index (ahead w.reading) 0 == open_gate); is_closed = false }

replays_in : (bytes : List ℕ) (opened v : Walking) (payloads : List (List ℕ)) (header : Header) (c : Contents) (chains : Option Chained) (file : Standing) → IsRead header payloads c → HaveTaken header payloads chains → file ≡ file_at v bytes → IsAll opened v (items_of payloads) bytes → StandsBefore bytes (found_behind bytes) opened
    → Replays header c chains file bytes
replays_in bytes opened v payloads header c chains file read taken is all before =
    let items : items_of payloads ≡ items_of (found_behind bytes).0 = sym all.all ∙ ap (λ (f : List (List ℕ) × ℕ). items_of f.0) before.all in
    subst (λ (f : Standing). Replays header c chains f bytes) (sym is) (record {
      tells = subst (Tells header c) items read.tells;
      chained = subst (λ (its : List Item). AreChainsOf header its chains) items (chains_taken header payloads chains taken);
      end = ap (λ (f : List (List ℕ) × ℕ). f.1) (sym before.all) ∙ all.end;
      length_is = refl;
      gate = ap (λ (g : ℕ). g == open_gate) all.gate;
    })

pub replays : (first mid : Option (List ℕ)) (opened v : Walking) (payloads : List (List ℕ)) (header : Header) (c : Contents) (chains : Option Chained) (file : Standing) → mid ≡ first → IsRead header payloads c → HaveTaken header payloads chains → IfSome mid (λ bytes. file ≡ file_at v bytes)
    → IfSome first (λ bytes. HasSeen bytes opened → IsAll opened v (items_of payloads) bytes)
    → IfSome first (λ bytes. StandsBefore bytes (found_behind bytes) opened → Replays header c chains file bytes)
replays first mid opened v payloads header c chains file same read taken is all = by first (subst (λ (o : Option (List ℕ)). IfSome o (λ bytes. file ≡ file_at v bytes)) same is) all
  where
    by : (told : Option (List ℕ)) → IfSome told (λ bytes. file ≡ file_at v bytes) → IfSome told (λ bytes. HasSeen bytes opened → IsAll opened v (items_of payloads) bytes)
        → IfSome told (λ bytes. StandsBefore bytes (found_behind bytes) opened → Replays header c chains file bytes)
    by None is all = tt
    by (Some bytes) is all = λ before. replays_in bytes opened v payloads header c chains file read taken is (all before.seen) before
