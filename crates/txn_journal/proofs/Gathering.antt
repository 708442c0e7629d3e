-- Gathering what payloads stand for, from record to record.
use Rattle.std.proofs.Common.{◌≡◌, ℕ, Bool, true, false, List, [], ◌∷◌, ◌++◌, Option, Some, None, refl, sym, ap, ◌∙◌, subst, append_assoc}
use Rattle.std.specs.Prelude.{Result, Ok, Err, IfSome, IfOk, IfErr, MatchResult, slice_index, ◌==◌}
use Rattle.std.specs.List.{filter_map}
use Rattle.std.proofs.lemmas.List.{append-nil}
use Rattle.std.proofs.lemmas.List.Elements.{filter_map-append}
use Rattle.disk_words.specs.Disk.{State, Unchanged, GoesOn}
use Rattle.disk_words.proofs.Frame.{goes_on_same, goes_on_then}
use Rattle.disk_words.proofs.Steady.{unchanged_then}
use Rattle.byte_grammar.specs.Gated.{Shape, open_gate, with_first}
use Rattle.txn_journal.specs.declared.fail.JournalFail.{JournalFail}
use Rattle.txn_journal.specs.declared.fail.JournalFail.TheVariants as fails
use Rattle.txn_journal.specs.Reading.{Reading, head_of, left, limited, IsSeenIn, ReadsNext, ahead}
use Rattle.txn_journal.specs.Held.{Standing, StandsIn, held_under}
use Rattle.txn_journal.specs.Opening.{held_of, IsOfDisk, IsNoFile}

unchanged_same : (s : State) → Unchanged s s
unchanged_same s = record { reads = refl; trace = refl; images = λ c. ((λ i. i), λ i. i); since = λ t c. ((λ i. i), λ i. i) }

-- where the limit is the shape's, it is the shape
pub whole : (shape : Shape) (limit : ℕ) → limit ≡ shape.max_file → (P : Shape → Type 0) → P (limited shape limit) → P shape
whole shape limit is P p = subst (λ (k : ℕ). P (limited shape k)) is p

module _ {X : Type 0} (read : List ℕ → Option X) (shape : Shape) where
  -- what these were read as, and what those from the place on are, is all
  pub record Completes (opened r : Reading) (gathered : List X) (bytes : List ℕ) : Type 0 where
    pub seen : IsSeenIn bytes r
    pub all : filter_map read (left shape opened.place bytes).0 ≡ gathered ++ filter_map read (left shape r.place bytes).0
    pub end : (left shape opened.place bytes).1 ≡ (left shape r.place bytes).1

  pub record IsGathering (first now : State) (opened r : Reading) (gathered : List X) : Type 0 where
    pub told : IfSome first.reads (λ bytes. IsSeenIn bytes opened → Completes opened r gathered bytes)
    pub limit : r.limit ≡ shape.max_file
    pub same : Unchanged first now
    pub frame : GoesOn first now
    pub counted : now.faults ≡ first.faults

  -- before the first record
  pub starts : (first : State) (opened : Reading) → opened.limit ≡ shape.max_file → IsGathering first first opened opened []
  starts first opened limit = record { told = by first.reads; limit = limit; same = unchanged_same first; frame = goes_on_same first; counted = refl }
    where
      by : (told : Option (List ℕ)) → IfSome told (λ bytes. IsSeenIn bytes opened → Completes opened opened [] bytes)
      by None = tt
      by (Some bytes) = λ s. record { seen = s; all = refl; end = refl }

  -- the next record was read
  pub one_more : (first old new : State) (opened r s : Reading) (gathered more : List X) → IsGathering first old opened r gathered
      → IfSome old.reads (λ bytes. IsSeenIn bytes r → ReadsNext shape bytes r true s) → IfSome old.reads (λ bytes. IsSeenIn bytes r → IsSeenIn bytes s) → s.limit ≡ r.limit → Unchanged old new → GoesOn old new → new.faults ≡ old.faults
      → more ≡ gathered ++ filter_map read (s.payload ∷ []) → IsGathering first new opened s more
  one_more first old new opened r s gathered more so_far reads seen limit same frame none is = record {
    told = by first.reads so_far.told (subst (λ (o : Option (List ℕ)). IfSome o (λ bytes. IsSeenIn bytes r → ReadsNext shape bytes r true s)) so_far.same.reads reads) (subst (λ (o : Option (List ℕ)). IfSome o (λ bytes. IsSeenIn bytes r → IsSeenIn bytes s)) so_far.same.reads seen);
    limit = limit ∙ so_far.limit;
    same = unchanged_then first old new so_far.same same;
    frame = goes_on_then first old new so_far.frame frame;
    counted = none ∙ so_far.counted;
  }
    where
      by : (told : Option (List ℕ)) → IfSome told (λ bytes. IsSeenIn bytes opened → Completes opened r gathered bytes)
          → IfSome told (λ bytes. IsSeenIn bytes r → ReadsNext shape bytes r true s) → IfSome told (λ bytes. IsSeenIn bytes r → IsSeenIn bytes s)
          → IfSome told (λ bytes. IsSeenIn bytes opened → Completes opened s more bytes)
      by None t n seen = tt
      by (Some bytes) t n seen = λ o.
          let so = t o in
          let rest : List (List ℕ) × ℕ = left shape s.place bytes in
          let next = whole shape r.limit so_far.limit (λ (to : Shape). left to r.place bytes ≡ with_first s.payload (left to s.place bytes)) (n so.seen) in
          record {
            seen = seen so.seen;
            all = so.all ∙ ap (λ (l : List (List ℕ) × ℕ). gathered ++ filter_map read l.0) next
                ∙ ap (λ (l : List X). gathered ++ l) (filter_map-append read (s.payload ∷ []) rest.0)
                ∙ sym (append_assoc gathered (filter_map read (s.payload ∷ [])) (filter_map read rest.0))
                ∙ ap (λ (l : List X). l ++ filter_map read rest.0) (sym is);
            end = so.end ∙ ap (λ (l : List (List ℕ) × ℕ). l.1) next;
          }

  -- all is gathered, and the gate behind it is seen
  pub record IsAll (s : Reading) (gathered : List X) (bytes : List ℕ) : Type 0 where
    pub all : filter_map read (left shape 64 bytes).0 ≡ gathered
    pub end : (left shape 64 bytes).1 ≡ s.place
    pub gate : slice_index (ahead s) 0 ≡ slice_index bytes s.place

  pub all_gathered : (first old : State) (opened r s : Reading) (gathered : List X) → IsGathering first old opened r gathered → opened.place ≡ 64
      → IfSome old.reads (λ bytes. IsSeenIn bytes r → ReadsNext shape bytes r false s) → s.place ≡ r.place → s.limit ≡ r.limit
      → IfSome first.reads (λ bytes. IsSeenIn bytes opened → IsAll s gathered bytes)
  all_gathered first old opened r s gathered so_far begins reads place limit =
      by first.reads so_far.told (subst (λ (o : Option (List ℕ)). IfSome o (λ bytes. IsSeenIn bytes r → ReadsNext shape bytes r false s)) so_far.same.reads reads)
    where
      by : (told : Option (List ℕ)) → IfSome told (λ bytes. IsSeenIn bytes opened → Completes opened r gathered bytes)
          → IfSome told (λ bytes. IsSeenIn bytes r → ReadsNext shape bytes r false s)
          → IfSome told (λ bytes. IsSeenIn bytes opened → IsAll s gathered bytes)
      by None t n = tt
      by (Some bytes) t n = λ o.
          let so = t o in
          let stop = n so.seen in
          let none : left shape r.place bytes ≡ ([], s.place) = ap (λ (p : ℕ). left shape p bytes) (sym place) ∙ whole shape s.limit (limit ∙ so_far.limit) (λ (to : Shape). left to s.place bytes ≡ ([], s.place)) stop.none in
          record {
            all = ap (λ (p : ℕ). filter_map read (left shape p bytes).0) (sym begins) ∙ so.all ∙ ap (λ (l : List (List ℕ) × ℕ). gathered ++ filter_map read l.0) none ∙ append-nil gathered;
            end = ap (λ (p : ℕ). (left shape p bytes).1) (sym begins) ∙ so.end ∙ ap (λ (l : List (List ℕ) × ℕ). l.1) none;
            gate = stop.gate;
          }

-- ---- the payloads themselves

pub filter_map-Some : (payloads : List (List ℕ)) → filter_map (λ (p : List ℕ). Some p) payloads ≡ payloads
filter_map-Some [] = refl
filter_map-Some (p ∷ payloads) = ap (λ (l : List (List ℕ)). p ∷ l) (filter_map-Some payloads)

-- a journal stands behind them
pub stands : (is_head : List ℕ → Bool) (shape : Shape) (told : Option (List ℕ)) (opened s : Reading) (head : List ℕ) (payloads : List (List ℕ)) (at : Standing) → at.end ≡ s.place → at.gate_is_open ≡ (slice_index (ahead s) 0 == open_gate)
    → IfSome told (λ bytes. IsSeenIn bytes opened → IsAll (λ (p : List ℕ). Some p) shape s payloads bytes)
    → IfSome told (λ bytes. IsSeenIn bytes opened → head_of is_head bytes ≡ Some head → StandsIn is_head shape at (held_of head payloads at) bytes)
stands is_head shape None opened s head payloads at end gate all = tt
stands is_head shape (Some bytes) opened s head payloads at end gate all = λ o is.
    let a = all o in
    let L : List (List ℕ) × ℕ = left shape 64 bytes in
    let found : L ≡ (payloads, at.end) = ap (λ (ps : List (List ℕ)). (ps, L.1)) (sym (filter_map-Some L.0) ∙ a.all) ∙ ap (λ (p : ℕ). (payloads, p)) (a.end ∙ sym end) in
    record {
      holds = ap (λ (h : Option (List ℕ)). held_under h L) is ∙ ap (held_under (Some head)) found;
      end = refl;
      gate = gate ∙ ap (λ (g : ℕ). g == open_gate) (a.gate ∙ ap (slice_index bytes) (sym end));
    }

not_refused : (is_head : List ℕ → Bool) (bytes : List ℕ) (e : JournalFail) → IsOfDisk e → IsNoFile is_head bytes e
not_refused is_head bytes fails.DiskFault of_disk = tt
not_refused is_head bytes fails.NoMemory of_disk = tt
not_refused is_head bytes fails.NotAStore of_disk = absurd of_disk
not_refused is_head bytes fails.AlreadyThere of_disk = absurd of_disk
not_refused is_head bytes fails.StoreFull of_disk = absurd of_disk
not_refused is_head bytes fails.Closed of_disk = absurd of_disk

-- what was gathered behind a head that was found
pub behind_found : {T : Type 0} (is_head : List ℕ → Bool) (P : T → List ℕ → Type 0) (first mid : Option (List ℕ)) (found : Option (List ℕ)) (head : List ℕ) (r : Reading) (result : Result T JournalFail) → mid ≡ first → found ≡ Some head
    → IfSome first (λ bytes. found ≡ head_of is_head bytes) → IfSome first (λ bytes. IsSeenIn bytes r) → IfSome mid (λ bytes. IsSeenIn bytes r → head_of is_head bytes ≡ Some head → IfOk result (λ t. P t bytes)) → IfErr result IsOfDisk
    → IfSome first (λ bytes. MatchResult result (λ t. P t bytes) (IsNoFile is_head bytes))
behind_found {T} is_head P first mid found head r result same is heads seen gathered of_disk =
    by first result heads seen (subst (λ (m : Option (List ℕ)). IfSome m (λ bytes. IsSeenIn bytes r → head_of is_head bytes ≡ Some head → IfOk result (λ t. P t bytes))) same gathered) of_disk
  where
    by : (first : Option (List ℕ)) (result : Result T JournalFail) → IfSome first (λ bytes. found ≡ head_of is_head bytes) → IfSome first (λ bytes. IsSeenIn bytes r) → IfSome first (λ bytes. IsSeenIn bytes r → head_of is_head bytes ≡ Some head → IfOk result (λ t. P t bytes)) → IfErr result IsOfDisk
        → IfSome first (λ bytes. MatchResult result (λ t. P t bytes) (IsNoFile is_head bytes))
    by None result heads seen gathered of_disk = tt
    by (Some bytes) (Ok t) heads seen gathered of_disk = gathered seen (sym heads ∙ is)
    by (Some bytes) (Err e) heads seen gathered of_disk = not_refused is_head bytes e of_disk
