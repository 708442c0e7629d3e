-- The item of a policy fits the file, and leaves the sealed tiles.
use Rattle.std.proofs.Common.{◌≡◌, ℕ, suc, ◌+◌, ◌-◌, ◌≤◌, Bool, true, false, List, [], ◌∷◌, length, Option, Some, None, refl, sym, ap, subst, ◌∙◌, arith}
use Rattle.std.specs.Prelude.{nat_le, nat_lt, if◌then◌else◌}
use Rattle.std.proofs.lemmas.Bool.Decides.{nat_tests}
use Rattle.tuple_bytes.specs.declared.item.Item.{Item}
use Rattle.tuple_bytes.specs.Spelling.{spell_item, FitsItem}
use Rattle.history_model.specs.History.{History, history}
use Rattle.digest_model.specs.Layout.{layout, policy_of, first_granule, max_granules}
use Rattle.digest_model.proofs.Layouts.{begins, counts}
use Rattle.notary_link.specs.declared.name.Name.TheVariants as names
use Rattle.notary_link.specs.Batches.{Batch}
use Rattle.audit_model.specs.Notary.{answers, header_answer}
use Rattle.policy_eras.specs.Policy.{is_full as is_full_of_eras, first_past}
use Rattle.store_engine.specs.Refusals.{Tail, is_full, item_fault}
use Rattle.store_engine.specs.Leaving.{Takes}
use Rattle.statement_core.specs.Database as statements
use Rattle.validator.specs.declared.fail.AuditFail.{AuditFail}
use Rattle.validator.specs.declared.fail.AuditFail.TheVariants as fails
use Rattle.validator.specs.Notarizing.{Heard, heard_of, of_store, else_cause, where_true, fault_by, chain_fault, filed_fault}
use Rattle.validator.specs.Turning.{Turn}
use Rattle.store_world.specs.Found.{Found}
use Rattle.store_world.specs.Steps.{turn_in}
use Rattle.timeline_model.specs.Scene.{Scene, store_in}
use Rattle.timeline_model.proofs.Doings.{StoreIs, store_is}

-- ---- what is filed ends at most behind the last granule

first_none : (a b : Option AuditFail) → else_cause a b ≡ None → (a ≡ None) × (b ≡ None)
first_none None b e = (refl, e)
first_none (Some fail) b e = absurd cc

chain_within : (batches : List Batch) (h : History) (tile : ℕ) → chain_fault batches h tile ≡ None → first_granule (layout h) (suc tile) ≤ max_granules
chain_within batches h tile free = by (nat_le (first_granule (layout h) (suc tile)) max_granules) refl free
  where
    by : (b : Bool) → nat_le (first_granule (layout h) (suc tile)) max_granules ≡ b → (if b then fault_by (names.Cum tile) (answers batches h (names.Cum tile)) else Some (fails.SealMissing (names.Cum (first_past (layout h))))) ≡ None → first_granule (layout h) (suc tile) ≤ max_granules
    by true is free = grind (arith, nat_tests, is)
    by false is free = absurd cc

filed_within : (batches : List Batch) (h : History) → filed_fault batches h ≡ None → first_granule (layout h) (length batches - 1) ≤ max_granules
filed_within [] h free = (let none = begins (layout h) in omega (arith, none))
filed_within (first ∷ []) h free = (let none = begins (layout h) in omega (arith, none))
filed_within (first ∷ second ∷ rest) h free =
    let both = first_none (fault_by names.Header (header_answer (first ∷ second ∷ rest) h (suc (length rest)))) (chain_fault (first ∷ second ∷ rest) h (length rest)) free in
    let many : length (first ∷ second ∷ rest) - 1 ≡ suc (length rest) = omega arith in
    subst (λ (tiles : ℕ). first_granule (layout h) tiles ≤ max_granules) (sym many) (chain_within (first ∷ second ∷ rest) h (length rest) both.1)

-- ---- nothing speaks against it

not_true : (cause : Bool) (fail : AuditFail) (rest : Option AuditFail) → where_true cause fail rest ≡ None → rest ≡ None
not_true true fail rest free = absurd cc
not_true false fail rest free = free

has_room : (t : Tail) (item : Item) → length (spell_item item) ≤ 32768 → of_store (item_fault t false item) ≡ None → is_full t.end (length (spell_item item)) ≡ false
has_room t item short free = by (is_full t.end (length (spell_item item))) refl
  where
    long : nat_lt 32768 (length (spell_item item)) ≡ false
    long = grind (arith, nat_tests, short)

    by : (b : Bool) → is_full t.end (length (spell_item item)) ≡ b → is_full t.end (length (spell_item item)) ≡ false
    by false is = is
    by true is = let fault = rw (long, is) at free in absurd cc

module _ (i : ℕ) (t : Scene) (found : Found) (store : statements.Database) (is : store_in i t.bytes ≡ Some store) (hears : found.heard ≡ heard_of (t.lists.batches i) (history store.header store.items)) (k algs : ℕ) where
  abbrev turn : Turn
  turn = turn_in store found.heard k algs

  -- its tile is the number of the sealed ones
  pub behind_sealed : (n : ℕ) → length (t.lists.batches i) ≡ n + 1 → n ≤ found.heard.count - 1
  behind_sealed n many = (let c : found.heard.count ≡ length (t.lists.batches i) = ap (λ (h : Heard). h.count) hears in omega (arith, c, many))

  module _ (exponent : k ≤ 10) (chains : algs ≤ 3) (free : turn.fault ≡ None) where
    abbrev h : History
    h = history store.header store.items

    facts : StoreIs i t.bytes store
    facts = store_is i t.bytes store is

    within : first_granule (layout h) (found.heard.count - 1) ≤ max_granules
    within =
        let against = (first_none found.heard.against _ free).0 in
        let filed : filed_fault (t.lists.batches i) h ≡ None = ap (λ (x : Heard). x.against) (sym hears) ∙ against in
        let count : length (t.lists.batches i) ≡ found.heard.count = ap (λ (x : Heard). x.count) (sym hears) in
        subst (λ (c : ℕ). first_granule (layout h) (c - 1) ≤ max_granules) count (filed_within (t.lists.batches i) h filed)

    fits : FitsItem turn.item
    fits = (let up = counts (layout h) (found.heard.count - 1) in (omega (arith, up, within), omega (arith, within), exponent, chains))

    pub policy_takes : Takes t.bytes turn.item
    policy_takes = record {
      storable = record { fits = fits; short = omega arith };
      room = ap (λ (e : ℕ). is_full e (length (spell_item turn.item))) facts.end
          ∙ has_room (statements.tail_of_database store) turn.item (omega arith) (not_true (is_full_of_eras (policy_of h)) fails.TooManyEras _ (first_none found.heard.against _ free).1);
    }
