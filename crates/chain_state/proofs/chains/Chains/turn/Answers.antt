use Rattle.std.proofs.Common.{◌≡◌, ℕ, List, [], ◌∷◌, ◌++◌, None, Option, sym, ap, subst, ◌∙◌, arith}
use Rattle.std.specs.List.{cons_option}
use Rattle.tuple_bytes.specs.declared.header.Header.{Header}
use Rattle.tuple_bytes.specs.declared.item.Item.{Item}
use Rattle.tuple_bytes.specs.declared.item.Txn.{Txn}
use Rattle.tuple_bytes.specs.Spelling.{Spells}
use Rattle.history_model.specs.History.{txn_in, txns}
use Rattle.digest_model.specs.Layout.{Policy}
use Rattle.policy_eras.specs.Policy.{count_of, with_payload}
use Rattle.tile_chains.specs.declared.granule.GranuleHash.{GranuleHash}
use Rattle.tile_seals.specs.Kept.{Planned}
use Rattle.chain_state.specs.declared.closed.Closed.{Closed}
use Rattle.chain_state.specs.Chained.{Chained, with_turned}
use Rattle.chain_state.specs.Kept.{chained_of, Keeps}
use Rattle.chain_state.proofs.Adding.{told_more, kept_turned, kept_unturned}
use Rattle.chain_state.proofs.chains.Chains.turn.Goals as goal
use Rattle.chain_state.proofs.chains.Chains.turn.Goals.{in-Some-1, in-None-1}

-- what was told, and one payload more
module _ (header : Header) (granule room : ℕ) (sp told : List (List ℕ)) (b : List ℕ) (more : told ≡ sp ++ b ∷ []) where
  seen : (item : Item) → Spells item b → chained_of header told granule room ≡ with_turned item (chained_of header sp granule room)
  seen item spells =
      ap (λ (x : List (List ℕ)). chained_of header x granule room) more
      ∙ ap (λ (xs : List Item). record { header = header; items = xs; granule = granule; room = room }) (told_more sp b item spells)

  module _ (eras turned : Policy) (is_turned : turned ≡ with_payload eras b) (link : List ℕ) (hash : GranuleHash) (closed : List Closed) (count capacity : ℕ) (sealed : Option Planned)
      (is : Keeps (chained_of header sp granule room) eras link hash closed count capacity sealed) (given : (item : Item) × Spells item b × (txn_in item ≡ None)) where
    other : txns (given.0 ∷ []) ≡ []
    other = ap (λ (o : Option Txn). cons_option o []) given.2

    kept_by : (o : Option Planned) → Keeps (with_turned given.0 (chained_of header sp granule room)) (with_payload eras b) link hash closed count capacity o → Keeps (chained_of header told granule room) turned link hash closed count capacity o
    kept_by o kept =
        subst (λ (c : Chained). Keeps c turned link hash closed count capacity o) (sym (seen given.0 given.1))
        (subst (λ (p : Policy). Keeps (with_turned given.0 (chained_of header sp granule room)) p link hash closed count capacity o) (sym is_turned) kept)

    dropped : Keeps (chained_of header told granule room) turned link hash closed count capacity None
    dropped = kept_by None (kept_turned header eras (chained_of header sp granule room).items given.0 other granule room b link hash closed count capacity sealed is given.1)

    stayed : count_of turned ≡ count_of eras → Keeps (chained_of header told granule room) turned link hash closed count capacity sealed
    stayed same = kept_by sealed (kept_unturned header eras (chained_of header sp granule room).items given.0 other granule room b link hash closed count capacity sealed is given.1 (ap count_of (sym is_turned) ∙ same))

pub invariant_of-self : goal.invariant_of-self
invariant_of-self c =
    let i = c.self.inside in
    dropped i.header i.granule i.room i.told.spellings c.note.new.self.spellings c.args.payload.now c.note.ensures i.eras c.offer_payload.new.self c.offer_payload.ensures.value
    i.link i.hash i.closed.items (Rattle.std.specs.Vec.vec_len c.self.inside.closed) (Rattle.std.specs.Vec.vec_capacity c.self.inside.closed) i.sealed c.self.invariant c.requires.spelled

pub invariant_of-self-then-count-before-2 : goal.invariant_of-self-then-count-before-2
invariant_of-self-then-count-before-2 c =
    let i = c.self.inside in
    dropped i.header i.granule i.room i.told.spellings c.note.new.self.spellings c.args.payload.now c.note.ensures i.eras c.offer_payload.new.self c.offer_payload.ensures.value
    i.link i.hash i.closed.items (Rattle.std.specs.Vec.vec_len c.self.inside.closed) (Rattle.std.specs.Vec.vec_capacity c.self.inside.closed) i.sealed c.self.invariant c.requires.spelled

pub invariant_of-self-else-count-before : goal.invariant_of-self-else-count-before
invariant_of-self-else-count-before c =
    let i = c.self.inside in
    let same : count_of c.offer_payload.new.self ≡ count_of c.self.inside.eras = omega (arith, c.if-count-before.false, c.count.ensures.value, c.count-before.ensures.value) in
    stayed i.header i.granule i.room i.told.spellings c.note.new.self.spellings c.args.payload.now c.note.ensures i.eras c.offer_payload.new.self c.offer_payload.ensures.value
    i.link i.hash i.closed.items (Rattle.std.specs.Vec.vec_len c.self.inside.closed) (Rattle.std.specs.Vec.vec_capacity c.self.inside.closed) i.sealed c.self.invariant c.requires.spelled same

pub returns-then-count-before : goal.returns-then-count-before
returns-then-count-before c =
    let i = c.self.inside in
    let shown = λ (item : Item) (spells : Spells item c.args.payload.now). seen i.header i.granule i.room i.told.spellings c.note.new.self.spellings c.args.payload.now c.note.ensures item spells ∙ ap (with_turned item) c.self.view_is in
    record {
      value = λ item spells. elim c.match-self.branch [
        | in-Some-1 w ↦ w.self-is ∙ shown item spells
        | in-None-1 w ↦ w.self-is ∙ shown item spells
      ];
    }

pub returns-else-count-before : goal.returns-else-count-before
returns-else-count-before c =
    let i = c.self.inside in
    record { value = λ item spells. seen i.header i.granule i.room i.told.spellings c.note.new.self.spellings c.args.payload.now c.note.ensures item spells ∙ ap (with_turned item) c.self.view_is }
