use Rattle.std.proofs.Common.{◌≡◌, ℕ, ◌+◌, ◌<◌, ◌≤◌, Bool, true, false, List, [], ◌∷◌, ◌++◌, length, get_or, take, drop, map, None, refl, sym, ap, subst, ◌∙◌, arith}
use Rattle.std.specs.Bool.{MatchBool}
use Rattle.std.specs.List.{All}
use Rattle.std.proofs.lemmas.Bool.{false≢true}
use Rattle.std.proofs.lemmas.List.{take_more, take-append-drop, get_or-map, length-map}
use Rattle.std.proofs.lemmas.List.Elements.{All-get_or}
use Rattle.tuple_bytes.specs.declared.header.Header.{Header}
use Rattle.tuple_bytes.specs.declared.item.Item.{Item}
use Rattle.tuple_bytes.specs.declared.item.Item.TheVariants.{Frontier}
use Rattle.tuple_bytes.specs.Limits.{max_payload}
use Rattle.tuple_bytes.specs.Spelling.{Spells, spell_item, FitsItem}
use Rattle.history_model.specs.History.{history}
use Rattle.history_model.specs.Stored.{IsStorable}
use Rattle.chain_state.specs.Chained.{Chained, AreTaken, IsItemTaken, IsItemRefused, steps_of, open_of, are_chained}
use Rattle.chain_state.proofs.Gathering.{taken_more, refused_from, none_later, not_chained, steps_more, steps_in}
use Rattle.chain_state.proofs.chains.Chains.from_items.Goals as goal

when : (b : Bool) (P Q : Type 0) → b ≡ true → MatchBool b P Q → P
when true P Q e p = p
when false P Q e q = absurd (false≢true e)

otherwise : (b : Bool) (P Q : Type 0) → b ≡ false → MatchBool b P Q → Q
otherwise true P Q e p = absurd (false≢true (sym e))
otherwise false P Q e q = q

-- an item and its spelling
module _ (items : List Item) (spelled : List (List ℕ)) (i : ℕ) (b : List ℕ) (fit : All FitsItem items) (are : spelled ≡ map spell_item items) (below : i < length spelled) (is : b ≡ get_or spelled i b) where
  abbrev item : Item
  item = get_or items i (Frontier 0)

  within : i < length items
  within = omega (arith, below, ap length are, length-map items spell_item)

  spells : Spells item b
  spells = (All-get_or FitsItem items i (Frontier 0) within fit, is ∙ ap (λ (x : List (List ℕ)). get_or x i b) are ∙ get_or-map spell_item items i (Frontier 0) b within)

  short : All IsStorable items → length b ≤ max_payload
  short all = (let own = All-get_or IsStorable items i (Frontier 0) within all in subst (λ (x : List ℕ). length x ≤ max_payload) (sym spells.1) own.short)

  more : take (i + 1) items ≡ take i items ++ item ∷ []
  more = take_more items i (Frontier 0) within

  steps_next : steps_of (take (i + 1) items) ≡ steps_of (take i items) + steps_of (item ∷ [])
  steps_next = ap steps_of more ∙ steps_more (take i items) item

  steps_few : steps_of (take (i + 1) items) ≤ steps_of items
  steps_few = (let le = steps_in (take (i + 1) items) (drop (i + 1) items) in let all = ap steps_of (take-append-drop (i + 1) items) in omega (arith, le, all))

  never : (header : Header) (c : Chained) → AreTaken header (take i items) c → IsItemRefused item c → are_chained (history header items) ≡ false
  never header c were refused =
      let none = refused_from header (take i items) c were item refused in
      let front : open_of (history header (take (i + 1) items)) ≡ None = ap (λ (x : List Item). open_of (history header x)) more ∙ none in
      not_chained header items (sym (ap (λ (x : List Item). open_of (history header x)) (take-append-drop (i + 1) items)) ∙ none_later header (take (i + 1) items) (drop (i + 1) items) front)

pub take-requires-clause-spelled : goal.take-requires-clause-spelled
take-requires-clause-spelled g c = (
  item c.args.items.now c.as_slice-spelling-items.result.now c.loop-spelling.spelling-index c.spelling-item.result c.as_slice-spelling-items.ensures.fit c.as_slice-spelling-items.ensures.value c.loop-spelling-test.true c.spelling-item.is,
  subst (Spells (get_or c.args.items.now c.loop-spelling.spelling-index (Frontier 0))) (sym c.as_slice.ensures.value)
      (spells c.args.items.now c.as_slice-spelling-items.result.now c.loop-spelling.spelling-index c.spelling-item.result c.as_slice-spelling-items.ensures.fit c.as_slice-spelling-items.ensures.value c.loop-spelling-test.true c.spelling-item.is),
)

pub take-requires-clause-short : goal.take-requires-clause-short
take-requires-clause-short g c =
    subst (λ (x : List ℕ). length x ≤ max_payload) (sym c.as_slice.ensures.value)
    (short c.args.items.now c.as_slice-spelling-items.result.now c.loop-spelling.spelling-index c.spelling-item.result c.as_slice-spelling-items.ensures.fit c.as_slice-spelling-items.ensures.value c.loop-spelling-test.true c.spelling-item.is c.requires.history.items)

pub loop-spelling-init : goal.loop-spelling-init
unfolding open_of
loop-spelling-init g c =
    let made = c.in_ok-chains.ensures.value in
    record {
      taken = subst (λ (x : Chained). AreTaken c.args.header.now [] x) (sym made)
          (record { chain = record { header = refl; txns = refl; eras = refl }; granule_is = refl; reached = omega arith });
      steps = omega arith;
    }

pub loop-spelling-preserved : goal.loop-spelling-preserved
loop-spelling-preserved g c =
    let b = c.spelling-item.result in
    let i = c.loop-spelling.spelling-index in
    let xs = c.args.items.now in
    let it : Item = get_or c.args.items.now c.loop-spelling.spelling-index (Frontier 0) in
    let own = subst (Spells (get_or c.args.items.now c.loop-spelling.spelling-index (Frontier 0))) (sym c.as_slice.ensures.value)
    (spells xs c.as_slice-spelling-items.result.now i b c.as_slice-spelling-items.ensures.fit c.as_slice-spelling-items.ensures.value c.loop-spelling-test.true c.spelling-item.is) in
    let done : c.in_ok-take.field-0 ≡ true = c.if-not-branch.false in
    let took = when c.in_ok-take.field-0 (IsItemTaken it c.loop-spelling.chains c.take.new.self) (IsItemRefused it c.loop-spelling.chains) done (c.in_ok-take.ensures.value it own) in
    let longer = more xs c.as_slice-spelling-items.result.now i b c.as_slice-spelling-items.ensures.fit c.as_slice-spelling-items.ensures.value c.loop-spelling-test.true c.spelling-item.is in
    let count = steps_next xs c.as_slice-spelling-items.result.now i b c.as_slice-spelling-items.ensures.fit c.as_slice-spelling-items.ensures.value c.loop-spelling-test.true c.spelling-item.is in
    let exact = c.in_ok-take.ensures.exact it own done in
    let was = c.loop-spelling.invariant.steps in
    record {
      taken = subst (λ (x : List Item). AreTaken c.args.header.now x c.take.new.self) (sym longer)
          (taken_more c.args.header.now (take i xs) c.loop-spelling.chains c.loop-spelling.invariant.taken it c.take.new.self took);
      steps = omega (arith, count, exact, was);
    }

pub returns-in_err-take-clause-steps : goal.returns-in_err-take-clause-steps
returns-in_err-take-clause-steps g c =
    let b = c.spelling-item.result in
    let i = c.loop-spelling.spelling-index in
    let xs = c.args.items.now in
    let it : Item = get_or c.args.items.now c.loop-spelling.spelling-index (Frontier 0) in
    let own = subst (Spells (get_or c.args.items.now c.loop-spelling.spelling-index (Frontier 0))) (sym c.as_slice.ensures.value)
    (spells xs c.as_slice-spelling-items.result.now i b c.as_slice-spelling-items.ensures.fit c.as_slice-spelling-items.ensures.value c.loop-spelling-test.true c.spelling-item.is) in
    let count = steps_next xs c.as_slice-spelling-items.result.now i b c.as_slice-spelling-items.ensures.fit c.as_slice-spelling-items.ensures.value c.loop-spelling-test.true c.spelling-item.is in
    let few = steps_few xs c.as_slice-spelling-items.result.now i b c.as_slice-spelling-items.ensures.fit c.as_slice-spelling-items.ensures.value c.loop-spelling-test.true c.spelling-item.is in
    let most = c.take.ensures.steps it own in
    let was = c.loop-spelling.invariant.steps in
    omega (arith, count, few, most, was)

pub returns-then-not-branch-clause-steps : goal.returns-then-not-branch-clause-steps
returns-then-not-branch-clause-steps g c =
    let b = c.spelling-item.result in
    let i = c.loop-spelling.spelling-index in
    let xs = c.args.items.now in
    let it : Item = get_or c.args.items.now c.loop-spelling.spelling-index (Frontier 0) in
    let own = subst (Spells (get_or c.args.items.now c.loop-spelling.spelling-index (Frontier 0))) (sym c.as_slice.ensures.value)
    (spells xs c.as_slice-spelling-items.result.now i b c.as_slice-spelling-items.ensures.fit c.as_slice-spelling-items.ensures.value c.loop-spelling-test.true c.spelling-item.is) in
    let count = steps_next xs c.as_slice-spelling-items.result.now i b c.as_slice-spelling-items.ensures.fit c.as_slice-spelling-items.ensures.value c.loop-spelling-test.true c.spelling-item.is in
    let few = steps_few xs c.as_slice-spelling-items.result.now i b c.as_slice-spelling-items.ensures.fit c.as_slice-spelling-items.ensures.value c.loop-spelling-test.true c.spelling-item.is in
    let most = c.take.ensures.steps it own in
    let was = c.loop-spelling.invariant.steps in
    omega (arith, count, few, most, was)

pub returns-then-not-branch-clause-none : goal.returns-then-not-branch-clause-none
returns-then-not-branch-clause-none g c =
    let b = c.spelling-item.result in
    let i = c.loop-spelling.spelling-index in
    let xs = c.args.items.now in
    let it : Item = get_or c.args.items.now c.loop-spelling.spelling-index (Frontier 0) in
    let own = subst (Spells (get_or c.args.items.now c.loop-spelling.spelling-index (Frontier 0))) (sym c.as_slice.ensures.value)
    (spells xs c.as_slice-spelling-items.result.now i b c.as_slice-spelling-items.ensures.fit c.as_slice-spelling-items.ensures.value c.loop-spelling-test.true c.spelling-item.is) in
    let refused = otherwise c.in_ok-take.field-0 (IsItemTaken it c.loop-spelling.chains c.take.new.self) (IsItemRefused it c.loop-spelling.chains) c.if-not-branch.true (c.in_ok-take.ensures.value it own) in
    let fell = never xs c.as_slice-spelling-items.result.now i b c.as_slice-spelling-items.ensures.fit c.as_slice-spelling-items.ensures.value c.loop-spelling-test.true c.spelling-item.is c.args.header.now c.loop-spelling.chains c.loop-spelling.invariant.taken refused in
    (λ _. fell, λ _. refl)
