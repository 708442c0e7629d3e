-- Chains that take the next items.
use Rattle.std.proofs.Common.{◌≡◌, ℕ, ◌+◌, ◌<◌, ◌≤◌, Bool, true, false, List, [], ◌∷◌, ◌++◌, length, get_or, take, drop, map, Option, Some, None, refl, sym, ap, subst, ◌∙◌, append_assoc, arith}
use Rattle.std.specs.Option.{is_some}
use Rattle.std.specs.Bool.{MatchBool}
use Rattle.std.specs.List.{All}
use Rattle.std.proofs.lemmas.Bool.{false≢true}
use Rattle.std.proofs.lemmas.List.{take_more, take-append-drop, get_or-map, length-map}
use Rattle.std.proofs.lemmas.List.Elements.{All-get_or}
use Rattle.tuple_bytes.specs.declared.header.Header.{Header}
use Rattle.tuple_bytes.specs.declared.item.Item.{Item}
use Rattle.tuple_bytes.specs.declared.item.Item.TheVariants as items
use Rattle.tuple_bytes.specs.declared.item.Item.TheVariants.{Frontier}
use Rattle.tuple_bytes.specs.Limits.{max_payload}
use Rattle.tuple_bytes.specs.Spelling.{Spells, spell_item, FitsItem}
use Rattle.history_model.specs.History.{history}
use Rattle.history_model.specs.Stored.{IsStorable}
use Rattle.chain_state.specs.Chained.{Chained, AreTaken, IsItemTaken, IsItemRefused, steps_of, open_of, are_chained}
use Rattle.chain_state.proofs.Gathering.{taken_more, refused_from, none_later, not_chained, steps_more, steps_in}
use Rattle.audit_steps.specs.Auditing.{AreTakenOrNone}

pub when : (b : Bool) (P Q : Type 0) → b ≡ true → MatchBool b P Q → P
when true P Q e p = p
when false P Q e q = absurd (false≢true e)

pub otherwise : (b : Bool) (P Q : Type 0) → b ≡ false → MatchBool b P Q → Q
otherwise true P Q e p = absurd (false≢true (sym e))
otherwise false P Q e q = q

-- an item and its spelling
module _ (items : List Item) (spelled : List (List ℕ)) (i : ℕ) (b : List ℕ) (fit : All FitsItem items) (are : spelled ≡ map spell_item items) (below : i < length spelled) (is : b ≡ get_or spelled i b) where
  abbrev item : Item
  item = get_or items i (Frontier 0)

  within : i < length items
  within = omega (arith, below, ap length are, length-map items spell_item)

  pub spells : Spells item b
  spells = (All-get_or FitsItem items i (Frontier 0) within fit, is ∙ ap (λ (x : List (List ℕ)). get_or x i b) are ∙ get_or-map spell_item items i (Frontier 0) b within)

  pub short : All IsStorable items → length b ≤ max_payload
  short all = (let own = All-get_or IsStorable items i (Frontier 0) within all in subst (λ (x : List ℕ). length x ≤ max_payload) (sym spells.1) own.short)

  more : take (i + 1) items ≡ take i items ++ item ∷ []
  more = take_more items i (Frontier 0) within

  pub steps_next : steps_of (take (i + 1) items) ≡ steps_of (take i items) + steps_of (item ∷ [])
  steps_next = ap steps_of more ∙ steps_more (take i items) item

  pub steps_few : steps_of (take (i + 1) items) ≤ steps_of items
  steps_few = (let le = steps_in (take (i + 1) items) (drop (i + 1) items) in let all = ap steps_of (take-append-drop (i + 1) items) in omega (arith, le, all))

  module _ (header : Header) (taken : List Item) (c : Chained) (were : AreTakenOrNone header (taken ++ take i items) (Some c)) where
    behind : (taken ++ take i items) ++ item ∷ [] ≡ taken ++ take (i + 1) items
    behind = append_assoc taken (take i items) (item ∷ []) ∙ ap (λ (l : List Item). taken ++ l) (sym more)

    pub next_taken : (next : Chained) → IsItemTaken item c next → AreTakenOrNone header (taken ++ take (i + 1) items) (Some next)
    next_taken next took = subst (λ (l : List Item). AreTaken header l next) behind (taken_more header (taken ++ take i items) c were item next took)

    pub next_refused : IsItemRefused item c → are_chained (history header (taken ++ items)) ≡ false
    next_refused refused =
        let none = refused_from header (taken ++ take i items) c were item refused in
        let later = none_later header ((taken ++ take i items) ++ item ∷ []) (drop (i + 1) items) none in
        let all : ((taken ++ take i items) ++ item ∷ []) ++ drop (i + 1) items ≡ taken ++ items =
        ap (λ (l : List Item). l ++ drop (i + 1) items) behind ∙ append_assoc taken (take (i + 1) items) (drop (i + 1) items) ∙ ap (λ (l : List Item). taken ++ l) (take-append-drop (i + 1) items) in
        not_chained header (taken ++ items) (ap (λ (l : List Item). open_of (history header l)) (sym all) ∙ later)

no_open : (o : Option ℕ) → is_some o ≡ false → o ≡ None
no_open (Some n) e = absurd (false≢true (sym e))
no_open None e = refl

-- where the chains fell they stay so
pub none_taken : (header : Header) (taken items : List Item) (chains : Option Chained) → chains ≡ None → AreTakenOrNone header taken chains → are_chained (history header (taken ++ items)) ≡ false
none_taken header taken items chains none were =
    let fell : are_chained (history header taken) ≡ false = subst (AreTakenOrNone header taken) none were in
    not_chained header (taken ++ items) (none_later header taken items (no_open (open_of (history header taken)) fell))

-- what takes an item stays under its header
pub taken_under : (item : Item) (before after : Chained) → IsItemTaken item before after → after.header ≡ before.header
taken_under (items.Txn t) before after took = ap (λ (c : Chained). c.header) took.value
taken_under (items.Frontier moment) before after took = ap (λ (c : Chained). c.header) took
taken_under (items.Policy tile granule k algs) before after took = ap (λ (c : Chained). c.header) took
