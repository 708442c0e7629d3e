-- Chains that are gathered item by item.
use Rattle.std.proofs.Common.{◌≡◌, ℕ, ◌+◌, ◌*◌, ◌/◌, ◌≤◌, max, false, List, [], ◌∷◌, ◌++◌, length, fold, Option, Some, None, refl, sym, ap, subst, ◌∙◌, arith}
use Rattle.std.specs.Option.{is_some}
use Rattle.std.proofs.lemmas.Bool.{false≢true}
use Rattle.std.proofs.lemmas.List.{length-append}
use Rattle.std.proofs.lemmas.List.Elements.{filter_map-append}
use Rattle.std.proofs.lemmas.List.Sums.{fold_push, fold-append}
use Rattle.std.proofs.Math.Nat.{div-mul-le_self}
use Rattle.tuple_bytes.specs.declared.header.Header.{Header}
use Rattle.tuple_bytes.specs.declared.item.Item.{Item}
use Rattle.tuple_bytes.specs.declared.item.Item.TheVariants as items
use Rattle.tuple_bytes.specs.declared.item.Txn.{Txn}
use Rattle.history_model.specs.History.{history, txns, txn_in, last_moment, after_last, moment_in}
use Rattle.digest_model.specs.Layout.{Policy, policy_of, with_item}
use Rattle.chain_state.specs.Chained.{Chained, IsChainOf, IsItemTaken, IsItemRefused, AreTaken, with_chained, with_turned, steps_of, open_after, open_of, are_chained}
use Rattle.chain_state.proofs.Histories.{txns_more, txns_still, policy_more}

pub steps_more : (xs : List Item) (item : Item) → steps_of (xs ++ item ∷ []) ≡ steps_of xs + steps_of (item ∷ [])
steps_more xs item =
    let long = ap length (txns_more xs item) ∙ length-append (txns xs) (txns (item ∷ [])) in
    omega (arith, long)

pub steps_in : (xs ys : List Item) → steps_of xs ≤ steps_of (xs ++ ys)
steps_in xs ys =
    let long = ap length (filter_map-append txn_in xs ys) ∙ length-append (txns xs) (txns ys) in
    omega (arith, long)

last_more : (xs : List Item) (item : Item) → last_moment (xs ++ item ∷ []) ≡ max (last_moment xs) (moment_in item)
last_more xs item = fold_push after_last 0 xs item

-- ---- what chains stand for, by one item more

module _ (header : Header) (xs : List Item) (c : Chained) (is : IsChainOf c (history header xs)) where
  -- of an item that is no transaction the chains keep it, where it may change the eras
  eras_more : (item : Item) → with_item (policy_of (history c.header c.items)) item ≡ policy_of (history header (xs ++ item ∷ []))
  eras_more item = ap (λ (p : Policy). with_item p item) is.eras ∙ sym (policy_more header xs item)

  pub chain_more : (t : Txn) → IsChainOf (with_chained t c) (history header (xs ++ items.Txn t ∷ []))
  chain_more t = record {
    header = is.header;
    txns = txns_more c.items (items.Txn t) ∙ ap (λ (x : List Txn). x ++ t ∷ []) is.txns ∙ sym (txns_more xs (items.Txn t));
    eras = policy_more c.header c.items (items.Txn t) ∙ eras_more (items.Txn t);
  }

  pub chain_turned : (item : Item) → txns (item ∷ []) ≡ [] → IsChainOf (with_turned item c) (history header (xs ++ item ∷ []))
  chain_turned item none = record {
    header = is.header;
    txns = txns_still c.items item none ∙ is.txns ∙ sym (txns_still xs item none);
    eras = policy_more c.header c.items item ∙ eras_more item;
  }

  pub chain_still : (moment : ℕ) → IsChainOf c (history header (xs ++ items.Frontier moment ∷ []))
  chain_still moment = record {
    header = is.header;
    txns = is.txns ∙ sym (txns_still xs (items.Frontier moment) refl);
    eras = eras_more (items.Frontier moment);
  }

module _ (header : Header) where
  open_more : (xs : List Item) (t : Txn) → open_of (history header (xs ++ items.Txn t ∷ [])) ≡ open_after header.width (open_of (history header xs)) t
  unfolding open_of
  open_more xs t = ap (fold (open_after header.width) (Some 0)) (txns_more xs (items.Txn t)) ∙ fold_push (open_after header.width) (Some 0) (txns xs) t

  open_still : (xs : List Item) (item : Item) → txns (item ∷ []) ≡ [] → open_of (history header (xs ++ item ∷ [])) ≡ open_of (history header xs)
  unfolding open_of
  open_still xs item none = ap (fold (open_after header.width) (Some 0)) (txns_still xs item none)

  stays_none : (ts : List Txn) → fold (open_after header.width) None ts ≡ None
  stays_none [] = refl
  stays_none (t ∷ ts) = stays_none ts

  pub none_later : (xs ys : List Item) → open_of (history header xs) ≡ None → open_of (history header (xs ++ ys)) ≡ None
  unfolding open_of
  none_later xs ys none =
      ap (fold (open_after header.width) (Some 0)) (filter_map-append txn_in xs ys)
      ∙ fold-append (open_after header.width) (Some 0) (txns xs) (txns ys)
      ∙ ap (λ (o : Option ℕ). fold (open_after header.width) o (txns ys)) none ∙ stays_none (txns ys)

  module _ (xs : List Item) (c : Chained) (were : AreTaken header xs c) where
    still_taken : (item : Item) (next : Chained) → txns (item ∷ []) ≡ [] → next.granule ≡ c.granule → IsChainOf next (history header (xs ++ item ∷ [])) → AreTaken header (xs ++ item ∷ []) next
    still_taken item next none same chain = record {
      chain = chain;
      granule_is = open_still xs item none ∙ were.granule_is ∙ ap (λ (g : ℕ). Some g) (sym same);
      reached = (let last = last_more xs item in let was = were.reached in let own = ap (λ (g : ℕ). g * header.width) same in omega (arith, last, was, own));
    }

    pub taken_more : (item : Item) (next : Chained) → IsItemTaken item c next → AreTaken header (xs ++ item ∷ []) next
    taken_more (items.Frontier moment) next same =
        still_taken (items.Frontier moment) next refl (ap (λ (x : Chained). x.granule) same)
        (subst (λ (x : Chained). IsChainOf x (history header (xs ++ items.Frontier moment ∷ []))) (sym same) (chain_still header xs c were.chain moment))
    taken_more (items.Policy tile granule k algs) next same =
        let item : Item = items.Policy tile granule k algs in
        still_taken item next refl (ap (λ (x : Chained). x.granule) same)
        (subst (λ (x : Chained). IsChainOf x (history header (xs ++ item ∷ []))) (sym same) (chain_turned header xs c were.chain item refl))
    taken_more (items.Txn t) next took =
        let granule : next.granule ≡ t.moment / header.width = ap (λ (x : Chained). x.granule) took.value ∙ ap (λ (x : Header). t.moment / x.width) were.chain.header in
        let chain = chain_more header xs c were.chain t in
        record {
          chain = subst (λ (x : Chained). IsChainOf x (history header (xs ++ items.Txn t ∷ []))) (sym took.value) (record { header = chain.header; txns = chain.txns; eras = chain.eras });
          granule_is = open_more xs t ∙ ap (λ (o : Option ℕ). open_after header.width o t) were.granule_is ∙ ap (λ (x : Header). open_after x.width (Some c.granule) t) (sym were.chain.header) ∙ took.granule_is;
          reached = (let last = last_more xs (items.Txn t) in let low = div-mul-le_self t.moment header.width in let same = ap (λ (n : ℕ). n * header.width) granule in omega (arith, last, low, same));
        }

    pub refused_from : (item : Item) → IsItemRefused item c → open_of (history header (xs ++ item ∷ [])) ≡ None
    refused_from (items.Frontier moment) never = absurd never
    refused_from (items.Policy tile granule k algs) never = absurd never
    refused_from (items.Txn t) refused = open_more xs t ∙ ap (λ (o : Option ℕ). open_after header.width o t) were.granule_is ∙ ap (λ (x : Header). open_after x.width (Some c.granule) t) (sym were.chain.header) ∙ refused

  pub not_chained : (xs : List Item) → open_of (history header xs) ≡ None → are_chained (history header xs) ≡ false
  not_chained xs none = ap is_some none

  pub chained : (xs : List Item) (g : ℕ) → open_of (history header xs) ≡ Some g → are_chained (history header xs) ≡ false → ⊥
  chained xs g some denied = false≢true (sym denied ∙ ap is_some some)
