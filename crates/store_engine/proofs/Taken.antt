-- The chains that took what payloads spell, and then one item after another.
use Rattle.std.proofs.Common.{◌≡◌, ℕ, ◌+◌, ◌*◌, ◌<◌, ◌≤◌, max, Bool, true, false, cond, ◌&&◌, leb, ltb, List, [], ◌∷◌, ◌++◌, fold, Option, Some, None, Result, Ok, Err, OnOk, OnErr, refl, sym, ap, subst, ◌∙◌, arith}
use Rattle.std.specs.List.{AllByRecursion}
use Rattle.std.specs.Result.{is_err}
use Rattle.std.specs.Bool.{MatchBool}
use Rattle.std.specs.Option.{is_some, option_map, IfSome}
use Rattle.std.proofs.lemmas.Bool.{false≢true, le-leb, lt-ltb, leb-true, leb-false}
use Rattle.std.proofs.lemmas.List.Sums.{fold_push}
use Rattle.std.proofs.lemmas.Option.{same_Some, none-some}
use Rattle.std.proofs.Math.Nat.{div-mul-le_self, le-div_iff_mul-le}
use Rattle.tuple_bytes.specs.declared.header.Header.{Header}
use Rattle.tuple_bytes.specs.declared.item.Item.{Item}
use Rattle.tuple_bytes.specs.declared.item.Item.TheVariants as kinds
use Rattle.tuple_bytes.specs.declared.item.Txn.{Txn}
use Rattle.tuple_bytes.specs.Spelling.{Spells}
use Rattle.tuple_bytes.specs.Limits.{max_granules}
use Rattle.tuple_bytes.proofs.ItemLaws.{whole_again}
use Rattle.history_model.specs.History.{history, txns, txn_in, granule_of, last_moment}
use Rattle.history_model.specs.Stored.{items_of}
use Rattle.digest_model.specs.Layout.{Policy, policy_of, with_item}
use Rattle.chain_state.specs.Chained.{Chained, IsItemTaken, IsItemRefused, AreTaken, without_room, with_chained, with_turned, with_closed, open_of, open_after, are_chained}
use Rattle.chain_state.proofs.Histories.{policy_more}
use Rattle.chain_state.proofs.Gathering.{chain_more, chain_turned, chain_still, taken_more, refused_from, none_later}
use Rattle.store_engine.specs.Chaining.{AreChainsOf}
use Rattle.store_engine.specs.Taking.{HasReached, HaveReached, HaveTaken, chains_with, with_room}
use Rattle.store_engine.proofs.StoredFiles.{item_more}
use Rattle.store_engine.proofs.Telling.{last_more, txns_more, txns_stay, none_above}

-- ---- from payload to payload

-- they are the chains of these items
pub chains_taken : (header : Header) (payloads : List (List ℕ)) (chains : Option Chained) → HaveTaken header payloads chains → AreChainsOf header (items_of payloads) chains
chains_taken header payloads (Some c) taken = record {
  chain = taken.chain;
  chained = ap is_some taken.granule_is;
  reached = taken.reached;
}
chains_taken header payloads None none = ap is_some none

-- they are of the eras, and no granule is closed that reaches beyond the last moment
pub chains_reached : (header : Header) (payloads : List (List ℕ)) (chains : Option Chained) (eras : Policy) (last : ℕ) → HaveTaken header payloads chains → eras ≡ policy_of (history header (items_of payloads)) → last ≡ last_moment (items_of payloads)
    → HaveReached header eras last chains
chains_reached header payloads (Some c) eras last taken of_them is = λ d e.
    subst (HasReached header eras last) (same_Some c d e) (record {
      header_is = taken.chain.header;
      eras_are = taken.chain.eras ∙ sym of_them;
      reached = subst (λ (l : ℕ). c.granule * header.width ≤ l) (sym is) taken.reached;
    })
chains_reached header payloads None eras last none of_them is = λ d e. absurd (none-some d e)

-- so also of chains that were moved
pub chains_moved : (header : Header) (eras more : Policy) (last later : ℕ) (f : Chained → Chained) (chains : Option Chained) → HaveReached header eras last chains
    → ((c : Chained) → HasReached header eras last c → HasReached header more later (f c)) → HaveReached header more later (option_map f chains)
chains_moved header eras more last later f (Some c) were moves = λ d e. subst (HasReached header more later) (same_Some (f c) d e) (moves c (were c refl))
chains_moved header eras more last later f None were moves = λ d e. absurd (none-some d e)

-- their room is nothing that is said of them
pub chains_shown : (header : Header) (items : List Item) (chains : Option Chained) → AreChainsOf header items chains → AreChainsOf header items (option_map without_room chains)
chains_shown header items (Some c) are = record {
  chain = record { header = are.chain.header; txns = are.chain.txns; eras = are.chain.eras };
  chained = are.chained;
  reached = are.reached;
}
chains_shown header items None none = none

-- before any payload
pub taken_none : (header : Header) (c : Chained) → c ≡ record { header = header; items = []; granule = 0; room = 0 } → HaveTaken header [] (Some c)
unfolding open_of
taken_none header c is = subst (AreTaken header []) (sym is) (record { chain = record { header = refl; txns = refl; eras = refl }; granule_is = refl; reached = omega arith })

module _ (header : Header) (payloads : List (List ℕ)) (payload : List ℕ) where
  -- they took what one payload more spells
  pub taken_next : (item : Item) (c next : Chained) → Spells item payload → IsItemTaken item c next → HaveTaken header payloads (Some c) → HaveTaken header (payloads ++ payload ∷ []) (Some next)
  taken_next item c next spells took were =
      subst (λ (is : List Item). AreTaken header is next) (sym (item_more payloads payload item (whole_again payload item spells)))
      (taken_more header (items_of payloads) c were item next took)

  -- it ended them
  pub taken_ended : (item : Item) (c : Chained) → Spells item payload → IsItemRefused item c → HaveTaken header payloads (Some c) → HaveTaken header (payloads ++ payload ∷ []) None
  taken_ended item c spells refused were =
      ap (λ (is : List Item). open_of (history header is)) (item_more payloads payload item (whole_again payload item spells))
      ∙ refused_from header (items_of payloads) c were item refused

  -- they had ended
  pub taken_no_more : (item : Item) → Spells item payload → HaveTaken header payloads None → HaveTaken header (payloads ++ payload ∷ []) None
  taken_no_more item spells ended =
      ap (λ (is : List Item). open_of (history header is)) (item_more payloads payload item (whole_again payload item spells))
      ∙ none_later header (items_of payloads) (item ∷ []) ended

  -- they take it, or end at it
  pub taken_or_ended : (item : Item) (c next : Chained) (goes_on : Bool) → Spells item payload → MatchBool goes_on (IsItemTaken item c next) (IsItemRefused item c) → HaveTaken header payloads (Some c)
      → (goes_on ≡ true → HaveTaken header (payloads ++ payload ∷ []) (Some next)) × (goes_on ≡ false → HaveTaken header (payloads ++ payload ∷ []) None)
  taken_or_ended item c next true spells took were = (λ _. taken_next item c next spells took were, λ e. absurd (false≢true (sym e)))
  taken_or_ended item c next false spells refused were = (λ e. absurd (false≢true e), λ _. taken_ended item c spells refused were)

-- ---- as a commit moves them

-- room was made, or memory was wanted for it
module _ {E : Type 0} (header : Header) (eras : Policy) (last n : ℕ) (old new : Option Chained) where
  pub reserved_shown : (r : Result (Unit {0}) E) → OnOk r (new ≡ option_map (with_room n) old) → OnErr r (new ≡ old) → option_map without_room new ≡ option_map without_room old
  reserved_shown (Ok done) room same = ap (option_map without_room) room ∙ unseen old
    where
      unseen : (o : Option Chained) → option_map without_room (option_map (with_room n) o) ≡ option_map without_room o
      unseen (Some c) = refl
      unseen None = refl
  reserved_shown (Err e) room same = ap (option_map without_room) same

  pub reserved_reached : (r : Result (Unit {0}) E) → OnOk r (new ≡ option_map (with_room n) old) → OnErr r (new ≡ old) → HaveReached header eras last old → HaveReached header eras last new
  reserved_reached (Ok done) room same were = subst (HaveReached header eras last) (sym room) (chains_moved header eras eras last last (with_room n) old were (λ c is. record { header_is = is.header_is; eras_are = is.eras_are; reached = is.reached }))
  reserved_reached (Err e) room same were = subst (HaveReached header eras last) (sym same) were

-- the open granule is not above that of a later moment
pub above_open : (header : Header) (eras : Policy) (last moment : ℕ) (chains : Option Chained) → HaveReached header eras last chains → last ≤ moment → 0 < header.width → IfSome chains (λ c. c.granule ≤ granule_of c.header.width moment)
above_open header eras last moment (Some c) reached le wide =
    let own = reached c refl in
    subst (λ (h : Header). c.granule ≤ granule_of h.width moment) (sym own.header_is) ((le-div_iff_mul-le wide).1 (let low = own.reached in omega (arith, low, le)))
above_open header eras last moment None reached le wide = tt

-- there is room where room was made
pub room_made : {E : Type 0} (header : Header) (eras : Policy) (last moment n : ℕ) (old new : Option Chained) (r : Result (Unit {0}) E) → is_err r ≡ false → OnOk r (new ≡ option_map (with_room (n + 1)) old) → HaveReached header eras last old → n ≡ granule_of header.width moment
    → IfSome new (λ c. granule_of c.header.width moment < c.room)
room_made header eras last moment n old new (Ok done) fine room reached is = subst (λ (o : Option Chained). IfSome o (λ c. granule_of c.header.width moment < c.room)) (sym room) (by old reached)
  where
    by : (o : Option Chained) → HaveReached header eras last o → IfSome (option_map (with_room (n + 1)) o) (λ c. granule_of c.header.width moment < c.room)
    by (Some c) were =
        let own : granule_of c.header.width moment ≡ granule_of header.width moment = ap (λ (h : Header). granule_of h.width moment) (were c refl).header_is in
        omega (arith, own, is)
    by None were = tt
room_made header eras last moment n old new (Err e) fine room reached is = absurd (false≢true (sym fine))

-- they took a transaction
pub added_reached : (header : Header) (eras more : Policy) (last later : ℕ) (t : Txn) (old new : Option Chained) → new ≡ option_map (with_chained t) old → HaveReached header eras last old → more ≡ eras → t.moment ≤ later → HaveReached header more later new
added_reached header eras more last later t old new is were same le =
    subst (HaveReached header more later) (sym is) (chains_moved header eras more last later (with_chained t) old were (λ c own. record {
      header_is = own.header_is;
      eras_are = policy_more c.header c.items (kinds.Txn t) ∙ own.eras_are ∙ sym same;
      reached = (let by = div-mul-le_self t.moment header.width in let same = ap (λ (h : Header). granule_of h.width t.moment * header.width) own.header_is in omega (arith, by, same, le));
    }))

-- they turned by a policy, or were left
pub turned_reached : (header : Header) (eras : Policy) (last later : ℕ) (item : Item) → txn_in item ≡ None → (chains : Option Chained) → HaveReached header eras last chains → last ≤ later → HaveReached header (with_item eras item) later (chains_with item chains)
turned_reached header eras last later (kinds.Txn t) other chains were le = absurd (none-some t (sym other))
turned_reached header eras last later (kinds.Frontier moment) other chains were le = λ c is.
    (let own = were c is in let low = own.reached in record { header_is = own.header_is; eras_are = own.eras_are; reached = omega (arith, low, le) })
turned_reached header eras last later (kinds.Policy tile granule k algs) other chains were le =
    let item : Item = kinds.Policy tile granule k algs in
    chains_moved header eras (with_item eras item) last later (with_turned item) chains were (λ c own. record {
      header_is = own.header_is;
      eras_are = policy_more c.header c.items item ∙ ap (λ (p : Policy). with_item p item) own.eras_are;
      reached = (let low = own.reached in omega (arith, low, le));
    })

pub turned_by_item : (header : Header) (eras more : Policy) (last later : ℕ) (item : Item) → txn_in item ≡ None → (old new : Option Chained) → new ≡ chains_with item old → HaveReached header eras last old → more ≡ with_item eras item → last ≤ later → HaveReached header more later new
turned_by_item header eras more last later item other old new is were turned le =
    subst (HaveReached header more later) (sym is) (subst (λ (p : Policy). HaveReached header p later (chains_with item old)) (sym turned) (turned_reached header eras last later item other old were le))

-- ---- behind an item

module _ (width last : ℕ) where
  stays_none : (ts : List Txn) → fold (open_after width) None ts ≡ None
  stays_none [] = refl
  stays_none (t ∷ ts) = stays_none ts

  -- the granule of the last transaction begins by the last moment
  reached_by : (ts : List Txn) (from g : ℕ) → from * width ≤ last → AllByRecursion (λ (t : Txn). t.moment ≤ last) ts → fold (open_after width) (Some from) ts ≡ Some g → g * width ≤ last
  reached_by [] from g low all is = subst (λ (x : ℕ). x * width ≤ last) (same_Some from g is) low
  reached_by (t ∷ ts) from g low all is = go (leb from (granule_of width t.moment) && ltb (granule_of width t.moment) max_granules) is (reached_by ts (granule_of width t.moment) g (let by = div-mul-le_self t.moment width in let le = all.0 in omega (arith, by, le)) all.1)
    where
      go : (b : Bool) → fold (open_after width) (cond b (Some (granule_of width t.moment)) None) ts ≡ Some g → (fold (open_after width) (Some (granule_of width t.moment)) ts ≡ Some g → g * width ≤ last) → g * width ≤ last
      go true is next = next is
      go false is next = absurd (none-some g (sym (stays_none ts) ∙ is))

module _ (header : Header) (items : List Item) where
  open_reached : (g : ℕ) → open_of (history header items) ≡ Some g → g * header.width ≤ last_moment items
  unfolding open_of
  open_reached g is = reached_by header.width (last_moment items) (txns items) 0 g (omega arith) (none_above items 0) is

  -- an item without a transaction
  module _ (item : Item) (other : txn_in item ≡ None) where
    open_stays : open_of (history header (items ++ item ∷ [])) ≡ open_of (history header items)
    unfolding open_of
    open_stays = ap (λ (ts : List Txn). fold (open_after header.width) (Some 0) ts) (txns_stay items item other)

    later : last_moment items ≤ last_moment (items ++ item ∷ [])
    later = (let is = last_more items item in omega (arith, is))

    stays_later : (g : ℕ) → g * header.width ≤ last_moment items → g * header.width ≤ last_moment (items ++ item ∷ [])
    stays_later g low = (let le = later in omega (arith, low, le))

    none_stays : are_chained (history header items) ≡ false → are_chained (history header (items ++ item ∷ [])) ≡ false
    none_stays none = ap is_some open_stays ∙ none

  pub chains_other : (item : Item) → txn_in item ≡ None → (chains : Option Chained) → AreChainsOf header items chains → AreChainsOf header (items ++ item ∷ []) (chains_with item chains)
  chains_other (kinds.Txn t) other chains are = absurd (none-some t (sym other))
  chains_other (kinds.Frontier moment) other None none = none_stays (kinds.Frontier moment) refl none
  chains_other (kinds.Policy tile granule k algs) other None none = none_stays (kinds.Policy tile granule k algs) refl none
  chains_other (kinds.Frontier moment) other (Some c) are = record {
    chain = chain_still header items c are.chain moment;
    chained = ap is_some (open_stays (kinds.Frontier moment) refl) ∙ are.chained;
    reached = stays_later (kinds.Frontier moment) refl c.granule are.reached;
  }
  chains_other (kinds.Policy tile granule k algs) other (Some c) are =
      let item : Item = kinds.Policy tile granule k algs in
      record {
        chain = chain_turned header items c are.chain item refl;
        chained = ap is_some (open_stays item refl) ∙ are.chained;
        reached = stays_later item refl c.granule are.reached;
      }

  -- a transaction that is not before the last moment, and whose granule there is
  module _ (t : Txn) (wide : 0 < header.width) (follows : last_moment items ≤ t.moment) (small : granule_of header.width t.moment < max_granules) where
    open_next : (o : Option ℕ) → o ≡ open_of (history header items) → is_some o ≡ true → open_after header.width o t ≡ Some (granule_of header.width t.moment)
    open_next (Some g) is some =
        let reached = open_reached g (sym is) in
        let low : g ≤ granule_of header.width t.moment = (le-div_iff_mul-le wide).1 (omega (arith, reached, follows)) in
        let first : leb g (granule_of header.width t.moment) ≡ true = le-leb g (granule_of header.width t.moment) low in
        let second : ltb (granule_of header.width t.moment) max_granules ≡ true = lt-ltb (granule_of header.width t.moment) max_granules small in
        rw (first, second) refl
    open_next None is none = absurd (false≢true none)

    open_behind : open_of (history header (items ++ kinds.Txn t ∷ [])) ≡ open_after header.width (open_of (history header items)) t
    unfolding open_of
    open_behind = ap (λ (ts : List Txn). fold (open_after header.width) (Some 0) ts) (txns_more items t) ∙ fold_push (open_after header.width) (Some 0) (txns items) t

    pub chains_more : (chains : Option Chained) → AreChainsOf header items chains → AreChainsOf header (items ++ kinds.Txn t ∷ []) (option_map (with_chained t) chains)
    chains_more (Some c) are = record {
      chain = chain_more header items c are.chain t;
      chained = ap is_some (open_behind ∙ open_next (open_of (history header items)) refl are.chained);
      reached = (let is = last_more items (kinds.Txn t) in let by = div-mul-le_self t.moment header.width in let own = ap (λ (h : Header). granule_of h.width t.moment * header.width) are.chain.header in omega (arith, is, by, own));
    }
    chains_more None none = ap is_some (none_later header items (kinds.Txn t ∷ []) (is_none (open_of (history header items)) none))
      where
        is_none : (o : Option ℕ) → is_some o ≡ false → o ≡ None
        is_none (Some g) e = absurd (false≢true (sym e))
        is_none None e = refl

-- with granules closed that begin by the last moment
pub chains_closed : (header : Header) (items : List Item) (g : ℕ) (chains : Option Chained) → g * header.width ≤ last_moment items → AreChainsOf header items chains → AreChainsOf header items (option_map (with_closed g) chains)
chains_closed header items g (Some c) le are = record {
  chain = record { header = are.chain.header; txns = are.chain.txns; eras = are.chain.eras };
  chained = are.chained;
  reached = either (leb c.granule g) refl;
}
  where
    either : (b : Bool) → leb c.granule g ≡ b → max c.granule g * header.width ≤ last_moment items
    either true is = (let top : max c.granule g ≡ g = (let low = leb-true c.granule g is in omega (arith, low)) in subst (λ (x : ℕ). x * header.width ≤ last_moment items) (sym top) le)
    either false is = (let top : max c.granule g ≡ c.granule = (let high = leb-false c.granule g is in omega (arith, high)) in subst (λ (x : ℕ). x * header.width ≤ last_moment items) (sym top) are.reached)
chains_closed header items g None le none = none
