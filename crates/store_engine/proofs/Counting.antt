-- Each item takes more bytes than one, and no moment falls.
use Rattle.std.proofs.Common.{◌≡◌, ℕ, ◌+◌, ◌*◌, ◌<◌, ◌≤◌, max, Bool, true, false, cond, leb, ltb, List, length, Option, Some, None, Result, Ok, Err, OnOk, OnErr, refl, sym, ap, subst, ◌∙◌, arith}
use Rattle.std.specs.Prelude.{IfSome}
use Rattle.std.specs.Option.{option_map}
use Rattle.std.proofs.lemmas.Bool.{leb-true, leb-false}
use Rattle.tuple_bytes.specs.declared.header.Header.{Header}
use Rattle.tuple_bytes.specs.declared.item.Item.{Item}
use Rattle.tuple_bytes.specs.declared.item.Item.TheVariants as kinds
use Rattle.history_model.specs.Placing.{next_start, place_for, gate_behind}
use Rattle.digest_model.specs.Layout.{Policy, policy_of, with_item}
use Rattle.tt_table.specs.Tables.{TablesVersions}
use Rattle.segment_file.specs.Append.{Standing, behind}
use Rattle.chain_state.specs.Chained.{Chained, history_of, without_room, with_closed}
use Rattle.store_engine.specs.declared.contents.Contents.{Contents}
use Rattle.store_engine.specs.Adding.{stands_at}
use Rattle.store_engine.specs.Taking.{HaveReached}
use Rattle.store_engine.specs.Contents.{after_item, with_tables}
use Rattle.store_engine.proofs.Taken.{chains_moved}

-- ---- the next gate

gate_on : (end n : ℕ) → end + 5 ≤ gate_behind end n
unfolding place_for
gate_on end n = by (ltb (end + 5 + n) (next_start end))
  where
    by : (b : Bool) → end + 5 ≤ cond b end (next_start end) + 5 + n
    by true = omega arith
    by false = omega arith

-- ---- one item more

count_more : (k : Contents) (item : Item) → (after_item k item).count ≤ k.count + 1
count_more k (kinds.Txn t) = omega arith
count_more k (kinds.Frontier moment) = omega arith
count_more k (kinds.Policy tile granule algorithm algs) = omega arith

pub last_on : (k : Contents) (item : Item) → k.last ≤ (after_item k item).last
last_on k (kinds.Txn t) = omega arith
last_on k (kinds.Frontier moment) = omega arith
last_on k (kinds.Policy tile granule algorithm algs) = omega arith

-- there are fewer transactions than bytes, also behind one item more, whose operations may be missing in the tables
pub few_behind : (k more : Contents) (item : Item) (tables : TablesVersions) (file now : Standing) (is_closed closed : Bool) (payload : List ℕ) → k.count < file.end → more ≡ with_tables tables (after_item k item) → stands_at now closed ≡ behind (stands_at file is_closed) payload
    → more.count < now.end
few_behind k more item tables file now is_closed closed payload few is goes =
    let end : now.end ≡ gate_behind file.end (length payload) = ap (λ (s : Standing). s.end) goes in
    let count : more.count ≡ (after_item k item).count = ap (λ (c : Contents). c.count) is in
    let one = count_more k item in
    let on = gate_on file.end (length payload) in
    omega (arith, few, end, count, one, on)

pub last_behind : (k more : Contents) (item : Item) (tables : TablesVersions) → more ≡ with_tables tables (after_item k item) → k.last ≤ more.last
last_behind k more item tables is = (let last : more.last ≡ (after_item k item).last = ap (λ (c : Contents). c.last) is in let on = last_on k item in omega (arith, last, on))

-- the eras are those with the item
pub eras_behind : (k more : Contents) (item : Item) (tables : TablesVersions) → more ≡ with_tables tables (after_item k item) → more.eras ≡ with_item k.eras item
eras_behind k more item tables is = ap (λ (c : Contents). c.eras) is ∙ own item
  where
    own : (i : Item) → (after_item k i).eras ≡ with_item k.eras i
    own (kinds.Txn t) = refl
    own (kinds.Frontier moment) = refl
    own (kinds.Policy tile granule algorithm algs) = refl

-- ---- chains

-- what callers see of chains is of the header, and of the eras
pub chains_own : (header : Header) (eras : Policy) (last : ℕ) (chains : Option Chained) → HaveReached header eras last chains → IfSome (option_map without_room chains) (λ c. c.header ≡ header)
chains_own header eras last (Some c) were = (were c refl).header_is
chains_own header eras last None were = tt

pub chains_under : (header : Header) (eras : Policy) (last : ℕ) (chains : Option Chained) → HaveReached header eras last chains → IfSome (option_map without_room chains) (λ c. policy_of (history_of c) ≡ eras)
chains_under header eras last (Some c) were = (were c refl).eras_are
chains_under header eras last None were = tt

higher : (a g width last : ℕ) → a * width ≤ last → g * width ≤ last → max a g * width ≤ last
higher a g width last low up = either (leb a g) refl
  where
    either : (b : Bool) → leb a g ≡ b → max a g * width ≤ last
    either true is = (let top : max a g ≡ g = (let le = leb-true a g is in omega (arith, le)) in subst (λ (x : ℕ). x * width ≤ last) (sym top) up)
    either false is = (let top : max a g ≡ a = (let le = leb-false a g is in omega (arith, le)) in subst (λ (x : ℕ). x * width ≤ last) (sym top) low)

pub closed_reached : {A E : Type 0} (header : Header) (eras : Policy) (last g : ℕ) (old new : Option Chained) (r : Result A E) → OnOk r (new ≡ option_map (with_closed g) old) → OnErr r (new ≡ old) → g * header.width ≤ last → HaveReached header eras last old → HaveReached header eras last new
closed_reached header eras last g old new (Ok done) is same up were =
    subst (HaveReached header eras last) (sym is) (chains_moved header eras eras last last (with_closed g) old were (λ c own. record { header_is = own.header_is; eras_are = own.eras_are; reached = higher c.granule g header.width last own.reached up }))
closed_reached header eras last g old new (Err e) is same up were = subst (HaveReached header eras last) (sym same) were
