-- What a reply acknowledges.
use Rattle.std.specs.Prelude.{◌≡◌, ℕ, ◌+◌, List, ◌++◌, ◌∷◌, [], length, codes}
use Rattle.std.specs.Fmt.{decimal}
use Rattle.tuple_bytes.specs.declared.item.Item.{Item}
use Rattle.tuple_bytes.specs.declared.item.Txn.{Txn}
use Rattle.history_model.specs.History.{txns}
use Rattle.history_model.specs.Stored.{stored}

-- the reply that acknowledges a transaction, by the digits of its number
abbrev pub ok_text : List ℕ → List ℕ
ok_text digits = codes "ok " ++ digits ++ 10 ∷ []

-- a transaction whose number has these digits is among the items: its number is its place, counted from 1
pub record HasTxn (digits : List ℕ) (items : List Item) : Type 0 where
  pub txn : Txn
  pub number : decimal txn.number ≡ digits
  pub before : List Txn
  pub behind : List Txn
  pub among : txns items ≡ before ++ txn ∷ behind
  pub place : txn.number ≡ length before + 1

-- the bytes store these items, and perhaps more behind them
pub record StoresMore (items : List Item) (bytes : List ℕ) : Type 0 where
  pub more : List Item
  pub all : (stored bytes).items ≡ items ++ more
