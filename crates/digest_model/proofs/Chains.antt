-- The chain item by item is the chain over the transactions.
use Rattle.std.proofs.Common.{◌≡◌, ℕ, List, [], ◌∷◌, map, fold, refl}
use Rattle.tuple_bytes.specs.declared.item.Item.{Item}
use Rattle.tuple_bytes.specs.declared.item.Item.TheVariants as items
use Rattle.tuple_bytes.specs.Spelling.{spell_txn}
use Rattle.tuple_bytes.specs.Writing.{IsCounted}
use Rattle.tuple_bytes.proofs.ItemLaws.{fits_counted}
use Rattle.history_model.specs.Stored.{IsStorable}
use Rattle.history_model.specs.History.{txns}
use Rattle.digest_model.specs.Digests.{next_link}
use Rattle.digest_model.specs.Plain.{after_item}

pub items_linked : (previous : List ℕ) (is : List Item) → fold after_item previous is ≡ fold next_link previous (map spell_txn (txns is))
items_linked previous [] = refl
items_linked previous (items.Txn t ∷ is) = items_linked (next_link previous (spell_txn t)) is
items_linked previous (items.Frontier moment ∷ is) = items_linked previous is
items_linked previous (items.Policy tile granule k algs ∷ is) = items_linked previous is

-- ---- what can be held can be written

pub counted : (item : Item) → IsStorable item → IsCounted item
counted item s = fits_counted item s.fits
