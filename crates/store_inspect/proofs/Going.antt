-- Items, one after another, by their spellings.
use Rattle.std.proofs.Common.{◌≡◌, ℕ, ◌+◌, ◌<◌, map, length, get_or, take, length-take, List, [], ◌∷◌, ◌++◌, Some, sym, ap, subst, ◌∙◌, arith}
use Rattle.std.specs.List.{All}
use Rattle.std.proofs.lemmas.List.{take_more, get_or-map, length-map}
use Rattle.std.proofs.lemmas.List.Elements.{All-get_or}
use Rattle.tuple_bytes.specs.declared.header.Header.{Header}
use Rattle.tuple_bytes.specs.declared.item.Item.{Item}
use Rattle.tuple_bytes.specs.declared.item.Item.TheVariants as items
use Rattle.tuple_bytes.specs.Items.{item_of}
use Rattle.tuple_bytes.specs.Spelling.{Spells, spell_item, FitsItem}
use Rattle.tuple_bytes.proofs.ItemLaws.{whole_again}
use Rattle.store_inspect.specs.declared.items.Walk.{Walk}
use Rattle.store_inspect.specs.Items.{next_place}
use Rattle.store_inspect.specs.Known.{KnowsItems}

-- some item
abbrev pub some_item : Item
some_item = items.Frontier 0

-- a payload of a place spells the item of that place
pub spelled_at : (its : List Item) (payloads : List (List ℕ)) (i : ℕ) (payload : List ℕ) → payloads ≡ map spell_item its → All FitsItem its → i < length payloads
    → payload ≡ get_or payloads i payload → (i < length its) × (item_of payload ≡ Some (get_or its i some_item))
spelled_at its payloads i payload are fit below at =
    let within : i < length its = omega (arith, below, ap length are, length-map its spell_item) in
    let spells : Spells (get_or its i some_item) payload = (All-get_or FitsItem its i some_item within fit, at ∙ ap (λ (x : List (List ℕ)). get_or x i payload) are ∙ get_or-map spell_item its i some_item payload within) in
    (within, whole_again payload (get_or its i some_item) spells)

-- one item more is known
pub one_more : (header : Header) (its : List Item) (i : ℕ) (old new : Walk) → i < length its
    → ((h : Header) (before : List Item) → i + 1 ≡ next_place before → KnowsItems h old before → KnowsItems h new (before ++ get_or its i some_item ∷ [])) → KnowsItems header old (take i its) → KnowsItems header new (take (i + 1) its)
one_more header its i old new below takes known =
    let at : i + 1 ≡ next_place (take i its) = omega (arith, length-take i its, below) in
    let taken : take i its ++ get_or its i some_item ∷ [] ≡ take (i + 1) its = sym (take_more its i some_item below) in
    subst (KnowsItems header new) taken (takes header (take i its) at known)
