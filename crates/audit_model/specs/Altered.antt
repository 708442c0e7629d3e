-- Which granules of a file differ from the notarized ones.
use Rattle.std.specs.Prelude.{◌≡◌, ◌≢◌, ◌↔◌, ℕ, ◌+◌, ◌<◌, ◌==◌, ◌&&◌, nat_eq, if◌then◌else◌, Bool, ⊤, List, [], ◌∷◌, Contains, Option, Some, None}
use Rattle.std.specs.List.Sorted.{IsStrictlyIncreasing}
use Rattle.std.specs.Cmp.Lexicographic.{pointwise}
use Rattle.std.specs.List.{flat_map}
use Rattle.std.specs.Option.{option_map}
use Rattle.tuple_bytes.specs.declared.header.Header.{Header}
use Rattle.tuple_bytes.specs.declared.item.Txn.{Txn}
use Rattle.tuple_bytes.specs.Spelling.{spell_fields}
use Rattle.history_model.specs.declared.stored.Stored.{Stored}
use Rattle.history_model.specs.History.{History, history, rows}
use Rattle.digest_model.specs.Layout.{Era, layout, SameTiles, first_granule, tile_size, sealed_eras}
use Rattle.digest_model.specs.Inputs.{Clash}
use Rattle.audit_model.specs.Names.{inputs}

-- the history that is stored, where there is a header
abbrev pub history_in : Stored → Option History
history_in s = option_map (λ header. history header s.items) s.header

-- the history under a header, where that has this id
abbrev pub under_id : ℕ → Option Header → Stored → Option History
under_id id None s = None
under_id id (Some header) s = if header.id == id then Some (history header s.items) else None

-- the stored history, where its header has this id
abbrev pub history_with : ℕ → Stored → Option History
history_with id s = under_id id s.header s

-- two headers have the same fields
abbrev pub has_fields_of : Header → Header → Bool
has_fields_of a b = pointwise nat_eq (spell_fields a) (spell_fields b)

-- eras as numbers
abbrev pub era_numbers : List Era → List ℕ
era_numbers eras = flat_map (λ e. e.tile ∷ e.k ∷ e.algs ∷ []) eras

-- two lists have the same eras
abbrev pub has_eras_of : List Era → List Era → Bool
has_eras_of xs ys = pointwise nat_eq (era_numbers xs) (era_numbers ys)

-- over n sealed tiles: two histories have the same header fields, and the same eras of these tiles
abbrev pub has_places_of : History → History → ℕ → Bool
has_places_of h s n = has_fields_of h.header s.header && has_eras_of (sealed_eras (layout h) n) (sealed_eras (layout s) n)

-- what a file holds in a granule of h, over n sealed tiles: nothing comparable, where it has no header or another one, or other eras
abbrev pub view : History → Option History → ℕ → ℕ → Option (List Txn)
view h None n g = None
view h (Some s) n g = if has_places_of h s n then Some (rows s g) else None

-- over n sealed tiles: two histories have one header, and these tiles alike
pub record HasPlacesOf (h s : History) (n : ℕ) : Type 0 where
  pub header : h.header ≡ s.header
  pub tiles : SameTiles n (layout h) (layout s)

-- a file without the header of h, or without the eras of its n sealed tiles
abbrev pub HasOtherHeader : History → Option History → ℕ → Type 0
HasOtherHeader h None n = ⊤
HasOtherHeader h (Some s) n = spell_fields h.header ≡ spell_fields s.header → sealed_eras (layout h) n ≢ sealed_eras (layout s) n

-- a sealed granule that the file shows otherwise
pub record IsAltered (h : History) (s : Option History) (n g : ℕ) : Type 0 where
  pub is_sealed : g < first_granule (layout h) n
  pub differs : view h s n g ≢ Some (rows h g)

-- the granule of this number within a tile is altered
abbrev pub IsAlteredIn : History → History → ℕ → ℕ → ℕ → Type 0
IsAlteredIn h s n tile number =
    (number < tile_size (layout h) tile) × IsAltered h (Some s) n (first_granule (layout h) tile + number)

-- some granule of a tile is altered
abbrev pub HasAltered : History → History → ℕ → ℕ → Type 0
HasAltered h s n tile = (number : ℕ) × IsAlteredIn h s n tile number

-- the numbers of the altered granules of a tile, ascending
pub record IsAlteredSet (h s : History) (n tile : ℕ) (numbers : List ℕ) : Type 0 where
  pub set : IsStrictlyIncreasing numbers
  pub members : (number : ℕ) → Contains numbers number ↔ IsAlteredIn h s n tile number

-- what is hashed for what a file holds
abbrev pub stored_inputs : Option History → ℕ → List (List ℕ)
stored_inputs None n = []
stored_inputs (Some s) n = inputs s n

-- two inputs, one for h and one for the file, differ and have equal digests
abbrev pub HashClash : History → Option History → ℕ → Type 0
HashClash h s n = Clash (inputs h n) (stored_inputs s n)
