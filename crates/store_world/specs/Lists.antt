-- What a notary holds beside a world, and on the way to the next one.
use Rattle.std.specs.Prelude.{◌≡◌, ℕ, ◌≤◌, List, length, take}
use Rattle.outside_words.specs.Told.{WhereTold}
use Rattle.disk_words.specs.Disk as disks
use Rattle.notary_link.specs.declared.notary.NotaryLimits.{NotaryLimits}
use Rattle.notary_link.specs.Notary.{Lists, Keeps}
use Rattle.validator.specs.Desk.{Desk}
use Rattle.validator.specs.Filing.{HasFiledMore}
use Rattle.store_world.specs.World.{World, StoresWorld}

-- a notary of these limits that holds these lists has those of the world
pub record IsBeside (w : World) (most : NotaryLimits) (filed : Lists) : Type 0 where
  pub lists : Keeps w.lists filed
  pub limits : w.limits ≡ most

-- P of the lists before and after, where a notary tells them and has those of the world
abbrev pub WhereBeside : World → Desk → Desk → (Lists → Lists → Type 0) → Type 0
WhereBeside w old new P = WhereTold old.notary.lists new.notary.lists (λ lists later_lists. IsBeside w old.notary.limits lists → P lists later_lists)

-- a list, and some first ones of those that are to come
pub record IsBetween {A : Type 0} (old new middle : List A) : Type 0 where
  pub len : ℕ
  pub least : length old ≤ len
  pub front : middle ≡ take len new

-- under each id all batches and marks that were there, and some first ones of those to come
pub record AreBetween (old new middle : Lists) : Type 0 where
  pub batches : (id : ℕ) → IsBetween (old.batches id) (new.batches id) (middle.batches id)
  pub marks : (id : ℕ) → IsBetween (old.marks id) (new.marks id) (middle.marks id)

-- What becomes of such lists on the way from a world to the next one.
pub record ListsGo (w next : World) (Done : Type 0) (old new : disks.State) (before after : List ℕ) (later : Lists) : Type 0 where
  pub keeps : Done → Keeps next.lists later
  -- whatever was answered
  pub between : AreBetween w.lists next.lists later
  -- on a settled disk a batch is filed only where every image has reached the end of its tile
  pub ordered : (id : ℕ) → HasFiledMore id w.lists later → disks.Only before old → disks.Only after new × StoresWorld next after
