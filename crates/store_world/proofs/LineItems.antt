-- The items that a line adds to a store.
use Rattle.std.proofs.Common.{◌≡◌, List, [], ◌∷◌, length, drop, Option, Some, None, refl}
use Rattle.statement_core.specs.Database as statements
use Rattle.validator.specs.declared.fail.AuditFail.{AuditFail}
use Rattle.validator.specs.Notarizing.{Intent}
use Rattle.store_world.specs.ItemsMore.{items_added}
use Rattle.store_world.specs.World.{World, with_store}
use Rattle.store_world.specs.Steps.{Step, unless, filed, reached, carried_out}

pub drop_all : {A : Type 0} (xs : List A) → drop (length xs) xs ≡ []
drop_all [] = refl
drop_all (x ∷ xs) = drop_all xs

-- none where the store stays
pub none_added : (o : Option statements.Database) → items_added o o ≡ []
none_added None = refl
none_added (Some store) = drop_all store.items

-- what is refused, or not, stands over the same world
pub unless_world : (fault : Option AuditFail) (new : World) (s : Step) → s.world ≡ new → (unless fault new s).world ≡ new
unless_world (Some fail) new s is = refl
unless_world None new s is = is

-- the world of a notarization that is carried out
pub carried_world : (w : World) (store : statements.Database) (i : Intent) (refusal : Option AuditFail) → (carried_out w store i refusal).world ≡ filed (with_store w (reached i.frontier store)) i.batches
carried_world w store i refusal = unless_world refusal _ _ refl
