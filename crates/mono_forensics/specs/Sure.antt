-- A notary that answers whatever the search asks.
use Rattle.std.specs.Prelude.{◌≡◌, ◌<◌, ◌≤◌, ◌-◌, ◌^◌, ℕ, Bool, true, false, Option, Some, None, IsSome}
use Rattle.history_model.specs.History.{History}
use Rattle.notary_link.specs.Notary.{Lists, State}
use Rattle.audit_model.specs.Notary.{NotaryOf}

-- No question fails: none is to fail, and none takes memory. The calls are told, and the count of faults is not at its end.
pub record FailsNoQuestion (takes_memory : Bool) (s : State) : Type 0 where
  pub no_memory : takes_memory ≡ false
  pub sure : s.sure ≡ true
  pub traced : IsSome s.trace
  pub counts : s.faults < 2 ^ 64 - 1

-- The lists are told, and hold the batches of a history with at least n sealed tiles.
abbrev pub HoldsTiles : Option Lists → ℕ → ℕ → Type 0
HoldsTiles None id n = ⊥
HoldsTiles (Some lists) id n = (h : History) × (tiles : ℕ) × NotaryOf (lists.batches id) id h tiles × (n ≤ tiles)
