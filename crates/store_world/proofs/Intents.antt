-- A notarization over an open store is to do what it is to do in the world that the store stands for.
use Rattle.std.proofs.Common.{◌≡◌, ℕ, Bool, false, List, Result, ap, subst, ◌∙◌}
use Rattle.store_engine.specs.Opened.{Opened}
use Rattle.store_engine.specs.Refusals.{Tail, tail_of}
use Rattle.statement_core.specs.Database as statements
use Rattle.validator.specs.Desk.{Desk}
use Rattle.validator.specs.declared.fail.AuditFail.{AuditFail}
use Rattle.validator.specs.Notarizing.{Heard, Intent, intent_of, early_fault}
use Rattle.validator.specs.Reaching.{CarriesOut}
use Rattle.store_world.specs.Steps.{intent_in}

module _ (now : ℕ) (ws : statements.Database) (s : Opened) (before : List ℕ) (stands : statements.IsIn ws s before) (is_open : s.at.is_closed ≡ false) where
  pub tail_is : tail_of s ≡ statements.tail_of_database ws
  tail_is =
      let h = stands.header in
      let end = stands.end in
      let count = stands.open_on.knows.count in
      let last = stands.open_on.knows.last in
      cc

  -- whatever is heard
  pub intent_for : (heard : Heard) → intent_of (tail_of s) s.at.is_closed now ws.items heard ≡ intent_in ws now heard
  intent_for heard =
      ap (λ (t : Tail). intent_of t s.at.is_closed now ws.items heard) tail_is
      ∙ ap (λ (b : Bool). intent_of (statements.tail_of_database ws) b now ws.items heard) is_open

  -- what speaks early against it
  pub early_in : early_fault (tail_of s) s.at.is_closed now ≡ early_fault (statements.tail_of_database ws) false now
  early_in = ap (λ (t : Tail). early_fault t s.at.is_closed now) tail_is ∙ ap (λ (b : Bool). early_fault (statements.tail_of_database ws) b now) is_open

  pub does_in : (heard : Heard) (r : Result ℕ AuditFail) (later : Opened) (old new : Desk) (after : List ℕ) → CarriesOut (intent_of (tail_of s) s.at.is_closed now ws.items heard) ws.items r s later old new before after → CarriesOut (intent_in ws now heard) ws.items r s later old new before after
  does_in heard r later old new after n = subst (λ (x : Intent). CarriesOut x ws.items r s later old new before after) (intent_for heard) n
