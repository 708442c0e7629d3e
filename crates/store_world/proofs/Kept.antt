-- An audit stays under way where items are stored behind those that it has read.
use Rattle.std.proofs.Common.{ℕ, List, ◌++◌, Option, Some, sym, ap, subst, ◌∙◌}
use Rattle.tuple_bytes.specs.declared.header.Header.{Header}
use Rattle.tuple_bytes.specs.declared.item.Item.{Item}
use Rattle.segment_file.specs.Places.{KeepsPlaces}
use Rattle.store_engine.specs.Opened.{Opened, Stores}
use Rattle.statement_core.specs.Database as statements
use Rattle.audit_steps.specs.declared.auditing.Auditing.{Auditing}
use Rattle.audit_steps.specs.Auditing.{IsAuditOf}
use Rattle.audit_steps.proofs.Staying.{audit_stays}
use Rattle.store_world.specs.Appending.{Extends}

-- an open store that stands for a database stands over bytes that store it
stores_own : (w : statements.Database) (s : Opened) (bytes : List ℕ) → statements.IsIn w s bytes → Stores w.header w.items bytes
stores_own w s bytes i = subst (λ (h : Header). Stores h w.items bytes) i.header i.open_on.stores

pub audit_kept : (id : ℕ) (auditing : Option Auditing) (w new : statements.Database) (s later : Opened) (before after : List ℕ) → Extends w new → KeepsPlaces before after
    → statements.IsIn w s before → statements.IsIn new later after → IsAuditOf id auditing before → IsAuditOf id auditing after
audit_kept id auditing w new s later before after more places was is audit =
    let old = stores_own w s before was in
    let now = stores_own new later after is in
    audit_stays id auditing before after more.more audit places
    (now.header_is ∙ ap (λ (h : Header). Some h) more.header ∙ sym old.header_is)
    (now.items_are ∙ more.items ∙ ap (λ (l : List Item). l ++ more.more) (sym old.items_are))
