-- The changing calls of a line, in order: those that store its items, and those that file its batches or note its mark.
use Rattle.std.specs.Prelude.{ℕ, suc, Bool, true, false, List, [], ◌∷◌, ◌++◌, length, take, Option, Some, None, Result, Ok, Err}
use Rattle.disk_words.specs.Disk as disks
use Rattle.tuple_bytes.specs.declared.item.Item.{Item}
use Rattle.tuple_bytes.specs.Spelling.{spell_item}
use Rattle.segment_file.specs.Append.{Standing, behind, append_calls}
use Rattle.notary_link.specs.declared.mark.Mark.{Mark}
use Rattle.notary_link.specs.Batches.{Batch}
use Rattle.notary_link.specs.Notary.{Call, note}
use Rattle.notary_link.specs.Filing.{filings, fitting, room_in}
use Rattle.stmt_text.specs.declared.stmt.Stmt.TheVariants as stmts
use Rattle.stmt_text.specs.declared.line.Line.{Line}
use Rattle.stmt_text.specs.declared.line.Line.TheVariants as lines
use Rattle.store_engine.specs.Appended.{standing}
use Rattle.statement_core.specs.Database as statements
use Rattle.validator.specs.declared.verdict.Verdict.{Verdict}
use Rattle.validator.specs.declared.fail.AuditFail.{AuditFail}
use Rattle.validator.specs.Notarizing.{Heard}
use Rattle.validator.specs.Verdicts.{mark_of}
use Rattle.store_world.specs.Found.{Found}
pub use Rattle.store_world.specs.ItemsMore.{items_added, with_items, end_of_store}
use Rattle.store_world.specs.World.{World}
use Rattle.store_world.specs.Steps.{Step, filed_for, intent_in, has_more}

-- ---- of the disk

-- those that store items: those of an append for each
abbrev pub appends : Standing → List Item → List disks.Call
appends at [] = []
appends at (item ∷ items) = append_calls at (spell_item item) ++ appends (behind at (spell_item item)) items

-- the calls of a line that makes this of a world, over these bytes
abbrev pub disk_calls : World → Step → List ℕ → List disks.Call
disk_calls w next bytes = appends (standing (end_of_store w.store) bytes) (items_added w.store next.world.store)

-- ---- of the notary

-- one for each batch that is filed, and one for the first that there is no room for
abbrev pub filing_calls : World → List Batch → List Call
filing_calls w batches = take (suc (fitting (room_in w.limits w.lists) batches)) (filings w.id (length (filed_for w)) batches)

-- none where something speaks against them
abbrev pub unless : Option AuditFail → List Call → List Call
unless (Some fail) calls = []
unless None calls = calls

-- those of a notarization, where this is heard
abbrev pub notarize_calls : World → Option statements.Database → ℕ → Heard → List Call
notarize_calls w None now heard = []
notarize_calls w (Some store) now heard = unless (intent_in store now heard).fault (filing_calls w (intent_in store now heard).batches)

-- the call that adds a mark, where there is one
abbrev pub noting : ℕ → Option Mark → List Call
noting id None = []
noting id (Some mark) = note id mark ∷ []

-- those of a validation, whether there is room for its mark or not
abbrev pub validate_calls : World → ℕ → Result Verdict AuditFail → List Call
validate_calls w now (Ok verdict) = noting w.id (mark_of verdict now)
validate_calls w now (Err fail) = []

-- those of an audit: none while it goes on
abbrev pub audit_calls : Bool → World → ℕ → Result Verdict AuditFail → List Call
audit_calls true w now found = []
audit_calls false w now found = validate_calls w now found

-- The calls of the notary by a line that found this.
unfoldable pub notary_calls : World → Line → ℕ → Found → List Call
notary_calls w (lines.Plain stmts.Notarize) now found = notarize_calls w w.store now found.heard
notary_calls w (lines.Plain (stmts.Policy k algs)) now found = []
notary_calls w (lines.Plain stmts.Validate) now found = validate_calls w now found.verdict
notary_calls w (lines.Plain stmts.Audit) now found = audit_calls (has_more w) w now found.verdict
notary_calls w line now found = []
