-- What a line asks for.
use Rattle.stmt_text.specs.declared.kind.LineKind.{LineKind}
use Rattle.stmt_text.specs.declared.kind.LineKind.TheVariants as kinds
use Rattle.stmt_text.specs.declared.kind.WorldPart.TheVariants as parts
use Rattle.stmt_text.specs.declared.kind.NotaryLine.TheVariants as asked
use Rattle.stmt_text.specs.declared.stmt.Stmt.{Stmt}
use Rattle.stmt_text.specs.declared.stmt.Stmt.TheVariants as stmts
use Rattle.stmt_text.specs.declared.line.Line.{Line}
use Rattle.stmt_text.specs.declared.line.Line.TheVariants as lines

-- a statement outside sessions
abbrev pub stmt_kind : Stmt → LineKind
stmt_kind (stmts.Create table columns) = kinds.InWorld parts.Tables
stmt_kind (stmts.Insert table row) = kinds.InWorld parts.Tables
stmt_kind (stmts.Update table row) = kinds.InWorld parts.Tables
stmt_kind (stmts.Delete table key) = kinds.InWorld parts.Tables
stmt_kind (stmts.Get table key moment) = kinds.InWorld parts.Tables
stmt_kind (stmts.Scan table filter moment) = kinds.InWorld parts.Tables
stmt_kind (stmts.History table key) = kinds.InWorld parts.Tables
stmt_kind (stmts.OverSelect from to table filter) = kinds.InWorld parts.Tables
stmt_kind (stmts.OverJoin from to left right left_column right_column) = kinds.InWorld parts.Tables
stmt_kind stmts.Notarize = kinds.InWorld (parts.Notary asked.Notarize)
stmt_kind stmts.Validate = kinds.InWorld (parts.Notary asked.Validate)
stmt_kind stmts.Audit = kinds.InWorld (parts.Notary asked.Audit)
stmt_kind (stmts.Policy k chains) = kinds.InWorld (parts.Notary (asked.Policy k chains))
stmt_kind (stmts.Analyse algorithm era) = kinds.InWorld (parts.Notary (asked.Analyse algorithm era))
stmt_kind (stmts.Now moment) = kinds.SetsMoment moment
stmt_kind stmts.Begin = kinds.OutsideScripts
stmt_kind stmts.Commit = kinds.OutsideScripts
stmt_kind stmts.Abort = kinds.OutsideScripts

-- a line
abbrev pub line_kind : Line → LineKind
line_kind lines.Blank = kinds.Blank
line_kind (lines.Plain stmt) = stmt_kind stmt
line_kind (lines.InSession session stmt) = kinds.InWorld parts.Sessions
line_kind (lines.Drill event) = kinds.OutsideScripts
