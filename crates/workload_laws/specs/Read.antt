-- How the lines of a script are read.
use Rattle.std.specs.Prelude.{◌≡◌, ℕ, nat_le, if◌then◌else◌, List, map, Result, Ok, Err}
use Rattle.stmt_text.specs.declared.error.ParseFail.{ParseFail}
use Rattle.stmt_text.specs.declared.error.ParseFail.TheVariants as fails
use Rattle.stmt_text.specs.declared.line.Line.{Line}
use Rattle.stmt_text.specs.declared.line.Line.TheVariants as lines
use Rattle.stmt_text.specs.declared.stmt.Stmt.{Stmt}
use Rattle.stmt_text.specs.declared.stmt.Stmt.TheVariants as stmts
use Rattle.tuple_bytes.specs.Limits.{max_moment}
use Rattle.stmt_text.specs.Lines.{answer}
use Rattle.stmt_text.specs.Printing.{line_text}
use Rattle.line_input.specs.Lines.{lines_of}
use Rattle.workload_make.specs.Script.{script, script_stmts}

-- a statement as a line, without its feed
abbrev pub plain_line : Stmt → List ℕ
plain_line stmt = line_text (lines.Plain stmt)

-- what reading it answers: the statement, but for a moment that is greater than the grammar's last
abbrev pub read_back : Stmt → Result Line ParseFail
read_back (stmts.Now m) = if nat_le m max_moment then Ok (lines.Plain (stmts.Now m)) else Err fails.NumberTooWide
read_back stmt = Ok (lines.Plain stmt)

-- The text of a script is its statements, a line each, and each is read again.
pub record ScriptsAreRead : Type 0 where
  pub lines : (width last seed count : ℕ) → lines_of (script width last seed count) ≡ map plain_line (script_stmts width last seed count)
  pub answers : (width last seed count : ℕ) → map answer (lines_of (script width last seed count)) ≡ map read_back (script_stmts width last seed count)
