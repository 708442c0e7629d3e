-- The script that a seed gives: inserts, updates and deletes on one table, then a notarization and a validation.
use Rattle.std.specs.Prelude.{ℕ, zero, suc, ◌+◌, ◌%◌, ◌==◌, min, pos, Bool, true, false, if◌then◌else◌, List, [], ◌∷◌, ◌++◌, codes}
use Rattle.std.specs.List.{flat_map}
use Rattle.rand_pcg.specs.Lcg.{Lcg, started, increment_of}
use Rattle.rand_pcg.specs.Pcg.{multiplier_64, pcg32}
use Rattle.tuple_bytes.specs.declared.value.Value.{Value}
use Rattle.tuple_bytes.specs.declared.value.Value.TheVariants as values
use Rattle.tuple_bytes.specs.declared.op.Kind.TheVariants as kinds
use Rattle.stmt_text.specs.declared.stmt.Stmt.{Stmt}
use Rattle.stmt_text.specs.declared.stmt.Stmt.TheVariants as stmts
use Rattle.stmt_text.specs.declared.line.Line.TheVariants as lines
use Rattle.stmt_text.specs.Numbers.{max_u64}
use Rattle.stmt_text.specs.Printing.{line_text}
use Rattle.workload_make.specs.declared.change.Change.{Change}
use Rattle.workload_make.specs.declared.change.Change.TheVariants.{Insert, Update, Delete}

-- ---- the generator

-- of a seed, on stream 0
abbrev pub generator_of : ℕ → Lcg
generator_of seed = started 64 multiplier_64 seed (increment_of 64 0)

-- its next word, of 32 bits
unfoldable pub word : Lcg → ℕ
word g = (pcg32 g).0

-- the generator behind that word
unfoldable pub behind : Lcg → Lcg
behind g = (pcg32 g).1

-- ---- one step

-- where a script stands between two steps
pub record Progress : Type 0 where
  pub moment : ℕ
  pub generator : Lcg
  -- which keys have a row
  pub is_present : ℕ → Bool

-- the three words of a step
abbrev pub first_word : Progress → ℕ
first_word p = word p.generator

abbrev pub second_word : Progress → ℕ
second_word p = word (behind p.generator)

abbrev pub third_word : Progress → ℕ
third_word p = word (behind (behind p.generator))

-- the first says how many seconds pass, always fewer than a granule has; the moment stays at the greatest number
abbrev pub next_moment : ℕ → Progress → ℕ
next_moment width p = min (p.moment + first_word p % width) max_u64

-- the second says at which of the keys 1 to 1000 something is done
abbrev pub key : Progress → ℕ
key p = 1 + second_word p % 1000

-- the third gives the amount
abbrev pub amount : Progress → ℕ
amount p = third_word p % 100000

-- and what is done: a key that is not present is inserted, else it is deleted at every tenth word, and updated at the others
abbrev pub change_of : Bool → ℕ → Change
change_of is_present third = if is_present then (if third % 10 == 0 then Delete else Update) else Insert

abbrev pub change_at : Progress → Change
change_at p = change_of (p.is_present (key p)) (third_word p)

-- whether the key is present behind a change
abbrev pub leaves_present : Change → Bool
leaves_present Insert = true
leaves_present Update = true
leaves_present Delete = false

abbrev pub after_step : ℕ → Progress → Progress
after_step width p = record {
  moment = next_moment width p;
  generator = behind (behind (behind p.generator));
  is_present = λ k. if k == key p then leaves_present (change_at p) else p.is_present k;
}

-- ---- its statements

-- the table of a script
abbrev pub made : List ℕ
made = codes "made"

abbrev pub number : ℕ → Value
number n = values.Int (pos n)

abbrev pub change_stmt : Change → ℕ → ℕ → Stmt
change_stmt Insert key amount = stmts.Insert made (number key ∷ number amount ∷ [])
change_stmt Update key amount = stmts.Update made (number key ∷ number amount ∷ [])
change_stmt Delete key amount = stmts.Delete made (number key)

-- a step is two statements
abbrev pub step_stmts : ℕ → Progress → List Stmt
step_stmts width p = stmts.Now (next_moment width p) ∷ change_stmt (change_at p) (key p) (amount p) ∷ []

-- so many steps
unfoldable pub steps : ℕ → ℕ → Progress → List Stmt
steps zero width p = []
steps (suc count) width p = step_stmts width p ++ steps count width (after_step width p)

-- ---- the whole

abbrev pub create_made : Stmt
create_made = stmts.Create made (record { name = codes "id"; kind = kinds.Int } ∷ record { name = codes "amount"; kind = kinds.Int } ∷ [])

-- how many steps a script has at most
abbrev pub max_steps : ℕ
max_steps = 100000

-- before the first step, behind this moment
abbrev pub before_steps : ℕ → ℕ → Progress
before_steps last seed = record { moment = last; generator = generator_of seed; is_present = λ k. false }

-- the statements of a script, for a store of this granule width and last moment
unfoldable pub script_stmts : ℕ → ℕ → ℕ → ℕ → List Stmt
script_stmts width last seed count = create_made ∷ (steps count width (before_steps last seed) ++ (stmts.Notarize ∷ stmts.Validate ∷ []))

-- a statement as a line outside sessions, and its line feed
abbrev pub ended_line : Stmt → List ℕ
ended_line stmt = line_text (lines.Plain stmt) ++ 10 ∷ []

abbrev pub lines_text : List Stmt → List ℕ
lines_text all = flat_map ended_line all

-- the text of a script: each statement is one line
unfoldable pub script : ℕ → ℕ → ℕ → ℕ → List ℕ
script width last seed count = lines_text (script_stmts width last seed count)
