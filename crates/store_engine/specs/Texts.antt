-- The texts of refusals.
use Rattle.std.specs.Prelude.{ℕ, List, codes}
use Rattle.byte_grammar.specs.Numbered.{numbered}
use Rattle.store_engine.specs.declared.fail.StoreFail.{StoreFail}
use Rattle.store_engine.specs.declared.fail.StoreFail.TheVariants as fails

-- the name of a refusal, and its detail
unfoldable pub refusal_text : StoreFail → List ℕ
refusal_text fails.NotAStore = codes "NotAStore"
refusal_text fails.OldFormat = codes "OldFormat"
refusal_text (fails.ClockBack last) = numbered (codes "ClockBack ") last
refusal_text fails.TooLate = codes "TooLate"
refusal_text fails.TooManyOps = codes "TooManyOps"
refusal_text fails.TooLong = codes "TooLong"
refusal_text fails.StoreFull = codes "StoreFull"
refusal_text fails.DiskFault = codes "DiskFault"
refusal_text fails.Closed = codes "Closed"
refusal_text fails.NoMemory = codes "NoMemory"
