use Rattle.std.proofs.Common.{◌++◌, length}
use Rattle.std.specs.Int.{w16, to_be_bytes}
use Rattle.tuple_bytes.proofs.Putting.{IsPut}
use Rattle.notary_book.specs.Spelling.{spell_seal, FitsSeal}
use Rattle.notary_book.proofs.writing.put_seals.Given as goal

abbrev pub invariant-loop-seal : goal.invariant-loop-seal
invariant-loop-seal l = IsPut spell_seal FitsSeal (l.fn.out.items ++ to_be_bytes w16 (length l.seals)) l.out.items l.seals l.seal-index
