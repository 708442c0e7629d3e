-- Tables that all operations change at moment 0.
use Rattle.std.proofs.Common.{◌≡◌, ℕ, ◌≤◌, take, List, Result, Ok, Err, OnOk, OnErr, sym, ap, subst}
use Rattle.tuple_bytes.specs.declared.op.Op.{Op}
use Rattle.tt_table.specs.Versions.{TablesVersions, AreTables, applied}
use Rattle.tt_table.proofs.Keeping.{applied_kept}

after_ops_kept : (ops : List Op) (old new : TablesVersions) → old.last ≤ 0 → AreTables old → new ≡ applied 0 ops old → (new.last ≡ 0) × AreTables new
after_ops_kept ops old new le are is = (ap (λ (t : TablesVersions). t.last) is, subst AreTables (sym is) (applied_kept 0 ops old are le))

-- whatever was answered
pub kept_after : {E : Type 0} (r : Result (Unit {0}) E) (ops : List Op) (old new : TablesVersions) → old.last ≤ 0 → AreTables old → OnOk r (new ≡ applied 0 ops old) → OnErr r ((n : ℕ) × (new ≡ applied 0 (take n ops) old)) → (new.last ≡ 0) × AreTables new
kept_after (Ok x) ops old new le are ok err = after_ops_kept ops old new le are ok
kept_after (Err e) ops old new le are ok err = after_ops_kept (take err.0 ops) old new le are err.1
