-- The moment that a payload names is that of its transaction.
use Rattle.std.proofs.Common.{◌≡◌, ◌≢◌, ℕ, zero, suc, ◌^◌, List, ◌++◌, Option, Some, None, refl, ap, ◌∙◌}
use Rattle.std.specs.Int.{w32, w64, to_be_bytes}
use Rattle.byte_grammar.specs.Reading.{number, ◌>>=◌}
use Rattle.byte_grammar.proofs.Fields.{number_reads, wide32, wide64}
use Rattle.tuple_bytes.specs.declared.item.Item.{Item}
use Rattle.tuple_bytes.specs.declared.item.Item.TheVariants as items
use Rattle.tuple_bytes.specs.Spelling.{Spells, spell_ops}
use Rattle.history_model.specs.Spelled.{moment_by, moment_at, txn_moment}

pub moment_by_other : (tag : ℕ) (bytes : List ℕ) → tag ≢ 1 → moment_by tag bytes ≡ None
unfolding moment_by
moment_by_other zero bytes other = refl
moment_by_other (suc zero) bytes other = absurd (other refl)
moment_by_other (suc (suc tag)) bytes other = refl

then_is : {A B : Type 0} (o : Option A) (x : A) (f : A → Option B) → o ≡ Some x → (o >>= f) ≡ f x
then_is o x f is = rw is refl

pub moment_read : (item : Item) (bytes : List ℕ) → Spells item bytes → moment_at bytes ≡ txn_moment item
unfolding moment_at moment_by
moment_read (items.Frontier moment) bytes s = ap moment_at s.1
moment_read (items.Policy tile granule k algs) bytes s = ap moment_at s.1
moment_read (items.Txn t) bytes s =
    let ops = spell_ops t.ops in
    let rest = to_be_bytes w64 t.moment ++ ops in
    ap moment_at s.1
    ∙ then_is (number w32 (to_be_bytes w32 t.number ++ rest)) (t.number, rest) (λ n. number w64 n.1 >>= (λ m. Some m.0)) ((number_reads w32 (2 ^ 32) wide32).again t.number rest s.0.0)
    ∙ then_is (number w64 rest) (t.moment, ops) (λ m. Some m.0) ((number_reads w64 (2 ^ 64) wide64).again t.moment ops s.0.1)
