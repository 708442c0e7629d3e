use Rattle.std.proofs.Common.{◌≡◌, ◌≤◌, [], ◌∷◌, ◌++◌, sym, ap, subst, ◌∙◌, arith}
use Rattle.std.specs.Map.{keys_of}
use Rattle.tuple_bytes.specs.declared.value.Value.TheVariants.{Null}
use Rattle.session_model.specs.declared.place.Place.{Place}
use Rattle.session_model.specs.declared.place.Place.TheVariants.{Key, Existence}
use Rattle.session_model.specs.Conflicts.{AreSameReads}
use Rattle.session_core.specs.Noted.{Lasts, first_at, last_at}
use Rattle.session_core.proofs.Lasts.{lowered}
use Rattle.session_core.proofs.reads.Reads.make_table.Goals as goal

pub returns-clause-value : goal.returns-clause-value
returns-clause-value c = subst (λ (l : Lasts). AreSameReads (keys_of l) (keys_of c.args.self.now.places ++ Existence c.args.table.now ∷ [])) (sym c.put_first.ensures.places) c.in_ok-creates_from.ensures.value

pub returns-clause-lowers : goal.returns-clause-lowers
returns-clause-lowers c =
    let table = c.args.table.now in
    let old = c.args.self.now.tables in
    let first : c.in_ok-creates_from.creates_from ≡ first_at c.args.self.now.tables c.args.table.now = c.in_ok-creates_from.ensures.first in
    let low : c.min.result ≤ first_at c.args.self.now.tables c.args.table.now = omega (arith, c.min.ensures) in
    lowered old c.add_existence.new.self.tables c.put_first.new.self.tables table c.min.result c.add_existence.ensures.firsts low c.put_first.ensures.puts

pub returns-clause-has : goal.returns-clause-has
returns-clause-has c =
    let first : first_at c.put_first.new.self.tables c.args.table.now ≡ c.min.result = c.put_first.ensures.has c.in_ok-creates_from.ensures.named in
    omega (arith, c.min.ensures)

pub returns-clause-known : goal.returns-clause-known
returns-clause-known c = (
  c.in_ok-creates_from.ensures.first,
  c.last-changes_to.ensures.value ∙ ap (λ (p : Place). last_at c.add_existence.new.self.places p) c.in_ok-place.ensures.value ∙ c.add_existence.ensures.keeps (Key c.args.table.now Null),
)
