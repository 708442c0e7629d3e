-- Sessions over a store that is opened, or that gets no transaction more.
use Rattle.std.proofs.Common.{◌≡◌, ℕ, ◌≤◌, List, Option, None, IfSome, sym, subst}
use Rattle.std.specs.BTreeMap.{is_at}
use Rattle.std.specs.Map.{lookup}
use Rattle.std.specs.Ordering.{nat_cmp}
use Rattle.tuple_bytes.specs.declared.item.Txn.{Txn}
use Rattle.history_model.specs.History.{txns}
use Rattle.store_engine.specs.Opened.{Opened}
use Rattle.statement_core.specs.Database as statements
use Rattle.session_model.specs.Service.{Session}
use Rattle.session_model.specs.Index.{AreNumbered, IsIndex}
use Rattle.session_model.specs.Standing.{Kept, Machine, NoneKept, IsSession, IsIn, numbers_at}
use Rattle.store_world.specs.World.{no_sessions}

-- with no session kept an open store stands for what is stored without any session
pub stands_fresh : (w : statements.Database) (kept : Machine) (s : Opened) (bytes : List ℕ) → NoneKept kept → statements.IsIn w s bytes → IsIn (record { store = w; sessions = no_sessions }) kept s bytes
stands_fresh w kept s bytes none stands = record {
  store = stands;
  sessions = λ n. subst (λ (all : List (ℕ × Kept)). IsSession None (lookup (is_at (nat_cmp n)) all)) (sym none) tt;
  room = λ n. tt;
  numbered = λ n. tt;
  indexed = λ n. tt;
}

-- what is kept of sessions goes by the transactions alone
pub stands_still : (w next : statements.Database) (begun : ℕ → Option Session) (kept : Machine) (s later : Opened) (bytes after : List ℕ) → txns next.items ≡ txns w.items
    → statements.IsIn next later after → IsIn (record { store = w; sessions = begun }) kept s bytes → IsIn (record { store = next; sessions = begun }) kept later after
stands_still w next begun kept s later bytes after same store i = record {
  store = store;
  sessions = i.sessions;
  room = i.room;
  numbered = λ n. subst (λ (ts : List Txn). IfSome (begun n) (λ k. AreNumbered k.begun ts)) (sym same) (i.numbered n);
  indexed = λ n. subst (λ (ts : List Txn). IfSome (begun n) (λ k. (kept.touched.from ≤ k.begun) × IsIndex kept.touched.from (numbers_at kept.touched.places) ts)) (sym same) (i.indexed n);
}
