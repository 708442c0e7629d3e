use Rattle.std.proofs.Common.{IfOk, IfSome, OnOk, ◌++◌, sym, subst}
use Rattle.std.specs.Map.{keys_of}
use Rattle.history_model.specs.Answers.{write_key, write_name}
use Rattle.stmt_text.specs.declared.stmt.Stmt.{Stmt}
use Rattle.statement_core.specs.Steps.{write_in}
use Rattle.session_model.specs.Conflicts.{AreSameReads}
use Rattle.session_model.specs.Places.{reads_of}
use Rattle.session_core.specs.Noted.{IsNotedAt}
use Rattle.session_core.proofs.reads.Reads.note.Goals as goal

pub returns-in-Create-clause-value : goal.returns-in-Create-clause-value
returns-in-Create-clause-value c = subst (λ (s : Stmt). OnOk c.make_table.result (AreSameReads (keys_of c.make_table.new.self.places) (keys_of c.args.self.now.places ++ reads_of s))) (sym c.in-Create.is) c.make_table.ensures.value

pub returns-in-Create-clause-change : goal.returns-in-Create-clause-change
returns-in-Create-clause-change c = subst (λ (s : Stmt). IfOk c.make_table.result (λ known. IfSome (write_in s) (λ change. IsNotedAt c.args.self.now (write_name change) (write_key change) known))) (sym c.in-Create.is) c.make_table.ensures.known

pub returns-in-Insert-clause-value : goal.returns-in-Insert-clause-value
returns-in-Insert-clause-value c = subst (λ (s : Stmt). OnOk c.set_row.result (AreSameReads (keys_of c.set_row.new.self.places) (keys_of c.args.self.now.places ++ reads_of s))) (sym c.in-Insert.is) c.set_row.ensures.value

pub returns-in-Update-clause-value : goal.returns-in-Update-clause-value
returns-in-Update-clause-value c = subst (λ (s : Stmt). OnOk c.set_row-in-Update.result (AreSameReads (keys_of c.set_row-in-Update.new.self.places) (keys_of c.args.self.now.places ++ reads_of s))) (sym c.in-Update.is) c.set_row-in-Update.ensures.value

pub returns-in-Delete-clause-value : goal.returns-in-Delete-clause-value
returns-in-Delete-clause-value c = subst (λ (s : Stmt). OnOk c.set_key.result (AreSameReads (keys_of c.set_key.new.self.places) (keys_of c.args.self.now.places ++ reads_of s))) (sym c.in-Delete.is) c.set_key.ensures.value

pub returns-in-Get-clause-value : goal.returns-in-Get-clause-value
returns-in-Get-clause-value c = subst (λ (s : Stmt). OnOk c.add_key.result (AreSameReads (keys_of c.add_key.new.self.places) (keys_of c.args.self.now.places ++ reads_of s))) (sym c.in-Get.is) c.add_key.ensures.value

pub returns-in-History-clause-value : goal.returns-in-History-clause-value
returns-in-History-clause-value c = subst (λ (s : Stmt). OnOk c.add_key-in-History.result (AreSameReads (keys_of c.add_key-in-History.new.self.places) (keys_of c.args.self.now.places ++ reads_of s))) (sym c.in-History.is) c.add_key-in-History.ensures.value
