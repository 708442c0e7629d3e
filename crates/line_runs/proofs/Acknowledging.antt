-- What lines of a run acknowledge stays stored.
use Rattle.std.proofs.Common.{◌≡◌, ◌∙◌, ℕ, Bool, true, false, List, [], ◌∷◌, ◌++◌, length, Option, Some, None, Result, Ok, Err, refl, sym, ap, subst, arith, append_assoc, length-append}
use Rattle.std.specs.Prelude.{codes}
use Rattle.std.proofs.lemmas.List.{append_cancel_left}
use Rattle.std.proofs.lemmas.List.Sums.{fold-append}
use Rattle.std.proofs.lemmas.List.Elements.{filter_map-append}
use Rattle.tuple_bytes.specs.declared.item.Item.{Item}
use Rattle.tuple_bytes.specs.declared.item.Txn.{Txn}
use Rattle.history_model.specs.Stored.{stored}
use Rattle.history_model.specs.History.{History, txns, txn_in}
use Rattle.stmt_text.specs.declared.error.ParseFail.{ParseFail}
use Rattle.stmt_text.specs.declared.error.ParseFail.TheVariants as parses
use Rattle.stmt_text.specs.declared.line.Line.{Line}
use Rattle.stmt_text.specs.Lines.{answer}
use Rattle.statement_core.specs.Database as statements
use Rattle.store_world.specs.Found.{Found}
use Rattle.store_world.specs.World.{StoresWorld, StoresOf}
use Rattle.store_world.specs.Steps.{step}
use Rattle.store_world.specs.Acknowledged.{HasTxn, StoresMore, ok_text}
use Rattle.store_world.specs.Appending.{IsStored, OnlyAppends}
use Rattle.store_world.proofs.Texts.{SaysOk, says_ok}
use Rattle.store_world.proofs.Acknowledging.{appends_none, steps_append, steps_acknowledge}
use Rattle.stmt_text.specs.declared.kind.LineKind.{LineKind}
use Rattle.stmt_text.specs.declared.kind.LineKind.TheVariants as kinds
use Rattle.stmt_text.specs.Kinds.{line_kind}
use Rattle.line_runs.specs.Running.{Running, Timed, carry, carried, answered, said_by, seconds_of, set_moment, refused_text, IsReplied}
use Rattle.line_runs.specs.Laws.{AcknowledgedIsStored, RunsOnlyAppend}

-- ---- only items more are stored

pub append_then : (a b c : Option statements.Database) → OnlyAppends a b → OnlyAppends b c → OnlyAppends a c
append_then None None None one two = tt
append_then None None (Some z) one two = absurd two
append_then None (Some y) c one two = absurd one
append_then (Some x) None c one two = absurd one
append_then (Some x) (Some y) None one two = absurd two
append_then (Some x) (Some y) (Some z) one two = record {
  header = two.header ∙ one.header;
  more = one.more ++ two.more;
  items = two.items ∙ ap (λ (is : List Item). is ++ two.more) one.items ∙ append_assoc x.items one.more two.more;
}

-- the store after this
abbrev Appends : Running → Running → Type 0
Appends r next = OnlyAppends r.world.store next.world.store

moment_appends : (b : Bool) (r : Running) (moment : ℕ) → Appends r (set_moment b r moment)
moment_appends true r moment = appends_none r.world.store
moment_appends false r moment = appends_none r.world.store

pub said_appends : (kind : LineKind) (scripted : Bool) (now : ℕ) (found : Found) (r : Running) (line : Line) → Appends r (said_by kind scripted now found r line)
said_appends kinds.Blank scripted now found r line = appends_none r.world.store
said_appends (kinds.InWorld part) scripted now found r line = steps_append r.world line now found
said_appends (kinds.SetsMoment moment) scripted now found r line = moment_appends scripted r moment
said_appends kinds.OutsideScripts scripted now found r line = appends_none r.world.store

pub answer_appends : (scripted : Bool) (now : ℕ) (found : Found) (r : Running) (x : Result Line ParseFail) → Appends r (answered scripted now found r x)
answer_appends scripted now found r (Ok line) = said_appends (line_kind line) scripted now found r line
answer_appends scripted now found r (Err parses.Syntax) = appends_none r.world.store
answer_appends scripted now found r (Err parses.NumberTooWide) = appends_none r.world.store
answer_appends scripted now found r (Err parses.NoMemory) = appends_none r.world.store

carry_appends : (scripted : Bool) (r : Running) (t : Timed) → Appends r (carry scripted r t)
unfolding carry
carry_appends scripted r t = answer_appends scripted (seconds_of scripted r t.second) t.found r (answer t.line)

pub runs_append : RunsOnlyAppend
runs_append scripted begin [] = appends_none begin.world.store
runs_append scripted begin (t ∷ timed) =
    append_then begin.world.store (carry scripted begin t).world.store (carried scripted begin (t ∷ timed)).world.store (carry_appends scripted begin t) (runs_append scripted (carry scripted begin t) timed)

-- ---- what a line acknowledges

-- a line that is replied so leaves a store that has the transaction
abbrev pub Acknowledges : List ℕ → Running → Running → Type 0
Acknowledges digits r next = next.text ≡ r.text ++ ok_text digits → IsStored digits next.world.store

-- another reply
says_else : (digits : List ℕ) (r next : Running) (text : List ℕ) → next.text ≡ r.text ++ text → (SaysOk text → ⊥) → Acknowledges digits r next
says_else digits r next text is never ok = absurd (never (subst SaysOk (append_cancel_left r.text (ok_text digits) text (sym ok ∙ is)) (says_ok digits)))

-- no reply
says_none : (digits : List ℕ) (r : Running) → Acknowledges digits r r
says_none digits r is =
    let n : length r.text ≡ length (r.text ++ ok_text digits) = ap length is in
    absurd (omega (arith, n, length-append r.text (ok_text digits)))

refusal_no : (name : List ℕ) → SaysOk (refused_text name) → ⊥
refusal_no name ok = (let first = ok.first in omega (arith, first))

moment_no : SaysOk (codes "ok\n") → ⊥
moment_no ok = (let third = ok.third in omega (arith, third))

module _ (digits : List ℕ) where
  moment_acks : (b : Bool) (r : Running) (moment : ℕ) → Acknowledges digits r (set_moment b r moment)
  moment_acks true r moment = says_else digits r (set_moment true r moment) (codes "ok\n") refl moment_no
  moment_acks false r moment = says_else digits r (set_moment false r moment) (refused_text (codes "NotScripted")) refl (refusal_no (codes "NotScripted"))

  pub said_acks : (kind : LineKind) (scripted : Bool) (now : ℕ) (found : Found) (r : Running) (line : Line) → Acknowledges digits r (said_by kind scripted now found r line)
  said_acks kinds.Blank scripted now found r line = says_none digits r
  said_acks (kinds.InWorld part) scripted now found r line = λ is. steps_acknowledge r.world line now found digits (append_cancel_left r.text (step r.world line now found).text (ok_text digits) is)
  said_acks (kinds.SetsMoment moment) scripted now found r line = moment_acks scripted r moment
  said_acks kinds.OutsideScripts scripted now found r line = says_else digits r (said_by kinds.OutsideScripts scripted now found r line) (refused_text (codes "Syntax")) refl (refusal_no (codes "Syntax"))

  pub answer_acks : (scripted : Bool) (now : ℕ) (found : Found) (r : Running) (x : Result Line ParseFail) → Acknowledges digits r (answered scripted now found r x)
  answer_acks scripted now found r (Ok line) = said_acks (line_kind line) scripted now found r line
  answer_acks scripted now found r (Err parses.Syntax) = says_else digits r (answered scripted now found r (Err parses.Syntax)) (refused_text (codes "Syntax")) refl (refusal_no (codes "Syntax"))
  answer_acks scripted now found r (Err parses.NumberTooWide) = says_else digits r (answered scripted now found r (Err parses.NumberTooWide)) (refused_text (codes "NumberTooWide")) refl (refusal_no (codes "NumberTooWide"))
  answer_acks scripted now found r (Err parses.NoMemory) = says_none digits r

  carry_acks : (scripted : Bool) (r : Running) (t : Timed) → Acknowledges digits r (carry scripted r t)
  unfolding carry
  carry_acks scripted r t = answer_acks scripted (seconds_of scripted r t.second) t.found r (answer t.line)

-- ---- and what stays

txns_both : (xs ys : List Item) → txns (xs ++ ys) ≡ txns xs ++ txns ys
txns_both xs ys = filter_map-append txn_in xs ys

pub txn_stays : (digits : List ℕ) (is more : List Item) → HasTxn digits is → HasTxn digits (is ++ more)
txn_stays digits is more has = record {
  txn = has.txn;
  number = has.number;
  before = has.before;
  behind = has.behind ++ txns more;
  among = txns_both is more ∙ ap (λ (ts : List Txn). ts ++ txns more) has.among ∙ append_assoc has.before (has.txn ∷ has.behind) (txns more);
  place = has.place;
}

pub stays_stored : (digits : List ℕ) (a b : Option statements.Database) → IsStored digits a → OnlyAppends a b → IsStored digits b
stays_stored digits None b has more = absurd has
stays_stored digits (Some x) None has more = absurd more
stays_stored digits (Some x) (Some y) has more = subst (HasTxn digits) (sym more.items) (txn_stays digits x.items more.more has)

pub acknowledged_stored : AcknowledgedIsStored
acknowledged_stored scripted begin timed digits r =
    let here : Running = carried scripted begin r.before in
    let on : Running = carry scripted here r.line in
    let one : carried scripted begin (r.before ++ r.line ∷ []) ≡ on = fold-append (carry scripted) begin r.before (r.line ∷ []) in
    let has : IsStored digits on.world.store = carry_acks digits scripted here r.line (sym (ap (λ (x : Running). x.text) one) ∙ r.reply) in
    let later : carried scripted begin timed ≡ carried scripted on r.behind = ap (carried scripted begin) r.all ∙ fold-append (carry scripted) begin r.before (r.line ∷ r.behind) in
    subst (λ (x : Running). IsStored digits x.world.store) (sym later) (stays_stored digits on.world.store (carried scripted on r.behind).world.store has (runs_append scripted on r.behind))

-- ---- in bytes

pub stored_in : (id : ℕ) (digits : List ℕ) (o : Option statements.Database) (old : Option History) (c : List ℕ) → IsStored digits o → StoresOf id o old c → HasTxn digits (stored c).items
stored_in id digits None old c has is = absurd has
stored_in id digits (Some w) old c has is = subst (HasTxn digits) (sym is.items_are) has

pub more_in : (id : ℕ) (first : statements.Database) (o : Option statements.Database) (old : Option History) (c : List ℕ) → OnlyAppends (Some first) o → StoresOf id o old c → StoresMore first.items c
more_in id first None old c more is = absurd more
more_in id first (Some w) old c more is = record { more = more.more; all = is.items_are ∙ more.items }

-- bytes that store what the world has after lines of which one was replied so
pub acknowledged_in : (scripted : Bool) (begin : Running) (timed : List Timed) (digits c : List ℕ) → IsReplied (ok_text digits) scripted begin timed → StoresWorld (carried scripted begin timed).world c → HasTxn digits (stored c).items
acknowledged_in scripted begin timed digits c r is = let w = (carried scripted begin timed).world in stored_in w.id digits w.store w.old_history c (acknowledged_stored scripted begin timed digits r) is

-- a line more takes no reply back
pub replied_more : (text : List ℕ) (scripted : Bool) (begin : Running) (timed more : List Timed) → IsReplied text scripted begin timed → IsReplied text scripted begin (timed ++ more)
replied_more text scripted begin timed more r = record {
  before = r.before;
  line = r.line;
  behind = r.behind ++ more;
  all = ap (λ (ts : List Timed). ts ++ more) r.all ∙ append_assoc r.before (r.line ∷ r.behind) more;
  reply = r.reply;
}

-- bytes that store what the world has after some lines
pub appended_in : (scripted : Bool) (begin : Running) (first : statements.Database) (timed : List Timed) (c : List ℕ) → begin.world.store ≡ Some first → StoresWorld (carried scripted begin timed).world c → StoresMore first.items c
appended_in scripted begin first timed c is stores =
    let w = (carried scripted begin timed).world in
    more_in w.id first w.store w.old_history c (subst (λ (o : Option statements.Database). OnlyAppends o w.store) is (runs_append scripted begin timed)) stores
