-- What a line does where a store is open: the store stays, or after a failure it is no matter where it stands.
use Rattle.std.proofs.Common.{◌≡◌, ℕ, Bool, false, List, Option, Some, None, IfSome, Result, Ok, Err, ap, sym, subst, ◌∙◌}
use Rattle.std.specs.Prelude.{IsErr}
use Rattle.outside_words.proofs.Told.{told_map}
use Rattle.disk_words.specs.Disk.{State}
use Rattle.notary_link.specs.Notary as notaries
use Rattle.stmt_text.specs.declared.stmt.Stmt.{Stmt}
use Rattle.stmt_text.specs.declared.stmt.Stmt.TheVariants as stmts
use Rattle.stmt_text.specs.declared.line.Line.{Line}
use Rattle.stmt_text.specs.declared.line.Line.TheVariants as lines
use Rattle.validator.specs.Desk.{Desk, KeepsSound, desk}
use Rattle.store_world.specs.declared.fail.LineFail.{LineFail}
use Rattle.audit_steps.specs.declared.auditing.Auditing.{Auditing}
use Rattle.audit_steps.specs.Auditing.{IsAuditOf}
use Rattle.store_world.specs.declared.open_store.OpenStore.{OpenStore}
use Rattle.store_world.specs.declared.answered.Answered.{Answered}
use Rattle.store_world.specs.World.{World}
use Rattle.store_world.specs.Standing.{OpenWorld, StandsOver, IsIn}
use Rattle.store_world.specs.Parts.{alone, no_store}
use Rattle.store_world.specs.Stepping.{Steps, StepsFor}
use Rattle.store_world.specs.ByBytes.{TellsPiece, GoesByBytes}

-- what is held is this open store under its id, and this audit
pub record Holds (o : OpenStore) (auditing : Option Auditing) (held : OpenWorld) : Type 0 where
  pub opened : held.opened ≡ Some o
  pub own : held.id ≡ o.store.header.id
  pub age : held.is_old ≡ false
  pub audit : held.auditing ≡ auditing

abbrev pub with_store : OpenStore → Option Auditing → OpenWorld
with_store o auditing = alone o.sessions o.store auditing

held_alone : (o : OpenStore) (auditing : Option Auditing) (held : OpenWorld) → Holds o auditing held → held ≡ with_store o auditing
held_alone o auditing held h =
    ap (λ (n : ℕ). record { id = n; opened = held.opened; is_old = held.is_old; auditing = held.auditing }) h.own
    ∙ ap (λ (s : Option OpenStore). record { id = o.store.header.id; opened = s; is_old = held.is_old; auditing = held.auditing }) h.opened
    ∙ ap (λ (b : Bool). record { id = o.store.header.id; opened = Some o; is_old = b; auditing = held.auditing }) h.age
    ∙ ap (λ (a : Option Auditing). record { id = o.store.header.id; opened = Some o; is_old = false; auditing = a }) h.audit

-- or there is no store, and this audit
pub record HoldsNone (id : ℕ) (is_old : Bool) (auditing : Option Auditing) (held : OpenWorld) : Type 0 where
  pub opened : held.opened ≡ None
  pub own : held.id ≡ id
  pub age : held.is_old ≡ is_old
  pub audit : held.auditing ≡ auditing

held_none : (id : ℕ) (is_old : Bool) (auditing : Option Auditing) (held : OpenWorld) → HoldsNone id is_old auditing held → held ≡ no_store id is_old auditing
held_none id is_old auditing held h =
    ap (λ (s : Option OpenStore). record { id = held.id; opened = s; is_old = held.is_old; auditing = held.auditing }) h.opened
    ∙ ap (λ (n : ℕ). record { id = n; opened = None; is_old = held.is_old; auditing = held.auditing }) h.own
    ∙ ap (λ (b : Bool). record { id = id; opened = None; is_old = b; auditing = held.auditing }) h.age
    ∙ ap (λ (a : Option Auditing). record { id = id; opened = None; is_old = is_old; auditing = a }) h.audit

module _ (line : Line) (now : ℕ) (old new : State) (filed filed_later : notaries.State) where
  abbrev StepsOn : LineFail → OpenWorld → OpenWorld → List ℕ → List ℕ → Type 0
  StepsOn fail held later before after = (w : World) → IsIn w held before → Steps line now w (Err fail) later (desk old filed) (desk new filed_later) before after

  anywhere : (fail : LineFail) (held later other : OpenWorld) → StepsFor line now (Err fail) held later (desk old filed) (desk new filed_later) → StepsFor line now (Err fail) held other (desk old filed) (desk new filed_later)
  anywhere fail held later other told =
      told_map old.reads new.reads (StepsOn fail held later) (StepsOn fail held other) told
      (λ before after steps w i.
      let s = steps w i in
      record { found = s.found; may = s.may; turn = tt; goes = record { reply = tt; stands = tt; settled = λ only. tt; images = s.goes.images; kept = s.goes.kept; same = λ stays. tt }; only = s.only; timely = s.timely; quiet = s.quiet; unasked = s.unasked; finds = s.finds; files = s.files; makes = s.makes })

  stops : (fail : LineFail) (first later held other : OpenWorld) → held ≡ first → StepsFor line now (Err fail) first later (desk old filed) (desk new filed_later) → StepsFor line now (Err fail) held other (desk old filed) (desk new filed_later)
  stops fail first later held other is told = subst (λ (h : OpenWorld). StepsFor line now (Err fail) h other (desk old filed) (desk new filed_later)) (sym is) (anywhere fail first later other told)

  pub stops_open : (fail : LineFail) (o : OpenStore) (auditing : Option Auditing) (later held other : OpenWorld) → Holds o auditing held
      → StepsFor line now (Err fail) (with_store o auditing) later (desk old filed) (desk new filed_later) → StepsFor line now (Err fail) held other (desk old filed) (desk new filed_later)
  stops_open fail o auditing later held other h told = stops fail (with_store o auditing) later held other (held_alone o auditing held h) told

  pub stops_none : (result : Result Answered LineFail) → IsErr result → (id : ℕ) (is_old : Bool) (auditing : Option Auditing) (later held other : OpenWorld) → HoldsNone id is_old auditing held
      → StepsFor line now result (no_store id is_old auditing) later (desk old filed) (desk new filed_later) → StepsFor line now result held other (desk old filed) (desk new filed_later)
  stops_none (Ok answered) failed id is_old auditing later held other h told = absurd cc
  stops_none (Err fail) failed id is_old auditing later held other h told = stops fail (no_store id is_old auditing) later held other (held_none id is_old auditing held h) told

  -- where the store stays open
  pub stays_open : (result : Result Answered LineFail) (o after : OpenStore) (from to : Option Auditing) (held later : OpenWorld) → Holds o from held → Holds after to later
      → StepsFor line now result (with_store o from) (with_store after to) (desk old filed) (desk new filed_later) → StepsFor line now result held later (desk old filed) (desk new filed_later)
  stays_open result o after from to held later h l told =
      subst (λ (x : OpenWorld). StepsFor line now result x later (desk old filed) (desk new filed_later)) (sym (held_alone o from held h))
      (subst (λ (x : OpenWorld). StepsFor line now result (with_store o from) x (desk old filed) (desk new filed_later)) (sym (held_alone after to later l)) told)

pub stays_sound_open : (o : OpenStore) (auditing : Option Auditing) (held : OpenWorld) (old new : Desk) → Holds o auditing held → KeepsSound (StandsOver (with_store o auditing)) old new → KeepsSound (StandsOver held) old new
stays_sound_open o auditing held old new h sound = subst (λ (x : OpenWorld). KeepsSound (StandsOver x) old new) (sym (held_alone o auditing held h)) sound

-- ---- what is said by the bytes

module _ (id now : ℕ) (from to : Option Auditing) (fail : LineFail) (old new : Desk) where
  new_stays : (o : Option (List ℕ)) → IfSome o (λ bytes. IsAuditOf id from bytes → IsAuditOf id None bytes)
  new_stays None = tt
  new_stays (Some bytes) = λ is. tt

  piece_stops : TellsPiece id from to now (Err fail) old new → TellsPiece id from None now (Err fail) old new
  piece_stops p = record {
    answer = p.answer;
    audits = record {
      same = p.audits.same;
      none_other = p.audits.none_other;
      more = p.audits.more;
      going = p.audits.going;
      quiet = p.audits.quiet;
      unasked = p.audits.unasked;
      goes_on = new_stays old.disk.reads;
      found = p.audits.found;
      trace = p.audits.trace;
      asked = p.audits.asked;
      few = p.audits.few;
    };
    reply = p.reply;
    stands = tt;
  }

  stmt_stops : (stmt : Stmt) → GoesByBytes (lines.Plain stmt) id from to now (Err fail) old new → GoesByBytes (lines.Plain stmt) id from None now (Err fail) old new
  stmt_stops stmts.Validate told = told
  stmt_stops stmts.Audit told = piece_stops told
  stmt_stops (stmts.Analyse algorithm era) told = told
  stmt_stops stmt told = tt

  line_stops : (line : Line) → GoesByBytes line id from to now (Err fail) old new → GoesByBytes line id from None now (Err fail) old new
  line_stops (lines.Plain stmt) told = stmt_stops stmt told
  line_stops line told = tt

-- of what is held
pub bytes_stay : (line : Line) (i id now : ℕ) (f from to : Option Auditing) (result : Result Answered LineFail) (old new : Desk) → i ≡ id → f ≡ from
    → GoesByBytes line id from to now result old new → GoesByBytes line i f to now result old new
bytes_stay line i id now f from to result old new own under told =
    subst (λ (n : ℕ). GoesByBytes line n f to now result old new) (sym own)
    (subst (λ (a : Option Auditing). GoesByBytes line id a to now result old new) (sym under) told)

-- after a failure the audit begins anew
pub bytes_stop : (line : Line) (i id now : ℕ) (f from to a : Option Auditing) (result : Result Answered LineFail) (old new : Desk) → IsErr result → i ≡ id → f ≡ from → a ≡ None
    → GoesByBytes line id from to now result old new → GoesByBytes line i f a now result old new
bytes_stop line i id now f from to a (Ok answered) old new failed own under none told = absurd cc
bytes_stop line i id now f from to a (Err fail) old new failed own under none told =
    bytes_stay line i id now f from a (Err fail) old new own under
    (subst (λ (x : Option Auditing). GoesByBytes line id from x now (Err fail) old new) (sym none) (line_stops id now from to fail old new line told))
