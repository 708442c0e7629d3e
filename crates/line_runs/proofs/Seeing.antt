-- What is seen of lines, and of one more.
use Rattle.std.proofs.Common.{◌≡◌, ◌∙◌, ◌+◌, ◌<◌, ◌≤◌, ℕ, Bool, true, false, List, [], ◌∷◌, ◌++◌, length, Option, Some, None, refl, sym, ap, subst, arith, append_assoc, length-append, inl, inr}
use Rattle.std.specs.Prelude.{if◌then◌else◌, nat_lt, min, IfSome}
use Rattle.std.specs.Option.{is_some}
use Rattle.std.proofs.lemmas.Bool.Decides.{nat_tests}
use Rattle.outside_io.specs.Sink.{State}
use Rattle.stmt_text.specs.Lines.{answer}
use Rattle.stmt_text.specs.Numbers.{max_u64}
use Rattle.session_model.specs.Service.{Session}
use Rattle.line_runs.specs.declared.seen.Refusal.{Refusal}
use Rattle.line_runs.specs.declared.seen.Seen.{Seen}
use Rattle.line_runs.specs.declared.status.Status.{Status}
use Rattle.line_runs.specs.declared.status.Status.TheVariants as statuses
use Rattle.line_runs.specs.declared.run_fail.RunFail.{RunFail}
use Rattle.line_runs.specs.declared.run_fail.RunFail.TheVariants as fails
use Rattle.line_runs.specs.Outcome.{Outcome, Said, refused as refused_by}
use Rattle.line_runs.specs.Running.{Running, Timed, carry, carried}
use Rattle.line_runs.specs.Ran.{ending_by}
use Rattle.line_runs.specs.Carrying.{EndsWith}
use Rattle.line_runs.specs.Sees.{SeesAny, IsFrontOf, IsFirstRefused, Sees, SeesNothing, EndsByCount, CountsRefusals, begun_after, Follows, NotesFirst, Notes, IsOf}
use Rattle.line_runs.specs.SeeingLines.{IsNew}
use Rattle.line_runs.proofs.Begun.{carry_turns}
use Rattle.line_runs.proofs.Lines.{carried_more}

-- ---- no line

pub sees_none : (scripted : Bool) (begin : Running) (seen : Seen) → SeesNothing seen → IsNew begin → Sees scripted begin [] seen
sees_none scripted begin seen unseen new = record {
  lines = unseen.lines;
  refused = unseen.refused ∙ sym new.refused;
  first = subst (λ (o : Option Refusal). IfSome o (IsFirstRefused scripted begin [])) (sym unseen.first) tt;
  begun = λ n small. unseen.begun n ∙ sym (ap (λ (o : Option Session). is_some o) (new.begun n));
}

pub none_seen : (seen : Seen) → SeesNothing seen → SeesAny seen.first_refusal seen.refused
none_seen seen unseen = subst (λ (o : Option Refusal). SeesAny o seen.refused) (sym unseen.first) unseen.refused

-- ---- a line more

-- what is noted of it
pub record Hears (line text : List ℕ) (refused : ℕ) (old new : Seen) : Type 0 where
  pub lines : new.lines ≡ min (old.lines + 1) max_u64
  pub refused_are : new.refused ≡ refused
  pub begun : Follows (answer line) text old.begun new.begun
  pub first : NotesFirst line text new.lines refused old.first_refusal new.first_refusal

-- the sessions are followed first, and the rest is noted then
pub heard_by : (line text : List ℕ) (refused : ℕ) (old mid new : Seen) → Follows (answer line) text old.begun mid.begun → Notes line text refused mid new → mid.lines ≡ old.lines → mid.refused ≡ old.refused → mid.first_refusal ≡ old.first_refusal → Hears line text refused old new
heard_by line text refused old mid new follows notes lines counts first = record {
  lines = notes.lines ∙ ap (λ (n : ℕ). min (n + 1) max_u64) lines;
  refused_are = notes.refused_are;
  begun = subst (λ (begun : List Bool). Follows (answer line) text old.begun begun) (sym notes.begun) follows;
  first = subst (λ (o : Option Refusal). NotesFirst line text new.lines refused o new.first_refusal) first notes.first;
}

any_by : (line text : List ℕ) (number was refused : ℕ) (o next : Option Refusal) → was ≤ refused → SeesAny o was → NotesFirst line text number refused o next → SeesAny next refused
any_by line text number was refused (Some refusal) next more any notes = subst (λ (o : Option Refusal). SeesAny o refused) (sym notes) (omega (arith, more, any))
any_by line text number was refused None (Some refusal) more any notes = notes.0
any_by line text number was refused None None more any notes = notes

pub any_more : (line text : List ℕ) (refused : ℕ) (old new : Seen) → old.refused ≤ refused → SeesAny old.first_refusal old.refused → Hears line text refused old new → SeesAny new.first_refusal new.refused
any_more line text refused old new more any heard =
    subst (λ (n : ℕ). SeesAny new.first_refusal n) (sym heard.refused_are) (any_by line text new.lines old.refused refused old.first_refusal new.first_refusal more any heard.first)

counts_on : (n : ℕ) → min (min n max_u64 + 1) max_u64 ≡ min (n + 1) max_u64
counts_on n = omega arith

module _ (scripted : Bool) (begin : Running) (done : List Timed) (t : Timed) where
  -- the same refusal is the first
  first_more : (refusal : Refusal) → IsFirstRefused scripted begin done refusal → IsFirstRefused scripted begin (done ++ t ∷ []) refusal
  first_more refusal f = record {
    replied = record {
      before = f.replied.before;
      line = f.replied.line;
      behind = f.replied.behind ++ t ∷ [];
      all = ap (λ (ts : List Timed). ts ++ t ∷ []) f.replied.all ∙ append_assoc f.replied.before (f.replied.line ∷ f.replied.behind) (t ∷ []);
      reply = f.replied.reply;
    };
    number = f.number;
    front = f.front;
    none_before = f.none_before;
    is_refused = f.is_refused;
  }

  module _ (line text : List ℕ) (refused : ℕ) (is : t.line ≡ line) (said : (carry scripted (carried scripted begin done) t).text ≡ (carried scripted begin done).text ++ text) (counts : refused ≡ (carry scripted (carried scripted begin done) t).refused) where
    -- this line is
    first_now : (number : ℕ) (refusal : Refusal) → number ≡ min (length done + 1) max_u64 → (carried scripted begin done).refused ≡ 0 → 0 < refused → IsOf line text number refusal → IsFirstRefused scripted begin (done ++ t ∷ []) refusal
    first_now number refusal numbered none some of = record {
      replied = record {
        before = done;
        line = t;
        behind = [];
        all = refl;
        reply = ap (λ (r : Running). r.text) (carried_more scripted begin done t) ∙ said ∙ ap (λ (xs : List ℕ). (carried scripted begin done).text ++ xs) (sym of.reply_is);
      };
      number = of.number_is ∙ numbered;
      front = subst (λ (l : List ℕ). IsFrontOf l refusal.line) (sym is) of.front;
      none_before = none;
      is_refused = subst (λ (n : ℕ). 0 < n) (counts ∙ sym (ap (λ (r : Running). r.refused) (carried_more scripted begin done t))) some;
    }

    firsts : (number : ℕ) (o next : Option Refusal) → number ≡ min (length done + 1) max_u64 → SeesAny o (carried scripted begin done).refused → NotesFirst line text number refused o next
        → IfSome o (IsFirstRefused scripted begin done) → IfSome next (IsFirstRefused scripted begin (done ++ t ∷ []))
    firsts number (Some refusal) next numbered any notes f = subst (λ (o : Option Refusal). IfSome o (IsFirstRefused scripted begin (done ++ t ∷ []))) (sym notes) (first_more refusal f)
    firsts number None (Some refusal) numbered any notes f = first_now number refusal numbered any notes.0 notes.1
    firsts number None None numbered any notes f = tt

    pub sees_more : (old new : Seen) → SeesAny old.first_refusal old.refused → Hears line text refused old new → Sees scripted begin done old → Sees scripted begin (done ++ t ∷ []) new
    sees_more old new any heard s =
        let number : new.lines ≡ min (length done + 1) max_u64 = heard.lines ∙ ap (λ (n : ℕ). min (n + 1) max_u64) s.lines ∙ counts_on (length done) in
        record {
          lines = number ∙ ap (λ (n : ℕ). min n max_u64) (sym (length-append done (t ∷ [])));
          refused = heard.refused_are ∙ counts ∙ sym (ap (λ (r : Running). r.refused) (carried_more scripted begin done t));
          first = firsts new.lines old.first_refusal new.first_refusal number (subst (λ (n : ℕ). SeesAny old.first_refusal n) s.refused any) heard.first s.first;
          begun = λ n small.
              heard.begun n small ∙ ap (λ (b : Bool). begun_after (answer line) text n b) (s.begun n small)
              ∙ ap (λ (l : List ℕ). begun_after (answer l) text n (is_some ((carried scripted begin done).world.sessions n))) (sym is)
              ∙ sym (carry_turns scripted (carried scripted begin done) n t text said)
              ∙ sym (ap (λ (r : Running). is_some (r.world.sessions n)) (carried_more scripted begin done t));
        }

-- ---- how it ends

-- by another status
pub ends_other : (result : Status) (refused : ℕ) → (result ≡ statuses.Refused → ⊥) → (result ≡ statuses.Ok → ⊥) → EndsByCount result refused
ends_other result refused no_refusal no_end = record { some = λ e. absurd (no_refusal e); none = λ e. absurd (no_end e) }

-- by whether some reply is a refusal
counted_by : (some : Bool) (refused : ℕ) → nat_lt 0 refused ≡ some → EndsByCount (if some then statuses.Refused else statuses.Ok) refused
counted_by true refused is = record { some = λ e. grind (arith, nat_tests, is); none = λ e. cc }
counted_by false refused is = record { some = λ e. cc; none = λ e. grind (arith, nat_tests, is) }

pub ends_counted : (refused : ℕ) → EndsByCount (ending_by refused) refused
ends_counted refused = counted_by (nat_lt 0 refused) refused refl

-- a text was said, and the call ended so, or it was cut off
pub said_counted : (refused : ℕ) (o : Outcome) (result : Status) (old new : State) → o.status ≡ ending_by refused → Said o result old new → EndsByCount result refused
said_counted refused o result old new by (inl said) = subst (λ (s : Status). EndsByCount s refused) (sym (said.0 ∙ by)) (ends_counted refused)
said_counted refused o result old new by (inr (inl cut, front)) = subst (λ (s : Status). EndsByCount s refused) (sym cut) (ends_other statuses.WriteFault refused (λ e. cc) (λ e. cc))
said_counted refused o result old new by (inr (inr cut, front)) = subst (λ (s : Status). EndsByCount s refused) (sym cut) (ends_other statuses.NoMemory refused (λ e. cc) (λ e. cc))

-- nothing was seen of a call that ends so
pub none_counted : (seen : Seen) (result : Status) → SeesNothing seen → EndsByCount result seen.refused → CountsRefusals result seen
none_counted seen result unseen ends = record { any = none_seen seen unseen; ending = ends }

-- a call that stops ends by neither
said_other : (refused : ℕ) (o : Outcome) (result : Status) (old new : State) → EndsByCount o.status refused → Said o result old new → EndsByCount result refused
said_other refused o result old new other (inl said) = subst (λ (s : Status). EndsByCount s refused) (sym said.0) other
said_other refused o result old new other (inr (inl cut, front)) = subst (λ (s : Status). EndsByCount s refused) (sym cut) (ends_other statuses.WriteFault refused (λ e. cc) (λ e. cc))
said_other refused o result old new other (inr (inr cut, front)) = subst (λ (s : Status). EndsByCount s refused) (sym cut) (ends_other statuses.NoMemory refused (λ e. cc) (λ e. cc))

pub refused_counted : (status : Status) (refused : ℕ) (result : Status) (old new : State) → EndsByCount status refused → Said (refused_by status) result old new → EndsByCount result refused
refused_counted status refused result old new other said = said_other refused (refused_by status) result old new other said

pub failed_counted : (fail : RunFail) (refused : ℕ) (result : Status) (old new : State) → EndsWith fail result old new → EndsByCount result refused
failed_counted fails.DiskFault refused result old new ends = refused_counted statuses.DiskFault refused result old new (ends_other statuses.DiskFault refused (λ e. cc) (λ e. cc)) ends
failed_counted fails.NotaryFault refused result old new ends = refused_counted statuses.NotaryFault refused result old new (ends_other statuses.NotaryFault refused (λ e. cc) (λ e. cc)) ends
failed_counted fails.ReadFault refused result old new ends = refused_counted statuses.ReadFault refused result old new (ends_other statuses.ReadFault refused (λ e. cc) (λ e. cc)) ends
failed_counted fails.InputLimit refused result old new ends = refused_counted statuses.InputLimit refused result old new (ends_other statuses.InputLimit refused (λ e. cc) (λ e. cc)) ends
failed_counted fails.WriteFault refused result old new ends = subst (λ (s : Status). EndsByCount s refused) (sym ends.0) (ends_other statuses.WriteFault refused (λ e. cc) (λ e. cc))
failed_counted fails.NoMemory refused result old new ends = subst (λ (s : Status). EndsByCount s refused) (sym ends.0) (ends_other statuses.NoMemory refused (λ e. cc) (λ e. cc))
