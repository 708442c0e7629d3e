-- Transactions stored since a begin are numbered by their places.
use Rattle.std.proofs.Common.{◌≡◌, ℕ, suc, ◌+◌, ◌<◌, ◌≤◌, Bool, true, false, cond, Option, Some, None, IfSome, List, [], ◌∷◌, ◌++◌, length, length-append, sym, subst, ◌∙◌, arith}
use Rattle.std.specs.List.{find}
use Rattle.std.specs.Option.{option_map}
use Rattle.std.proofs.lemmas.List.{drop-append-le, drop_all, length-drop}
use Rattle.tuple_bytes.specs.declared.item.Txn.{Txn}
use Rattle.history_model.specs.History.{txns}
use Rattle.statement_core.specs.declared.reply.Reply.{Reply}
use Rattle.statement_core.specs.declared.reply.Reply.TheVariants as replies
use Rattle.statement_core.specs.Database as stores
use Rattle.statement_core.specs.Promises as promises
use Rattle.session_model.specs.declared.place.Place.{Place}
use Rattle.session_model.specs.Places.{touches_one, first_touching, since}
use Rattle.session_model.specs.Service.{Session}
use Rattle.session_model.specs.Steps.{Answer, Replied, serve}
use Rattle.session_model.specs.Index.{NumberedFrom, AreNumbered, NumbersArePlaces, ConflictsAreSince}
use Rattle.session_model.specs.Promises.{IsPromised}
use Rattle.session_model.proofs.Each.{each_session}
use Rattle.session_model.proofs.Promising.{steps_keep_promises}

-- one more, with the next number
one_more : (n : ℕ) (ts : List Txn) (t : Txn) → NumberedFrom n ts → t.number ≡ n + length ts + 1 → NumberedFrom n (ts ++ t ∷ [])
one_more n [] t h e = (omega (arith, e), tt)
one_more n (first ∷ ts) t h e = (h.0, one_more (n + 1) ts t h.1 (omega (arith, e)))

pub pushed : (begun : ℕ) (ts : List Txn) (t : Txn) → t.number ≡ length ts + 1 → AreNumbered begun ts → AreNumbered begun (ts ++ t ∷ [])
pushed begun ts t e is =
    let split : since begun (ts ++ t ∷ []) ≡ since begun ts ++ t ∷ [] = drop-append-le begun ts (t ∷ []) is.within in
    let n : length (since begun ts) + begun ≡ length ts = omega (arith, length-drop begun ts, is.within) in
    record {
      within = omega (arith, length-append ts (t ∷ []), is.within);
      numbered = subst (NumberedFrom begun) (sym split) (one_more begun (since begun ts) t is.numbered (omega (arith, e, n)));
    }

kept_by : (begun : ℕ) (w new : stores.Database) → new ≡ w → AreNumbered begun (txns w.items) → AreNumbered begun (txns new.items)
kept_by begun w new e is = subst (λ (x : stores.Database). AreNumbered begun (txns x.items)) (sym e) is

by_reply : (begun : ℕ) (w new : stores.Database) (reply : Reply) → promises.IsPromised w reply new → AreNumbered begun (txns w.items) → AreNumbered begun (txns new.items)
by_reply begun w new (replies.Committed number) h is = subst (AreNumbered begun) (sym h.behind) (pushed begun (txns w.items) h.txn (h.numbered ∙ h.next) is)
by_reply begun w new reply h is = kept_by begun w new h is

by_answer : (begun : ℕ) (w new : stores.Database) (answer : Answer) → IsPromised w answer new → AreNumbered begun (txns w.items) → AreNumbered begun (txns new.items)
by_answer begun w new (Replied reply) h is = by_reply begun w new reply h is
by_answer begun w new answer h is = kept_by begun w new h is

all_since : (ts : List Txn) → AreNumbered (length ts) ts
all_since ts = record { within = omega arith; numbered = subst (NumberedFrom (length ts)) (sym (drop_all (length ts) ts (omega arith))) tt }

pub numbers_are_places : NumbersArePlaces
numbers_are_places w line now all k =
    let old = each_session (λ s. AreNumbered s.begun (txns w.store.items)) w (all_since (txns w.store.items)) (λ s stmt is. is) line now all k in
    by ((serve w line now).world.sessions k) old
  where
    by : (o : Option Session) → IfSome o (λ s. AreNumbered s.begun (txns w.store.items)) → IfSome o (λ s. AreNumbered s.begun (txns (serve w line now).world.store.items))
    by None is = tt
    by (Some s) is = by_answer s.begun w.store (serve w line now).world.store (serve w line now).answer (steps_keep_promises w line now).store is

-- ---- the number of a conflict

within : (n : ℕ) (places : List Place) (ts : List Txn) → NumberedFrom n ts → IfSome (first_touching places ts) (λ number. (n < number) × (number ≤ n + length ts))
within n places [] h = tt
within n places (t ∷ ts) h = by (touches_one places t) (find (touches_one places) ts) (within (n + 1) places ts h.1)
  where
    by : (b : Bool) (o : Option Txn) → IfSome (option_map (λ (u : Txn). u.number) o) (λ number. (n + 1 < number) × (number ≤ n + 1 + length ts))
        → IfSome (option_map (λ (u : Txn). u.number) (cond b (Some t) o)) (λ number. (n < number) × (number ≤ n + suc (length ts)))
    by true o more = (omega (arith, h.0), omega (arith, h.0))
    by false None more = tt
    by false (Some u) more = (omega (arith, more.0), omega (arith, more.1))

pub conflicts_are_since : ConflictsAreSince
conflicts_are_since begun ts places is =
    let n : length (since begun ts) + begun ≡ length ts = omega (arith, length-drop begun ts, is.within) in
    by (first_touching places (since begun ts)) (within begun places (since begun ts) is.numbered) n
  where
    by : (o : Option ℕ) → IfSome o (λ number. (begun < number) × (number ≤ begun + length (since begun ts))) → length (since begun ts) + begun ≡ length ts → IfSome o (λ number. (begun < number) × (number ≤ length ts))
    by None h n = tt
    by (Some number) h n = (h.0, omega (arith, h.1, n))
