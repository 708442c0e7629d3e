-- What an append leaves, whatever gate stood at the end.
use Rattle.std.proofs.Common.{◌≡◌, ◌≢◌, inl, inr, ℕ, ◌+◌, ◌<◌, ◌≤◌, ◌^◌, Bool, true, false, eqb, List, [], ◌∷◌, ◌++◌, length, get_or, take, drop, Option, Some, None, sym, ap, subst, ◌∙◌, arith, Result, Ok, Err, IfSome}
use Rattle.std.proofs.lemmas.Bool.{cases_eq, eqb-true, eqb-false}
use Rattle.disk_words.specs.declared.DiskFail.{DiskFail}
use Rattle.disk_words.specs.declared.DiskFail.TheVariants.{Failed, NoMemory}
use Rattle.disk_words.specs.Disk.{State, turn, written, Torn, Only}
use Rattle.disk_words.proofs.Images.{Torn-written}
use Rattle.disk_words.proofs.TornParts.{torn_front, torn_back}
use Rattle.outside_words.specs.Told.{WhereTold}
use Rattle.disk_model.specs.Moments.{written_all, AllWithin, CutShort, MakesCalls, Secures}
use Rattle.disk_model.proofs.Moments.{weaker}
use Rattle.byte_grammar.specs.Gated.{Shape, FitsRecord, end_behind}
use Rattle.txn_journal.specs.Held.{Standing, behind, Held, held_by, with_payload, HoldsOldOrNew, StandsIn}
use Rattle.txn_journal.specs.Append.{addition, append_calls, KeepsFront, MakesOf, Appends}
use Rattle.txn_journal.proofs.Lifted.{lifted, on_lifted}
use Rattle.txn_journal.proofs.InFile.{HasParts, parts_of, held_from, end_inside, keeps}
use Rattle.txn_journal.proofs.Appending.{split_at, over, at_over, all_within, each, added, added_gate}

module _ (is_head : List ℕ → Bool) (shape : Shape) (held : Held) (payload : List ℕ) (small : shape.max_payload < 2 ^ 32) (fits : FitsRecord shape payload) (within : end_behind held.end (length payload) < shape.max_file) (x : List ℕ) (p : HasParts is_head shape held x) where
  abbrev end : ℕ
  end = held.end

  room : end < length x
  room = end_inside is_head shape held x p

  -- an open gate is closed first
  closing : get_or x end 0 ≡ 0xA7 → (c : List ℕ) → Torn end 1 x c → held_by is_head shape c ≡ Some held
  closing was_open c torn = elim (cases_eq (get_or c end 0) 0xA7) [
    | inl is_open ↦ ap (held_by is_head shape) (same is_open) ∙ held_from is_head shape held x p
    | inr is_shut ↦ keeps is_head shape held x c p c_room front is_shut
  ]
    where
      c_room : end < length c
      c_room = omega (arith, room, torn.no_shorter)

      front : take end c ≡ take end x
      front = torn_front end end 1 x c (omega arith) (omega (arith, room)) torn

      same : get_or c end 0 ≡ 0xA7 → c ≡ x
      same is_open =
          split_at c end c_room ∙ ap (λ (l : List ℕ). l ++ (get_or c end 0 ∷ drop (end + 1) c)) front
          ∙ ap (λ (g : ℕ). take end x ++ (g ∷ drop (end + 1) c)) (is_open ∙ sym was_open)
          ∙ ap (λ (l : List ℕ). take end x ++ (get_or x end 0 ∷ l)) (torn_back end 1 x c (omega (arith, room)) torn)
          ∙ sym (split_at x end room)

  y_shut : get_or (over end 0 x) end 0 ≡ 0
  y_shut = at_over end 0 x (omega (arith, room))

  y_parts : HasParts is_head shape held (over end 0 x)
  y_parts =
      let torn = Torn-written end (0 ∷ []) x in
      parts_of is_head shape held (over end 0 x) (keeps is_head shape held x (over end 0 x) p (omega (arith, room, torn.no_shorter)) (torn_front end end 1 x (over end 0 x) (omega arith) (omega (arith, room)) torn) (omega (arith, y_shut)))

  pub within_any : (g : Bool) → g ≡ eqb (get_or x end 0) 0xA7 → AllWithin (addition g end payload) x
  within_any true gate = (omega (arith, room), all_within is_head shape held payload small fits within (over end 0 x) y_parts (omega (arith, y_shut)))
  within_any false gate = all_within is_head shape held payload small fits within x p (eqb-false _ _ (sym gate))

  pub each_any : (g : Bool) → g ≡ eqb (get_or x end 0) 0xA7 → (c : List ℕ) → CutShort (addition g end payload) x c → HoldsOldOrNew is_head shape held payload c
  each_any true gate c (inl torn) = inl (closing (eqb-true _ _ (sym gate)) c torn)
  each_any true gate c (inr cut) = each is_head shape held payload small fits within (over end 0 x) y_parts (omega (arith, y_shut)) c cut
  each_any false gate c cut = each is_head shape held payload small fits within x p (eqb-false _ _ (sym gate)) c cut

  pub added_any : (g : Bool) → g ≡ eqb (get_or x end 0) 0xA7 → (a : List ℕ) → a ≡ written_all (addition g end payload) x → (held_by is_head shape a ≡ Some (with_payload held payload)) × (get_or a (end_behind end (length payload)) 0 ≡ 0)
  added_any true gate a is =
      let shut : get_or (over end 0 x) end 0 ≢ 0xA7 = omega (arith, y_shut) in
      (added is_head shape held payload small fits within (over end 0 x) y_parts shut a is, added_gate is_head shape held payload small fits within (over end 0 x) y_parts shut a is)
  added_any false gate a is =
      let shut : get_or x end 0 ≢ 0xA7 = eqb-false _ _ (sym gate) in
      (added is_head shape held payload small fits within x p shut a is, added_gate is_head shape held payload small fits within x p shut a is)

-- ---- what lies before the gate

-- each write begins at the place or behind it
AllFrom : ℕ → List (ℕ × List ℕ) → Type 0
AllFrom e [] = Unit {0}
AllFrom e ((place, piece) ∷ writes) = (e ≤ place) × AllFrom e writes

front_of : (writes : List (ℕ × List ℕ)) (e : ℕ) (x c : List ℕ) → AllFrom e writes → e ≤ length x → CutShort writes x c → KeepsFront e x c
unfolding AllFrom
front_of [] e x c from within is = ap (take e) is
front_of ((place, piece) ∷ writes) e x c from within (inl torn) = torn_front e place (length piece) x c from.0 within torn
front_of ((place, piece) ∷ writes) e x c from within (inr cut) =
    let torn = Torn-written place piece x in
    front_of writes e (written place piece x) c from.1 (let more = torn.no_shorter in omega (arith, within, more)) cut
    ∙ torn_front e place (length piece) x (written place piece x) from.0 within torn

addition_from : (g : Bool) (end : ℕ) (payload : List ℕ) → AllFrom end (addition g end payload)
unfolding AllFrom
addition_from true end payload = (omega arith, (omega arith, (omega arith, tt)))
addition_from false end payload = (omega arith, (omega arith, tt))

-- the writes of an append, cut short anywhere, leave the bytes before the gate
pub front_stays : (g : Bool) (end : ℕ) (payload x c : List ℕ) → end ≤ length x → CutShort (addition g end payload) x c → KeepsFront end x c
front_stays g end payload x c = front_of (addition g end payload) end x c (addition_from g end payload)

makes_lifted : (at : Standing) (payload : List ℕ) (r : Result (Unit {0}) DiskFail) (old new : State) → MakesCalls (append_calls at payload) r old new → MakesOf (append_calls at payload) (lifted r) old new
makes_lifted at payload (Ok u) old new made = made
makes_lifted at payload (Err Failed) old new made = made
makes_lifted at payload (Err NoMemory) old new made = made

module _ (is_head : List ℕ → Bool) (shape : Shape) (at : Standing) (payload : List ℕ) (small : shape.max_payload < 2 ^ 32) (fits : FitsRecord shape payload) (within : end_behind at.end (length payload) < shape.max_file) where
  -- with the journal's end in place of the file's
  abbrev writes : List (ℕ × List ℕ)
  writes = addition at.gate_is_open at.end payload

  module _ (x : List ℕ) (held : Held) (s : StandsIn is_head shape at held x) where
    p : HasParts is_head shape held x
    p = parts_of is_head shape held x s.holds

    in_file : end_behind held.end (length payload) < shape.max_file
    in_file = omega (arith, within, s.end)

    gate : at.gate_is_open ≡ eqb (get_or x held.end 0) 0xA7
    gate = s.gate ∙ ap (λ (e : ℕ). eqb (get_or x e 0) 0xA7) (sym s.end)

    within_at : AllWithin writes x
    within_at = subst (λ (e : ℕ). AllWithin (addition at.gate_is_open e payload) x) s.end (within_any is_head shape held payload small fits in_file x p at.gate_is_open gate)

    each_at : (c : List ℕ) → CutShort writes x c → HoldsOldOrNew is_head shape held payload c
    each_at c cut = each_any is_head shape held payload small fits in_file x p at.gate_is_open gate c (subst (λ (e : ℕ). CutShort (addition at.gate_is_open e payload) x c) (sym s.end) cut)

    front_at : (c : List ℕ) → CutShort writes x c → KeepsFront at.end x c
    front_at c = front_stays at.gate_is_open at.end payload x c (let room = end_inside is_head shape held x p in let end = s.end in omega (arith, room, end))

    added_at : (a : List ℕ) → a ≡ written_all writes x → StandsIn is_head shape (behind at payload) (with_payload held payload) a
    added_at a is =
        let r = added_any is_head shape held payload small fits in_file x p at.gate_is_open gate a (is ∙ ap (λ (e : ℕ). written_all (addition at.gate_is_open e payload) x) (sym s.end)) in
        let next : get_or a (end_behind at.end (length payload)) 0 ≡ 0 = ap (λ (e : ℕ). get_or a (end_behind e (length payload)) 0) (sym s.end) ∙ r.1 in
        record {
          holds = r.0;
          end = ap (λ (e : ℕ). end_behind e (length payload)) s.end;
          gate = sym (ap (λ (g : ℕ). eqb g 0xA7) next);
        }

  -- what follows of a run
  pub appends : (r : Result (Unit {0}) DiskFail) (old new : State) → ((t : ℕ) (c : List ℕ) → t ≤ turn new → new.is_image c → new.was_image t c) → (b a : List ℕ) → new.is_image a → Secures writes r old new b a
      → Appends is_head shape at payload (lifted r) old new b a
  appends r old new counts_now b a now run =
      let images = λ (held : Held) (s : StandsIn is_head shape at held b) (only : Only b old). weaker (run.images only (within_at b held s)) (each_at b held s) in
      record {
        added = on_lifted r (λ written held s. added_at b held s a (written (within_at b held s))) run.written;
        durable = on_lifted r (λ only. only) run.durable;
        images = images;
        kept = λ held s only. let every = images held s only in every.each a (counts_now (turn old) a every.later now);
        front = λ held s only. let every = run.images only (within_at b held s) in front_at b held s a (every.each a (counts_now (turn old) a every.later now));
        trace = makes_lifted at payload r old new run.calls;
      }

  -- the same of what is told
  pub appends_told : (r : Result (Unit {0}) DiskFail) (old new : State) → ((t : ℕ) (c : List ℕ) → t ≤ turn new → new.is_image c → new.was_image t c) → IfSome new.reads new.is_image
      → WhereTold old.reads new.reads (Secures writes r old new) → WhereTold old.reads new.reads (Appends is_head shape at payload (lifted r) old new)
  appends_told r old new counts_now now told = by old.reads new.reads now told
    where
      by : (o n : Option (List ℕ)) → IfSome n new.is_image → WhereTold o n (Secures writes r old new) → WhereTold o n (Appends is_head shape at payload (lifted r) old new)
      by (Some b) (Some a) now run = appends r old new counts_now b a now run
      by (Some b) None now run = tt
      by None n now run = tt
