-- Code that notes the numbers of all places finds the conflict.
use Rattle.std.proofs.Common.{◌≡◌, ℕ, ◌≤◌, nat_lt, Bool, true, false, cond, ◌||◌, if◌then◌else◌, Option, Some, IfSome, List, [], ◌∷◌, ◌++◌, length, refl, sym, ap, subst, ◌∙◌, arith}
use Rattle.std.specs.List.{find, list_any}
use Rattle.std.specs.Option.{option_or}
use Rattle.std.proofs.lemmas.List.{append-nil, drop_all}
use Rattle.std.proofs.lemmas.List.Folds.{find-append}
use Rattle.tuple_bytes.specs.declared.op.Op.{Op}
use Rattle.history_model.specs.History.{txns}
use Rattle.session_model.specs.declared.place.Place.{Place}
use Rattle.session_model.specs.Places.{touches, touches_one, since}
use Rattle.session_model.specs.Service.{Session}
use Rattle.session_model.specs.Index.{noted_op, noted_ops, IsIndex, IndexBegins, NotesKeepIndex, NumberedFrom, AreNumbered, lesser, least_above, touch_numbers}
use Rattle.session_model.specs.Standing.{numbers_at, IsSession, MachinesFindConflicts}
use Rattle.session_model.proofs.Conflicts.{any_alike, same_reads_conflict_alike}
use Rattle.session_model.proofs.Indexing.{index_shows_conflicts, index_grows}
use Rattle.session_model.proofs.Numbering.{pushed}

alike : (begun : ℕ) (a b : Place → List ℕ) → ((place : Place) → find (nat_lt begun) (a place) ≡ find (nat_lt begun) (b place)) → (places : List Place) → least_above begun a places ≡ least_above begun b places
alike begun a b same [] = refl
alike begun a b same (p ∷ ps) =
    ap (λ o. lesser o (least_above begun a ps)) (same p)
    ∙ ap (lesser (find (nat_lt begun) (b p))) (alike begun a b same ps)

pub machines_find_conflicts : MachinesFindConflicts
machines_find_conflicts w m stand bytes n s k is has keeps =
    let both : IsSession (Some s) (Some k) = subst (λ o. IsSession o (Some k)) has (subst (λ o. IsSession (w.sessions n) o) keeps (is.sessions n)) in
    let index = subst (λ (o : Option Session). IfSome o (λ s. (m.touched.from ≤ s.begun) × IsIndex m.touched.from (numbers_at m.touched.places) (txns w.store.items))) has (is.indexed n) in
    let num = subst (λ (o : Option Session). IfSome o (λ s. AreNumbered s.begun (txns w.store.items))) has (is.numbered n) in
    ap (λ b. least_above b (numbers_at m.touched.places) k.reads) both.0
    ∙ alike s.begun (numbers_at m.touched.places) (touch_numbers (since m.touched.from (txns w.store.items))) (λ place. index.1.shows s.begun place index.0) k.reads
    ∙ index_shows_conflicts m.touched.from s.begun (txns w.store.items) k.reads index.0 num.within index.1.numbered
    ∙ same_reads_conflict_alike k.reads s.reads (since s.begun (txns w.store.items)) both.2

-- ---- an index is kept

twice : (p : ℕ → Bool) (n : ℕ) (ks : List ℕ) → find p ((ks ++ n ∷ []) ++ n ∷ []) ≡ find p (ks ++ n ∷ [])
twice p n [] = elim (p n) as (λ b. cond b (Some n) (cond b (Some n) (find p [])) ≡ cond b (Some n) (find p [])) [ true ↦ refl | false ↦ refl ]
twice p n (k ∷ ks) = ap (λ o. cond (p k) (Some k) o) (twice p n ks)

notes_show : (n begun : ℕ) (ops : List Op) (numbers : Place → List ℕ) (place : Place)
    → find (nat_lt begun) (noted_ops n ops numbers place) ≡ find (nat_lt begun) (numbers place ++ (if list_any (λ op. touches op place) ops then n ∷ [] else []))
notes_show n begun [] numbers place = ap (find (nat_lt begun)) (sym (append-nil (numbers place)))
notes_show n begun (op ∷ ops) numbers place =
    notes_show n begun ops (noted_op n op numbers) place ∙ step (touches op place) (list_any (λ o. touches o place) ops)
  where
    step : (a b : Bool) → find (nat_lt begun) ((if a then numbers place ++ n ∷ [] else numbers place) ++ (if b then n ∷ [] else [])) ≡ find (nat_lt begun) (numbers place ++ (if a || b then n ∷ [] else []))
    step true true = twice (nat_lt begun) n (numbers place)
    step true false = ap (find (nat_lt begun)) (append-nil (numbers place ++ n ∷ []))
    step false b = refl

or_false : (b : Bool) → (b || false) ≡ b
or_false true = refl
or_false false = refl

pub index_begins : IndexBegins
index_begins ts =
    let none = drop_all (length ts) ts (omega arith) in
    record {
      within = omega arith;
      numbered = subst (NumberedFrom (length ts)) (sym none) tt;
      shows = λ begun place le. ap (λ l. find (nat_lt begun) (touch_numbers l place)) (sym none);
    }

pub notes_keep_index : NotesKeepIndex
notes_keep_index from numbers ts t next is =
    let more = pushed from ts t next (record { within = is.within; numbered = is.numbered }) in
    record {
      within = more.within;
      numbered = more.numbered;
      shows = λ begun place le.
          notes_show t.number begun t.ops numbers place
          ∙ ap (λ b. find (nat_lt begun) (numbers place ++ (if b then t.number ∷ [] else []))) (any_alike (λ op. touches op place) (λ op. list_any (touches op) (place ∷ [])) (λ op. sym (or_false (touches op place))) t.ops)
          ∙ find-append (nat_lt begun) (numbers place) (if touches_one (place ∷ []) t then t.number ∷ [] else [])
          ∙ ap (λ o. option_or o (find (nat_lt begun) (if touches_one (place ∷ []) t then t.number ∷ [] else []))) (is.shows begun place le)
          ∙ sym (find-append (nat_lt begun) (touch_numbers (since from ts) place) (if touches_one (place ∷ []) t then t.number ∷ [] else []))
          ∙ ap (find (nat_lt begun)) (sym (index_grows from ts t place is.within));
    }
