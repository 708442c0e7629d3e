-- What a book tells, before and after a call.
use Rattle.std.proofs.Common.{◌≡◌, ◌≢◌, leb, ltb, ◌⊎◌, inl, inr, ◌≤◌, ◌+◌, ℕ, Bool, true, false, List, [], ◌∷◌, ◌++◌, length, Option, None, Some, Result, Ok, Err, IfSome, refl, sym, ap, ◌∙◌, subst, arith}
use Rattle.std.specs.Option.{is_some}
use Rattle.std.proofs.lemmas.Bool.{leb-true, leb-false, ltb-true, ltb-false}
use Rattle.outside_words.specs.Told.{WhereTold, TellsAlike}
use Rattle.outside_words.proofs.Told.{told_same}
use Rattle.disk_words.specs.Disk.{State as DiskState, turn, Only, GoesOn as DiskGoesOn}
use Rattle.disk_model.specs.Moments.{EveryImage}
use Rattle.notary_link.specs.declared.fail.NotaryFail.{NotaryFail}
use Rattle.notary_link.specs.declared.fail.NotaryFail.TheVariants.{Failed, OutOfTurn, Full, NoMemory}
use Rattle.notary_link.specs.declared.mark.Mark.{Mark}
use Rattle.notary_link.specs.Batches.{Batch}
use Rattle.notary_link.specs.Shelves.{moments_on, shelf_of}
use Rattle.notary_link.specs.Notary.{Call, file, note, IsAsked, Lists, Keeps, Grows, AddsWithin, Changes, HasReason, GoesOn, Unchanged, Answers}
use Rattle.notary_link.proofs.Frame.{grows_same}
use Rattle.txn_journal.specs.Held.{Standing}
use Rattle.notary_book.specs.declared.kept.Kept.{Kept}
use Rattle.notary_book.specs.Adding.{Tells, TellsEither, Adds}
use Rattle.notary_book.specs.Books.{lists_of, max_seals, max_marks, book_limits, all_next, calls_in, told_by, lists_told}
use Rattle.notary_book.specs.Kept.{StandsFor, Stores, IsFileOf, Knows, IsSettled}
use Rattle.notary_book.specs.State.{book_state}
use Rattle.notary_book.proofs.Bytes.{told_file}
use Rattle.notary_book.proofs.Lists.{adds, grows, keeps, next_is, count_is, file_next, note_is}

-- ---- where something is told

pub if_map : {A : Type 0} (o : Option A) {P Q : A → Type 0} → IfSome o P → ((x : A) → P x → Q x) → IfSome o Q
if_map None p f = tt
if_map (Some x) p f = f x p

pub if_any : {A : Type 0} (o : Option A) {P : A → Type 0} → ((x : A) → P x) → IfSome o P
if_any None f = tt
if_any (Some x) f = f x

pub if_both : {A : Type 0} (o : Option A) {P Q R : A → Type 0} → IfSome o P → IfSome o Q → ((x : A) → P x → Q x → R x) → IfSome o R
if_both None p q f = tt
if_both (Some x) p q f = f x p q

-- ---- what is kept

pub told_of : (reads : Option (List ℕ)) (kept : Kept) (h : Knows reads kept) (P : Lists → Type 0) → P (lists_of h.calls) → IfSome (lists_told reads) P
told_of None kept h P p = tt
told_of (Some bytes) kept h P p = subst (λ (o : Option Lists). IfSome o P) (sym (told_file h.calls kept.journal bytes h.in_file)) p

pub told_calls : (reads : Option (List ℕ)) (kept : Kept) (h : Knows reads kept) → IfSome reads (Tells h.calls)
told_calls None kept h = tt
told_calls (Some bytes) kept h = told_file h.calls kept.journal bytes h.in_file

-- ---- a call that changes nothing

yes_no : (b : Bool) → b ≡ true → b ≡ false → ⊥
yes_no b t f = let wrong : true ≡ false = sym t ∙ f in absurd cc

module _ (s s' : DiskState) (a a' u u' : ℕ) (same : s'.reads ≡ s.reads) where
  still : is_some (lists_told s'.reads) ≡ is_some (lists_told s.reads)
  still = ap (λ (o : Option (List ℕ)). is_some (lists_told o)) same

  pub quiet : s.faults ≤ s'.faults → a ≤ a' → u ≤ u' → GoesOn (book_state s a u) (book_state s' a' u')
  quiet faults asked unreadable = record {
    told = record { untold = λ none. still ∙ none; ends = λ told none. absurd (yes_no _ told (sym still ∙ none)) };
    lists = told_same (lists_told s.reads) (lists_told s'.reads) Grows (ap lists_told same) grows_same;
    traced = refl;
    trace = tt;
    limits = refl;
    plan = refl;
    sure = refl;
    shows = refl;
    asked = asked;
    faults = omega (arith, faults, unreadable);
    quiet = λ sure. tt;
  }

  pub unchanged : Unchanged (book_state s a u) (book_state s' a' u')
  unchanged = record { lists = told_same (lists_told s.reads) (lists_told s'.reads) Keeps (ap lists_told same) (λ lists. record { batches = λ id. refl; marks = λ id. refl }); trace = tt }

-- a call behind one that changed no list
pub answers_behind : (call : Call) (result : Result (Unit {0}) NotaryFail) (s m s' : DiskState) (a u u' a' u'' : ℕ) → m.reads ≡ s.reads → Answers call result (book_state m a u') (book_state s' a' u'') → Answers call result (book_state s a u) (book_state s' a' u'')
answers_behind call result s m s' a u u' a' u'' same answers = record {
  lists = subst (λ (o : Option (List ℕ)). WhereTold (lists_told o) (lists_told s'.reads) (Changes call book_limits result)) same answers.lists;
  reason = subst (λ (o : Option (List ℕ)). IfSome (lists_told o) (HasReason call book_limits result)) same answers.reason;
  trace = tt;
  asked = answers.asked;
}

-- ---- a call that is refused

pub refused : (call : Call) (e : NotaryFail) (s : DiskState) (a u : ℕ) (calls : List Call) → IfSome s.reads (Tells calls) → IfSome s.reads (λ b. Changes call book_limits (Err e) (lists_of calls) (lists_of calls)) → Answers call (Err e) (book_state s a u) (book_state s a u)
refused call e s a u calls tells changes = record { lists = by s.reads tells changes; reason = why s.reads tells changes; trace = tt; asked = refl }
  where
    caused : (e : NotaryFail) → Changes call book_limits (Err e) (lists_of calls) (lists_of calls) → HasReason call book_limits (Err e) (lists_of calls)
    caused (OutOfTurn count) changes = changes.0
    caused Full changes = changes.0
    caused Failed changes = tt
    caused NoMemory changes = tt

    why : (o : Option (List ℕ)) → IfSome o (Tells calls) → IfSome o (λ b. Changes call book_limits (Err e) (lists_of calls) (lists_of calls)) → IfSome (lists_told o) (HasReason call book_limits (Err e))
    why None t changes = tt
    why (Some b) t changes = subst (λ (l : Option Lists). IfSome l (HasReason call book_limits (Err e))) (sym t) (caused e changes)

    by : (o : Option (List ℕ)) → IfSome o (Tells calls) → IfSome o (λ b. Changes call book_limits (Err e) (lists_of calls) (lists_of calls)) → WhereTold (lists_told o) (lists_told o) (Changes call book_limits (Err e))
    by None t changes = tt
    by (Some b) t changes = subst (λ (l : Option Lists). WhereTold l l (Changes call book_limits (Err e))) (sym t) changes

-- ---- a call that adds

-- what reads give is among the images
pub after_is : (old new : DiskState) (P : List ℕ → Type 0) → ((t : ℕ) (c : List ℕ) → t ≤ turn new → new.is_image c → new.was_image t c) → EveryImage old new P → (c : List ℕ) → new.is_image c → P c
after_is old new P counts every c now = every.each c (counts (turn old) c every.later now)

module _ (calls : List Call) (call : Call) where
  abbrev more : List Call
  more = calls ++ call ∷ []

  lists_step : (reads reads' : Option (List ℕ)) (P : Lists → Lists → Type 0) → IfSome reads (Tells calls) → IfSome reads' (TellsEither calls more) → P (lists_of calls) (lists_of calls) → IfSome reads (λ b. P (lists_of calls) (lists_of more)) → WhereTold (lists_told reads) (lists_told reads') P
  lists_step None reads' P t e p q = tt
  lists_step (Some b) None P t e p q = subst (λ (o : Option Lists). WhereTold o None P) (sym t) tt
  lists_step (Some b) (Some a) P t (inl e) p q = subst (λ (o : Option Lists). WhereTold o (told_by a) P) (sym t) (subst (λ (o : Option Lists). WhereTold (Some (lists_of calls)) o P) (sym e) p)
  lists_step (Some b) (Some a) P t (inr e) p q = subst (λ (o : Option Lists). WhereTold o (told_by a) P) (sym t) (subst (λ (o : Option Lists). WhereTold (Some (lists_of calls)) o P) (sym e) q)

  lists_done : (reads reads' : Option (List ℕ)) (P : Lists → Lists → Type 0) → IfSome reads (Tells calls) → IfSome reads' (Tells more) → IfSome reads (λ b. P (lists_of calls) (lists_of more)) → WhereTold (lists_told reads) (lists_told reads') P
  lists_done None reads' P t e q = tt
  lists_done (Some b) None P t e q = subst (λ (o : Option Lists). WhereTold o None P) (sym t) tt
  lists_done (Some b) (Some a) P t e q = subst (λ (o : Option Lists). WhereTold o (told_by a) P) (sym t) (subst (λ (o : Option Lists). WhereTold (Some (lists_of calls)) o P) (sym e) q)

  tells_some : (reads : Option (List ℕ)) → is_some reads ≡ true → IfSome reads (TellsEither calls more) → is_some (lists_told reads) ≡ true
  tells_some None told e = told
  tells_some (Some a) told (inl e) = ap is_some e
  tells_some (Some a) told (inr e) = ap is_some e

  told_first : (reads : Option (List ℕ)) → IfSome reads (Tells calls) → is_some (lists_told reads) ≡ is_some reads
  told_first None t = refl
  told_first (Some b) t = ap is_some t

  module _ (s s' : DiskState) (a u u' : ℕ) (on : DiskGoesOn s s') (later : u ≤ u') (before : IfSome s.reads (Tells calls)) (after : IfSome s'.reads (TellsEither calls more)) where
    told_last : is_some s'.reads ≡ true → is_some (lists_told s'.reads) ≡ true
    told_last told = tells_some s'.reads told after

    pub adds_on : GoesOn (book_state s a u) (book_state s' a u')
    adds_on = record {
      told = record {
        untold = λ none. by s'.reads (on.told ∙ sym (told_first s.reads before) ∙ none);
        ends = λ told none. absurd (yes_no _ (told_last (on.told ∙ sym (told_first s.reads before) ∙ told)) none);
      };
      lists = lists_step s.reads s'.reads Grows before after (grows_same (lists_of calls)) (if_any s.reads (λ b. grows calls call));
      traced = refl;
      trace = tt;
      limits = refl;
      plan = refl;
      sure = refl;
      shows = refl;
      asked = omega arith;
      faults = omega (arith, on.faults, later);
      quiet = λ sure. tt;
    }
      where
        by : (o : Option (List ℕ)) → is_some o ≡ false → is_some (lists_told o) ≡ false
        by None none = refl
        by (Some b) none = absurd cc

    pub adds_told : TellsAlike (lists_told s.reads) (lists_told s'.reads)
    adds_told = by s.reads s'.reads on.told before after
      where
        by : (o n : Option (List ℕ)) → TellsAlike o n → IfSome o (Tells calls) → IfSome n (TellsEither calls more) → TellsAlike (lists_told o) (lists_told n)
        by None None alike t e = refl
        by None (Some x) alike t e = absurd cc
        by (Some b) None alike t e = absurd cc
        by (Some b) (Some x) alike t e = tells_some (Some x) refl e ∙ sym (ap is_some t)

    module _ (within : IfSome s.reads (λ b. AddsWithin call book_limits (lists_of calls) (lists_of more))) where
      pub adds_failed : Answers call (Err Failed) (book_state s a u) (book_state s' a u')
      adds_failed = record { lists = lists_step s.reads s'.reads (Changes call book_limits (Err Failed)) before after (inr (keeps calls)) (if_map s.reads within (λ b adds. inl adds)); reason = if_any (lists_told s.reads) (λ lists. tt); trace = tt; asked = refl }

      pub adds_unknown : Answers call (Err NoMemory) (book_state s a u) (book_state s' a u')
      adds_unknown = record { lists = lists_step s.reads s'.reads (Changes call book_limits (Err NoMemory)) before after (inr (keeps calls)) (if_map s.reads within (λ b adds. inl adds)); reason = if_any (lists_told s.reads) (λ lists. tt); trace = tt; asked = refl }

      pub adds_stopped : (e : NotaryFail) → (e ≡ Failed) ⊎ (e ≡ NoMemory) → Answers call (Err e) (book_state s a u) (book_state s' a u')
      adds_stopped e (inl is) = subst (λ (x : NotaryFail). Answers call (Err x) (book_state s a u) (book_state s' a u')) (sym is) adds_failed
      adds_stopped e (inr is) = subst (λ (x : NotaryFail). Answers call (Err x) (book_state s a u) (book_state s' a u')) (sym is) adds_unknown

  pub adds_done : (s s' : DiskState) (a u u' : ℕ) → IfSome s.reads (Tells calls) → IfSome s'.reads (Tells more) → IfSome s.reads (λ b. AddsWithin call book_limits (lists_of calls) (lists_of more)) → Answers call (Ok tt) (book_state s a u) (book_state s' a u')
  adds_done s s' a u u' before after within = record { lists = lists_done s.reads s'.reads (Changes call book_limits (Ok tt)) before after within; reason = if_any (lists_told s.reads) (λ lists. tt); trace = tt; asked = refl }

  -- ---- over the disk

  module _ {E : Type 0} (at : Option Standing) (payload : List ℕ) (result : Result Standing E) (s s' : DiskState) (on : DiskGoesOn s s') (spelled : calls_in (payload ∷ []) ≡ call ∷ []) (next : IfSome s.reads (λ b. all_next [] more ≡ true)) (in_file : IfSome s.reads (IsFileOf calls at)) (settled : IsSettled s) (told : WhereTold s.reads s'.reads (Adds at payload result s s')) where
    together : calls ++ calls_in (payload ∷ []) ≡ more
    together = ap (λ (cs : List Call). calls ++ cs) spelled

    pub every : {b x : List ℕ} → IsFileOf calls at b → Only b s → all_next [] more ≡ true → Adds at payload result s s' b x → EveryImage s s' (TellsEither calls more)
    every f only is_next adds = subst (λ (cs : List Call). EveryImage s s' (TellsEither calls cs)) together (adds.images calls f only (ap (all_next []) together ∙ is_next))

    pub either : IfSome s'.reads s'.is_image → ((t : ℕ) (c : List ℕ) → t ≤ turn s' → s'.is_image c → s'.was_image t c) → IfSome s'.reads (TellsEither calls more)
    either image counts = by s.reads s'.reads on.told in_file settled next told image
      where
        by : (o n : Option (List ℕ)) → TellsAlike o n → IfSome o (IsFileOf calls at) → IfSome o (λ b. Only b s) → IfSome o (λ b. all_next [] more ≡ true) → WhereTold o n (Adds at payload result s s') → IfSome n s'.is_image → IfSome n (TellsEither calls more)
        by None None alike f only k t i = tt
        by None (Some x) alike f only k t i = absurd cc
        by (Some b) None alike f only k t i = tt
        by (Some b) (Some x) alike f only k t i = after_is s s' (TellsEither calls more) counts (every f only k t) x i

  module _ (E : Type 0) (at : Option Standing) (payload : List ℕ) (now : Standing) (s s' : DiskState) (on : DiskGoesOn s s') (spelled : calls_in (payload ∷ []) ≡ call ∷ []) (next : IfSome s.reads (λ b. all_next [] more ≡ true)) (in_file : IfSome s.reads (IsFileOf calls at)) (settled : IsSettled s) (told : WhereTold s.reads s'.reads (Adds {E = E} at payload (Ok now) s s')) where
    pub stored : IfSome s'.reads (IsFileOf more (Some now))
    stored = by s.reads s'.reads on.told in_file next told
      where
        both : calls ++ calls_in (payload ∷ []) ≡ more
        both = ap (λ (cs : List Call). calls ++ cs) spelled

        by : (o n : Option (List ℕ)) → TellsAlike o n → IfSome o (IsFileOf calls at) → IfSome o (λ b. all_next [] more ≡ true) → WhereTold o n (Adds {E = E} at payload (Ok now) s s') → IfSome n (IsFileOf more (Some now))
        by None None alike f k t = tt
        by None (Some x) alike f k t = absurd cc
        by (Some b) None alike f k t = tt
        by (Some b) (Some x) alike f k t = subst (λ (cs : List Call). Stores cs now x) both (t.added calls f (ap (all_next []) both ∙ k))

    pub stays_settled : IsSettled s'
    stays_settled = by s.reads s'.reads on.told settled told
      where
        by : (o n : Option (List ℕ)) → TellsAlike o n → IfSome o (λ b. Only b s) → WhereTold o n (Adds {E = E} at payload (Ok now) s s') → IfSome n (λ b. Only b s')
        by None None alike only t = tt
        by None (Some x) alike only t = absurd cc
        by (Some b) None alike only t = tt
        by (Some b) (Some x) alike only t = t.durable only

-- ---- a call behind what is kept

file_is_next : (calls : List Call) (at : Option Standing) (b : List ℕ) → IsFileOf calls at b → all_next [] calls ≡ true
file_is_next calls None b f = ap (all_next []) f.0
file_is_next calls (Some at) b f = f.next

pub asked_is : (e : NotaryFail) → IsAsked {T = Standing} (Err e) → (e ≡ Failed) ⊎ (e ≡ NoMemory)
asked_is Failed h = inl refl
asked_is (OutOfTurn count) h = absurd h
asked_is Full h = absurd h
asked_is NoMemory h = inr refl

pub if_alike : (P : Type 0) (o n : Option (List ℕ)) → TellsAlike o n → IfSome o (λ b. P) → IfSome n (λ b. P)
if_alike P None None alike p = tt
if_alike P None (Some x) alike p = absurd cc
if_alike P (Some b) None alike p = tt
if_alike P (Some b) (Some x) alike p = p

module _ (reads : Option (List ℕ)) (kept : Kept) (k : Knows reads kept) where
  module _ (id index : ℕ) (batch : Batch) where
    pub out_of_turn : (count : ℕ) → count ≡ length (moments_on (shelf_of kept.pages.shelves id)) → index ≢ count → IfSome reads (λ b. Changes (file id index batch) book_limits (Err (OutOfTurn count)) (lists_of k.calls) (lists_of k.calls))
    out_of_turn count is isnt = if_map reads k.stands (λ b stands. (((λ e. isnt (e ∙ sym (count_is k.calls kept.pages stands id) ∙ sym is)), is ∙ count_is k.calls kept.pages stands id), keeps k.calls))

    module _ (turn : index ≡ length (moments_on (shelf_of kept.pages.shelves id))) where
      pub full : leb (kept.pages.seals + length batch.seals) max_seals ≡ false → IfSome reads (λ b. Changes (file id index batch) book_limits (Err Full) (lists_of k.calls) (lists_of k.calls))
      full no_room = if_map reads k.stands (λ b stands. ((turn ∙ count_is k.calls kept.pages stands id, λ room. omega (arith, room, leb-false _ _ no_room, stands.seals_are)), keeps k.calls))

      pub batch_within : leb (kept.pages.seals + length batch.seals) max_seals ≡ true → IfSome reads (λ b. AddsWithin (file id index batch) book_limits (lists_of k.calls) (lists_of (k.calls ++ file id index batch ∷ [])))
      batch_within room = if_map reads k.stands (λ b stands. (turn ∙ count_is k.calls kept.pages stands id, omega (arith, leb-true _ _ room, stands.seals_are), adds k.calls (file id index batch)))

      pub batch_next : leb (kept.pages.seals + length batch.seals) max_seals ≡ true → IfSome reads (λ b. all_next [] (k.calls ++ file id index batch ∷ []) ≡ true)
      batch_next room = if_both reads k.stands k.in_file (λ b stands f. next_is k.calls (file id index batch) (file_is_next k.calls kept.journal b f) ∙ file_next k.calls kept.pages stands id index batch turn room)

  module _ (id : ℕ) (mark : Mark) where
    pub marks_full : ltb kept.pages.marks max_marks ≡ false → IfSome reads (λ b. Changes (note id mark) book_limits (Err Full) (lists_of k.calls) (lists_of k.calls))
    marks_full no_room = if_map reads k.stands (λ b stands. ((tt, λ room. omega (arith, room, ltb-false _ _ no_room, stands.marks_are)), keeps k.calls))

    pub mark_within : ltb kept.pages.marks max_marks ≡ true → IfSome reads (λ b. AddsWithin (note id mark) book_limits (lists_of k.calls) (lists_of (k.calls ++ note id mark ∷ [])))
    mark_within room = if_map reads k.stands (λ b stands. (tt, omega (arith, ltb-true _ _ room, stands.marks_are), adds k.calls (note id mark)))

    pub mark_next : ltb kept.pages.marks max_marks ≡ true → IfSome reads (λ b. all_next [] (k.calls ++ note id mark ∷ []) ≡ true)
    mark_next room = if_both reads k.stands k.in_file (λ b stands f. next_is k.calls (note id mark) (file_is_next k.calls kept.journal b f) ∙ note_is k.calls kept.pages stands id mark true room)

  -- no memory before anything was done
  pub nothing_done : (call : Call) → IfSome reads (λ b. Changes call book_limits (Err NoMemory) (lists_of k.calls) (lists_of k.calls))
  nothing_done call = if_map reads k.stands (λ b stands. inr (keeps k.calls))

-- what is told of what is kept
pub gives : (reads reads' : Option (List ℕ)) (kept : Kept) (k : Knows reads' kept) (P : Lists → Type 0) → reads' ≡ reads → (StandsFor k.calls kept.pages → P (lists_of k.calls)) → IfSome (lists_told reads) P
gives reads reads' kept k P same f = subst (λ (o : Option (List ℕ)). IfSome (lists_told o) P) same (by reads' k.stands k.in_file)
  where
    by : (o : Option (List ℕ)) → IfSome o (λ b. StandsFor k.calls kept.pages) → IfSome o (IsFileOf k.calls kept.journal) → IfSome (lists_told o) P
    by None stands f' = tt
    by (Some b) stands f' = subst (λ (o : Option Lists). IfSome o P) (sym (told_file k.calls kept.journal b f')) (f stands)
