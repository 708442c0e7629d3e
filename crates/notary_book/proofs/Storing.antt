-- Calls on the file of a book: what they leave at each moment, and what the file says behind them.
use Rattle.std.proofs.Common.{◌≡◌, inl, inr, ℕ, Bool, true, false, List, [], ◌∷◌, ◌++◌, length, Option, None, Some, Result, Ok, Err, IfSome, refl, sym, ap, ◌∙◌, subst, arith}
use Rattle.std.proofs.lemmas.List.Elements.{filter_map-append}
use Rattle.std.proofs.lemmas.Option.{same_Some}
use Rattle.outside_words.specs.Told.{WhereTold, TellsAlike}
use Rattle.outside_words.proofs.Told.{told_map, told_then, told_same}
use Rattle.disk_words.specs.declared.DiskFail.{DiskFail}
use Rattle.disk_words.specs.declared.DiskFail.TheVariants.{Failed, NoMemory}
use Rattle.disk_words.specs.Disk.{cut, sync, State, turn, GoesOn, Only, Makes as MakesCall, Answers, Unchanged}
use Rattle.disk_model.specs.Moments.{EveryImage}
use Rattle.disk_model.proofs.Moments.{started, one_more, stays, weaker, joined, torn}
use Rattle.notary_link.specs.Notary.{Call}
use Rattle.txn_journal.specs.declared.fail.JournalFail.{JournalFail}
use Rattle.txn_journal.specs.Append.{Appends}
use Rattle.txn_journal.specs.Create.{is_free, IsFree, IsHalfMade, Creates}
use Rattle.txn_journal.specs.Held.{Held, Standing, StandsIn, held_by, new_file, with_payload, HoldsOldOrNew, behind}
use Rattle.txn_journal.specs.Opening.{held_of}
use Rattle.notary_book.specs.Adding.{Tells, TellsEither, Clears, Makes, Starts, Adds}
use Rattle.notary_book.specs.Books.{all_next, book_head, is_book_head, book_shape, calls_in}
use Rattle.notary_book.specs.Kept.{Stores, IsFileOf}
use Rattle.notary_book.proofs.Bytes.{told_held, told_free, told_file, free_front, half_tells}

-- ---- the device is cleared

module _ (old : State) (only_now : (c : List ℕ) → old.was_image (turn old) c → old.is_image c) where
  abbrev free : List ℕ → Type 0
  free c = is_free c ≡ true

  at_start : (before : List ℕ) → free before → Only before old → EveryImage old old free
  at_start before f only = started old free only_now (λ c now. subst free (sym (only c now)) f)

  was_cut : (ok : Bool) (new : State) (before : List ℕ) → MakesCall (cut 0) ok old new → free before → Only before old → EveryImage old new free
  was_cut ok new before made f only = one_more (cut 0) ok old old new free (at_start before f only) made (λ c now.
      let t = torn (cut 0) ok old new before only made c now in
      free_front before c f t.front)

  pub cut_stopped : (e : DiskFail) (new : State) → Answers (cut 0) (Err e) old new → WhereTold old.reads new.reads (Clears (Err e) old new)
  cut_stopped Failed new change = told_map old.reads new.reads _ (Clears (Err Failed) old new) change (λ before after made. record {
    cleared = tt;
    durable = tt;
    images = λ f only. was_cut false new before made.0 f only;
  })
  cut_stopped NoMemory new same = told_same old.reads new.reads (Clears (Err NoMemory) old new) same.reads (λ before. record {
    cleared = tt;
    durable = tt;
    images = λ f only. stays old old new free (at_start before f only) same;
  })

  module _ (mid new : State) where
    synced : (ok : Bool) (before : List ℕ) → MakesCall (cut 0) true old mid → MakesCall sync ok mid new → free before → Only before old → EveryImage old new free
    synced ok before first next f only = one_more sync ok old mid new free (was_cut true mid before first f only) next (λ c now.
        let from = next.images c now in
        let t = torn (cut 0) true old mid before only first from.0 from.1 in
        subst free (sym from.2) (free_front before from.0 f t.front))

    pub cut_synced : (result : Result (Unit {0}) DiskFail) → GoesOn old mid → Answers (cut 0) (Ok tt) old mid → Answers sync result mid new → WhereTold old.reads new.reads (Clears result old new)
    cut_synced (Ok _) on first next = told_then old.reads mid.reads new.reads _ _ (Clears (Ok tt) old new) on.told first next (λ before between after made sync_made. record {
      cleared = sync_made.0 tt ∙ made.0 (omega arith);
      durable = sync_made.2;
      images = λ f only. synced true before made.1 sync_made.1 f only;
    })
    cut_synced (Err Failed) on first next = told_then old.reads mid.reads new.reads _ _ (Clears (Err Failed) old new) on.told first next (λ before between after made sync_made. record {
      cleared = tt;
      durable = tt;
      images = λ f only. synced false before made.1 sync_made.0 f only;
    })
    cut_synced (Err NoMemory) on first same = told_then old.reads mid.reads new.reads _ (λ b a. a ≡ b) (Clears (Err NoMemory) old new) on.told first (told_same mid.reads new.reads (λ b a. a ≡ b) same.reads (λ b. refl)) (λ before between after made is. record {
      cleared = tt;
      durable = tt;
      images = λ f only. stays old mid new free (was_cut true mid before made.1 f only) same;
    })

-- ---- the file is made

kept_told : (o n : Option (List ℕ)) (P : List ℕ → Type 0) → n ≡ o → IfSome o P → WhereTold o n (λ b a. (a ≡ b) × P b)
kept_told o n P same h = subst (λ (x : Option (List ℕ)). WhereTold o x (λ b a. (a ≡ b) × P b)) (sym same) (by o h)
  where
    by : (x : Option (List ℕ)) → IfSome x P → WhereTold x x (λ b a. (a ≡ b) × P b)
    by (Some b) p = (refl, p)
    by None p = tt

pub only_still : (b : List ℕ) (old new : State) → Unchanged old new → Only b old → Only b new
only_still b old new same only c now = only c ((same.images c).0 now)

module _ (old mid : State) where
  of_clear : {r : Result (Unit {0}) DiskFail} {b a : List ℕ} → Clears r old mid b a → is_free b ≡ true → Only b old → EveryImage old mid (Tells [])
  of_clear clears f only = weaker (clears.images f only) (λ c h. told_free c h)

  pub not_cleared : (e : DiskFail) (fail : JournalFail) → WhereTold old.reads mid.reads (Clears (Err e) old mid) → WhereTold old.reads mid.reads (Makes (Err fail) old mid)
  not_cleared e fail told = told_map old.reads mid.reads _ (Makes (Err fail) old mid) told (λ b a clears. record { made = tt; durable = tt; images = of_clear clears })

  module _ (on : GoesOn old mid) (cleared : WhereTold old.reads mid.reads (Clears (Ok tt) old mid)) (next : State) where
    nothing_free : (b : List ℕ) → b ≡ [] → IsFree b
    nothing_free b e = inl (omega (arith, ap length e))

    of_create : {r : Result (Unit {0}) JournalFail} {b x a : List ℕ} → Clears (Ok tt) old mid b x → Creates is_book_head book_shape book_head r mid next x a → is_free b ≡ true → Only b old → EveryImage old next (Tells [])
    of_create {r} {b} {x} {a} clears creates f only =
        joined old mid next (Tells []) (IsHalfMade book_shape book_head x) (of_clear clears f only)
        (creates.images (nothing_free x clears.cleared) clears.durable)
        (λ c half. half_tells c (subst (λ (l : List ℕ). IsHalfMade book_shape book_head l c) clears.cleared half))

    pub not_created : (fail other : JournalFail) → WhereTold mid.reads next.reads (Creates is_book_head book_shape book_head (Err fail) mid next) → WhereTold old.reads next.reads (Makes (Err other) old next)
    not_created fail other created = told_then old.reads mid.reads next.reads _ _ (Makes (Err other) old next) on.told cleared created (λ b x a clears creates. record { made = tt; durable = tt; images = of_create clears creates })

    module _ (on_next : GoesOn mid next) (created : WhereTold mid.reads next.reads (Creates is_book_head book_shape book_head (Ok tt) mid next)) (new : State) (same : Unchanged next new) where
      abbrev Both : List ℕ → List ℕ → Type 0
      Both b a = (is_free b ≡ true → Only b old → EveryImage old next (Tells [])) × Only a next × (held_by is_book_head book_shape a ≡ Some (new_file book_head))

      both : WhereTold old.reads next.reads Both
      both = told_then old.reads mid.reads next.reads _ _ Both on.told cleared created (λ b x a clears creates. (of_create clears creates, creates.durable, creates.holds))

      alike : TellsAlike old.reads next.reads
      alike = on_next.told ∙ on.told

      pub not_opened : (fail : JournalFail) → WhereTold old.reads new.reads (Makes (Err fail) old new)
      not_opened fail = told_then old.reads next.reads new.reads Both (λ b a. a ≡ b) (Makes (Err fail) old new) alike both (told_same next.reads new.reads (λ b a. a ≡ b) same.reads (λ b. refl)) (λ b x a h is. record {
        made = tt;
        durable = tt;
        images = λ f only. stays old next new (Tells []) (h.0 f only) same;
      })

      pub opened : (head : List ℕ) (payloads : List (List ℕ)) (at : Standing) → IfSome next.reads (StandsIn is_book_head book_shape at (held_of head payloads at)) → WhereTold old.reads new.reads (Makes (Ok at) old new)
      opened head payloads at found = told_then old.reads next.reads new.reads Both _ (Makes (Ok at) old new) alike both (kept_told next.reads new.reads (StandsIn is_book_head book_shape at (held_of head payloads at)) same.reads found) (λ b x a h is.
          let held_is : held_of head payloads at ≡ new_file book_head = same_Some _ _ (sym is.1.holds ∙ h.2) in
          record {
            made = subst (λ (l : List ℕ). Stores [] at l) (sym is.0) (record { held = held_of head payloads at; stands = is.1; calls_are = ap (λ (held : Held). calls_in held.payloads) held_is; next = refl });
            durable = subst (λ (l : List ℕ). Only l new) (sym is.0) (only_still x next new same h.1);
            images = λ f only. stays old next new (Tells []) (h.0 f only) same;
          })

-- ---- a file that is there or made

pub is_there : (at : Standing) (s : State) → ((c : List ℕ) → s.was_image (turn s) c → s.is_image c) → WhereTold s.reads s.reads (Starts (Some at) (Ok at) s s)
is_there at s only_now = told_same s.reads s.reads (Starts (Some at) (Ok at) s s) refl (λ b. record {
  made = λ calls stores. stores;
  durable = λ only. only;
  images = λ calls stores only. started s (Tells calls) only_now (λ c now. subst (Tells calls) (sym (only c now)) (told_file calls (Some at) b stores));
})

pub is_made : (result : Result Standing JournalFail) (old new : State) → WhereTold old.reads new.reads (Makes result old new) → WhereTold old.reads new.reads (Starts None result old new)
is_made (Ok at) old new told = told_map old.reads new.reads _ (Starts None (Ok at) old new) told (λ b a makes. record {
  made = λ calls file. subst (λ (cs : List Call). Stores cs at a) (sym file.0) makes.made;
  durable = λ only. makes.durable;
  images = λ calls file only. subst (λ (cs : List Call). EveryImage old new (Tells cs)) (sym file.0) (makes.images file.1 only);
})
is_made (Err fail) old new told = told_map old.reads new.reads _ (Starts None (Err fail) old new) told (λ b a makes. record {
  made = tt;
  durable = tt;
  images = λ calls file only. subst (λ (cs : List Call). EveryImage old new (Tells cs)) (sym file.0) (makes.images file.1 only);
})

-- ---- a payload is added

module _ (at : Option Standing) (payload : List ℕ) where
  abbrev more : List Call
  more = calls_in (payload ∷ [])

  pub not_started : (fail other : JournalFail) (old new : State) → WhereTold old.reads new.reads (Starts at (Err fail) old new) → WhereTold old.reads new.reads (Adds at payload (Err other) old new)
  not_started fail other old new told = told_map old.reads new.reads _ (Adds at payload (Err other) old new) told (λ b a starts. record {
    added = tt;
    durable = tt;
    images = λ calls file only next. weaker (starts.images calls file only) (λ c tells. inl tells);
  })

  calls_more : (held : Held) (calls : List Call) → calls_in held.payloads ≡ calls → calls_in (with_payload held payload).payloads ≡ calls ++ more
  calls_more held calls are = filter_map-append _ held.payloads (payload ∷ []) ∙ ap (λ (cs : List Call). cs ++ more) are

  holds_either : (held : Held) (calls : List Call) → calls_in held.payloads ≡ calls → all_next [] calls ≡ true → all_next [] (calls ++ more) ≡ true → (c : List ℕ) → HoldsOldOrNew is_book_head book_shape held payload c → TellsEither calls (calls ++ more) c
  holds_either held calls are next next' c (inl old) = inl (told_held c held calls old are next)
  holds_either held calls are next next' c (inr new) = inr (told_held c (with_payload held payload) (calls ++ more) new (calls_more held calls are) next')

  module _ (now : Standing) (old mid new : State) (on : GoesOn old mid) (starts : WhereTold old.reads mid.reads (Starts at (Ok now) old mid)) where
    of_append : {r : Result (Unit {0}) JournalFail} {b x a : List ℕ} → Starts at (Ok now) old mid b x → Appends is_book_head book_shape now payload r mid new x a
        → (calls : List Call) → IsFileOf calls at b → Only b old → all_next [] (calls ++ more) ≡ true → EveryImage old new (TellsEither calls (calls ++ more))
    of_append {r} {b} {x} {a} s appends calls file only next =
        let stores = s.made calls file in
        joined old mid new (TellsEither calls (calls ++ more)) (HoldsOldOrNew is_book_head book_shape stores.held payload)
        (weaker (s.images calls file only) (λ c tells. inl tells))
        (appends.images stores.held stores.stands (s.durable only))
        (holds_either stores.held calls stores.calls_are stores.next next)

    pub not_appended : (fail other : JournalFail) → WhereTold mid.reads new.reads (Appends is_book_head book_shape now payload (Err fail) mid new) → WhereTold old.reads new.reads (Adds at payload (Err other) old new)
    not_appended fail other told = told_then old.reads mid.reads new.reads _ _ (Adds at payload (Err other) old new) on.told starts told (λ b x a s appends. record { added = tt; durable = tt; images = of_append s appends })

    pub appended : (later : Standing) → later ≡ behind now payload → WhereTold mid.reads new.reads (Appends is_book_head book_shape now payload (Ok tt) mid new) → WhereTold old.reads new.reads (Adds {E = JournalFail} at payload (Ok later) old new)
    appended later is told = told_then old.reads mid.reads new.reads _ _ (Adds {E = JournalFail} at payload (Ok later) old new) on.told starts told (λ b x a s appends. record {
      added = λ calls file next.
          let stores = s.made calls file in
          record {
            held = with_payload stores.held payload;
            stands = subst (λ (at : Standing). StandsIn is_book_head book_shape at (with_payload stores.held payload) a) (sym is) (appends.added stores.held stores.stands);
            calls_are = calls_more stores.held calls stores.calls_are;
            next = next;
          };
      durable = λ only. appends.durable;
      images = of_append s appends;
    })
