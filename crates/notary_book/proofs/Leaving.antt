-- What is on the disk at each moment of a call that adds.
use Rattle.std.proofs.Common.{◌≡◌, ◌⊎◌, inl, inr, ◌≤◌, ℕ, true, List, [], ◌∷◌, ◌++◌, Option, None, Some, Result, IfSome, sym, subst}
use Rattle.std.proofs.lemmas.Option.{same_Some}
use Rattle.outside_words.specs.Told.{WhereTold}
use Rattle.disk_words.specs.Disk.{State, turn, Only, GoesOn}
use Rattle.disk_model.specs.Moments.{EveryImage}
use Rattle.disk_model.proofs.Moments.{started, weaker, joined}
use Rattle.notary_link.specs.Notary.{Call, Lists}
use Rattle.txn_journal.specs.Held.{Standing}
use Rattle.notary_book.specs.Adding.{Tells, TellsEither, Adds}
use Rattle.notary_book.specs.Books.{lists_of, all_next, calls_in, told_by}
use Rattle.notary_book.specs.Kept.{IsFileOf, IsSettled}
use Rattle.notary_book.specs.Moments.{LeavesNone, SaysOf, LeavesOf}
use Rattle.notary_book.proofs.Lists.{adds, keeps}
use Rattle.notary_book.proofs.Telling.{if_map, if_any, after_is, every}

says_either : (calls : List Call) (call : Call) (c : List ℕ) → TellsEither calls (calls ++ call ∷ []) c → SaysOf call (lists_of calls) c
says_either calls call c (inl e) = (lists_of calls, e, inr (keeps calls))
says_either calls call c (inr e) = (lists_of (calls ++ call ∷ []), e, inl (adds calls call))

told_lists : (b : List ℕ) (calls : List Call) → Tells calls b → (P : Lists → Type 0) → P (lists_of calls) → IfSome (told_by b) P
told_lists b calls e P p = subst (λ (o : Option Lists). IfSome o P) (sym e) p

-- nothing was done
pub leaves_same : (call : Call) (s : State) → ((c : List ℕ) → s.was_image (turn s) c → s.is_image c) → WhereTold s.reads s.reads (LeavesOf call s s)
leaves_same call s only_now = by s.reads
  where
    by : (o : Option (List ℕ)) → WhereTold o o (LeavesOf call s s)
    by None = tt
    by (Some b) = if_any (told_by b) (λ lists. started s (λ c. s.is_image c ⊎ SaysOf call lists c) only_now (λ c now. inl now))

-- only reading was
pub leaves_read : (call : Call) (s m : State) → WhereTold s.reads m.reads (LeavesNone s m) → WhereTold s.reads m.reads (LeavesOf call s m)
leaves_read call s m told = by s.reads m.reads told
  where
    by : (o n : Option (List ℕ)) → WhereTold o n (LeavesNone s m) → WhereTold o n (LeavesOf call s m)
    by None n t = tt
    by (Some b) None t = tt
    by (Some b) (Some a) t = if_any (told_by b) (λ lists. weaker t (λ c was. inl was))

-- a payload was added, or not
pub leaves_added : {E : Type 0} (calls : List Call) (call : Call) (at : Option Standing) (payload : List ℕ) (result : Result Standing E) (s s' : State) → GoesOn s s' → calls_in (payload ∷ []) ≡ call ∷ [] → IfSome s.reads (λ b. all_next [] (calls ++ call ∷ []) ≡ true) → IfSome s.reads (IsFileOf calls at) → IsSettled s → IfSome s.reads (Tells calls) → WhereTold s.reads s'.reads (Adds at payload result s s') → WhereTold s.reads s'.reads (LeavesOf call s s')
leaves_added calls call at payload result s s' on spelled next in_file settled tells told = by s.reads s'.reads next in_file settled tells told
  where
    by : (o n : Option (List ℕ)) → IfSome o (λ b. all_next [] (calls ++ call ∷ []) ≡ true) → IfSome o (IsFileOf calls at) → IfSome o (λ b. Only b s) → IfSome o (Tells calls) → WhereTold o n (Adds at payload result s s') → WhereTold o n (LeavesOf call s s')
    by None n k f only e t = tt
    by (Some b) None k f only e t = tt
    by (Some b) (Some a) k f only e t = told_lists b calls e _ (weaker (every calls call at payload result s s' on spelled next in_file settled told f only k t) (λ c h. inr (says_either calls call c h)))

-- behind reading
pub leaves_behind : (call : Call) (s m s' : State) → m.reads ≡ s.reads → ((t : ℕ) (c : List ℕ) → t ≤ turn m → m.is_image c → m.was_image t c) → WhereTold s.reads m.reads (LeavesNone s m) → WhereTold m.reads s'.reads (LeavesOf call m s') → WhereTold s.reads s'.reads (LeavesOf call s s')
leaves_behind call s m s' same counts first next = by s.reads m.reads s'.reads same first next
  where
    there : (lists : Lists) → EveryImage s m s.is_image → EveryImage m s' (λ c. m.is_image c ⊎ SaysOf call lists c) → EveryImage s s' (λ c. s.is_image c ⊎ SaysOf call lists c)
    there lists was every = joined s m s' (λ c. s.is_image c ⊎ SaysOf call lists c) (λ c. m.is_image c ⊎ SaysOf call lists c) (weaker was (λ c now. inl now)) every back
      where
        back : (c : List ℕ) → m.is_image c ⊎ SaysOf call lists c → s.is_image c ⊎ SaysOf call lists c
        back c (inl now) = inl (after_is s m s.is_image counts was c now)
        back c (inr says) = inr says

    by : (o x n : Option (List ℕ)) → x ≡ o → WhereTold o x (LeavesNone s m) → WhereTold x n (LeavesOf call m s') → WhereTold o n (LeavesOf call s s')
    by None x n e l w = tt
    by (Some b) None n e l w = absurd cc
    by (Some b) (Some y) None e l w = tt
    by (Some b) (Some y) (Some a) e l w = subst (λ (z : List ℕ). LeavesOf call s s' z a) (same_Some y b e) (if_map (told_by y) w (λ lists every. there lists l every))
