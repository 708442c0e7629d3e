-- That what was read is a history, behind the count of batches.
use Rattle.std.proofs.Common.{◌≡◌, ℕ, List, [], ◌∷◌, length, Option, Some, None, false, Result, Ok, Err, IfSome, IfOk, subst, arith}
use Rattle.std.specs.Option.{is_some, option_map}
use Rattle.outside_words.specs.Told.{WhereTold}
use Rattle.tuple_bytes.specs.declared.header.Header.{Header}
use Rattle.history_model.specs.declared.stored.Stored.{Stored}
use Rattle.history_model.specs.History.{history}
use Rattle.segment_file.specs.declared.reading.StoredAny.{StoredAny}
use Rattle.segment_file.specs.Reading.{as_stored, IsRead}
use Rattle.history_model.specs.Stored.{stored}
use Rattle.history_model.specs.StoredHistory.{IsHistory}
use Rattle.notary_link.specs.Batches.{Batch}
use Rattle.notary_link.specs.Notary.{Lists, Keeps}
use Rattle.audit_model.specs.Altered.{history_in}
use Rattle.notary_link.proofs.Reading.{told_behind}
use Rattle.forensic_report.specs.Held.{HoldsHistory}
use Rattle.forensic_report.proofs.Counted.{as_read}

history_under : (s : Stored) (o : Option Header) → IfSome o (λ header. IsHistory (history header s.items)) → IfSome (option_map (λ (header : Header). history header s.items) o) IsHistory
history_under s None is = tt
history_under s (Some header) is = is

pub value_read : (told : Option (List ℕ)) (s : StoredAny) → IfSome told (λ bytes. IsRead bytes s) → IfSome told (λ bytes. as_stored s ≡ stored bytes)
value_read None s read = tt
value_read (Some bytes) s read = read.value

-- what is stored, where it was read
pub history_read : {A E : Type 0} (r : Result A E) (s : Stored) (reads : Option (List ℕ)) → IfSome reads (λ bytes. s ≡ stored bytes) → IfSome s.header (λ header. IsHistory (history header s.items))
    → IfOk r (λ a. IfSome reads (λ bytes. IfSome (history_in (stored bytes)) IsHistory))
history_read (Ok a) s None is fits = tt
history_read (Ok a) s (Some bytes) is fits = subst (λ (x : Stored). IfSome (history_in x) IsHistory) is (history_under s s.header fits)
history_read (Err e) s reads is fits = tt

told_any : (o z : Option Lists) (Q : Lists → Type 0) → ((b : Lists) → Q b) → WhereTold o z (λ before after. Q before)
told_any (Some b) (Some a) Q f = f b
told_any (Some b) None Q f = tt
told_any None z Q f = tt

any_batches : (batches : List Batch) (bytes : List ℕ) → IfSome (history_in (stored bytes)) IsHistory → HoldsHistory batches bytes
any_batches [] bytes is = tt
any_batches (batch ∷ batches) bytes is = is

no_batches : (batches : List Batch) (bytes : List ℕ) → 0 ≡ length batches → HoldsHistory batches bytes
no_batches [] bytes none = tt
no_batches (batch ∷ batches) bytes none = absurd (omega (arith, none))

module _ (id : ℕ) (o z : Option Lists) where
  -- nothing was filed
  pub none_held : (reads : Option (List ℕ)) → IfSome o (λ lists. 0 ≡ length (lists.batches id)) → IfSome reads (λ bytes. WhereTold o z (λ before after. HoldsHistory (before.batches id) bytes))
  none_held None none = tt
  none_held (Some bytes) none = by o z none
    where
      by : (p q : Option Lists) → IfSome p (λ lists. 0 ≡ length (lists.batches id)) → WhereTold p q (λ before after. HoldsHistory (before.batches id) bytes)
      by (Some b) (Some a) none = no_batches (b.batches id) bytes none
      by (Some b) None none = tt
      by None q none = tt

  -- the bytes were read
  pub read_held : {A E : Type 0} (r : Result A E) (reads : Option (List ℕ)) → IfOk r (λ a. IfSome reads (λ bytes. IfSome (history_in (stored bytes)) IsHistory))
      → IfOk r (λ a. IfSome reads (λ bytes. WhereTold o z (λ before after. HoldsHistory (before.batches id) bytes)))
  read_held (Ok a) None is = tt
  read_held (Ok a) (Some bytes) is = told_any o z (λ (b : Lists). HoldsHistory (b.batches id) bytes) (λ b. any_batches (b.batches id) bytes is)
  read_held (Err e) reads is = tt

-- calls behind that leave the lists
pub held_behind : (id : ℕ) (o m z : Option Lists) → (is_some m ≡ false → is_some z ≡ false) → WhereTold o m Keeps → (reads : Option (List ℕ))
    → IfSome reads (λ bytes. WhereTold o m (λ before after. HoldsHistory (before.batches id) bytes)) → IfSome reads (λ bytes. WhereTold o z (λ before after. HoldsHistory (before.batches id) bytes))
held_behind id o m z stays keeps reads is = as_read _ _ reads is (λ bytes held.
    told_behind id (λ batches. HoldsHistory batches bytes) (λ batches. Unit {0}) (λ batches. HoldsHistory batches bytes) o m z stays keeps held (told_any m z (λ (b : Lists). Unit {0}) (λ b. tt)) (λ batches h u. h))
