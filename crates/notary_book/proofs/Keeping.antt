-- What is kept, said of the bytes alone, and back.
use Rattle.std.proofs.Common.{◌≡◌, ℕ, true, false, List, [], Option, None, Some, IfSome, refl, sym, ap, ◌∙◌, subst}
use Rattle.std.specs.Option.{is_some}
use Rattle.std.proofs.lemmas.Option.{same_Some}
use Rattle.disk_words.specs.Disk.{State, Only}
use Rattle.notary_link.specs.Notary.{Call}
use Rattle.txn_journal.specs.Held.{Held, Standing, held_by}
use Rattle.txn_journal.specs.Create.{is_free}
use Rattle.notary_book.specs.declared.kept.Kept.{Kept}
use Rattle.notary_book.specs.Books.{all_next, is_book_head, book_shape}
use Rattle.notary_book.specs.Kept.{StandsFor, Stores, IsFileOf, IsOpen, IsShort, Holds, IsSettled, calls_held, calls_told, end_held, StandsAt, IsKeptOf, KeepsOf, SettledOf, OpenOf, Knows}
use Rattle.notary_book.proofs.Bytes.{free_unheld}

free_calls : (bytes : List ℕ) → is_free bytes ≡ true → calls_told bytes ≡ []
free_calls bytes free = ap calls_held (free_unheld bytes free)

stored_calls : (calls : List Call) (at : Standing) (bytes : List ℕ) → Stores calls at bytes → calls_told bytes ≡ calls
stored_calls calls at bytes stores = ap calls_held stores.stands.holds ∙ stores.calls_are

file_calls : (calls : List Call) (at : Option Standing) (bytes : List ℕ) → IsFileOf calls at bytes → calls_told bytes ≡ calls
file_calls calls None bytes f = free_calls bytes f.1 ∙ sym f.0
file_calls calls (Some at) bytes f = stored_calls calls at bytes f

stands_at : (calls : List Call) (at : Standing) (bytes : List ℕ) → Stores calls at bytes → StandsAt bytes at
stands_at calls at bytes stores = record {
  is_held = ap is_some stores.stands.holds;
  end = ap end_held stores.stands.holds ∙ stores.stands.end;
  gate = stores.stands.gate;
  next = ap (all_next []) (stored_calls calls at bytes stores) ∙ stores.next;
}

pub kept_of : (calls : List Call) (kept : Kept) (bytes : List ℕ) → StandsFor calls kept.pages → IsFileOf calls kept.journal bytes → IsShort kept.journal kept.pages → IsKeptOf bytes kept
kept_of calls kept bytes stands f short = record {
  stands = subst (λ (cs : List Call). StandsFor cs kept.pages) (sym (file_calls calls kept.journal bytes f)) stands;
  before = λ none. (subst (λ (at : Option Standing). IsFileOf calls at bytes) none f).1;
  behind = λ at some. stands_at calls at bytes (subst (λ (o : Option Standing). IsFileOf calls o bytes) some f);
  short = short;
}

pub keeps_some : (calls : List Call) (reads : Option (List ℕ)) (kept : Kept) → IfSome reads (λ b. StandsFor calls kept.pages) → IfSome reads (IsFileOf calls kept.journal) → IfSome reads (λ b. IsShort kept.journal kept.pages) → KeepsOf reads (Some kept)
keeps_some calls reads kept stands f short = λ k bytes is told.
    let here : IsKeptOf bytes kept = kept_of calls kept bytes (subst (λ (o : Option (List ℕ)). IfSome o (λ b. StandsFor calls kept.pages)) told stands) (subst (λ (o : Option (List ℕ)). IfSome o (IsFileOf calls kept.journal)) told f) (subst (λ (o : Option (List ℕ)). IfSome o (λ b. IsShort kept.journal kept.pages)) told short) in
    subst (IsKeptOf bytes) (same_Some kept k is) here

pub keeps_read : (reads : Option (List ℕ)) (kept : Kept) → Holds reads kept → KeepsOf reads (Some kept)
keeps_read reads kept h = keeps_some h.calls reads kept (by reads) h.in_file h.short
  where
    by : (o : Option (List ℕ)) → IfSome o (λ b. StandsFor h.calls kept.pages)
    by None = tt
    by (Some b) = h.stands

pub settled_some : (s : State) (kept : Kept) → IsSettled s → SettledOf s (Some kept)
settled_some s kept settled = λ k bytes is told. subst (λ (o : Option (List ℕ)). IfSome o (λ b. Only b s)) told settled

pub settled_of : (s : State) (kept : Kept) → SettledOf s (Some kept) → IsSettled s
settled_of s kept settled = by s.reads (λ bytes told. settled kept bytes refl told)
  where
    by : (o : Option (List ℕ)) → ((bytes : List ℕ) → o ≡ Some bytes → Only bytes s) → IfSome o (λ b. Only b s)
    by None f = tt
    by (Some b) f = f b refl

pub opens_some : (kept : Kept) → IsOpen kept.journal → OpenOf (Some kept)
opens_some kept open_is = λ k at is some. subst (λ (o : Option Standing). IsOpen o) (ap (λ (x : Kept). x.journal) (same_Some kept k is) ∙ some) open_is

pub open_of : (kept : Kept) → OpenOf (Some kept) → IsOpen kept.journal
open_of kept opens = by kept.journal (λ at some. opens kept at refl some)
  where
    by : (o : Option Standing) → ((at : Standing) → o ≡ Some at → at.is_closed ≡ false) → IsOpen o
    by None f = tt
    by (Some at) f = f at refl

-- nothing is kept
pub keeps_none : (reads : Option (List ℕ)) (kept : Option Kept) → kept ≡ None → KeepsOf reads kept
keeps_none reads kept none = λ k bytes is told. let wrong : None ≡ Some k = sym none ∙ is in absurd cc

pub settled_none : (s : State) (kept : Option Kept) → kept ≡ None → SettledOf s kept
settled_none s kept none = λ k bytes is told. let wrong : None ≡ Some k = sym none ∙ is in absurd cc

pub opens_none : (kept : Option Kept) → kept ≡ None → OpenOf kept
opens_none kept none = λ k at is some. let wrong : None ≡ Some k = sym none ∙ is in absurd cc

-- ---- and back

file_of : (bytes : List ℕ) (at : Option Standing) → (at ≡ None → is_free bytes ≡ true) → ((now : Standing) → at ≡ Some now → StandsAt bytes now) → IsFileOf (calls_told bytes) at bytes
file_of bytes None before behind = (free_calls bytes (before refl), before refl)
file_of bytes (Some at) before behind = by (held_by is_book_head book_shape bytes) refl (behind at refl)
  where
    by : (o : Option Held) → held_by is_book_head book_shape bytes ≡ o → StandsAt bytes at → Stores (calls_told bytes) at bytes
    by None none s = let wrong : false ≡ true = sym (ap is_some none) ∙ s.is_held in absurd cc
    by (Some held) some s = record {
      held = held;
      stands = record { holds = some; end = sym (ap end_held some) ∙ s.end; gate = s.gate };
      calls_are = sym (ap calls_held some);
      next = s.next;
    }

pub knows_of : (reads : Option (List ℕ)) (kept : Kept) → KeepsOf reads (Some kept) → Knows reads kept
knows_of reads kept keeps = by reads (λ bytes told. keeps kept bytes refl told)
  where
    by : (o : Option (List ℕ)) → ((bytes : List ℕ) → o ≡ Some bytes → IsKeptOf bytes kept) → Knows o kept
    by None f = record { calls = []; stands = tt; in_file = tt; short = tt }
    by (Some bytes) f = let k = f bytes refl in record { calls = calls_told bytes; stands = k.stands; in_file = file_of bytes kept.journal k.before k.behind; short = k.short }
