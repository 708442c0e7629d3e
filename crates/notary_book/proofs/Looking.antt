-- What a call does beneath, by what it kept and what it read.
use Rattle.std.proofs.Common.{◌≡◌, ◌≤◌, inl, inr, ℕ, Bool, true, List, ◌∷◌, Option, None, Some, Result, Ok, Err, IsSome, IfSome, refl, ap, ◌∙◌, subst, arith}
use Rattle.std.specs.Option.{is_some}
use Rattle.outside_words.specs.Told.{WhereTold, TellsAlike}
use Rattle.outside_words.specs.Trace.{Extends}
use Rattle.outside_words.proofs.Told.{told_same}
use Rattle.disk_words.specs.Disk.{Call, sync, State, turn, GoesOn}
use Rattle.disk_words.proofs.Frame.{goes_on_same, goes_on_then}
use Rattle.disk_model.proofs.Moments.{started}
use Rattle.notary_link.specs.declared.fail.NotaryFail.{NotaryFail}
use Rattle.notary_link.specs.declared.fail.NotaryFail.TheVariants.{Failed, OutOfTurn, Full, NoMemory}
use Rattle.notary_link.specs.Notary.{IsAsked}
use Rattle.notary_book.specs.declared.kept.Kept.{Kept}
use Rattle.notary_book.specs.Anew.{KeepsBehind, Syncs, IsBook, IsNoBook, IsOfBook, Looks, OnRefusal, SyncsFirst, CountsReading, Alters}
use Rattle.notary_book.specs.Books.{lists_told}
use Rattle.notary_book.specs.Kept.{KeepsOf}
use Rattle.notary_book.specs.Moments.{LeavesNone}
use Rattle.notary_book.proofs.Keeping.{knows_of}
use Rattle.notary_book.proofs.Telling.{if_map, told_calls}

-- what is kept was found
pub found : (reads : Option (List ℕ)) (kept : Option Kept) → KeepsOf reads kept → IsSome kept → IfSome reads IsBook
found reads None keeps some = absurd cc
found reads (Some k) keeps some = if_map reads (told_calls reads k (knows_of reads k keeps)) (λ bytes e. ap is_some e)

-- nothing is read where something is kept
pub looks_kept : (s : State) (kept : Option Kept) (unreadable : ℕ) → ((c : List ℕ) → s.was_image (turn s) c → s.is_image c) → KeepsOf s.reads kept → IsSome kept → Looks {T = Unit {0}} (Ok tt) s s kept kept unreadable unreadable
looks_kept s kept unreadable only_now keeps some = record {
  answers = λ some. refl;
  keeps = some;
  syncs = λ none. let wrong : is_some kept ≡ true = some in absurd cc;
  counts = refl;
  finds = found s.reads kept keeps some;
  reads = refl;
  images = told_same s.reads s.reads (LeavesNone s s) refl (λ bytes. started s s.is_image only_now (λ c now. now));
  goes_on = goes_on_same s;
}

-- ---- calls that add

-- behind what is kept
pub alters_kept : {T : Type 0} (result : Result T NotaryFail) (s s' : State) (kept : Kept) (kept' : Option Kept) (u u' : ℕ) → KeepsBehind result kept' → CountsReading result s s' u u' → IsOfBook result s.reads → TellsAlike (lists_told s.reads) (lists_told s'.reads) → OnRefusal result (s'.reads ≡ s.reads) → GoesOn s s' → Alters result s s' (Some kept) kept' u u'
alters_kept result s s' kept kept' u u' keeps counts finds told same on = record { keeps = keeps; syncs = λ none. absurd cc; counts = counts; finds = finds; told = told; same = same; goes_on = on }

refused_then : {T : Type 0} (result : Result T NotaryFail) {P Q : Type 0} → (P → Q) → OnRefusal result P → OnRefusal result Q
refused_then (Ok x) f p = tt
refused_then (Err Failed) f p = tt
refused_then (Err (OutOfTurn count)) f p = f p
refused_then (Err Full) f p = f p
refused_then (Err NoMemory) f p = tt

refused_any : {T : Type 0} (result : Result T NotaryFail) {P : Type 0} → P → OnRefusal result P
refused_any (Ok x) p = tt
refused_any (Err Failed) p = tt
refused_any (Err (OutOfTurn count)) p = p
refused_any (Err Full) p = p
refused_any (Err NoMemory) p = tt

-- nothing was done
pub alters_none : {T : Type 0} (result : Result T NotaryFail) (s : State) (kept : Kept) (kept' : Option Kept) (u : ℕ) → KeepsBehind result kept' → CountsReading result s s u u → IsOfBook result s.reads → Alters result s s (Some kept) kept' u u
alters_none result s kept kept' u keeps counts finds = alters_kept result s s kept kept' u u keeps counts finds refl (refused_any result refl) (goes_on_same s)

-- adding stopped
pub alters_added : (e : NotaryFail) (s s' : State) (kept : Kept) (kept' : Option Kept) (u u' : ℕ) → IsAsked {T = Unit {0}} (Err e) → kept' ≡ None → CountsReading {T = Unit {0}} (Err e) s s' u u' → TellsAlike (lists_told s.reads) (lists_told s'.reads) → GoesOn s s' → Alters {T = Unit {0}} (Err e) s s' (Some kept) kept' u u'
alters_added Failed s s' kept kept' u u' only none counts told on = alters_kept (Err Failed) s s' kept kept' u u' none counts tt told tt on
alters_added NoMemory s s' kept kept' u u' only none counts told on = alters_kept (Err NoMemory) s s' kept kept' u u' none counts tt told tt on
alters_added (OutOfTurn count) s s' kept kept' u u' only none counts told on = absurd only
alters_added Full s s' kept kept' u u' only none counts told on = absurd only

stops_apart : {T : Type 0} (result : Result T NotaryFail) (s m s' : State) (u u' : ℕ) → m.reads ≡ s.reads → s.faults ≤ m.faults → CountsReading result m s' u u' → CountsReading result s s' u u'
stops_apart (Ok x) s m s' u u' same le counts = counts
stops_apart (Err Failed) s m s' u u' same le (inl p) = inl (p.0, omega (arith, le, p.1))
stops_apart (Err Failed) s m s' u u' same le (inr p) = inr (p.0, subst (λ (o : Option (List ℕ)). IfSome o IsNoBook) same p.1)
stops_apart (Err (OutOfTurn count)) s m s' u u' same le counts = counts
stops_apart (Err Full) s m s' u u' same le counts = counts
stops_apart (Err NoMemory) s m s' u u' same le counts = counts

syncs_first : (s m s' : State) → m.reads ≡ s.reads → GoesOn m s' → WhereTold s.reads m.reads (Syncs {T = Unit {0}} {E = NotaryFail} (Ok tt) s m) → WhereTold s.reads s'.reads (SyncsFirst s s')
syncs_first s m s' same on syncs = by s.reads m.reads s'.reads same syncs
  where
    extended : m.trace ≡ (sync, true) ∷ s.trace → Extends ((sync, true) ∷ s.trace) s'.trace
    extended e = subst (λ (calls : List (Call × Bool)). Extends calls s'.trace) e on.trace.extends

    by : (o x n : Option (List ℕ)) → x ≡ o → WhereTold o x (Syncs {T = Unit {0}} {E = NotaryFail} (Ok tt) s m) → WhereTold o n (SyncsFirst s s')
    by None x n e w = tt
    by (Some b) None n e w = absurd cc
    by (Some b) (Some y) None e w = tt
    by (Some b) (Some y) (Some a) e w = inr (inr (extended w.done))

-- behind reading
pub alters_behind : {T : Type 0} (result : Result T NotaryFail) (s m s' : State) (kept kept'' : Option Kept) (k : Kept) (kept' : Option Kept) (u u'' u' : ℕ) → Looks {T = Unit {0}} (Ok tt) s m kept kept'' u u'' → Alters result m s' (Some k) kept' u'' u' → Alters result s s' kept kept' u u'
alters_behind result s m s' kept kept'' k kept' u u'' u' looks alters = record {
  keeps = alters.keeps;
  syncs = λ none. syncs_first s m s' looks.reads alters.goes_on (looks.syncs none);
  counts = stops_apart result s m s' u u' looks.reads looks.goes_on.faults (subst (λ (n : ℕ). CountsReading result m s' n u') looks.counts alters.counts);
  finds = subst (λ (o : Option (List ℕ)). IsOfBook result o) looks.reads alters.finds;
  told = subst (λ (o : Option (List ℕ)). TellsAlike (lists_told o) (lists_told s'.reads)) looks.reads alters.told;
  same = refused_then result (λ e. e ∙ looks.reads) alters.same;
  goes_on = goes_on_then s m s' looks.goes_on alters.goes_on;
}
