-- What the calls that begin by a reading share: one that failed, and what stands behind one that did not.
use Rattle.std.proofs.Common.{◌≡◌, ℕ, true, List, Option, None, Err, IsSome}
use Rattle.std.specs.Option.{is_some}
use Rattle.outside_words.proofs.Told.{told_map}
use Rattle.disk_words.specs.Disk.{State}
use Rattle.notary_link.specs.declared.fail.NotaryFail.{NotaryFail}
use Rattle.notary_link.specs.declared.fail.NotaryFail.TheVariants.{Failed, OutOfTurn, Full, NoMemory}
use Rattle.notary_book.specs.declared.kept.Kept.{Kept}
use Rattle.notary_book.specs.Anew.{KeepsBehind, Syncs, CountsReading, IsOfBook, Looks}

-- something is kept behind an answer
pub kept_none : (kept : Option Kept) → IsSome kept → kept ≡ None → ⊥
kept_none kept some none = let e : is_some kept ≡ true = some in absurd cc

syncs_failed : {T : Type 0} (fail : NotaryFail) (s s' : State) (before after : List ℕ) → Syncs {T = Unit {0}} {E = NotaryFail} (Err fail) s s' before after → Syncs {T = T} {E = NotaryFail} (Err fail) s s' before after
syncs_failed fail s s' before after h = record { done = tt; only = h.only }

-- a reading that failed is what the call does that began by it
pub looks_failed : {T : Type 0} (fail : NotaryFail) (s s' : State) (kept kept' : Option Kept) (u u' : ℕ) → Looks {T = Unit {0}} (Err fail) s s' kept kept' u u' → Looks {T = T} (Err fail) s s' kept kept' u u'
looks_failed {T} fail s s' kept kept' u u' h = by fail h
  where
    built : (fail : NotaryFail) → Looks {T = Unit {0}} (Err fail) s s' kept kept' u u' → KeepsBehind {T = T} (Err fail) kept' → CountsReading {T = T} (Err fail) s s' u u' → IsOfBook {T = T} (Err fail) s.reads → Looks {T = T} (Err fail) s s' kept kept' u u'
    built fail h keeps counts finds = record {
      answers = h.answers;
      keeps = keeps;
      syncs = λ none. told_map s.reads s'.reads (Syncs {T = Unit {0}} (Err fail) s s') (Syncs {T = T} (Err fail) s s') (h.syncs none) (syncs_failed {T = T} fail s s');
      counts = counts;
      finds = finds;
      reads = h.reads;
      images = h.images;
      goes_on = h.goes_on;
    }

    by : (fail : NotaryFail) → Looks {T = Unit {0}} (Err fail) s s' kept kept' u u' → Looks {T = T} (Err fail) s s' kept kept' u u'
    by Failed h = built Failed h h.keeps h.counts h.finds
    by (OutOfTurn count) h = built (OutOfTurn count) h h.keeps h.counts h.finds
    by Full h = built Full h h.keeps h.counts h.finds
    by NoMemory h = built NoMemory h h.keeps h.counts h.finds
