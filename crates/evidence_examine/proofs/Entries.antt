-- The entries of a file, one after another.
use Rattle.std.proofs.Common.{◌≡◌, ℕ, ◌+◌, ◌<◌, ◌≤◌, List, length, get_or, drop, sym, subst, arith}
use Rattle.std.specs.List.{All, Contains, sum_by}
use Rattle.std.proofs.lemmas.List.Elements.{All-from_recursion, Contains-get_or}
use Rattle.std.proofs.lemmas.List.Sums.{sum_by-drop_more}
use Rattle.notary_link.specs.declared.name.Name.{Name}
use Rattle.digest_model.specs.Layout.{max_granules}
use Rattle.digest_model.proofs.Members.{Contains-map}
use Rattle.evidence_file.specs.declared.entry.Entry.{Entry}
use Rattle.evidence_file.specs.declared.evidence.Evidence.{Evidence}
use Rattle.evidence_file.specs.Evidence.{FitsEntry, FitsEvidence}
use Rattle.evidence_file.specs.Shown.{leaf_name}
use Rattle.evidence_file.specs.Writing.{EntryHasLengths}
use Rattle.evidence_file.proofs.Counting.{entries_lengths}
use Rattle.evidence_examine.specs.declared.fail.ExamineFail.{ExamineFail}
use Rattle.evidence_examine.specs.declared.fail.ExamineFail.TheVariants as fails
use Rattle.evidence_examine.specs.Places.{layout_of, leaves_of}
use Rattle.evidence_examine.specs.Examining.{IsOfFile}
use Rattle.evidence_examine.specs.Asking.{IsOfAsking}

-- an entry of a file, at its place
module _ (e : Evidence) (i : ℕ) (entry : Entry) (within : i < length e.entries) (is : entry ≡ get_or e.entries i entry) where
  each : (P : Entry → Type 0) → All P e.entries → P entry
  each P all = subst P (sym is) (all i entry within)

  pub low : FitsEvidence e → entry.granule < max_granules
  low fits = (each (FitsEntry e.header.width) (All-from_recursion (FitsEntry e.header.width) e.entries fits.entries)).granule

  pub has_lengths : FitsEvidence e → EntryHasLengths entry
  has_lengths fits = each EntryHasLengths (entries_lengths e fits)

  pub leaf_among : Contains (leaves_of e) (leaf_name (layout_of e) entry.granule)
  leaf_among = Contains-map (λ (x : Entry). leaf_name (layout_of e) x.granule) e.entries entry (subst (λ (x : Entry). Contains e.entries x) (sym is) (Contains-get_or e.entries i entry within))

  -- what asking for it may be refused by
  pub refused : (name : Name) (fail : ExamineFail) → name ≡ leaf_name (layout_of e) entry.granule → IsOfAsking name fail → IsOfFile e fail
  refused name fails.NotEvidence own of = of
  refused name fails.NotaryFault own of = tt
  refused name (fails.SealMissing missing) own of = (let same : missing ≡ leaf_name (layout_of e) entry.granule = cc in subst (λ (n : Name). Contains (leaves_of e) n) (sym same) leaf_among)
  refused name fails.NoMemory own of = tt

  -- what is left of a sum
  pub left : (f : Entry → ℕ) (before now next : ℕ) → now + sum_by f (drop i e.entries) ≤ before + sum_by f e.entries → next ≤ now + f entry
      → next + sum_by f (drop (i + 1) e.entries) ≤ before + sum_by f e.entries
  left f before now next so more =
      let parts = sum_by-drop_more f e.entries i entry within in
      let own : f (get_or e.entries i entry) ≤ f entry = subst (λ (x : Entry). f x ≤ f entry) is (omega arith) in
      let other : f entry ≤ f (get_or e.entries i entry) = subst (λ (x : Entry). f entry ≤ f x) is (omega arith) in
      omega (arith, parts, own, other, so, more)

-- what is left of a sum is not negative
pub at_most : (f : Entry → ℕ) (es : List Entry) (i before now : ℕ) → now + sum_by f (drop i es) ≤ before + sum_by f es → now ≤ before + sum_by f es
at_most f es i before now so = omega (arith, so)
