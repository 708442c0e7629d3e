-- Lengths that are counted up to a limit, and what is known of a file that fits.
use Rattle.std.proofs.Common.{◌≡◌, ℕ, ◌+◌, ◌*◌, ◌<◌, ◌≤◌, List, [], ◌∷◌, length, get_or, drop, Option, Some, None, refl, sym, ap, ◌∙◌, arith}
use Rattle.std.specs.Prelude.{min}
use Rattle.std.specs.List.{All, AllByRecursion, flat_map}
use Rattle.std.specs.Int.{w32, to_be_bytes}
use Rattle.std.proofs.Math.Nat.{min-le_left}
use Rattle.std.proofs.lemmas.List.{length-append, at_drop_more}
use Rattle.std.proofs.lemmas.List.Elements.{All-from_recursion}
use Rattle.tuple_bytes.specs.Limits.{max_file}
use Rattle.evidence_file.specs.declared.entry.Entry.{Entry}
use Rattle.evidence_file.specs.declared.evidence.Evidence.{Evidence}
use Rattle.digest_model.specs.Plain.{IsShort}
use Rattle.policy_eras.specs.declared.era.Era.{Era}
use Rattle.evidence_file.specs.Evidence.{spell_era, IsTxnOf, FitsList, FitsSecond, FitsEntry, FitsEvidence}
use Rattle.evidence_file.specs.Writing.{HasLengths, SecondHasLengths, EntryHasLengths, counted_on}
use Rattle.evidence_file.proofs.PartLaws.{is_short}

-- ---- what fits has lengths

each : {A : Type 0} (F G : A → Type 0) → ((a : A) → F a → G a) → (xs : List A) → AllByRecursion F xs → AllByRecursion G xs
each F G by [] h = tt
each F G by (x ∷ xs) h = (by x h.0, each F G by xs h.1)

list_lengths : (width g : ℕ) (ts : List (List ℕ)) → FitsList width g ts → HasLengths ts
list_lengths width g ts fit = (fit.0, All-from_recursion IsShort ts (each (IsTxnOf width g) IsShort (λ t x. is_short t x.some) ts fit.1))

second_lengths : (width g : ℕ) (o : Option (List (List ℕ))) → FitsSecond width g o → SecondHasLengths o
second_lengths width g None fit = tt
second_lengths width g (Some ts) fit = list_lengths width g ts fit

entry_lengths : (width : ℕ) (e : Entry) → FitsEntry width e → EntryHasLengths e
entry_lengths width e fit = record { shown = list_lengths width e.granule e.shown fit.shown; original = second_lengths width e.granule e.original fit.original }

pub entries_lengths : (e : Evidence) → FitsEvidence e → All EntryHasLengths e.entries
entries_lengths e fit = All-from_recursion EntryHasLengths e.entries (each (FitsEntry e.header.width) EntryHasLengths (entry_lengths e.header.width) e.entries fit.entries)

-- ---- counting on

pub counted_twice : (a b c : ℕ) → counted_on (counted_on a b) c ≡ counted_on a (b + c)
counted_twice a b c = grind arith

pub counted_none : (a : ℕ) → a ≤ max_file → counted_on a 0 ≡ a
counted_none a le = grind arith

pub length_word : (n : ℕ) → length (to_be_bytes w32 n) ≡ 4
length_word n = refl

-- each era has ten bytes
pub length_eras : (es : List Era) → length (flat_map spell_era es) ≡ 10 * length es
length_eras [] = refl
length_eras (e ∷ es) = omega (arith, length-append (spell_era e) (flat_map spell_era es), length_eras es)

-- one more of a list
pub count_step : {A : Type 0} (s : A → List ℕ) (xs : List A) (i : ℕ) (d : A) (size next all : ℕ) → i < length xs → next ≡ counted_on size (length (s (get_or xs i d)))
    → counted_on size (length (flat_map s (drop i xs))) ≡ all → counted_on next (length (flat_map s (drop (i + 1) xs))) ≡ all
count_step {A} s xs i d size next all lt is so_far =
    let x : A = get_or xs i d in
    let rest : List A = drop (i + 1) xs in
    let one : length (flat_map s (drop i xs)) ≡ length (s x) + length (flat_map s rest) = at_drop_more (λ (ys : List A). length (flat_map s ys)) xs i d lt ∙ length-append (s x) (flat_map s rest) in
    ap (λ (n : ℕ). counted_on n (length (flat_map s rest))) is ∙ counted_twice size (length (s x)) (length (flat_map s rest)) ∙ sym (ap (counted_on size) one) ∙ so_far

pub counted_within : (size more next : ℕ) → next ≡ counted_on size more → next ≤ max_file
counted_within size more next e = omega (arith, e, min-le_left max_file (size + more))
