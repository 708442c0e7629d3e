-- The eras of a file, as those of a history.
use Rattle.std.proofs.Common.{◌≡◌, ℕ, ◌+◌, ◌<◌, ◌≤◌, Bool, true, false, cond, List, [], ◌∷◌, ◌++◌, length, map, get_or, drop, refl, sym, ap, ◌∙◌, Option, append_assoc, length-append, arith}
use Rattle.std.specs.Prelude.{fold}
use Rattle.std.specs.List.{All}
use Rattle.std.specs.Option.{is_some}
use Rattle.std.proofs.lemmas.Bool.{and_parts}
use Rattle.std.proofs.lemmas.List.{append-nil, length-map, at_drop_more, drop_all}
use Rattle.std.proofs.lemmas.List.Elements.{All-map, All-from_recursion}
use Rattle.outside_words.specs.Told.{WhereTold}
use Rattle.notary_link.specs.declared.answer.Answer.{Answer}
use Rattle.notary_link.specs.Notary.{Lists, Keeps}
use Rattle.notary_link.proofs.Reading.{told_behind}
use Rattle.audit_model.specs.Notary.{is_same, header_answer}
use Rattle.tuple_bytes.specs.Spelling.{FitsItem}
use Rattle.history_model.specs.History.{History}
use Rattle.digest_model.specs.Layout.{Era as Turn, Policy, Layout, layout, policy_of, first_era, is_next, offered, with_item, sealed_eras}
use Rattle.digest_model.specs.Spelled.{HasSpelling}
use Rattle.digest_model.proofs.Eras.{sealed_come_first}
use Rattle.policy_eras.specs.declared.era.Era.{Era}
use Rattle.policy_eras.specs.Policy.{as_era, as_item}
use Rattle.policy_eras.proofs.Histories.{layout_is}
use Rattle.validator.specs.Verdicts.{sealed_by}
use Rattle.evidence_file.specs.declared.evidence.Evidence.{Evidence}
use Rattle.evidence_file.specs.Evidence.{FitsEra, FitsEvidence, are_next}
use Rattle.evidence_examine.specs.Places.{places_of, sealed, has_filed_places, PlacesAreNamed}

-- ---- they are its own

-- the eras so far, and these behind them
abbrev behind : Policy → List Turn → Policy
behind p more = record { first = p.first; later = p.later ++ more }

taken : (p : Policy) (e : Era) → is_next p (as_era e) e.granule ≡ true → offered p (as_era e) e.granule ≡ behind p (as_era e ∷ [])
taken p e h = ap (λ (b : Bool). cond b (behind p (as_era e ∷ [])) p) h

all_taken : (p : Policy) (es : List Era) → are_next p es ≡ true → fold with_item p (map as_item es) ≡ behind p (map as_era es)
unfolding are_next
all_taken p [] h = ap (λ (later : List Turn). let q : Policy = record { first = p.first; later = later } in q) (sym (append-nil p.later))
all_taken p (e ∷ es) h =
    let one : Policy = offered p (as_era e) e.granule in
    let both = and_parts (is_next p (as_era e) e.granule) (are_next (offered p (as_era e) e.granule) es) h in
    let others : fold with_item one (map as_item es) ≡ behind one (map as_era es) = all_taken one es both.1 in
    let joined : (p.later ++ as_era e ∷ []) ++ map as_era es ≡ p.later ++ as_era e ∷ map as_era es = append_assoc p.later (as_era e ∷ []) (map as_era es) in
    others ∙ ap (λ (q : Policy). behind q (map as_era es)) (taken p e both.0) ∙ ap (λ (later : List Turn). let q : Policy = record { first = p.first; later = later } in q) joined

pub places_are_named : PlacesAreNamed
unfolding policy_of
places_are_named e fits = all_taken (first_era e.header) e.eras fits.next

-- ---- they have a spelling

pub eras_fit : (e : Evidence) → FitsEvidence e → All FitsEra e.eras
eras_fit e fits = All-from_recursion FitsEra e.eras fits.eras

pub places_fit : (e : Evidence) → FitsEvidence e → HasSpelling (places_of e)
places_fit e fits = record { header = fits.header; items = All-map FitsItem as_item e.eras (eras_fit e fits) }

-- ---- few of them are asked for

pub sealed_among : (e : Evidence) (n : ℕ) → FitsEvidence e → length (sealed_eras (layout (places_of e)) n) ≤ length e.eras
sealed_among e n fits =
    let front = sealed_come_first (places_of e) n in
    let long = length-append (sealed_eras (layout (places_of e)) n) front.0 in
    let all : length (policy_of (places_of e)).later ≡ length (sealed_eras (layout (places_of e)) n) + length front.0 = ap (length {A = Turn}) front.1 ∙ long in
    let own : length (policy_of (places_of e)).later ≡ length (map as_era e.eras) = ap (λ (p : Policy). length p.later) (places_are_named e fits) in
    let many = length-map e.eras as_era in
    omega (arith, all, own, many)

-- ---- taking them one after another

abbrev pub AreTaken : Policy → List Era → ℕ → Policy → Type 0
AreTaken first es i kept = fold with_item kept (map as_item (drop i es)) ≡ fold with_item first (map as_item es)

pub one_taken : (first kept next : Policy) (es : List Era) (i : ℕ) (d : Era) → i < length es
    → next ≡ offered kept (as_era (get_or es i d)) (get_or es i d).granule → AreTaken first es i kept → AreTaken first es (i + 1) next
one_taken first kept next es i d within is on =
    ap (λ (p : Policy). fold with_item p (map as_item (drop (i + 1) es))) is
    ∙ sym (at_drop_more (λ (xs : List Era). fold with_item kept (map as_item xs)) es i d within)
    ∙ on

pub all_are_taken : (first kept : Policy) (es : List Era) (i : ℕ) → length es ≤ i → AreTaken first es i kept → kept ≡ fold with_item first (map as_item es)
all_are_taken first kept es i past on = sym (ap (λ (xs : List Era). fold with_item kept (map as_item xs)) (drop_all i es past)) ∙ on

pub few_asked : (e : Evidence) (eras : Policy) (n : ℕ) → FitsEvidence e → eras ≡ policy_of (places_of e) → sealed_by eras n ≤ length e.eras
few_asked e eras n fits is =
    let same : sealed_by eras n ≡ length (sealed_eras (layout (places_of e)) n) = ap (λ (l : Layout). length (sealed_eras l n)) (layout_is (places_of e) is) in
    omega (arith, same, sealed_among e n fits)

-- ---- what their answers show

-- behind the count of batches
pub told_places : (id : ℕ) (e : Evidence) (eras : Policy) (tiles : ℕ) (a : Answer) (b : Bool) → b ≡ is_same a → eras ≡ policy_of (places_of e) → (o m n : Option Lists) → (is_some m ≡ false → is_some n ≡ false) → WhereTold o m Keeps
    → WhereTold o m (λ before after. tiles ≡ sealed (before.batches id))
    → WhereTold m n (λ before after. (h : History) → h.header ≡ e.header → eras ≡ policy_of h → a ≡ header_answer (before.batches id) h tiles)
    → WhereTold o n (λ before after. b ≡ has_filed_places (before.batches id) e)
told_places id e eras tiles a b same own o m n stays keeps counted answered =
    told_behind id (λ batches. tiles ≡ sealed batches) (λ batches. (h : History) → h.header ≡ e.header → eras ≡ policy_of h → a ≡ header_answer batches h tiles) (λ batches. b ≡ has_filed_places batches e) o m n
    stays keeps counted answered
    (λ batches many is. same ∙ ap is_same (is (places_of e) refl own ∙ ap (header_answer batches (places_of e)) many))
