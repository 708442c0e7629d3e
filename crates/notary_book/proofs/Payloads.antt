-- Payloads that are read one by one.
use Rattle.std.proofs.Common.{◌≡◌, ◌<◌, ◌≤◌, ◌+◌, ℕ, Bool, true, false, List, [], ◌∷◌, ◌++◌, length, take, drop, get_or, sym, ap, ◌∙◌, subst}
use Rattle.std.proofs.lemmas.List.{take_more, take_all, take-append-drop}
use Rattle.std.specs.List.{All}
use Rattle.std.proofs.lemmas.List.Elements.{filter_map-append, All-push}
use Rattle.notary_link.specs.Notary.{Call}
use Rattle.notary_book.specs.declared.pages.Pages.{Pages}
use Rattle.notary_book.specs.Books.{all_next, calls_in}
use Rattle.notary_book.specs.Calls.{call_of}
use Rattle.notary_book.specs.Kept.{IsRead, ReadsOn, IsSpelled}
use Rattle.notary_book.proofs.Lists.{stays_false}

-- the calls up to a payload, and that payload's
calls_more : (payloads : List (List ℕ)) (i : ℕ) (item payload : List ℕ) → i < length payloads → item ≡ get_or payloads i item → payload ≡ item → calls_in (take (i + 1) payloads) ≡ calls_in (take i payloads) ++ calls_in (payload ∷ [])
calls_more payloads i item payload lt is same =
    ap calls_in (take_more payloads i item lt ∙ ap (λ (p : List ℕ). take i payloads ++ p ∷ []) (sym is ∙ sym same)) ∙ filter_map-append call_of (take i payloads) (payload ∷ [])

module _ (payloads : List (List ℕ)) (i : ℕ) (item payload : List ℕ) (lt : i < length payloads) (is : item ≡ get_or payloads i item) (same : payload ≡ item) (old new : Pages) (follows : Bool) where
  pub read_more : follows ≡ true → ((calls : List Call) → IsRead calls old → ReadsOn calls (calls_in (payload ∷ [])) follows new) → IsRead (calls_in (take i payloads)) old → IsRead (calls_in (take (i + 1) payloads)) new
  read_more is_true reads read = subst (λ (cs : List Call). IsRead cs new) (sym (calls_more payloads i item payload lt is same)) (subst (λ (b : Bool). ReadsOn (calls_in (take i payloads)) (calls_in (payload ∷ [])) b new) is_true (reads (calls_in (take i payloads)) read))

  pub read_no_more : follows ≡ false → ((calls : List Call) → IsRead calls old → ReadsOn calls (calls_in (payload ∷ [])) follows new) → IsRead (calls_in (take i payloads)) old → all_next [] (calls_in payloads) ≡ false
  read_no_more is_false reads read =
      let front = subst (λ (b : Bool). ReadsOn (calls_in (take i payloads)) (calls_in (payload ∷ [])) b new) is_false (reads (calls_in (take i payloads)) read) in
      let here : all_next [] (calls_in (take (i + 1) payloads)) ≡ false = ap (all_next []) (calls_more payloads i item payload lt is same) ∙ front in
      let all : calls_in payloads ≡ calls_in (take (i + 1) payloads) ++ calls_in (drop (i + 1) payloads) = ap calls_in (sym (take-append-drop (i + 1) payloads)) ∙ filter_map-append call_of (take (i + 1) payloads) (drop (i + 1) payloads) in
      ap (all_next []) all ∙ stays_false (calls_in (take (i + 1) payloads)) (calls_in (drop (i + 1) payloads)) here

pub read_all : (payloads : List (List ℕ)) (i : ℕ) (pages : Pages) → length payloads ≤ i → IsRead (calls_in (take i payloads)) pages → IsRead (calls_in payloads) pages
read_all payloads i pages le read = subst (λ (ps : List (List ℕ)). IsRead (calls_in ps) pages) (take_all i payloads le) read

-- ---- each is the spelling of what it says

pub spelled_more : (payloads : List (List ℕ)) (i : ℕ) (item payload : List ℕ) → i < length payloads → item ≡ get_or payloads i item → payload ≡ item → IsSpelled payload → All IsSpelled (take i payloads) → All IsSpelled (take (i + 1) payloads)
spelled_more payloads i item payload lt is same spelled all =
    subst (All IsSpelled) (sym (take_more payloads i item lt ∙ ap (λ (p : List ℕ). take i payloads ++ p ∷ []) (sym is ∙ sym same))) (All-push IsSpelled (take i payloads) payload all spelled)

pub spelled_all : (payloads : List (List ℕ)) (i : ℕ) → length payloads ≤ i → All IsSpelled (take i payloads) → All IsSpelled payloads
spelled_all payloads i le all = subst (All IsSpelled) (take_all i payloads le) all
