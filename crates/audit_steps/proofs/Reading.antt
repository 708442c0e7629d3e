-- What a piece reads.
use Rattle.std.proofs.Common.{◌≡◌, ℕ, zero, suc, ◌+◌, ◌*◌, ◌≤◌, List, [], ◌∷◌, ◌++◌, length, take, drop, Option, Some, None, IfSome, refl, sym, ap, subst, ◌∙◌, arith}
use Rattle.std.specs.Prelude.{IsTrue}
use Rattle.std.specs.Option.{is_some}
use Rattle.tuple_bytes.specs.declared.header.Header.{Header}
use Rattle.tuple_bytes.specs.declared.item.Item.{Item}
use Rattle.tuple_bytes.specs.declared.item.Item.TheVariants as items
use Rattle.history_model.specs.History.{txns}
use Rattle.history_model.specs.Stored.{front_header, found_behind, stored_under, stored}
use Rattle.chain_state.specs.Chained.{Chained, steps_of}
use Rattle.segment_file.specs.declared.part.Part.{Part}
use Rattle.segment_file.specs.Places.{IsPlaceOf}
use Rattle.segment_file.specs.Parts.{IsPartOf}
use Rattle.segment_file.proofs.FirstPlace.{first_place}
use Rattle.audit_steps.specs.declared.auditing.Auditing.{Auditing}
use Rattle.audit_steps.specs.Auditing.{AreTakenOrNone, IsUnderWay}
use Rattle.audit_steps.specs.Steps.{IsPieceOf}

-- ---- at the head

header_some : (o : Option Header) (found : List (List ℕ) × ℕ) (h : Header) → Some h ≡ (stored_under o found).header → IsTrue (is_some o)
header_some (Some g) found h is = refl
header_some None found h is = absurd (cc is)

module _ (id : ℕ) (h : Header) (a : Auditing) (ours : h.id ≡ id) (head : a.header ≡ h) (none : a.read ≡ 0) (at : a.place ≡ 64) (chains : AreTakenOrNone h [] a.chains) where
  under_way : (bytes : List ℕ) → Some h ≡ (stored bytes).header → IsUnderWay id bytes a
  under_way bytes is = record {
    header = sym is ∙ ap Some (sym head);
    id_is = ap (λ (x : Header). x.id) head ∙ ours;
    place = subst (λ (n : ℕ). IsPlaceOf n a.place bytes) (sym none) (subst (λ (p : ℕ). IsPlaceOf 0 p bytes) (sym at) (first_place bytes (header_some (front_header bytes) (found_behind bytes) h is)));
    chains = subst (λ (x : Header). AreTakenOrNone x (take a.read (stored bytes).items) a.chains) (sym head) (subst (λ (n : ℕ). AreTakenOrNone h (take n (stored bytes).items) a.chains) (sym none) chains);
  }

  pub told_begun : (reads : Option (List ℕ)) → IfSome reads (λ bytes. Some h ≡ (stored bytes).header) → IfSome reads (λ bytes. IsUnderWay id bytes a × (a.read ≡ 0))
  told_begun None is = tt
  told_begun (Some bytes) is = (under_way bytes is, none)

-- ---- a part

abbrev nothing : List Item
nothing = []

take_none : (n : ℕ) → take n nothing ≡ nothing
take_none zero = refl
take_none (suc n) = refl

pub take_then : (i n : ℕ) (xs : List Item) → take i xs ++ take n (drop i xs) ≡ take (i + n) xs
take_then zero n xs = (let e : n ≡ 0 + n = omega arith in ap (λ (m : ℕ). take m xs) e)
take_then (suc i) n [] = (let e : suc (i + n) ≡ suc i + n = omega arith in take_none n ∙ ap (λ (m : ℕ). take m nothing) e)
take_then (suc i) n (x ∷ xs) = (let e : suc (i + n) ≡ suc i + n = omega arith in ap (λ (l : List Item). x ∷ l) (take_then i n xs) ∙ ap (λ (m : ℕ). take m (x ∷ xs)) e)

few_txns : (xs : List Item) → length (txns xs) ≤ length xs
few_txns [] = omega arith
few_txns (items.Txn t ∷ xs) = omega (arith, few_txns xs)
few_txns (items.Frontier m ∷ xs) = omega (arith, few_txns xs)
few_txns (items.Policy tile granule k algs ∷ xs) = omega (arith, few_txns xs)

few_taken : (n : ℕ) (xs : List Item) → length (take n xs) ≤ n
few_taken zero xs = omega arith
few_taken (suc n) [] = omega arith
few_taken (suc n) (x ∷ xs) = omega (arith, few_taken n xs)

pub few_steps : (n : ℕ) (xs ys : List Item) → ys ≡ take n xs → steps_of ys ≤ 2 * n
few_steps n xs ys is = let size = ap length is in omega (arith, few_txns ys, few_taken n xs, size)

module _ (a : Auditing) (p : Part) where
  abbrev Reads : List ℕ → Type 0
  Reads bytes = (i : ℕ) → IsPlaceOf i a.place bytes → IsPartOf i 256 a.place bytes p

  pub told_steps : (reads : Option (List ℕ)) (old new : ℕ) → new ≤ old + steps_of p.items → IfSome reads Reads → IfSome reads (λ bytes. (id : ℕ) → IsUnderWay id bytes a → new ≤ old + 512)
  told_steps None old new few parts = tt
  told_steps (Some bytes) old new few parts = λ id u. let part = parts a.read u.place in let most = few_steps 256 (drop a.read (stored bytes).items) p.items part.items in omega (arith, few, most)

  module _ (read : ℕ) (chains : Option Chained) (more : read ≡ a.read + 256) (takes : (header : Header) (taken : List Item) → AreTakenOrNone header taken a.chains → AreTakenOrNone header (taken ++ p.items) chains) where
    abbrev later : Auditing
    later = record { header = a.header; read = read; place = p.end; chains = chains }

    module _ (id : ℕ) (bytes : List ℕ) (u : IsUnderWay id bytes a) (part : IsPartOf a.read 256 a.place bytes p) where
      front : take a.read (stored bytes).items ++ p.items ≡ take (a.read + 256) (stored bytes).items
      front = ap (λ (l : List Item). take a.read (stored bytes).items ++ l) part.items ∙ take_then a.read 256 (stored bytes).items

      taken : AreTakenOrNone a.header (take (a.read + 256) (stored bytes).items) chains
      taken = subst (λ (l : List Item). AreTakenOrNone a.header l chains) front (takes a.header (take a.read (stored bytes).items) u.chains)

      piece : IsPieceOf id bytes a (record { auditing = later; last = p.last })
      piece = record {
        last = part.last;
        goes_on = λ e. record {
          header = u.header;
          id_is = u.id_is;
          place = subst (λ (n : ℕ). IsPlaceOf n p.end bytes) (sym more) (part.goes_on e);
          chains = subst (λ (n : ℕ). AreTakenOrNone a.header (take n (stored bytes).items) chains) (sym more) taken;
        };
        read = λ e. more;
        header = refl;
        chains = taken;
      }

    pub told_piece : (reads : Option (List ℕ)) → IfSome reads Reads → IfSome reads (λ bytes. (id : ℕ) → IsUnderWay id bytes a → IsPieceOf id bytes a (record { auditing = later; last = p.last }))
    told_piece None parts = tt
    told_piece (Some bytes) parts = λ id u. piece id bytes u (parts a.read u.place)
