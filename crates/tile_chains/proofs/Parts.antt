-- One more granule of a part.
use Rattle.std.proofs.Common.{◌≡◌, ℕ, ◌+◌, Bool, true, false, cond, List, [], ◌∷◌, ◌++◌, map, refl, sym, ap, ◌∙◌, arith}
use Rattle.std.specs.List.{concat, flat_map}
use Rattle.std.proofs.lemmas.List.{append-nil, map-id, map-append}
use Rattle.std.proofs.lemmas.List.Concat.{concat_is, flat_map-append}
use Rattle.std.proofs.lemmas.List.FromFn.{filter_of_map_range_with_len_more}
use Rattle.digest_model.specs.Layout.{is_in_part, numbers_in_part}
use Rattle.tile_chains.specs.Part.{digest_at, digests_among}

-- the digests of the part among the first granules, joined
abbrev pub joined : ℕ → List (List ℕ) → ℕ → List ℕ
joined part digests size = concat (digests_among part digests size)

numbers_more : (part size : ℕ) → numbers_in_part part (size + 1) ≡ numbers_in_part part size ++ cond (is_in_part part size) (size ∷ []) []
numbers_more part size =
    let same = filter_of_map_range_with_len_more (is_in_part part) (λ (n : ℕ). n) 0 size size (omega arith) in
    simp map-id at same

concat-append : (xs ys : List (List ℕ)) → concat (xs ++ ys) ≡ concat xs ++ concat ys
concat-append xs ys =
    concat_is (xs ++ ys) ∙ flat_map-append (λ (x : List ℕ). x) xs ys
    ∙ ap (λ (z : List ℕ). z ++ flat_map (λ (x : List ℕ). x) ys) (sym (concat_is xs)) ∙ ap (λ (z : List ℕ). concat xs ++ z) (sym (concat_is ys))

joined_more : (part : ℕ) (digests : List (List ℕ)) (size : ℕ) (b : Bool) → is_in_part part size ≡ b
    → joined part digests (size + 1) ≡ joined part digests size ++ concat (map (digest_at digests) (cond b (size ∷ []) []))
unfolding digests_among
joined_more part digests size b is =
    ap (λ (ns : List ℕ). concat (map (digest_at digests) ns)) (numbers_more part size ∙ ap (λ (c : Bool). numbers_in_part part size ++ cond c (size ∷ []) []) is)
    ∙ ap concat (map-append (digest_at digests) (numbers_in_part part size) (cond b (size ∷ []) []))
    ∙ concat-append (map (digest_at digests) (numbers_in_part part size)) (map (digest_at digests) (cond b (size ∷ []) []))

pub taken : (part : ℕ) (digests : List (List ℕ)) (size : ℕ) → is_in_part part size ≡ true
    → joined part digests (size + 1) ≡ joined part digests size ++ digest_at digests size
taken part digests size is =
    joined_more part digests size true is ∙ ap (λ (x : List ℕ). joined part digests size ++ x) (append-nil (digest_at digests size))

pub left_out : (part : ℕ) (digests : List (List ℕ)) (size : ℕ) → is_in_part part size ≡ false
    → joined part digests (size + 1) ≡ joined part digests size
left_out part digests size is = joined_more part digests size false is ∙ append-nil (joined part digests size)

pub none : (part : ℕ) (digests : List (List ℕ)) → joined part digests 0 ≡ []
unfolding digests_among
none part digests = refl
