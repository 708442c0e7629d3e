-- A number that is put at a key of a map.
use Rattle.std.proofs.Common.{◌≡◌, ◌⊎◌, inl, inr, ℕ, Bool, true, false, cond, Option, Some, None, List, refl, sym, ap, subst, ◌∙◌}
use Rattle.std.proofs.lemmas.Map.Lookups.{CmpEqualImpliesEq}
use Rattle.std.specs.BTreeMap.{is_at}
use Rattle.std.specs.Map.{lookup}
use Rattle.std.specs.Option.{unwrap_or}
use Rattle.std.specs.declared.cmp.Ordering.{Ordering}
use Rattle.history_model.proofs.Pending.{equal_of}

-- n is put at k
abbrev pub Puts : {K : Type 0} → (K → K → Ordering) → K → ℕ → List (K × ℕ) → List (K × ℕ) → Type 0
Puts {K} cmp k n old new = (q : K) → lookup (is_at (cmp q)) new ≡ cond (is_at (cmp k) q) (Some n) (lookup (is_at (cmp q)) old)

module _ {K : Type 0} (cmp : K → K → Ordering) (k : K) (n : ℕ) (old new : List (K × ℕ)) (puts : Puts cmp k n old new) where
  at_by : (d : ℕ) (q : K) (b : Bool) → is_at (cmp k) q ≡ b → unwrap_or (lookup (is_at (cmp q)) new) d ≡ unwrap_or (cond b (Some n) (lookup (is_at (cmp q)) old)) d
  at_by d q b e = ap (λ (o : Option ℕ). unwrap_or o d) (puts q ∙ ap (λ (b : Bool). cond b (Some n) (lookup (is_at (cmp q)) old)) e)

  module _ (exact : CmpEqualImpliesEq cmp) where
    -- each key has its number, or is this one and has that
    pub put_at : (d : ℕ) (q : K) → (unwrap_or (lookup (is_at (cmp q)) new) d ≡ unwrap_or (lookup (is_at (cmp q)) old) d) ⊎ ((q ≡ k) × (unwrap_or (lookup (is_at (cmp q)) new) d ≡ n))
    put_at d q = by (is_at (cmp k) q) refl
      where
        by : (b : Bool) → is_at (cmp k) q ≡ b → (unwrap_or (lookup (is_at (cmp q)) new) d ≡ unwrap_or (lookup (is_at (cmp q)) old) d) ⊎ ((q ≡ k) × (unwrap_or (lookup (is_at (cmp q)) new) d ≡ n))
        by true e = inr (sym (exact k q (equal_of (cmp k q) e)), at_by d q true e)
        by false e = inl (at_by d q false e)

    -- one that was not there keeps the number that stands for none
    pub put_none : lookup (is_at (cmp k)) old ≡ None → (q : K) → unwrap_or (lookup (is_at (cmp q)) new) n ≡ unwrap_or (lookup (is_at (cmp q)) old) n
    put_none none q = by (is_at (cmp k) q) refl
      where
        by : (b : Bool) → is_at (cmp k) q ≡ b → unwrap_or (lookup (is_at (cmp q)) new) n ≡ unwrap_or (lookup (is_at (cmp q)) old) n
        by true e = at_by n q true e ∙ sym (ap (λ (o : Option ℕ). unwrap_or o n) (subst (λ (p : K). lookup (is_at (cmp p)) old ≡ None) (exact k q (equal_of (cmp k q) e)) none))
        by false e = at_by n q false e
