-- One level down.
use Rattle.std.proofs.Common.{◌≡◌, ℕ, zero, suc, ◌+◌, ◌-◌, ◌*◌, ◌/◌, ◌^◌, ◌<◌, ◌≤◌, List, [], ◌∷◌, map, filter, refl, sym, ap, subst, ◌∙◌, arith}
use Rattle.std.specs.Prelude.{bit_and}
use Rattle.std.specs.Int.{bit_at}
use Rattle.std.proofs.lemmas.Bool.{eq-eqb, ne_eqb}
use Rattle.std.proofs.lemmas.Nat.{shr_le, shr-shr}
use Rattle.std.proofs.lemmas.Nat.Bits.{shr_and_one}
use Rattle.digest_model.specs.Roots.{root_at, has_root_at, down_from, roots_of}
use Rattle.a3d_tree.specs.Left.{roots_left}

opened : (level : ℕ) → 0 < level → down_from level ≡ (level - 1) ∷ down_from (level - 1)
unfolding down_from
opened zero h = absurd (omega arith)
opened (suc level) h = (let e : suc level - 1 ≡ level = omega arith in rw e refl)

pub taken : (granules level : ℕ) → 0 < level → bit_and (granules / 2 ^ (level - 1)) 1 ≡ 1
    → roots_left granules level ≡ (level - 1, granules / 2 ^ (level - 1 + 1) * 2) ∷ roots_left granules (level - 1)
taken granules level h e =
    let one : bit_at granules (level - 1) ≡ 1 = sym (shr_and_one granules (level - 1)) ∙ e in
    let test = eq-eqb (bit_at granules (level - 1)) 1 one in
    let turned : 2 * (granules / 2 ^ (level - 1 + 1)) ≡ granules / 2 ^ (level - 1 + 1) * 2 = omega arith in
    ap (λ (ls : List ℕ). map (root_at granules) (filter (has_root_at granules) ls)) (opened level h)
    ∙ (rw test (ap (λ (x : ℕ). (level - 1, x) ∷ roots_left granules (level - 1)) turned))

pub skipped : (granules level : ℕ) → 0 < level → (bit_and (granules / 2 ^ (level - 1)) 1 ≡ 1 → ⊥) → roots_left granules level ≡ roots_left granules (level - 1)
skipped granules level h n =
    let test = ne_eqb (bit_at granules (level - 1)) 1 (λ e. n (shr_and_one granules (level - 1) ∙ e)) in
    ap (λ (ls : List ℕ). map (root_at granules) (filter (has_root_at granules) ls)) (opened level h) ∙ (rw test refl)

pub none_left : (granules : ℕ) → roots_left granules 0 ≡ []
unfolding down_from
none_left granules = refl

pub all_left : (granules : ℕ) → roots_left granules 32 ≡ roots_of granules
unfolding roots_of
all_left granules = refl

-- the same, of a number that equals the granules
pub taken_as : (granules n level : ℕ) → n ≡ granules → 0 < level → bit_and (n / 2 ^ (level - 1)) 1 ≡ 1
    → roots_left granules level ≡ (level - 1, n / 2 ^ (level - 1 + 1) * 2) ∷ roots_left granules (level - 1)
taken_as granules n level same h e =
    taken granules level h (subst (λ x. bit_and (x / 2 ^ (level - 1)) 1 ≡ 1) same e)
    ∙ ap (λ x. (level - 1, x / 2 ^ (level - 1 + 1) * 2) ∷ roots_left granules (level - 1)) (sym same)

pub skipped_as : (granules n level : ℕ) → n ≡ granules → 0 < level → (bit_and (n / 2 ^ (level - 1)) 1 ≡ 1 → ⊥) → roots_left granules level ≡ roots_left granules (level - 1)
skipped_as granules n level same h other = skipped granules level h (λ e. other (subst (λ x. bit_and (x / 2 ^ (level - 1)) 1 ≡ 1) (sym same) e))

pub index_fits : (n l : ℕ) → n < 2 ^ 32 → n / 2 ^ (l + 1) * 2 < 2 ^ 32
index_fits n l h = (let half : n / 2 ^ l / 2 ^ 1 ≡ n / 2 ^ (l + 1) = shr-shr n l 1 in let low = shr_le n l in omega (arith, half, low, h))

pub none_at : (granules level : ℕ) → level ≤ 0 → roots_left granules level ≡ []
none_at granules level h = (let e : level ≡ 0 = omega arith in ap (roots_left granules) e ∙ none_left granules)
