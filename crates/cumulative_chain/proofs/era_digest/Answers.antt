use Rattle.std.proofs.Common.{◌≡◌, ℕ, List, [], ◌∷◌, ◌++◌, ap, ◌∙◌}
use Rattle.std.proofs.lemmas.List.{append_assoc}
use Rattle.std.specs.Int.{w32, to_be_bytes}
use Rattle.sha2.specs.Sha256.{sha256}
use Rattle.cumulative_chain.proofs.era_digest.Goals as goal

-- what is hashed piece by piece
pieces : (number tile granule rest : List ℕ) → (((6 ∷ number) ++ tile) ++ granule) ++ rest ≡ 6 ∷ (number ++ (tile ++ (granule ++ rest)))
pieces number tile granule rest = ap (λ (x : List ℕ). 6 ∷ x) (append_assoc (number ++ tile) granule rest ∙ append_assoc number tile (granule ++ rest))

pub returns : goal.returns
returns c =
    let held = c.update-5.ensures _ (c.update-4.ensures _ (c.update-3.ensures _ (c.update-2.ensures _ (c.update.ensures _ c.new-hasher.ensures)))) in
    record {
      value =
          c.finalize.ensures _ held
          ∙ ap sha256 (pieces c.to_be_bytes.result c.to_be_bytes-2.result c.to_be_bytes-3.result (c.args.era.now.k ∷ c.args.era.now.algs ∷ []))
          ∙ ap (λ (x : List ℕ). sha256 (6 ∷ (x ++ (c.to_be_bytes-2.result ++ (c.to_be_bytes-3.result ++ (c.args.era.now.k ∷ c.args.era.now.algs ∷ [])))))) c.to_be_bytes.ensures
          ∙ ap (λ (x : List ℕ). sha256 (6 ∷ (to_be_bytes w32 c.args.number ++ (x ++ (c.to_be_bytes-3.result ++ (c.args.era.now.k ∷ c.args.era.now.algs ∷ [])))))) c.to_be_bytes-2.ensures
          ∙ ap (λ (x : List ℕ). sha256 (6 ∷ (to_be_bytes w32 c.args.number ++ (to_be_bytes w32 c.args.era.now.tile ++ (x ++ (c.args.era.now.k ∷ c.args.era.now.algs ∷ [])))))) c.to_be_bytes-3.ensures;
    }
