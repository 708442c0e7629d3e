-- Eras that begin at tiles which are not sealed, with one more.
use Rattle.std.proofs.Common.{◌≡◌, ◌<◌, ◌+◌, ℕ, ltb, List, length, take, Option, Some, None, sym, ap, ◌∙◌, arith}
use Rattle.std.specs.List.{slice_get}
use Rattle.std.specs.Option.{option_map}
use Rattle.std.proofs.lemmas.List.{length-take}
use Rattle.digest_model.specs.Layout.{Era}
use Rattle.policy_eras.specs.declared.era.Era.{Era as Kept}
use Rattle.policy_eras.specs.Policy.{as_era}
use Rattle.file_findings.specs.declared.finding.Finding.{Finding}
use Rattle.file_findings.specs.declared.finding.Finding.TheVariants.{UnsealedEra}
use Rattle.file_findings.specs.Along.{listed, found_along}
use Rattle.file_findings.proofs.Along.{found_with}
use Rattle.inspect_call.specs.Both.{unsealed_era}
use Rattle.inspect_call.specs.Known.{NotesEra}
use Rattle.inspect_call.proofs.Reading.{take_got, got_none}

pub era_more : (sealed : ℕ) (later : List Era) (n : ℕ) (era : Option Kept) (old new : List Finding) → n < length later → option_map as_era era ≡ slice_get later n → NotesEra era (n + 1) sealed old new → old ≡ found_along (unsealed_era sealed) (take n later)
    → new ≡ found_along (unsealed_era sealed) (take (n + 1) later)
era_more sealed later n None old new few is notes so_far = absurd (got_none later n few (sym is))
era_more sealed later n (Some e) old new few is notes so_far =
    let f : List Era → Era → List Finding = unsealed_era sealed in
    let place : n ≡ length (take n later) = omega (arith, length-take n later, few) in
    found_with f (take n later) (as_era e) old new _ notes (ap (λ (m : ℕ). listed (ltb sealed e.tile) (UnsealedEra (m + 1) e.tile sealed)) place) so_far
    ∙ ap (found_along f) (sym (take_got later n (as_era e) (sym is)))
