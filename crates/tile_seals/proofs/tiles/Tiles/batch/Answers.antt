use Rattle.std.proofs.Common.{◌≡◌, ℕ, suc, ◌-◌, ◌+◌, ◌≤◌, sym, ap, subst, ◌∙◌, arith}
use Rattle.std.specs.Prelude.{List, IfOk, Result}
use Rattle.std.proofs.lemmas.Result.{IfOk-weaker}
use Rattle.notary_link.specs.declared.seal.Seal.{Seal}
use Rattle.notary_link.specs.Batches.{IsBatch}
use Rattle.digest_model.specs.Layout.{Layout, layout, exponent}
use Rattle.policy_eras.proofs.Histories.{layout_is}
use Rattle.audit_model.specs.Names.{batch}
use Rattle.audit_model.proofs.Fileable.{header_fileable, tile_fileable}
use Rattle.tile_seals.proofs.tiles.Tiles.batch.Goals as goal

may_be_filed : {E : Type 0} (wanted : List Seal) (result : Result (List Seal) E) → IsBatch wanted → IfOk result (λ seals. seals ≡ wanted) → IfOk result IsBatch
may_be_filed wanted result may is = IfOk-weaker result (λ seals. seals ≡ wanted) IsBatch (λ seals e. subst IsBatch (sym e) may) is

pub returns-then-index-eq0-clause-fileable : goal.returns-then-index-eq0-clause-fileable
returns-then-index-eq0-clause-fileable c = may_be_filed (batch c.args.self.now.history 0) c.header_batch.result (header_fileable c.args.self.now.history) c.header_batch.ensures

pub returns-clause-fileable : goal.returns-clause-fileable
returns-clause-fileable c =
    let h = c.args.self.now.history in
    let same = c.exponent-few.ensures.value ∙ ap (λ (l : Layout). exponent l (c.args.index - 1)) (layout_is h c.eras.ensures.value) in
    let few : exponent (layout c.args.self.now.history) (c.args.index - 1) ≤ 10 = omega (arith, same, c.exponent-few.ensures.few) in
    let next : suc (c.args.index - 1) ≡ c.args.index - 1 + 1 = omega arith in
    may_be_filed (batch h (c.args.index - 1 + 1)) c.tile_batch.result
    (subst (λ (i : ℕ). IsBatch (batch c.args.self.now.history i)) next (tile_fileable h (c.args.index - 1) few)) c.tile_batch.ensures
