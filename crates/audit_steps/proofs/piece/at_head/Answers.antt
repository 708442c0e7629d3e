use Rattle.std.proofs.Common.{[], refl, sym, ap, subst, arith}
use Rattle.chain_state.specs.Chained.{Chained, AreTaken, open_of}
use Rattle.audit_steps.proofs.piece.at_head.Goals as goal

pub returns-clause-chains : goal.returns-clause-chains
unfolding open_of
returns-clause-chains c =
    subst (λ (x : Chained). AreTaken c.args.header.now [] x) (sym c.in_ok-chains.ensures.value)
    (record { chain = record { header = refl; txns = refl; eras = refl }; granule_is = refl; reached = omega arith })

pub returns-clause-fits : goal.returns-clause-fits
returns-clause-fits c = record { header = c.requires.fits; chains = ap (λ (x : Chained). x.header) c.in_ok-chains.ensures.value }
