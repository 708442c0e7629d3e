use Rattle.std.proofs.Common.{◌≡◌, subst}
use Rattle.std.specs.Prelude.{IfSome}
use Rattle.digest_model.specs.Layout.{policy_of}
use Rattle.chain_state.specs.Chained.{history_of}
use Rattle.store_engine.specs.Opened.{Opened}
use Rattle.store_engine.proofs.Counting.{chains_own, chains_under}
use Rattle.store_engine.proofs.store.Store.chains.Goals as goal

pub returns-clause-own : goal.returns-clause-own
returns-clause-own c =
    let s = c.self.inside in
    subst (λ (o : Opened). IfSome o.chains (λ k. k.header ≡ o.header)) c.self.view_is (chains_own s.header s.contents.eras s.contents.last s.chains s.chained)

pub returns-clause-under : goal.returns-clause-under
returns-clause-under c =
    let s = c.self.inside in
    subst (λ (o : Opened). IfSome o.chains (λ k. policy_of (history_of k) ≡ o.eras)) c.self.view_is (chains_under s.header s.contents.eras s.contents.last s.chains s.chained)
