use Rattle.std.proofs.Common.{◌≡◌, ◌++◌, Bool, eqb, refl, ap, ◌∙◌}
use Rattle.std.proofs.lemmas.Result.{on_ok_weaker}
use Rattle.digest_model.specs.Layout.{Era, offered, with_item}
use Rattle.policy_eras.specs.Policy.{count_of}
use Rattle.file_findings.specs.declared.finding.Finding.TheVariants.{Beyond, IdlePolicy}
use Rattle.store_inspect.specs.declared.granules.Granules.{Granules}
use Rattle.file_findings.specs.Along.{listed}
use Rattle.file_findings.proofs.Steps.{on_both}
use Rattle.store_inspect.proofs.Placing.{granules_txn, granules_frontier, granules_policy}
use Rattle.store_inspect.proofs.granules.Granules.take.Goals as goal

pub returns-in-Txn : goal.returns-in-Txn
returns-in-Txn c =
    let old = c.args.self.now in
    let t = c.in-Txn.txn in
    record {
      value = on_ok_weaker c.note.result (λ more header before at was known. rw c.in-Txn.is (granules_txn old _ t c.args.place refl refl refl refl refl
          (more ∙ ap (λ (b : Bool). old.beyond.items ++ listed b (Beyond c.args.place t.moment)) c.is_beyond.ensures.value) header before at known)) c.note.ensures.value;
    }

pub returns-in-Frontier : goal.returns-in-Frontier
returns-in-Frontier c =
    let old = c.args.self.now in
    let new = c.take_frontier.new.self in
    let rest = c.take_frontier.ensures.rest in
    record {
      value = on_both c.take_frontier.result (λ odd filed header before at was known. rw c.in-Frontier.is (granules_frontier old new c.in-Frontier.moment c.args.place c.args.last
          (ap (λ (g : Granules). g.width) rest) (ap (λ (g : Granules). g.eras) rest) (ap (λ (g : Granules). g.idle.items) rest) (ap (λ (g : Granules). g.beyond.items) rest)
          odd filed header before at was known)) c.take_frontier.ensures.odd c.take_frontier.ensures.filed;
    }

pub returns-in-Policy : goal.returns-in-Policy
returns-in-Policy c =
    let old = c.args.self.now in
    let p = c.in-Policy in
    let e : Era = record { tile = p.tile; k = p.k; algs = p.algs } in
    let turned : c.offer_item.new.self ≡ offered old.eras e p.granule = c.offer_item.ensures.value ∙ ap (with_item old.eras) p.is in
    record {
      value = on_ok_weaker c.note-in-Policy.result (λ more header before at was known. rw c.in-Policy.is (granules_policy old _ e p.granule c.args.place refl refl refl refl turned
          (more
          ∙ ap (λ n. old.idle.items ++ listed (eqb n c.count-eras.result) (IdlePolicy c.args.place)) (c.count.ensures.value ∙ ap count_of turned)
          ∙ ap (λ n. old.idle.items ++ listed (eqb (count_of (offered old.eras e p.granule)) n) (IdlePolicy c.args.place)) c.count-eras.ensures.value)
          header before at known)) c.note-in-Policy.ensures.value;
    }
