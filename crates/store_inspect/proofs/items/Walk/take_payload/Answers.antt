use Rattle.std.proofs.Common.{◌≡◌, ◌++◌, ◌∷◌, [], subst}
use Rattle.std.proofs.lemmas.Result.{on_ok_weaker}
use Rattle.tuple_bytes.specs.declared.item.Item.{Item}
use Rattle.store_inspect.specs.Known.{KnowsItems}
use Rattle.store_inspect.proofs.items.Walk.take_payload.Goals as goal

pub returns-in-Some : goal.returns-in-Some
returns-in-Some c = record {
  value = on_ok_weaker c.take.result (λ takes item spelled header before at known.
      let same : c.in-Some.item ≡ item = cc (c.in_ok-item.ensures.value, c.in-Some.is, spelled) in
      subst (λ (i : Item). KnowsItems header c.take.new.self (before ++ i ∷ [])) same (takes header before at known)) c.take.ensures.value;
}

pub returns-in-None : goal.returns-in-None
returns-in-None c = record { value = λ item spelled. absurd (cc (c.in_ok-item.ensures.value, c.in-None.is, spelled)) }
