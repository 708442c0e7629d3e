use Rattle.std.proofs.Common.{◌≡◌, ◌+◌, List, ◌++◌, ◌∷◌, [], take, sym, ap, subst, ◌∙◌}
use Rattle.std.specs.List.{All}
use Rattle.std.proofs.lemmas.List.{take_more}
use Rattle.std.proofs.lemmas.List.Elements.{All-get_or}
use Rattle.tuple_bytes.specs.declared.item.Item.{Item}
use Rattle.history_model.specs.Stored.{IsStorable}
use Rattle.history_model.proofs.Spellings.{fits_record, read_back}
use Rattle.history_model.proofs.spelled.Spelled.of.Goals as goal

pub push-requires : goal.push-requires
push-requires c =
    let xs = c.as_slice-item-items.result.now in
    let all : All IsStorable xs = subst (All IsStorable) (sym c.as_slice-item-items.ensures.value) c.requires.storable in
    let storable : IsStorable c.item-item.result = subst IsStorable (sym c.item-item.is) (All-get_or IsStorable xs c.loop-item.item-index c.item-item.result c.loop-item-test.true all) in
    record { fits = fits_record c.item-item.result storable c.as_slice.result.now (c.as_slice.ensures.value ∙ c.in_ok-spelling.ensures) }

pub loop-item-preserved : goal.loop-item-preserved
loop-item-preserved c =
    let items = c.args.items.now in
    let i = c.loop-item.item-index in
    let item = c.item-item.result in
    let xs = c.as_slice-item-items.result.now in
    let all : All IsStorable xs = subst (All IsStorable) (sym c.as_slice-item-items.ensures.value) c.requires.storable in
    let storable : IsStorable item = subst IsStorable (sym c.item-item.is) (All-get_or IsStorable xs i item c.loop-item-test.true all) in
    let read = read_back item storable c.as_slice.result.now (c.as_slice.ensures.value ∙ c.in_ok-spelling.ensures) in
    let more : take i xs ++ item ∷ [] ≡ take (i + 1) xs = ap (λ (x : Item). take i xs ++ x ∷ []) c.item-item.is ∙ sym (take_more xs i item c.loop-item-test.true) in
    c.in_ok-push.ensures.ok
    ∙ ap (λ (l : List Item). c.loop-item.spelled ++ l) read
    ∙ ap (λ (l : List Item). l ++ item ∷ []) (c.loop-item.invariant ∙ ap (take i) (sym c.as_slice-item-items.ensures.value))
    ∙ more ∙ ap (take (i + 1)) c.as_slice-item-items.ensures.value
