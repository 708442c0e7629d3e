use Rattle.std.proofs.Common.{List, ℕ, [], ◌∷◌, ◌++◌, sym, ap, subst, ◌∙◌, arith}
use Rattle.std.specs.List.{All, filter_map}
use Rattle.tuple_bytes.specs.declared.item.Item.{Item}
use Rattle.tuple_bytes.specs.Items.{item_of}
use Rattle.history_model.specs.Stored.{items_of, IsStorable}
use Rattle.history_model.specs.Spelled.{AreSpellings}
use Rattle.history_model.proofs.Spellings.{read_more, spelled_more, storable_more}
use Rattle.history_model.proofs.spelled.Spelled.push.Goals as goal

pub invariant_of-self-2 : goal.invariant_of-self-2
invariant_of-self-2 c =
    let before = c.self.inside.payloads in
    let more = c.in_ok-push.ensures.ok ∙ ap (λ (p : List ℕ). before ++ p ∷ []) c.in_ok-spelling.ensures.value in
    subst (λ (ps : List (List ℕ)). AreSpellings ps (items_of ps)) (sym more)
    (spelled_more c.args.payload.now (λ i. omega (arith, c.type_inv.payload i)) c.requires.fits before c.self.invariant)

pub returns-clause-ok : goal.returns-clause-ok
returns-clause-ok c =
    let before = c.self.inside.payloads in
    let payload = c.args.payload.now in
    let more = c.in_ok-push.ensures.ok ∙ ap (λ (p : List ℕ). before ++ p ∷ []) c.in_ok-spelling.ensures.value in
    ap items_of more ∙ read_more payload (λ i. omega (arith, c.type_inv.payload i)) c.requires.fits before
    ∙ ap (λ (l : List Item). l ++ filter_map item_of (payload ∷ [])) c.self.view_is

pub returns-clause-storable : goal.returns-clause-storable
returns-clause-storable c = λ all.
    (let before = c.self.inside.payloads in
    let payload = c.args.payload.now in
    let fits = c.requires.fits in
    let more = c.in_ok-push.ensures.ok ∙ ap (λ (p : List ℕ). before ++ p ∷ []) c.in_ok-spelling.ensures.value in
    let read = ap items_of more ∙ read_more payload (λ i. omega (arith, c.type_inv.payload i)) fits before ∙ ap (λ (l : List Item). l ++ filter_map item_of (payload ∷ [])) c.self.view_is in
    subst (All IsStorable) (sym read) (storable_more payload (λ i. omega (arith, c.type_inv.payload i)) fits c.args.self.now all))
