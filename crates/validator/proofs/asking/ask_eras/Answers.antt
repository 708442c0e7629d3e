use Rattle.std.proofs.Common.{rules, ◌≡◌, ◌+◌, true, false, List}
use Rattle.outside_words.proofs.Told.{told_map}
use Rattle.notary_link.specs.Batches.{Batch}
use Rattle.notary_link.specs.Notary.{Lists}
use Rattle.notary_link.specs.declared.answer.Answer.TheVariants.{Same, Differs}
use Rattle.notary_link.proofs.Reading.{told_behind}
use Rattle.audit_model.specs.Notary.{is_no_era}
use Rattle.validator.proofs.Asked.{AllAre, ErasShow, eras_differ, eras_by_next}
use Rattle.validator.proofs.asking.ask_eras.Goals as goal

pub returns-then-not-branch-clause-told : goal.returns-then-not-branch-clause-told
returns-then-not-branch-clause-told g c =
    let S = g.N.Notary.state in
    let eras = c.args.eras.now in
    let sealed = c.args.sealed in
    let other : c.in_ok-are_same.field-0 ≡ false = c.if-not-branch.true in
    told_map (S c.args.notary.now).lists (S c.are_same.new.notary).lists (λ (before after : Lists). AllAre eras sealed false (before.batches c.args.id)) (λ (before after : Lists). ErasShow eras sealed Differs (before.batches c.args.id))
    (rw other at c.in_ok-are_same.ensures.told) (λ before after all. eras_differ eras sealed (before.batches c.args.id) all)

pub returns-then-branch-clause-told : goal.returns-then-branch-clause-told
returns-then-branch-clause-told g c =
    let S = g.N.Notary.state in
    let eras = c.args.eras.now in
    let sealed = c.args.sealed in
    let all : c.in_ok-are_same.field-0 ≡ true = c.if-not-branch.false in
    let none : c.in_ok-is_absent.field-0 ≡ true = c.if-branch.true in
    told_behind c.args.id (AllAre eras sealed true) (λ (batches : List Batch). true ≡ is_no_era batches (sealed + 1)) (ErasShow eras sealed Same)
    (S c.args.notary.now).lists (S c.are_same.new.notary).lists (S c.is_absent.new.notary).lists c.in_ok-is_absent.ensures.frame.told.untold c.in_ok-are_same.ensures.same.lists
    (rw all at c.in_ok-are_same.ensures.told) (rw none at c.in_ok-is_absent.ensures.told) (λ batches one two. eras_by_next eras sealed true batches one two)

pub returns-else-branch-clause-told : goal.returns-else-branch-clause-told
returns-else-branch-clause-told g c =
    let S = g.N.Notary.state in
    let eras = c.args.eras.now in
    let sealed = c.args.sealed in
    let all : c.in_ok-are_same.field-0 ≡ true = c.if-not-branch.false in
    let some : c.in_ok-is_absent.field-0 ≡ false = c.if-branch.false in
    told_behind c.args.id (AllAre eras sealed true) (λ (batches : List Batch). false ≡ is_no_era batches (sealed + 1)) (ErasShow eras sealed Differs)
    (S c.args.notary.now).lists (S c.are_same.new.notary).lists (S c.is_absent.new.notary).lists c.in_ok-is_absent.ensures.frame.told.untold c.in_ok-are_same.ensures.same.lists
    (rw all at c.in_ok-are_same.ensures.told) (rw some at c.in_ok-is_absent.ensures.told) (λ batches one two. eras_by_next eras sealed false batches one two)
