use Rattle.std.proofs.Common.{◌++◌, ◌∷◌, [], take, List, sym, ap, ◌∙◌}
use Rattle.std.specs.List.{filter_map}
use Rattle.std.proofs.lemmas.List.Elements.{filter_map-append}
use Rattle.book_inspect.specs.declared.copies.Lists.{Lists}
use Rattle.book_inspect.specs.Copies.{lists_seen}
use Rattle.book_inspect.proofs.Comparing.{items_more}
use Rattle.book_inspect.proofs.copies.all_lists.Goals as goal

pub loop-book-preserved : goal.loop-book-preserved
loop-book-preserved c =
    let f = lists_seen c.args.id in
    let books = c.args.books.now in
    let i = c.loop-book.book-index in
    let b = c.book-item.result in
    c.in_ok-add_lists.ensures.value ∙ ap (λ (l : List Lists). l ++ filter_map f (b ∷ [])) c.loop-book.invariant ∙ sym (filter_map-append f (take i books) (b ∷ [])) ∙ ap (filter_map f) (items_more books i b c.loop-book-test.true c.book-item.is)
