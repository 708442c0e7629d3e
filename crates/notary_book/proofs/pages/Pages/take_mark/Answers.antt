use Rattle.std.proofs.Common.{◌≡◌, true, false, sym, ◌∙◌, arith}
use Rattle.notary_book.proofs.Lists.{next_is, note_is}
use Rattle.notary_book.proofs.pages.Pages.take_mark.Goals as goal

pub returns-then-not-has_room_for_mark : goal.returns-then-not-has_room_for_mark
returns-then-not-has_room_for_mark c =
    let h = c.if-not-has_room_for_mark.true in
    let full : c.has_room_for_mark.result ≡ false = grind (arith, h) in
    record {
      value = λ calls read.
          next_is calls _ read.next ∙ note_is calls c.args.self.now read.stands c.args.id c.args.mark false (sym c.has_room_for_mark.ensures.value ∙ full);
    }

pub returns : goal.returns
returns c =
    let h = c.if-not-has_room_for_mark.false in
    let room : c.has_room_for_mark.result ≡ true = grind (arith, h) in
    record {
      value = λ calls read. record {
        next = next_is calls _ read.next ∙ note_is calls c.args.self.now read.stands c.args.id c.args.mark true (sym c.has_room_for_mark.ensures.value ∙ room);
        stands = c.in_ok-add_mark.ensures.stands calls read.stands;
      };
    }
