use Rattle.std.proofs.Common.{◌≡◌, true, false, sym, ◌∙◌, arith}
use Rattle.notary_link.specs.Notary.{batch_of}
use Rattle.notary_book.proofs.Lists.{next_is, file_next, file_out_of_turn, file_full}
use Rattle.notary_book.proofs.pages.Pages.take_batch.Goals as goal

pub returns-then-index-count : goal.returns-then-index-count
returns-then-index-count c = record {
  value = λ calls read.
      next_is calls _ read.next
      ∙ file_out_of_turn calls c.args.self.now read.stands c.args.id c.args.index (batch_of c.args.moment c.args.seals.now) (λ e. c.if-index-count.true (e ∙ sym c.count.ensures.value));
}

pub returns-then-not-has_room : goal.returns-then-not-has_room
returns-then-not-has_room c =
    let h = c.if-not-has_room.true in
    let full : c.has_room.result ≡ false = grind (arith, h) in
    record {
      value = λ calls read.
          next_is calls _ read.next
          ∙ file_full calls c.args.self.now read.stands c.args.id c.args.index (batch_of c.args.moment c.args.seals.now) (sym c.has_room.ensures.value ∙ full);
    }

pub returns : goal.returns
returns c =
    let h = c.if-not-has_room.false in
    let room : c.has_room.result ≡ true = grind (arith, h) in
    let t = c.if-index-count.false in
    let turn : c.args.index ≡ c.count.result = grind (arith, t) in
    record {
      value = λ calls read. record {
        next = next_is calls _ read.next
            ∙ file_next calls c.args.self.now read.stands c.args.id c.args.index (batch_of c.args.moment c.args.seals.now) (turn ∙ c.count.ensures.value) (sym c.has_room.ensures.value ∙ room);
        stands = c.in_ok-add_batch.ensures.stands calls c.args.index read.stands;
      };
    }
