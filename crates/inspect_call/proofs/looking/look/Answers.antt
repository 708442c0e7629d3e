use Rattle.std.proofs.Common.{◌≡◌, map, List, Option, ap, ◌∙◌}
use Rattle.store_inspect.specs.declared.seen.StoreKnown.{StoreKnown}
use Rattle.book_inspect.specs.declared.book.BookRead.{BookRead}
use Rattle.book_inspect.specs.declared.book.BookSeen.{BookSeen}
use Rattle.inspect_call.specs.Gathered.{known_of, gathered, items_in, entries_in, id_for}
use Rattle.inspect_call.proofs.Still.{each_same}
use Rattle.inspect_call.proofs.Seeing.{sees_each, kept_each}
use Rattle.inspect_call.proofs.looking.look.Goals as goal

pub returns-in_err-seen-clause-books : goal.returns-in_err-seen-clause-books
returns-in_err-seen-clause-books g c = each_same (λ b. g.B.Disk.state b) c.args.books.now

pub returns-clause-exact : goal.returns-clause-exact
returns-clause-exact g c =
    let id = c.args.id in
    let second = c.args.second in
    let seen = c.in_ok-seen.seen in
    let known = known_of seen in
    let reads = c.in_ok-reads.reads.items in
    let all = c.in_ok-all.all.items in
    let own = c.in_ok-own.own in
    let payloads = λ (rs : List BookRead). map (λ (r : BookRead). r.payloads) rs in
    let own_is : own ≡ id_for id known (map (λ (b : BookSeen). b.payloads) all) =
    c.in_ok-own.ensures.value
    ∙ ap (λ (k : Option StoreKnown). id_for id k (payloads c.as_slice.result.now)) c.known_of.ensures.value
    ∙ ap (λ (rs : List BookRead). id_for id known (payloads rs)) c.as_slice.ensures.value
    ∙ ap (id_for id known) (kept_each own second reads all c.in_ok-all.ensures.looks) in
    record {
      seen = seen;
      sees = c.in_ok-seen.ensures.sees;
      all = all;
      own = own;
      own_is = own_is;
      each = sees_each own second (map (λ b. (g.B.Disk.state b).reads) c.args.books.now) reads all c.in_ok-all.ensures.looks c.in_ok-reads.ensures.reads;
      found = c.in_ok-found.ensures.value ∙ ap (gathered own seen) c.as_slice-2.ensures.value;
      items = c.items_in.ensures.value ∙ ap items_in c.known_of-2.ensures.value;
      entries = c.entries_in.ensures.value ∙ ap entries_in c.as_slice-3.ensures.value;
    }
