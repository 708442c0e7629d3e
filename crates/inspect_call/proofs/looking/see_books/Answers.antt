use Rattle.std.proofs.Common.{◌++◌, ◌∷◌, [], sym, subst}
use Rattle.std.specs.List.{AllZip}
use Rattle.std.proofs.lemmas.Slice.Zip.{all_zipped_more}
use Rattle.inspect_call.specs.Looked.{LooksAt}
use Rattle.inspect_call.proofs.looking.see_books.Goals as goal

pub loop-read-preserved : goal.loop-read-preserved
loop-read-preserved c =
    let looks = LooksAt c.args.id c.args.second in
    subst (AllZip looks (c.loop-read.yielded ++ c.in-Some.read ∷ [])) (sym c.in_ok-push.ensures.items)
    (all_zipped_more looks c.loop-read.yielded c.loop-read.all.items c.in-Some.read c.in_ok-look_at.field-0 c.loop-read.invariant (c.in_ok-look_at.ensures.kept, c.in_ok-look_at.ensures.exact))
