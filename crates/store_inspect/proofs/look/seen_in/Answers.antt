use Rattle.std.proofs.Common.{◌≡◌, Result, Ok, Err, IfOk, None, sym, ap, ◌∙◌}
use Rattle.history_model.specs.Stored.{front_header}
use Rattle.store_inspect.specs.declared.seen.StoreSeen.{StoreSeen}
use Rattle.store_inspect.proofs.Seeing.{headless_seen}
use Rattle.store_inspect.proofs.look.seen_in.Goals as goal

if_ok_both : {T E : Type 0} {P Q R : T → Type 0} (r : Result T E) → ((x : T) → P x → Q x → R x) → IfOk r P → IfOk r Q → IfOk r R
if_ok_both (Ok x) f p q = f x p q
if_ok_both (Err e) f p q = tt

pub returns-in-None : goal.returns-in-None
returns-in-None c =
    let file = c.args.file.now in
    let none : front_header file.front.items ≡ None = ap front_header (sym c.deref.ensures.value) ∙ sym c.in-None.ensures.header in
    record {
      value = if_ok_both c.seen_headless.result (λ (seen : StoreSeen) found known bytes has. headless_seen c.args.id c.args.second file seen none found known bytes has)
          c.seen_headless.ensures.findings c.seen_headless.ensures.known;
    }
