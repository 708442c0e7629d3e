use Rattle.std.proofs.Common.{◌≡◌, Bool, true, false, sym, ap, ◌∙◌, refl}
use Rattle.std.specs.Prelude.{◌&&◌}
use Rattle.std.specs.List.{list_all}
use Rattle.std.proofs.lemmas.Str.{is_utf8-from_IsUtf8}
use Rattle.stmt_text.specs.Values.{is_text, is_text_byte}
use Rattle.store_inspect.proofs.sayable.is_text.Goals as goal

and_true : (a : Bool) → a ≡ (a && true)
and_true true = refl
and_true false = refl

pub returns : goal.returns
unfolding is_text
returns c =
    let text = c.args.text.now in
    record {
      value = c.are_text_bytes.ensures.value ∙ ap (list_all is_text_byte) c.as_slice.ensures.value ∙ and_true (list_all is_text_byte text) ∙ ap (λ b. list_all is_text_byte text && b) (sym (is_utf8-from_IsUtf8 text c.as_slice.ensures.utf8));
    }
