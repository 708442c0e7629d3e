-- The replies to the last two lines, as what those add to the text.
use Rattle.std.proofs.Common.{◌≡◌, ◌∙◌, ◌-◌, ℕ, true, List, [], ◌∷◌, ◌++◌, length, take, drop, refl, sym, ap, arith, append_assoc, append-nil, length-append, Result, Ok, Err}
use Rattle.std.proofs.lemmas.List.Sums.{fold-append}
use Rattle.stmt_text.specs.declared.error.ParseFail.{ParseFail}
use Rattle.stmt_text.specs.declared.error.ParseFail.TheVariants as parses
use Rattle.stmt_text.specs.declared.line.Line.{Line}
use Rattle.stmt_text.specs.Lines.{answer}
use Rattle.store_world.specs.Found.{Found}
use Rattle.stmt_text.specs.declared.kind.LineKind.{LineKind}
use Rattle.stmt_text.specs.declared.kind.LineKind.TheVariants as kinds
use Rattle.stmt_text.specs.Kinds.{line_kind}
use Rattle.line_runs.specs.Running.{Running, Timed, carry, carried, seconds_of, said_by, answered}
use Rattle.line_runs.specs.Made.{all_but_two}
use Rattle.line_runs.specs.Laws.{silent, reply_to, LastTwoAreTold}
use Rattle.line_runs.proofs.Reading.{take_first}
use Rattle.line_runs.proofs.Lines.{carried_more}

pub drop_front : (xs ys : List ℕ) → drop (length xs) (xs ++ ys) ≡ ys
drop_front [] ys = refl
drop_front (x ∷ xs) ys = drop_front xs ys

said_text : (kind : LineKind) (now : ℕ) (found : Found) (r : Running) (line : Line)
    → (said_by kind true now found r line).text ≡ r.text ++ (said_by kind true now found (silent r) line).text
said_text kinds.Blank now found r line = sym (append-nil r.text)
said_text (kinds.InWorld part) now found r line = refl
said_text (kinds.SetsMoment moment) now found r line = refl
said_text kinds.OutsideScripts now found r line = refl

answered_text : (now : ℕ) (found : Found) (r : Running) (x : Result Line ParseFail)
    → (answered true now found r x).text ≡ r.text ++ (answered true now found (silent r) x).text
answered_text now found r (Ok line) = said_text (line_kind line) now found r line
answered_text now found r (Err parses.Syntax) = refl
answered_text now found r (Err parses.NumberTooWide) = refl
answered_text now found r (Err parses.NoMemory) = sym (append-nil r.text)

carry_text : (r : Running) (t : Timed) → (carry true r t).text ≡ r.text ++ reply_to r t
unfolding carry
carry_text r t = answered_text (seconds_of true r t.second) t.found r (answer t.line)

pub last_two_are_told : LastTwoAreTold
last_two_are_told begin front t u =
    let done : List Timed = front ++ t ∷ u ∷ [] in
    let r : Running = carried true begin front in
    let many : length done - 2 ≡ length front = omega (arith, length-append front (t ∷ u ∷ [])) in
    let before : all_but_two begin done ≡ r = ap (λ (k : ℕ). carried true begin (take k done)) many ∙ ap (carried true begin) (take_first front (t ∷ u ∷ [])) in
    let after : carried true begin done ≡ carry true (carry true r t) u = fold-append (carry true) begin front (t ∷ u ∷ []) in
    let text : (carried true begin done).text ≡ r.text ++ (reply_to r t ++ reply_to (carry true r t) u) =
    ap (λ (x : Running). x.text) after ∙ carry_text (carry true r t) u ∙ ap (λ (xs : List ℕ). xs ++ reply_to (carry true r t) u) (carry_text r t)
    ∙ append_assoc r.text (reply_to r t) (reply_to (carry true r t) u) in
    ap (λ (x : Running). drop (length x.text) (carried true begin done).text) before ∙ ap (drop (length r.text)) text ∙ drop_front r.text (reply_to r t ++ reply_to (carry true r t) u)
    ∙ ap (λ (x : Running). reply_to r t ++ reply_to x u) (sym (carried_more true begin front t))
