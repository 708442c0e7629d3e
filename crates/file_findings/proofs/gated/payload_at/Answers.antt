use Rattle.std.proofs.Common.{◌≡◌, ◌≢◌, ℕ, List, [], ◌∷◌, None, Some, rules, sym, ap, ◌∙◌}
use Rattle.std.proofs.lemmas.Option.{same_Some}
use Rattle.byte_grammar.specs.Reading.{byte}
use Rattle.byte_grammar.specs.Gated.{Shape, payload_at}
use Rattle.txn_journal.proofs.SameFront.{no_record}
use Rattle.file_findings.proofs.gated.payload_at.Goals as goal

-- no byte, no record
none_of : (shape : Shape) (place : ℕ) (bytes : List ℕ) → byte bytes ≡ None → payload_at shape place bytes ≡ None
none_of shape place [] e = no_record shape place [] (λ h. absurd (cc h))
none_of shape place (b ∷ bytes) e = absurd (cc e)

-- a closed gate, no record
shut_of : (shape : Shape) (place gate : ℕ) (bytes after : List ℕ) → byte bytes ≡ Some (gate, after) → gate ≢ 167 → payload_at shape place bytes ≡ None
shut_of shape place gate [] after e shut = absurd (cc e)
shut_of shape place gate (b ∷ bytes) after e shut =
    let first : ℕ × List ℕ = (b, bytes) in
    let other : ℕ × List ℕ = (gate, after) in
    let same : b ≡ gate = ap (λ (x : ℕ × List ℕ). x.0) (same_Some first other e) in
    no_record shape place (b ∷ bytes) (λ h. shut (sym same ∙ h))

pub returns-in_err-gate-clause-value : goal.returns-in_err-gate-clause-value
returns-in_err-gate-clause-value g c =
    let none : c.from_residual.result ≡ None = search rules in
    rw none (none_of g.S.Shape.shape c.args.place c.args.bytes.now c.in_err-gate.ensures.value)

pub returns-then-gate-clause-value : goal.returns-then-gate-clause-value
returns-then-gate-clause-value g c = shut_of g.S.Shape.shape c.args.place c.in_ok-gate.gate c.args.bytes.now c.in_ok-gate.after.now c.in_ok-gate.ensures.value c.if-gate.true
