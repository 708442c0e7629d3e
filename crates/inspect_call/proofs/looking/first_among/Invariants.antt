use Rattle.std.proofs.Common.{◌≡◌, map, drop}
use Rattle.inspect_call.specs.Gathered.{first_among}
use Rattle.inspect_call.proofs.looking.first_among.Given as goal

-- none has an entry so far
abbrev pub invariant-loop-read : goal.invariant-loop-read
invariant-loop-read l = first_among (map (λ r. r.payloads) l.reads) ≡ first_among (map (λ r. r.payloads) (drop l.read-index l.reads))
