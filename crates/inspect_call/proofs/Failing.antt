-- An error that is handed on.
use Rattle.std.proofs.Common.{Result, Ok, Err, IsErrOf, ap}

abbrev error_or : {T E : Type 0} → E → Result T E → E
error_or other (Ok _) = other
error_or other (Err e) = e

pub still_fails : {T U E : Type 0} (e fault : E) → IsErrOf {T = T} {E = E} (Err e) fault → IsErrOf {T = U} {E = E} (Err e) fault
still_fails {T} {U} {E} e fault is = ap {B = Result U E} (λ (x : E). Err x) (ap (error_or e) is)
