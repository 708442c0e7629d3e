-- How many questions were asked, by the eras of the file.
use Rattle.std.proofs.Common.{◌≡◌, ℕ, ◌+◌, ◌<◌, ◌≤◌, nat_lt, true, List, length, length-append, Option, Some, None, IfSome, Result, Ok, Err, IfOk, ap, ◌∙◌, arith}
use Rattle.std.proofs.lemmas.Bool.Decides.{nat_tests}
use Rattle.history_model.specs.declared.stored.Stored.{Stored}
use Rattle.history_model.specs.History.{History}
use Rattle.history_model.specs.Stored.{stored}
use Rattle.digest_model.specs.Layout.{Era, Layout, Policy, layout, policy_of, sealed_eras}
use Rattle.digest_model.proofs.Eras.{sealed_come_first, eras_are_few}
use Rattle.policy_eras.specs.Policy.{count_of}
use Rattle.policy_eras.proofs.Histories.{layout_is}
use Rattle.audit_model.specs.Altered.{history_with}
use Rattle.validator.specs.Verdicts.{sealed_by, sealed_of, sealed_in, sealed_on}
use Rattle.forensic_report.specs.declared.fail.AnalyseFail.{AnalyseFail}
use Rattle.forensic_report.specs.declared.found.Analysis.{Analysis as AnalysisValue}
use Rattle.forensic_report.specs.Analysis.{Analysis, Unsealed, HeaderAltered, Found, questions}
use Rattle.forensic_report.specs.Finding.{has_era}
use Rattle.forensic_report.specs.Values.{analysis_of}

-- an era that is there has a number below that of the eras, which are at most 256
pub known_era : (h : History) (era : Option ℕ) → has_era era h ≡ true → IfSome era (λ number. number ≤ length (policy_of h).later)
known_era h None is = tt
known_era h (Some number) is = (let below : number < count_of (policy_of h) = grind (arith, nat_tests, is) in omega (arith, below))

pub small_era : (h : History) (era : Option ℕ) → has_era era h ≡ true → IfSome era (λ number. number ≤ 255)
small_era h None is = tt
small_era h (Some number) is = omega (arith, known_era h (Some number) is, eras_are_few h)

-- a store has at most 255 eras but the first
pub few_sealed : (h : History) (n : ℕ) → sealed_of h n ≤ 255
few_sealed h n =
    let front = sealed_come_first h n in
    let long = length-append (sealed_eras (layout h) n) front.0 in
    let all : length (policy_of h).later ≡ length (sealed_eras (layout h) n) + length front.0 = ap (length {A = Era}) front.1 ∙ long in
    omega (arith, all, eras_are_few h)

few_in : (file : Option History) (n : ℕ) → sealed_in file n ≤ 255
few_in None n = omega arith
few_in (Some h) n = few_sealed h n

-- what was read is what the disk tells, where it does
on_disk : (id : ℕ) (reads : Option (List ℕ)) (st : Stored) (a : Analysis) → IfSome reads (λ bytes. st ≡ stored bytes) → questions (sealed_in (history_with id st)) a ≤ questions (sealed_on id reads) a
on_disk id None st (Unsealed era) is = omega arith
on_disk id None st (HeaderAltered n) is = omega (arith, few_in (history_with id st) n)
on_disk id None st (Found extent findings) is = omega arith
on_disk id (Some bytes) st a is = rw is (omega arith)

pub asked_on : (id : ℕ) (reads : Option (List ℕ)) (st : Stored) (old later : ℕ) (r : Result AnalysisValue AnalyseFail) → IfSome reads (λ bytes. st ≡ stored bytes)
    → IfOk r (λ a. later ≤ old + questions (sealed_in (history_with id st)) (analysis_of a)) → IfOk r (λ a. later ≤ old + questions (sealed_on id reads) (analysis_of a))
asked_on id reads st old later (Ok a) is asked = omega (arith, on_disk id reads st (analysis_of a) is, asked)
asked_on id reads st old later (Err fail) is asked = tt

-- the eras of a history
pub sealed_same : (h : History) (n : ℕ) (eras : Policy) → eras ≡ policy_of h → sealed_by eras n ≡ sealed_of h n
sealed_same h n eras is = ap (λ (l : Layout). length (sealed_eras l n)) (layout_is h is)

-- the first questions, and then the others
pub asked_then : (first old mid later : ℕ) (eras : ℕ → ℕ) (r : Result AnalysisValue AnalyseFail) → mid ≤ old + first
    → IfOk r (λ a. later + first ≤ mid + questions eras (analysis_of a)) → IfOk r (λ a. later ≤ old + questions eras (analysis_of a))
asked_then first old mid later eras (Ok a) before asked = omega (arith, before, asked)
asked_then first old mid later eras (Err fail) before asked = tt
