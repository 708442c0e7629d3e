-- What stops a reader of answers, and what doesn't.
use Rattle.std.proofs.Common.{◌≡◌, List, [], ◌∷◌, ◌++◌, map, Option, Some, None, Result, Ok, Err, inl, inr, refl, sym, ap, ◌∙◌}
use Rattle.std.specs.List.{Contains}
use Rattle.digest_model.proofs.Lists.{one_of, none_of}
use Rattle.digest_model.proofs.Members.{here, there}
use Rattle.notary_link.specs.declared.fail.AskFail.{AskFail}
use Rattle.notary_link.specs.declared.fail.AskFail.TheVariants.{NotaryFault, SealMissing, NotSealedSo, NotaryInconsistent, NoMemory}
use Rattle.audit_model.specs.Asked.{IsTold, or_stop, first_stop, unless_stopped}

-- ---- what is told

-- what was found was not stopped
pub ended : {A : Type 0} (stop : Option AskFail) (found x : A) → IsTold (unless_stopped stop found) (Ok x) → (stop ≡ None) × (x ≡ found)
ended None found x e = (refl, cc)
ended (Some fail) found x e = absurd cc

failed : {A : Type 0} (stop : Option AskFail) (found : A) (fail : AskFail) → Err fail ≡ unless_stopped stop found → stop ≡ Some fail
failed None found fail e = absurd cc
failed (Some other) found fail e = cc

-- what stops a part stops the whole
pub stops_whole : {A B : Type 0} (stop : Option AskFail) (found : A) (whole : Result B AskFail) (fail : AskFail)
    → IsTold (unless_stopped stop found) (Err fail) → (stop ≡ Some fail → whole ≡ Err fail) → IsTold whole (Err fail)
stops_whole stop found whole NotaryFault e f = tt
stops_whole stop found whole NoMemory e f = tt
stops_whole stop found whole (SealMissing name) e f = sym (f (failed stop found (SealMissing name) e))
stops_whole stop found whole NotSealedSo e f = sym (f (failed stop found NotSealedSo e))
stops_whole stop found whole (NotaryInconsistent era level index) e f = sym (f (failed stop found (NotaryInconsistent era level index) e))

-- ---- the first of two

or_assoc : (p q r : Option AskFail) → or_stop (or_stop p q) r ≡ or_stop p (or_stop q r)
or_assoc None q r = refl
or_assoc (Some fail) q r = refl

pub or_none : (p : Option AskFail) → or_stop p None ≡ p
or_none None = refl
or_none (Some fail) = refl

pub neither : (first later : Option AskFail) → or_stop first later ≡ None → (first ≡ None) × (later ≡ None)
neither None later is = (refl, is)
neither (Some fail) later is = absurd cc

pub both_end : (first later : Option AskFail) → first ≡ None → later ≡ None → or_stop first later ≡ None
both_end None later e is = is
both_end (Some fail) later e is = absurd cc

-- ---- the first of many

pub first_stop-append : (xs ys : List (Option AskFail)) → first_stop (xs ++ ys) ≡ or_stop (first_stop xs) (first_stop ys)
unfolding first_stop
first_stop-append [] ys = refl
first_stop-append (x ∷ xs) ys = ap (or_stop x) (first_stop-append xs ys) ∙ sym (or_assoc x (first_stop xs) (first_stop ys))

-- where none of many stopped it, each did not
pub none_stops : {A : Type 0} (stop : A → Option AskFail) (xs : List A) (x : A) → first_stop (map stop xs) ≡ None → Contains xs x → stop x ≡ None
unfolding first_stop
none_stops stop [] x none is = absurd (none_of x is)
none_stops stop (y ∷ ys) x none is =
    let both = neither (stop y) (first_stop (map stop ys)) none in
    elim (one_of y x ys is) [
      | inl same ↦ rw (← same) both.0
      | inr more ↦ none_stops stop ys x both.1 more
    ]

-- and where each did not, none did
pub no_stop : {A : Type 0} (stop : A → Option AskFail) (xs : List A) → ((x : A) → Contains xs x → stop x ≡ None) → first_stop (map stop xs) ≡ None
unfolding first_stop
no_stop stop [] each = refl
no_stop stop (x ∷ xs) each = both_end (stop x) (first_stop (map stop xs)) (each x (here x xs)) (no_stop stop xs (λ y is. each y (there x y xs is)))
