-- What nothing stopped, and what is left out of a list.
use Rattle.std.proofs.Common.{◌≡◌, ℕ, false, List, [], ◌∷◌, map, Option, Some, None, Ok, Err, refl, ap, ◌∙◌, inl, inr}
use Rattle.std.specs.List.{Contains, cons_option, filter_map}
use Rattle.notary_link.specs.declared.fail.AskFail.{AskFail}
use Rattle.digest_model.proofs.Members.{here, there}
use Rattle.digest_model.proofs.Lists.{one_of, none_of}
use Rattle.audit_model.specs.Asked.{unless_stopped}
use Rattle.forensic_report.specs.declared.fail.AnalyseFail.{AnalyseFail}
use Rattle.forensic_report.specs.Analysis.{Extent, Findings, Analysis, Found, is_some_bad}
use Rattle.forensic_report.specs.Finding.{analysis_by}

-- ---- stops

-- what was found was not stopped
pub unstopped : {A : Type 0} (findings : A → Findings) (extent : Extent) (stop : Option AskFail) (found : A) (a : Analysis)
    → Ok a ≡ analysis_by findings extent (unless_stopped stop found) → (stop ≡ None) × (a ≡ Found extent (findings found))
unstopped findings extent None found a is = (refl, cc)
unstopped findings extent (Some fail) found a is = absurd cc

-- where nothing stopped it, it isn't refused
pub ended : {A : Type 0} (findings : A → Findings) (extent : Extent) (stop : Option AskFail) (found : A) (fail : AnalyseFail)
    → stop ≡ None → Err fail ≡ analysis_by findings extent (unless_stopped stop found) → ⊥
ended findings extent None found fail none is = cc
ended findings extent (Some cause) found fail none is = cc

-- ---- lists of what is there

behind : {Y : Type 0} (o : Option Y) (ys : List Y) (y : Y) → Contains ys y → Contains (cons_option o ys) y
behind None ys y is = is
behind (Some x) ys y is = there x y ys is

pub in_mapped : {X Y : Type 0} (f : X → Option Y) (xs : List X) (x : X) (y : Y) → Contains xs x → f x ≡ Some y → Contains (filter_map f xs) y
in_mapped f [] x y is gives = absurd (none_of x is)
in_mapped f (z ∷ zs) x y is gives = elim (one_of z x zs is) [
  | inl same ↦ (let first : f z ≡ Some y = ap f same ∙ gives in rw first (here y (filter_map f zs)))
  | inr more ↦ behind (f z) (filter_map f zs) y (in_mapped f zs x y more gives)
]

-- an element that gives y
pub record Gives {X Y : Type 0} (f : X → Option Y) (xs : List X) (y : Y) : Type 0 where
  pub source : X
  pub is_in : Contains xs source
  pub gives : f source ≡ Some y

first_or_later : {X Y : Type 0} (f : X → Option Y) (z : X) (zs : List X) (y : Y) (o : Option Y) (ys : List Y) → f z ≡ o → (Contains ys y → Gives f zs y)
    → Contains (cons_option o ys) y → Gives f (z ∷ zs) y
first_or_later f z zs y None ys is later among = (let g = later among in record { source = g.source; is_in = there z g.source zs g.is_in; gives = g.gives })
first_or_later f z zs y (Some x) ys is later among = elim (one_of x y ys among) [
  | inl same ↦ record { source = z; is_in = here z zs; gives = is ∙ ap Some same }
  | inr more ↦ (let g = later more in record { source = g.source; is_in = there z g.source zs g.is_in; gives = g.gives })
]

pub from_mapped : {X Y : Type 0} (f : X → Option Y) (xs : List X) (y : Y) → Contains (filter_map f xs) y → Gives f xs y
from_mapped f [] y is = absurd (none_of y is)
from_mapped f (z ∷ zs) y is = first_or_later f z zs y (f z) (filter_map f zs) refl (from_mapped f zs y) is

pub none_mapped : {X Y : Type 0} (f : X → Option Y) (xs : List X) → ((x : X) → Contains xs x → f x ≡ None) → filter_map f xs ≡ []
none_mapped f [] each = refl
none_mapped f (x ∷ xs) each =
    let first = each x (here x xs) in
    let rest = none_mapped f xs (λ y is. each y (there x y xs is)) in
    rw (first, rest) refl

-- ---- bad tiles

-- where no tile is bad, nothing is listed
pub none_bad : {X : Type 0} (tile : X → ℕ) (xs : List X) (x : X) → is_some_bad (map tile xs) ≡ false → Contains xs x → ⊥
none_bad tile [] x none is = none_of x is
none_bad tile (y ∷ ys) x none is = absurd cc
