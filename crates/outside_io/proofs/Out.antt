-- What is out after several calls of a sink.
use Rattle.std.proofs.Common.{◌≡◌, ℕ, List, [], ◌++◌, ◌+◌, length, take, Option, Some, None, refl, sym, ap, ◌∙◌, append_assoc, arith}
use Rattle.std.specs.Prelude.{min}
use Rattle.std.proofs.lemmas.List.{append-nil, take_all, take_min, take-append-le}
use Rattle.std.proofs.Math.Seq.{take-append-add}
use Rattle.outside_io.specs.Sink.{State, appended, IsOut, IsOutBut, FrontIsOut}

pub appended_twice : (held : Option (List ℕ)) (xs ys : List ℕ) → appended (appended held xs) ys ≡ appended held (xs ++ ys)
appended_twice None xs ys = refl
appended_twice (Some held) xs ys = ap (λ (x : List ℕ). Some x) (append_assoc held xs ys)

appended_nothing : (held : Option (List ℕ)) → held ≡ appended held []
appended_nothing None = refl
appended_nothing (Some held) = ap (λ (x : List ℕ). Some x) (sym (append-nil held))

-- nothing more
pub nothing_out : (old new : State) → new.held ≡ old.held → IsOut [] old new
nothing_out old new same = same ∙ appended_nothing old.held

-- a front of any bytes, before the first call
pub front_of_none : (bytes : List ℕ) (old new : State) → new.held ≡ old.held → FrontIsOut bytes old new
front_of_none bytes old new same = record { len = 0; out = nothing_out old new same }

-- bytes after bytes
pub out_then : (xs ys : List ℕ) (old mid new : State) → IsOut xs old mid → IsOut ys mid new → IsOut (xs ++ ys) old new
out_then xs ys old mid new first next = next ∙ ap (λ (held : Option (List ℕ)). appended held ys) first ∙ appended_twice old.held xs ys

-- bytes, and then a front of others
pub out_then_front : (xs ys : List ℕ) (old mid new : State) → IsOut xs old mid → FrontIsOut ys mid new → FrontIsOut (xs ++ ys) old new
out_then_front xs ys old mid new first next = record {
  len = length xs + next.len;
  out = out_then xs (take next.len ys) old mid new first next.out ∙ ap (appended old.held) (sym (take-append-add xs ys next.len));
}

-- and at least the first of them
pub out_but_end : (xs ys : List ℕ) (old mid new : State) → IsOut xs old mid → FrontIsOut ys mid new → IsOutBut xs (xs ++ ys) old new
out_but_end xs ys old mid new first next = record {
  len = length xs + next.len;
  least = omega arith;
  out = out_then xs (take next.len ys) old mid new first next.out ∙ ap (appended old.held) (sym (take-append-add xs ys next.len));
}

-- a front of the first is a front of all
pub front_of_first : (xs ys : List ℕ) (old new : State) → FrontIsOut xs old new → FrontIsOut (xs ++ ys) old new
front_of_first xs ys old new front = record { len = min front.len (length xs); out = front.out ∙ ap (appended old.held) (sym same) }
  where
    same : take (min front.len (length xs)) (xs ++ ys) ≡ take front.len xs
    same = take-append-le (min front.len (length xs)) xs ys (omega arith) ∙ take_min front.len xs

-- all of the bytes are a front of them
pub front_of_all : (xs : List ℕ) (old new : State) → IsOut xs old new → FrontIsOut xs old new
front_of_all xs old new out = record { len = length xs; out = out ∙ ap (appended old.held) (sym (take_all (length xs) xs (omega arith))) }
