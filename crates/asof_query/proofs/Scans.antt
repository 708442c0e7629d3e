-- One key more in a scan.
use Rattle.std.proofs.Common.{◌≡◌, ℕ, Option, Some, None, List, [], ◌∷◌, ◌++◌, refl, Bool, true, false, cond}
use Rattle.std.specs.List.{filter, cons_option}
use Rattle.std.specs.Option.{option_to_list}
use Rattle.tuple_bytes.specs.declared.value.Value.{Value}
use Rattle.tuple_bytes.specs.declared.filter.Filter.{Filter}
use Rattle.tt_table.specs.declared.version.Version.{Version}
use Rattle.tt_table.specs.Shown.{rows_at}
use Rattle.tt_table.specs.Versions.{live_row}
use Rattle.asof_query.specs.Filters.{chosen, passes}

filter_option : {A : Type 0} (p : A → Bool) (o : Option A) (xs : List A) → filter p (cons_option o xs) ≡ filter p (option_to_list o) ++ filter p xs
filter_option p None xs = refl
filter_option p (Some x) xs = elim (p x) as (λ b. cond b (x ∷ filter p xs) (filter p xs) ≡ cond b (x ∷ []) [] ++ filter p xs) [ true ↦ refl | false ↦ refl ]

pub chosen_more : (place : ℕ) (f : Option Filter) (m : ℕ) (k : Value × List Version) (ks : List (Value × List Version))
    → chosen place f (rows_at m (k ∷ ks)) ≡ chosen place f (option_to_list (live_row m k.1)) ++ chosen place f (rows_at m ks)
chosen_more place f m k ks = filter_option (passes place f) (live_row m k.1) (rows_at m ks)
