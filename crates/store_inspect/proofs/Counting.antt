-- The first number that fails, and what one call reads of a file.
use Rattle.std.proofs.Common.{◌≡◌, ℕ, suc, ◌+◌, ◌-◌, ◌<◌, min, Bool, true, false, cond, List, [], ◌∷◌, ◌++◌, length, take, drop, Option, Some, None, is_some, IfSome, refl, sym, ap, subst, ◌∙◌, arith}
use Rattle.std.proofs.lemmas.List.{take_min}
use Rattle.disk_words.specs.Disk.{Reads}
use Rattle.tuple_bytes.specs.declared.header.Header.{Header}
use Rattle.tuple_bytes.specs.Spelling.{spell_header}
use Rattle.txn_journal.specs.Create.{is_free}
use Rattle.history_model.specs.declared.head.Front.{Front}
use Rattle.history_model.specs.Front.{header_in}
use Rattle.history_model.specs.Stored.{front_header}
use Rattle.file_findings.specs.declared.finding.Finding.TheVariants.{DamagedFront}
use Rattle.history_model.specs.Stored.{max_file}
use Rattle.store_inspect.specs.declared.store_file.StoreFile.{StoreFile}
use Rattle.store_inspect.specs.Front.{least, first_not, may_begin, wrong_byte, headless}
use Rattle.store_inspect.specs.Reading.{HasBytes}

step : (passes : ℕ → Bool) (i m k : ℕ) → k ≡ suc m → first_not passes i k ≡ cond (passes i) (first_not passes (i + 1) m) i
step passes i m k e = rw e refl

-- up to n, where this is the first that fails
abbrev pub IsFirst : (ℕ → Bool) → ℕ → ℕ → ℕ → Type 0
IsFirst passes n i found = first_not passes i (n - i) ≡ found

pub first_init : (passes : ℕ → Bool) (n : ℕ) → IsFirst passes n 0 (first_not passes 0 n)
first_init passes n = ap (first_not passes 0) (let all : n - 0 ≡ n = omega arith in all)

pub fails_at : (passes : ℕ → Bool) (n i found : ℕ) → IsFirst passes n i found → i < n → passes i ≡ false → i ≡ found
fails_at passes n i found is below fails =
    sym (sym is ∙ step passes i (n - (i + 1)) (n - i) (omega (arith, below)) ∙ ap (λ (b : Bool). cond b (first_not passes (i + 1) (n - (i + 1))) i) fails)

pub passes_at : (passes : ℕ → Bool) (n i found : ℕ) → IsFirst passes n i found → i < n → passes i ≡ true → IsFirst passes n (i + 1) found
passes_at passes n i found is below goes =
    sym (step passes i (n - (i + 1)) (n - i) (omega (arith, below)) ∙ ap (λ (b : Bool). cond b (first_not passes (i + 1) (n - (i + 1))) i) goes) ∙ is

pub none_fails : (passes : ℕ → Bool) (n i found : ℕ) → IsFirst passes n i found → i ≡ n → n ≡ found
none_fails passes n i found is end = sym end ∙ sym (ap (first_not passes i) (let none : n - i ≡ 0 = omega (arith, end) in none)) ∙ is

-- ---- a front

some_in : (r : Option Front) → is_some r ≡ is_some (header_in r)
some_in None = refl
some_in (Some f) = refl

pub made : (front one two : List ℕ) (r : Option Front) → one ≡ spell_header least → two ≡ front → header_in r ≡ front_header (two ++ drop (length front) (one ++ 0 ∷ [])) → is_some r ≡ may_begin front
made front one two r e1 e2 header =
    some_in r ∙ ap (λ (h : Option Header). is_some h) header
    ∙ ap (λ (t : List ℕ). is_some (front_header (t ++ drop (length front) (one ++ 0 ∷ [])))) e2
    ∙ ap (λ (o : List ℕ). is_some (front_header (front ++ drop (length front) (o ++ 0 ∷ [])))) e1

pub damaged : (bytes : List ℕ) (n byte : ℕ) → is_free bytes ≡ false → n ≡ min (length bytes) 64 → byte ≡ wrong_byte (take n bytes) → DamagedFront byte ≡ headless bytes
damaged bytes n byte free cut is =
    let least_of : n ≡ min 64 (length bytes) = omega (arith, cut) in
    let part : take n bytes ≡ take 64 bytes = ap (λ (k : ℕ). take k bytes) least_of ∙ take_min 64 bytes in
    rw free (ap DamagedFront (is ∙ ap wrong_byte part))

-- ---- what one call reads

pub read_is : (file : StoreFile) (told1 told0 : Option (List ℕ)) (count : ℕ) (into : List ℕ) → told1 ≡ told0 → IfSome told0 (λ b. file.size ≡ length b) → IfSome told1 (λ b. Reads 0 b into count)
    → length into ≡ min file.size max_file → file.front.items ≡ take count into → IfSome told0 (λ b. HasBytes file b)
read_is file told1 None count into same size reads long front = tt
read_is file told1 (Some b) count into same size reads long front =
    let r : Reads 0 b into count = subst (λ (o : Option (List ℕ)). IfSome o (λ x. Reads 0 x into count)) same reads in
    let n : count ≡ min max_file (length b) = omega (arith, r.as_many, long, size) in
    record { size = size; front = front ∙ r.front ∙ ap (λ (k : ℕ). take k b) n ∙ take_min max_file b }
