-- Going over eras and entries one by one.
use Rattle.std.proofs.Common.{◌≡◌, ℕ, suc, ◌+◌, ◌<◌, ◌≤◌, Bool, true, false, cond, List, [], ◌∷◌, ◌++◌, length, get_or, drop, Option, Some, None, Result, Ok, Err, IfOk, IfSome, refl, sym, ap, ◌∙◌, arith}
use Rattle.std.specs.Prelude.{◌&&◌, is_some}
use Rattle.std.specs.List.{All}
use Rattle.std.proofs.lemmas.Bool.{le-leb, lt-leb}
use Rattle.std.proofs.lemmas.List.{at_drop_more, at_drop_all, length-append}
use Rattle.std.proofs.lemmas.List.Elements.{All-from_recursion}
use Rattle.byte_grammar.specs.Reading.{IsBytes, Gives, ◌>>=◌}
use Rattle.tuple_bytes.specs.declared.item.Item.{Item}
use Rattle.tuple_bytes.specs.Items.{item_of}
use Rattle.tuple_bytes.specs.Spelling.{FitsHeader, Spells}
use Rattle.tuple_bytes.proofs.ItemLaws.{whole_again, some_spelled}
use Rattle.history_model.specs.Spelled.{txn_moment}
use Rattle.digest_model.specs.Layout.{Era as Turn, Policy, is_next, offered}
use Rattle.policy_eras.specs.declared.era.Era.{Era}
use Rattle.policy_eras.specs.Policy.{as_era}
use Rattle.evidence_file.specs.declared.entry.Entry.{Entry}
use Rattle.evidence_file.specs.declared.evidence.Evidence.{Evidence}
use Rattle.evidence_file.specs.Evidence.{FitsEra, ascend, are_next}
use Rattle.evidence_file.specs.Reading.{spelled_moment, parts_at}
use Rattle.evidence_file.proofs.PartLaws.{parts_reads}

-- ---- what is read fits

pub parts_fit : {E V : Type 0} (view : V → Evidence × List ℕ) (bytes : List ℕ) (r : Result (Option V) E) → IsBytes bytes → IfOk r (λ found. Gives view found (parts_at bytes))
    → IfOk r (λ found. IfSome found (λ x. FitsHeader (view x).0.header × All FitsEra (view x).0.eras))
parts_fit view bytes (Ok (Some x)) fits is =
    let t = parts_reads.takes bytes (view x).0 (view x).1 fits is in
    (t.1.0, All-from_recursion FitsEra (view x).0.eras t.1.1.0.1)
parts_fit view bytes (Ok None) fits is = tt
parts_fit view bytes (Err e) fits is = tt

-- ---- the moment of a transaction

pub no_moment : (bytes : List ℕ) → is_some (item_of bytes) ≡ false → spelled_moment bytes ≡ None
no_moment bytes h = by (item_of bytes) h
  where
    by : (o : Option Item) → is_some o ≡ false → (o >>= txn_moment) ≡ None
    by None h = refl
    by (Some item) h = absurd cc

-- what holds for the item that bytes spell
pub moment_is : (bytes : List ℕ) (moment : Option ℕ) → IsBytes bytes → is_some (item_of bytes) ≡ true → ((item : Item) → Spells item bytes → moment ≡ txn_moment item)
    → moment ≡ spelled_moment bytes
moment_is bytes moment fits some h =
    let s = some_spelled bytes fits some in
    h s.0 s.1 ∙ sym (ap (λ (o : Option Item). o >>= txn_moment) (whole_again bytes s.0 s.1))

-- ---- whether an era was taken is seen from how many there are

grown : (b : Bool) (p : Policy) (e : Turn) → length (cond b (record { first = p.first; later = p.later ++ e ∷ [] }) p).later ≡ cond b (length p.later + 1) (length p.later)
grown true p e = length-append p.later (e ∷ [])
grown false p e = refl

pub counted : (p : Policy) (e : Turn) (granule : ℕ) → length (offered p e granule).later ≡ cond (is_next p e granule) (length p.later + 1) (length p.later)
counted p e granule = grown (is_next p e granule) p e

-- ---- a list of eras

next_step : (p : Policy) (e : Era) (es : List Era) → is_next p (as_era e) e.granule ≡ true → are_next p (e ∷ es) ≡ are_next (offered p (as_era e) e.granule) es
unfolding are_next
next_step p e es h = ap (λ (b : Bool). b && are_next (offered p (as_era e) e.granule) es) h

next_stop : (p : Policy) (e : Era) (es : List Era) → is_next p (as_era e) e.granule ≡ false → are_next p (e ∷ es) ≡ false
unfolding are_next
next_stop p e es h = ap (λ (b : Bool). b && are_next (offered p (as_era e) e.granule) es) h

pub eras_go_on : (p : Policy) (es : List Era) (i : ℕ) (d : Era) (all : Bool) → i < length es → is_next p (as_era (get_or es i d)) (get_or es i d).granule ≡ true
    → are_next p (drop i es) ≡ all → are_next (offered p (as_era (get_or es i d)) (get_or es i d).granule) (drop (i + 1) es) ≡ all
eras_go_on p es i d all lt h so_far =
    let one : are_next p (drop i es) ≡ are_next p (get_or es i d ∷ drop (i + 1) es) = at_drop_more (are_next p) es i d lt in
    sym (one ∙ next_step p (get_or es i d) (drop (i + 1) es) h) ∙ so_far

pub eras_stop : (p : Policy) (es : List Era) (i : ℕ) (d : Era) (all : Bool) → i < length es → is_next p (as_era (get_or es i d)) (get_or es i d).granule ≡ false
    → are_next p (drop i es) ≡ all → false ≡ all
eras_stop p es i d all lt h so_far =
    let one : are_next p (drop i es) ≡ are_next p (get_or es i d ∷ drop (i + 1) es) = at_drop_more (are_next p) es i d lt in
    sym (one ∙ next_stop p (get_or es i d) (drop (i + 1) es) h) ∙ so_far

pub eras_end : (p : Policy) (es : List Era) (i : ℕ) (all : Bool) → length es ≤ i → are_next p (drop i es) ≡ all → true ≡ all
unfolding are_next
eras_end p es i all le so_far = sym (at_drop_all (are_next p) es i le) ∙ so_far

-- ---- a list of entries

ascend_step : (from : ℕ) (e : Entry) (es : List Entry) → from ≤ e.granule → ascend from (e ∷ es) ≡ ascend (e.granule + 1) es
unfolding ascend
ascend_step from e es le =
    let one : suc e.granule ≡ e.granule + 1 = omega arith in
    ap (λ (b : Bool). b && ascend (suc e.granule) es) (le-leb from e.granule le) ∙ ap (λ (n : ℕ). ascend n es) one

ascend_stop : (from : ℕ) (e : Entry) (es : List Entry) → e.granule < from → ascend from (e ∷ es) ≡ false
unfolding ascend
ascend_stop from e es lt = ap (λ (b : Bool). b && ascend (suc e.granule) es) (lt-leb from e.granule lt)

pub entries_go_on : (from : ℕ) (es : List Entry) (i : ℕ) (e : Entry) (n : ℕ) (all : Bool) → i < length es → e ≡ get_or es i e → from ≤ e.granule → n ≡ e.granule
    → ascend from (drop i es) ≡ all → ascend (n + 1) (drop (i + 1) es) ≡ all
entries_go_on from es i e n all lt is le n_is so_far =
    let one : ascend from (drop i es) ≡ ascend from (get_or es i e ∷ drop (i + 1) es) = at_drop_more (ascend from) es i e lt in
    let same : ascend from (get_or es i e ∷ drop (i + 1) es) ≡ ascend from (e ∷ drop (i + 1) es) = ap (λ (x : Entry). ascend from (x ∷ drop (i + 1) es)) (sym is) in
    ap (λ (m : ℕ). ascend (m + 1) (drop (i + 1) es)) n_is ∙ sym (one ∙ same ∙ ascend_step from e (drop (i + 1) es) le) ∙ so_far

pub entries_stop : (from : ℕ) (es : List Entry) (i : ℕ) (e : Entry) (all : Bool) → i < length es → e ≡ get_or es i e → e.granule < from
    → ascend from (drop i es) ≡ all → false ≡ all
entries_stop from es i e all lt is low so_far =
    let one : ascend from (drop i es) ≡ ascend from (get_or es i e ∷ drop (i + 1) es) = at_drop_more (ascend from) es i e lt in
    let same : ascend from (get_or es i e ∷ drop (i + 1) es) ≡ ascend from (e ∷ drop (i + 1) es) = ap (λ (x : Entry). ascend from (x ∷ drop (i + 1) es)) (sym is) in
    sym (one ∙ same ∙ ascend_stop from e (drop (i + 1) es) low) ∙ so_far

pub entries_end : (from : ℕ) (es : List Entry) (i : ℕ) (all : Bool) → length es ≤ i → ascend from (drop i es) ≡ all → true ≡ all
unfolding ascend
entries_end from es i all le so_far = sym (at_drop_all (ascend from) es i le) ∙ so_far
