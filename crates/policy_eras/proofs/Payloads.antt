-- What a payload does to eras: those of policies alone count.
use Rattle.std.proofs.Common.{◌≡◌, ◌≢◌, ℕ, zero, suc, nat_lt, Bool, true, false, cond, List, [], ◌∷◌, length, map, fold, Option, Some, None, refl, ap, ◌∙◌, arith}
use Rattle.std.specs.Prelude.{◌==◌}
use Rattle.std.specs.List.{All}
use Rattle.std.proofs.lemmas.Bool.Decides.{nat_tests}
use Rattle.std.specs.Int.{w32, w64}
use Rattle.std.proofs.lemmas.List.Elements.{All-head, All-tail}
use Rattle.byte_grammar.specs.Reading.{byte, number, seq, mapped, tagged, whole, ◌>>=◌}
use Rattle.tuple_bytes.specs.declared.item.Item.{Item}
use Rattle.tuple_bytes.specs.declared.item.Item.TheVariants as items
use Rattle.tuple_bytes.specs.Items.{ops_at, txn_of, item_by, item_at, item_of}
use Rattle.tuple_bytes.specs.Spelling.{spell_item, FitsItem, Spells}
use Rattle.tuple_bytes.proofs.ItemLaws.{whole_again}
use Rattle.digest_model.specs.Layout.{Policy, with_item}
use Rattle.policy_eras.specs.Policy.{with_found, with_payload}

-- the item, where nothing stands behind it
abbrev pub whole_item : Option (Item × List ℕ) → Option Item
whole_item o = o >>= λ a. cond (nat_lt 0 (length a.1)) None (Some a.0)

-- the bytes of a tag and what stands behind it
pub tag_is : (bytes : List ℕ) (tag : ℕ) (rest : List ℕ) → byte bytes ≡ Some (tag, rest) → bytes ≡ tag ∷ rest
tag_is [] tag rest e = absurd cc
tag_is (b ∷ bytes) tag rest e = (let same : (b, bytes) ≡ (tag, rest) = cc in ap (λ (x : ℕ × List ℕ). x.0 ∷ x.1) same)

pub no_tag : (bytes : List ℕ) → byte bytes ≡ None → bytes ≡ []
no_tag [] e = refl
no_tag (b ∷ bytes) e = absurd cc

pub item_is : (tag : ℕ) (rest : List ℕ) → item_of (tag ∷ rest) ≡ whole_item (item_by tag rest)
unfolding item_of item_at whole tagged
item_is tag rest = refl

pub none_is : item_of [] ≡ None
unfolding item_of item_at whole tagged
none_is = refl

-- another item begins no era
keeps : {A : Type 0} (f : A → Item) (p : Policy) → ((a : A) → with_item p (f a) ≡ p) → (o : Option (A × List ℕ))
    → with_found p (whole_item (o >>= λ a. Some (f a.0, a.1))) ≡ p
keeps f p same None = refl
keeps f p same (Some (a, rest)) = by (nat_lt 0 (length rest))
  where
    by : (b : Bool) → with_found p (cond b None (Some (f a))) ≡ p
    by true = refl
    by false = same a

other_by : (p : Policy) (tag : ℕ) (rest : List ℕ) → tag ≢ 3 → with_found p (whole_item (item_by tag rest)) ≡ p
unfolding item_by mapped
other_by p zero rest other = refl
other_by p (suc zero) rest other = keeps txn_of p (λ a. refl) (seq (number w32) (seq (number w64) ops_at) rest)
other_by p (suc (suc zero)) rest other = keeps items.Frontier p (λ a. refl) (number w64 rest)
other_by p (suc (suc (suc zero))) rest other = absurd (other refl)
other_by p (suc (suc (suc (suc n)))) rest other = refl

pub other_tag : (p : Policy) (tag : ℕ) (rest : List ℕ) → tag ≢ 3 → with_payload p (tag ∷ rest) ≡ p
other_tag p tag rest other = ap (with_found p) (item_is tag rest) ∙ other_by p tag rest other

-- what an item's spelling does, the item does
pub spelled_is : (p : Policy) (item : Item) (payload : List ℕ) → Spells item payload → with_payload p payload ≡ with_item p item
spelled_is p item payload is = ap (with_found p) (whole_again payload item is)

pub spellings_are : (p : Policy) (is : List Item) → All FitsItem is → fold with_payload p (map spell_item is) ≡ fold with_item p is
spellings_are p [] fit = refl
spellings_are p (item ∷ is) fit =
    ap (λ (q : Policy). fold with_payload q (map spell_item is)) (spelled_is p item (spell_item item) (All-head FitsItem item is fit, refl))
    ∙ spellings_are (with_item p item) is (All-tail FitsItem item is fit)

-- ---- a payload with the tag of a policy

pub none_behind : (p : Policy) (tag : ℕ) (rest : List ℕ) → item_by tag rest ≡ None → with_payload p (tag ∷ rest) ≡ p
none_behind p tag rest e = ap (with_found p) (item_is tag rest ∙ ap whole_item e)

pub more_behind : (p : Policy) (tag : ℕ) (rest : List ℕ) (item : Item) (more : List ℕ) → item_by tag rest ≡ Some (item, more) → false ≡ (length more == 0) → with_payload p (tag ∷ rest) ≡ p
more_behind p tag rest item more e some =
    let test : nat_lt 0 (length more) ≡ true = grind (arith, nat_tests, some) in
    ap (with_found p) (item_is tag rest ∙ ap whole_item e ∙ ap (λ (b : Bool). cond b None (Some item)) test)

pub nothing_behind : (tag : ℕ) (rest : List ℕ) (item : Item) (more : List ℕ) → item_by tag rest ≡ Some (item, more) → true ≡ (length more == 0) → item_of (tag ∷ rest) ≡ Some item
nothing_behind tag rest item more e none =
    let test : nat_lt 0 (length more) ≡ false = grind (arith, nat_tests, none) in
    item_is tag rest ∙ ap whole_item e ∙ ap (λ (b : Bool). cond b None (Some item)) test
