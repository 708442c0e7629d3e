-- The front of a file, and what is stored behind it: one lemma for each way in which `stored` is looked through.
use Rattle.std.proofs.Common.{◌≡◌, ◌≢◌, ℕ, ◌<◌, ◌≤◌, Bool, true, false, cond, eqb, ltb, List, [], length, get_or, set, take, drop, Option, Some, None, refl, sym, ap, ◌∙◌, arith}
use Rattle.std.specs.Prelude.{slice_index}
use Rattle.std.specs.Option.{option_map}
use Rattle.std.proofs.lemmas.Bool.{lt-ltb, le-ltb}
use Rattle.std.proofs.lemmas.List.{take-take, get_or-take, get_or-set_other}
use Rattle.std.proofs.lemmas.Option.{same_Some, none-some}
use borrow.Author.Tests.{ltb-true}
use Rattle.byte_grammar.specs.Gated.{open_gate, records}
use Rattle.tuple_bytes.specs.declared.header.Header.{Header}
use Rattle.tuple_bytes.specs.HeaderBytes.{header_of}
use Rattle.history_model.specs.declared.format.Format.{Format}
use Rattle.history_model.specs.declared.format.Format.TheVariants.{One, Two}
use Rattle.history_model.specs.Heads.{is_segmented, as_first, any_header, format_by}
use Rattle.history_model.specs.Segments.{found_in_all}
use Rattle.history_model.specs.Stored.{store_shape, front_header, format_of, found_behind, items_of, stored_under, stored}
use Rattle.history_model.proofs.Gates.{gate_first, letter_first}

-- ---- a header

abbrev head_by : Bool → List ℕ → Option Header
head_by long bytes = cond long (any_header (take 64 bytes)) None

pub short_header : (bytes : List ℕ) → length bytes ≤ 64 → front_header bytes ≡ None
short_header bytes short = ap (λ (b : Bool). head_by b bytes) (le-ltb 64 (length bytes) short)

pub long_header : (bytes : List ℕ) → 64 < length bytes → front_header bytes ≡ any_header (take 64 bytes)
long_header bytes long = ap (λ (b : Bool). head_by b bytes) (lt-ltb 64 (length bytes) long)

pub long_is : (x : List ℕ) (h : Header) → front_header x ≡ Some h → 64 < length x
long_is x h e = by (ltb 64 (length x)) refl
  where
    by : (b : Bool) → ltb 64 (length x) ≡ b → 64 < length x
    by true is = ltb-true 64 (length x) is
    by false is = absurd (none-some h (sym (ap (λ (b : Bool). head_by b x) is) ∙ e))

-- a head begins with an open gate, in either format
pub any_opens : (head : List ℕ) (h : Header) → any_header head ≡ Some h → slice_index head 0 ≡ open_gate
any_opens head h e = sym (same_gate (is_segmented head)) ∙ gate_first (as_first head) h e
  where
    same_gate : (b : Bool) → get_or (cond b (set head 8 0x31) head) 0 0 ≡ get_or head 0 0
    same_gate true = let other : 0 ≢ 8 = omega arith in get_or-set_other head 8 0 0x31 0 other
    same_gate false = refl

-- so does a file with a header
pub front_opens : (x : List ℕ) (h : Header) → front_header x ≡ Some h → slice_index x 0 ≡ open_gate
front_opens x h e = sym (get_or-take 64 x 0 0 (omega arith)) ∙ any_opens (take 64 x) h (sym (long_header x (long_is x h e)) ∙ e)

-- and what doesn't has none
pub no_front : (x : List ℕ) → slice_index x 0 ≢ open_gate → front_header x ≡ None
no_front x shut = by (front_header x) refl
  where
    by : (o : Option Header) → front_header x ≡ o → front_header x ≡ None
    by None e = e
    by (Some h) e = absurd (shut (front_opens x h e))

-- ---- bytes with the same front

pub same_header : (end : ℕ) (x c : List ℕ) → 64 ≤ end → 64 < length x → 64 < length c → take end c ≡ take end x → front_header c ≡ front_header x
same_header end x c behind long_x long_c same =
    long_header c long_c ∙ ap any_header (sym (take-take 64 end c behind) ∙ ap (take 64) same ∙ take-take 64 end x behind) ∙ sym (long_header x long_x)

pub same_letter : (end : ℕ) (x c : List ℕ) → 64 ≤ end → take end c ≡ take end x → is_segmented c ≡ is_segmented x
same_letter end x c behind same =
    ap (λ (b : ℕ). eqb b 0x32) (sym (get_or-take end c 8 0 (omega (arith, behind))) ∙ ap (λ (l : List ℕ). get_or l 8 0) same ∙ get_or-take end x 8 0 (omega (arith, behind)))

abbrev pub format_under : Bool → Option Header → Option Format
format_under segmented header = option_map (λ _. format_by segmented) header

pub same_format : (x c : List ℕ) → front_header c ≡ front_header x → is_segmented c ≡ is_segmented x → format_of c ≡ format_of x
same_format x c header letter = ap (λ (b : Bool). format_under b (front_header c)) letter ∙ ap (format_under (is_segmented x)) header

-- ---- the format

-- a file of the format that is told
pub format_is : (segmented : Bool) (header : Option Header) (format : Format) → option_map (λ _. format_by segmented) header ≡ Some format → format_by segmented ≡ format
format_is segmented (Some h) format e = same_Some _ _ e
format_is segmented None format e = absurd (none-some _ e)

pub segmented_is : (b : Bool) → format_by b ≡ Two → b ≡ true
segmented_is true e = refl
segmented_is false e = absurd (cc e)

pub one_run_is : (b : Bool) → format_by b ≡ One → b ≡ false
one_run_is false e = refl
one_run_is true e = absurd (cc e)

pub some_header : (o : Option Header) (b : Bool) (format : Format) → option_map (λ _. format_by b) o ≡ Some format → (h : Header) × (o ≡ Some h)
some_header (Some h) b format e = (h, refl)
some_header None b format e = absurd (none-some format e)

-- a head of the first format doesn't have the letter of the second one
pub first_is_one : (head : List ℕ) (h : Header) → header_of head ≡ Some h → is_segmented head ≡ false
first_is_one head h e = ap (λ (b : ℕ). eqb b 0x32) (letter_first head h e)

-- ---- what is stored

-- behind a header
pub under_some : (x : List ℕ) (h : Header) → front_header x ≡ Some h → stored x ≡ record { header = Some h; items = items_of (found_behind x).0; end = (found_behind x).1 }
under_some x h e = ap (λ (o : Option Header). stored_under o (found_behind x)) e

-- without one
pub under_none : (x : List ℕ) → front_header x ≡ None → stored x ≡ record { header = None; items = []; end = 0 }
under_none x e = ap (λ (o : Option Header). stored_under o (found_behind x)) e

pub header_under : (o : Option Header) (found : List (List ℕ) × ℕ) → (stored_under o found).header ≡ o
header_under (Some h) found = refl
header_under None found = refl

pub header_stored : (x : List ℕ) → (stored x).header ≡ front_header x
header_stored x = header_under (front_header x) (found_behind x)

-- in one run
pub found_one : (x : List ℕ) → is_segmented x ≡ false → found_behind x ≡ records store_shape 64 0 (drop 64 x)
found_one x one = ap (λ (b : Bool). cond b (found_in_all store_shape x) (records store_shape 64 0 (drop 64 x))) one

-- in segments
pub found_two : (x : List ℕ) → is_segmented x ≡ true → found_behind x ≡ found_in_all store_shape x
found_two x two = ap (λ (b : Bool). cond b (found_in_all store_shape x) (records store_shape 64 0 (drop 64 x))) two

-- a file in one run has the header that its head spells in the first format
pub one_header : (x : List ℕ) → is_segmented x ≡ false → front_header x ≡ cond (ltb 64 (length x)) (header_of (take 64 x)) None
one_header x one = ap (λ (b : Bool). cond (ltb 64 (length x)) (header_of (cond b (set (take 64 x) 8 0x31) (take 64 x))) None) letter
  where
    letter : is_segmented (take 64 x) ≡ false
    letter = ap (λ (b : ℕ). eqb b 0x32) (get_or-take 64 x 8 0 (omega arith)) ∙ one
