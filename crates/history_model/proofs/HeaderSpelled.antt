-- A header is found exactly where the bytes begin with its head.
use Rattle.std.proofs.Common.{◌≡◌, ◌⊎◌, inl, inr, ℕ, ◌<◌, Bool, true, false, cond, List, length, get_or, set, take, Some, refl, sym, ap, subst, ◌∙◌, arith}
use Rattle.std.proofs.lemmas.Bool.{cases_eq, cases_lt, eqb-true}
use Rattle.std.proofs.lemmas.List.{get_or_past, length-set, get_or-set_same, get_or-set_other, set-set, set-get_or}
use Rattle.byte_grammar.proofs.Fields.{IsBytes-take}
use Rattle.byte_grammar.specs.Reading.{IsBytes}
use Rattle.tuple_bytes.specs.declared.header.Header.{Header}
use Rattle.tuple_bytes.specs.Spelling.{spell_header}
use Rattle.tuple_bytes.proofs.HeaderLaws.{header_takes, header_again}
use Rattle.history_model.specs.Heads.{is_segmented, as_first, spell_head, any_header, BeginsWithHead}
use Rattle.history_model.specs.Stored.{front_header, HeaderIsSpelled}
use Rattle.history_model.proofs.Fronts.{long_header, long_is}
use Rattle.history_model.proofs.SegmentHeads.{head_again}

first_bytes : (b : Bool) (head : List ℕ) → IsBytes head → IsBytes (cond b (set head 8 0x31) head)
first_bytes false head all i = all i
first_bytes true head all i = elim (cases_eq i 8) [
  | inl is ↦ elim (cases_lt i (length head)) [
    | inl room ↦ subst (λ (b : ℕ). b < 256) (sym (ap (λ (k : ℕ). get_or (set head k 0x31) i 0) (sym is) ∙ get_or-set_same head i 0x31 0 room)) (omega arith)
    | inr past ↦ subst (λ (b : ℕ). b < 256) (sym (get_or_past (set head 8 0x31) i 0 (let size = length-set head 8 0x31 in omega (arith, size, past)))) (omega arith)
  ]
  | inr other ↦ subst (λ (b : ℕ). b < 256) (sym (get_or-set_other head 8 i 0x31 0 other)) (all i)
]

module _ (x : List ℕ) (h : Header) (bytes : IsBytes x) where
  abbrev head : List ℕ
  head = take 64 x

  pub from_found : front_header x ≡ Some h → BeginsWithHead x h
  from_found e =
      let long = long_is x h e in
      let spelled = header_takes (as_first head) h (first_bytes (is_segmented head) head (IsBytes-take 64 x bytes)) (sym (long_header x long) ∙ e) in
      record { long = long; fits = spelled.0; head = by (is_segmented head) refl spelled.1 }
    where
      by : (b : Bool) → is_segmented head ≡ b → cond b (set head 8 0x31) head ≡ spell_header h → (head ≡ spell_header h) ⊎ (head ≡ spell_head h)
      by false is same = inl same
      by true is same = inr (sym (
          ap (λ (l : List ℕ). set l 8 0x32) (sym same) ∙ set-set head 8 0x31 0x32
          ∙ ap (set head 8) (sym (eqb-true (get_or head 8 0) 0x32 is)) ∙ set-get_or head 8 0))

  pub from_head : BeginsWithHead x h → front_header x ≡ Some h
  from_head b = long_header x b.long ∙ by b.head
    where
      by : (head ≡ spell_header h) ⊎ (head ≡ spell_head h) → any_header head ≡ Some h
      by (inl one) = ap any_header one ∙ header_again (spell_header h) h (b.fits, refl)
      by (inr two) = ap any_header two ∙ head_again h b.fits

pub header_is_spelled : HeaderIsSpelled
header_is_spelled x h bytes = (from_found x h bytes, from_head x h bytes)
