-- Spans around blocks, and what they leave out.
use Rattle.std.proofs.Common.{◌≡◌, ℕ, suc, ◌+◌, ◌-◌, ◌<◌, ◌≤◌, nat_lt, Bool, true, false, ◌&&◌, cond, List, [], ◌∷◌, ◌++◌, length, get_or, map, refl, sym, ap, subst, ◌∙◌, arith, length-append}
use Rattle.std.proofs.Math.ListN.{get_or-append}
use Rattle.std.proofs.Math.Seq.{get_or-append_seam}
use Rattle.std.specs.BTreeMap.{is_at}
use Rattle.std.proofs.lemmas.Bool.Decides.{nat_tests}
use Rattle.std.proofs.lemmas.List.{get_or_default}
use Rattle.sequenced_query.specs.declared.blocks.Entry.{Entry}
use Rattle.sequenced_query.specs.declared.meeting.Meeting.{Meeting}
use Rattle.sequenced_query.specs.declared.span.Span.{Span}
use Rattle.sequenced_query.specs.declared.spots.Spot.{Spot}
use Rattle.sequenced_query.specs.Blocks.{AreBlocks, IsInside, around, block_start, meets}
use Rattle.sequenced_query.specs.Wanted.{has, meeting_cmp, HasMeetings, IsKept, WantsBetween, WantsSpot}

pub inside_first : (p a b : Span) → IsInside p a → IsInside p (around a b)
inside_first p a b h = (omega (arith, h.0), omega (arith, h.1))

inside_second : (p a b : Span) → IsInside p b → IsInside p (around a b)
inside_second p a b h = (omega (arith, h.0), omega (arith, h.1))

-- what is inside a span that doesn't meet another doesn't meet it
outside : (p block part : Span) → IsInside p block → meets block part ≡ false → meets p part ≡ true → ⊥
outside p block part h apart meet = by (nat_lt p.from part.to) refl (nat_lt part.from p.to) refl meet
  where
    by : (a : Bool) → nat_lt p.from part.to ≡ a → (b : Bool) → nat_lt part.from p.to ≡ b → (a && b) ≡ true → ⊥
    by false ea b eb e = cc
    by true ea false eb e = cc
    by true ea true eb e =
        let first : nat_lt block.from part.to ≡ true = grind (arith, nat_tests, ea, h.0) in
        let second : nat_lt part.from block.to ≡ true = grind (arith, nat_tests, eb, h.1) in
        let all : meets block part ≡ true = ap (λ x. x && nat_lt part.from block.to) first ∙ second in
        cc

module _ (es : List Entry) (are : AreBlocks es) where
  -- the entries of the block that the last of `count` closes are inside its span
  in_block : (count : ℕ) (e : Entry) → 0 < count → count ≤ length es → (j : ℕ) (d : Entry) → block_start count ≤ j → j < count → IsInside (get_or es j d).spot.part (get_or es (count - 1) e).block
  in_block count e some within j d low high =
      let last : count - 1 + 1 ≡ count = omega (arith, some) in
      let there : count - 1 < length es = omega (arith, some, within) in
      let same : get_or es (count - 1) d ≡ get_or es (count - 1) e = get_or_default es (count - 1) d e there in
      subst (λ (x : Entry). IsInside (get_or es j d).spot.part x.block) same (are (count - 1) j d there (subst (λ n. block_start n ≤ j) (sym last) low) (omega (arith, high)))

  -- a span that is drawn around one more block
  pub around_more : (count : ℕ) (block : Span) (e : Entry) → 0 < count → count ≤ length es
      → ((j : ℕ) (d : Entry) → count ≤ j → j < length es → IsInside (get_or es j d).spot.part block)
      → (j : ℕ) (d : Entry) → block_start count ≤ j → j < length es → IsInside (get_or es j d).spot.part (around block (get_or es (count - 1) e).block)
  around_more count block e some within others j d low high = by (nat_lt j count) refl
    where
      by : (b : Bool) → nat_lt j count ≡ b → IsInside (get_or es j d).spot.part (around block (get_or es (count - 1) e).block)
      by true lt = inside_second (get_or es j d).spot.part block (get_or es (count - 1) e).block (in_block count e some within j d low (grind (arith, nat_tests, lt)))
      by false lt = inside_first (get_or es j d).spot.part block (get_or es (count - 1) e).block (others j d (grind (arith, nat_tests, lt)) high)

  -- a block whose span doesn't meet a part has nothing that is wanted
  pub left_out : (count : ℕ) (e : Entry) → 0 < count → count ≤ length es → (left : ℕ) (part : Span) (wanted : List Meeting) → meets (get_or es (count - 1) e).block part ≡ false
      → WantsBetween left part wanted es (block_start count) count
  left_out count e some within left part wanted apart j d low high meet =
      absurd (outside (get_or es j d).spot.part (get_or es (count - 1) e).block part (in_block count e some within j d low high) apart meet)

  -- one more entry, with a span around its block
  pub one_more : (e : Entry) → IsInside e.spot.part e.block → ((j : ℕ) (d : Entry) → block_start (length es + 1) ≤ j → j < length es → IsInside (get_or es j d).spot.part e.block) → AreBlocks (es ++ e ∷ [])
  one_more e own others k j d lt low le = by (nat_lt k (length es)) refl
    where
      total : length (es ++ e ∷ []) ≡ length es + 1
      total = length-append es (e ∷ [])

      by : (b : Bool) → nat_lt k (length es) ≡ b → IsInside (get_or (es ++ e ∷ []) j d).spot.part (get_or (es ++ e ∷ []) k d).block
      by true in_old =
          let old : k < length es = grind (arith, nat_tests, in_old) in
          let at_k : get_or (es ++ e ∷ []) k d ≡ get_or es k d = get_or-append es (e ∷ []) d k old in
          let at_j : get_or (es ++ e ∷ []) j d ≡ get_or es j d = get_or-append es (e ∷ []) d j (omega (arith, old, le)) in
          subst (λ (x : Entry). IsInside x.spot.part (get_or (es ++ e ∷ []) k d).block) (sym at_j) (subst (λ (x : Entry). IsInside (get_or es j d).spot.part x.block) (sym at_k) (are k j d old low le))
      by false in_old =
          let last : k ≡ length es = grind (arith, nat_tests, in_old, lt, total) in
          let at_k : get_or (es ++ e ∷ []) k d ≡ e = ap (λ n. get_or (es ++ e ∷ []) n d) last ∙ get_or-append_seam es e [] d in
          subst (λ (x : Entry). IsInside (get_or (es ++ e ∷ []) j d).spot.part x.block) (sym at_k) (at_last (nat_lt j (length es)) refl)
        where
          at_last : (b : Bool) → nat_lt j (length es) ≡ b → IsInside (get_or (es ++ e ∷ []) j d).spot.part e.block
          at_last true before =
              let old : j < length es = grind (arith, nat_tests, before) in
              let at_j : get_or (es ++ e ∷ []) j d ≡ get_or es j d = get_or-append es (e ∷ []) d j old in
              let at_end : k ≡ length es = grind (arith, nat_tests, in_old, lt, total) in
              subst (λ (x : Entry). IsInside x.spot.part e.block) (sym at_j) (others j d (subst (λ n. block_start (n + 1) ≤ j) at_end low) old)
          at_last false before =
              let at_end : j ≡ length es = grind (arith, nat_tests, before, in_old, lt, total, le) in
              let at_j : get_or (es ++ e ∷ []) j d ≡ e = ap (λ n. get_or (es ++ e ∷ []) n d) at_end ∙ get_or-append_seam es e [] d in
              subst (λ (x : Entry). IsInside x.spot.part e.block) (sym at_j) own

-- ---- what is wanted

-- one more meeting is
pub insert_stays : (old new : List Meeting) (p : Meeting) → ((q : Meeting) → has q new ≡ cond (is_at (meeting_cmp p) q) true (has q old)) → IsKept old new
insert_stays old new p updates m e = updates m ∙ ap (cond (is_at (meeting_cmp p) m) true) e ∙ either (is_at (meeting_cmp p) m)
  where
    either : (b : Bool) → cond b true true ≡ true
    either true = refl
    either false = refl

wants_later : (left : ℕ) (part : Span) (old new : List Meeting) → IsKept old new → (s : Spot) → WantsSpot left part old s → WantsSpot left part new s
wants_later left part old new stays s h meet = stays (record { key = s.key; left = left; right = s.version }) (h meet)

-- two runs of entries, one behind the other
pub wants_both : (left : ℕ) (part : Span) (old new : List Meeting) → IsKept old new → (es : List Entry) (first mid last : ℕ) → WantsBetween left part new es first mid → WantsBetween left part old es mid last → WantsBetween left part new es first last
wants_both left part old new stays es first mid last low high j d from to = by (nat_lt j mid) refl
  where
    by : (b : Bool) → nat_lt j mid ≡ b → WantsSpot left part new (get_or es j d).spot
    by true lt = low j d from (grind (arith, nat_tests, lt))
    by false lt = wants_later left part old new stays (get_or es j d).spot (high j d (grind (arith, nat_tests, lt)) to)

-- all entries
pub wants_each : (left : ℕ) (part : Span) (wanted : List Meeting) (es : List Entry) → WantsBetween left part wanted es 0 (length es) → HasMeetings left part wanted (map (λ e. e.spot) es)
wants_each left part wanted [] h = tt
wants_each left part wanted (e ∷ es) h = (h 0 e (omega arith) (omega arith), wants_each left part wanted es (λ j d low high. h (suc j) d (omega arith) (omega (arith, high))))
