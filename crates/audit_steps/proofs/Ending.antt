-- What the last piece answers, by an audit at its end.
use Rattle.std.proofs.Common.{◌≡◌, ◌⊎◌, inl, inr, ℕ, ◌+◌, ◌≤◌, true, false, List, length, Option, Some, None, IfOk, IfSome, Result, Ok, Err, refl, sym, ap, subst, ◌∙◌, arith}
use Rattle.std.proofs.lemmas.Bool.{false≢true}
use Rattle.outside_words.specs.Told.{WhereTold}
use Rattle.outside_words.proofs.Told.{told_map}
use Rattle.tuple_bytes.specs.declared.header.Header.{Header}
use Rattle.tuple_bytes.specs.declared.item.Item.{Item}
use Rattle.history_model.specs.declared.stored.Stored.{Stored}
use Rattle.history_model.specs.History.{History, history, txns}
use Rattle.history_model.specs.Stored.{stored}
use Rattle.notary_link.specs.declared.notary.NotaryLimits.{NotaryLimits}
use Rattle.notary_link.specs.Notary.{Lists, Entry}
use Rattle.audit_model.specs.Altered.{history_with}
use Rattle.digest_model.specs.Layout.{Layout, sealed_eras}
use Rattle.digest_model.proofs.EraLaws.{same_layout}
use Rattle.chain_state.specs.Chained.{Chained, IsChainOf, history_of, are_chained}
use Rattle.validator.specs.declared.verdict.Verdict.{Verdict}
use Rattle.validator.specs.declared.fail.AuditFail.{AuditFail}
use Rattle.validator.specs.Verdicts.{Validates, sealed_of, sealed_in, sealed_on, questions}
use Rattle.validator.proofs.Validated.{has_history}
use Rattle.validator.proofs.Questions.{asked_fewer}
use Rattle.audit_steps.specs.declared.auditing.Auditing.{Auditing}
use Rattle.audit_steps.specs.declared.next.Next.TheVariants as nexts
use Rattle.audit_steps.specs.Auditing.{AreTakenOrNone, GranulesRise, IsAuditOf}
use Rattle.audit_steps.specs.Pieces.{HasMore}
use Rattle.audit_steps.specs.Steps.{HasReadAll, IsAtEnd, NextIs}
use Rattle.audit_steps.proofs.Nexts.{some_history}

-- ---- by what is at hand

module _ (id now tiles : ℕ) (limits : NotaryLimits) (was is : Option (List Entry)) (o z : Option Lists) (r : Result Verdict AuditFail) (audit : Option Auditing) where
  abbrev Concludes : List ℕ → Type 0
  Concludes bytes = IsAtEnd id bytes audit → WhereTold o z (λ lists later. length (lists.batches id) ≡ tiles + 1 → Validates id now limits (stored bytes) r was is lists later)

  -- the chains of all items
  pub by_chains : (a : Auditing) (c : Chained) (reads : Option (List ℕ)) → audit ≡ Some a → a.chains ≡ Some c
      → WhereTold o z (λ lists later. (s : Stored) (h : History) → history_with id s ≡ Some h → IsChainOf c h → length (lists.batches id) ≡ tiles + 1 → Validates id now limits s r was is lists later)
      → IfSome reads Concludes
  by_chains a c None some are told = tt
  by_chains a c (Some bytes) some are told = λ at_end.
      let all : HasReadAll id bytes a = subst (IsAtEnd id bytes) some at_end in
      let h = history a.header (stored bytes).items in
      let chain : IsChainOf c h = (subst (AreTakenOrNone a.header (stored bytes).items) are all.chains).chain in
      told_map o z _ _ told (λ lists later next count. next (stored bytes) h (has_history id (stored bytes) a.header all.header all.id_is) chain count)

  -- few questions are asked by these
  pub few_by_chains : (a : Auditing) (c : Chained) (reads : Option (List ℕ)) (old new : ℕ) → audit ≡ Some a → a.chains ≡ Some c → IfOk r (λ v. new ≤ old + questions (sealed_of (history_of c)) v)
      → IfSome reads (λ bytes. IsAtEnd id bytes audit → IfOk r (λ v. new ≤ old + questions (sealed_in (history_with id (stored bytes))) v))
  few_by_chains a c None old new some are few = tt
  few_by_chains a c (Some bytes) old new some are few = λ at_end.
      (let all : HasReadAll id bytes a = subst (IsAtEnd id bytes) some at_end in
      let h = history a.header (stored bytes).items in
      let chain : IsChainOf c h = (subst (AreTakenOrNone a.header (stored bytes).items) are all.chains).chain in
      let has = has_history id (stored bytes) a.header all.header all.id_is in
      asked_fewer r old new (sealed_of (history_of c)) (sealed_in (history_with id (stored bytes)))
      (λ n. (let eras = ap (λ (l : Layout). length (sealed_eras l n)) (same_layout (history_of c) h chain.eras) in let same = ap (λ (o : Option History). sealed_in o n) has in omega (arith, eras, same))) few)

  -- no history
  pub by_nowhere : (reads : Option (List ℕ)) → audit ≡ None
      → WhereTold o z (λ lists later. (s : Stored) → history_with id s ≡ None → length (lists.batches id) ≡ tiles + 1 → Validates id now limits s r was is lists later)
      → IfSome reads Concludes
  by_nowhere None none told = tt
  by_nowhere (Some bytes) none told = λ at_end. told_map o z _ _ told (λ lists later next count. next (stored bytes) (subst (IsAtEnd id bytes) none at_end) count)

-- few questions are asked by what is read
pub few_by_reads : {E : Type 0} (P : List ℕ → Type 0) (id : ℕ) (r : Result Verdict E) (reads : Option (List ℕ)) (old new : ℕ) → IfOk r (λ v. new ≤ old + questions (sealed_on id reads) v)
    → IfSome reads (λ bytes. P bytes → IfOk r (λ v. new ≤ old + questions (sealed_in (history_with id (stored bytes))) v))
few_by_reads P id r None old new few = tt
few_by_reads P id r (Some bytes) old new few = λ p. few

-- none are asked
pub none_asked : {E : Type 0} (r : Result Verdict E) (old new : ℕ) (f : ℕ → ℕ) → new ≡ old → IfOk r (λ v. new ≤ old + questions f v)
none_asked (Ok v) old new f same = omega (arith, same)
none_asked (Err e) old new f same = tt

-- none were asked before
pub asked_behind : {E : Type 0} (r : Result Verdict E) (old mid new : ℕ) (f : ℕ → ℕ) → mid ≡ old → IfOk r (λ v. new ≤ mid + questions f v) → IfOk r (λ v. new ≤ old + questions f v)
asked_behind r old mid new f same few = subst (λ (n : ℕ). IfOk r (λ v. new ≤ n + questions f v)) same few

pub few_none_asked : {E : Type 0} (P : List ℕ → Type 0) (id : ℕ) (r : Result Verdict E) (reads : Option (List ℕ)) (old new : ℕ) → new ≡ old
    → IfSome reads (λ bytes. P bytes → IfOk r (λ v. new ≤ old + questions (sealed_in (history_with id (stored bytes))) v))
few_none_asked P id r None old new same = tt
few_none_asked P id r (Some bytes) old new same = λ p. none_asked r old new (sealed_in (history_with id (stored bytes))) same

-- where there are no chains, granules don't rise
fell : (o : Option Header) (items : List Item) (header : Header) → o ≡ Some header → are_chained (history header items) ≡ false → IfSome o (λ h. are_chained (history h items) ≡ true) → ⊥
fell (Some h) items header is fall rise = false≢true (sym fall ∙ ap (λ (x : Header). are_chained (history x items)) (sym (one h header is)) ∙ rise)
  where
    one : (h header : Header) → Some h ≡ Some header → h ≡ header
    one h header is = cc is
fell None items header is fall rise = cc is

none_rise : (id : ℕ) (audit : Option Auditing) (a : Auditing) (bytes : List ℕ) → audit ≡ Some a → a.chains ≡ None → IsAtEnd id bytes audit → GranulesRise bytes → ⊥
none_rise id audit a bytes some none at_end rise =
    let all : HasReadAll id bytes a = subst (IsAtEnd id bytes) some at_end in
    fell (stored bytes).header (stored bytes).items a.header all.header (subst (AreTakenOrNone a.header (stored bytes).items) none all.chains) rise

pub told_fell : (P : Type 0) (id : ℕ) (audit : Option Auditing) (a : Auditing) (reads : Option (List ℕ)) → audit ≡ Some a → a.chains ≡ None → IfSome reads (λ bytes. IsAtEnd id bytes audit → GranulesRise bytes → P)
told_fell P id audit a None some none = tt
told_fell P id audit a (Some bytes) some none = λ at_end rise. absurd (none_rise id audit a bytes some none at_end rise)

-- ---- behind the last piece

module _ (id : ℕ) (w b : Option Auditing) where
  abbrev Ends : List ℕ → Type 0
  Ends bytes = IsAuditOf id w bytes → NextIs id bytes w (nexts.Last b)

  pub at_end : (Q : List ℕ → Type 0) (reads near : Option (List ℕ)) → near ≡ reads → IfSome reads Ends → IfSome near (λ bytes. IsAtEnd id bytes b → Q bytes) → IfSome reads (λ bytes. IsAuditOf id w bytes → Q bytes)
  at_end Q reads near same ends told = by reads ends (subst (λ (o : Option (List ℕ)). IfSome o (λ bytes. IsAtEnd id bytes b → Q bytes)) same told)
    where
      by : (reads : Option (List ℕ)) → IfSome reads Ends → IfSome reads (λ bytes. IsAtEnd id bytes b → Q bytes) → IfSome reads (λ bytes. IsAuditOf id w bytes → Q bytes)
      by None ends told = tt
      by (Some bytes) ends told = λ audit. told (ends audit).0

  pub ends_more : (P : Type 0) (reads : Option (List ℕ)) → IfSome reads Ends → IfSome reads (λ bytes. IsAuditOf id w bytes → HasMore id w bytes → P)
  ends_more P None ends = tt
  ends_more P (Some bytes) ends = λ audit more. absurd ((ends audit).1 more)

  pub ends_few : (old mid new : ℕ) (Going : Type 0) → (Going → ⊥) → (reads near : Option (List ℕ)) → near ≡ reads → IfSome reads Ends → IfSome reads (λ bytes. IsAuditOf id w bytes → mid ≤ old + 512)
      → IfSome near (λ bytes. IsAtEnd id bytes b → GranulesRise bytes → new ≡ mid) → IfSome reads (λ bytes. IsAuditOf id w bytes → Going ⊎ GranulesRise bytes → new ≤ old + 512)
  ends_few old mid new Going never reads near same ends few still = by reads ends few (subst (λ (o : Option (List ℕ)). IfSome o (λ bytes. IsAtEnd id bytes b → GranulesRise bytes → new ≡ mid)) same still)
    where
      by : (reads : Option (List ℕ)) → IfSome reads Ends → IfSome reads (λ bytes. IsAuditOf id w bytes → mid ≤ old + 512) → IfSome reads (λ bytes. IsAtEnd id bytes b → GranulesRise bytes → new ≡ mid)
          → IfSome reads (λ bytes. IsAuditOf id w bytes → Going ⊎ GranulesRise bytes → new ≤ old + 512)
      by None ends few still = tt
      by (Some bytes) ends few still = λ audit. elim_few (few audit) (still (ends audit).0)
        where
          elim_few : mid ≤ old + 512 → (GranulesRise bytes → new ≡ mid) → Going ⊎ GranulesRise bytes → new ≤ old + 512
          elim_few most is (inl going) = absurd (never going)
          elim_few most is (inr rise) = (let at = is rise in omega (arith, most, at))

  -- whether granules fall or not
  pub within_most : (old mid : ℕ) (reads : Option (List ℕ)) → IfSome reads (λ bytes. IsAuditOf id w bytes → mid ≤ old + 512) → IfSome reads (λ bytes. IsAuditOf id w bytes → mid ≤ old + (512 + length (txns (stored bytes).items)))
  within_most old mid None few = tt
  within_most old mid (Some bytes) few = λ audit. (let most = few audit in omega (arith, most))

  pub ends_most : (old mid new : ℕ) (reads near : Option (List ℕ)) → near ≡ reads → IfSome reads (λ bytes. IsAuditOf id w bytes → mid ≤ old + 512)
      → IfSome near (λ bytes. new ≤ mid + length (txns (stored bytes).items)) → IfSome reads (λ bytes. IsAuditOf id w bytes → new ≤ old + (512 + length (txns (stored bytes).items)))
  ends_most old mid new reads near same few more = by reads few (subst (λ (o : Option (List ℕ)). IfSome o (λ bytes. new ≤ mid + length (txns (stored bytes).items))) same more)
    where
      by : (reads : Option (List ℕ)) → IfSome reads (λ bytes. IsAuditOf id w bytes → mid ≤ old + 512) → IfSome reads (λ bytes. new ≤ mid + length (txns (stored bytes).items))
          → IfSome reads (λ bytes. IsAuditOf id w bytes → new ≤ old + (512 + length (txns (stored bytes).items)))
      by None few more = tt
      by (Some bytes) few more = λ audit. (let most = few audit in omega (arith, most, more))

  pub ends_nowhere : (P : Type 0) (reads : Option (List ℕ)) → IfSome reads Ends → (b ≡ None → P) → IfSome reads (λ bytes. IsAuditOf id w bytes → history_with id (stored bytes) ≡ None → P)
  ends_nowhere P None ends by = tt
  ends_nowhere P (Some bytes) ends by = λ audit none. is b refl (ends audit).0 none
    where
      is : (x : Option Auditing) → b ≡ x → IsAtEnd id bytes x → history_with id (stored bytes) ≡ None → P
      is None same nowhere none = by same
      is (Some a) same all none = absurd (some_history id bytes a.header all.header all.id_is none)

-- of what was taken out of the auditor
pub same_auditing : (Q : Option Auditing → List ℕ → Type 0) (w v : Option Auditing) (reads : Option (List ℕ)) → w ≡ v → IfSome reads (Q w) → IfSome reads (Q v)
same_auditing Q w v reads same told = subst (λ (o : Option Auditing). IfSome reads (Q o)) same told
