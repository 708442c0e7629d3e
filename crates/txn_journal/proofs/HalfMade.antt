-- What a crash leaves while a file is being made.
use Rattle.std.proofs.Common.{◌≡◌, ◌≢◌, inl, inr, ℕ, ◌+◌, ◌<◌, ◌≤◌, Bool, true, List, [], ◌∷◌, ◌++◌, length, get_or, take, drop, Option, Some, None, IfSome, sym, ◌∙◌, ap, subst, arith, length-append, length-drop, Result, Ok, Err, OnOk}
use Rattle.std.proofs.lemmas.Bool.{cases_eq}
use Rattle.std.proofs.lemmas.List.{drop_all, drop-take, take_at, append-nil}
use Rattle.disk_words.specs.declared.DiskFail.{DiskFail}
use Rattle.disk_words.specs.declared.DiskFail.TheVariants.{Failed, NoMemory}
use Rattle.disk_words.specs.Disk.{Call, State, turn, written, Torn, Only, Unchanged}
use Rattle.disk_words.proofs.Images.{Torn-same}
use Rattle.disk_words.proofs.TornParts.{torn_back}
use Rattle.outside_words.specs.Runs.{after_calls, StopsAtFailed, StopsBefore}
use Rattle.outside_words.specs.Told.{WhereTold}
use Rattle.outside_words.proofs.Told.{told_same}
use Rattle.disk_model.specs.Moments.{EveryImage, is_done, has_failed, written_all, AllWithin, CutShort, calls_of, MakesCalls, Secures}
use Rattle.disk_model.proofs.Moments.{started, stays, weaker, joined}
use Rattle.byte_grammar.specs.Gated.{Shape, records}
use Rattle.byte_grammar.proofs.GatedLaws.{records_stop}
use Rattle.txn_journal.specs.Held.{held_by, new_file}
use Rattle.txn_journal.specs.Create.{IsFree, IsTaken, creation, IsHalfMade, Refuses, MakesAfterReading, Creates}
use Rattle.txn_journal.proofs.Lifted.{lifted, on_lifted}
use Rattle.txn_journal.proofs.SameFront.{no_frame}
use Rattle.txn_journal.proofs.InFile.{held_from}

-- a file that ends at the gate behind its head has no record
no_room : (shape : Shape) (c : List ℕ) → length c ≤ 65 → records shape 64 0 (drop 64 c) ≡ ([], 64)
no_room shape c short = records_stop shape 64 (drop 64 c) (no_frame shape 64 (drop 64 c) (λ f. absurd (omega (arith, f.long, length-drop 64 c))))

not_long : (x : List ℕ) → IsFree x → length x ≤ 65
not_long x (inl short) = omega (arith, short)
not_long x (inr closed) = closed.0

not_taken : (x : List ℕ) → IsFree x → IsTaken x → ⊥
not_taken x (inl short) taken = omega (arith, short, taken.0)
not_taken x (inr closed) (more, inl is_long) = omega (arith, closed.0, is_long)
not_taken x (inr closed) (more, inr is_open) = closed.1 is_open

-- a closed head before the new one, and the new one closed
abbrev shut : List ℕ → List ℕ
shut x = 0 ∷ drop 1 x

abbrev filled : List ℕ → List ℕ
filled rest = 0 ∷ (rest ++ 0 ∷ [])

module _ (shape : Shape) (rest x : List ℕ) (long : length rest ≡ 63) (free : IsFree x) where
  abbrev head : List ℕ
  head = 0xA7 ∷ rest

  shut_long : length (shut x) ≤ 65
  shut_long = omega (arith, length-drop 1 x, not_long x free)

  length-piece : length (rest ++ 0 ∷ []) ≡ 64
  length-piece = omega (arith, long, length-append rest (0 ∷ []))

  fills : written 1 (rest ++ 0 ∷ []) (shut x) ≡ filled rest
  fills = ap (λ (l : List ℕ). (0 ∷ (rest ++ 0 ∷ [])) ++ l) (drop_all (1 + length (rest ++ 0 ∷ [])) (shut x) (omega (arith, length-piece, shut_long))) ∙ append-nil (filled rest)

  -- each step
  shutting : (c : List ℕ) → Torn 0 1 x c → IsHalfMade shape head x c
  shutting c torn = record {
    short = omega (arith, torn.no_longer, not_long x free);
    empty = no_room shape c (omega (arith, torn.no_longer, not_long x free));
    head_is = λ is_open is_long. inr (same is_long);
    from_empty = λ none. inl (inl (omega (arith, torn.no_longer, ap length none)));
  }
    where
      same : 64 < length c → drop 1 (take 64 c) ≡ drop 1 (take 64 x)
      same is_long = drop-take 1 63 c ∙ ap (λ (l : List ℕ). take 63 l) (torn_back 0 1 x c (omega (arith, torn.no_longer)) torn) ∙ sym (drop-take 1 63 x)

  filling : (c : List ℕ) → Torn 1 (length (rest ++ 0 ∷ [])) (shut x) c → IsHalfMade shape head x c
  filling c torn = record {
    short = ends_there;
    empty = no_room shape c ends_there;
    head_is = λ is_open is_long. absurd (closed is_open);
    from_empty = λ none. inl (inr (ends_there, closed));
  }
    where
      ends_there : length c ≤ 65
      ends_there = omega (arith, torn.no_longer, shut_long, length-piece)

      closed : get_or c 0 0 ≢ 0xA7
      closed is_open = absurd (omega (arith, is_open, torn.below 0 (omega arith) (omega arith)))

  head_there : (c : List ℕ) → get_or c 0 0 ≡ 0xA7 → drop 1 c ≡ rest ++ 0 ∷ [] → take 64 c ≡ head
  head_there [] is_open behind = absurd (omega arith)
  head_there (g ∷ c) is_open behind = ap (λ (k : ℕ). k ∷ take 63 c) is_open ∙ ap (λ (l : List ℕ). 0xA7 ∷ take 63 l) behind ∙ ap (λ (l : List ℕ). 0xA7 ∷ l) (take_at rest (0 ∷ []) 63 long)

  -- the head stands there, behind some gate
  gated : (c : List ℕ) → length c ≡ 65 → drop 1 c ≡ rest ++ 0 ∷ [] → IsHalfMade shape head x c
  gated c all behind = record {
    short = omega (arith, all);
    empty = no_room shape c (omega (arith, all));
    head_is = λ is_open is_long. inl (head_there c is_open behind);
    from_empty = λ none. elim (cases_eq (get_or c 0 0) 0xA7) [
      | inl is_open ↦ inr (head_there c is_open behind, omega (arith, all))
      | inr closed ↦ inl (inr (omega (arith, all), closed))
    ];
  }

  opening : (c : List ℕ) → Torn 0 1 (filled rest) c → IsHalfMade shape head x c
  opening c torn = gated c (omega (arith, torn.no_shorter, torn.no_longer, length-piece)) (torn_back 0 1 (filled rest) c (omega arith) torn)

  -- all of them
  each : (c : List ℕ) → CutShort (creation head) x c → IsHalfMade shape head x c
  each c (inl torn) = shutting c torn
  each c (inr (inl torn)) = filling c torn
  each c (inr (inr (inl torn))) = opening c (subst (λ (l : List ℕ). Torn 0 1 l c) fills torn)
  each c (inr (inr (inr is))) =
      let made : c ≡ 0xA7 ∷ (rest ++ 0 ∷ []) = is ∙ ap (written 0 (0xA7 ∷ [])) fills in
      gated c (omega (arith, ap length made, length-piece)) (ap (drop 1) made)

  made : written_all (creation head) x ≡ head ++ 0 ∷ []
  made = ap (written 0 (0xA7 ∷ [])) fills

-- so of any head with an open gate
pub each_of : (shape : Shape) (head x : List ℕ) → length head ≡ 64 → get_or head 0 0 ≡ 0xA7 → IsFree x → (c : List ℕ) → CutShort (creation head) x c → IsHalfMade shape head x c
each_of shape [] x long is_open free c cut = absurd (omega arith)
each_of shape (gate ∷ rest) x long is_open free c cut = subst (λ (g : ℕ). IsHalfMade shape (g ∷ rest) x c) (sym is_open) (each shape rest x (omega arith) free c cut)

made_of : (head x : List ℕ) → length head ≡ 64 → get_or head 0 0 ≡ 0xA7 → IsFree x → written_all (creation head) x ≡ head ++ 0 ∷ []
made_of [] x long is_open free = absurd (omega arith)
made_of (gate ∷ rest) x long is_open free = ap (written 0 (0xA7 ∷ [])) (fills_of) ∙ ap (λ (g : ℕ). g ∷ (rest ++ 0 ∷ [])) (sym is_open)
  where
    fills_of : written 1 (rest ++ 0 ∷ []) (shut x) ≡ filled rest
    fills_of = fills (record { accepts = λ l. true; max_payload = 0; max_file = 0 }) rest x (omega arith) free

within_of : (head x : List ℕ) → length head ≡ 64 → AllWithin (creation head) x
within_of head x long = (omega arith, (omega arith, (omega arith, tt)))

-- before the first write
untouched : (made x : List ℕ) → CutShort (creation made) x x
untouched made x = inl (Torn-same 0 1 x)

module _ (is_head : List ℕ → Bool) (shape : Shape) (head : List ℕ) (long : length head ≡ 64) (is_open : get_or head 0 0 ≡ 0xA7) (fits : is_head head ≡ true) where
  holds_head : held_by is_head shape (head ++ 0 ∷ []) ≡ Some (new_file head)
  holds_head =
      let all : length (head ++ 0 ∷ []) ≡ 65 = omega (arith, long, length-append head (0 ∷ [])) in
      let front : take 64 (head ++ 0 ∷ []) ≡ head = take_at head (0 ∷ []) 64 long in
      held_from is_head shape (new_file head) (head ++ 0 ∷ []) (record {
        long = omega arith;
        head_fits = ap is_head front ∙ fits;
        head = front;
        found = no_room shape (head ++ 0 ∷ []) (omega arith);
      })

  -- reading changes no image
  reading : (s0 s1 : State) → ((c : List ℕ) → s0.was_image (turn s0) c → s0.is_image c) → Unchanged s0 s1 → (b : List ℕ) → IsFree b → Only b s0 → EveryImage s0 s1 (IsHalfMade shape head b)
  reading s0 s1 only_now same b free only =
      let P : List ℕ → Type 0 = IsHalfMade shape head b in
      stays s0 s0 s1 P (started s0 P only_now (λ c now. subst P (sym (only c now)) (each_of shape head b long is_open free b (untouched head b)))) same

  refused_of : (r : Result (Unit {0}) DiskFail) (b : List ℕ) → IsFree b → Refuses b (lifted r)
  refused_of (Ok u) b free = free
  refused_of (Err Failed) b free = tt
  refused_of (Err NoMemory) b free = tt

  trace_of : (r : Result (Unit {0}) DiskFail) (s0 s1 s2 : State) → Unchanged s0 s1 → MakesCalls (calls_of (creation head)) r s1 s2 → MakesCalls (calls_of (creation head)) r s0 s2
  trace_of (Ok u) s0 s1 s2 same made = subst (λ (l : List (Call × Bool)). s2.trace ≡ after_calls is_done (calls_of (creation head)) l) same.trace made
  trace_of (Err Failed) s0 s1 s2 same made = subst (λ (l : List (Call × Bool)). StopsAtFailed is_done has_failed (calls_of (creation head)) l s2.trace) same.trace made
  trace_of (Err NoMemory) s0 s1 s2 same made = subst (λ (l : List (Call × Bool)). StopsBefore is_done (calls_of (creation head)) l s2.trace) same.trace made

  trace_lifted : (r : Result (Unit {0}) DiskFail) (s0 s2 : State) → MakesCalls (calls_of (creation head)) r s0 s2 → MakesAfterReading (creation head) (lifted r) s0 s2
  trace_lifted (Ok u) s0 s2 made = made
  trace_lifted (Err Failed) s0 s2 made = inr made
  trace_lifted (Err NoMemory) s0 s2 made = made

  made_told : (r : Result (Unit {0}) DiskFail) (s0 s1 s2 : State) → ((c : List ℕ) → s0.was_image (turn s0) c → s0.is_image c) → Unchanged s0 s1 → (b a : List ℕ) → IsFree b → Secures (creation head) r s1 s2 b a
      → Creates is_head shape head (lifted r) s0 s2 b a
  made_told r s0 s1 s2 only_now same b a free run =
      let is = on_lifted r (λ written. written (within_of head b long) ∙ made_of head b long is_open free) run.written in
      record {
        refused = refused_of r b free;
        kept = λ taken. absurd (not_taken b free taken);
        made = is;
        holds = on_ok (lifted r) (λ e. ap (held_by is_head shape) e ∙ holds_head) is;
        durable = on_lifted r (λ only. only) run.durable;
        images = λ f only.
            let later : Only b s1 = λ c now. only c ((same.images c).0 now) in
            let P : List ℕ → Type 0 = IsHalfMade shape head b in
            joined s0 s1 s2 P P (reading s0 s1 only_now same b free only) (weaker (run.images later (within_of head b long)) (each_of shape head b long is_open free)) (λ c p. p);
        trace = trace_lifted r s0 s2 (trace_of r s0 s1 s2 same run.calls);
      }
    where
      on_ok : {E P Q : Type 0} (r : Result (Unit {0}) E) → (P → Q) → OnOk r P → OnOk r Q
      on_ok (Ok u) f p = f p
      on_ok (Err e) f p = tt

  -- what follows of a run, behind reading that found the device free
  pub creates_told : (r : Result (Unit {0}) DiskFail) (s0 s1 s2 : State) → ((c : List ℕ) → s0.was_image (turn s0) c → s0.is_image c) → Unchanged s0 s1 → IfSome s0.reads IsFree
      → WhereTold s1.reads s2.reads (Secures (creation head) r s1 s2) → WhereTold s0.reads s2.reads (Creates is_head shape head (lifted r) s0 s2)
  creates_told r s0 s1 s2 only_now same free told = by s0.reads s2.reads free (subst (λ (o : Option (List ℕ)). WhereTold o s2.reads (Secures (creation head) r s1 s2)) same.reads told)
    where
      by : (o n : Option (List ℕ)) → IfSome o IsFree → WhereTold o n (Secures (creation head) r s1 s2) → WhereTold o n (Creates is_head shape head (lifted r) s0 s2)
      by (Some b) (Some a) free run = made_told r s0 s1 s2 only_now same b a free run
      by (Some b) None free run = tt
      by None n free run = tt

  trace_none : (f : DiskFail) (s0 s1 : State) → Unchanged s0 s1 → MakesAfterReading (creation head) (lifted (Err f)) s0 s1
  trace_none Failed s0 s1 same = inl same.trace
  trace_none NoMemory s0 s1 same = inl same.trace

  refused_none : (f : DiskFail) (b : List ℕ) → Refuses b (lifted (Err f))
  refused_none Failed b = tt
  refused_none NoMemory b = tt

  -- where reading failed
  pub not_begun : (f : DiskFail) (s0 s1 : State) → ((c : List ℕ) → s0.was_image (turn s0) c → s0.is_image c) → Unchanged s0 s1 → WhereTold s0.reads s1.reads (Creates is_head shape head (lifted (Err f)) s0 s1)
  not_begun f s0 s1 only_now same = told_same s0.reads s1.reads (Creates is_head shape head (lifted (Err f)) s0 s1) same.reads (λ b. record {
    refused = refused_none f b;
    kept = λ taken. same;
    made = tt;
    holds = tt;
    durable = tt;
    images = λ free only. reading s0 s1 only_now same b free only;
    trace = trace_none f s0 s1 same;
  })
