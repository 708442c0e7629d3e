-- Where a run stands after some lines, and what a line more does: whatever the notary tells, and beside one that tells its lists.
use Rattle.std.proofs.Common.{◌≡◌, ◌∙◌, ◌≤◌, ℕ, Bool, List, [], ◌∷◌, ◌++◌, length, take, refl, sym, ap, subst, arith, ⊎_elim, Result, Ok, Err}
use Rattle.std.specs.Prelude.{◌⊎◌, Some, None, min, false}
use Rattle.std.specs.Option.{is_some}
use Rattle.std.proofs.lemmas.List.{take_all, take_min, take-append-le}
use Rattle.std.proofs.lemmas.List.Sums.{fold-append}
use Rattle.outside_words.specs.Told.{WhereTold}
use Rattle.outside_words.proofs.Told.{told_map, told_while}
use Rattle.disk_words.specs.Disk.{State, turn, Only}
use Rattle.disk_model.specs.Moments.{EveryImage}
use Rattle.disk_model.proofs.Moments.{started, weaker, joined}
use Rattle.notary_link.specs.declared.notary.NotaryLimits.{NotaryLimits}
use Rattle.notary_link.specs.Notary.{Lists}
use Rattle.validator.proofs.Telling.{told_all}
use Rattle.store_world.specs.declared.fail.LineFail.{LineFail}
use Rattle.store_world.specs.Stepping.{StoresEither}
use Rattle.store_world.specs.World.{World, StoresWorld}
use Rattle.store_world.specs.Lists.{IsBeside, ListsGo, WhereBeside}
use Rattle.store_world.specs.Found.{Found}
use Rattle.store_world.specs.Finding.{MayTell, MayFind}
use Rattle.stmt_text.specs.declared.line.Line.{Line}
use Rattle.store_world.proofs.Left.{files_still}
use Rattle.line_runs.specs.declared.runner.Runner.{Runner}
use Rattle.line_runs.specs.Devices.{Desk}
use Rattle.line_runs.specs.Running.{Running, Timed, carry, carried, EachFinds, AllMayTell, AllMayFind}
use Rattle.line_runs.specs.Ran.{StoresFront}
use Rattle.audit_model.specs.Sound.{IsSound}
use Rattle.line_runs.specs.Carrying.{IsAt, Goes, SoundThen}
use Rattle.line_runs.proofs.Standing.{IsStill, stores_in}

-- ---- some lines

module _ (scripted : Bool) (begin : Running) where
  pub carried_more : (done : List Timed) (t : Timed) → carried scripted begin (done ++ t ∷ []) ≡ carry scripted (carried scripted begin done) t
  carried_more done t = fold-append (carry scripted) begin done (t ∷ [])

  -- after all of them
  pub front_of_all : (done more : List Timed) (c : List ℕ) → StoresWorld (carried scripted begin done).world c → StoresFront scripted begin (done ++ more) c
  front_of_all done more c stores =
      let e : take (length done) (done ++ more) ≡ done = take-append-le (length done) done more (omega arith) ∙ take_all (length done) done (omega arith) in
      (length done, subst (λ (ts : List Timed). StoresWorld (carried scripted begin ts).world c) (sym e) stores)

  -- after some first ones, of which there may be more
  pub front_of_more : (done more : List Timed) (c : List ℕ) → StoresFront scripted begin done c → StoresFront scripted begin (done ++ more) c
  front_of_more done more c front =
      let n : ℕ = min front.0 (length done) in
      let e : take n (done ++ more) ≡ take front.0 done = take-append-le n done more (omega arith) ∙ take_min front.0 done in
      (n, subst (λ (ts : List Timed). StoresWorld (carried scripted begin ts).world c) (sym e) front.1)

  -- the images of a line more
  pub images_more : (done : List Timed) (t : Timed) (old mid new : State) → EveryImage old mid (StoresFront scripted begin done)
      → EveryImage mid new (StoresEither (carried scripted begin done).world (carry scripted (carried scripted begin done) t).world) → EveryImage old new (StoresFront scripted begin (done ++ t ∷ []))
  images_more done t old mid new first next =
      joined old mid new (StoresFront scripted begin (done ++ t ∷ [])) (StoresEither (carried scripted begin done).world (carry scripted (carried scripted begin done) t).world)
      (weaker first (front_of_more done (t ∷ []))) next within
    where
      all : (c : List ℕ) → StoresWorld (carry scripted (carried scripted begin done) t).world c → StoresFront scripted begin (done ++ t ∷ []) c
      all c stores =
          let e : take (length (done ++ t ∷ [])) (done ++ t ∷ []) ≡ done ++ t ∷ [] = take_all (length (done ++ t ∷ [])) (done ++ t ∷ []) (omega arith) in
          (length (done ++ t ∷ []), subst (λ (ts : List Timed). StoresWorld (carried scripted begin ts).world c) (sym e) (subst (λ (r : Running). StoresWorld r.world c) (sym (carried_more done t)) stores))

      within : (c : List ℕ) → StoresEither (carried scripted begin done).world (carry scripted (carried scripted begin done) t).world c → StoresFront scripted begin (done ++ t ∷ []) c
      within c either = ⊎_elim (λ (s : StoresWorld (carried scripted begin done).world c). front_of_all done (t ∷ []) c s) (all c) either

-- what holds of each finding, and of one more
pub each_more : (P : World → Line → ℕ → Found → Type 0) (scripted : Bool) (begin : Running) (done : List Timed) (t : Timed) → EachFinds P scripted begin done → EachFinds P scripted (carried scripted begin done) (t ∷ []) → EachFinds P scripted begin (done ++ t ∷ [])
each_more P scripted begin [] t all may = may
each_more P scripted begin (first ∷ done) t all may = (all.0, each_more P scripted (carry scripted begin first) done t all.1 may)

-- Where these lines lead.
pub record Stands (scripted : Bool) (begin : Running) (done : List Timed) (runner : Runner) (old now : Desk) (before after : List ℕ) : Type 0 where
  pub at : IsAt (carried scripted begin done) runner after
  pub tells : AllMayTell scripted begin done
  pub settled : Only before old.disk → Only after now.disk
  pub images : Only before old.disk → EveryImage old.disk now.disk (StoresFront scripted begin done)
  pub sound : SoundThen old now before
  -- beside a notary that tells its lists
  pub found : WhereBeside begin.world old now (λ lists later. AllMayFind scripted begin done)
  pub beside : WhereBeside begin.world old now (λ lists later. IsBeside (carried scripted begin done).world old.notary.limits later)

pub stands_first : (scripted : Bool) (begin : Running) (runner : Runner) (s : Desk) (bytes : List ℕ) → IsStill s.disk → IsAt begin runner bytes → WhereTold s.notary.lists s.notary.lists (λ lists later. later ≡ lists) → Stands scripted begin [] runner s s bytes bytes
stands_first scripted begin runner s bytes still at same = record {
  at = at;
  tells = tt;
  settled = λ only. only;
  images = λ only. started s.disk (StoresFront scripted begin []) still (λ c here. (0, subst (StoresWorld begin.world) (sym (only c here)) (stores_in begin runner bytes at)));
  sound = told_map s.notary.lists s.notary.lists _ _ same (λ lists later is id only was. subst (λ (l : Lists). IsSound s.disk.is_image (l.batches id) id) (sym is) was);
  found = told_all s.notary.lists s.notary.lists _ (λ lists later beside. tt);
  beside = told_map s.notary.lists s.notary.lists _ _ same (λ lists later is beside. subst (IsBeside begin.world s.notary.limits) (sym is) beside);
}

-- a line more
module _ (scripted : Bool) (begin : Running) (done : List Timed) (t : Timed) (runner later : Runner) (old mid new : Desk) (before here after : List ℕ)
    (limits_are : mid.notary.limits ≡ old.notary.limits) (untold : is_some mid.notary.lists ≡ false → is_some new.notary.lists ≡ false) where
  abbrev r : Running
  r = carried scripted begin done

  abbrev next : Running
  next = carry scripted r t

  abbrev Far : Type 0
  Far = Stands scripted begin done runner old mid before here

  abbrev OneLine : Result (List ℕ) LineFail → Type 0
  OneLine result = Goes r next result later mid new here after

  abbrev FoundIn : Type 0
  FoundIn = WhereBeside r.world mid new (λ lists later. AllMayFind scripted r (t ∷ []))

  -- a fact beside the lists that stand in the middle
  beside_then : (P Q R : Lists → Lists → Type 0) → WhereBeside begin.world old mid P → WhereBeside begin.world old mid (λ lists here_lists. IsBeside r.world old.notary.limits here_lists) → WhereBeside r.world mid new Q
      → ((lists here_lists later_lists : Lists) → P lists here_lists → Q here_lists later_lists → R lists later_lists) → WhereBeside begin.world old new R
  beside_then P Q R first stands second f =
      told_while old.notary.lists mid.notary.lists new.notary.lists (λ lists here_lists. IsBeside begin.world old.notary.limits lists → P lists here_lists × IsBeside r.world old.notary.limits here_lists)
      (λ here_lists later_lists. IsBeside r.world mid.notary.limits here_lists → Q here_lists later_lists) (λ lists later_lists. IsBeside begin.world old.notary.limits lists → R lists later_lists) untold
      (told_two_of old.notary.lists mid.notary.lists _ _ first stands) second
      (λ lists here_lists later_lists one two beside.
      let both = one beside in
      f lists here_lists later_lists both.0 (two (subst (λ (l : NotaryLimits). IsBeside r.world l here_lists) (sym limits_are) both.1)))
    where
      told_two_of : (o n : _) (A B : Lists → Lists → Type 0) → WhereTold o n (λ l h. IsBeside begin.world old.notary.limits l → A l h) → WhereTold o n (λ l h. IsBeside begin.world old.notary.limits l → B l h) → WhereTold o n (λ l h. IsBeside begin.world old.notary.limits l → A l h × B l h)
      told_two_of (Some b) (Some a) A B p q = λ beside. (p beside, q beside)
      told_two_of (Some b) None A B p q = tt
      told_two_of None n A B p q = tt

  pub sound_on : (result : Result (List ℕ) LineFail) → Far → OneLine result → SoundThen old new before
  sound_on result so_far goes = told_while old.notary.lists mid.notary.lists new.notary.lists _ _ _ untold so_far.sound goes.sound (λ lists here_lists later_lists one two id only was. two id (so_far.settled only) (one id only was))

  -- no line changes the limits
  module _ (same_limits : next.world.limits ≡ r.world.limits) where
    pub stands_more : (text : List ℕ) → Far → OneLine (Ok text) → AllMayTell scripted r (t ∷ []) → FoundIn → Stands scripted begin (done ++ t ∷ []) later old new before after
    stands_more text so_far goes may found = record {
      at = subst (λ (x : Running). IsAt x later after) (sym (carried_more scripted begin done t)) goes.stands;
      tells = each_more (λ w line now found. MayTell w line found) scripted begin done t so_far.tells may;
      settled = λ only. goes.settled (so_far.settled only);
      images = λ only. images_more scripted begin done t old.disk mid.disk new.disk (so_far.images only) (goes.images (so_far.settled only));
      sound = sound_on (Ok text) so_far goes;
      found = beside_then _ _ _ so_far.found so_far.beside found (λ lists here_lists later_lists one two. each_more MayFind scripted begin done t one two);
      beside = beside_then (λ lists here_lists. IsBeside r.world old.notary.limits here_lists) _ _ so_far.beside so_far.beside goes.files (λ lists here_lists later_lists one files.
          subst (λ (x : Running). IsBeside x.world old.notary.limits later_lists) (sym (carried_more scripted begin done t)) (record { lists = files.keeps refl; limits = same_limits ∙ one.limits }));
    }

  -- what a line under way leaves
  pub images_on : (fail : LineFail) → Far → OneLine (Err fail) → Only before old.disk → EveryImage old.disk new.disk (StoresFront scripted begin (done ++ t ∷ []))
  images_on fail so_far goes only = images_more scripted begin done t old.disk mid.disk new.disk (so_far.images only) (goes.images (so_far.settled only))

  pub kept_on : (fail : LineFail) → ((n : ℕ) (c : List ℕ) → n ≤ turn new.disk → new.disk.is_image c → new.disk.was_image n c) → Far → OneLine (Err fail) → Only before old.disk → (c : List ℕ) → new.disk.is_image c
      → StoresWorld r.world c ⊎ StoresWorld (carried scripted begin (done ++ t ∷ [])).world c
  kept_on fail counts so_far goes only c is =
      let every = goes.images (so_far.settled only) in
      subst (λ (x : Running). StoresWorld r.world c ⊎ StoresWorld x.world c) (sym (carried_more scripted begin done t)) (every.each c (counts (turn mid.disk) c every.later is))

  pub found_on : Far → FoundIn → WhereBeside begin.world old new (λ lists later. AllMayFind scripted begin (done ++ t ∷ []))
  found_on so_far found = beside_then _ _ _ so_far.found so_far.beside found (λ lists here_lists later_lists one two. each_more MayFind scripted begin done t one two)

  pub files_on : (fail : LineFail) (Done : Type 0) → (Done → ⊥) → Far → OneLine (Err fail)
      → WhereBeside begin.world old new (λ lists later_lists. ListsGo r.world (carried scripted begin (done ++ t ∷ [])).world Done old.disk new.disk before after later_lists)
  files_on fail Done never so_far goes = beside_then _ _ _ so_far.beside so_far.beside goes.files (λ lists here_lists later_lists one files.
      subst (λ (x : Running). ListsGo r.world x.world Done old.disk new.disk before after later_lists) (sym (carried_more scripted begin done t)) (record {
        keeps = λ is. absurd (never is);
        between = files.between;
        ordered = λ id more only. files.ordered id more (so_far.settled only);
      }))

-- no line was under way
pub files_done : (scripted : Bool) (begin : Running) (done : List Timed) (t : Timed) (runner : Runner) (old new : Desk) (before after : List ℕ) (Done : Type 0) → carry scripted (carried scripted begin done) t ≡ carried scripted begin done
    → Stands scripted begin done runner old new before after
    → WhereBeside begin.world old new (λ lists later_lists. ListsGo (carried scripted begin done).world (carried scripted begin (done ++ t ∷ [])).world Done old.disk new.disk before after later_lists)
files_done scripted begin done t runner old new before after Done same so_far = told_map old.notary.lists new.notary.lists _ _ so_far.beside (λ lists later_lists stands beside.
    files_still (carried scripted begin done).world (carried scripted begin (done ++ t ∷ [])).world Done old.disk new.disk before after later_lists (ap (λ (x : Running). x.world.lists) (carried_more scripted begin done t ∙ same)) (stands beside).lists)
