-- The lines of a text at hand are carried out: what a turn of the loop keeps, and its two ends.
use Rattle.std.proofs.Common.{◌≡◌, ◌∙◌, ◌≤◌, ℕ, Bool, true, List, [], ◌∷◌, ◌++◌, length, take, refl, sym, ap, subst, inl, inr, ⊎_elim, arith, append_assoc, append-nil, Result, Ok, Err}
use Rattle.std.specs.Prelude.{◌⊎◌}
use Rattle.std.proofs.lemmas.List.{map-append}
use Rattle.outside_words.proofs.Told.{told_map, told_then, told_same}
use Rattle.notary_link.specs.Notary as notaries
use Rattle.notary_link.proofs.Frame as notary_frames
use Rattle.disk_words.specs.Disk as disks
use Rattle.disk_words.proofs.Frame as disk_frames
use Rattle.outside_io.specs.Clock as clocks
use Rattle.line_input.specs.Lines.{lines_of}
use Rattle.line_input.specs.Front.{AreFirst}
use Rattle.line_input.proofs.Lines.{lines_none}
use Rattle.store_world.specs.declared.fail.LineFail.{LineFail}
use Rattle.store_world.specs.declared.fail.LineFail.TheVariants as lines
use Rattle.line_runs.specs.declared.make.LastTwo.{LastTwo}
use Rattle.line_runs.specs.declared.runner.Runner.{Runner}
use Rattle.line_runs.specs.declared.status.Status.TheVariants as statuses
use Rattle.line_runs.specs.Devices.{Desk}
use Rattle.line_runs.specs.Running.{Running, Timed, carried, Takes}
use Rattle.line_runs.specs.Ran.{IsNext, lines_in, text_before}
use Rattle.line_runs.specs.Carrying.{FromWhere, IsLineOf, Replies, SoundFrom}
use Rattle.line_runs.specs.Made.{all_but_two}
use Rattle.line_runs.specs.MakingLines.{AreLastTwo, Reaches, MakesLinesFrom}
use Rattle.line_runs.proofs.Reading.{take_first}
use Rattle.line_runs.proofs.Seconds.{takes_none, takes_then}
use Rattle.line_runs.proofs.Written.{before_more, but_two, two_of, two_none, two_more}
use Rattle.line_runs.proofs.Nothing.{nothing}
use Rattle.line_runs.proofs.Limits.{carry_limits}
use Rattle.line_runs.proofs.CarriedLines.{clock_then, clock_same}
use Rattle.line_runs.proofs.Standing.{IsStill}
use Rattle.line_runs.proofs.SoundKept.{sound_from}
use Rattle.line_runs.proofs.LinesRun.{lines_done, lines_begun}
use Rattle.line_runs.proofs.Lines.{Stands, stands_first, stands_more, sound_on, carried_more}

-- ---- between two lines

-- These lines of all were carried out, and the rest is to come.
pub record AlongLines (runner : Runner) (old now : Desk) (clock ahead : clocks.State) (all rest : List (List ℕ)) (first second : List ℕ) (begin : Running) (before after : List ℕ) : Type 0 where
  pub done : List Timed
  pub lines : all ≡ lines_in done ++ rest
  pub takes : Takes true done clock ahead
  pub stands : Stands true begin done runner old now before after
  pub two : AreLastTwo (all_but_two begin done).text (text_before true begin done) (carried true begin done).text (two_of first second)

-- what a turn of the loop keeps
pub record IsMaking (start runner : Runner) (old now : Desk) (clock ahead : clocks.State) (all rest : List (List ℕ)) (first second : List ℕ) : Type 0 where
  pub scripted : runner.is_scripted ≡ true
  pub told : FromWhere start old now (AlongLines runner old now clock ahead all rest first second)
  pub disk_frame : disks.GoesOn old.disk now.disk
  pub notary_frame : notaries.GoesOn old.notary now.notary
  pub clock_frame : clocks.GoesOn clock ahead

pub begins : (runner : Runner) (s : Desk) (clock : clocks.State) (all : List (List ℕ)) (first second : List ℕ) → IsStill s.disk → runner.is_scripted ≡ true → first ≡ [] → second ≡ [] → IsMaking runner runner s s clock clock all all first second
begins runner s clock all first second still scripted one two = record {
  scripted = scripted;
  told = told_same s.disk.reads s.disk.reads _ refl (λ bytes begin at. record {
    done = [];
    lines = refl;
    takes = takes_none true clock;
    stands = stands_first true begin runner s bytes still at (told_same s.notary.lists s.notary.lists _ refl (λ lists. refl));
    two = two_none begin.text first second one two;
  });
  disk_frame = disk_frames.goes_on_same s.disk;
  notary_frame = notary_frames.goes_on_same s.notary;
  clock_frame = clock_same clock;
}

lines_more : (done : List Timed) (t : Timed) (line : List ℕ) (rest : List (List ℕ)) → t.line ≡ line → lines_in done ++ line ∷ rest ≡ lines_in (done ++ t ∷ []) ++ rest
lines_more done t line rest is =
    sym (ap (λ (ls : List (List ℕ)). ls ++ rest) (map-append (λ (t : Timed). t.line) done (t ∷ []) ∙ ap (λ (l : List ℕ). lines_in done ++ l ∷ []) is) ∙ append_assoc (lines_in done) (line ∷ []) rest)

first_lines : (done : List Timed) (more : List (List ℕ)) (text : List ℕ) → lines_of text ≡ lines_in done ++ more → AreFirst (lines_in done) text
first_lines done more text all = sym (ap (take (length (lines_in done))) all ∙ take_first (lines_in done) more)

-- how far the lines come where one failed
pub reached : (line : List ℕ) (rest : List (List ℕ)) (text : List ℕ) (fail : LineFail) (done : List Timed) (t : Timed) → lines_of text ≡ lines_in done ++ line ∷ rest → IsLineOf {A = List ℕ} line (Err fail) t.line → Reaches {A = LastTwo} text done t (Err fail)
reached line rest text lines.DiskFault done t all is = first_lines (done ++ t ∷ []) rest text (all ∙ lines_more done t line rest is)
reached line rest text lines.NotaryFault done t all is = first_lines (done ++ t ∷ []) rest text (all ∙ lines_more done t line rest is)
reached line rest text lines.NoMemory done t all is = ⊎_elim (λ (e : t.line ≡ []). inl (e, first_lines done (line ∷ rest) text all))
    (λ (e : t.line ≡ line). inr (first_lines (done ++ t ∷ []) rest text (all ∙ lines_more done t line rest e))) is

-- a line that failed was the next one, where any was begun
begun : (line : List ℕ) (rest : List (List ℕ)) (text : List ℕ) (fail : LineFail) (done : List Timed) (t : Timed) → lines_of text ≡ lines_in done ++ line ∷ rest → IsLineOf {A = List ℕ} line (Err fail) t.line → (t.line ≡ []) ⊎ IsNext done t text
begun line rest text lines.DiskFault done t all is = inr (first_lines (done ++ t ∷ []) rest text (all ∙ lines_more done t line rest is))
begun line rest text lines.NotaryFault done t all is = inr (first_lines (done ++ t ∷ []) rest text (all ∙ lines_more done t line rest is))
begun line rest text lines.NoMemory done t all is = ⊎_elim (λ (e : t.line ≡ []). inl e) (λ (e : t.line ≡ line). inr (first_lines (done ++ t ∷ []) rest text (all ∙ lines_more done t line rest e))) is

-- what is said of a reply of a run that is scripted so
abbrev pub SeenLine : Bool → List ℕ → Result (List ℕ) LineFail → Runner → Runner → Desk → Desk → clocks.State → clocks.State → Type 0
SeenLine scripted line result runner last old new clock ahead = FromWhere runner old new (Replies line scripted result last (record { desk = old; clock = clock }) (record { desk = new; clock = ahead }))

-- ---- one line

module _ (start runner last : Runner) (old mid new : Desk) (clock tick tock : clocks.State) (all rest : List (List ℕ)) (line first second : List ℕ) where
  as_scripted : (result : Result (List ℕ) LineFail) → runner.is_scripted ≡ true → SeenLine runner.is_scripted line result runner last mid new tick tock → SeenLine true line result runner last mid new tick tock
  as_scripted result scripted replies = subst (λ (b : Bool). SeenLine b line result runner last mid new tick tock) scripted replies

  pub goes_on : (text : List ℕ) → IsMaking start runner old mid clock tick all (line ∷ rest) first second
      → SeenLine runner.is_scripted line (Ok text) runner last mid new tick tock → last.is_scripted ≡ runner.is_scripted → disks.GoesOn mid.disk new.disk → notaries.GoesOn mid.notary new.notary → clocks.GoesOn tick tock
      → IsMaking start last old new clock tock all rest second text
  goes_on text g replies scripted disk_on notary_on clock_on = record {
    scripted = scripted ∙ g.scripted;
    told = told_then old.disk.reads mid.disk.reads new.disk.reads _ _ _ g.disk_frame.told g.told (as_scripted (Ok text) g.scripted replies)
        (λ before here after so_far from begin at.
        let a = so_far begin at in
        let r : Running = carried true begin a.done in
        let x = from r a.stands.at in
        let more : List Timed = a.done ++ x.timed ∷ [] in
        let said : (carried true begin more).text ≡ r.text ++ text = ap (λ (y : Running). y.text) (carried_more true begin a.done x.timed) ∙ x.goes.reply in
        record {
          done = more;
          lines = a.lines ∙ lines_more a.done x.timed line rest x.line_is;
          takes = takes_then true a.done (x.timed ∷ []) clock tick tock g.clock_frame.told a.takes x.seconds;
          stands = stands_more true begin a.done x.timed runner last old mid new before here after g.notary_frame.limits notary_on.told.untold (carry_limits true r x.timed) text a.stands x.goes x.may x.finds;
          two = two_more (all_but_two begin a.done).text (text_before true begin a.done) r.text (all_but_two begin more).text (text_before true begin more) (carried true begin more).text first second text a.two said
              (before_more true begin a.done x.timed) (ap (λ (ts : List Timed). (carried true begin ts).text) (but_two a.done x.timed));
        });
    disk_frame = disk_frames.goes_on_then old.disk mid.disk new.disk g.disk_frame disk_on;
    notary_frame = notary_frames.goes_on_then old.notary mid.notary new.notary g.notary_frame notary_on;
    clock_frame = clock_then clock tick tock g.clock_frame clock_on;
  }

  -- a line failed
  pub under_way : (text : List ℕ) (fail : LineFail) → lines_of text ≡ all → IsMaking start runner old mid clock tick all (line ∷ rest) first second
      → ((n : ℕ) (c : List ℕ) → n ≤ disks.turn new.disk → new.disk.is_image c → new.disk.was_image n c)
      → SeenLine runner.is_scripted line (Err fail) runner last mid new tick tock → notaries.GoesOn mid.notary new.notary
      → MakesLinesFrom text (Err fail) start last (record { desk = old; clock = clock }) (record { desk = new; clock = tock })
  under_way text fail whole g counts replies notary_on =
      told_then old.disk.reads mid.disk.reads new.disk.reads _ _ _ g.disk_frame.told g.told (as_scripted (Err fail) g.scripted replies)
      (λ before here after so_far from begin at.
      let a = so_far begin at in
      let s = a.stands in
      let x = from (carried true begin a.done) s.at in
      record {
        done = a.done;
        next = x.timed;
        first = record { first = first_lines a.done (line ∷ rest) text (whole ∙ a.lines); under_way = begun line rest text fail a.done x.timed (whole ∙ a.lines) x.line_is };
        reaches = reached line rest text fail a.done x.timed (whole ∙ a.lines) x.line_is;
        lines = lines_begun true begin a.done fail runner last old mid new clock tick tock line before here after g.clock_frame g.notary_frame notary_on counts a.takes s x;
        stands = tt;
        two = tt;
      })

  pub sound_under_way : (fail : LineFail) → IsMaking start runner old mid clock tick all (line ∷ rest) first second
      → SeenLine runner.is_scripted line (Err fail) runner last mid new tick tock → notaries.GoesOn mid.notary new.notary → SoundFrom start old new
  sound_under_way fail g replies notary_on = sound_from start old new
      (told_then old.disk.reads mid.disk.reads new.disk.reads _ _ _ g.disk_frame.told g.told (as_scripted (Err fail) g.scripted replies)
      (λ before here after so_far from begin at.
      let a = so_far begin at in
      let x = from (carried true begin a.done) a.stands.at in
      sound_on true begin a.done x.timed runner last old mid new before here after g.notary_frame.limits notary_on.told.untold (Err fail) a.stands x.goes))

-- ---- all lines

module _ (start runner : Runner) (old now : Desk) (clock ahead : clocks.State) where
  pub all_made : (text first second : List ℕ) (rest : List (List ℕ)) → rest ≡ [] → IsMaking start runner old now clock ahead (lines_of text) rest first second
      → MakesLinesFrom text (Ok (two_of first second)) start runner (record { desk = old; clock = clock }) (record { desk = now; clock = ahead })
  all_made text first second rest none g = told_map old.disk.reads now.disk.reads _ _ g.told (λ before after all begin at.
      let a = all begin at in
      let s = a.stands in
      let r : Running = carried true begin a.done in
      record {
        done = a.done;
        next = nothing;
        first = record { first = first_lines a.done rest text a.lines; under_way = inl refl };
        reaches = sym (a.lines ∙ ap (λ (ls : List (List ℕ)). lines_in a.done ++ ls) none ∙ append-nil (lines_in a.done));
        lines = lines_done true begin a.done statuses.Ok runner old now clock ahead before after g.clock_frame a.takes s tt;
        stands = s.at;
        two = a.two;
      })

  pub sound_all : (all rest : List (List ℕ)) (first second : List ℕ) → IsMaking start runner old now clock ahead all rest first second → SoundFrom start old now
  sound_all all rest first second g = sound_from start old now (told_map old.disk.reads now.disk.reads _ _ g.told (λ before after all begin at. (all begin at).stands.sound))

-- no bytes have no lines
pub no_lines : (text : List ℕ) → length text ≡ 0 → lines_of text ≡ []
no_lines [] none = lines_none
no_lines (b ∷ text) none = absurd (omega (arith, none))
