-- Moments, with one item more.
use Rattle.std.proofs.Common.{◌≡◌, ℕ, ltb, max, List, [], ◌∷◌, ◌++◌, sym, ap, ◌∙◌}
use Rattle.std.proofs.lemmas.List.Sums.{fold_push}
use Rattle.tuple_bytes.specs.declared.item.Item.{Item}
use Rattle.history_model.specs.History.{moment_in, after_last}
use Rattle.file_findings.specs.declared.finding.Finding.{Finding}
use Rattle.file_findings.specs.declared.finding.Finding.TheVariants.{MomentFalls}
use Rattle.store_inspect.specs.declared.moments.Moments.{Moments}
use Rattle.file_findings.specs.Along.{listed}
use Rattle.store_inspect.specs.Items.{next_place, after_moment, moment_before, moment_falls}
use Rattle.store_inspect.specs.Known.{KnowsMoments}
use Rattle.file_findings.proofs.Along.{found_with}

-- a fall, if it is one
abbrev pub fall_at : ℕ → ℕ → ℕ → List Finding
fall_at place last moment = listed (ltb moment last) (MomentFalls place last moment)

pub moment_more : (before : List Item) (item : Item) → moment_before (before ++ item ∷ []) ≡ after_moment (moment_before before) item
moment_more before item = fold_push after_moment 0 before item

pub moments_more : (old new : Moments) (item : Item) (place moment : ℕ) → moment ≡ after_moment old.last item → new.last ≡ moment → new.greatest ≡ max old.greatest (moment_in item) → new.falls.items ≡ old.falls.items ++ fall_at place old.last moment
    → (before : List Item) → place ≡ next_place before → KnowsMoments old before → KnowsMoments new (before ++ item ∷ [])
moments_more old new item place moment is last greatest falls before at known =
    let m : moment ≡ after_moment (moment_before before) item = is ∙ ap (λ (l : ℕ). after_moment l item) known.last in
    record {
      last = last ∙ m ∙ sym (moment_more before item);
      greatest = greatest ∙ ap (λ (g : ℕ). max g (moment_in item)) known.greatest ∙ sym (fold_push after_last 0 before item);
      falls = found_with moment_falls before item old.falls.items new.falls.items (fall_at place old.last moment) falls
          (ap (λ (p : ℕ). fall_at p old.last moment) at ∙ ap (λ (l : ℕ). fall_at (next_place before) l moment) known.last ∙ ap (λ (n : ℕ). fall_at (next_place before) (moment_before before) n) m) known.falls;
    }
