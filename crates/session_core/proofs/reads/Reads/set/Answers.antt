use Rattle.std.proofs.Common.{[], ◌∷◌, ◌++◌, ap, ◌∙◌}
use Rattle.std.specs.List.{list_any}
use Rattle.std.specs.Map.{keys_of}
use Rattle.session_model.specs.Places.{touches}
use Rattle.session_core.specs.Noted.{Marks}
use Rattle.session_core.proofs.SameReads.{put_reads}
use Rattle.session_core.proofs.reads.Reads.set.Goals as goal

pub returns-clause-value : goal.returns-clause-value
returns-clause-value c = λ op.
    put_reads c.args.place c.args.ops c.self.inside.places.entries c.insert.new.self.entries c.in_ok-last.ensures.entries op
    ∙ ap (λ (m : Marks). list_any (touches op) (keys_of m.places ++ c.args.place ∷ [])) c.self.view_is
