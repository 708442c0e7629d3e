use Rattle.std.proofs.Common.{Bool, not, ◌++◌, refl, ap, ◌∙◌}
use Rattle.file_findings.specs.declared.finding.Finding.TheVariants.{SealMissing}
use Rattle.file_findings.specs.Along.{listed}
use Rattle.book_inspect.proofs.entries.Entries.take_batch.Goals as goal

pub returns-clause-value : goal.returns-clause-value
returns-clause-value c =
    let old = c.args.self.now in
    record {
      entries = refl;
      batches = refl;
      marks = refl;
      filed = c.max-self.ensures;
      marked = refl;
      missing = c.in_ok-note.ensures.value ∙ ap (λ (b : Bool). old.missing.items ++ listed (not b) (SealMissing old.batches)) c.has_own_seal.ensures.value;
      over = refl;
      falls = c.in_ok-note-2.ensures.value;
      altered = refl;
    }
