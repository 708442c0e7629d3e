use Rattle.std.proofs.Common.{◌-◌, ◌≤◌, length}
use Rattle.file_findings.proofs.Tails.{AreHidden}
use Rattle.file_findings.proofs.tail.hidden.Given as goal

-- the records so far, with those that follow
abbrev pub invariant-records : goal.invariant-records
invariant-records g l = record {
  inside : l.at ≤ length l.after;
  few : l.count ≤ l.at;
  all : AreHidden g.S.Shape.shape l.gate l.after l.count l.at;
}

abbrev pub decreases-records : goal.decreases-records
decreases-records g l = length l.after - l.at
