use Rattle.a3d_forensics.proofs.Forks.{exact_at, once_at, counted}
use Rattle.a3d_forensics.proofs.laws.checks_count_forks.Goals as goal

pub returns : goal.returns
returns c = record {
  exact = λ granules level index nodes small. exact_at level granules index nodes small;
  once = λ granules level nodes. once_at level granules nodes;
  checks = counted;
}
