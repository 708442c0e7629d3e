-- What a disk in memory began with, and its trace, say what reads give and what a crash leaves.
use Rattle.std.proofs.Common.{◌≡◌, ℕ, List, Some, ap, ◌∙◌}
use Rattle.std.proofs.lemmas.Option.{same_Some}
use Rattle.disk_words.specs.Record.{bytes_after, image_of}
use Rattle.disk_model.specs.declared.memory.MemDisk.{MemDisk}
use Rattle.disk_model.specs.Memory.{state_of, origin_of, image_after}

module _ (disk : MemDisk) (first : List ℕ) (told : (state_of disk).origin ≡ Some first) where
  begins : origin_of disk ≡ first
  begins = same_Some (origin_of disk) first told

  pub reads_by_origin : (state_of disk).reads ≡ Some (bytes_after first (state_of disk).trace)
  reads_by_origin = ap Some (disk.replayed ∙ ap (λ (f : List ℕ). bytes_after f (state_of disk).trace) begins)

  pub image_by_origin : (choice : ℕ) → image_after choice disk ≡ image_of choice first (state_of disk).trace
  image_by_origin choice = ap (λ (f : List ℕ). image_of choice f (state_of disk).trace) begins
