-- The first words of a seed, and short scripts, as other programs give them.
use Rattle.std.specs.Prelude.{◌≡◌, [], ◌∷◌, codes}
use Rattle.rand_core.specs.Steps.{first_words}
use Rattle.rand_pcg.specs.Pcg.{pcg32}
use Rattle.workload_make.specs.Script.{generator_of, script}

pub record WorkedExamples : Type 0 where
  pub words_of_1 : first_words pcg32 6 (generator_of 1) ≡ 0xe2393051 ∷ 0x01112f35 ∷ 0xd3509d35 ∷ 0x0b932f4a ∷ 0x8aa46776 ∷ 0x8c532036 ∷ []
  pub inserted : script 60 0 1 2 ≡ codes "create made id int amount int\nnow 37\ninsert made 414 75701\nnow 91\ninsert made 199 57974\nnotarize\nvalidate\n"
  pub updated : script 60 0 274 3 ≡ codes "create made id int amount int\nnow 24\ninsert made 908 14679\nnow 63\nupdate made 908 18448\nnow 92\ninsert made 215 47776\nnotarize\nvalidate\n"
  pub deleted : script 60 0 2018 3 ≡ codes "create made id int amount int\nnow 42\ninsert made 652 85050\nnow 97\ninsert made 16 90702\nnow 148\ndelete made 16\nnotarize\nvalidate\n"
  -- the moment stays at the greatest number
  pub at_the_end : script 4294967295 18446744073709551610 0 1 ≡ codes "create made id int amount int\nnow 18446744073709551615\ninsert made 375 99547\nnotarize\nvalidate\n"
