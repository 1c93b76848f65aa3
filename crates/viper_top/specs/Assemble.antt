-- assemble: the image of a source, and what is put of it.
use Rattle.std.specs.Prelude.{List, ℕ, ◌++◌, length, codes, decimal}
use Rattle.memory_plan.specs.Images.{ImageWords, image_text}
use Rattle.viper_top.specs.Endings.{Ending, made}

-- how many words it has
abbrev pub words_text : ImageWords → List ℕ
words_text words = codes "words " ++ decimal (length words) ++ codes "\n"

-- the image's text is placed
abbrev pub assembled : ImageWords → Ending
assembled words = made (image_text words) (words_text words)
