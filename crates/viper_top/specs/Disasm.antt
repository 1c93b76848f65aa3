-- disasm: the listing of an image.
use Rattle.memory_plan.specs.Images.{ImageWords}
use Rattle.disasm_view.specs.Listings.{listing}
use Rattle.viper_top.specs.Endings.{Ending, done}

abbrev pub listed : ImageWords → Ending
listed words = done (listing words)
