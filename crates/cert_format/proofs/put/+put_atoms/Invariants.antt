use Rattle.std.proofs.Common.{length}
use Rattle.cert_format.proofs.put.+put_atoms.Given as goal

abbrev pub decreases-put_atoms : goal.decreases-put_atoms
decreases-put_atoms l = length l.atoms.now
