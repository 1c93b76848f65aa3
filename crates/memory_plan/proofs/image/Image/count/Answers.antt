use Rattle.std.proofs.Common.{◌≤◌, ◌^◌, length, ap, arith}
use Rattle.memory_plan.specs.Images.{entries}
use Rattle.memory_plan.proofs.ImageLemmas.{few_entries, length-entries}
use Rattle.memory_plan.proofs.image.Image.count.Goals as goal
use Rattle.memory_plan.proofs.image.Image.count.Goals.{After-len}

few : (c : After-len) → c.len.result ≤ 2 ^ 20
few c = omega (arith, c.len.ensures, few_entries (entries c.self.inside.words.items) c.self.invariant, length-entries c.self.inside.words.items)

pub overflow_cast-result : goal.overflow_cast-result
overflow_cast-result c = omega (arith, few c)

pub returns-clause-count : goal.returns-clause-count
returns-clause-count c = omega (arith, c.len.ensures, length-entries c.self.inside.words.items, ap length c.self.view_is)

pub returns-clause-most : goal.returns-clause-most
returns-clause-most c = few c
