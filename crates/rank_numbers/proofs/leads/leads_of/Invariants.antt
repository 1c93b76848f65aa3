use Rattle.std.proofs.Common.{take}
use Rattle.strong_components.specs.Groups.{lists_of}
use Rattle.rank_numbers.specs.Leads.{AreLeads}
use Rattle.rank_numbers.proofs.leads.leads_of.Given as goal

abbrev pub invariant-loop-edge : goal.invariant-loop-edge
invariant-loop-edge l = AreLeads (lists_of l.parts) (take l.edge-index l.edges) l.leads.items
