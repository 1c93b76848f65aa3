-- One more edge leads into another part, or stays.
use Rattle.std.proofs.Common.{ℕ, ◌∷◌, [], ◌++◌, take, get_or, arith, sym, subst, ap, ◌∙◌}
use Rattle.std.specs.declared.alloc.Global.{Global}
use Rattle.std.specs.declared.vec.Vec.{Vec}
use Rattle.std.proofs.lemmas.List.{take_more}
use Rattle.strong_components.specs.declared.edge.Edge.{Edge}
use Rattle.strong_components.specs.Groups.{lists_of}
use Rattle.rank_numbers.specs.Offsets.{place_lists}
use Rattle.rank_numbers.specs.Leads.{AreLeads}
use Rattle.rank_numbers.proofs.Leading.{lead_put, lead_pass}
use Rattle.rank_numbers.proofs.leads.leads_of.Goals as goal
use Rattle.rank_numbers.proofs.leads.leads_of.Goals.{then-p-q+in_ok-put, else-p-q}

abbrev none : Edge
none = record { from = 0; to = 0; name = 0 }

pub loop-edge-preserved : goal.loop-edge-preserved
loop-edge-preserved c =
    let i = c.loop-edge.edge-index in
    let more = take_more c.args.edges.now i none (omega arith) in
    let r = c.requires.in_parts i none (omega arith) in
    elim c.if-p-q.branch [
      | then-p-q+in_ok-put w ↦
          subst (λ x. AreLeads (lists_of c.args.parts.now) x c.if-p-q.leads.items) (sym more)
          (lead_put (lists_of c.args.parts.now) c.args.places.now c.requires.placed (take i c.args.edges.now) (get_or c.args.edges.now i none) c.loop-edge.leads.items c.loop-edge.invariant r.0 r.1
          c.if-p-q.leads.items w.if-p-q.true (ap (λ (v : Vec (Vec ℕ Global) Global). place_lists v.items) w.leads-is ∙ w.in_ok-put.ensures))
      | else-p-q w ↦
          subst (λ x. AreLeads (lists_of c.args.parts.now) x c.if-p-q.leads.items) (sym more)
          (subst (λ (x : Vec (Vec ℕ Global) Global). AreLeads (lists_of c.args.parts.now) (take i c.args.edges.now ++ get_or c.args.edges.now i none ∷ []) x.items) (sym w.leads-is)
          (lead_pass (lists_of c.args.parts.now) c.args.places.now c.requires.placed (take i c.args.edges.now) (get_or c.args.edges.now i none) c.loop-edge.leads.items c.loop-edge.invariant r.0 r.1 w.if-p-q.false))
    ]

pub put-requires : goal.put-requires
put-requires c =
    let i = c.loop-edge.edge-index in
    let r = (c.requires.in_parts i none (omega arith)).0 in
    omega (arith, c.requires.placed r.0 (get_or c.args.edges.now i none).from r.1 r.2, r.1, c.loop-edge.invariant.len)
