-- One more edge is put to the part that it stays in, if it does.
use Rattle.std.proofs.Common.{◌<◌, ℕ, List, ◌∷◌, [], ◌++◌, length, take, get_or, arith, sym, subst, ap, ◌∙◌}
use Rattle.std.specs.declared.alloc.Global.{Global}
use Rattle.std.specs.declared.vec.Vec.{Vec}
use Rattle.std.proofs.lemmas.List.{take_more}
use Rattle.strong_components.specs.declared.edge.Edge.{Edge}
use Rattle.strong_components.specs.Groups.{lists_of}
use Rattle.rank_shape.specs.Places.{edge_lists, AreInside, InSome, PartsBelow}
use Rattle.rank_shape.proofs.Sorting.{inside_put, inside_pass, edge_lists_length}
use Rattle.rank_shape.proofs.parts.inside_parts.Goals as goal
use Rattle.rank_shape.proofs.parts.inside_parts.Goals.{then-place-places+in_ok-put, else-place-places}

abbrev none : Edge
none = record { from = 0; to = 0; name = 0 }

-- a key of a part is below the length of the places
within : (parts : List (List ℕ)) (n : ℕ) (u : ℕ) → PartsBelow n parts → InSome parts u → u < n
within parts n u all m = subst (λ x. x < n) m.2.2 (all m.0 m.1 m.2.0 u m.2.1)

pub bounds-places-edge : goal.bounds-places-edge
bounds-places-edge c = let i = c.loop-edge.edge-index in let r = (c.requires.in_parts i none (omega arith)).0 in
    omega (arith, within (lists_of c.args.parts.now) (length c.args.places.now) (get_or c.args.edges.now i none).from c.requires.within r, c.place_parts.ensures.len)

pub bounds-places-edge-in-loop-edge : goal.bounds-places-edge-in-loop-edge
bounds-places-edge-in-loop-edge c = let i = c.loop-edge.edge-index in let r = (c.requires.in_parts i none (omega arith)).1 in
    omega (arith, within (lists_of c.args.parts.now) (length c.args.places.now) (get_or c.args.edges.now i none).to c.requires.within r, c.place_parts.ensures.len)

pub put-requires : goal.put-requires
put-requires c = let i = c.loop-edge.edge-index in let r = (c.requires.in_parts i none (omega arith)).0 in
    omega (arith, c.place_parts.ensures.places r.0 (get_or c.args.edges.now i none).from r.1 r.2, r.1, c.loop-edge.invariant.len, edge_lists_length c.loop-edge.lists.items)

pub loop-edge-preserved : goal.loop-edge-preserved
loop-edge-preserved c =
    let i = c.loop-edge.edge-index in
    let more = take_more c.args.edges.now i none (omega arith) in
    let r = c.requires.in_parts i none (omega arith) in
    elim c.if-place-places.branch [
      | then-place-places+in_ok-put w ↦
          subst (λ x. AreInside (lists_of c.args.parts.now) x (edge_lists c.if-place-places.lists.items)) (sym more)
          (subst (λ x. AreInside (lists_of c.args.parts.now) (take i c.args.edges.now ++ get_or c.args.edges.now i none ∷ []) x) (sym (ap (λ (v : Vec (Vec Edge Global) Global). edge_lists v.items) w.lists-is ∙ w.in_ok-put.ensures))
          (inside_put (lists_of c.args.parts.now) c.place_parts.new.places c.place_parts.ensures.places (take i c.args.edges.now) (get_or c.args.edges.now i none) (edge_lists c.loop-edge.lists.items) c.loop-edge.invariant r.0 r.1 w.if-place-places.true))
      | else-place-places w ↦
          subst (λ x. AreInside (lists_of c.args.parts.now) x (edge_lists c.if-place-places.lists.items)) (sym more)
          (subst (λ x. AreInside (lists_of c.args.parts.now) (take i c.args.edges.now ++ get_or c.args.edges.now i none ∷ []) x) (sym (ap (λ (v : Vec (Vec Edge Global) Global). edge_lists v.items) w.lists-is))
          (inside_pass (lists_of c.args.parts.now) c.place_parts.new.places c.place_parts.ensures.places (take i c.args.edges.now) (get_or c.args.edges.now i none) (edge_lists c.loop-edge.lists.items) c.loop-edge.invariant w.if-place-places.false))
    ]
