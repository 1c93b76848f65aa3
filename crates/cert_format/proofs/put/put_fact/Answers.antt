use Rattle.std.proofs.Common.{◌∙◌, ap, ◌++◌}
use Rattle.flag_relation.specs.Facts.{FactOf}
use Rattle.std.specs.List.{flat_map}
use Rattle.cert_format.specs.Spelling.{front, flag_bytes}
use Rattle.std.proofs.lemmas.Result.{on_ok_weaker}
use Rattle.cert_format.proofs.PutLaws.{fact_appended}
use Rattle.cert_format.proofs.put.put_fact.Goals as goal

pub returns-clause-bytes : goal.returns-clause-bytes
returns-clause-bytes g c =
    let f = c.args.fact.now in
    on_ok_weaker c.put_flag.result (λ last.
    fact_appended (front c.args.size g.D.Spelled.bytes) f c.fact.inside.a c.fact.inside.x c.fact.inside.y c.fact.inside.cells.items c.link.result c.link-2.result c.link-3.result
    c.args.out.now.items c.put_value.new.out.items c.put_value-2.new.out.items c.put_value-3.new.out.items c.put_values.new.out.items c.put_link.new.out.items c.put_link-2.new.out.items c.put_link-3.new.out.items c.put_flag.new.out.items
    (ap (λ (h : FactOf g.row.D.Denot). h.a) c.fact.view_is) (ap (λ (h : FactOf g.row.D.Denot). h.x) c.fact.view_is) (ap (λ (h : FactOf g.row.D.Denot). h.y) c.fact.view_is) (ap (λ (h : FactOf g.row.D.Denot). h.cells) c.fact.view_is)
    c.link.ensures.link c.link-2.ensures.link c.link-3.ensures.link
    c.in_ok-put_value.ensures c.in_ok-put_value-2.ensures c.in_ok-put_value-3.ensures (c.in_ok-put_values.ensures ∙ ap (λ h. c.put_value-3.new.out.items ++ flat_map (front c.args.size g.D.Spelled.bytes) h) c.as_slice.ensures.value) c.in_ok-put_link.ensures c.in_ok-put_link-2.ensures c.in_ok-put_link-3.ensures
    (last ∙ ap (λ h. c.put_link-3.new.out.items ++ flag_bytes h) c.flag.ensures.flag)) c.put_flag.ensures.bytes
