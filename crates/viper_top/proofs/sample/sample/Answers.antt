use Rattle.std.proofs.Common.{◌≡◌, ◌∙◌, sym, ap, length, refl}
use Rattle.std.proofs.lemmas.List.{length-map}
use Rattle.viper_top.proofs.CertifyEndings.{sample_made, sample_refused}
use Rattle.viper_top.proofs.sample.sample.Goals as goal

pub returns : goal.returns
returns c =
    sample_refused c.args.loops c.in_ok-plan.plan c.in-Err.fault c.refused.result c.in_ok-plan.ensures.plan c.in-Err.ensures.fault c.in-Err.ensures.complete c.refused.ensures.cause c.refused.ensures.not_memory

pub returns-in-Ok : goal.returns-in-Ok
returns-in-Ok c =
    let words : length c.image_words.result.now ≡ length c.in_ok-plan.plan.image =
    sym (length-map c.image_words.result.now (λ e. (e.0, e.1.0))) ∙ ap length c.image_words.ensures in
    sample_made c.args.loops c.in_ok-plan.plan c.in-Ok.made.cert c.in_ok-sample_text-in-Ok.field-0.items
    c.in_ok-plan.ensures.plan c.in-Ok.ensures.made c.in-Ok.ensures.local
    (c.in_ok-sample_text-in-Ok.ensures ∙ rw (words, c.len.ensures.count, c.deref.ensures.value, c.in_ok-bounds-in-Ok.ensures, c.in_ok-cert-in-Ok.ensures.same) refl)
