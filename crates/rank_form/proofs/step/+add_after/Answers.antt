use Rattle.std.proofs.Common.{rules, arith, sym, ap, ◌∙◌, ◌≡◌, pos, [], List, ℤ, slice_index_or, drop, take, length, ◌-◌}
use Rattle.std.proofs.lemmas.Int.{ints}
use mir.Val.{SFits}
use mir.Syntax.{w128}
use Rattle.viper_word.specs.declared.reg.Reg.TheVariants.{A}
use Rattle.flag_relation.specs.declared.var.Var.{Var}
use Rattle.flag_relation.specs.declared.var.Var.TheVariants.{Reg}
use Rattle.rank_form.specs.Bounds.{linked, post_at, moved, moved_by}
use Rattle.rank_form.specs.Rates.{regs_of, spread, gain, gains}
use Rattle.rank_form.proofs.FirstTerm.{gains_first, moved_first}
use Rattle.rank_form.proofs.step.+add_after.Goals as goal

pub returns-in-len1-up-clause-gains : goal.returns-in-len1-up-clause-gains
returns-in-len1-up-clause-gains g t c =
    let d = g.D.NumDomain.domain in
    let links = regs_of c.args.links.now in
    let z : Var × ℤ = (Reg A, pos 0) in
    let e = gains_first d links c.args.posts.now c.args.fact.now c.args.terms.now z c.in-len1-up.len_at_least in
    let a : SFits w128 c.add_moved-first.result = search rules in
    let b : SFits w128 c.add_after-more.result = search rules in
    let v : c.add_moved-first.result ≡ gain d links c.args.fact.now (post_at c.args.posts.now (slice_index_or c.args.terms.now 0 z).0) (slice_index_or c.args.terms.now 0 z).0 (slice_index_or c.args.terms.now 0 z).1 = search (rules, c.add_moved-first.ensures.gain, c.post_at-post.ensures) in
    let m : c.add_after-more.result ≡ gains d links c.args.posts.now c.args.fact.now (take (length c.args.terms.now - 1) (drop 1 c.args.terms.now)) = c.add_after-more.ensures.gains in
    omega (arith, ints, e, v, m, c.add_moved-first.ensures.size, c.add_after-more.ensures.size)

pub returns-in-len1-up-clause-rates : goal.returns-in-len1-up-clause-rates
returns-in-len1-up-clause-rates g t c =
    let links = regs_of c.args.links.now in
    let z : Var × ℤ = (Reg A, pos 0) in
    let v : c.add_moved-first.new.rates ≡ spread (linked links (moved_by (post_at c.args.posts.now (slice_index_or c.args.terms.now 0 z).0) (slice_index_or c.args.terms.now 0 z).0 (slice_index_or c.args.terms.now 0 z).1 [])) c.args.rates.now = search (rules, c.add_moved-first.ensures.rates, c.post_at-post.ensures) in
    c.add_after-more.ensures.rates
    ∙ ap (λ (rs : List ℤ). spread (linked links (moved c.args.posts.now (take (length c.args.terms.now - 1) (drop 1 c.args.terms.now)))) rs) v
    ∙ sym (moved_first links c.args.posts.now c.args.terms.now z c.args.rates.now c.in-len1-up.len_at_least)
