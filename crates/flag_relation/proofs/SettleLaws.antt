-- Settling keeps the states that meet the links, only shrinks, and is monotone.
use Rattle.std.specs.Prelude.{◌≡◌, ℤ, pos, ◌+ℤ◌, neg_ℤ, Option, Some, None}
use Rattle.std.proofs.Common.{arith, subst, sym}
use Rattle.std.proofs.lemmas.Int.{ints}
use Rattle.viper_word.specs.declared.kind.Kind.TheVariants.{Eq}
use Rattle.viper_word.specs.Words.{IsSigned}
use Rattle.num_domain.specs.Domain.{Domain, Has, Below}
use Rattle.num_domain.specs.Laws.{DomainLaws}
use Rattle.viper_word.proofs.Options.{some_bind, all_bind, bind_mono, all_unit}
use Rattle.viper_word.specs.declared.reg.Reg.{Reg}
use Rattle.viper_word.specs.declared.reg.Reg.TheVariants.{A, X, Y}
use Rattle.flag_relation.specs.declared.link.Link.{Link}
use Rattle.flag_relation.specs.Values.{Values, Regs, Related, reg, cell, with_cell}
use Rattle.flag_relation.specs.Facts.{LinkHolds, LinksHold}
use Rattle.flag_relation.specs.Order.{LinkBelow, LinksBelow, BelowValues}
use Rattle.flag_relation.specs.Refining.{settle_link, settle_at, settle_pass, settle}
use Rattle.flag_relation.proofs.ValueLemmas.{reg_related, cell_related, with_reg_related, with_cell_related, with_reg_left, with_cell_left}
use Rattle.flag_relation.proofs.Refiners.{Shrinks, Keeps, Grows, some_shrinks, some_keeps, shrinks_grows, then_shrinks, then_keeps, then_grows, values_refl}
use Rattle.viper_word.proofs.Integers.{true_eq}

module _ {T : Type 0} (d : Domain T) (laws : DomainLaws d) where
  pub top_default : Has d d.top (pos 0)
  top_default = laws.order.top_has (pos 0) (record { low = omega (arith, ints); high = omega (arith, ints) })

  link_shrinks : (r : Reg) (l : Link) → Shrinks d (settle_link d r l)
  unfolding settle_link
  link_shrinks r l = record {
    below = λ v.
        let P = λ (w : Values T). Related (Below d) w v in
        all_bind (λ _. Unit {0}) P (d.moved (reg v r) (neg_ℤ l.offset)) _ (all_unit (d.moved (reg v r) (neg_ℤ l.offset)))
        (λ m _. all_bind (λ c. Below d c (cell d.top v l.cell)) P (d.refine (cell d.top v l.cell) Eq m) _ (laws.mono.refine_below (cell d.top v l.cell) m Eq)
        (λ c hc. all_bind (λ _. Unit {0}) P (d.moved c l.offset) _ (all_unit (d.moved c l.offset))
        (λ n _. all_bind (λ q. Below d q (reg v r)) P (d.refine (reg v r) Eq n) _ (laws.mono.refine_below (reg v r) n Eq)
        (λ q hq. with_reg_left (Below d) (with_cell v l.cell c) v (with_cell_left (Below d) d.top v v (values_refl d laws v) l.cell c hc) r q hq))));
  }

  link_keeps : (r : Reg) (l : Link) → Keeps d (λ e. LinkHolds e r (Some l)) (settle_link d r l)
  unfolding settle_link
  link_keeps r l = record {
    sound = λ v e h k.
        let P = λ (w : Values T). Related (Has d) w e in
        let x = reg e r in
        let y = cell (pos 0) e l.cell in
        let hx = reg_related (Has d) v e k r in
        let hy = cell_related (Has d) d.top (pos 0) v e k top_default l.cell in
        let p : (x +ℤ neg_ℤ l.offset) ≡ y = omega (arith, ints) in
        let q : (y +ℤ l.offset) ≡ x = sym h in
        some_bind (λ m. Has d m (x +ℤ neg_ℤ l.offset)) P (d.moved (reg v r) (neg_ℤ l.offset)) _
        (laws.sound.moved (neg_ℤ l.offset) (reg v r) x hx (subst IsSigned (sym p) (laws.order.in_w (cell d.top v l.cell) y hy)))
        (λ m hm. some_bind (λ c. Has d c y) P (d.refine (cell d.top v l.cell) Eq m) _ (laws.sound.refine (cell d.top v l.cell) m Eq y (x +ℤ neg_ℤ l.offset) hy hm (true_eq y (x +ℤ neg_ℤ l.offset) (sym p)))
        (λ c hc. some_bind (λ n. Has d n (y +ℤ l.offset)) P (d.moved c l.offset) _ (laws.sound.moved l.offset c y hc (subst IsSigned (sym q) (laws.order.in_w (reg v r) x hx)))
        (λ n hn. some_bind (λ s. Has d s x) P (d.refine (reg v r) Eq n) _ (laws.sound.refine (reg v r) n Eq x (y +ℤ l.offset) hx hn (true_eq x (y +ℤ l.offset) (sym q)))
        (λ s hs. with_reg_left (Has d) (with_cell v l.cell c) e (with_cell_left (Has d) (pos 0) v e k l.cell c hc) r s hs))));
  }

  link_grows : (r : Reg) (l : Link) → Grows d (settle_link d r l) (settle_link d r l)
  unfolding settle_link
  link_grows r l = record {
    mono = λ v v' h.
        let hx = reg_related (Below d) v v' h r in
        let hy = cell_related (Below d) d.top d.top v v' h (laws.order.refl d.top) l.cell in
        bind_mono (Below d) (BelowValues d) (d.moved (reg v r) (neg_ℤ l.offset)) (d.moved (reg v' r) (neg_ℤ l.offset)) _ _ (laws.mono.moved (neg_ℤ l.offset) (reg v r) (reg v' r) hx)
        (λ m m' hm. bind_mono (Below d) (BelowValues d) (d.refine (cell d.top v l.cell) Eq m) (d.refine (cell d.top v' l.cell) Eq m') _ _ (laws.mono.refine Eq (cell d.top v l.cell) (cell d.top v' l.cell) m m' hy hm)
        (λ c c' hc. bind_mono (Below d) (BelowValues d) (d.moved c l.offset) (d.moved c' l.offset) _ _ (laws.mono.moved l.offset c c' hc)
        (λ n n' hn. bind_mono (Below d) (BelowValues d) (d.refine (reg v r) Eq n) (d.refine (reg v' r) Eq n') _ _ (laws.mono.refine Eq (reg v r) (reg v' r) n n' hx hn)
        (λ s s' hs. with_reg_related (Below d) (with_cell v l.cell c) (with_cell v' l.cell c') (with_cell_related (Below d) v v' h l.cell c c' hc) r s s' hs))));
  }

  at_shrinks : (r : Reg) (o : Option Link) → Shrinks d (settle_at d r o)
  at_shrinks r None = some_shrinks d laws
  at_shrinks r (Some l) = link_shrinks r l

  at_keeps : (r : Reg) (o : Option Link) → Keeps d (λ e. LinkHolds e r o) (settle_at d r o)
  at_keeps r None = some_keeps d laws (λ e. LinkHolds e r None)
  at_keeps r (Some l) = link_keeps r l

  at_grows : (r : Reg) (o o' : Option Link) → LinkBelow o o' → Grows d (settle_at d r o) (settle_at d r o')
  at_grows r o None h = shrinks_grows d laws (settle_at d r o) (at_shrinks r o)
  at_grows r o (Some l) h = subst (λ (k : Option Link). Grows d (settle_at d r k) (settle_link d r l)) (sym h) (link_grows r l)

  weaken : (holds holds' : Values ℤ → Type 0) (f : Values T → Option (Values T)) → ((e : Values ℤ) → holds' e → holds e) → Keeps d holds f → Keeps d holds' f
  weaken holds holds' f g k = record { sound = λ v e h m. k.sound v e (g e h) m }

  pass_shrinks : (links : Regs (Option Link)) → Shrinks d (settle_pass d links)
  unfolding settle_pass
  pass_shrinks links =
      then_shrinks d laws (settle_at d A links.a) _ (at_shrinks A links.a) (then_shrinks d laws (settle_at d X links.x) _ (at_shrinks X links.x) (at_shrinks Y links.y))

  pass_keeps : (links : Regs (Option Link)) → Keeps d (LinksHold links) (settle_pass d links)
  unfolding settle_pass
  pass_keeps links =
      then_keeps d laws (LinksHold links) (settle_at d A links.a) _ (weaken (λ e. LinkHolds e A links.a) (LinksHold links) (settle_at d A links.a) (λ e h. h.a) (at_keeps A links.a))
      (then_keeps d laws (LinksHold links) (settle_at d X links.x) _ (weaken (λ e. LinkHolds e X links.x) (LinksHold links) (settle_at d X links.x) (λ e h. h.x) (at_keeps X links.x))
      (weaken (λ e. LinkHolds e Y links.y) (LinksHold links) (settle_at d Y links.y) (λ e h. h.y) (at_keeps Y links.y)))

  pass_grows : (links links' : Regs (Option Link)) → LinksBelow links links' → Grows d (settle_pass d links) (settle_pass d links')
  unfolding settle_pass
  pass_grows links links' h =
      then_grows d laws (settle_at d A links.a) (settle_at d A links'.a) _ _ (at_grows A links.a links'.a h.a)
      (then_grows d laws (settle_at d X links.x) (settle_at d X links'.x) _ _ (at_grows X links.x links'.x h.x) (at_grows Y links.y links'.y h.y))

  pub settle_shrinks : (links : Regs (Option Link)) → Shrinks d (settle d links)
  unfolding settle
  settle_shrinks links = then_shrinks d laws (settle_pass d links) (settle_pass d links) (pass_shrinks links) (pass_shrinks links)

  pub settle_keeps : (links : Regs (Option Link)) → Keeps d (LinksHold links) (settle d links)
  unfolding settle
  settle_keeps links = then_keeps d laws (LinksHold links) (settle_pass d links) (settle_pass d links) (pass_keeps links) (pass_keeps links)

  pub settle_grows : (links links' : Regs (Option Link)) → LinksBelow links links' → Grows d (settle d links) (settle d links')
  unfolding settle
  settle_grows links links' h = then_grows d laws (settle_pass d links) (settle_pass d links') (settle_pass d links) (settle_pass d links') (pass_grows links links' h) (pass_grows links links' h)
