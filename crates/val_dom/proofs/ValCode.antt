-- What the code of normal pairs computes.
use Rattle.std.specs.Prelude.{◌≡◌, Option, Some, None, IfSome}
use Rattle.std.proofs.Common.{ap, subst}
use Rattle.val_dom.specs.Normal.{IsNormal}
use Rattle.val_dom.specs.Normal.{P}
use Rattle.val_dom.specs.Made.{wrap}
use Rattle.val_dom.specs.evidence.ValLaws.{val_from}
use Rattle.val_dom.specs.declared.val.Val.{Val}

pub wrap_is : (v : Val) (o : Option P) (h : IfSome o IsNormal) → Some v.pair ≡ o → Some v ≡ wrap o h
wrap_is v None h e = cc
wrap_is v (Some p) h e = let f : v.pair ≡ p = cc in ap (λ (w : Val). Some w) (val_from v p f h)

pub some_of : {A : Type 0} (Q : A → Type 0) (x : A) (o : Option A) → IfSome o Q → Some x ≡ o → Q x
some_of Q x None h e = cc
some_of Q x (Some y) h e = let f : y ≡ x = cc in subst Q f h
