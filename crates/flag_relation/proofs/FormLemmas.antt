-- What is kept of the terms of a form.
use Rattle.std.specs.Prelude.{◌≡◌, ℕ, ◌≤◌, ℤ, true, ◌&&◌, nat_le, List, ◌++◌, length, drop, replicate}
use Rattle.std.proofs.Common.{arith, ap, sym, ◌∙◌}
use Rattle.std.proofs.Math.Path.{ap₂}
use Rattle.std.proofs.Math.Seq.{take-append_seam}
use Rattle.std.proofs.lemmas.List.{drop-replicate}
use Rattle.std.proofs.lemmas.Bool.{and_parts}
use Rattle.std.proofs.lemmas.Bool.Decides.{nat_tests}
use Rattle.flag_relation.specs.declared.form.TheConstants.{MOST_TERMS, MOST_CONSTANT}
use Rattle.flag_relation.specs.declared.var.Var.{Var}
use Rattle.flag_relation.specs.Padding.{IsPadded}
use Rattle.flag_relation.specs.Forms.{is_within, are_terms, is_form, unused_term}
use Rattle.flag_relation.specs.FormLimits.{IsForm}

pub list_padded : {T : Type 0} (p : T) (size : ℕ) (ts : List T) → length ts ≤ size → IsPadded p size (ts ++ drop (length ts) (replicate size p)) (length ts)
list_padded p size ts h =
    let front = take-append_seam ts (drop (length ts) (replicate size p)) in
    record {
      room = h;
      used = ap length front;
      rest = ap₂ ◌++◌ front (sym (drop-replicate (length ts) size p));
    }

at_most : (n : ℕ) → nat_le n MOST_TERMS ≡ true → n ≤ MOST_TERMS
at_most n h = grind (arith, nat_tests)

pub form_kept : (c : ℤ) (ts : List (Var × ℤ)) → is_form c ts ≡ true → IsForm c (ts ++ drop (length ts) (replicate MOST_TERMS unused_term)) (length ts)
form_kept c ts h =
    let few = and_parts (nat_le (length ts) MOST_TERMS) (is_within MOST_CONSTANT c) (and_parts (nat_le (length ts) MOST_TERMS && is_within MOST_CONSTANT c) (are_terms 0 ts) h).0 in
    record {
      padding = list_padded unused_term MOST_TERMS ts (at_most (length ts) few.0);
      limits = ap (is_form c) (take-append_seam ts (drop (length ts) (replicate MOST_TERMS unused_term))) ∙ h;
    }
