use Rattle.std.proofs.Common.{◌∙◌, ◌<◌, get_or, None, Some, sym, arith}
use Rattle.memory_plan.proofs.HexLemmas.{hex_number_none, hex_number_there, digit_bound, next_digit, digit_read, all_read}
use Rattle.memory_plan.proofs.hex_digits.address_of.Goals as goal

pub returns-then-text-ne-ADDRESS_DIGITS : goal.returns-then-text-ne-ADDRESS_DIGITS
returns-then-text-ne-ADDRESS_DIGITS c = sym (hex_number_none 5 c.args.text.now c.if-text-ne-ADDRESS_DIGITS.true)

pub overflow_mul-number : goal.overflow_mul-number
overflow_mul-number c =
    let m = next_digit c.loop-byte.byte-index c.loop-byte.number 0 (omega arith) c.loop-byte.invariant.small (omega arith) in
    omega (arith, m.1)

pub returns-in_err-number : goal.returns-in_err-number
returns-in_err-number c =
    c.from_residual.ensures
    ∙ sym (hex_number_there 5 c.args.text.now c.if-text-ne-ADDRESS_DIGITS.false ∙ c.loop-byte.invariant.so_far
    ∙ digit_read c.args.text.now c.loop-byte.byte-index c.loop-byte.number None c.loop-byte-test.true (sym c.in_err-number.was ∙ c.digit_value.ensures))

pub overflow_add-number : goal.overflow_add-number
overflow_add-number c =
    let small : c.in_ok-number.field-0 < 16 = digit_bound (get_or c.args.text.now c.loop-byte.byte-index 0) c.in_ok-number.field-0 (sym (sym c.in_ok-number.was ∙ c.digit_value.ensures)) in
    let m = next_digit c.loop-byte.byte-index c.loop-byte.number c.in_ok-number.field-0 (omega arith) c.loop-byte.invariant.small small in
    omega (arith, m.1)

pub loop-byte-preserved : goal.loop-byte-preserved
loop-byte-preserved c =
    let small : c.in_ok-number.field-0 < 16 = digit_bound (get_or c.args.text.now c.loop-byte.byte-index 0) c.in_ok-number.field-0 (sym (sym c.in_ok-number.was ∙ c.digit_value.ensures)) in
    let m = next_digit c.loop-byte.byte-index c.loop-byte.number c.in_ok-number.field-0 (omega arith) c.loop-byte.invariant.small small in
    record {
      small = m.0;
      five = c.loop-byte.invariant.five;
      so_far = c.loop-byte.invariant.so_far
          ∙ digit_read c.args.text.now c.loop-byte.byte-index c.loop-byte.number (Some c.in_ok-number.field-0) c.loop-byte-test.true (sym c.in_ok-number.was ∙ c.digit_value.ensures);
    }

pub returns : goal.returns
returns c = all_read c.args.text.now c.loop-byte.byte-index c.loop-byte.number c.new.result c.if-text-ne-ADDRESS_DIGITS.false c.loop-byte-test.false (omega arith) c.loop-byte.invariant.small c.loop-byte.invariant.so_far c.new.ensures
