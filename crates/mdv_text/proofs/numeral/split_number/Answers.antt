use Rattle.std.proofs.Common.{rules, arith, ℕ, take, drop, sym, ◌∙◌, ap}
use Rattle.std.proofs.lemmas.List.{take-append-drop}
use Rattle.std.proofs.lemmas.List.Sums.{prefix_len-le-length}
use Rattle.std.specs.Char.{is_ascii_digit}
use Rattle.mdv_text.specs.Numeral.{begins_with_digit}
use Rattle.mdv_text.proofs.Numerals.{cut, ended-drop}
use Rattle.mdv_text.proofs.numeral.split_number.Goals as goal

pub split_at-requires : goal.split_at-requires
split_at-requires c = omega (arith, prefix_len-le-length is_ascii_digit c.args.text.now, c.count_digits.ensures)

pub returns-in_err-number-clause-none : goal.returns-in_err-number-clause-none
returns-in_err-number-clause-none c =
    rw c.from_residual.ensures (λ n rest front. c.in_err-number.ensures.none n front.fits (c.split_at.ensures.front ∙ ap (λ (k : ℕ). take k c.args.text.now) c.count_digits.ensures ∙ (cut c.args.text.now n rest front).0))

pub returns-clause-value : goal.returns-clause-value
returns-clause-value c =
    record {
      fits = search rules;
      spelled = sym (take-append-drop c.count_digits.result c.args.text.now) ∙ cc (c.split_at.ensures.front, c.split_at.ensures.back, c.in_ok-number.ensures.value);
      ended = ap begins_with_digit (c.split_at.ensures.back ∙ ap (λ (k : ℕ). drop k c.args.text.now) c.count_digits.ensures) ∙ ended-drop c.args.text.now;
    }
