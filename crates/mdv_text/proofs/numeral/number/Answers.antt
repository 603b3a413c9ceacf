use Rattle.std.proofs.Common.{◌≡◌, ◌<◌, ◌^◌, ℕ, List, true, Option, IfSome, IfNone, decimal, subst, sym, ◌∙◌}
use Rattle.std.specs.Str.{IsUtf8}
use Rattle.std.specs.Str.Parse.{ParsesUnsigned}
use Rattle.mdv_text.specs.Numeral.{begins_as_decimal}
use Rattle.mdv_text.proofs.Decimals.{begins_as_decimal-decimal, text_from_decimal, parsed, refused}
use Rattle.mdv_text.proofs.numeral.number.Goals as goal

pub returns-then-not-begins_as_decimal-clause-none : goal.returns-then-not-begins_as_decimal-clause-none
returns-then-not-begins_as_decimal-clause-none c = λ n fits is.
    let begins : begins_as_decimal c.args.text.now ≡ true = subst (λ (t : List ℕ). begins_as_decimal t ≡ true) (sym is) (begins_as_decimal-decimal n fits) in
    absurd (cc)

pub returns-in_default-clause-none : goal.returns-in_default-clause-none
returns-in_default-clause-none c = λ n fits is. c.in_default.ensures.cases.0 (subst IsUtf8 (sym is) (text_from_decimal n fits))

pub returns-clause-value : goal.returns-clause-value
returns-clause-value c =
    subst (λ (o : Option ℕ). IfSome o (λ n. c.args.text.now ≡ decimal n)) (sym c.ok.ensures.value) (
    parsed c.args.text.now c.parse.result (sym c.begins_as_decimal.ensures ∙ c.if-not-begins_as_decimal.false) (
    subst (λ (t : List ℕ). ParsesUnsigned 64 10 t c.parse.result) c.in-Ok.ensures.cases.0 c.parse.ensures.value.0
    )
    )

pub returns-clause-none : goal.returns-clause-none
returns-clause-none c =
    subst (λ (o : Option ℕ). IfNone o ((n : ℕ) → n < 2 ^ 64 → c.args.text.now ≡ decimal n → ⊥)) (sym c.ok.ensures.value) (
    refused c.args.text.now c.parse.result (
    subst (λ (t : List ℕ). ParsesUnsigned 64 10 t c.parse.result) c.in-Ok.ensures.cases.0 c.parse.ensures.value.0
    )
    )
