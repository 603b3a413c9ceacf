-- What a text is the value of.
use Rattle.std.proofs.Common.{◌≡◌, ◌<◌, ◌^◌, ℕ, sym, ◌∙◌, List, decimal, arith}
use Rattle.std.proofs.lemmas.Fmt.{decimal_injective}
use Rattle.mdv_text.specs.Size.{IsSize}
use Rattle.mdv_command.specs.Options.{IsValue}
use Rattle.mdv_command.specs.declared.given.Given.{Given}
use Rattle.mdv_command.specs.declared.given.Given.TheVariants.{Flag, Set, Count, Length, Interlace}

pub no_interlace : (b : ℕ) (text : List ℕ) → b ≡ 105 → ((n : ℕ) → IsSize text n → ⊥) → (g : Given) → IsValue b text g → ⊥
no_interlace b text letter none (Flag c) is = is
no_interlace b text letter none (Set name) is = omega (arith, letter, is.0)
no_interlace b text letter none (Count n) is = omega (arith, letter, is.0)
no_interlace b text letter none (Length n) is = omega (arith, letter, is.0)
no_interlace b text letter none (Interlace n) is = none n is.1

pub same_number : (text : List ℕ) (m n : ℕ) → m < 2 ^ 64 → n < 2 ^ 64 → text ≡ decimal m → text ≡ decimal n → m ≡ n
same_number text m n small also first second = decimal_injective m n small also (sym first ∙ second)
