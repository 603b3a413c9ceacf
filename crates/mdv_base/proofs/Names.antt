-- Names are text.
use Rattle.std.proofs.Common.{◌≡◌, ◌<◌, ℕ, zero, suc, Bool, true, false, refl, List, [], ◌∷◌, get_or, ◌&&◌, arith, lit<}
use Rattle.std.proofs.lemmas.Bool.Decides.{nat_tests}
use Rattle.std.specs.List.{list_all}
use Rattle.std.specs.Str.{IsUtf8}
use Rattle.std.proofs.lemmas.Str.{IsUtf8-from_ascii}
use Rattle.mdv_base.specs.Name.{IsName, is_name_byte}

ascii_byte : (b : ℕ) → is_name_byte b ≡ true → b < 128
ascii_byte b is = grind (arith, nat_tests)

both : (a b : Bool) → a && b ≡ true → (a ≡ true) × (b ≡ true)
both true true is = (refl, refl)
both true false is = cc
both false b is = cc

ascii_at : (text : List ℕ) → list_all is_name_byte text ≡ true → (i : ℕ) → get_or text i 0 < 128
ascii_at [] each i = lit< tt
ascii_at (b ∷ text) each zero = ascii_byte b (both (is_name_byte b) (list_all is_name_byte text) each).0
ascii_at (b ∷ text) each (suc i) = ascii_at text (both (is_name_byte b) (list_all is_name_byte text) each).1 i

pub text_from_name : (text : List ℕ) → IsName text → IsUtf8 text
text_from_name text name = IsUtf8-from_ascii text (ascii_at text name.each)
