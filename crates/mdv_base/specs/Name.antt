-- The names of hosts and sets.
use Rattle.std.specs.Prelude.{◌≡◌, ◌≤◌, ◌-◌, ◌++◌, ℕ, Bool, List, [], ◌∷◌, length, take, drop, replicate, nat_le, ◌==◌, ◌||◌, ◌&&◌, IsTrue, false}
use Rattle.std.specs.List.{list_all}
use Rattle.mdv_base.specs.Bytes.{IsPadded}
use Rattle.std.proofs.Common.{sym, ◌∙◌, ap, subst, arith}
use Rattle.std.proofs.lemmas.List.{drop-replicate, length-append, length-replicate}
use Rattle.std.proofs.Math.Seq.{take-append_seam, drop-append_seam}

abbrev pub is_letter : ℕ → Bool
is_letter b = (nat_le 65 b && nat_le b 90) || (nat_le 97 b && nat_le b 122)

abbrev pub is_digit : ℕ → Bool
is_digit b = nat_le 48 b && nat_le b 57

-- letters, digits, `-`, `.` and `_`
abbrev pub is_name_byte : ℕ → Bool
is_name_byte b = is_letter b || is_digit b || b == 45 || b == 46 || b == 95

-- a letter first
abbrev pub begins_with_letter : List ℕ → Bool
begins_with_letter [] = false
begins_with_letter (b ∷ bs) = is_letter b

-- 1 to 32 bytes of the form
pub record IsName (text : List ℕ) : Type 0 where
  pub short : length text ≤ 32
  pub first : IsTrue (begins_with_letter text)
  pub each : IsTrue (list_all is_name_byte text)

-- how a name lies in its 32 bytes
pub record IsStored (bytes : List ℕ) (len : ℕ) : Type 0 where
  pub padded : IsPadded 32 bytes len
  pub name : IsName (take len bytes)

-- a text written over zeros lies so
pub stored_made : (text : List ℕ) → IsName text → IsStored (text ++ drop (length text) (replicate 32 0)) (length text)
stored_made text name =
    let zeros = drop (length text) (replicate 32 0) in
    let are : zeros ≡ replicate (32 - length text) 0 = drop-replicate (length text) 32 0 in
    record {
      padded = record {
        whole = omega (arith, name.short, length-append text zeros, ap length are, length-replicate {A = ℕ} (32 - length text) 0);
        within = name.short;
        padding = drop-append_seam text zeros ∙ are;
      };
      name = subst IsName (sym (take-append_seam text zeros)) name;
    }
