-- What doesn't fit where words and table of drives aren't those of a use.
use Rattle.std.specs.Prelude.{◌≡◌, ◌≢◌, ℕ, List, [], ◌∷◌, ◌++◌, Contains, length, codes, decimal}
use Rattle.mdv_name.specs.declared.geometry.Geometry.{Geometry}
use Rattle.mdv_files.specs.declared.misfit.Misfit.{Misfit}
use Rattle.mdv_files.specs.declared.misfit.Misfit.TheVariants.{Words, Host}

-- the words are one, a host of the table
pub record Fits (words : List (List ℕ)) (table : Geometry) : Type 0 where
  pub name : List ℕ
  pub only : words ≡ name ∷ []
  pub known : Contains table.hosts name

-- the words are one, no host of the table
pub record IsNoHostOf (words : List (List ℕ)) (table : Geometry) : Type 0 where
  pub name : List ℕ
  pub only : words ≡ name ∷ []
  pub unknown : Contains table.hosts name → ⊥

-- a part that doesn't fit
abbrev pub IsMisfit : List (List ℕ) → Geometry → Misfit → Type 0
IsMisfit words table (Words count) = (count ≡ length words) × (count ≢ 1)
IsMisfit words table Host = IsNoHostOf words table

abbrev pub misfit_text : Misfit → List ℕ
misfit_text (Words count) = codes "words: " ++ decimal count ++ codes " in place of the one host"
misfit_text Host = codes "host: drives.tab doesn't have this host"
