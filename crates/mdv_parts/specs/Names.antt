-- The names of a line, with a set and without.
use Rattle.std.specs.Prelude.{◌≡◌, ℕ, Bool, true, false, Option, None, Some, List}
use Rattle.std.specs.Str.{bytes_eq}
use Rattle.mdv_base.specs.declared.name.VolId.{VolId}
use Rattle.mdv_base.specs.declared.name.PoolId.{PoolId}
use Rattle.mdv_name.specs.Volume.{IsVolName, IsPoolName, SpellsVolume, pool_text}
use Rattle.mdv_parts.specs.declared.names.Scope.{Scope}
use Rattle.mdv_parts.specs.declared.names.Scope.TheVariants.{Only, Within}

abbrev pub same_set : Option (List ℕ) → Option (List ℕ) → Bool
same_set None None = true
same_set None (Some s) = false
same_set (Some s) None = false
same_set (Some s) (Some t) = bytes_eq s t

-- beside `-s` a name may leave its set out; else all names have the same one
abbrev pub fits : Scope → Option (List ℕ) → Bool
fits (Only set) name = same_set name set
fits (Within set) None = true
fits (Within set) (Some name) = bytes_eq name set

-- the word names the volume, with a set that may stand here or with none
pub record NamesVolume (scope : Scope) (word : List ℕ) (v : VolId) : Type 0 where
  pub set : Option (List ℕ)
  pub fits : fits scope set ≡ true
  pub form : IsVolName (record { set = set; volume = v })
  pub spelled : SpellsVolume (record { set = set; volume = v }) word

-- the same for a pool
pub record NamesPool (scope : Scope) (word : List ℕ) (p : PoolId) : Type 0 where
  pub set : Option (List ℕ)
  pub fits : fits scope set ≡ true
  pub form : IsPoolName (record { set = set; pool = p })
  pub spelled : word ≡ pool_text (record { set = set; pool = p })
