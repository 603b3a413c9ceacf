-- The first group of a text, gathered.
use Rattle.std.specs.Prelude.{◌≡◌, ◌<◌, ◌≤◌, ◌+◌, ℕ, Bool, Option, None, Some, List, ◌∷◌, length}
use Rattle.std.specs.List.{list_all}
use Rattle.mdv_text.specs.Words.{words}
use Rattle.mdv_name.specs.Lines.{lines}
use Rattle.mdv_name.specs.Volume.{IsVolName, IsPoolName, SpellsVolume, pool_text}
use Rattle.mdv_name.specs.declared.volume.VolName.{VolName}
use Rattle.mdv_name.specs.declared.volume.PoolName.{PoolName}
use Rattle.mdv_parts.specs.declared.names.Scope.{Scope}
use Rattle.mdv_parts.specs.declared.part.Part.{Part}
use Rattle.mdv_parts.specs.Part.{AreParts}
use Rattle.mdv_tab.specs.declared.entry.Entry.{Entry}
use Rattle.mdv_tab.specs.Form.{entry_of}
use Rattle.mdv_tab.specs.Text.{groups, group_words, is_ascii_line}

-- its words stand in the bytes
pub record IsGathered (text bytes : List ℕ) (ascii : Bool) (count : ℕ) (rest : List ℕ) : Type 0 where
  pub group : List (List ℕ)
  pub place : groups (lines text) ≡ group ∷ groups (lines rest)
  pub spelled : words bytes ≡ group_words group
  pub plain : ascii ≡ list_all is_ascii_line group
  pub counts : count ≡ length group
  pub some : 0 < length group
  pub size : length group + length rest ≤ length text

-- the set that a volume or a pool of this name has, and none for another word
pub record IsSetOf (word : List ℕ) (set : Option (List ℕ)) : Type 0 where
  pub volume : (v : VolName) → IsVolName v → SpellsVolume v word → set ≡ v.set
  pub pool : (p : PoolName) → IsPoolName p → word ≡ pool_text p → set ≡ p.set
  pub other : ((v : VolName) → IsVolName v → SpellsVolume v word → ⊥) → ((p : PoolName) → IsPoolName p → word ≡ pool_text p → ⊥) → set ≡ None

-- the entry that the words spell with the set, or none where they spell none with it
abbrev pub IsReadWith : Option (List ℕ) → List (List ℕ) → Option Entry → Type 0
IsReadWith set ws (Some e) = (ps : List Part) × AreParts (Scope.Only set) ws ps × (entry_of set ps ≡ Some e)
IsReadWith set ws None = (ps : List Part) → AreParts (Scope.Only set) ws ps → entry_of set ps ≡ None
