-- The names that entries make, each with a number.
use Rattle.std.specs.Prelude.{◌≡◌, ◌<◌, ◌≤◌, ◌+◌, ◌++◌, ℕ, false, true, Option, Some, List, length, drop, replicate, option_map, IsSome, Contains}
use Rattle.std.specs.declared.cmp.Ordering.{Ordering}
use Rattle.std.specs.BTreeMap.{get, btree_map_len}
use Rattle.mdv_base.specs.declared.name.Named.{Named}
use Rattle.mdv_tab.specs.declared.entry.Entry.{Entry}
use Rattle.mdv_tab.specs.declared.index.Index.{Index}
use Rattle.mdv_tab.specs.declared.key.Key.{Key}
use Rattle.mdv_tab.specs.declared.key.SetKey.{SetKey}
use Rattle.mdv_tab.specs.contracts.key.KeyOrd.TheImpl as key_order
use Rattle.mdv_tab.specs.Order.{entry_set, makes}

abbrev pub key_cmp : Key → Key → Ordering
key_cmp = (key_order.ghosts).cmp

-- zeros stand behind the text
abbrev pub set_key : List ℕ → SetKey
set_key text = record { bytes = text ++ drop (length text) (replicate 32 0); len = length text }

abbrev pub key_of : Option (List ℕ) → Named → Key
key_of set (Named.Volume volume) = record { number = volume.0; pool = false; set = option_map set_key set }
key_of set (Named.Pool pool) = record { number = pool.0; pool = true; set = option_map set_key set }

abbrev pub number_at : Index → Key → Option ℕ
number_at index key = get key_cmp index.numbers key

abbrev pub number_of : Index → Option (List ℕ) → Named → Option ℕ
number_of index set named = number_at index (key_of set named)

abbrev pub index_len : Index → ℕ
index_len index = btree_map_len index.numbers

-- numbers are below the length, and no two names have one
pub record IsNumbering (index : Index) : Type 0 where
  pub within : (key : Key) (n : ℕ) → number_at index key ≡ Some n → n < index_len index
  pub apart : (one two : Key) (n : ℕ) → number_at index one ≡ Some n → number_at index two ≡ Some n → one ≡ two

-- each name keeps its number, and the key has one
pub record AddsKey (old new : Index) (key : Key) : Type 0 where
  pub sound : IsNumbering new
  pub has : IsSome (number_at new key)
  pub keeps : (other : Key) → IsSome (number_at old other) → IsSome (number_at new other)
  pub one : index_len new ≤ index_len old + 1

-- what the entry makes has a number
abbrev pub HasMade : Index → Entry → Type 0
HasMade index e = (named : Named) → makes e ≡ Some named → IsSome (number_of index (entry_set e) named)

pub record IsIndexOf (es : List Entry) (index : Index) : Type 0 where
  pub sound : IsNumbering index
  pub few : index_len index ≤ length es
  pub made : (e : Entry) → Contains es e → HasMade index e
