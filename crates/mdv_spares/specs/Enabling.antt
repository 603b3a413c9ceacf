-- Spares that are put right: what refuses it, and the word that it tells.
use Rattle.std.specs.Prelude.{Bool, true, false, not, is_some, List, map, Option, None, Some, if◌then◌else◌}
use Rattle.std.specs.List.{find, list_any}
use Rattle.mdv_base.specs.declared.state_word.StateWord.{StateWord}
use Rattle.mdv_base.specs.declared.state_word.StateWord.TheVariants as word
use Rattle.mdv_spares.specs.Below.{DriveNo, SliceName, Geometry, SpareStatus, SpareState, Available, InUse, Broken, Cause, NoSuchSlice, WrongState, is_foreign}
use Rattle.mdv_spares.specs.Meant.{state_of}
use Rattle.mdv_spares.specs.Pools.{slice_base}

abbrev pub is_broken : SpareState → Bool
is_broken Broken = true
is_broken _ = false

abbrev pub is_broken_at : Option SpareStatus → Bool
is_broken_at None = false
is_broken_at (Some x) = is_broken x.state

-- no pool has it, or it isn't Broken
abbrev pub is_unbroken : List SpareStatus → SliceName → Bool
is_unbroken states s = not (is_broken_at (state_of states s))

-- what refuses it
abbrev pub enable_condition : Geometry → List DriveNo → List SpareStatus → List SliceName → Cause → Bool
enable_condition g drives states slices NoSuchSlice = list_any (is_foreign g drives) (map slice_base slices)
enable_condition g drives states slices WrongState = list_any (is_unbroken states) slices
enable_condition g drives states slices _ = false

abbrev pub spare_word : SpareState → StateWord
spare_word Available = word.Available
spare_word InUse = word.InUse
spare_word Broken = word.Broken

abbrev pub word_at : Option SpareStatus → StateWord
word_at None = word.Absent
word_at (Some x) = spare_word x.state

abbrev pub first_word : List SpareStatus → Option SliceName → StateWord
first_word states None = word.Absent
first_word states (Some s) = word_at (state_of states s)

abbrev pub is_stateless : List SpareStatus → SliceName → Bool
is_stateless states s = not (is_some (state_of states s))

-- the state that is told: that one is in no pool, else that of the first that isn't Broken
abbrev pub unbroken_word : List SpareStatus → List SliceName → StateWord
unbroken_word states slices = if list_any (is_stateless states) slices then word.Absent else first_word states (find (is_unbroken states) slices)
