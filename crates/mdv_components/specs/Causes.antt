-- The causes of all changes, in the order of `Rattle.mdv_base.specs.Order`, which `Ordered` says, and the refusal that is told for each.
use Rattle.std.specs.Prelude.{Bool, List, [], ◌∷◌, ◌++◌, Option, None, Some, if◌then◌else◌}
use Rattle.mdv_base.specs.declared.refusal.Refusal.TheVariants as refusal
use Rattle.mdv_base.specs.declared.state_word.StateWord.TheVariants.{Okay}
use Rattle.mdv_components.specs.Below.{Refusal}
use Rattle.mdv_components.specs.declared.cause.Cause.{Cause}
use Rattle.mdv_components.specs.declared.cause.Carried.{Carried}
use Rattle.mdv_components.specs.declared.cause.Cause.TheVariants.{NoSuchVolume, NoSuchPool, NoSuchSlice, NameTaken, WrongKind, WrongState, LastCopy, TooFew, TooMany, BadInterlace, SliceInUse, HasParent, Nested, SpareInUse, TooSmall, NoSpace}

-- of what is named, and of its kind and state
abbrev pub name_causes : List Cause
name_causes = NoSuchVolume ∷ NoSuchPool ∷ NoSuchSlice ∷ NameTaken ∷ WrongKind ∷ WrongState ∷ LastCopy ∷ []

abbrev pub form_causes : List Cause
form_causes = TooFew ∷ TooMany ∷ BadInterlace ∷ []

abbrev pub use_causes : List Cause
use_causes = SliceInUse ∷ HasParent ∷ Nested ∷ SpareInUse ∷ []

abbrev pub room_causes : List Cause
room_causes = TooSmall ∷ NoSpace ∷ []

-- the order in which causes are told, the same for all changes
abbrev pub order : List Cause
order = name_causes ++ (form_causes ++ (use_causes ++ room_causes))

-- the first of the causes that holds
abbrev pub first_of : (Cause → Bool) → List Cause → Option Cause
first_of holds [] = None
first_of holds (c ∷ cs) = if holds c then Some c else first_of holds cs

-- of a change that is refused neither for a state nor for want of blocks
abbrev pub nothing : Carried
nothing = record { state = Okay; blocks = 0 }

-- the refusal that is told for a cause, with the state that stands in the way or the blocks that there would be
abbrev pub told : Carried → Cause → Refusal
told carried NoSuchVolume = refusal.NoSuchVolume
told carried NoSuchPool = refusal.NoSuchPool
told carried NoSuchSlice = refusal.NoSuchSlice
told carried NameTaken = refusal.NameTaken
told carried WrongKind = refusal.WrongKind
told carried WrongState = refusal.WrongState carried.state
told carried LastCopy = refusal.LastCopy
told carried TooFew = refusal.TooFew
told carried TooMany = refusal.TooMany
told carried BadInterlace = refusal.BadInterlace
told carried SliceInUse = refusal.SliceInUse
told carried HasParent = refusal.HasParent
told carried Nested = refusal.Nested
told carried SpareInUse = refusal.SpareInUse
told carried TooSmall = refusal.TooSmall
told carried NoSpace = refusal.NoSpace carried.blocks
