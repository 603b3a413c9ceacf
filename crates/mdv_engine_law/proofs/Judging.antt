-- The refusal of a creation, and of places that go, by its causes in the one order.
use Rattle.std.proofs.Common.{◌≡◌, ◌+◌, ◌*◌, ℕ, Bool, true, false, ◌&&◌, ◌||◌, not, if◌then◌else◌, List, [], ◌∷◌, ◌++◌, length, Option, Some, None, refl, sym, ◌∙◌, ap}
use Rattle.std.specs.Prelude.{is_some, nat_lt}
use Rattle.std.specs.List.{list_any}
use Rattle.std.proofs.lemmas.List.{append-nil}
use Rattle.mdv_base.specs.Order.{first_refusal, where_so}
use Rattle.mdv_name.specs.SliceIndex.{slice_at}
use Rattle.mdv_engine_law.specs.Below.{SliceName, Refusal, NeedForce, NoSuchSlice, Opened, SliceInUse, TooMany, TooSmall, WrongKind, WrongState, Absent, Down, Place, ReplicaFull, StateWord, AddPlaces}
use Rattle.mdv_engine_law.specs.Refusals.{Case, held_of_drop, held_of_less, held_of_lists, held_of_others, in_state, rest_of, state_of_less, told_of_lists, told_of_others, is_doubled, is_missing, is_plain, is_short, is_taken, places_open, refusal_of}
use Rattle.mdv_base.proofs.Order.{full_is_last}
use Rattle.std.specs.Option.{option_or, unwrap_or}
use Rattle.mdv_engine_law.specs.Places.{are_all, bytes_with, list_more, list_of, room_with}
use Rattle.mdv_engine_law.proofs.Ordered.{Held, first_is_told, first_told, holding}

-- the causes of replicas, each by whether it holds
abbrev pub causes_of : Bool → Bool → Bool → Bool → Bool → Bool → Bool → List Held
causes_of missing plain down many unforced taken small =
    record { holds = missing; refusal = NoSuchSlice }
    ∷ record { holds = plain; refusal = WrongKind }
    ∷ record { holds = down; refusal = WrongState Down }
    ∷ record { holds = many; refusal = TooMany }
    ∷ record { holds = unforced; refusal = NeedForce }
    ∷ record { holds = taken; refusal = SliceInUse }
    ∷ record { holds = small; refusal = TooSmall }
    ∷ []

-- the first that holds
abbrev pub told_of_replicas : Bool → Bool → Bool → Bool → Bool → Bool → Bool → Option Refusal
told_of_replicas missing plain down many unforced taken small = first_told (causes_of missing plain down many unforced taken small)

last_holds : (small : Bool) → where_so small TooSmall ≡ where_so small TooSmall ++ []
last_holds small = sym (append-nil (where_so small TooSmall))

or_none : (told : Option Refusal) → told ≡ option_or told None
or_none None = refl
or_none (Some r) = refl

-- where something speaks against it that stands last
pub lists_told : (o : Opened) (list : List Place) (held : List Refusal) (told : Option Refusal) → first_refusal held ≡ told → first_refusal (held ++ held_of_lists o list) ≡ option_or told (told_of_lists o list)
lists_told o list held told is = by (nat_lt room bytes) where
  bytes : ℕ
  bytes = bytes_with o list

  room : ℕ
  room = room_with o list

  by : (long : Bool) → first_refusal (held ++ where_so long (ReplicaFull bytes room)) ≡ option_or told (if long then Some (ReplicaFull bytes room) else None)
  by true = full_is_last held bytes room ∙ ap (λ (t : Option Refusal). option_or t (Some (ReplicaFull bytes room))) is
  by false = ap first_refusal (append-nil held) ∙ is ∙ or_none told

either_told : (opened : Option Opened) (slices : List SliceName) (count blocks : ℕ) (held : List Refusal) (told : Option Refusal) → first_refusal held ≡ told
    → first_refusal (held ++ held_of_others opened slices count blocks) ≡ option_or told (told_of_others opened slices count blocks)
either_told None slices count blocks held told is = ap first_refusal (append-nil held) ∙ is ∙ or_none told
either_told (Some o) slices count blocks held told is = lists_told o (list_more slices count blocks (list_of o)) held told is

module _ (missing plain down many unforced taken small : Bool) where
  abbrev causes : List Held
  causes = causes_of missing plain down many unforced taken small

  abbrev all_held : List Refusal
  all_held =
      where_so missing NoSuchSlice ++ (where_so plain WrongKind ++ (where_so down (WrongState Down) ++ (where_so many TooMany ++ (where_so unforced NeedForce ++ (where_so taken SliceInUse ++ where_so small TooSmall)))))

  all_hold : all_held ≡ holding causes
  all_hold =
      ap (λ (l : List Refusal). where_so missing NoSuchSlice ++ (where_so plain WrongKind ++ (where_so down (WrongState Down) ++ (where_so many TooMany ++ (where_so unforced NeedForce ++ (where_so taken SliceInUse ++ l)))))) (last_holds small)

  replicas_told : (opened : Option Opened) (slices : List SliceName) (count blocks : ℕ) → first_refusal (all_held ++ held_of_others opened slices count blocks) ≡ option_or (first_told causes) (told_of_others opened slices count blocks)
  replicas_told opened slices count blocks = either_told opened slices count blocks all_held (first_told causes) (ap first_refusal all_hold ∙ first_is_told causes refl)

-- A body that looks at these causes one behind another tells the refusal of a creation.
pub creation_is_told : (case : Case) (slices : List SliceName) (force : Bool) (count blocks : ℕ)
    → refusal_of case (AddPlaces slices force count blocks)
    ≡ option_or
    (told_of_replicas (list_any (is_missing case.host) slices) (list_any (λ slice. is_plain (slice_at case.host.drives.slices slice)) slices) (not (is_some case.memory.opened) && not case.memory.clean)
    (nat_lt 50 (length (places_open case.memory.opened) + length slices * count)) (not (is_some case.memory.opened) && not force) (list_any (is_taken case) slices || is_doubled slices) (list_any (is_short case.host count blocks) slices))
    (told_of_others case.memory.opened slices count blocks)
creation_is_told case slices force count blocks =
    replicas_told (list_any (is_missing case.host) slices) (list_any (λ slice. is_plain (slice_at case.host.drives.slices slice)) slices) (not (is_some case.memory.opened) && not case.memory.clean)
    (nat_lt 50 (length (places_open case.memory.opened) + length slices * count)) (not (is_some case.memory.opened) && not force) (list_any (is_taken case) slices || is_doubled slices) (list_any (is_short case.host count blocks) slices)
    case.memory.opened slices count blocks

-- the causes that speak against places that go
abbrev pub less_causes : Bool → Bool → Option StateWord → Bool → List Held
less_causes missing plain state unforced =
    record { holds = missing; refusal = NoSuchSlice }
    ∷ record { holds = plain; refusal = WrongKind }
    ∷ record { holds = is_some state; refusal = WrongState (unwrap_or state Absent) }
    ∷ record { holds = unforced; refusal = NeedForce }
    ∷ []

-- the first that holds
abbrev pub told_of_less : Bool → Bool → Option StateWord → Bool → Option Refusal
told_of_less missing plain state unforced = first_told (less_causes missing plain state unforced)

state_is : (state : Option StateWord) → in_state state ≡ where_so (is_some state) (WrongState (unwrap_or state Absent))
state_is None = refl
state_is (Some word) = refl

module _ (missing plain unforced : Bool) (state : Option StateWord) where
  abbrev less_held : List Refusal
  less_held = where_so missing NoSuchSlice ++ (where_so plain WrongKind ++ (in_state state ++ where_so unforced NeedForce))

  less_hold : less_held ≡ holding (less_causes missing plain state unforced)
  less_hold =
      let last : where_so unforced NeedForce ≡ where_so unforced NeedForce ++ [] = sym (append-nil (where_so unforced NeedForce)) in
      λ i. where_so missing NoSuchSlice ++ (where_so plain WrongKind ++ (state_is state i ++ last i))

  less_told : first_refusal less_held ≡ told_of_less missing plain state unforced
  less_told = ap first_refusal less_hold ∙ first_is_told (less_causes missing plain state unforced) refl

-- A body that looks at these causes one behind another tells the refusal where places are to go.
pub drop_is_told : (case : Case) (o : Opened) (slices : List SliceName) (force : Bool)
    → first_refusal (held_of_drop case (Some o) slices force)
    ≡ option_or (told_of_less (list_any (is_missing case.host) slices) (list_any (λ slice. is_plain (slice_at case.host.drives.slices slice)) slices) (state_of_less case o slices) (are_all o slices && not force)) (told_of_lists o (rest_of o slices))
drop_is_told case o slices force =
    let missing = list_any (is_missing case.host) slices in
    let plain = list_any (λ slice. is_plain (slice_at case.host.drives.slices slice)) slices in
    let unforced = are_all o slices && not force in
    let state = state_of_less case o slices in
    lists_told o (rest_of o slices) (held_of_less case o slices force) (told_of_less missing plain state unforced) (less_told missing plain unforced state)
