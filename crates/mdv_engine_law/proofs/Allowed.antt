-- What is so where nothing refuses a creation.
use Rattle.std.proofs.Common.{◌≡◌, ◌≤◌, ◌+◌, ◌&&◌, ◌||◌, ◌*◌, not, if◌then◌else◌, ℕ, Bool, false, true, List, [], ◌∷◌, length, Option, Some, None, Contains, refl, sym, ◌∙◌, ap, arith}
use Rattle.std.specs.Prelude.{nat_lt, is_some}
use Rattle.std.specs.List.{list_any}
use Rattle.std.specs.Option.{option_or}
use Rattle.std.proofs.lemmas.Bool.{false≢true}
use Rattle.std.proofs.lemmas.Bool.Decides.{nat_tests}
use Rattle.std.proofs.lemmas.List.Folds.{list_any_at}
use Rattle.mdv_base.specs.Order.{first_refusal}
use Rattle.mdv_engine_law.specs.Below.{Absent, AddPlaces, Down, DropPlaces, Inactive, Opened, Place, Refusal, ReplicaFull, SliceName, StateWord}
use Rattle.mdv_engine_law.specs.Commands.{IsAllowed}
use Rattle.mdv_name.specs.SliceIndex.{slice_at}
use Rattle.mdv_plan.specs.Slices.{meets_db}
use Rattle.mdv_engine_law.specs.Places.{are_all, bytes_with, list_of, room_with}
use Rattle.mdv_engine_law.specs.Refusals.{Case, blocks_at, has_replica, held_of_drop, is_behind, is_doubled, is_down, is_missing, is_plain, is_short, is_taken, is_without, places_open, rest_of, state_of_less, told_of_lists, told_of_others}
use Rattle.mdv_store.specs.Shares.{short_in}
use Rattle.mdv_store.specs.declared.seats.Need.TheVariants.{Half}
use Rattle.mdv_store.specs.declared.seats.Share.{Share}
use Rattle.mdv_engine_law.proofs.Judging.{causes_of, creation_is_told, drop_is_told, less_causes, told_of_less}
use Rattle.mdv_engine_law.proofs.Ordered.{Held, first_told}

pub not_not : (b : Bool) → not b ≡ false → b ≡ true
not_not true is = refl
not_not false is = absurd (cc (is))

pub either_left : (a b : Bool) → a || b ≡ false → a ≡ false
either_left true b is = absurd (cc (is))
either_left false b is = refl

pub either_right : (a b : Bool) → a || b ≡ false → b ≡ false
either_right true b is = absurd (cc (is))
either_right false b is = is

enough : (blocks least : ℕ) → nat_lt blocks least ≡ false → least ≤ blocks
enough blocks least is = grind (arith, nat_tests)

-- none of them passes the test
pub none_passes : {X : Type 0} (p : X → Bool) (xs : List X) → list_any p xs ≡ false → (x : X) → Contains xs x → p x ≡ false
none_passes p xs none x has = by (p x) refl where
  by : (b : Bool) → p x ≡ b → p x ≡ false
  by false is = is
  by true is = absurd (false≢true (sym none ∙ list_any_at p xs has.0 x has.1 (ap p has.2 ∙ is)))

-- where none is told none holds
none_more : (told more : Option Refusal) → option_or told more ≡ None → told ≡ None
none_more None more is = refl
none_more (Some r) more is = absurd (cc (is))

none_behind : (told more : Option Refusal) → option_or told more ≡ None → more ≡ None
none_behind None more is = is
none_behind (Some r) more is = absurd (cc (is))

abbrev NoneHold : List Held → Type 0
NoneHold [] = Unit {0}
NoneHold (c ∷ cs) = (c.holds ≡ false) × NoneHold cs

none_hold : (cs : List Held) → first_told cs ≡ None → NoneHold cs
none_hold [] is = tt
none_hold (c ∷ cs) is = by c.holds is (none_hold cs) where
  by : (holds : Bool) → (if holds then Some c.refusal else first_told cs) ≡ None → (first_told cs ≡ None → NoneHold cs) → (holds ≡ false) × NoneHold cs
  by true is rest = absurd (cc (is))
  by false is rest = (refl, rest is)

module _ (case : Case) (slices : List SliceName) (force : Bool) (count blocks : ℕ) (free : IsAllowed case (AddPlaces slices force count blocks)) where
  abbrev opened : Bool
  opened = is_some case.memory.opened

  abbrev causes : List Held
  causes =
      causes_of (list_any (is_missing case.host) slices) (list_any (λ slice. is_plain (slice_at case.host.drives.slices slice)) slices) (not opened && not case.memory.clean) (nat_lt 50 (length (places_open case.memory.opened) + length slices * count)) (not opened && not force)
      (list_any (is_taken case) slices || is_doubled slices) (list_any (is_short case.host count blocks) slices)

  both : NoneHold causes
  both = none_hold causes (none_more (first_told causes) (told_of_others case.memory.opened slices count blocks) (sym (creation_is_told case slices force count blocks) ∙ free))

  -- where no database is open, no call failed in the last boot; and there are fifty places at most
  pub allowed_clean : case.memory.opened ≡ None → case.memory.clean ≡ true
  allowed_clean none = by opened case.memory.clean (ap is_some none) both.1.1.0 where
    by : (a b : Bool) → a ≡ false → not a && not b ≡ false → b ≡ true
    by true b some is = absurd (cc (some))
    by false b some is = not_not b is

  pub allowed_few : length slices * count ≤ 50
  allowed_few = (let few = enough 50 (length (places_open case.memory.opened) + length slices * count) both.1.1.1.0 in omega (arith, few))

  -- with those that are open
  pub allowed_beside : length (places_open case.memory.opened) + length slices * count ≤ 50
  allowed_beside = enough 50 (length (places_open case.memory.opened) + length slices * count) both.1.1.1.0

  -- none of these lies on one of the slices
  pub allowed_apart : (slice : SliceName) → Contains slices slice → has_replica case.memory.opened slice ≡ false
  allowed_apart slice has =
      let free_of = none_passes (is_taken case) slices (either_left (list_any (is_taken case) slices) (is_doubled slices) both.1.1.1.1.1.0) slice has in
      either_right (meets_db case.host.drives slice) (has_replica case.memory.opened slice) free_of

  -- and the record of both lists isn't too long
  pub allowed_lists : told_of_others case.memory.opened slices count blocks ≡ None
  allowed_lists = none_behind (first_told causes) (told_of_others case.memory.opened slices count blocks) (sym (creation_is_told case slices force count blocks) ∙ free)

  -- each of the slices is there, is set aside for replicas, and meets no other one that is; none is named twice
  pub allowed_slice : (slice : SliceName) → Contains slices slice → is_some (slice_at case.host.drives.slices slice) ≡ true
  allowed_slice slice has = not_not (is_some (slice_at case.host.drives.slices slice)) (none_passes (is_missing case.host) slices both.0 slice has)

  pub allowed_aside : (slice : SliceName) → Contains slices slice → is_plain (slice_at case.host.drives.slices slice) ≡ false
  allowed_aside slice has = none_passes (λ (s : SliceName). is_plain (slice_at case.host.drives.slices s)) slices both.1.0 slice has

  pub allowed_clear : (slice : SliceName) → Contains slices slice → meets_db case.host.drives slice ≡ false
  allowed_clear slice has =
      let free_of = none_passes (is_taken case) slices (either_left (list_any (is_taken case) slices) (is_doubled slices) both.1.1.1.1.1.0) slice has in
      either_left (meets_db case.host.drives slice) (has_replica case.memory.opened slice) free_of

  pub allowed_once : is_doubled slices ≡ false
  allowed_once = either_right (list_any (is_taken case) slices) (is_doubled slices) both.1.1.1.1.1.0

  -- and has room
  pub allowed_room : (slice : SliceName) → Contains slices slice → 16 + count * blocks ≤ blocks_at (slice_at case.host.drives.slices slice)
  allowed_room slice has = enough (blocks_at (slice_at case.host.drives.slices slice)) (16 + count * blocks) (none_passes (is_short case.host count blocks) slices both.1.1.1.1.1.1.0 slice has)

-- where a record isn't too long
pub fits_room : (o : Opened) (list : List Place) → told_of_lists o list ≡ None → bytes_with o list ≤ room_with o list
fits_room o list none = by (nat_lt (room_with o list) (bytes_with o list)) refl none where
  by : (long : Bool) → nat_lt (room_with o list) (bytes_with o list) ≡ long → (if long then Some (ReplicaFull (bytes_with o list) (room_with o list)) else None) ≡ None → bytes_with o list ≤ room_with o list
  by true is none = absurd (cc (none))
  by false is none = enough (room_with o list) (bytes_with o list) is

-- by the state of places nothing speaks against it
no_state : (a b c d : Bool) → (if a then Some Absent else if b then Some Down else if c then Some Inactive else if d then Some Inactive else None) ≡ None → (a ≡ false) × (b ≡ false) × (c ≡ false) × (d ≡ false)
no_state true b c d is = absurd (cc (is))
no_state false true c d is = absurd (cc (is))
no_state false false true d is = absurd (cc (is))
no_state false false false true is = absurd (cc (is))
no_state false false false false is = (refl, refl, refl, refl)

-- What is so where nothing refuses that places go.
module _ (case : Case) (o : Opened) (opened : case.memory.opened ≡ Some o) (slices : List SliceName) (force : Bool) (free : IsAllowed case (DropPlaces slices force)) where
  told : option_or (told_of_less (list_any (is_missing case.host) slices) (list_any (λ slice. is_plain (slice_at case.host.drives.slices slice)) slices) (state_of_less case o slices) (are_all o slices && not force)) (told_of_lists o (rest_of o slices)) ≡ None
  told = sym (drop_is_told case o slices force) ∙ (ap (λ (x : Option Opened). first_refusal (held_of_drop case x slices force)) (sym opened) ∙ free)

  none_less : NoneHold (less_causes (list_any (is_missing case.host) slices) (list_any (λ slice. is_plain (slice_at case.host.drives.slices slice)) slices) (state_of_less case o slices) (are_all o slices && not force))
  none_less = none_hold (less_causes (list_any (is_missing case.host) slices) (list_any (λ slice. is_plain (slice_at case.host.drives.slices slice)) slices) (state_of_less case o slices) (are_all o slices && not force))
      (none_more (told_of_less (list_any (is_missing case.host) slices) (list_any (λ slice. is_plain (slice_at case.host.drives.slices slice)) slices) (state_of_less case o slices) (are_all o slices && not force)) (told_of_lists o (rest_of o slices)) told)

  state : state_of_less case o slices ≡ None
  state = by (state_of_less case o slices) none_less.1.1.0 where
    by : (word : Option StateWord) → is_some word ≡ false → word ≡ None
    by None is = refl
    by (Some word) is = absurd (cc (is))

  parts : (list_any (is_without o) slices ≡ false) × ((are_all o slices && list_any (is_down case.host case.memory.up) (list_of o)) ≡ false) × (is_some (short_in Half o.seats (rest_of o slices)) ≡ false) × ((are_all o slices && is_behind (list_of o)) ≡ false)
  parts = no_state (list_any (is_without o) slices) (are_all o slices && list_any (is_down case.host case.memory.up) (list_of o)) (is_some (short_in Half o.seats (rest_of o slices))) (are_all o slices && is_behind (list_of o)) state

  -- the record of both lists isn't too long, and at least half of the list that comes is active
  pub dropped_fits : bytes_with o (rest_of o slices) ≤ room_with o (rest_of o slices)
  dropped_fits = fits_room o (rest_of o slices) (none_behind (told_of_less (list_any (is_missing case.host) slices) (list_any (λ slice. is_plain (slice_at case.host.drives.slices slice)) slices) (state_of_less case o slices) (are_all o slices && not force)) (told_of_lists o (rest_of o slices)) told)

  pub dropped_enough : short_in Half o.seats (rest_of o slices) ≡ None
  dropped_enough = by (short_in Half o.seats (rest_of o slices)) parts.2 where
    by : (share : Option Share) → is_some share ≡ false → share ≡ None
    by None is = refl
    by (Some share) is = absurd (cc (is))

  -- where all go, force is there, and the first place is the first of its slice
  pub dropped_forced : are_all o slices ≡ true → force ≡ true
  dropped_forced all = by (are_all o slices) force all none_less.1.1.1.0 where
    by : (a b : Bool) → a ≡ true → (a && not b) ≡ false → b ≡ true
    by true b is none = not_not b none
    by false b is none = absurd (cc (is))

  pub dropped_front : are_all o slices ≡ true → is_behind (list_of o) ≡ false
  dropped_front all = by (are_all o slices) (is_behind (list_of o)) all parts.3 where
    by : (a b : Bool) → a ≡ true → (a && b) ≡ false → b ≡ false
    by true b is none = none
    by false b is none = absurd (cc (is))
