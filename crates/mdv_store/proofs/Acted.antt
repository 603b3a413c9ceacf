-- What is done at places that are formatted touches only these.
use Rattle.std.proofs.Common.{◌≡◌, inl, inr, ℕ, zero, suc, ◌+◌, ◌-◌, ◌*◌, ◌<◌, ◌≤◌, Bool, true, false, if◌then◌else◌, List, [], ◌∷◌, ◌++◌, Contains, refl, sym, ◌∙◌, ap, subst, arith}
use Rattle.std.specs.Prelude.{flat_map, nat_lt}
use Rattle.std.specs.List.{list_any}
use Rattle.std.proofs.lemmas.Bool.{false_from_ne_true, false≢true}
use Rattle.std.proofs.lemmas.List.Folds.{list_any_at}
use Rattle.mdv_replica.specs.declared.replica.PlaceAt.{PlaceAt}
use Rattle.mdv_shelf.proofs.Frame.{kept_outside_more, kept_outside_same, kept_outside_wider, within_range}
use Rattle.mdv_acts.specs.Acts.{Act, AreDoing, AreDone, Blanks, Forms, IsDoing, IsDone, blanks_asked, blanks_behind, blanks_on, forms_asked, forms_from, forms_on}
use Rattle.mdv_store.specs.Below.{Area, Identity, Key, Replica, SliceLine, Tale, place_on, range}
use Rattle.mdv_store.specs.Create.{replica_on, seats_asked}
use Rattle.mdv_look.specs.Quiet.{IsQuiet}
use Rattle.mdv_store.specs.Seats.{replica_area, replicas_of, seats_area}
use Rattle.mdv_store.specs.declared.seats.Seat.{Seat}
use Rattle.mdv_store.proofs.Seated.{replicas_have}
use Rattle.mdv_store.proofs.Sitting.{contains_behind, contains_first}

-- Only these places are touched.
pub quiet_same : (area : Area) (t : Tale) → IsQuiet area t t
quiet_same area t = record { outside = kept_outside_same area t; quiet = refl }

pub quiet_more : (area : Area) (t u m : Tale) → IsQuiet area t u → IsQuiet area u m → IsQuiet area t m
quiet_more area t u m first second = record { outside = kept_outside_more area t u m first.outside second.outside; quiet = second.quiet ∙ first.quiet }

module _ (key : Key) (identity : Identity) (lines : List SliceLine) (count blocks claim : ℕ) (least : 16 ≤ blocks) where
  abbrev seats : List Seat
  seats = seats_asked key identity lines count blocks

  record IsPlace (at : PlaceAt) : Type 0 where
    line : SliceLine
    number : ℕ
    among : Contains lines line
    lt : number < count
    is : at ≡ place_on line blocks count number

  abbrev IsOn : Act → Type 0
  IsOn (Blanks at) = IsPlace at
  IsOn (Forms at master claim) = IsPlace at

  abbrev AreOn : List Act → Type 0
  AreOn [] = Unit {0}
  AreOn (a ∷ acts) = IsOn a × AreOn acts

  on_more : (xs ys : List Act) → AreOn xs → AreOn ys → AreOn (xs ++ ys)
  on_more [] ys one two = two
  on_more (a ∷ xs) ys one two = (one.0, on_more xs ys one.1 two)

  none_any : (p : Replica → Bool) (xs : List Replica) (x : Replica) → Contains xs x → list_any p xs ≡ false → p x ≡ false
  none_any p xs x has none = false_from_ne_true (p x) (λ is. false≢true (sym none ∙ list_any_at p xs has.0 x has.1 (ap p has.2 ∙ is)))

  -- a block outside the seats' is none of a place's head
  outside_head : (at : PlaceAt) → IsPlace at → (drive block : ℕ) → seats_area seats drive block ≡ false → range at.drive.0 at.first 4 drive block ≡ false
  outside_head at place drive block out =
      let line = place.line in
      let k = place.number in
      let one : replica_area (replica_on key identity line count blocks k) drive block ≡ false =
      none_any (λ (r : Replica). replica_area r drive block) (replicas_of seats) (replica_on key identity line count blocks k) (replicas_have key identity count blocks lines line k place.among place.lt) out in
      subst (λ (a : PlaceAt). range a.drive.0 a.first 4 drive block ≡ false) (sym place.is)
      (within_range line.at.drive.0 (line.at.start + (16 + k * blocks)) 4 (line.at.start + (16 + k * blocks)) blocks drive block (omega arith) (omega (arith, least)) one)

  outside_master : (at : PlaceAt) → IsPlace at → (drive block : ℕ) → seats_area seats drive block ≡ false → range at.drive.0 at.first 1 drive block ≡ false
  outside_master at place drive block out = within_range at.drive.0 at.first 1 at.first 4 drive block (omega arith) (omega arith) (outside_head at place drive block out)

  one_quiet : (a : Act) (t m : Tale) → IsOn a → IsDoing a t m → IsQuiet (seats_area seats) t m
  one_quiet (Blanks at) t m place doing = record { outside = kept_outside_wider (range at.drive.0 at.first 1) (seats_area seats) t m (outside_master at place) doing.outside; quiet = doing.quiet }
  one_quiet (Forms at master claim) t m place doing = record { outside = kept_outside_wider (range at.drive.0 at.first 4) (seats_area seats) t m (outside_head at place) doing.outside; quiet = doing.quiet }

  while_done : (a : Act) (t u : Tale) → IsDone a t u → IsDoing a t u
  while_done (Blanks at) t u done = done.0
  while_done (Forms at master claim) t u done = done.0

  doing_on : (acts : List Act) (t m : Tale) → AreOn acts → AreDoing acts t m → IsQuiet (seats_area seats) t m
  doing_on [] t m on is = subst (λ (w : Tale). IsQuiet (seats_area seats) t w) (sym is) (quiet_same (seats_area seats) t)
  doing_on (a ∷ acts) t m on (inl is) = subst (λ (w : Tale). IsQuiet (seats_area seats) t w) (sym is) (quiet_same (seats_area seats) t)
  doing_on (a ∷ acts) t m on (inr (inl doing)) = one_quiet a t m on.0 doing
  doing_on (a ∷ acts) t m on (inr (inr is)) = quiet_more (seats_area seats) t is.0 m (one_quiet a t is.0 on.0 (while_done a t is.0 is.1)) (doing_on acts is.0 m on.1 is.2)

  done_on : (acts : List Act) (t v : Tale) → AreOn acts → AreDone acts t v → IsQuiet (seats_area seats) t v
  done_on [] t v on is = subst (λ (w : Tale). IsQuiet (seats_area seats) t w) (sym is) (quiet_same (seats_area seats) t)
  done_on (a ∷ acts) t v on is = quiet_more (seats_area seats) t is.0 v (one_quiet a t is.0 on.0 (while_done a t is.0 is.1)) (done_on acts is.0 v on.1 is.2)

  -- all that is done is
  module _ (line : SliceLine) (among : Contains lines line) where
    at_place : (k : ℕ) → k < count → IsPlace (place_on line blocks count k)
    at_place k lt = record { line = line; number = k; among = among; lt = lt; is = refl }

    behind_on : (n : ℕ) → n < count → AreOn (blanks_behind line count blocks n)
    behind_on zero lt = tt
    behind_on (suc n) lt = (at_place (n + 1) (omega (arith, lt)), behind_on n (omega (arith, lt)))

    from_on : (k n : ℕ) → k + n ≤ count → AreOn (forms_from key identity claim line count blocks k n)
    from_on k zero within = tt
    from_on k (suc n) within = (at_place k (omega (arith, within)), from_on (k + 1) n (omega (arith, within)))

  all_blanks_on : (some : 1 ≤ count) (rest : List SliceLine) → ((l : SliceLine) → Contains rest l → Contains lines l) → AreOn (flat_map (blanks_on count blocks) rest)
  all_blanks_on some [] within = tt
  all_blanks_on some (l ∷ rest) within =
      on_more (blanks_on count blocks l) (flat_map (blanks_on count blocks) rest) (at_place l (within l (contains_first l rest)) 0 (omega (arith, some)), behind_on l (within l (contains_first l rest)) (count - 1) (omega (arith, some)))
      (all_blanks_on some rest (λ x has. within x (contains_behind l x rest has)))

  all_forms_on : (rest : List SliceLine) → ((l : SliceLine) → Contains rest l → Contains lines l) → AreOn (forms_asked key identity claim rest count blocks)
  all_forms_on [] within = tt
  all_forms_on (l ∷ rest) within =
      on_more (forms_on key identity claim count blocks l) (forms_asked key identity claim rest count blocks) (from_on l (within l (contains_first l rest)) 0 count (omega arith)) (all_forms_on rest (λ x has. within x (contains_behind l x rest has)))

  acts_on : 1 ≤ count → AreOn (blanks_asked lines count blocks ++ forms_asked key identity claim lines count blocks)
  acts_on some = on_more (blanks_asked lines count blocks) (forms_asked key identity claim lines count blocks) (by (nat_lt 1 count)) (all_forms_on lines (λ l has. has)) where
    by : (b : Bool) → AreOn (if b then flat_map (blanks_on count blocks) lines else [])
    by true = all_blanks_on some lines (λ l has. has)
    by false = tt

  pub acts_quiet : 1 ≤ count → (t m : Tale) → AreDoing (blanks_asked lines count blocks ++ forms_asked key identity claim lines count blocks) t m → IsQuiet (seats_area seats) t m
  acts_quiet some t m is = doing_on (blanks_asked lines count blocks ++ forms_asked key identity claim lines count blocks) t m (acts_on some) is

  pub acts_done_quiet : 1 ≤ count → (t v : Tale) → AreDone (blanks_asked lines count blocks ++ forms_asked key identity claim lines count blocks) t v → IsQuiet (seats_area seats) t v
  acts_done_quiet some t v is = done_on (blanks_asked lines count blocks ++ forms_asked key identity claim lines count blocks) t v (acts_on some) is
