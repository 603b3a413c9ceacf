-- Where the first place alone is left it is active, so the database may end then.
use Rattle.std.proofs.Common.{◌≡◌, ◌≤◌, ℕ, Bool, List, [], ◌∷◌, length, map, take, None, Option, Some, refl, ◌∙◌, ap, subst, arith}
use Rattle.std.specs.List.{cons_option}
use Rattle.mdv_store.proofs.Shares.{first_enough}
use Rattle.mdv_store.proofs.Sitting.{left_places}
use Rattle.mdv_store.specs.Listing.{MayList}
use Rattle.mdv_store.specs.Shares.{short_of}
use Rattle.mdv_store.specs.declared.seats.Need.TheVariants.{Half}
use Rattle.mdv_places.specs.Asked.{KeepsFirst, lists_after}
use Rattle.mdv_places.specs.Below.{Failures, Geometry, Lists, One, Opened, Place, Replica, Seat, active_of, last_of}
use Rattle.mdv_places.specs.Changing.{MayMove}
use Rattle.mdv_places.specs.Ending.{IsSole}
use Rattle.mdv_places.specs.Outcomes.{IsMoved, TakesBoth, seats_coming, till_wiped}
use Rattle.mdv_places.proofs.Adding.{place_of_seat}
use Rattle.mdv_places.proofs.Moving.{coming_places}

active : (o : Option Replica) → 1 ≤ length (cons_option o []) → (r : Replica) × (o ≡ Some r)
active None some = absurd (omega (arith, some))
active (Some r) some = (r, refl)

one_seat : (p : Place) (seats : List Seat) → map place_of_seat seats ≡ p ∷ [] → 1 ≤ active_of seats → (r : Replica) × (seats ≡ (record { place = p; replica = Some r }) ∷ [])
one_seat p [] is some = absurd (omega (arith, ap length is))
one_seat p (s ∷ []) is some =
    let r = active s.replica some in
    let same : s.place ≡ p = cc (is) in
    (r.0, λ i. (record { place = same i; replica = r.1 i }) ∷ [])
one_seat p (s ∷ (n ∷ ns)) is some = absurd (omega (arith, ap length is))

first_alone : (l : List Place) → 1 ≤ length (take 1 l) → (p : Place) × (take 1 l ≡ p ∷ [])
first_alone [] some = absurd (omega (arith, some))
first_alone (x ∷ xs) some = (x, refl)

pub sole_left : (calls : ℕ → Failures) (sizes : List ℕ) (g : Geometry) (o : Opened) → MayMove sizes g o KeepsFirst → MayList o (lists_after KeepsFirst o.table.plan.lists) → (new : Opened) (clean : Bool) → IsMoved calls g o KeepsFirst new clean → IsSole new
sole_left calls sizes g o may checked new clean m =
    let p = first_alone (last_of o.table.plan.lists) may.some in
    let lists : new.table.plan.lists ≡ One (p.0 ∷ []) = ap (λ (b : Opened). b.table.plan.lists) m.is ∙ ap One p.1 in
    let places = left_places (till_wiped calls g o KeepsFirst) (TakesBoth calls g o KeepsFirst) (seats_coming calls g o KeepsFirst) new.seats m.left ∙ coming_places sizes g o KeepsFirst may checked ∙ p.1 in
    let some = first_enough Half new.seats (One (p.0 ∷ [])) (omega arith) (subst (λ (l : Lists). short_of Half new.seats l ≡ None) lists m.enough) in
    let seat = one_seat p.0 new.seats places some in
    record { place = p.0; replica = seat.0; only = lists; seats = seat.1 }
