-- The smallest slot of some places.
use Rattle.std.proofs.Common.{◌≡◌, ◌<◌, ◌≤◌, ℕ, zero, suc, Bool, true, false, cond, min, refl, ◌∙◌, subst, List, [], ◌∷◌, ◌++◌, length, get_or, Contains, arith}
use Rattle.std.specs.Prelude.{not}
use Rattle.std.specs.List.{list_any}
use Rattle.mdv_config.proofs.Beside.{among-true}
use Rattle.mdv_encoding.specs.Below.{Place, Lists, One, Two, beside, last_of, places_of, same_place}
use Rattle.mdv_encoding.specs.Room.{least_room, least_slot_bytes, slot_room}

-- a slot of the longest place has so many blocks
pub room_most : (places : List Place) → least_room places ≤ 4094
room_most [] = omega arith
room_most (p ∷ ps) = omega (arith, room_most ps)

room_both : (xs ys : List Place) → least_room (xs ++ ys) ≡ min (least_room xs) (least_room ys)
room_both [] ys = omega (arith, room_most ys)
room_both (x ∷ xs) ys = omega (arith, room_both xs ys)

-- no slot of a place is smaller than the smallest
room_within : (ps : List Place) (p : Place) → Contains ps p → least_room ps ≤ slot_room p.blocks
room_within ps p has = subst (λ (q : Place). least_room ps ≤ slot_room q.blocks) has.2 (room_at ps has.0 p has.1)
  where
    room_at : (qs : List Place) (i : ℕ) (d : Place) → i < length qs → least_room qs ≤ slot_room (get_or qs i d).blocks
    room_at [] i d within = absurd (omega arith)
    room_at (q ∷ qs) zero d within = omega arith
    room_at (q ∷ qs) (suc i) d within = omega (arith, room_at qs i d (omega arith))

room_beside : (old new : List Place) → min (least_room old) (least_room (beside old new)) ≡ min (least_room old) (least_room new)
room_beside old [] = refl
room_beside old (x ∷ xs) = one (list_any (same_place x) old) (λ is. room_within old x ((among-true old x).0 is)) (room_beside old xs)
  where
    one : (there : Bool) → (there ≡ true → least_room old ≤ slot_room x.blocks) → min (least_room old) (least_room (beside old xs)) ≡ min (least_room old) (least_room xs) → min (least_room old) (least_room (cond (not there) (x ∷ beside old xs) (beside old xs))) ≡ min (least_room old) (min (slot_room x.blocks) (least_room xs))
    one true known same = omega (arith, same, known refl)
    one false known same = omega (arith, same)

-- each listed place counts once or twice
pub room_each : (old new : List Place) → least_room (old ++ beside old new) ≡ min (least_room old) (least_room new)
room_each old new = room_both old (beside old new) ∙ room_beside old new

-- the list that comes has no smaller slot
pub last_room : (l : Lists) → least_slot_bytes (places_of l) ≤ least_slot_bytes (last_of l)
last_room (One places) = omega arith
last_room (Two old new) = omega (arith, room_each old new)
