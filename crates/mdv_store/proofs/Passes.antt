-- What passes over seats leave of them, one behind another.
use Rattle.std.proofs.Common.{◌≡◌, ◌⊎◌, inl, inr, ℕ, ◌<◌, ◌≤◌, false, List, [], ◌∷◌, Option, None, Some, MatchOption, Contains, length, map, nat_eq, refl, sym, ◌∙◌, subst, ap, arith}
use Rattle.std.proofs.lemmas.Bool.{ne_eqb}
use Rattle.std.specs.List.{cons_option, list_any}
use Rattle.mdv_base.specs.Causes.{RoseOnce, failures_of}
use Rattle.mdv_shelf.proofs.Frame.{neither}
use Rattle.mdv_shelf.proofs.Settled.{synced_still}
use Rattle.mdv_store_law.specs.Part.{IsPart}
use Rattle.mdv_store.specs.Below.{DriveNo, Failures, Head, IsSynced, KeptOutside, Open, Replica, Slot, First, Second, Tale, with_slot}
use Rattle.mdv_store.specs.Boot.{TakesBoth}
use Rattle.mdv_store.specs.Seats.{AreLeft, IsSpareOf, TakesClaim, TakesSlot, active_of, drive_of, drives_of, replica_area, replicas_of, seats_area, spot_of, spots_of}
use Rattle.mdv_store.specs.declared.seats.Seat.{Seat}
use Rattle.mdv_look.proofs.Among.{is_one_of}
use Rattle.mdv_look.proofs.Bringing.{same_drive}
use Rattle.mdv_store.proofs.Sitting.{contains_behind, contains_first, first_or_behind}

-- what a map has
pub mapped : {X Y : Type 0} (f : X → Y) (xs : List X) (x : X) → Contains xs x → Contains (map f xs) (f x)
mapped f [] x has = absurd (omega (arith, has.1))
mapped f (y ∷ ys) x has = elim (first_or_behind y x ys has) [ inl here ↦ subst (λ z. Contains (f y ∷ map f ys) z) (ap f here) (contains_first (f y) (map f ys)) | inr there ↦ contains_behind (f y) (f x) (map f ys) (mapped f ys x there) ]

pub unmapped : {X Y : Type 0} (f : X → Y) (xs : List X) (y : Y) → Contains (map f xs) y → (x : X) × Contains xs x × (f x ≡ y)
unmapped f [] y has = absurd (omega (arith, has.1))
unmapped f (x ∷ xs) y has = elim (first_or_behind (f x) y (map f xs) has) [
  | inl here ↦ (x, contains_first x xs, here)
  | inr there ↦ (let rest = unmapped f xs y there in (rest.0, contains_behind x rest.0 xs rest.1, rest.2))
]

module _ (failed : ℕ → Failures) (Took : Replica → Replica → Type 0) where
  left_head : (s n : Option Replica) (ss ns : List Replica) → MatchOption s (n ≡ None) (λ (r : Replica). MatchOption n (failed (drive_of r)).some (λ (m : Replica). (failed (drive_of r)).none × Took r m))
      → ((m : Replica) → Contains ns m → (r : Replica) × Contains ss r × (failed (drive_of r)).none × Took r m)
      → (m : Replica) → Contains (cons_option n ns) m → (r : Replica) × Contains (cons_option s ss) r × (failed (drive_of r)).none × Took r m
  left_head None n ss ns is rest m has = rest m (subst (λ (o : Option Replica). Contains (cons_option o ns) m) is has)
  left_head (Some r) None ss ns is rest m has = (let one = rest m has in (one.0, contains_behind r one.0 ss one.1, one.2, one.3))
  left_head (Some r) (Some x) ss ns is rest m has = elim (first_or_behind x m ns has) [
    | inl here ↦ (r, contains_first r ss, is.0, subst (λ (y : Replica). Took r y) here is.1)
    | inr there ↦ (let one = rest m there in (one.0, contains_behind r one.0 ss one.1, one.2, one.3))
  ]

  -- one that is left was there before, and no call on its drive failed
  pub left_calm : (old new : List Seat) → AreLeft failed Took old new → (m : Replica) → Contains (replicas_of new) m → (r : Replica) × Contains (replicas_of old) r × (failed (drive_of r)).none × Took r m
  left_calm [] [] are m has = absurd (omega (arith, has.1))
  left_calm [] (n ∷ new) are m has = absurd are
  left_calm (s ∷ old) [] are m has = absurd are
  left_calm (s ∷ old) (n ∷ new) are m has = left_head s.replica n.replica (replicas_of old) (replicas_of new) are.0.1 (left_calm old new are.1) m has

  told_head : (s n : Option Replica) (ss ns : List Replica) → MatchOption s (n ≡ None) (λ (r : Replica). MatchOption n (failed (drive_of r)).some (λ (m : Replica). (failed (drive_of r)).none × Took r m))
      → ((r : Replica) → Contains ss r → (failed (drive_of r)).some ⊎ ((m : Replica) × Contains ns m × (failed (drive_of r)).none × Took r m))
      → (r : Replica) → Contains (cons_option s ss) r → (failed (drive_of r)).some ⊎ ((m : Replica) × Contains (cons_option n ns) m × (failed (drive_of r)).none × Took r m)
  told_head None n ss ns is rest r has = elim (rest r has) [ inl lost ↦ inl lost | inr left ↦ inr (left.0, subst (λ (o : Option Replica). Contains (cons_option o ns) left.0) (sym is) left.1, left.2, left.3) ]
  told_head (Some x) None ss ns is rest r has = elim (first_or_behind x r ss has) [ inl here ↦ inl (subst (λ (y : Replica). (failed (drive_of y)).some) here is) | inr there ↦ rest r there ]
  told_head (Some x) (Some y) ss ns is rest r has = elim (first_or_behind x r ss has) [
    | inl here ↦ inr (y, contains_first y ns, subst (λ (z : Replica). (failed (drive_of z)).none) here is.0, subst (λ (z : Replica). Took z y) here is.1)
    | inr there ↦ elim (rest r there) [ inl lost ↦ inl lost | inr left ↦ inr (left.0, contains_behind y left.0 ns left.1, left.2, left.3) ]
  ]

  -- each that was there is left, or a call on its drive failed
  pub left_told : (old new : List Seat) → AreLeft failed Took old new → (r : Replica) → Contains (replicas_of old) r → (failed (drive_of r)).some ⊎ ((m : Replica) × Contains (replicas_of new) m × (failed (drive_of r)).none × Took r m)
  left_told [] [] are r has = absurd (omega (arith, has.1))
  left_told [] (n ∷ new) are r has = absurd are
  left_told (s ∷ old) [] are r has = absurd are
  left_told (s ∷ old) (n ∷ new) are r has = told_head s.replica n.replica (replicas_of old) (replicas_of new) are.0.1 (left_told old new are.1) r has

  most_head : (s n : Option Replica) (ss ns : List Replica) → MatchOption s (n ≡ None) (λ (r : Replica). MatchOption n (failed (drive_of r)).some (λ (m : Replica). (failed (drive_of r)).none × Took r m)) → length ns ≤ length ss → length (cons_option n ns) ≤ length (cons_option s ss)
  most_head None n ss ns is rest = subst (λ (o : Option Replica). length (cons_option o ns) ≤ length ss) (sym is) rest
  most_head (Some x) None ss ns is rest = omega (arith, rest)
  most_head (Some x) (Some y) ss ns is rest = omega (arith, rest)

  pub left_most : (old new : List Seat) → AreLeft failed Took old new → active_of new ≤ active_of old
  left_most [] [] are = omega arith
  left_most [] (n ∷ new) are = absurd are
  left_most (s ∷ old) [] are = absurd are
  left_most (s ∷ old) (n ∷ new) are = most_head s.replica n.replica (replicas_of old) (replicas_of new) are.0.1 (left_most old new are.1)

  all_head : (s n : Option Replica) (ss ns : List Replica) → MatchOption s (n ≡ None) (λ (r : Replica). MatchOption n (failed (drive_of r)).some (λ (m : Replica). (failed (drive_of r)).none × Took r m)) → length ns ≤ length ss
      → (length ns ≡ length ss → (r : Replica) → Contains ss r → (failed (drive_of r)).none) → length (cons_option n ns) ≡ length (cons_option s ss) → (r : Replica) → Contains (cons_option s ss) r → (failed (drive_of r)).none
  all_head None n ss ns is few rest same r has = rest (subst (λ (o : Option Replica). length (cons_option o ns) ≡ length ss) is same) r has
  all_head (Some x) None ss ns is few rest same r has = absurd (omega (arith, few, same))
  all_head (Some x) (Some y) ss ns is few rest same r has = elim (first_or_behind x r ss has) [
    | inl here ↦ subst (λ (z : Replica). (failed (drive_of z)).none) here is.0
    | inr there ↦ rest (omega (arith, same)) r there
  ]

  -- where as many are active no call on their drives failed
  pub all_left : (old new : List Seat) → AreLeft failed Took old new → active_of new ≡ active_of old → (r : Replica) → Contains (replicas_of old) r → (failed (drive_of r)).none
  all_left [] [] are same r has = absurd (omega (arith, has.1))
  all_left [] (n ∷ new) are same r has = absurd are
  all_left (s ∷ old) [] are same r has = absurd are
  all_left (s ∷ old) (n ∷ new) are same r has = all_head s.replica n.replica (replicas_of old) (replicas_of new) are.0.1 (left_most old new are.1) (all_left old new are.1) same r has

  some_head : (s n : Option Replica) (ss ns : List Replica) → MatchOption s (n ≡ None) (λ (r : Replica). MatchOption n (failed (drive_of r)).some (λ (m : Replica). (failed (drive_of r)).none × Took r m))
      → (length ns < length ss → (r : Replica) × Contains ss r × (failed (drive_of r)).some) → length (cons_option n ns) < length (cons_option s ss) → (r : Replica) × Contains (cons_option s ss) r × (failed (drive_of r)).some
  some_head None n ss ns is rest less = rest (subst (λ (o : Option Replica). length (cons_option o ns) < length ss) is less)
  some_head (Some x) None ss ns is rest less = (x, contains_first x ss, is)
  some_head (Some x) (Some y) ss ns is rest less = (let one = rest (omega (arith, less)) in (one.0, contains_behind x one.0 ss one.1, one.2))

  -- where fewer are active a call failed on the drive of one
  pub some_lost : (old new : List Seat) → AreLeft failed Took old new → active_of new < active_of old → (r : Replica) × Contains (replicas_of old) r × (failed (drive_of r)).some
  some_lost [] [] are less = absurd (omega (arith, less))
  some_lost [] (n ∷ new) are less = absurd are
  some_lost (s ∷ old) [] are less = absurd are
  some_lost (s ∷ old) (n ∷ new) are less = some_head s.replica n.replica (replicas_of old) (replicas_of new) are.0.1 (some_lost old new are.1) less

  part_head : (s n : Option Replica) (ss ns : List Replica) → ((r m : Replica) → Took r m → spot_of m ≡ spot_of r) → MatchOption s (n ≡ None) (λ (r : Replica). MatchOption n (failed (drive_of r)).some (λ (m : Replica). (failed (drive_of r)).none × Took r m))
      → IsPart (map spot_of ns) (map spot_of ss) → IsPart (map spot_of (cons_option n ns)) (map spot_of (cons_option s ss))
  part_head None n ss ns same is rest = subst (λ (o : Option Replica). IsPart (map spot_of (cons_option o ns)) (map spot_of ss)) (sym is) rest
  part_head (Some x) None ss [] same is rest = tt
  part_head (Some x) None ss (y ∷ ns) same is rest = inr rest
  part_head (Some x) (Some y) ss ns same is rest = inl (same x y is.1, rest)

  -- the spots of those that are left are some of them, in their order
  pub left_spots : (old new : List Seat) → ((r m : Replica) → Took r m → spot_of m ≡ spot_of r) → AreLeft failed Took old new → IsPart (spots_of new) (spots_of old)
  left_spots [] [] same are = tt
  left_spots [] (n ∷ new) same are = absurd are
  left_spots (s ∷ old) [] same are = absurd are
  left_spots (s ∷ old) (n ∷ new) same are = part_head s.replica n.replica (replicas_of old) (replicas_of new) same are.0.1 (left_spots old new same are.1)

-- by other failures, and what they took
module _ (failed told : ℕ → Failures) (Took More : Replica → Replica → Type 0) where
  pub left_as : (old new : List Seat) → ((r : Replica) → Contains (replicas_of old) r → (failed (drive_of r)).some → (told (drive_of r)).some) → ((r : Replica) → Contains (replicas_of old) r → (failed (drive_of r)).none → (told (drive_of r)).none)
      → ((r m : Replica) → Took r m → More r m) → AreLeft failed Took old new → AreLeft told More old new
  left_as [] [] some none more are = tt
  left_as [] (n ∷ new) some none more are = absurd are
  left_as (s ∷ old) [] some none more are = absurd are
  left_as (s ∷ old) (n ∷ new) some none more are =
      ((are.0.0, by s.replica n.replica some none are.0.1), left_as old new (λ r has. some r (behind s.replica r has)) (λ r has. none r (behind s.replica r has)) more are.1)
    where
      behind : (o : Option Replica) (r : Replica) → Contains (replicas_of old) r → Contains (cons_option o (replicas_of old)) r
      behind None r has = has
      behind (Some x) r has = contains_behind x r (replicas_of old) has

      by : (o p : Option Replica) → ((r : Replica) → Contains (cons_option o (replicas_of old)) r → (failed (drive_of r)).some → (told (drive_of r)).some)
          → ((r : Replica) → Contains (cons_option o (replicas_of old)) r → (failed (drive_of r)).none → (told (drive_of r)).none)
          → MatchOption o (p ≡ None) (λ (r : Replica). MatchOption p (failed (drive_of r)).some (λ (m : Replica). (failed (drive_of r)).none × Took r m))
          → MatchOption o (p ≡ None) (λ (r : Replica). MatchOption p (told (drive_of r)).some (λ (m : Replica). (told (drive_of r)).none × More r m))
      by None p some none is = is
      by (Some x) None some none is = some x (contains_first x (replicas_of old)) is
      by (Some x) (Some y) some none is = (none x (contains_first x (replicas_of old)) is.0, more x y is.1)

-- the spare slot doesn't rest on the claim
spare_claimed : (head : Head) (number : ℕ) (slot : Slot) → IsSpareOf (record head { claim = number }) slot → IsSpareOf head slot
spare_claimed head number First is = record { spare = is.spare; tie = λ e. absurd (cc (e)) }
spare_claimed head number Second is = record { spare = is.spare; tie = is.tie }

pub takes_both : (number bytes : ℕ) (r m n : Replica) → TakesClaim number r m → TakesSlot (record { boot = number; count = 0 }) bytes m n → TakesBoth number bytes r n
takes_both number bytes r m n claimed slotted = by slotted.0 (subst (λ (x : Replica). IsSpareOf x.head slotted.0) claimed slotted.1) (slotted.2 ∙ ap (λ (x : Replica). record x { head = with_slot x.head slotted.0 (Open (record { boot = number; count = 0 }) bytes) }) claimed)
  where
    by : (slot : Slot) → IsSpareOf (record r.head { claim = number }) slot → n ≡ record r { head = with_slot (record r.head { claim = number }) slot (Open (record { boot = number; count = 0 }) bytes) } → TakesBoth number bytes r n
    by slot spare is = (slot, spare_claimed r.head number slot spare, is)

-- Failures over two stretches: a drive on which no call of the second was made, or one failed there, or none did.
module _ (a b c : ℕ → ℕ) where
  pub later : (d : ℕ) → RoseOnce (a d) (b d) → ((c d ≡ b d) ⊎ ((b d ≡ a d) × RoseOnce (b d) (c d))) → RoseOnce (a d) (c d)
  later d rose (inl same) = same ∙ rose
  later d rose (inr more) = omega (arith, rose, more.0, more.1)

  pub first_then : (d : ℕ) → b d ≡ a d → RoseOnce (b d) (c d) → RoseOnce (a d) (c d)
  first_then d calm rose = subst (λ (n : ℕ). RoseOnce n (c d)) calm rose

-- the first pass, and the second
module _ (a b c : ℕ → ℕ) (T U V : Replica → Replica → Type 0) (drive_same : (r m : Replica) → T r m → drive_of m ≡ drive_of r) (both : (r m n : Replica) → T r m → U m n → V r n)
    (behind : (d : ℕ) → RoseOnce (a d) (b d) → RoseOnce (a d) (c d)) where
  pub left_both : (old mid new : List Seat) → AreLeft (λ d. failures_of (a d) (b d)) T old mid → AreLeft (λ d. failures_of (b d) (c d)) U mid new → AreLeft (λ d. failures_of (a d) (c d)) V old new
  left_both [] [] [] first second = tt
  left_both [] [] (n ∷ new) first second = absurd second
  left_both [] (m ∷ mid) new first second = absurd first
  left_both (s ∷ old) [] new first second = absurd first
  left_both (s ∷ old) (m ∷ mid) [] first second = absurd second
  left_both (s ∷ old) (m ∷ mid) (n ∷ new) first second = ((second.0.0 ∙ first.0.0, by s.replica m.replica n.replica first.0.1 second.0.1), left_both old mid new first.1 second.1)
    where
      by : (o p q : Option Replica) → MatchOption o (p ≡ None) (λ (r : Replica). MatchOption p (RoseOnce (a (drive_of r)) (b (drive_of r))) (λ (x : Replica). (b (drive_of r) ≡ a (drive_of r)) × T r x))
          → MatchOption p (q ≡ None) (λ (r : Replica). MatchOption q (RoseOnce (b (drive_of r)) (c (drive_of r))) (λ (x : Replica). (c (drive_of r) ≡ b (drive_of r)) × U r x))
          → MatchOption o (q ≡ None) (λ (r : Replica). MatchOption q (RoseOnce (a (drive_of r)) (c (drive_of r))) (λ (x : Replica). (c (drive_of r) ≡ a (drive_of r)) × V r x))
      by None None q one two = two
      by None (Some x) q one two = absurd (cc (one))
      by (Some r) None q one two = subst (λ (o : Option Replica). MatchOption o (RoseOnce (a (drive_of r)) (c (drive_of r))) (λ (x : Replica). (c (drive_of r) ≡ a (drive_of r)) × V r x)) (sym two) (behind (drive_of r) one)
      by (Some r) (Some x) None one two = first_then a b c (drive_of r) one.0 (subst (λ (d : ℕ). RoseOnce (b d) (c d)) (drive_same r x one.1) two)
      by (Some r) (Some x) (Some y) one two = (subst (λ (d : ℕ). c d ≡ b d) (drive_same r x one.1) two.0 ∙ one.0, both r x y one.1 two.1)

-- the areas of seats are on their drives
elsewhere_area : (rs : List Replica) (drive block : ℕ) → ((r : Replica) → Contains rs r → drive_of r ≡ drive → ⊥) → list_any (λ (r : Replica). replica_area r drive block) rs ≡ false
elsewhere_area [] drive block out = refl
elsewhere_area (r ∷ rs) drive block out =
    let here : nat_eq (drive_of r) drive ≡ false = ne_eqb (drive_of r) drive (out r (contains_first r rs)) in
    let rest = elsewhere_area rs drive block (λ x has. out x (contains_behind r x rs has)) in
    rw here rest

-- A drive stays synced behind a pass in which no call on it failed.
pub pass_synced : (failed : ℕ → Failures) (Took : Replica → Replica → Type 0) (old new : List Seat) (t u : Tale) → ((r m : Replica) → Took r m → drive_of m ≡ drive_of r) → AreLeft failed Took old new → KeptOutside (seats_area old) t u
    → ((m : Replica) → Contains (replicas_of new) m → IsSynced (drive_of m) t → IsSynced (drive_of m) u) → (drive : DriveNo) → (Contains (drives_of old) drive → (failed drive.0).some → ⊥) → IsSynced drive.0 t → IsSynced drive.0 u
pass_synced failed Took old new t u same left outside each drive never was = elim (is_one_of (drives_of old) drive) [
  | inl one_of ↦ (
      let r = unmapped (λ (x : Replica). x.line.at.drive) (replicas_of old) drive one_of in
      let here : drive_of r.0 ≡ drive.0 = ap (λ (d : DriveNo). d.0) r.2 in
      on_it r.0 here one_of (left_told failed Took old new left r.0 r.1))
  | inr out ↦ synced_still drive.0 t u (λ block. outside drive.0 block (elsewhere_area (replicas_of old) drive.0 block (λ r has is. out (subst (Contains (drives_of old)) (same_drive r.line.at.drive drive is) (mapped (λ (x : Replica). x.line.at.drive) (replicas_of old) r has))))) was
]
  where
    on_it : (r : Replica) → drive_of r ≡ drive.0 → Contains (drives_of old) drive → (failed (drive_of r)).some ⊎ ((m : Replica) × Contains (replicas_of new) m × (failed (drive_of r)).none × Took r m) → IsSynced drive.0 u
    on_it r here one_of (inl lost) = absurd (never one_of (subst (λ (d : ℕ). (failed d).some) here lost))
    on_it r here one_of (inr left) = (let there : drive_of left.0 ≡ drive.0 = same r left.0 left.3 ∙ here in subst (λ (d : ℕ). IsSynced d u) there (each left.0 left.1 (subst (λ (d : ℕ). IsSynced d t) (sym there) was)))

-- the area of seats behind a pass of claims
pub left_area : (failed : ℕ → Failures) (number : ℕ) (old new : List Seat) → AreLeft failed (TakesClaim number) old new → (drive block : ℕ) → seats_area old drive block ≡ false → seats_area new drive block ≡ false
left_area failed number [] [] are drive block out = out
left_area failed number [] (n ∷ new) are drive block out = absurd are
left_area failed number (s ∷ old) [] are drive block out = absurd are
left_area failed number (s ∷ old) (n ∷ new) are drive block out = by s.replica n.replica are.0.1 out (left_area failed number old new are.1 drive block)
  where
    by : (o p : Option Replica) → MatchOption o (p ≡ None) (λ (r : Replica). MatchOption p (failed (drive_of r)).some (λ (m : Replica). (failed (drive_of r)).none × TakesClaim number r m))
        → list_any (λ (r : Replica). replica_area r drive block) (cons_option o (replicas_of old)) ≡ false → (list_any (λ (r : Replica). replica_area r drive block) (replicas_of old) ≡ false → list_any (λ (r : Replica). replica_area r drive block) (replicas_of new) ≡ false)
        → list_any (λ (r : Replica). replica_area r drive block) (cons_option p (replicas_of new)) ≡ false
    by None p is out rest = subst (λ (q : Option Replica). list_any (λ (r : Replica). replica_area r drive block) (cons_option q (replicas_of new)) ≡ false) (sym is) (rest out)
    by (Some x) None is out rest = rest (neither (replica_area x drive block) (list_any (λ (r : Replica). replica_area r drive block) (replicas_of old)) out).1
    by (Some x) (Some y) is out rest =
        let both = neither (replica_area x drive block) (list_any (λ (r : Replica). replica_area r drive block) (replicas_of old)) out in
        rw (ap (λ (r : Replica). replica_area r drive block) is.1 ∙ both.0) (rest both.1)
