-- The places that are asked for lie within their drives, and their drives are those that are asked.
use Rattle.std.proofs.Common.{inl, inr, ℕ, zero, suc, ◌+◌, ◌*◌, ◌<◌, ◌≤◌, ◌^◌, List, [], ◌∷◌, length, Contains, subst, arith}
use Rattle.std.proofs.Math.Nat.{mul-le-mul_left}
use Rattle.mdv_shown.proofs.Elsewhere.{places_step}
use Rattle.mdv_acts.specs.Acts.{ArePlaced}
use Rattle.mdv_acts.specs.Asked.{AreAsked, drives_asked}
use Rattle.mdv_acts.specs.Below.{DriveNo, SliceLine}
use Rattle.mdv_acts.proofs.Members.{contains_behind, contains_first, first_or_behind}

-- a slice has no more places than all of them
pub few_of : (lines count : ℕ) → 1 ≤ lines → count ≤ lines * count
few_of zero count some = absurd (omega (arith, some))
few_of (suc n) count some = omega arith

pub few_each : {sizes : List ℕ} {lines : List SliceLine} {count blocks : ℕ} → AreAsked sizes lines count blocks → count ≤ 50
few_each {sizes} {lines} {count} {blocks} asked = (let each = few_of (length lines) count asked.some in omega (arith, each, asked.few))

-- the places of a slice end within it, one behind another
pub within_line : (line : SliceLine) (count blocks k : ℕ) → 16 + count * blocks ≤ line.at.blocks → k < count → 16 + k * blocks + blocks ≤ line.at.blocks
within_line line count blocks k all lt = (let step = places_step k count blocks lt in omega (arith, step, all))

pub start_short : (k blocks : ℕ) → k ≤ 50 → blocks ≤ 8192 → 16 + k * blocks < 2 ^ 32
start_short k blocks few most = (let rows = mul-le-mul_left k most in omega (arith, rows, few))

pub placed_asked : (sizes : List ℕ) (lines : List SliceLine) (count blocks : ℕ) (line : SliceLine) → AreAsked sizes lines count blocks → Contains lines line → ArePlaced sizes line count blocks
placed_asked sizes lines count blocks line asked has k lt =
    let fits = within_line line count blocks k (asked.within line has) lt in
    let few = few_each asked in
    let laid = asked.laid line has in
    record {
      placed = record { drive = asked.drive line has; least = asked.least; within = omega (arith, fits, laid); size = asked.small line has };
      short = start_short k blocks (omega (arith, lt, few)) asked.most;
    }

-- the drive of a slice
pub drive_asked : (lines : List SliceLine) (line : SliceLine) → Contains lines line → Contains (drives_asked lines) line.at.drive
drive_asked [] line has = absurd (omega (arith, has.1))
drive_asked (x ∷ lines) line has = elim (first_or_behind x line lines has) [
  | inl here ↦ subst (λ (l : SliceLine). Contains (drives_asked (x ∷ lines)) l.at.drive) here (contains_first x.at.drive (drives_asked lines))
  | inr behind ↦ contains_behind x.at.drive line.at.drive (drives_asked lines) (drive_asked lines line behind)
]

pub one_asked : (lines : List SliceLine) (line : SliceLine) → Contains lines line → (drive : DriveNo) → Contains (line.at.drive ∷ []) drive → Contains (drives_asked lines) drive
one_asked lines line has drive one = elim (first_or_behind line.at.drive drive [] one) [
  | inl here ↦ subst (λ (d : DriveNo). Contains (drives_asked lines) d) here (drive_asked lines line has)
  | inr none ↦ absurd (omega (arith, none.1))
]
