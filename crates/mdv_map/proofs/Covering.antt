-- The area of a map.
use Rattle.std.proofs.Common.{◌≡◌, ◌⊎◌, inl, inr, ℕ, zero, suc, ◌+◌, ◌-◌, ◌<◌, ◌≤◌, Bool, true, false, ◌&&◌, ◌||◌, ◌==◌, nat_lt, List, [], ◌∷◌, length, refl, sym, subst, arith}
use Rattle.std.proofs.lemmas.Bool.Decides.{nat_tests}
use Rattle.mdv_shelf.proofs.Blocks.{both_ways}
use Rattle.mdv_map.specs.Below.{AreApart, range}
use Rattle.mdv_map.specs.Maps.{DriveBlock, Map, HasDriveBlock, AreDisjoint, run_map, has_drive_block, belongs_below, area_of_map}
use Rattle.mdv_map.specs.Requests.{IsOff}
use Rattle.mdv_map.specs.Laws.{AreasCover, RunsLie}
use Rattle.mdv_map.proofs.Combining.{in_run, run_disjoint, runs_apart}
use Rattle.mdv_map.proofs.Copies.{le_of_test, lt_of_test, same_block, same_drive}

is_there : (a b c d : ℕ) → a ≡ b → c ≡ d → a == b && c == d ≡ true
is_there a b c d one other = grind (arith, nat_tests)

pub one_of : (a b : Bool) → a || b ≡ true → (a ≡ true) ⊎ (b ≡ true)
one_of true b is = inl refl
one_of false b is = inr is

pub either_of : (a b : Bool) → (a ≡ true) ⊎ (b ≡ true) → a || b ≡ true
either_of true b is = refl
either_of false b (inl is) = cc
either_of false b (inr is) = is

pub true_false : (a : Bool) → a ≡ true → a ≡ false → ⊥
true_false a is is_not = cc

-- the test tells what is so
pub has_of_test : (bs : List DriveBlock) (drive block : ℕ) → has_drive_block bs drive block ≡ true → HasDriveBlock bs drive block
has_of_test [] drive block is = cc
has_of_test (s ∷ ss) drive block is = elim (one_of (drive == s.drive && block == s.block) (has_drive_block ss drive block) is) [
  | inl here ↦ inl (same_drive drive s.drive block s.block here, same_block drive s.drive block s.block here)
  | inr rest ↦ inr (has_of_test ss drive block rest)
]

pub test_of_has : (bs : List DriveBlock) (drive block : ℕ) → HasDriveBlock bs drive block → has_drive_block bs drive block ≡ true
test_of_has [] drive block none = absurd none
test_of_has (s ∷ ss) drive block (inl (d, b)) = either_of (drive == s.drive && block == s.block) (has_drive_block ss drive block) (inl (is_there drive s.drive block s.block d b))
test_of_has (s ∷ ss) drive block (inr rest) = either_of (drive == s.drive && block == s.block) (has_drive_block ss drive block) (inr (test_of_has ss drive block rest))

last_of : (a n : ℕ) → a < suc n → nat_lt a n ≡ false → a ≡ n
last_of a n lt is = let above = le_of_test a n is in omega arith

module _ (v : Map) (drive block : ℕ) where
  record Owner (count : ℕ) : Type 0 where
    owner : ℕ
    below : owner < count
    has : HasDriveBlock (v.places owner) drive block

  owner_of : (count : ℕ) → belongs_below v count drive block ≡ true → Owner count
  unfolding belongs_below
  owner_of zero is = cc
  owner_of (suc count) is = elim (one_of (has_drive_block (v.places count) drive block) (belongs_below v count drive block) is) [
    | inl here ↦ record { owner = count; below = omega arith; has = has_of_test (v.places count) drive block here }
    | inr rest ↦ let found = owner_of count rest in record { owner = found.owner; below = (let lt = found.below in omega arith); has = found.has }
  ]

  belongs : (count b : ℕ) → b < count → HasDriveBlock (v.places b) drive block → belongs_below v count drive block ≡ true
  unfolding belongs_below
  belongs zero b lt has = absurd (omega arith)
  belongs (suc count) b lt has = either_of (has_drive_block (v.places count) drive block) (belongs_below v count drive block)
      (elim (both_ways (nat_lt b count)) [
        | inl does ↦ inr (belongs count b (lt_of_test b count does) has)
        | inr not ↦ inl (test_of_has (v.places count) drive block (subst (λ (i : ℕ). HasDriveBlock (v.places i) drive block) (last_of b count lt not) has))
      ])

  pub owned : area_of_map v drive block ≡ true → (b : ℕ) × (b < v.blocks) × HasDriveBlock (v.places b) drive block
  owned is = let found = owner_of v.blocks is in (found.owner, found.below, found.has)

  pub off_outside : (at count : ℕ) → at + count ≤ v.blocks → area_of_map v drive block ≡ false → IsOff v at count drive block
  off_outside at count within out k lt has = true_false (area_of_map v drive block) (belongs v.blocks (at + k) (omega arith) has) out

areas_apart : (v w : Map) → AreDisjoint v w → AreApart (area_of_map v) (area_of_map w)
areas_apart v w apart drive block in_v in_w =
    let one = owner_of v drive block v.blocks in_v in
    let other = owner_of w drive block w.blocks in_w in apart one.owner other.owner drive block one.below other.below one.has other.has

pub areas_cover : AreasCover
areas_cover = record {
  inside = owned;
  outside = λ v at count drive block within out. off_outside v drive block at count within out;
  kept = λ v at news t m within rewriting drive block out. rewriting.outside drive block (off_outside v drive block at (length news) within out);
  apart = areas_apart;
}

same_test : (a b : Bool) → (a ≡ true → b ≡ true) → (b ≡ true → a ≡ true) → a ≡ b
same_test true b to from = sym (to refl)
same_test false true to from = from refl
same_test false false to from = refl

-- the blocks of a range are those from its first on, so many
in_range : (d f n o b k : ℕ) → k < n → o ≡ d → b ≡ f + k → range d f n o b ≡ true
in_range d f n o b k lt is_drive is_block = grind (arith, nat_tests)

pub drive_of : (d f n o b : ℕ) → range d f n o b ≡ true → d ≡ o
drive_of d f n o b is = grind (arith, nat_tests)

pub from_of : (d f n o b : ℕ) → range d f n o b ≡ true → f ≤ b
from_of d f n o b is = grind (arith, nat_tests)

pub to_of : (d f n o b : ℕ) → range d f n o b ≡ true → b < f + n
to_of d f n o b is = grind (arith, nat_tests)

module _ (drive first count other block : ℕ) where
  run_covers : area_of_map (run_map drive first count) other block ≡ true → range drive first count other block ≡ true
  run_covers is =
      let found = owner_of (run_map drive first count) other block count is in
      let lies = in_run drive first count found.owner other block found.has in
      in_range drive first count other block found.owner found.below lies.0 lies.1

  run_covered : range drive first count other block ≡ true → area_of_map (run_map drive first count) other block ≡ true
  run_covered is =
      let from = from_of drive first count other block is in
      let to = to_of drive first count other block is in
      belongs (run_map drive first count) other block count (block - first) (omega arith) (inl (sym (drive_of drive first count other block is), omega arith))

pub runs_lie : RunsLie
runs_lie = record {
  copies = λ drive first count b. refl;
  places = λ drive first count b. refl;
  blocks = λ drive first count. refl;
  disjoint = run_disjoint;
  apart = runs_apart;
  area = λ drive first count other block.
      same_test (area_of_map (run_map drive first count) other block) (range drive first count other block) (run_covers drive first count other block) (run_covered drive first count other block);
}
