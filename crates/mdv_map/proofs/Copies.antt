-- Lists of blocks of drives, and what is read of them.
use Rattle.std.proofs.Common.{◌≡◌, ◌⊎◌, inl, inr, ℕ, ◌+◌, ◌-◌, ◌<◌, ◌≤◌, true, false, ◌&&◌, ◌==◌, nat_lt, List, [], ◌∷◌, ◌++◌, map, refl, arith}
use Rattle.std.proofs.lemmas.Bool.Decides.{nat_tests}
use Rattle.mdv_shelf.proofs.Blocks.{both_ways}
use Rattle.mdv_map.specs.Below.{Among, Image}
use Rattle.mdv_map.specs.Maps.{DriveBlock, HasDriveBlock, held}
use Rattle.mdv_map.specs.Logs.{is_among}

-- a block of the list is read
pub reading_of : (image : Image) (cs : List DriveBlock) (drive block : ℕ) → HasDriveBlock cs drive block → Among (map (held image) cs) (image drive block)
reading_of image [] drive block none = absurd none
reading_of image (s ∷ ss) drive block (inl (d, b)) = inl (cc (d, b))
reading_of image (s ∷ ss) drive block (inr rest) = inr (reading_of image ss drive block rest)

-- what is read is what a block of the list holds
pub record HeldBy (image : Image) (cs : List DriveBlock) (x : List ℕ) : Type 0 where
  pub drive : ℕ
  pub block : ℕ
  pub has : HasDriveBlock cs drive block
  pub is : x ≡ image drive block

pub copy_of : (image : Image) (cs : List DriveBlock) (x : List ℕ) → Among (map (held image) cs) x → HeldBy image cs x
copy_of image [] x none = absurd none
copy_of image (s ∷ ss) x (inl is) = record { drive = s.drive; block = s.block; has = inl (refl, refl); is = is }
copy_of image (s ∷ ss) x (inr rest) = let c = copy_of image ss x rest in record { drive = c.drive; block = c.block; has = inr c.has; is = c.is }

-- what tests of numbers tell
pub lt_of_test : (a n : ℕ) → nat_lt a n ≡ true → a < n
lt_of_test a n is = grind (arith, nat_tests)

pub le_of_test : (a n : ℕ) → nat_lt a n ≡ false → n ≤ a
le_of_test a n is = grind (arith, nat_tests)

pub below_test : (b n : ℕ) → b < n → nat_lt b n ≡ true
below_test b n lt = grind (arith, nat_tests)

pub same_drive : (a b c d : ℕ) → a == b && c == d ≡ true → a ≡ b
same_drive a b c d is = grind (arith, nat_tests)

pub same_block : (a b c d : ℕ) → a == b && c == d ≡ true → c ≡ d
same_block a b c d is = grind (arith, nat_tests)

-- lists one behind another
pub in_either : (xs ys : List DriveBlock) (drive block : ℕ) → HasDriveBlock (xs ++ ys) drive block → HasDriveBlock xs drive block ⊎ HasDriveBlock ys drive block
in_either [] ys drive block has = inr has
in_either (s ∷ ss) ys drive block (inl here) = inl (inl here)
in_either (s ∷ ss) ys drive block (inr rest) = elim (in_either ss ys drive block rest) [ inl one ↦ inl (inr one) | inr other ↦ inr other ]

pub in_first : (xs ys : List DriveBlock) (drive block : ℕ) → HasDriveBlock xs drive block → HasDriveBlock (xs ++ ys) drive block
in_first [] ys drive block none = absurd none
in_first (s ∷ ss) ys drive block (inl here) = inl here
in_first (s ∷ ss) ys drive block (inr rest) = inr (in_first ss ys drive block rest)

pub in_second : (xs ys : List DriveBlock) (drive block : ℕ) → HasDriveBlock ys drive block → HasDriveBlock (xs ++ ys) drive block
in_second [] ys drive block has = has
in_second (s ∷ ss) ys drive block has = inr (in_second ss ys drive block has)

-- values one behind another
pub among_first : (xs ys : List (List ℕ)) (x : List ℕ) → Among xs x → Among (xs ++ ys) x
among_first [] ys x none = absurd none
among_first (y ∷ xs) ys x (inl is) = inl is
among_first (y ∷ xs) ys x (inr rest) = inr (among_first xs ys x rest)

pub among_second : (xs ys : List (List ℕ)) (x : List ℕ) → Among ys x → Among (xs ++ ys) x
among_second [] ys x here = here
among_second (y ∷ xs) ys x here = inr (among_second xs ys x here)

from_first : (at count b : ℕ) → is_among at count b ≡ true → at ≤ b
from_first at count b is = grind (arith, nat_tests)

to_last : (at count b : ℕ) → is_among at count b ≡ true → b < at + count
to_last at count b is = grind (arith, nat_tests)

pub is_among_range : (at count k : ℕ) → k < count → is_among at count (at + k) ≡ true
is_among_range at count k lt = grind (arith, nat_tests)

not_among : (at count b k : ℕ) → is_among at count b ≡ false → k < count → at + k ≡ b → ⊥
not_among at count b k not lt is = grind (arith, nat_tests)

-- the place of a block among so many
pub record AmongAt (at count b : ℕ) : Type 0 where
  pub index : ℕ
  pub below : index < count
  pub is : b ≡ at + index

pub among_at : (at count b : ℕ) → is_among at count b ≡ true → AmongAt at count b
among_at at count b is =
    let from = from_first at count b is in
    let to = to_last at count b is in
    record { index = b - at; below = omega arith; is = omega arith }

-- a block is one of so many, or none of them
pub place_among : (at count b : ℕ) → AmongAt at count b ⊎ ((k : ℕ) → k < count → at + k ≡ b → ⊥)
place_among at count b = elim (both_ways (is_among at count b)) [
  | inl does ↦ inl (among_at at count b does)
  | inr not ↦ inr (λ k lt is. not_among at count b k not lt is)
]
