-- Runs and concatenations have fewer than 2^64 blocks, and each of them has one copy.
use Rattle.std.specs.Prelude.{◌≡◌, ℕ, ◌+◌, ◌-◌, ◌^◌, ◌<◌, ◌≤◌, Bool, true, false, nat_lt, refl}
use Rattle.std.proofs.Common.{arith}
use Rattle.std.proofs.lemmas.Bool.Decides.{nat_tests}
use Rattle.mdv_dev.specs.Below.{Map, chain_map, run_map}
use Rattle.mdv_dev.specs.Pieces.{IsOneCopy, LiesAt}

pub run_one : (drive first count : ℕ) → IsOneCopy (run_map drive first count)
run_one drive first count b below = (drive, first + b, record { copies = refl; places = refl })

pub run_bounded : (drive first count : ℕ) → first + count < 2 ^ 64 → (run_map drive first count).blocks < 2 ^ 64
run_bounded drive first count lt = omega arith

in_front : (b n : ℕ) → nat_lt b n ≡ true → b < n
in_front b n is = grind (arith, nat_tests)

in_back : (b n m : ℕ) → b < n + m → nat_lt b n ≡ false → b - n < m
in_back b n m below is = let le : n ≤ b = grind (arith, nat_tests) in omega arith

pub chain_one : (v w : Map) → IsOneCopy v → IsOneCopy w → IsOneCopy (chain_map v w)
chain_one v w one two b below = in_part (nat_lt b v.blocks) refl
  where
    in_part : (test : Bool) → nat_lt b v.blocks ≡ test → (drive : ℕ) × (block : ℕ) × LiesAt (chain_map v w) b drive block
    in_part true is = let there = one b (in_front b v.blocks is) in (there.0, there.1, record { copies = rw is there.2.copies; places = rw is there.2.places })
    in_part false is = let there = two (b - v.blocks) (in_back b v.blocks w.blocks below is) in (there.0, there.1, record { copies = rw is there.2.copies; places = rw is there.2.places })
