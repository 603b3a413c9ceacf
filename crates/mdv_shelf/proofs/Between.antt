-- How counts that are told from both sides add up.
use Rattle.std.proofs.Common.{◌≡◌, ℕ, ◌+◌, ◌-◌, ◌^◌, ◌≤◌, min, Option, refl, ap, ◌∙◌, arith}
use Rattle.mdv_shelf.specs.Calls.{RoseBy, RoseByAtMost, Took, TookAtMost, IsCounted}
use Rattle.mdv_shelf.specs.Between.{RoseByAtLeast, TookBetween}
use Rattle.mdv_shelf.proofs.Counts.{took_one, took_at_most, at_most_then}

pub rose_at_least : (j l : ℕ) (a b : Option ℕ) → l ≤ j → RoseBy j a b → RoseByAtLeast l a b
rose_at_least j l a b le rose n is = (min (n + j) (2 ^ 64 - 1), rose n is, below n j l (2 ^ 64 - 1) le)
  where
    below : (n j l top : ℕ) → l ≤ j → min (n + l) top ≤ min (n + j) top
    below n j l top le = omega arith

at_least_more : (j k l : ℕ) (a b c : Option ℕ) → l ≤ j + k → RoseByAtLeast j a b → RoseByAtLeast k b c → RoseByAtLeast l a c
at_least_more j k l a b c le first second n is =
    let one = first n is in
    let two = second one.0 one.1 in
    (two.0, two.1, below n one.0 two.0 (2 ^ 64 - 1) one.2 two.2)
  where
    below : (n m o top : ℕ) → min (n + j) top ≤ m → min (m + k) top ≤ o → min (n + l) top ≤ o
    below n m o top one two = omega (arith, le)

still_least : (a b : Option ℕ) → b ≡ a → RoseByAtLeast 0 a b
still_least a b same n is = (n, same ∙ is, below n (2 ^ 64 - 1))
  where
    below : (n top : ℕ) → min (n + 0) top ≤ n
    below n top = omega arith

still_most : (more : ℕ) (a b : Option ℕ) → b ≡ a → RoseByAtMost more a b
still_most more a b same n is = (n, same ∙ is, omega arith)

-- some were counted, and then so many
pub some_then : (k : ℕ) (a b c : Option ℕ) → RoseByAtLeast 1 a b → RoseBy k b c → RoseByAtLeast 1 a c
some_then k a b c first second = at_least_more 1 0 1 a b c (omega arith) first (rose_at_least k 0 b c (omega arith) second)

-- and then some more
pub some_more : {a b c : Option ℕ} → RoseByAtLeast 1 a b → RoseByAtLeast 1 b c → RoseByAtLeast 1 a c
some_more {a} {b} {c} first second = at_least_more 1 1 1 a b c (omega arith) first second

module _ {S : Type 0} (calls written : S → Option ℕ) where
  -- it took exactly so many
  pub between_of : (old new : S) (count blocks least most more : ℕ) → least ≤ count → count ≤ most → blocks ≤ more → Took calls written old new count blocks → TookBetween calls written old new least most more
  between_of old new count blocks least most more low high in_blocks took = record {
    at_least = rose_at_least count least (calls old) (calls new) low took.in_calls;
    at_most = took_at_most calls written old new count blocks most more high in_blocks took;
  }

  pub between_one : (old new : S) (blocks : ℕ) → IsCounted calls written old new blocks → TookBetween calls written old new 1 1 blocks
  between_one old new blocks counted = between_of old new 1 blocks 1 1 blocks (omega arith) (omega arith) (omega arith) (took_one calls written old new blocks counted)

  pub at_most_one : (old new : S) (blocks : ℕ) → IsCounted calls written old new blocks → TookAtMost calls written old new 1 blocks
  at_most_one old new blocks counted = (between_one old new blocks counted).at_most

  pub between_then : (a b c : S) (j k l m n o d e f : ℕ) → d ≤ j + m → k + n ≤ e → l + o ≤ f → TookBetween calls written a b j k l → TookBetween calls written b c m n o → TookBetween calls written a c d e f
  between_then a b c j k l m n o d e f low high in_blocks first second = record {
    at_least = at_least_more j m d (calls a) (calls b) (calls c) low first.at_least second.at_least;
    at_most = at_most_then calls written a b c k n l o e f high in_blocks first.at_most second.at_most;
  }

  -- nothing was called
  pub between_none : (old new : S) (most blocks : ℕ) → new ≡ old → TookBetween calls written old new 0 most blocks
  between_none old new most blocks same = record {
    at_least = still_least (calls old) (calls new) (ap calls same);
    at_most = record {
      in_calls = still_most most (calls old) (calls new) (ap calls same);
      in_blocks = still_most blocks (written old) (written new) (ap written same);
    };
  }

  pub between_wider : (old new : S) (j k l least most blocks : ℕ) → least ≤ j → k ≤ most → l ≤ blocks → TookBetween calls written old new j k l → TookBetween calls written old new least most blocks
  between_wider old new j k l least most blocks low high in_blocks took =
      between_then old new new j k l 0 0 0 least most blocks (omega (arith, low)) (omega (arith, high)) (omega (arith, in_blocks)) took (between_none new new 0 0 refl)
