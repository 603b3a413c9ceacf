-- How counts of calls and blocks add up.
use Rattle.std.proofs.Common.{◌≡◌, ℕ, ◌+◌, ◌-◌, ◌^◌, ◌≤◌, min, Option, Some, ◌∙◌, ap, arith}
use Rattle.mdv_shelf.specs.Calls.{RoseBy, RoseByAtMost, Took, TookAtMost, IsCounted}

capped : (n j k top : ℕ) → min (min (n + j) top + k) top ≡ min (n + (j + k)) top
capped n j k top = omega arith

pub rose_more : (j k : ℕ) (a b c : Option ℕ) → RoseBy j a b → RoseBy k b c → RoseBy (j + k) a c
rose_more j k a b c first second n is = second (min (n + j) (2 ^ 64 - 1)) (first n is) ∙ ap Some (capped n j k (2 ^ 64 - 1))

pub rose_is : (j k : ℕ) (a b : Option ℕ) → j ≡ k → RoseBy j a b → RoseBy k a b
rose_is j k a b same rose n is = rose n is ∙ ap (λ (i : ℕ). Some (min (n + i) (2 ^ 64 - 1))) same

pub rose_at_most : (j k : ℕ) (a b : Option ℕ) → j ≤ k → RoseBy j a b → RoseByAtMost k a b
rose_at_most j k a b le rose n is = (min (n + j) (2 ^ 64 - 1), rose n is, below n j k (2 ^ 64 - 1) le)
  where
    below : (n j k top : ℕ) → j ≤ k → min (n + j) top ≤ n + k
    below n j k top le = omega arith

pub at_most_more : (j k l : ℕ) (a b c : Option ℕ) → j + k ≤ l → RoseByAtMost j a b → RoseByAtMost k b c → RoseByAtMost l a c
at_most_more j k l a b c le first second n is =
    let one = first n is in
    let two = second one.0 one.1 in
    (two.0, two.1, omega (arith, one.2, two.2))

at_most_wider : (j k : ℕ) (a b : Option ℕ) → j ≤ k → RoseByAtMost j a b → RoseByAtMost k a b
at_most_wider j k a b le rose n is = let one = rose n is in (one.0, one.1, omega (arith, one.2))

module _ {S : Type 0} (calls written : S → Option ℕ) where
  pub took_wider : (old new : S) (j i m n : ℕ) → j ≤ m → i ≤ n → TookAtMost calls written old new j i → TookAtMost calls written old new m n
  took_wider old new j i m n in_calls in_blocks took = record {
    in_calls = at_most_wider j m (calls old) (calls new) in_calls took.in_calls;
    in_blocks = at_most_wider i n (written old) (written new) in_blocks took.in_blocks;
  }

  pub took_one : (old new : S) (blocks : ℕ) → IsCounted calls written old new blocks → Took calls written old new 1 blocks
  took_one old new blocks counted = record { in_calls = counted.as_call; in_blocks = counted.as_blocks }

  pub took_more : (a b c : S) (j k i l m n : ℕ) → j + k ≡ m → i + l ≡ n → Took calls written a b j i → Took calls written b c k l → Took calls written a c m n
  took_more a b c j k i l m n in_calls in_blocks first second = record {
    in_calls = rose_is (j + k) m (calls a) (calls c) in_calls (rose_more j k (calls a) (calls b) (calls c) first.in_calls second.in_calls);
    in_blocks = rose_is (i + l) n (written a) (written c) in_blocks (rose_more i l (written a) (written b) (written c) first.in_blocks second.in_blocks);
  }

  pub took_at_most : (old new : S) (j i m n : ℕ) → j ≤ m → i ≤ n → Took calls written old new j i → TookAtMost calls written old new m n
  took_at_most old new j i m n in_calls in_blocks took = record {
    in_calls = rose_at_most j m (calls old) (calls new) in_calls took.in_calls;
    in_blocks = rose_at_most i n (written old) (written new) in_blocks took.in_blocks;
  }

  pub at_most_then : (a b c : S) (j k i l m n : ℕ) → j + k ≤ m → i + l ≤ n → TookAtMost calls written a b j i → TookAtMost calls written b c k l → TookAtMost calls written a c m n
  at_most_then a b c j k i l m n in_calls in_blocks first second = record {
    in_calls = at_most_more j k m (calls a) (calls b) (calls c) in_calls first.in_calls second.in_calls;
    in_blocks = at_most_more i l n (written a) (written b) (written c) in_blocks first.in_blocks second.in_blocks;
  }
