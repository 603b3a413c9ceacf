-- What is told of the calls of one stretch is so of another.
use Rattle.std.proofs.Common.{ℕ, ◌+◌, Option, refl, arith}
use Rattle.mdv_shelf.specs.Calls.{Took}
use Rattle.mdv_shelf.specs.declared.shelf.Shelf.{Ghosts}
use Rattle.mdv_shelf.specs.Made.{Made, made_by, made_of, made_between, effort_of, and_more}
use Rattle.mdv_shelf.proofs.Between.{between_of, between_then, some_then}
use Rattle.mdv_shelf.proofs.Counts.{took_more}

pub record IsToo (one other : Made) : Type 0 where
  pub exactly : (count blocks : ℕ) → one.exactly count blocks → other.exactly count blocks
  pub within : (least most blocks : ℕ) → one.within least most blocks → other.within least most blocks
  pub wrote : one.wrote → other.wrote

pub more_too : (more : ℕ) (one other : Made) → IsToo one other → IsToo (and_more more one) (and_more more other)
more_too more one other too = record {
  exactly = λ count blocks. too.exactly (count + more) blocks;
  within = λ least most blocks. too.within (least + more) (most + more) blocks;
  wrote = too.wrote;
}

-- it is told of the points alone
pub by_efforts : {S : Type 0} (shelf : Ghosts S) (old new : S) → IsToo (made_of shelf old new) (made_between (effort_of shelf old) (effort_of shelf new))
by_efforts shelf old new = record {
  exactly = λ count blocks took. record { in_calls = took.in_calls; in_blocks = took.in_blocks };
  within = λ least most blocks took. record { at_least = took.at_least; at_most = record { in_calls = took.at_most.in_calls; in_blocks = took.at_most.in_blocks } };
  wrote = λ wrote. wrote;
}

-- with calls behind it that wrote nothing
pub with_more : {S : Type 0} (calls written : S → Option ℕ) (old mid new : S) (more : ℕ) → Took calls written mid new more 0 → IsToo (made_by calls written old mid) (and_more more (made_by calls written old new))
with_more calls written old mid new more behind = record {
  exactly = λ count blocks took. took_more calls written old mid new count more blocks 0 (count + more) blocks refl (omega arith) took behind;
  within = λ least most blocks took.
      between_then calls written old mid new least most blocks more more 0 (least + more) (most + more) blocks (omega arith) (omega arith) (omega arith) took
      (between_of calls written mid new more 0 more more 0 (omega arith) (omega arith) (omega arith) behind);
  wrote = λ wrote. some_then 0 (written old) (written mid) (written new) wrote behind.in_blocks;
}
