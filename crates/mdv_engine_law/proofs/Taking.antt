-- How many calls a boot makes that writes, and how many blocks it writes, by the places that it has in hand.
use Rattle.std.proofs.Common.{◌≡◌, ◌≤◌, ◌+◌, ◌-◌, ◌^◌, ℕ, Bool, zero, suc, true, false, min, refl, sym, subst, arith}
use Rattle.mdv_shelf.proofs.Between.{between_then, rose_at_least}
use Rattle.mdv_shelf.specs.Between.{RoseByAtLeast}
use Rattle.mdv_shelf.specs.Failing.{Outcomes}
use Rattle.mdv_shelf.specs.Made.{made_of}
use Rattle.mdv_shelf.specs.declared.shelf.Shelf.{Ghosts}
use Rattle.mdv_store.proofs.Few.{reads_between}
use Rattle.mdv_store.proofs.Losing.{rose_then}
use Rattle.mdv_store.specs.Boot.{IsEndBy, is_memory}
use Rattle.mdv_store.specs.Booting.{has_written}
use Rattle.mdv_store.specs.BootCounts.{blocks_at, calls_at}
use Rattle.mdv_store.specs.Progress.{Progress}
use Rattle.mdv_store.specs.Taking.{Rewrites}
use Rattle.mdv_store.specs.declared.booting.BootEnd.TheVariants as end
use Rattle.mdv_survey.specs.Counts.{MadeFew, MadeReads}
use Rattle.mdv_survey.specs.declared.replica.Survey.{Survey}
use Rattle.mdv_store.specs.Booted.{WroteFor}
use Rattle.mdv_engine_law.specs.Below.{BootEnd, Geometry, Key, Site, Table}

-- what writes doesn't want memory
pub memory_still : (e : BootEnd) → is_memory e ≡ true → has_written e ≡ false
memory_still (end.Adopted o) is = absurd (cc (is))
memory_still end.Empty is = refl
memory_still (end.TwoDatabases a b) is = refl
memory_still (end.NoQuorum readable needed) is = refl
memory_still (end.Lost active listed) is = absurd (cc (is))
memory_still end.Spent is = refl
memory_still end.Memory is = refl

module _ {S : Type 0} (shelf : Ghosts S) where
  itself : (a : S) → RoseByAtLeast 0 (shelf.written a) (shelf.written a)
  itself a n is = (n, is, at_most n (2 ^ 64 - 1)) where
    at_most : (n top : ℕ) → min (n + 0) top ≤ n
    at_most n top = omega arith

  reads_rose : (a b : S) (k : ℕ) → MadeReads shelf a b k → RoseByAtLeast 0 (shelf.written a) (shelf.written b)
  reads_rose a b zero same = subst (λ (x : S). RoseByAtLeast 0 (shelf.written a) (shelf.written x)) (sym same) (itself a)
  reads_rose a b (suc k) took = rose_at_least 0 0 (shelf.written a) (shelf.written b) (omega arith) took.in_blocks

  module _ (old looked new : S) (key : Key) (reads : ℕ) (looks : MadeFew shelf old looked reads) where
    -- nothing was done behind the looks
    pub looks_alone : new ≡ looked → (made_of shelf old new).within 0 reads 0
    looks_alone still = subst (λ (s : S). (made_of shelf old s).within 0 reads 0) (sym still) (reads_between shelf old looked looks.0 0 reads (omega arith) looks.1 looks.2)

    -- or the calls by which the places in hand were written
    pub hand_calls : (hand : _) (table : Table) (calm : Bool) (progress : Progress) → Rewrites shelf looked new key hand table calm progress → (made_of shelf old new).within 1 (reads + calls_at hand.seats table) (blocks_at hand.seats table)
    hand_calls hand table calm progress wrote =
        between_then shelf.calls shelf.written old looked new 0 reads 0 1 (calls_at hand.seats table) (blocks_at hand.seats table) 1 (reads + calls_at hand.seats table) (blocks_at hand.seats table)
        (omega arith) (omega arith) (omega arith) (reads_between shelf old looked looks.0 0 reads (omega arith) looks.1 looks.2) wrote.made

    began : RoseByAtLeast 1 (shelf.written looked) (shelf.written new) → (made_of shelf old new).wrote
    began rose = rose_then 0 1 1 (shelf.written old) (shelf.written looked) (shelf.written new) (omega arith) (reads_rose old looked looks.0 looks.2) rose

    pub end_wrote : (g : Geometry) (failed : Outcomes) (site : Site) (clean : Bool) (survey : Survey) (e : BootEnd) → IsEndBy failed (WroteFor shelf old looked new g site clean) site survey e → has_written e ≡ true → (made_of shelf old new).wrote
    end_wrote g failed site clean survey (end.Adopted o) is written = began is.written.wrote.rewrites.wrote
    end_wrote g failed site clean survey end.Empty is written = absurd (cc (written))
    end_wrote g failed site clean survey (end.TwoDatabases a b) is written = absurd (cc (written))
    end_wrote g failed site clean survey (end.NoQuorum readable needed) is written = absurd (cc (written))
    end_wrote g failed site clean survey (end.Lost active listed) is written = began is.written.wrote.rewrites.wrote
    end_wrote g failed site clean survey end.Spent is written = absurd (cc (written))
    end_wrote g failed site clean survey end.Memory is written = absurd (cc (written))
