-- What is told of the calls of a stretch, whoever counts them.
use Rattle.std.specs.Prelude.{ℕ, ◌+◌, Option}
use Rattle.mdv_shelf.specs.Calls.{Took}
use Rattle.mdv_shelf.specs.Between.{RoseByAtLeast, TookBetween}
use Rattle.mdv_shelf.specs.Story.{Effort, Tally, tally_by}
use Rattle.mdv_shelf.specs.declared.shelf.Shelf.{Ghosts}

-- exactly so many calls, with so many blocks written; so many at least and at most, with no more blocks than these; and that it began to write
pub record Made : Type 1 where
  pub exactly : ℕ → ℕ → Type 0
  pub within : ℕ → ℕ → ℕ → Type 0
  pub wrote : Type 0

-- as these two count them
abbrev pub made_by : {S : Type 0} → (S → Option ℕ) → (S → Option ℕ) → S → S → Made
made_by calls written old new = record {
  exactly = λ count blocks. Took calls written old new count blocks;
  within = λ least most blocks. TookBetween calls written old new least most blocks;
  wrote = RoseByAtLeast 1 (written old) (written new);
}

-- as the shelf counts them
abbrev pub made_of : {S : Type 0} → Ghosts S → S → S → Made
made_of shelf old new = made_by shelf.calls shelf.written old new

-- what it had counted by then
abbrev pub tally_of : {S : Type 0} → Ghosts S → S → Tally
tally_of shelf now = tally_by shelf.faults shelf.calls shelf.written now

abbrev pub effort_of : {S : Type 0} → Ghosts S → S → Effort
effort_of shelf now = record { calls = shelf.calls now; written = shelf.written now }

-- from one such point to another
abbrev pub made_between : Effort → Effort → Made
made_between old new = made_by (λ (e : Effort). e.calls) (λ (e : Effort). e.written) old new

-- with so many calls more, which write nothing
abbrev pub and_more : ℕ → Made → Made
and_more more made = record {
  exactly = λ count blocks. made.exactly (count + more) blocks;
  within = λ least most blocks. made.within (least + more) (most + more) blocks;
  wrote = made.wrote;
}
