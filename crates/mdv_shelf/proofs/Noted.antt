-- What one call on a shelf says of the moments of its story.
use Rattle.std.proofs.Common.{◌≡◌, ◌⊎◌, inl, inr, ℕ, ◌≤◌, Bool, List, length, Option, Result, Ok, Err, refl, ◌∙◌, ap, arith}
use Rattle.std.specs.Option.{option_map}
use Rattle.mdv_shelf.specs.Tale.{Tale, Then, Call, Wrote, Tore, Synced, Gave}
use Rattle.mdv_shelf.specs.Calls.{Part, Reads, Writes, Syncs, Gives, and_then}
use Rattle.mdv_shelf.specs.Moments.{During, Moments}
use Rattle.mdv_shelf.specs.Made.{tally_of}
use Rattle.mdv_shelf.specs.Story.{Tally, Story, tale_of, moment_at, and_next, part_of, IsNoted, Moment, NoFewer, OfTales}
use Rattle.mdv_shelf.specs.Shelves.{AtEachMoment, AtEachTale, GoesOn, Keeps, Kept}
use Rattle.mdv_shelf.specs.declared.shelf.Shelf.{Ghosts}
use Rattle.mdv_shelf.proofs.Moments.{grew_one, moments_none}
use Rattle.mdv_shelf.proofs.Stories.{each_noted, each_both, each_more, each_one, each_of_moments, each_of_tales, each_weaker, moments_of_each}

-- what a write may make of the tale, a failed one too
abbrev pub AfterWriting : ℕ → ℕ → List (List ℕ) → Tale → Tale → Type 0
AfterWriting drive at blocks t m = (m ≡ t) ⊎ ((m ≡ Then t (Wrote drive at blocks)) ⊎ ((took : List Bool) × (m ≡ Then t (Tore drive at blocks took))))

-- what a sync may
abbrev pub AfterSyncing : ℕ → Tale → Tale → Type 0
AfterSyncing drive t m = (m ≡ t) ⊎ (m ≡ Then t (Synced drive))

-- what a giving may by each of its moments
abbrev pub AfterGiving : List ℕ → Tale → Tale → Type 0
AfterGiving piece t m = (m ≡ t) ⊎ ((count : ℕ) × (count ≤ length piece) × (m ≡ Then t (Gave piece count)))

module _ (old new : Option Tale) where
  moments_then : (R : Tale → Tale → Type 0) (c : Call) → new ≡ and_then old c → ((t : Tale) → R t t) → ((t : Tale) → During (R t) t c) → Moments R old new
  moments_then R c is same after t told = (Then t c, is ∙ ap (λ (o : Option Tale). and_then o c) told, grew_one (R t) t c (same t) (after t))

  pub moments_write : {T E : Type 0} (drive at : ℕ) (blocks : List (List ℕ)) (result : Result T E) → Writes old drive at blocks result new → Moments (AfterWriting drive at blocks) old new
  moments_write drive at blocks (Ok v) is = moments_then (AfterWriting drive at blocks) (Wrote drive at blocks) is (λ t. inl refl) (λ t. inr (inl refl))
  moments_write drive at blocks (Err e) (inl same) = moments_none (AfterWriting drive at blocks) old new same (λ t. inl refl)
  moments_write drive at blocks (Err e) (inr (took, is)) =
      moments_then (AfterWriting drive at blocks) (Tore drive at blocks took) is (λ t. inl refl) (λ t. inr (inr (took, refl)))

  pub moments_sync : {T E : Type 0} (drive : ℕ) (result : Result T E) → Syncs old drive result new → Moments (AfterSyncing drive) old new
  moments_sync drive (Ok v) is = moments_then (AfterSyncing drive) (Synced drive) is (λ t. inl refl) (λ t. inr refl)
  moments_sync drive (Err e) same = moments_none (AfterSyncing drive) old new same (λ t. inl refl)

  pub moments_give : {T E : Type 0} (piece : List ℕ) (result : Result T E) → Gives old piece result new → Moments (AfterGiving piece) old new
  moments_give piece (Ok v) is = moments_then (AfterGiving piece) (Gave piece (length piece)) is (λ t. inl refl) (λ t k le. inr (k, le, refl))
  moments_give piece (Err e) (inl same) = moments_none (AfterGiving piece) old new same (λ t. inl refl)
  moments_give piece (Err e) (inr (count, few, is)) =
      moments_then (AfterGiving piece) (Gave piece count) is (λ t. inl refl) (λ t k le. inr (k, omega (arith, le, few), refl))

-- it has one call more at most
pub one_call : (part : Part) (a b : Option Story) (tally : Tally) → (b ≡ a) ⊎ ((c : Call) × (part_of c ≡ part) × (b ≡ and_next a c tally)) → (b ≡ a) ⊎ ((c : Call) × (b ≡ and_next a c tally))
one_call part a b tally (inl same) = inl same
one_call part a b tally (inr (c, on, next)) = inr (c, next)

-- stretches of calls on a shelf
module _ {S : Type 0} (shelf : Ghosts S) where
  pub moment_weaker : (R Q : Moment → Moment → Type 0) (old new : S) → ((t m : Moment) → NoFewer t.faults m.faults → NoFewer m.faults (shelf.faults new) → R t m → Q t m)
      → AtEachMoment shelf R old new → AtEachMoment shelf Q old new
  moment_weaker R Q old new weaker each = each_weaker R Q (shelf.story old) (tally_of shelf old) (shelf.story new) (tally_of shelf new) weaker each

  pub moment_both : (R Q : Moment → Moment → Type 0) (old new : S) → AtEachMoment shelf R old new → AtEachMoment shelf Q old new → AtEachMoment shelf (λ t m. R t m × Q t m) old new
  moment_both R Q old new one other = each_both R Q (shelf.story old) (tally_of shelf old) (shelf.story new) (tally_of shelf new) one other

  -- one stretch after another: the second is told from where the first ended, and no count fell
  pub moment_more : (R T Q : Moment → Moment → Type 0) (a b c : S) → ((t m : Moment) → NoFewer t.faults m.faults → R t m → Q t m)
      → ((t u m : Moment) → NoFewer t.faults u.faults → NoFewer u.faults m.faults → R t u → T u m → Q t m)
      → AtEachMoment shelf R a b → AtEachMoment shelf T b c → AtEachMoment shelf Q a c
  moment_more R T Q a b c weaker join first second =
      each_more R T Q (shelf.story a) (tally_of shelf a) (shelf.story b) (tally_of shelf b) (shelf.story c) (tally_of shelf c) weaker join first second

  pub goes_on_call : (part : Part) (old new : S) → IsNoted shelf.story shelf.faults shelf.calls shelf.written part old new → Keeps shelf old new → GoesOn shelf old new
  goes_on_call part old new noted keeps = each_noted (shelf.story old) (shelf.story new) (tally_of shelf old) (tally_of shelf new) (one_call part (shelf.story old) (shelf.story new) (tally_of shelf old) noted) keeps.no_fewer_faults

  pub goes_on_more : (a b c : S) → GoesOn shelf a b → GoesOn shelf b c → GoesOn shelf a c
  goes_on_more a b c first second = moment_more (λ _ _. Unit {0}) (λ _ _. Unit {0}) (λ _ _. Unit {0}) a b c (λ t m up here. tt) (λ t u m up on here there. tt) first second

-- stretches of calls, with all that they keep
module _ {S : Type 0} (shelf : Ghosts S) where
  pub keeps_more : (a b c : S) → Keeps shelf a b → Keeps shelf b c → Keeps shelf a c
  keeps_more a b c first second = record {
    same_sizes = second.same_sizes ∙ first.same_sizes;
    same_rest = second.same_rest ∙ first.same_rest;
    same_held = second.same_held ∙ first.same_held;
    no_fewer_faults = λ part. (let one = first.no_fewer_faults part in let two = second.no_fewer_faults part in omega arith);
  }

  pub kept_call : (part : Part) (old new : S) → IsNoted shelf.story shelf.faults shelf.calls shelf.written part old new → Keeps shelf old new → Kept shelf old new
  kept_call part old new noted keeps = record { keeps = keeps; goes = goes_on_call shelf part old new noted keeps }

-- one stretch after another
pub kept_more : {S : Type 0} {shelf : Ghosts S} {a b c : S} → Kept shelf a b → Kept shelf b c → Kept shelf a c
kept_more {S} {shelf} {a} {b} {c} first second = record { keeps = keeps_more shelf a b c first.keeps second.keeps; goes = goes_on_more shelf a b c first.goes second.goes }

-- One call on a shelf. What a relation needs is said of each moment with the counts as the call was made,
-- and of the end with those behind it.
module _ {S : Type 0} (shelf : Ghosts S) (telling : (s : S) → shelf.tale s ≡ option_map tale_of (shelf.story s)) (part : Part) (old new : S)
    (noted : IsNoted shelf.story shelf.faults shelf.calls shelf.written part old new) (keeps : Keeps shelf old new) where
  module _ (R : Moment → Moment → Type 0) where
    abbrev HoldsDuring : (Tale → Tale → Type 0) → Type 0
    HoldsDuring Q = (t m : Tale) → Q t m → R (moment_at t (tally_of shelf old)) (moment_at m (tally_of shelf old))

    abbrev HoldsBehind : (Tale → Tale → Type 0) → Type 0
    HoldsBehind Q = (t u : Tale) → Q t u → R (moment_at t (tally_of shelf old)) (moment_at u (tally_of shelf new))

    pub each_call : (Q : Tale → Tale → Type 0) → HoldsDuring Q → HoldsBehind Q → Moments Q (shelf.tale old) (shelf.tale new) → AtEachMoment shelf R old new
    each_call Q during behind moments =
        each_one (shelf.story old) (shelf.story new) (tally_of shelf old) (tally_of shelf new) (one_call part (shelf.story old) (shelf.story new) (tally_of shelf old) noted) keeps.no_fewer_faults (shelf.tale old) (shelf.tale new) (telling old) (telling new) R Q
        during behind moments

    pub each_read : {T E : Type 0} (drive at : ℕ) (result : Result T E) (blocks : List (List ℕ)) → Reads (shelf.tale old) drive at result blocks (shelf.tale new)
        → HoldsDuring (λ t m. m ≡ t) → HoldsBehind (λ t m. m ≡ t) → AtEachMoment shelf R old new
    each_read drive at result blocks reads during behind =
        each_call (λ t m. m ≡ t) during behind (moments_none (λ t m. m ≡ t) (shelf.tale old) (shelf.tale new) reads.same (λ t. refl))

    pub each_write : {T E : Type 0} (drive at : ℕ) (blocks : List (List ℕ)) (result : Result T E) → Writes (shelf.tale old) drive at blocks result (shelf.tale new)
        → HoldsDuring (AfterWriting drive at blocks) → HoldsBehind (AfterWriting drive at blocks) → AtEachMoment shelf R old new
    each_write drive at blocks result writes during behind =
        each_call (AfterWriting drive at blocks) during behind (moments_write (shelf.tale old) (shelf.tale new) drive at blocks result writes)

    pub each_sync : {T E : Type 0} (drive : ℕ) (result : Result T E) → Syncs (shelf.tale old) drive result (shelf.tale new)
        → HoldsDuring (AfterSyncing drive) → HoldsBehind (AfterSyncing drive) → AtEachMoment shelf R old new
    each_sync drive result syncs during behind = each_call (AfterSyncing drive) during behind (moments_sync (shelf.tale old) (shelf.tale new) drive result syncs)

    pub each_give : {T E : Type 0} (piece : List ℕ) (result : Result T E) → Gives (shelf.tale old) piece result (shelf.tale new)
        → HoldsDuring (AfterGiving piece) → HoldsBehind (AfterGiving piece) → AtEachMoment shelf R old new
    each_give piece result gives during behind = each_call (AfterGiving piece) during behind (moments_give (shelf.tale old) (shelf.tale new) piece result gives)

-- the moments of a shelf's story and those of its tale
module _ {S : Type 0} (shelf : Ghosts S) (telling : (s : S) → shelf.tale s ≡ option_map tale_of (shelf.story s)) (old new : S) where
  pub tales_of : (R : Tale → Tale → Type 0) → AtEachMoment shelf (OfTales R) old new → AtEachTale shelf R old new
  tales_of R each =
      moments_of_each (shelf.story old) (shelf.story new) (tally_of shelf old) (tally_of shelf new) (shelf.tale old) (shelf.tale new) (telling old) (telling new) R each

  pub moments_of_tales : (R : Tale → Tale → Type 0) → GoesOn shelf old new → AtEachTale shelf R old new → AtEachMoment shelf (OfTales R) old new
  moments_of_tales R passed moments =
      each_of_tales (shelf.story old) (shelf.story new) (tally_of shelf old) (tally_of shelf new) (shelf.tale old) (shelf.tale new) (telling old) (telling new) R passed moments

  pub moment_with_tales : (R : Moment → Moment → Type 0) (Q : Tale → Tale → Type 0) → AtEachMoment shelf R old new → AtEachTale shelf Q old new → AtEachMoment shelf (λ t m. R t m × OfTales Q t m) old new
  moment_with_tales R Q each moments =
      each_of_moments (shelf.story old) (shelf.story new) (tally_of shelf old) (tally_of shelf new) (shelf.tale old) (shelf.tale new) (telling old) (telling new) R Q each moments
