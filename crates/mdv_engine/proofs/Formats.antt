-- What a creation calls at least: its formats, and its table behind them.
use Rattle.std.proofs.Common.{◌≡◌, ◌≤◌, ◌+◌, ◌-◌, ◌*◌, ◌^◌, ℕ, List, [], ◌∷◌, length, min, sym, subst, arith}
use Rattle.mdv_shelf.proofs.Between.{rose_at_least}
use Rattle.mdv_shelf.specs.Between.{RoseByAtLeast}
use Rattle.mdv_shelf.specs.declared.shelf.Shelf.{Ghosts}
use Rattle.mdv_acts.proofs.Counting.{blanks_calls, forms_calls}
use Rattle.mdv_acts.proofs.Acting.{calls_more}
use Rattle.mdv_store.proofs.Losing.{rose_then}
use Rattle.mdv_acts.specs.Acts.{Act, Makes, acts_asked, blanks_asked, calls_of, forms_asked}
use Rattle.mdv_store.specs.Counts.{drives_lost}
use Rattle.mdv_acts.specs.Asked.{blanked_asked}
use Rattle.mdv_store.specs.Create.{WereFormed, seats_asked}
use Rattle.mdv_engine_law.specs.Efforts.{places_on}
use Rattle.mdv_engine.specs.Below.{Identity, Key, SliceLine, active_of}

module _ {S : Type 0} (shelf : Ghosts S) where
  none_rose : (count : S → _) (old new : S) → new ≡ old → RoseByAtLeast 0 (count old) (count new)
  none_rose count old new same = subst (λ (x : S). RoseByAtLeast 0 (count old) (count x)) (sym same) (λ n is. (n, is, at_most n (2 ^ 64 - 1))) where
    at_most : (n top : ℕ) → min (n + 0) top ≤ n
    at_most n top = omega arith

  acts_calls : (acts : List Act) (old new : S) → Makes shelf old new acts → RoseByAtLeast (calls_of acts) (shelf.calls old) (shelf.calls new)
  acts_calls [] old new same = none_rose shelf.calls old new same
  acts_calls (x ∷ xs) old new made = rose_at_least (calls_of (x ∷ xs)) (calls_of (x ∷ xs)) (shelf.calls old) (shelf.calls new) (omega arith) made.in_calls

  module _ (old new : S) (key : Key) (identity : Identity) (lines : List SliceLine) (count blocks : ℕ) (some : 1 ≤ count) (f : WereFormed shelf old new key identity lines count blocks) where
    total_calls : calls_of (acts_asked key identity 1 lines count blocks) ≡ 2 * blanked_asked lines count + 6 * (length lines * count)
    total_calls = omega (arith, calls_more (blanks_asked lines count blocks) (forms_asked key identity 1 lines count blocks), blanks_calls count blocks some lines, forms_calls count blocks key identity 1 lines)

    pub formed_calls : RoseByAtLeast (2 * blanked_asked lines count + 6 * places_on lines count + (6 * active_of f.now + drives_lost (seats_asked key identity lines count blocks) f.now)) (shelf.calls old) (shelf.calls new)
    formed_calls =
        rose_then (calls_of (acts_asked key identity 1 lines count blocks)) (6 * active_of f.now + drives_lost (seats_asked key identity lines count blocks) f.now) _ (shelf.calls old) (shelf.calls f.formed) (shelf.calls new) (omega (arith, total_calls))
        (acts_calls (acts_asked key identity 1 lines count blocks) old f.formed f.gone.made) f.counted.some.at_least
