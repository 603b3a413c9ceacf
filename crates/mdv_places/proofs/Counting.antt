-- How many calls a change of places makes, and how many blocks it writes.
use Rattle.std.proofs.Common.{◌≡◌, ◌<◌, ◌≤◌, ◌+◌, ◌*◌, ℕ, suc, Bool, true, false, cond, List, [], ◌∷◌, length, MatchOption, Option, None, Err, Ok, refl, sym, ap, subst, arith}
use Rattle.std.proofs.Math.Nat.{mul-le-mul_left}
use Rattle.mdv_acts.specs.Acts.{Act, HaveGone, MadeCallsBetween, Makes, blocks_of, calls_of}
use Rattle.mdv_acts.specs.Wipes.{AreFoundAt, WereWiped}
use Rattle.mdv_base.specs.DriveSet.{Drives}
use Rattle.mdv_shelf.proofs.Between.{between_none, between_of, between_then}
use Rattle.mdv_shelf.specs.Shelves.{DriveFailures}
use Rattle.mdv_store.proofs.Losing.{left_or_lost}
use Rattle.mdv_store.proofs.Passes.{left_most}
use Rattle.mdv_store.proofs.Shares.{both_none, first_enough}
use Rattle.mdv_store.specs.Counts.{drives_lost}
use Rattle.mdv_store.specs.Listing.{MayList, WasListed, is_listed_in, last_by, seats_in}
use Rattle.mdv_store.specs.Shares.{short_in, short_of}
use Rattle.mdv_store.specs.Text.{blocks_for}
use Rattle.mdv_store.specs.Writing.{text_size}
use Rattle.mdv_store.specs.declared.seats.Need.TheVariants.{Half}
use Rattle.mdv_places.specs.Asked.{Asks, acts_moved, drives_added, dropped, list_after, lists_after}
use Rattle.mdv_places.specs.Below.{AreLeft, Failures, Geometry, Ghosts, One, Opened, Place, PlaceAt, Replica, Seat, Share, Table, TakesSlot, active_of, last_of, next_mark, same_place, settled}
use Rattle.mdv_places.specs.Changing.{MayMove, both_of}
use Rattle.mdv_places.specs.Counts.{IsLossCounted, IsMoveCounted, WereMadeBehind, first_blocks, first_calls, first_count, last_blocks, last_calls, last_count, move_blocks, move_calls}
use Rattle.mdv_places.specs.declared.changing.PlacesFault.TheVariants as unmoved
use Rattle.mdv_places.proofs.Halves.{fewer_in, half_active, half_in}
use Rattle.std.specs.List.{list_any}

-- what a pass leaves of a list's places
module _ (failed : ℕ → Failures) (Took : Replica → Replica → Type 0) (list : List Place) where
  pub left_in : (old new : List Seat) → AreLeft failed Took old new → AreLeft failed Took (seats_in list old) (seats_in list new)
  left_in [] [] are = are
  left_in [] (n ∷ new) are = absurd are
  left_in (s ∷ old) [] are = absurd are
  left_in (s ∷ old) (n ∷ new) are = by (is_listed_in list s) (is_listed_in list n) (ap (λ (p : Place). list_any (same_place p) list) (sym are.0.0)) (left_in old new are.1) where
    by : (a b : Bool) → a ≡ b → AreLeft failed Took (seats_in list old) (seats_in list new) → AreLeft failed Took (cond a (s ∷ seats_in list old) (seats_in list old)) (cond b (n ∷ seats_in list new) (seats_in list new))
    by true true same rest = (are.0, rest)
    by true false same rest = absurd (cc (same))
    by false true same rest = absurd (cc (same))
    by false false same rest = rest

pub found_count : (g : Geometry) (places : List Place) (at : List PlaceAt) → AreFoundAt g places at → length at ≡ length places
found_count g [] [] found = refl
found_count g [] (a ∷ rest) found = absurd found
found_count g (p ∷ ps) [] found = absurd found
found_count g (p ∷ ps) (a ∷ rest) found = ap (λ (n : ℕ). suc n) (found_count g ps rest found.1)

module _ {S : Type 0} (shelf : Ghosts S) where
  acts_between : (acts : List Act) (a b : S) → Makes shelf a b acts → MadeCallsBetween shelf a b (calls_of acts) (calls_of acts) (blocks_of acts)
  acts_between [] a b same = between_none shelf.calls shelf.written a b 0 0 same
  acts_between (x ∷ xs) a b took = between_of shelf.calls shelf.written a b (calls_of (x ∷ xs)) (blocks_of (x ∷ xs)) (calls_of (x ∷ xs)) (calls_of (x ∷ xs)) (blocks_of (x ∷ xs)) (omega arith) (omega arith) (omega arith) took

  module _ (from formed both last to : S) (g : Geometry) (o between now : Opened) (asked : Asks) (gone : HaveGone shelf from formed (drives_added asked) (acts_moved o asked)) where
    abbrev seats : List Seat
    seats = (both_of o asked).seats

    -- the calls of the record with both lists, where these places are left
    abbrev least_first : ℕ
    least_first = 6 * active_of between.seats + drives_lost seats between.seats

    -- till it ended
    both_between : (result : _) → WasListed shelf formed both (both_of o asked) between result → MadeCallsBetween shelf from both (calls_of (acts_moved o asked) + least_first) (first_calls o asked) (first_blocks o asked)
    both_between result first =
        between_then shelf.calls shelf.written from formed both (calls_of (acts_moved o asked)) (calls_of (acts_moved o asked)) (blocks_of (acts_moved o asked)) least_first (6 * first_count o asked) ((2 + blocks_for (text_size (both_of o asked).table)) * first_count o asked)
        (calls_of (acts_moved o asked) + least_first) (first_calls o asked) (first_blocks o asked) (omega arith) (omega arith) (omega arith) (acts_between (acts_moved o asked) from formed gone.made) first.wrote.passed.counted.some

    module _ (first : WasListed shelf formed both (both_of o asked) between (Ok tt)) where
      -- no more places of the new list are left than there were
      fewer : active_of (seats_in (last_of between.table.plan.lists) between.seats) ≤ last_count o asked
      fewer =
          let list = last_of between.table.plan.lists in
          let same : list ≡ list_after asked (last_of o.table.plan.lists) = ap (λ (b : Opened). last_of b.table.plan.lists) first.came.1 in
          subst (λ (l : List Place). active_of (seats_in list between.seats) ≤ active_of (seats_in l seats)) same
          (left_most (DriveFailures shelf formed both) (TakesSlot (next_mark o.mark) (text_size (both_of o asked).table)) (seats_in list seats) (seats_in list between.seats)
          (left_in (DriveFailures shelf formed both) (TakesSlot (next_mark o.mark) (text_size (both_of o asked).table)) list seats between.seats first.wrote.left))

      table_is : settled between.table ≡ settled (both_of o asked).table
      table_is = ap (λ (b : Opened). settled b.table) first.came.1

      abbrev least_last : ℕ
      least_last = 6 * active_of now.seats + drives_lost (last_by between).seats now.seats

      -- till that with the new one alone ended
      last_between : (result : _) → WasListed shelf both last (last_by between) now result → (least : ℕ) → least ≤ calls_of (acts_moved o asked) + least_first + least_last → MadeCallsBetween shelf from last least (last_calls o asked) (last_blocks o asked)
      last_between result second least low =
          let b = 2 + blocks_for (text_size (settled (both_of o asked).table)) in
          let less = fewer in
          let product = mul-le-mul_left b less in
          let some = subst (λ (t : Table). MadeCallsBetween shelf both last least_last (6 * active_of (last_by between).seats) ((2 + blocks_for (text_size t)) * active_of (last_by between).seats)) table_is second.wrote.passed.counted.some in
          between_then shelf.calls shelf.written from both last (calls_of (acts_moved o asked) + least_first) (first_calls o asked) (first_blocks o asked) least_last (6 * active_of (last_by between).seats) (b * active_of (last_by between).seats)
          least (last_calls o asked) (last_blocks o asked) low (omega (arith, less)) (omega (arith, product)) (both_between (Ok tt) first) some

      -- no more places are active then than took both lists
      left_both : (result : _) → WasListed shelf both last (last_by between) now result → active_of now.seats ≤ active_of between.seats
      left_both result second =
          let list = last_of between.table.plan.lists in
          let most = left_most (DriveFailures shelf both last) (TakesSlot (next_mark between.mark) (text_size (last_by between).table)) (seats_in list between.seats) now.seats second.wrote.left in
          omega (arith, most, fewer_in list between.seats)

      -- and till the last wipe did
      pub move_between : (lost left : Drives) (clean : Bool) → WasListed shelf both last (last_by between) now (Ok tt) → WereWiped shelf g last to (dropped asked (last_of o.table.plan.lists)) lost left clean
          → MadeCallsBetween shelf from to (calls_of (acts_moved o asked) + 12 * active_of now.seats) (move_calls o asked) (move_blocks o asked)
      move_between lost left clean second wiped =
          let count = found_count g (dropped asked (last_of o.table.plan.lists)) wiped.at wiped.found in
          let less = left_both (Ok tt) second in
          between_then shelf.calls shelf.written from last to (calls_of (acts_moved o asked) + 12 * active_of now.seats) (last_calls o asked) (last_blocks o asked) 0 (2 * length wiped.at) (length wiped.at)
          (calls_of (acts_moved o asked) + 12 * active_of now.seats) (move_calls o asked) (move_blocks o asked)
          (omega arith) (omega (arith, count)) (omega (arith, count)) (last_between (Ok tt) second (calls_of (acts_moved o asked) + 12 * active_of now.seats) (omega (arith, less))) wiped.tried.made

    -- Where the store is lost.
    module _ (may : MayMove (shelf.sizes from) g o asked) (checked : MayList o (lists_after asked o.table.plan.lists)) where
      abbrev old : List Place
      old = last_of o.table.plan.lists

      abbrev list : List Place
      list = list_after asked old

      counted : (to_then : S) (new : Opened) → IsLossCounted shelf from to_then o asked new new.table.plan.lists → (active listed : ℕ) → IsMoveCounted shelf from to_then g o asked new (Err (unmoved.Lost active listed))
      counted to_then new lost active listed = subst (λ (s : Option Share). MatchOption s (IsLossCounted shelf from to_then o asked new new.table.plan.lists) (λ share. to_then ≡ from)) (sym checked.half) lost

      -- too few took both lists
      pub short_both : (share : Share) → WasListed shelf formed both (both_of o asked) between (Err share) → (active listed : ℕ) → IsMoveCounted shelf from both g o asked between (Err (unmoved.Lost active listed))
      short_both share first = counted both between (subst (IsLossCounted shelf from both o asked between) (sym (ap (λ (b : Opened). b.table.plan.lists) first.came.1)) (both_between (Err share) first))

      -- or the new one alone
      module _ (first : WasListed shelf formed both (both_of o asked) between (Ok tt)) where
        half : short_of Half between.seats (lists_after asked o.table.plan.lists) ≡ None
        half = subst (λ (b : Opened). short_of Half between.seats b.table.plan.lists ≡ None) first.came.1 first.came.0

        both_half : (short_of Half between.seats (One old) ≡ None) × (short_of Half between.seats (One list) ≡ None)
        both_half = both_none Half between.seats (short_in Half between.seats old) (short_in Half between.seats list) half

        some_again : 0 < active_of (last_by between).seats
        some_again =
            let same : last_of between.table.plan.lists ≡ list = ap (λ (b : Opened). last_of b.table.plan.lists) first.came.1 in
            let in_list = half_in list between.seats both_half.1 in
            subst (λ (l : List Place). 0 < active_of (seats_in l between.seats)) (sym same) (first_enough Half (seats_in list between.seats) (One list) may.some in_list)

        made_behind : (result : _) → WasListed shelf both last (last_by between) now result → WereMadeBehind shelf from last o asked now
        made_behind result second =
            let one = left_or_lost 6 (last_by between).seats now.seats (omega arith) some_again in
            record {
              took = active_of between.seats;
              half_old = half_active between.seats old may.differ both_half.0;
              half_new = λ once. half_active between.seats list once both_half.1;
              some = last_between first result second (calls_of (acts_moved o asked) + 6 * active_of between.seats + 1) (omega (arith, one));
              each = last_between first result second (calls_of (acts_moved o asked) + 6 * active_of between.seats + 6 * active_of now.seats) (omega arith);
            }

        pub short_last : (share : Share) → WasListed shelf both last (last_by between) now (Err share) → (active listed : ℕ) → IsMoveCounted shelf from last g o asked now (Err (unmoved.Lost active listed))
        short_last share second = counted last now (subst (IsLossCounted shelf from last o asked now) (sym (ap (λ (b : Opened). b.table.plan.lists) second.came.1)) (made_behind (Err share) second))
