-- The numbers of completed boots rise.
use Rattle.std.proofs.Common.{◌≡◌, ◌<◌, ◌-◌, ℕ, Bool, true, false, refl, ap, sym, ◌∙◌, subst, List, [], ◌∷◌, ◌++◌, length, Option, None, Some, arith, cond}
use Rattle.std.proofs.lemmas.Bool.{false≢true}
use Rattle.mdv_quorum.specs.Below.{Spot, SpotLists, Version, is_in, is_named, is_written, table_at, newest_of, change_at, wiped}
use Rattle.mdv_quorum.specs.declared.event.SlotEnd.{SlotEnd}
use Rattle.mdv_quorum.specs.declared.event.Event.{Event}
use Rattle.mdv_quorum.specs.declared.event.Event.TheVariants.{Read, Claimed, Slotted, Formatted, Wiped, Lists, Told, Crash, Lose, Back}
use Rattle.mdv_quorum.specs.declared.machine.Core.{Core}
use Rattle.mdv_quorum.specs.declared.machine.Stage.{Stage}
use Rattle.mdv_quorum.specs.declared.machine.Stage.TheVariants.{Reading, Creating, Claiming, Writing, Ready}
use Rattle.mdv_quorum.specs.World.{start, happens, after_all, read, claimed, chosen, slotted, slotted_next, wrote, with_table, settled, last_table, places_after, taken_after, formatted_at, formatted_next, formatted_seat, wiped_at, given_up, lists_at as lists_next, told_at, told_of}
use Rattle.mdv_quorum.specs.May.{may_tell}
use Rattle.mdv_quorum.specs.Standing.{BootsAt, drawn_at, NumbersRise}
use Rattle.mdv_quorum.proofs.More.{longer, old_table}
use Rattle.mdv_quorum.proofs.Written.{some_same}
use Rattle.mdv_quorum.proofs.Events.{after_both, may_front, may_back}
use Rattle.mdv_quorum.proofs.Stands.{stands_always}

-- a table that is being written comes later than this one
abbrev StagePast : ℕ → ℕ → Stage → Type 0
StagePast m n (Reading places) = Unit {0}
StagePast m n (Creating next) = Unit {0}
StagePast m n (Claiming i next places) = Unit {0}
StagePast m n (Writing boot took) = m < n - 1
StagePast m n (Ready next) = Unit {0}

-- this table is in the family, and is in hand no more
record IsPast (t : Version) (m : ℕ) (w : Core) : Type 0 where
  here : m < length w.family
  same : table_at w.family m ≡ t
  later : StagePast m (length w.family) w.stage

module _ (t : Version) (m : ℕ) where
  past_settled : (v : Core) (last : Version) (b : Bool) → IsPast t m v → IsPast t m (settled v last b)
  past_settled v last true p = record { here = p.here; same = p.same; later = p.later }
  past_settled v last false p = p

  past_wrote : (w : Core) (p : Spot) (end : SlotEnd) (boot : Option ℕ) (took : List Spot) → m < length w.family - 1 → table_at w.family m ≡ t → IsPast t m (wrote w p end boot took)
  past_wrote w p end boot took below same =
      past_settled (record w { places = places_after w.places (length w.family - 1) p end; stage = Writing boot (taken_after took p end) }) (last_table w)
      (is_written (last_table w) (is_in (taken_after took p end))) (record { here = omega (arith, below); same = same; later = below })

  past_first : (w : Core) (p : Spot) (end : SlotEnd) (boot : Option ℕ) (next : Version) → IsPast t m w → IsPast t m (wrote (with_table w next) p end boot [])
  past_first w p end boot next past =
      let here = past.here in
      past_wrote (with_table w next) p end boot [] (omega (arith, here, longer w.set w.family next)) (old_table w.set w.family next m here ∙ past.same)

  past_chosen : (w : Core) (p : Spot) (places : List Spot) (o : Option ℕ) → IsPast t m w → IsPast t m (chosen w p places o)
  past_chosen w p places None past = past
  past_chosen w p places (Some i) past = record { here = past.here; same = past.same; later = tt }

  past_read : (w : Core) (p : Spot) (s : Stage) → IsPast t m w → IsPast t m (read w p s)
  past_read w p (Reading places) past = record { here = past.here; same = past.same; later = tt }
  past_read w p (Creating next) past = past
  past_read w p (Claiming i next places) past = past
  past_read w p (Writing boot took) past = past
  past_read w p (Ready next) past = past

  past_claimed : (w : Core) (p : Spot) (s : Stage) → IsPast t m w → IsPast t m (claimed w p s)
  past_claimed w p (Reading places) past = past_chosen w p places (newest_of w.family w.places None places) past
  past_claimed w p (Creating next) past = past
  past_claimed w p (Claiming i next places) past = record { here = past.here; same = past.same; later = tt }
  past_claimed w p (Writing boot took) past = record { here = past.here; same = past.same; later = past.later }
  past_claimed w p (Ready next) past = past

  past_next : (w : Core) (p : Spot) (end : SlotEnd) (next : Option Version) → IsPast t m w → IsPast t m (slotted_next w p end next)
  past_next w p end None past = past
  past_next w p end (Some next) past = past_first w p end None next past

  past_slotted : (w : Core) (p : Spot) (end : SlotEnd) (s : Stage) → StagePast m (length w.family) s → IsPast t m w → IsPast t m (slotted w p end s)
  past_slotted w p end (Reading places) later past = past
  past_slotted w p end (Creating next) later past = past_first w p end None next past
  past_slotted w p end (Claiming i next places) later past = past_first w p end (Some i) next past
  past_slotted w p end (Writing boot took) later past = past_wrote w p end boot took later past.same
  past_slotted w p end (Ready next) later past = past_next w p end next past

  past_format_next : (w : Core) (p : Spot) (next : Option Version) → IsPast t m w → IsPast t m (formatted_next w p next)
  past_format_next w p None past = past
  past_format_next w p (Some next) past = record { here = past.here; same = past.same; later = past.later }

  past_formatted : (w : Core) (p : Spot) (s : Stage) → IsPast t m w → IsPast t m (formatted_at w p s)
  past_formatted w p (Reading places) past = past
  past_formatted w p (Creating next) past = record { here = past.here; same = past.same; later = past.later }
  past_formatted w p (Claiming i next places) past = past
  past_formatted w p (Writing boot took) past = past
  past_formatted w p (Ready next) past = at p.mediator
    where
      at : (k : Bool) → IsPast t m (cond k (formatted_seat w p) (formatted_next w p next))
      at true = record { here = past.here; same = past.same; later = tt }
      at false = past_format_next w p next past

  past_wiped : (w : Core) (p : Spot) (s : Stage) → IsPast t m w → IsPast t m (wiped_at w p s)
  past_wiped w p (Reading places) past = record { here = past.here; same = past.same; later = past.later }
  past_wiped w p (Creating next) past = record { here = past.here; same = past.same; later = past.later }
  past_wiped w p (Claiming i next places) past = record { here = past.here; same = past.same; later = past.later }
  past_wiped w p (Writing boot took) past = record { here = past.here; same = past.same; later = past.later }
  past_wiped w p (Ready next) past = at (is_named (last_table w).lists p)
    where
      at : (k : Bool) → IsPast t m (cond k (record w { places = change_at w.places p wiped; deleted = Some p; stage = Reading [] }) (record w { places = change_at w.places p wiped; stage = Ready (given_up p next) }))
      at true = record { here = past.here; same = past.same; later = tt }
      at false = record { here = past.here; same = past.same; later = tt }

  past_lists : (w : Core) (lists : SpotLists) (s : Stage) → IsPast t m w → IsPast t m (lists_next w lists s)
  past_lists w lists (Reading places) past = record { here = past.here; same = past.same; later = tt }
  past_lists w lists (Creating next) past = record { here = past.here; same = past.same; later = tt }
  past_lists w lists (Claiming i next places) past = past
  past_lists w lists (Writing boot took) past = past
  past_lists w lists (Ready next) past = record { here = past.here; same = past.same; later = tt }

  past_told_of : (w : Core) (boot : Option ℕ) → IsPast t m w → IsPast t m (told_of w boot)
  past_told_of w None past = record { here = past.here; same = past.same; later = tt }
  past_told_of w (Some i) past = record { here = past.here; same = past.same; later = tt }

  past_told : (w : Core) (s : Stage) → IsPast t m w → IsPast t m (told_at w s)
  past_told w (Reading places) past = past
  past_told w (Creating next) past = past
  past_told w (Claiming i next places) past = past
  past_told w (Writing boot took) past = past_told_of w boot past
  past_told w (Ready next) past = past

  past_step : (w : Core) (e : Event) → IsPast t m w → IsPast t m (happens w e)
  past_step w (Read p) past = past_read w p w.stage past
  past_step w (Claimed p) past = past_claimed w p w.stage past
  past_step w (Slotted p end) past = past_slotted w p end w.stage past.later past
  past_step w (Formatted p) past = past_formatted w p w.stage past
  past_step w (Wiped p) past = past_wiped w p w.stage past
  past_step w (Lists lists) past = past_lists w lists w.stage past
  past_step w Told past = past_told w w.stage past
  past_step w Crash past = record { here = past.here; same = past.same; later = tt }
  past_step w (Lose d) past = record { here = past.here; same = past.same; later = past.later }
  past_step w (Back d) past = record { here = past.here; same = past.same; later = past.later }

  past_all : (w : Core) (es : List Event) → IsPast t m w → IsPast t m (after_all w es)
  past_all w [] past = past
  past_all w (e ∷ es) past = past_all (happens w e) es (past_step w e past)

none_is : (a : ℕ) → None ≡ Some a → ⊥
none_is a e = cc

-- the number that is drawn is above that of a table that is past
drawn_above : (t : Version) (m : ℕ) (w : Core) (s : Stage) (b : ℕ) → m < length w.family → table_at w.family m ≡ t → StagePast m (length w.family) s → BootsAt w s → drawn_at w s ≡ Some b → t.mark.boot < b
drawn_above t m w (Reading places) b here same later boots e = absurd (none_is b e)
drawn_above t m w (Creating next) b here same later boots e = absurd (none_is b e)
drawn_above t m w (Claiming i next places) b here same later boots e =
    let fresh = boots.0.fresh m here in
    let eb = some_same next.mark.boot b e in
    omega (arith, fresh, eb, ap (λ (x : Version). x.mark.boot) same)
drawn_above t m w (Writing None took) b here same later boots e = absurd (none_is b e)
drawn_above t m w (Writing (Some i) took) b here same later boots e =
    let fresh = boots.1.0.fresh m later in
    let eb = some_same (table_at w.family (length w.family - 1)).mark.boot b e in
    omega (arith, fresh, eb, ap (λ (x : Version). x.mark.boot) same)
drawn_above t m w (Ready next) b here same later boots e = absurd (none_is b e)

-- a boot that is told: its table is past
told_past : (w : Core) (s : Stage) (a : ℕ) → BootsAt w s → drawn_at w s ≡ Some a → may_tell w s ≡ true
    → IsPast (last_table w) (length w.family - 1) (told_at w s) × ((last_table w).mark.boot ≡ a)
told_past w (Reading places) a boots e m = absurd (none_is a e)
told_past w (Creating next) a boots e m = absurd (none_is a e)
told_past w (Claiming i next places) a boots e m = absurd (false≢true m)
told_past w (Writing None took) a boots e m = absurd (none_is a e)
told_past w (Writing (Some i) took) a boots e m =
    let known = boots.1.0.known in
    (record { here = omega (arith, known); same = refl; later = tt }, some_same (last_table w).mark.boot a e)
told_past w (Ready next) a boots e m = absurd (none_is a e)

pub numbers_rise : (set : Bool) (events later : List Event) → NumbersRise set events later
numbers_rise set events later a b m da db =
    let w = after_all (start set) events in
    let v = after_all (start set) (events ++ Told ∷ later) in
    let before = stands_always set events (may_front (start set) events (Told ∷ later) m) in
    let after = stands_always set (events ++ Told ∷ later) m in
    let told = told_past w w.stage a before.boots da (may_back (start set) events (Told ∷ later) m).0 in
    let past = subst (λ (c : Core). IsPast (last_table w) (length w.family - 1) c) (sym (after_both (start set) events (Told ∷ later)))
    (past_all (last_table w) (length w.family - 1) (happens w Told) later told.0) in
    let above = drawn_above (last_table w) (length w.family - 1) v v.stage b past.here past.same past.later after.boots db in
    omega (arith, above, told.1)
