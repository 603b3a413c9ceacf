-- When each event may happen.
use Rattle.std.specs.Prelude.{◌≡◌, ℕ, ◌+◌, ◌^◌, ◌++◌, ◌&&◌, ◌||◌, ◌==◌, not, Bool, true, false, List, [], ◌∷◌, Option, None, Some, length, nat_lt, nat_le, cond, IsTrue}
use Rattle.std.specs.List.{list_any, list_all}
use Rattle.mdv_quorum.specs.Below.{DriveNo, Spot, SpotLists, Version, same_spot, is_in, is_named, is_none, same_spots, is_written, is_claimed, is_read, table_at, place_at, newest_of, greatest_of, knows_above}
use Rattle.mdv_quorum.specs.declared.event.Event.{Event}
use Rattle.mdv_quorum.specs.declared.event.Event.TheVariants.{Read, Claimed, Slotted, Formatted, Wiped, Lists, Told, Crash, Lose, Back}
use Rattle.mdv_quorum.specs.declared.machine.Core.{Core}
use Rattle.mdv_quorum.specs.declared.machine.Stage.{Stage}
use Rattle.mdv_quorum.specs.declared.machine.Stage.TheVariants.{Reading, Creating, Claiming, Writing, Ready}
use Rattle.mdv_quorum.specs.World.{last_table, happens, after_all, rewritten}

abbrev pub is_up : List DriveNo → Spot → Bool
is_up lost p = not (list_any (λ (d : DriveNo). d.0 == p.drive.0) lost)

-- what the reader of a drive that is up finds at a place, or at a mediator's seat
abbrev pub may_read : Core → Spot → Stage → Bool
may_read w p (Reading places) = is_up w.lost p && ((place_at w.places p).holds || p.mediator)
may_read w p (Creating next) = false
may_read w p (Claiming adopted next claimed) = false
may_read w p (Writing boot took) = false
may_read w p (Ready next) = false

-- it holds a replica or a mediator's block, and the table names it
abbrev pub is_target : Core → SpotLists → Spot → Bool
is_target w lists p = (place_at w.places p).holds && is_named lists p

-- what was read is a read quorum of this table, which names the place, and the number that a boot draws is in its limit
abbrev pub may_adopt : Core → Version → List Spot → Spot → Bool
may_adopt w t places p =
    is_read t (is_in places) (knows_above w.family w.places t)
    && (is_target w t.lists p && nat_lt (greatest_of w.family w.places 0 places + 1) (2 ^ 63))

abbrev pub shows_none : Option ℕ → Bool
shows_none None = true
shows_none (Some i) = false

-- A place that the table of this number names shows none, and a later one dropped it before it was
-- formatted again: it is readable, and its vote is no vote for this table.
abbrev pub is_stale_vote : Core → ℕ → Spot → Bool
is_stale_vote w i q = is_named (table_at w.family i).lists q && (shows_none (place_at w.places q).newest && nat_lt i (place_at w.places q).floor)

-- Clean re-use: none of what a boot read is a stale vote for the table that it chooses.
abbrev pub is_fair : Core → ℕ → List Spot → Bool
is_fair w i places = list_all (λ (q : Spot). not (is_stale_vote w i q)) places

abbrev pub may_choose : Core → Spot → List Spot → Option ℕ → Bool
may_choose w p places None = false
may_choose w p places (Some i) =
    let t = table_at w.family i in
    (is_read t (is_in places) (knows_above w.family w.places t)
    && (is_target w t.lists p && nat_lt (rewritten w places i).mark.boot (2 ^ 63)))
    && is_fair w i places

abbrev pub is_boot : Option ℕ → Bool
is_boot None = false
is_boot (Some i) = true

-- what was read is a read quorum of the table with the greatest mark, and the table names the place
abbrev pub may_claim : Core → Spot → Stage → Bool
may_claim w p (Reading places) = may_choose w p places (newest_of w.family w.places None places)
may_claim w p (Creating next) = false
may_claim w p (Claiming adopted next claimed) = is_target w next.lists p
may_claim w p (Writing boot took) = is_boot boot && is_target w (last_table w).lists p
may_claim w p (Ready next) = false

abbrev pub may_slot_next : Core → Spot → Option Version → Bool
may_slot_next w p None = false
may_slot_next w p (Some next) = is_target w next.lists p

-- a table is in hand that names the place, and a boot's claims suffice
abbrev pub may_slot : Core → Spot → Stage → Bool
may_slot w p (Reading places) = false
may_slot w p (Creating next) = is_target w next.lists p
may_slot w p (Claiming adopted next claimed) = is_claimed w.set next (is_in claimed) && is_target w next.lists p
may_slot w p (Writing boot took) = is_target w (last_table w).lists p
may_slot w p (Ready next) = may_slot_next w p next

-- the firm table names the place
abbrev pub is_firm_in : List Version → Option ℕ → Spot → Bool
is_firm_in family None p = false
is_firm_in family (Some i) p = is_named (table_at family i).lists p

-- a replica's place that the table in hand names and the firm one doesn't
abbrev pub may_format_place : Core → Spot → SpotLists → Bool
may_format_place w p lists = not p.mediator && (is_named lists p && not (is_firm_in w.family w.firm p))

abbrev pub may_format_next : Core → Spot → Option Version → Bool
may_format_next w p None = false
may_format_next w p (Some next) = may_format_place w p next.lists

abbrev pub may_format : Core → Spot → Stage → Bool
may_format w p (Reading places) = false
may_format w p (Creating next) = may_format_place w p next.lists
may_format w p (Claiming adopted next claimed) = false
may_format w p (Writing boot took) = false
may_format w p (Ready next) = cond p.mediator (not (is_firm_in w.family w.firm p)) (may_format_next w p next)

abbrev pub is_only : List Spot → Spot → Bool
is_only [] p = false
is_only (q ∷ qs) p = same_spot q p && is_none qs

abbrev pub is_single : Option (List Spot) → Bool
is_single None = true
is_single (Some list) = false

-- the table has one list, of this place alone
abbrev pub is_only_place : SpotLists → Spot → Bool
is_only_place lists p = is_only lists.first p && is_single lists.second

-- a replica's place that neither the firm table nor the one in hand names; where the core is ready
-- also one that only a table names of which nothing was written, and the firm table's only place
abbrev pub may_wipe : Core → Spot → Stage → Bool
may_wipe w p (Reading places) = not p.mediator && not (is_firm_in w.family w.firm p)
may_wipe w p (Creating next) = not p.mediator && not (is_named next.lists p)
may_wipe w p (Claiming adopted next claimed) = not p.mediator && (not (is_firm_in w.family w.firm p) && not (is_named next.lists p))
may_wipe w p (Writing boot took) = not p.mediator && (not (is_firm_in w.family w.firm p) && not (is_named (last_table w).lists p))
may_wipe w p (Ready next) = not p.mediator && (not (is_firm_in w.family w.firm p) || is_only_place (last_table w).lists p)

abbrev pub is_place : Spot → Bool
is_place p = not p.mediator

abbrev pub all_second : Option (List Spot) → Bool
all_second None = true
all_second (Some list) = list_all is_place list

abbrev pub is_distinct : List Spot → Bool
is_distinct [] = true
is_distinct (p ∷ ps) = not (is_in ps p) && is_distinct ps

-- places are places, mediators are seats, each once, and a local database has none of these
abbrev pub is_lists : Bool → SpotLists → Bool
is_lists set lists =
    (list_all is_place lists.first && all_second lists.second)
    && ((list_all (λ (p : Spot). p.mediator) lists.mediators && is_distinct lists.mediators) && (set || is_none lists.mediators))

abbrev pub same_second : Option (List Spot) → Option (List Spot) → Bool
same_second None None = true
same_second None (Some list) = false
same_second (Some list) None = false
same_second (Some a) (Some b) = same_spots a b

-- one seat more, or as before
abbrev pub is_one_more : List Spot → List Spot → Bool
is_one_more old new = list_all (is_in new) old && nat_le (length new) (length old + 1)

-- from one list to that and another, or from two to the second
abbrev pub moves_on : List Spot → Option (List Spot) → List Spot → Option (List Spot) → Bool
moves_on old None new None = false
moves_on old None new (Some list) = same_spots old new
moves_on old (Some list) new None = same_spots list new
moves_on old (Some a) new (Some b) = false

-- the places stay and one mediator at most comes or goes, or the places change and the mediators stay
abbrev pub may_follow : SpotLists → SpotLists → Bool
may_follow old new =
    ((same_spots old.first new.first && same_second old.second new.second)
    && (is_one_more old.mediators new.mediators || is_one_more new.mediators old.mediators))
    || (moves_on old.first old.second new.first new.second && same_spots old.mediators new.mediators)

abbrev pub is_new : Core → Bool
is_new w = length w.places == 0

-- from the table that was told last
abbrev pub may_commit : Core → SpotLists → Bool
may_commit w lists = is_lists w.set lists && (may_follow (last_table w).lists lists && nat_lt ((last_table w).mark.count + 1) (2 ^ 63))

abbrev pub may_list : Core → SpotLists → Stage → Bool
may_list w lists (Reading places) = is_lists w.set lists && is_new w
may_list w lists (Creating next) = is_lists w.set lists && is_new w
may_list w lists (Claiming adopted next claimed) = false
may_list w lists (Writing boot took) = false
may_list w lists (Ready next) = may_commit w lists

abbrev pub may_tell : Core → Stage → Bool
may_tell w (Reading places) = false
may_tell w (Creating next) = false
may_tell w (Claiming adopted next claimed) = false
may_tell w (Writing boot took) = is_written (last_table w) (is_in took)
may_tell w (Ready next) = false

abbrev pub is_lost : List DriveNo → ℕ → Bool
is_lost lost d = list_any (λ (x : DriveNo). x.0 == d) lost

abbrev pub IsReady : Stage → Type 0
IsReady (Reading places) = ⊥
IsReady (Creating next) = ⊥
IsReady (Claiming adopted next claimed) = ⊥
IsReady (Writing boot took) = ⊥
IsReady (Ready next) = Unit {0}

abbrev pub may : Core → Event → Bool
may w (Read p) = may_read w p w.stage
may w (Claimed p) = may_claim w p w.stage
may w (Slotted p end) = may_slot w p w.stage
may w (Formatted p) = may_format w p w.stage
may w (Wiped p) = may_wipe w p w.stage
may w (Lists lists) = may_list w lists w.stage
may w Told = may_tell w w.stage
may w Crash = true
may w (Lose d) = not (is_lost w.lost d.0)
may w (Back d) = is_lost w.lost d.0

-- each event of the list may happen where it happens
abbrev pub MayAll : Core → List Event → Type 0
MayAll w [] = Unit {0}
MayAll w (e ∷ es) = IsTrue (may w e) × MayAll (happens w e) es

-- One list of events behind another.
pub record Joins (w : Core) (events later : List Event) : Type 0 where
  pub after : after_all w (events ++ later) ≡ after_all (after_all w events) later
  pub may : MayAll w events → MayAll (after_all w events) later → MayAll w (events ++ later)
  pub first : MayAll w (events ++ later) → MayAll w events
  pub rest : MayAll w (events ++ later) → MayAll (after_all w events) later

-- One event more at a list's end.
pub record HasOneMore (w : Core) (events : List Event) (e : Event) : Type 0 where
  pub after : after_all w (events ++ e ∷ []) ≡ happens (after_all w events) e
  pub may : MayAll w events → IsTrue (may (after_all w events) e) → MayAll w (events ++ e ∷ [])

-- Whether the change that an event issues has a number for the machine's memory. Whether the event may happen doesn't hang on it.
abbrev pub has_room : Core → Event → Bool
has_room w (Read p) = true
has_room w (Claimed p) = true
has_room w (Slotted p end) = true
has_room w (Formatted p) = true
has_room w (Wiped p) = true
has_room w (Lists lists) = nat_lt w.changes (2 ^ 63)
has_room w Told = true
has_room w Crash = true
has_room w (Lose d) = true
has_room w (Back d) = true
