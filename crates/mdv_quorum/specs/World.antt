-- What each event does to the replicas and mediators of one database.
use Rattle.std.specs.Prelude.{ℕ, ◌+◌, ◌-◌, ◌&&◌, ◌==◌, not, Bool, true, false, List, [], ◌∷◌, ◌++◌, Option, None, Some, length, cond, map, filter, option_to_list}
use Rattle.mdv_quorum.specs.Below.{DriveNo, Mark, Spot, SpotLists, Version, SpotState, is_in, is_none, is_named, last_list, same_spots, is_written, table_at, change_at, put_at, with_claim, with_newest, with_since, wiped, formatted, newest_of, greatest_of}
use Rattle.mdv_quorum.specs.declared.event.SlotEnd.{SlotEnd}
use Rattle.mdv_quorum.specs.declared.event.SlotEnd.TheVariants.{Closed, Holds}
use Rattle.mdv_quorum.specs.declared.event.Event.{Event}
use Rattle.mdv_quorum.specs.declared.event.Event.TheVariants.{Read, Claimed, Slotted, Formatted, Wiped, Lists, Told, Crash, Lose, Back}
use Rattle.mdv_quorum.specs.declared.machine.Core.{Core}
use Rattle.mdv_quorum.specs.declared.machine.Stage.{Stage}
use Rattle.mdv_quorum.specs.declared.machine.Stage.TheVariants.{Reading, Creating, Claiming, Writing, Ready}

-- nothing has happened yet
abbrev pub start : Bool → Core
start set = record {
  set = set;
  places = [];
  lost = [];
  family = [];
  firm = None;
  deleted = None;
  stage = Reading [];
  adopted = None;
  changes = 0;
  log = [];
  told = [];
}

-- the table that was written last
abbrev pub last_table : Core → Version
last_table w = table_at w.family (length w.family - 1)

-- a boot knows what is at this place
abbrev pub read : Core → Spot → Stage → Core
read w p (Reading places) = record w { stage = Reading (places ++ p ∷ []) }
read w p (Creating next) = w
read w p (Claiming adopted next claimed) = w
read w p (Writing boot took) = w
read w p (Ready next) = w

-- the adopted table once more, under the number that the boot drew
abbrev pub rewritten_of : Bool → List Version → List SpotState → List Spot → ℕ → Version
rewritten_of set family places read i =
    let t = table_at family i in
    record {
      mark = record { boot = greatest_of family places 0 read + 1; count = 0 };
      parent = Some i;
      change = None;
      lists = t.lists;
      by_majority = set && is_none t.lists.mediators;
      plan = t.plan;
    }

abbrev pub rewritten : Core → List Spot → ℕ → Version
rewritten w read i = rewritten_of w.set w.family w.places read i

-- the first claim: the boot has chosen a table, and drawn its number
abbrev pub chosen : Core → Spot → List Spot → Option ℕ → Core
chosen w p places None = w
chosen w p places (Some i) =
    let next = rewritten w places i in
    record w { places = put_at w.places p (with_claim next.mark.boot); stage = Claiming i next (p ∷ []) }

abbrev pub claimed : Core → Spot → Stage → Core
claimed w p (Reading places) = chosen w p places (newest_of w.family w.places None places)
claimed w p (Creating next) = w
claimed w p (Claiming adopted next places) =
    record w { places = put_at w.places p (with_claim next.mark.boot); stage = Claiming adopted next (places ++ p ∷ []) }
claimed w p (Writing boot took) = record w { places = put_at w.places p (with_claim (last_table w).mark.boot) }
claimed w p (Ready next) = w

-- a table that reached a write quorum is firm
abbrev pub settled : Core → Version → Bool → Core
settled w t false = w
settled w t true =
    let i = length w.family - 1 in
    record w { firm = Some i; places = map (with_since i (last_list t.lists)) w.places }

-- the places that took the table, and what is known of all places, after one more write
abbrev pub taken_after : List Spot → Spot → SlotEnd → List Spot
taken_after took p Closed = took
taken_after took p Holds = took ++ p ∷ []

abbrev pub places_after : List SpotState → ℕ → Spot → SlotEnd → List SpotState
places_after places i p Closed = places
places_after places i p Holds = put_at places p (with_newest i)

-- one write of the last table of the family, which these places have taken with it
abbrev pub with_taken : Core → Spot → SlotEnd → Option ℕ → List Spot → Core
with_taken w p end boot took =
    settled
    (record w { places = places_after w.places (length w.family - 1) p end; stage = Writing boot took })
    (last_table w)
    (is_written (last_table w) (is_in took))

-- one write of the last table of the family, which these places took before
abbrev pub wrote : Core → Spot → SlotEnd → Option ℕ → List Spot → Core
wrote w p end boot took = with_taken w p end boot (taken_after took p end)

abbrev pub with_table : Core → Version → Core
with_table w t = record w { family = w.family ++ t ∷ [] }

abbrev pub slotted_next : Core → Spot → SlotEnd → Option Version → Core
slotted_next w p end None = w
slotted_next w p end (Some next) = wrote (with_table w next) p end None []

abbrev pub slotted : Core → Spot → SlotEnd → Stage → Core
slotted w p end (Reading places) = w
slotted w p end (Creating next) = wrote (with_table w next) p end None []
slotted w p end (Claiming adopted next claimed) = wrote (with_table w next) p end (Some adopted) []
slotted w p end (Writing boot took) = wrote w p end boot took
slotted w p end (Ready next) = slotted_next w p end next

-- a replica's place is formatted under this boot's number
abbrev pub formatted_under : Core → Spot → ℕ → Core
formatted_under w p boot = record w { places = put_at w.places p (formatted boot None) }

-- a replica's place is formatted for the table in hand
abbrev pub formatted_place : Core → Spot → Version → Core
formatted_place w p next = formatted_under w p next.mark.boot

-- a mediator's seat is written with the mark of the firm table; what was in hand is given up
abbrev pub formatted_seat : Core → Spot → Core
formatted_seat w p =
    record w {
      places = put_at w.places p (formatted (last_table w).mark.boot (Some (length w.family - 1)));
      stage = Ready None;
    }

abbrev pub formatted_next : Core → Spot → Option Version → Core
formatted_next w p None = w
formatted_next w p (Some next) = formatted_place w p next

abbrev pub formatted_at : Core → Spot → Stage → Core
formatted_at w p (Reading places) = w
formatted_at w p (Creating next) = formatted_place w p next
formatted_at w p (Claiming adopted next claimed) = w
formatted_at w p (Writing boot took) = w
formatted_at w p (Ready next) = cond p.mediator (formatted_seat w p) (formatted_next w p next)

abbrev pub given_up : Spot → Option Version → Option Version
given_up p None = None
given_up p (Some next) = cond (is_named next.lists p) None (Some next)

abbrev pub without : Core → Spot → Core
without w p = record w { places = change_at w.places p wiped }

-- a place is blanked; that of the firm table's only place ends the database
abbrev pub wiped_at : Core → Spot → Stage → Core
wiped_at w p (Reading places) = without w p
wiped_at w p (Creating next) = without w p
wiped_at w p (Claiming adopted next claimed) = without w p
wiped_at w p (Writing boot took) = without w p
wiped_at w p (Ready next) =
    cond (is_named (last_table w).lists p)
    (record w { places = change_at w.places p wiped; deleted = Some p; stage = Reading [] })
    (record w { places = change_at w.places p wiped; stage = Ready (given_up p next) })

-- the first table of a database
abbrev pub created : Core → SpotLists → Core
created w lists =
    let next : Version = record {
      mark = record { boot = 1; count = 0 };
      parent = None;
      change = Some w.changes;
      lists = lists;
      by_majority = false;
      plan = w.changes ∷ [];
    } in
    record w { stage = Creating next; changes = w.changes + 1; log = next.plan }

-- the table after this change, made from the one that was told last
abbrev pub changed : Core → SpotLists → Bool → Core
changed w lists by_majority =
    let t = last_table w in
    let next : Version = record {
      mark = record { boot = t.mark.boot; count = t.mark.count + 1 };
      parent = Some (length w.family - 1);
      change = Some w.changes;
      lists = lists;
      by_majority = by_majority;
      plan = t.plan ++ w.changes ∷ [];
    } in
    record w { stage = Ready (Some next); changes = w.changes + 1; log = next.plan }

abbrev pub lists_at : Core → SpotLists → Stage → Core
lists_at w lists (Reading places) = created w lists
lists_at w lists (Creating next) = created w lists
lists_at w lists (Claiming adopted next claimed) = w
lists_at w lists (Writing boot took) = w
lists_at w lists (Ready next) = changed w lists (not (same_spots (last_table w).lists.mediators lists.mediators))

-- a change is acknowledged; that of a boot completes it, and strikes what it didn't adopt
abbrev pub told_of : Core → Option ℕ → Core
told_of w None = record w { stage = Ready None; told = w.told ++ option_to_list (last_table w).change }
told_of w (Some i) = record w { stage = Ready None; adopted = Some i; log = (last_table w).plan }

abbrev pub told_at : Core → Stage → Core
told_at w (Reading places) = w
told_at w (Creating next) = w
told_at w (Claiming adopted next claimed) = w
told_at w (Writing boot took) = told_of w boot
told_at w (Ready next) = w

-- the mark of the table that the last completed boot adopted
abbrev pub mark_of : List Version → Option ℕ → Option Mark
mark_of family None = None
mark_of family (Some i) = Some ((table_at family i).mark)

abbrev pub adopted_mark : Core → Option Mark
adopted_mark w = mark_of w.family w.adopted

abbrev pub crashed : Core → Core
crashed w = record w { stage = Reading []; adopted = None }

abbrev pub without_drive : List DriveNo → ℕ → List DriveNo
without_drive lost d = filter (λ (x : DriveNo). not (x.0 == d)) lost

abbrev pub happens : Core → Event → Core
happens w (Read p) = read w p w.stage
happens w (Claimed p) = claimed w p w.stage
happens w (Slotted p end) = slotted w p end w.stage
happens w (Formatted p) = formatted_at w p w.stage
happens w (Wiped p) = wiped_at w p w.stage
happens w (Lists lists) = lists_at w lists w.stage
happens w Told = told_at w w.stage
happens w Crash = crashed w
happens w (Lose d) = record w { lost = w.lost ++ d ∷ [] }
happens w (Back d) = record w { lost = without_drive w.lost d.0 }

-- a whole list of events
abbrev pub after_all : Core → List Event → Core
after_all w [] = w
after_all w (e ∷ es) = after_all (happens w e) es
