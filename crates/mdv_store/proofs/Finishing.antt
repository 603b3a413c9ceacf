-- A draft's table with its new list alone.
use Rattle.std.proofs.Common.{◌≡◌, ◌<◌, ◌≤◌, ◌*◌, ◌^◌, ◌==◌, ◌&&◌, ℕ, Bool, false, List, length, map, refl, sym, ◌∙◌, subst, ap, arith, None, Some, MatchOption, Option, vec_len}
use Rattle.std.proofs.lemmas.List.{length-map}
use Rattle.mdv_encoding.proofs.Lengths.{length-lists_text, length-record_text}
use Rattle.mdv_fields.specs.Sets.{lists_text}
use Rattle.mdv_store.specs.Below.{Failures, Ghosts, Lists, One, Place, Table, Two, last_of, settled}
use Rattle.mdv_store.specs.Commit.{next_mark}
use Rattle.mdv_store.specs.Opened.{AreSeatsOf, IsOpen, least_room}
use Rattle.mdv_store.specs.Seats.{AreLeft, TakesSlot, active_of}
use Rattle.mdv_store.specs.Settled.{first_room, seat_now}
use Rattle.mdv_store.specs.Settling.{IsDraft, WasSettled, last_seats, opened_of, settled_by}
use Rattle.mdv_store.specs.Shares.{short_of}
use Rattle.mdv_store.specs.Writing.{WroteAll, text_size}
use Rattle.mdv_store.specs.declared.booting.BootEnd.TheVariants as end
use Rattle.mdv_store.specs.declared.booting.Taken.{Taken}
use Rattle.mdv_store.specs.declared.seats.Need.{Need}
use Rattle.mdv_store.specs.declared.seats.Seat.{Seat}
use Rattle.mdv_store.specs.declared.seats.Share.{Share}
use Rattle.mdv_store.specs.declared.settling.Draft.{Draft}
use Rattle.mdv_store.proofs.Again.{now_in, now_of, now_seats}
use Rattle.mdv_store.proofs.Marks.{left_none_above, slot_stays}
use Rattle.mdv_store.proofs.Sitting.{left_seats}

-- the text with the new list alone is no longer
fewer_lists : (l : Lists) → length (lists_text (One (last_of l))) ≤ length (lists_text l)
fewer_lists (One places) = omega arith
fewer_lists (Two old new) = omega (arith, length-lists_text (Two old new), length-lists_text (One new))

pub settled_less : (t : Table) → text_size (settled t) ≤ text_size t
settled_less t = omega (arith, length-record_text t, length-record_text (settled t), fewer_lists t.plan.lists)

module _ (d : Draft) (next : List Seat) (is : IsDraft (opened_of d) (vec_len d.room) next) where
  abbrev places : List Place
  places = last_of d.table.plan.lists

  last_count : length next ≡ length places
  last_count = sym (length-map next (λ (s : Seat). s.place)) ∙ ap length is.places

  pub over_seats : AreSeatsOf (settled d.table) (last_seats d)
  over_seats = now_seats d.seats d.table is.seats (let count = last_count in let some = is.some in omega (arith, some, count)) (let count = last_count in let few = is.few in omega (arith, few, count))

  module _ (failed : ℕ → Failures) (bytes : ℕ) (now : List Seat) (left : AreLeft failed (TakesSlot (next_mark d.mark) bytes) (last_seats d) now) where
    pub over_open : (room : ℕ) → least_room places ≤ room → first_room places ≤ room → 512 * room < 2 ^ 32 → IsOpen (settled_by d now) room
    over_open room whole first short = record {
      boot = is.boot;
      count = is.count;
      seats = left_seats failed (TakesSlot (next_mark d.mark) bytes) (settled d.table) (settled d.table) (last_seats d) now (slot_stays (next_mark d.mark) bytes) refl left over_seats;
      whole = whole;
      first = first;
      short = short;
      marks = λ half. left_none_above failed d.mark bytes (last_seats d) now left (λ r has. is.marks r (now_in d.seats places r has));
    }

  -- what the seats were taken over to
  pub taken_over : (all now : List Seat) → all ≡ d.seats → now ≡ map (λ (s : Seat). seat_now all s.place) next → now ≡ last_seats d
  taken_over all now same of = of ∙ ap (λ (l : List Seat). map (λ (s : Seat). seat_now l s.place) next) same ∙ now_of d.seats next places is.places

-- what came of it
module _ {S : Type 0} (shelf : Ghosts S) (old new : S) (need : Need) (d : Draft) (calm : Bool) (before now : List Seat) (table : Table) (was : before ≡ last_seats d) (table_is : table ≡ settled d.table)
    (wrote : WroteAll shelf (next_mark d.mark) table old new before now) where
  all : WroteAll shelf (next_mark d.mark) (settled d.table) old new (last_seats d) now
  all = subst (λ (l : List Seat). WroteAll shelf (next_mark d.mark) (settled d.table) old new l now) was (subst (λ (t : Table). WroteAll shelf (next_mark d.mark) t old new before now) table_is wrote)

  of_lists : (o : Option Share) → o ≡ short_of need now table.plan.lists → short_of need now (One (last_of d.table.plan.lists)) ≡ o
  of_lists o is = ap (λ (t : Table). short_of need now t.plan.lists) (sym table_is) ∙ sym is

  pub settling_lost : (share : Share) → Some share ≡ short_of need now table.plan.lists → (taken : Taken) → taken ≡ record { end = end.Lost share.active share.listed; calm = false } → WasSettled shelf old new need d calm taken
  settling_lost share short taken is = record {
    now = now;
    wrote = all;
    came = subst (λ (o : Option Share). MatchOption o (taken ≡ record { end = end.Adopted (settled_by d now); calm = calm && (active_of now == active_of (last_seats d)) }) (λ x. taken ≡ record { end = end.Lost x.active x.listed; calm = false })) (sym (of_lists (Some share) short)) is;
  }

  pub settling_done : None ≡ short_of need now table.plan.lists → (taken : Taken) → taken ≡ record { end = end.Adopted (settled_by d now); calm = calm && (active_of now == active_of (last_seats d)) } → WasSettled shelf old new need d calm taken
  settling_done short taken is = record {
    now = now;
    wrote = all;
    came = subst (λ (o : Option Share). MatchOption o (taken ≡ record { end = end.Adopted (settled_by d now); calm = calm && (active_of now == active_of (last_seats d)) }) (λ x. taken ≡ record { end = end.Lost x.active x.listed; calm = false })) (sym (of_lists None short)) is;
  }
