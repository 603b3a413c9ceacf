-- Enough of a table's seats are enough of each of its lists, as the votes count them.
use Rattle.std.proofs.Common.{◌≡◌, ◌&&◌, Bool, true, false, List, [], Contains, None, map, refl, sym, subst}
use Rattle.std.proofs.lemmas.Bool.{and_from, or_left, or_right}
use Rattle.mdv_base.specs.declared.name.Key.TheVariants.{Local, Set}
use Rattle.mdv_shown.specs.Sites.{lines_of}
use Rattle.mdv_standing.specs.Matching.{by_majority_on, is_set, voted_table}
use Rattle.mdv_votes.specs.Quorum.{is_claimed, is_claimed_list, is_written, is_written_list}
use Rattle.mdv_votes.specs.Spots.{covers, is_half, is_majority, is_none}
use Rattle.mdv_store.specs.Below.{Geometry, IsSound, Key, Place, Replica, Spot, Table, lists_of_spots, site_of}
use Rattle.mdv_store.specs.Boot.{need_of}
use Rattle.mdv_store.specs.Opened.{AreSeatsOf}
use Rattle.mdv_store.specs.Seats.{replicas_of, spot_of}
use Rattle.mdv_store.specs.Shares.{share_in, short_of, suffices}
use Rattle.mdv_store.specs.declared.seats.Need.{Need}
use Rattle.mdv_store.specs.declared.seats.Need.TheVariants.{More}
use Rattle.mdv_store.specs.declared.seats.Seat.{Seat}
use Rattle.mdv_store.proofs.Halves.{active_in, none_sit, spot_at}
use Rattle.mdv_store.proofs.Shares.{all_lists, list_takes, takes}

-- enough of the claims, and of the writes that a boot makes
claimed_by : (key : Key) (set : Spot → Bool) (list : List Spot) → takes (need_of key) set list ≡ true → is_claimed_list (is_set key) [] set list ≡ true
claimed_by (Local host) set list enough = or_right (is_majority set list) (is_half set list && true) (and_from (is_half set list) true enough refl)
claimed_by (Set name) set list enough = or_left (is_majority set list) (is_half set list && false) enough

written_by : (key : Key) (set : Spot → Bool) (list : List Spot) → takes (need_of key) set list ≡ true → is_written_list (is_set key && true) [] set list ≡ true
written_by (Local host) set list enough = or_right (is_majority set list) (is_half set list && true) (and_from (is_half set list) true enough refl)
written_by (Set name) set list enough = or_left (is_majority set list) false enough

module _ (g : Geometry) (key : Key) (sound : IsSound g) (table : Table) (seats : List Seat) (set : Spot → Bool) (are : AreSeatsOf table seats) (lie : (r : Replica) → Contains (replicas_of seats) r → Contains (lines_of g key) r.line)
    (has : (r : Replica) → Contains (replicas_of seats) r → set (spot_of r) ≡ true) where
  taken : (need : Need) (list : List Place) → suffices need (share_in seats list) ≡ true → takes need set (map (spot_at g key sound) list) ≡ true
  taken need = list_takes need (spot_at g key sound) set seats (active_in g key sound table seats set are lie has)

  pub enough_claimed : short_of (need_of key) seats table.plan.lists ≡ None → is_claimed (is_set key) (voted_table (site_of g key) table) set ≡ true
  enough_claimed enough =
      subst (λ (m : List Spot). covers (is_claimed_list (is_set key) m set) (lists_of_spots (site_of g key) table.plan.lists) ≡ true) (sym (none_sit (site_of g key) table.plan.lists))
      (all_lists (need_of key) seats (site_of g key) (is_claimed_list (is_set key) [] set) (λ list so. claimed_by key set (map (spot_at g key sound) list) (taken (need_of key) list so)) table.plan.lists enough)

  pub enough_written : short_of (need_of key) seats table.plan.lists ≡ None → is_written (record (voted_table (site_of g key) table) { by_majority = by_majority_on (site_of g key) table }) set ≡ true
  enough_written enough =
      subst (λ (m : List Spot). covers (is_written_list (is_set key && is_none m) m set) (lists_of_spots (site_of g key) table.plan.lists) ≡ true) (sym (none_sit (site_of g key) table.plan.lists))
      (all_lists (need_of key) seats (site_of g key) (is_written_list (is_set key && true) [] set) (λ list so. written_by key set (map (spot_at g key sound) list) (taken (need_of key) list so)) table.plan.lists enough)

  pub enough_read : short_of More seats table.plan.lists ≡ None → covers (is_majority set) (lists_of_spots (site_of g key) table.plan.lists) ≡ true
  enough_read enough = all_lists More seats (site_of g key) (is_majority set) (λ list so. taken More list so) table.plan.lists enough
