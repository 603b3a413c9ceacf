-- At least half of each list of a table took it, where at least half of each is active and took it.
use Rattle.std.proofs.Common.{◌≡◌, ◌&&◌, ℕ, zero, suc, Bool, true, false, List, [], ◌∷◌, ◌++◌, None, Some, Contains, length, map, refl, slice_index_or, sym, ◌<◌, ◌∙◌, subst, ap, arith}
use Rattle.std.proofs.lemmas.Bool.{and_from, or_left, or_right}
use Rattle.std.proofs.lemmas.List.Elements.{All-contains, All-contains_itself, All-filter}
use Rattle.mdv_name.proofs.Finding.{slice_at-some}
use Rattle.mdv_name.specs.SliceIndex.{slice_at}
use Rattle.mdv_shown.specs.Sites.{is_line_of, lines_of}
use Rattle.mdv_standing.specs.Matching.{spot_in, voted_table}
use Rattle.mdv_plan.specs.declared.lists.Lists.{Lists}
use Rattle.mdv_plan.specs.declared.lists.Lists.TheVariants.{One, Two}
use Rattle.mdv_votes.proofs.Meeting.{same_self}
use Rattle.mdv_votes.specs.Quorum.{is_written, is_written_list}
use Rattle.mdv_votes.specs.Spots.{covers, is_half, is_in, is_majority}
use Rattle.mdv_store.specs.Below.{Geometry, IsSound, Key, Place, Replica, Site, SliceLine, Spot, Table, at_of, lists_of_spots, same_spot, site_of}
use Rattle.mdv_store.specs.Opened.{AreSeatsOf}
use Rattle.mdv_store.specs.Seats.{replicas_of, spot_of, spots_of}
use Rattle.mdv_store.specs.Shares.{has_active, share_in, short_of, suffices}
use Rattle.mdv_store.specs.declared.seats.Need.TheVariants.{Half}
use Rattle.mdv_store.specs.declared.seats.Seat.{Seat}
use Rattle.mdv_store.proofs.Shares.{all_lists, list_takes, seat_at}
use Rattle.mdv_store.proofs.Sitting.{replica_of}

-- no table has mediators yet
pub none_sit : (site : Site) (lists : Lists) → (lists_of_spots site lists).mediators ≡ []
none_sit site (One places) = refl
none_sit site (Two old new) = refl

module _ (g : Geometry) (key : Key) (sound : IsSound g) where
  abbrev pub within : Geometry
  within = record g { slices = lines_of g key }

  in_all : (line : SliceLine) → Contains (lines_of g key) line → Contains g.slices line
  in_all line has = All-contains (Contains g.slices) (lines_of g key) line (All-filter (is_line_of g key) (Contains g.slices) g.slices (All-contains_itself g.slices)) has

  sound_within : IsSound within
  sound_within = record {
    each = λ name at has. sound.each name at (in_all (record { name = name; at = at }) has);
    once = λ name a b has_a has_b. sound.once name a b (in_all (record { name = name; at = a }) has_a) (in_all (record { name = name; at = b }) has_b);
    drives = λ m n a b has_a has_b. sound.drives m n a b (in_all (record { name = m; at = a }) has_a) (in_all (record { name = n; at = b }) has_b);
  }

  -- a slice of the site is found by its name
  pub line_at : (line : SliceLine) → Contains (lines_of g key) line → slice_at (lines_of g key) line.name ≡ Some line.at
  line_at line has = (slice_at-some within line.name line.at sound_within).1 has

  abbrev pub spot_at : Place → Spot
  spot_at place = spot_in (slice_at (lines_of g key) place.slice) place

  -- so the place of a replica is found where it lies
  pub spot_is : (r : Replica) (place : Place) → Contains (lines_of g key) r.line → (at_of r).place ≡ place → spot_at place ≡ spot_of r
  spot_is r place has is = subst (λ (p : Place). spot_at p ≡ spot_of r) is (ap (λ o. spot_in o (at_of r).place) (line_at r.line has))

  -- the spot of an active place is in a set that has those of the replicas
  pub active_in : (table : Table) (seats : List Seat) (set : Spot → Bool) → AreSeatsOf table seats → ((r : Replica) → Contains (replicas_of seats) r → Contains (lines_of g key) r.line) → ((r : Replica) → Contains (replicas_of seats) r → set (spot_of r) ≡ true)
      → (place : Place) → has_active seats place ≡ true → set (spot_at place) ≡ true
  active_in table seats set are lie has place so =
      let at = seat_at seats place so in
      let there = replica_of seats at.0 at.1 at.2 at.3 in
      ap set (spot_is at.1 place (lie at.1 there) (are.at at.0 at.1 at.2 at.3 ∙ at.4)) ∙ has at.1 there

  pub half_written : (table : Table) (seats : List Seat) (took : List Spot) → AreSeatsOf table seats → short_of Half seats table.plan.lists ≡ None → ((r : Replica) → Contains (replicas_of seats) r → Contains (lines_of g key) r.line)
      → ((r : Replica) → Contains (replicas_of seats) r → is_in took (spot_of r) ≡ true) → is_written (record (voted_table (site_of g key) table) { by_majority = false }) (is_in took) ≡ true
  half_written table seats took are half lie has =
      subst (λ (m : List Spot). covers (is_written_list false m (is_in took)) (lists_of_spots (site_of g key) table.plan.lists) ≡ true) (sym (none_sit (site_of g key) table.plan.lists))
      (all_lists Half seats (site_of g key) (is_written_list false [] (is_in took)) each table.plan.lists half)
    where
      each : (list : List Place) → suffices Half (share_in seats list) ≡ true → is_written_list false [] (is_in took) (map spot_at list) ≡ true
      each list so =
          let half = list_takes Half spot_at (is_in took) seats (active_in table seats (is_in took) are lie has) list so in
          or_right (is_majority (is_in took) (map spot_at list)) (is_half (is_in took) (map spot_at list) && true) (and_from (is_half (is_in took) (map spot_at list)) true half refl)

-- the spots of some seats have the spot of each of their replicas
in_spots : (rs : List Replica) (more : List Spot) (r : Replica) (k : ℕ) → k < length rs → slice_index_or rs k r ≡ r → is_in (map spot_of rs ++ more) (spot_of r) ≡ true
in_spots [] more r k lt is = absurd (omega arith)
in_spots (x ∷ rs) more r zero lt is =
    or_left (same_spot (spot_of x) (spot_of r)) (is_in (map spot_of rs ++ more) (spot_of r)) (ap (λ (y : Replica). same_spot (spot_of y) (spot_of r)) is ∙ same_self (spot_of r))
in_spots (x ∷ rs) more r (suc k) lt is = or_right (same_spot (spot_of x) (spot_of r)) (is_in (map spot_of rs ++ more) (spot_of r)) (in_spots rs more r k (omega arith) is)

pub spot_in_spots : (seats : List Seat) (more : List Spot) (r : Replica) → Contains (replicas_of seats) r → is_in (spots_of seats ++ more) (spot_of r) ≡ true
spot_in_spots seats more r has = in_spots (replicas_of seats) more r has.0 has.1 has.2
