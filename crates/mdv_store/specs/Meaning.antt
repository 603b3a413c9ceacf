-- What the number is above that a boot draws, what the seats are that it finds, and how many of a list are active.
use Rattle.std.specs.Prelude.{◌≡◌, ◌⊎◌, ◌≤◌, ℕ, true, List, map, Contains, Some, AllPairs, length}
use Rattle.mdv_survey.specs.Choice.{is_of}
use Rattle.mdv_store.specs.Below.{Identity, Place, Replica, greatest}
use Rattle.mdv_store.specs.Boot.{greatest_number, is_seated, seats_of}
use Rattle.mdv_store.specs.declared.seats.Seat.{Seat}
use Rattle.mdv_store.specs.Seats.{active_of}
use Rattle.mdv_store.specs.Shares.{share_in}

pub record NumbersTell : Type 0 where
  -- no replica of the database has a greater one
  pub most : (identity : Identity) (replicas : List Replica) (r : Replica) → Contains replicas r → is_of identity r ≡ true → greatest r.head ≤ greatest_number identity replicas
  -- and one has it, if it isn't zero
  pub reached : (identity : Identity) (replicas : List Replica) → (greatest_number identity replicas ≡ 0) ⊎ ((r : Replica) × Contains replicas r × (is_of identity r ≡ true) × (greatest r.head ≡ greatest_number identity replicas))

pub record SeatsTell : Type 0 where
  -- there is one for each place, in their order
  pub places : (replicas : List Replica) (identity : Identity) (text : ℕ) (places : List Place) → map (λ (s : Seat). s.place) (seats_of replicas identity text places) ≡ places
  -- its replica is one of the database that was read, lies just there, and has room for the text
  pub seated : (replicas : List Replica) (identity : Identity) (text : ℕ) (places : List Place) (s : Seat) (r : Replica) → Contains (seats_of replicas identity text places) s → s.replica ≡ Some r
      → Contains replicas r × (is_seated identity s.place text r ≡ true)
  -- and where such a one was read for a place, it has one
  pub all : (replicas : List Replica) (identity : Identity) (text : ℕ) (places : List Place) (p : Place) (r : Replica) → Contains places p → Contains replicas r → is_seated identity p text r ≡ true
      → (q : Replica) × Contains (seats_of replicas identity text places) (record { place = p; replica = Some q })

pub record SharesTell : Type 0 where
  -- where the places of a list differ, of which the seats are, as many of them are active as seats have a replica
  pub one : (seats : List Seat) → AllPairs (λ (p q : Place). p ≡ q → ⊥) (map (λ (s : Seat). s.place) seats) → share_in seats (map (λ (s : Seat). s.place) seats) ≡ record { active = active_of seats; listed = length seats }
