use Rattle.mdv_store.proofs.Meaning.{greatest_reached, seat_there}
use Rattle.mdv_store.proofs.Seating.{greatest_most, seat_of_replica, seats_places}
use Rattle.mdv_store.proofs.Shares.{share_just}
use Rattle.mdv_store.proofs.law.seats_tell.Goals as goal

pub returns-clause-numbers : goal.returns-clause-numbers
returns-clause-numbers c = record { most = λ identity replicas r has own. greatest_most identity replicas r has own; reached = greatest_reached }

pub returns-clause-seats : goal.returns-clause-seats
returns-clause-seats c = record {
  places = λ replicas identity text places. seats_places replicas identity text places;
  seated = λ replicas identity text places s r has is. (let one = seat_of_replica replicas identity text places s r has is in (one.found, one.seated));
  all = λ replicas identity text places p r has has_r seated. (_, seat_there replicas identity text p r has_r seated places has);
}

pub returns-clause-shares : goal.returns-clause-shares
returns-clause-shares c = record { one = share_just }
