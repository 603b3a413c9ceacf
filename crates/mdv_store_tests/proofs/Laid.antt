-- Places that lie on drives of some sizes.
use Rattle.std.proofs.Common.{◌≡◌, ℕ, List, Some, subst}
use Rattle.mdv_store.specs.Opened.{Opened}
use Rattle.mdv_store.specs.Seats.{AreLaid}
use Rattle.mdv_store.specs.declared.seats.Seat.{Seat}

pub laid_on : (old new : List ℕ) (seats : List Seat) → old ≡ new → AreLaid old seats → AreLaid new seats
laid_on old new seats same laid = subst (λ (sizes : List ℕ). AreLaid sizes seats) same laid

-- the places of the only database that there is
pub laid_in : (old new : List ℕ) (o x : Opened) → old ≡ new → AreLaid old o.seats → Some o ≡ Some x → AreLaid new x.seats
laid_in old new o x same laid one =
    let is : o ≡ x = cc (one) in
    subst (λ (p : Opened). AreLaid new p.seats) is (laid_on old new o.seats same laid)
