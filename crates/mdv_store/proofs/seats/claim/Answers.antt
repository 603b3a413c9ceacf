use Rattle.std.proofs.Common.{◌≡◌, refl, subst}
use Rattle.mdv_replica.specs.Replica.{Claiming, IsClaimed}
use Rattle.mdv_shelf.specs.Calls.{OnDrive}
use Rattle.mdv_shelf.specs.Moments.{Ends, Moments}
use Rattle.mdv_shelf.specs.Shelves.{KeptOn}
use Rattle.mdv_shelf.proofs.Moments.{ends_both, moments_end}
use Rattle.mdv_replica.specs.declared.replica.PlaceAt.{PlaceAt}
use Rattle.mdv_store.specs.Below.{at_of}
use Rattle.mdv_store.specs.Passing.{claiming}
use Rattle.mdv_store.proofs.seats.claim.Goals as goal

pub returns : goal.returns
returns g c =
    let r = c.args.replica in
    let number = c.args.number in
    let w = claiming number in
    let old = g.S.Shelf.tale c.args.shelf.now in
    let new = g.S.Shelf.tale c.write_claim.new.shelf in
    let moments = subst (λ (a : PlaceAt). Moments (Claiming a number) old new) c.at.ensures c.write_claim.ensures.moments in
    let settled = subst (λ (a : PlaceAt). Ends (λ t u. IsClaimed a number u) old new) c.at.ensures c.in_ok-write_claim.ensures.settled in
    record {
      moments = moments;
      came = record {
        took = refl;
        end = ends_both (Claiming (at_of r) number) (λ t u. IsClaimed (at_of r) number u) (w.Ends r _) old new (λ t u way fixed. (refl, way, fixed)) (moments_end (Claiming (at_of r) number) old new moments) settled;
        calm = subst (λ (a : PlaceAt). g.S.Shelf.faults c.write_claim.new.shelf (OnDrive a.drive.0) ≡ g.S.Shelf.faults c.args.shelf.now (OnDrive a.drive.0)) c.at.ensures c.in_ok-write_claim.ensures.cause.calm;
        made = c.in_ok-write_claim.ensures.counted.done;
      };
      wrote = c.write_claim.ensures.counted.wrote;
      kept = subst (λ (a : PlaceAt). KeptOn g.S.Shelf c.args.shelf.now c.write_claim.new.shelf (OnDrive a.drive.0)) c.at.ensures c.write_claim.ensures.kept;
    }
