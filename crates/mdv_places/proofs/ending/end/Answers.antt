use Rattle.std.proofs.Common.{◌≡◌, inl, inr, ◌<◌, ◌≤◌, [], ◌∷◌, Contains, Result, Ok, Err, Some, refl, sym, ◌∙◌, ap, subst, arith}
use Rattle.std.specs.Result.{IsErr}
use Rattle.mdv_acts.proofs.Acting.{both_ends, one_gone, one_stopped}
use Rattle.mdv_acts.proofs.Members.{contains_first}
use Rattle.mdv_acts.specs.Acts.{AreDone, Blanks, HaveGone, HaveStopped}
use Rattle.mdv_base.specs.declared.drive.Failed.{Failed}
use Rattle.mdv_replica.specs.Replica.{IsPlaced, IsWiped, Wiping}
use Rattle.mdv_shelf.proofs.Moments.{moments_weaker}
use Rattle.mdv_store.specs.Opened.{AreSeatsOf}
use Rattle.mdv_store.specs.Seats.{IsLaid}
use Rattle.mdv_survey.proofs.Seating.{start_fits}
use Rattle.mdv_places.specs.Below.{Ghosts, Opened, PlaceAt, Replica, at_of}
use Rattle.mdv_places.specs.Ending.{EndMoment, HasEnded, IsSole}
use Rattle.mdv_places.proofs.Calling.{ended_by}
use Rattle.mdv_places.proofs.Deleting.{end_ends, end_moment, sole_first, sole_has}
use Rattle.mdv_places.proofs.ending.end.Goals as goal
use Rattle.mdv_places.proofs.ending.end.Goals.{After-unwrap-replica, After-wipe}

-- the replica at hand is that of the only place, and lies where it may be written
same : (g : _) (c : After-unwrap-replica g) → c.unwrap-replica.result ≡ c.requires.sole.replica
same g c = sole_first c.args.store c.requires.sole c.seats.result.now c.index-seats-0.result c.unwrap-replica.result c.seats.ensures c.index-seats-0.is c.unwrap-replica.ensures

laid : (g : _) (c : After-unwrap-replica g) → IsLaid (g.S.Shelf.sizes c.args.shelf.now) c.requires.sole.replica
laid g c = c.requires.laid c.requires.sole.replica (sole_has c.args.store c.requires.sole)

placed : (g : _) (c : After-unwrap-replica g) → IsPlaced (g.S.Shelf.sizes c.args.shelf.now) (at_of c.unwrap-replica.result)
placed g c = subst (λ (r : Replica). IsPlaced (g.S.Shelf.sizes c.args.shelf.now) (at_of r)) (sym (same g c)) (laid g c).placed

-- its place is that of the list
listed : (g : _) (c : After-unwrap-replica g) → (at_of c.requires.sole.replica).place ≡ c.requires.sole.place
listed g c =
    let seats = subst (λ (o : Opened). AreSeatsOf o.table o.seats) c.store.view_is c.store.invariant.seats in
    let s = c.requires.sole in
    seats.at (record { place = s.place; replica = Some s.replica }) s.replica (subst (λ ss. Contains ss (record { place = s.place; replica = Some s.replica })) (sym s.seats) (contains_first (record { place = s.place; replica = Some s.replica }) [])) refl

pub at-requires-clause-start : goal.at-requires-clause-start
at-requires-clause-start g c =
    let u = (goal.at.at-requires-clause-start g c).After-unwrap-replica in
    let short = subst (λ (r : Replica). r.first.blocks ≤ 8192) (sym (same g u)) (laid g u).short in
    let few : c.unwrap-replica.result.number < 256 = omega (arith, c.unwrap-replica.type_inv.1.0) in
    let fits = start_fits c.unwrap-replica.result.number c.unwrap-replica.result.first.blocks few short in
    omega (arith, fits)

pub at-requires-clause-first : goal.at-requires-clause-first
at-requires-clause-first g c = (let lies = placed g (goal.at.at-requires-clause-first g c).After-unwrap-replica in let within = lies.within in let size = lies.size in omega (arith, within, size))

pub wipe-requires : goal.wipe-requires
wipe-requires g c = subst (λ (a : PlaceAt). IsPlaced (g.S.Shelf.sizes c.args.shelf.now) a) (sym c.at.ensures) (placed g (goal.at.wipe-requires g c).After-unwrap-replica)

pub returns-in_err-wipe-clause-answer : goal.returns-in_err-wipe-clause-answer
returns-in_err-wipe-clause-answer g c =
    let u = (goal.at.returns-in_err-wipe-clause-answer g c).After-unwrap-replica in
    let s = c.requires.sole in
    let there : c.at.result ≡ at_of s.replica = c.at.ensures ∙ ap at_of (same g u) in
    err_of g.S.Shelf c.args.shelf.now c.wipe.new.shelf c.args.store c.from_residual.result c.from_residual.ensures.0 (
      s,
      subst (λ (a : PlaceAt). HaveStopped g.S.Shelf c.args.shelf.now c.wipe.new.shelf (a.drive ∷ []) (Blanks a ∷ [])) there
          (one_stopped g.S.Shelf (Blanks c.at.result) c.at.result.drive c.args.shelf.now c.wipe.new.shelf c.wipe.ensures.moments c.wipe.ensures.kept c.in_err-wipe.ensures.cause.failed c.wipe.ensures.counted.any),
    )
  where
    err_of : {S : Type 0} (shelf : Ghosts S) (from to : S) (o : Opened) (result : Result _ Failed) → IsErr result → (s : IsSole o) × HaveStopped shelf from to (s.replica.line.at.drive ∷ []) (Blanks (at_of s.replica) ∷ []) → HasEnded shelf from to o result
    err_of shelf from to o (Err fault) is stopped = stopped
    err_of shelf from to o (Ok done) is stopped = absurd (cc (is))

pub returns-in_err-wipe-clause-by : goal.returns-in_err-wipe-clause-by
returns-in_err-wipe-clause-by g c = ended_by g.S.Shelf c.args.shelf.now c.wipe.new.shelf c.args.store c.from_residual.result (returns-in_err-wipe-clause-answer g c)

pub returns-in_err-wipe-clause-moments : goal.returns-in_err-wipe-clause-moments
returns-in_err-wipe-clause-moments g c =
    let u = (goal.at.returns-in_err-wipe-clause-moments g c).After-unwrap-replica in
    let s = c.requires.sole in
    let there : c.at.result ≡ at_of s.replica = c.at.ensures ∙ ap at_of (same g u) in
    moments_weaker (Wiping c.at.result) (EndMoment c.args.store) (g.S.Shelf.tale c.args.shelf.now) (g.S.Shelf.tale c.wipe.new.shelf)
    (λ t m is. end_moment c.args.store s (listed g u) (laid g u).placed.least t m (inr (inl (subst (λ (a : PlaceAt). Wiping a t m) there is)))) c.wipe.ensures.moments

pub returns-clause-answer : goal.returns-clause-answer
returns-clause-answer g c =
    let u = (goal.at.returns-clause-answer g c).After-unwrap-replica in
    let s = c.requires.sole in
    let there : c.at.result ≡ at_of s.replica = c.at.ensures ∙ ap at_of (same g u) in (
      s,
      subst (λ (a : PlaceAt). HaveGone g.S.Shelf c.args.shelf.now c.wipe.new.shelf (a.drive ∷ []) (Blanks a ∷ [])) there
          (one_gone g.S.Shelf (Blanks c.at.result) c.at.result.drive c.args.shelf.now c.wipe.new.shelf c.wipe.ensures.moments c.wipe.ensures.kept
          (both_ends (Wiping c.at.result) (λ _ v. IsWiped c.at.result v) _ _ c.wipe.ensures.moments c.in_ok-wipe.ensures.settled) c.in_ok-wipe.ensures.cause.calm c.in_ok-wipe.ensures.counted.done),
    )

pub returns-clause-by : goal.returns-clause-by
returns-clause-by g c = (returns-clause-answer g c).1.calm

pub returns-clause-moments : goal.returns-clause-moments
returns-clause-moments g c =
    let u = (goal.at.returns-clause-moments g c).After-unwrap-replica in
    let s = c.requires.sole in
    let there : c.at.result ≡ at_of s.replica = c.at.ensures ∙ ap at_of (same g u) in
    moments_weaker (Wiping c.at.result) (EndMoment c.args.store) (g.S.Shelf.tale c.args.shelf.now) (g.S.Shelf.tale c.wipe.new.shelf)
    (λ t m is. end_moment c.args.store s (listed g u) (laid g u).placed.least t m (inr (inl (subst (λ (a : PlaceAt). Wiping a t m) there is)))) c.wipe.ensures.moments

pub returns-clause-end : goal.returns-clause-end
returns-clause-end g c =
    let u = (goal.at.returns-clause-end g c).After-unwrap-replica in
    let s = c.requires.sole in
    let there : c.at.result ≡ at_of s.replica = c.at.ensures ∙ ap at_of (same g u) in
    λ t is. (let one = both_ends (Wiping c.at.result) (λ _ v. IsWiped c.at.result v) _ _ c.wipe.ensures.moments c.in_ok-wipe.ensures.settled t is in
    (one.0, one.1, end_ends c.args.store s (listed g u) (laid g u).placed.least t one.0 (subst (λ (a : PlaceAt). AreDone (Blanks a ∷ []) t one.0) there (one.0, one.2, refl))))
