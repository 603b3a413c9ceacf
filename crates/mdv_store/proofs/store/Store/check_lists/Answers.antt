use Rattle.std.proofs.Common.{◌≡◌, ◌<◌, ◌+◌, ◌^◌, ◌∙◌, None, subst, sym, arith}
use Rattle.mdv_store.specs.Opened.{AreSeatsOf, Opened, shortage}
use Rattle.mdv_store.specs.Below.{HasNoneAbove, Replica}
use Rattle.mdv_store.specs.Seats.{replicas_of}
use Rattle.std.specs.Prelude.{Contains}
use Rattle.mdv_store.proofs.store.Store.check_lists.Goals as goal

pub returns : goal.returns
returns c =
    let half : shortage c.args.self.now ≡ None = sym c.shortage.ensures ∙ c.in_default.is in
    let inside = subst (λ (o : Opened). shortage o ≡ None) (sym c.self.view_is) half in
    record {
      half = half;
      seats = subst (λ (o : Opened). AreSeatsOf o.table o.seats) c.self.view_is c.self.invariant.seats;
      above = subst (λ (o : Opened). (r : Replica) → Contains (replicas_of o.seats) r → HasNoneAbove o.mark r.head) c.self.view_is (c.self.invariant.marks inside);
      boot = subst (λ (o : Opened). o.mark.boot < 2 ^ 63) c.self.view_is c.self.invariant.boot;
      fits = c.in_ok-check_slots.ensures;
      small = subst (λ (o : Opened). o.mark.count + 2 < 2 ^ 63) c.self.view_is (omega arith);
    }
