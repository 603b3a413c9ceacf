-- Where too few places took a table, a call failed on the drive of one of the host's slices for replicas, and fewer than half are active.
use Rattle.std.proofs.Common.{◌≡◌, ℕ, List, None, Some, Contains}
use Rattle.mdv_engine_law.proofs.Widening.{AreWithin}
use Rattle.mdv_store.proofs.Passes.{some_lost}
use Rattle.mdv_store.proofs.Shares.{half_less, short_fewer}
use Rattle.mdv_store.specs.Seats.{AreLeft}
use Rattle.mdv_store.specs.Shares.{short_of}
use Rattle.mdv_store.specs.declared.seats.Need.TheVariants.{Half}
use Rattle.mdv_plan.specs.declared.lists.Lists.{Lists}
use Rattle.mdv_engine.specs.Below.{Host, Outcomes, Replica, Seat, replicas_of}
use Rattle.mdv_engine.specs.Engine.{IsLostOnSite}

-- of places of which half of each list was active, and of a list fewer are then, on slices of the host's site
pub lost_on_site : (calls : Outcomes) (host : Host) (Took : Replica → Replica → Type 0) (old now : List Seat) (lists : Lists) → AreLeft calls Took old now → short_of Half old lists ≡ None
    → ((r : Replica) → Contains (replicas_of old) r → Contains host.site.lines r.line) → (active listed : ℕ) → short_of Half now lists ≡ Some (record { active = active; listed = listed }) → IsLostOnSite calls host active listed
lost_on_site calls host Took old now lists left half on_site active listed few =
    let one = some_lost calls Took old now left (short_fewer calls Took Half Half (λ share so. so) lists old now (record { active = active; listed = listed }) left half few) in
    (record { line = one.0.line; one_of = on_site one.0 one.1; here = one.2 }, half_less now lists (record { active = active; listed = listed }) few)

-- told of a longer stretch by which no further call failed
pub site_more : (failed more : Outcomes) → AreWithin failed more → (host : Host) (active listed : ℕ) → IsLostOnSite failed host active listed → IsLostOnSite more host active listed
site_more failed more within host active listed lost = (record { line = lost.0.line; one_of = lost.0.one_of; here = (within lost.0.line.at.drive.0).some lost.0.here }, lost.1)
