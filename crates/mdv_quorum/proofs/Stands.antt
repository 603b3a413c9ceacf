-- The invariant gives standing.
use Rattle.std.proofs.Common.{◌≡◌, ◌<◌, ◌≤◌, ◌-◌, ℕ, Bool, true, sym, ◌∙◌, List, length, inl, inr, Option, None, Some, arith, ◌&&◌}
use Rattle.std.proofs.lemmas.Bool.{cases_Bool, and_parts, and_from, or_cases, ltb-true, eqb-true, false≢true}
use Rattle.std.specs.Prelude.{nat_lt, ◌==◌}
use Rattle.mdv_quorum.specs.Below.{Mark, IsBelow, Spot, table_at, mark_below, knows_above}
use Rattle.mdv_quorum.specs.declared.event.Event.{Event}
use Rattle.mdv_quorum.specs.declared.machine.Core.{Core}
use Rattle.mdv_quorum.specs.declared.machine.Stage.{Stage}
use Rattle.mdv_quorum.specs.declared.machine.Stage.TheVariants.{Reading, Creating, Claiming, Writing, Ready}
use Rattle.mdv_quorum.specs.World.{start, after_all}
use Rattle.mdv_quorum.specs.May.{is_up, IsReady}
use Rattle.mdv_quorum.specs.Standing.{Standing, IsMade, Reads, KnowsNumbers, AdoptsOf, BootsAt, IsLastFirm, StandsAlways}
use Rattle.mdv_votes.proofs.Quorums.{reads_have_one}
use Rattle.mdv_quorum.proofs.Adopt.{above_known}
use Rattle.mdv_quorum.proofs.More.{boots_rise}
use Rattle.mdv_quorum.proofs.Boots.{above_some, stale_below, stale_vote}
use Rattle.mdv_quorum.proofs.Written.{some_same}
use Rattle.mdv_quorum.proofs.Steps.{reached_ok}
use Rattle.mdv_quorum.proofs.Invariant.{newest, holds, boot_at, MadeFrom, Base, Inv, StageOk, BootOk, IsLive}

below_is : (a b : Mark) → mark_below a b ≡ true → IsBelow a b
below_is a b h =
    elim (or_cases (nat_lt a.boot b.boot) ((a.boot == b.boot) && nat_lt a.count b.count) h) [
      | inl less ↦ inl (ltb-true a.boot b.boot less)
      | inr same ↦
          let p = and_parts (a.boot == b.boot) (nat_lt a.count b.count) same in
          inr (eqb-true a.boot b.boot p.0, ltb-true a.count b.count p.1)
    ]

made_is : (w : Core) (i : ℕ) (o : Option ℕ) → MadeFrom w.family i (table_at w.family i) o → IsMade w i o
made_is w i None m = m
made_is w i (Some k) m = m

firm_live : (firm : Option ℕ) (f i : ℕ) → firm ≡ Some f → f ≤ i → IsLive firm i
firm_live firm f i e le g eg = let same = some_same f g (sym e ∙ eg) in omega (arith, same, le)

boots_at : (w : Core) (s : Stage) → Base w → StageOk w s → BootsAt w s
boots_at w (Reading places) b ok = tt
boots_at w (Creating next) b ok = ok.there
boots_at w (Claiming i next claimed) b ok =
    let c = ok.chosen in
    (record { known = ok.known; above = λ f e h. ok.live f e; issued = c.issued; told = c.holds_told; fresh = ok.higher; there = ok.there }, c.plan)
boots_at w (Writing boot took) b ok = (ok.taking.there, at boot ok.taking.made)
  where
    at : (o : Option ℕ) → BootOk w.family w.firm w.log w.told o → AdoptsOf w o
    at None m = tt
    at (Some i) m =
        let c = m.chosen in
        (record { known = m.known; above = m.live; issued = c.issued; told = c.holds_told; fresh = m.higher; there = ok.taking.there }, c.plan)
boots_at w (Ready next) b ok = ok.there

ready_at : (w : Core) (s : Stage) → StageOk w s → IsReady s → IsLastFirm w
ready_at w (Reading places) ok r = absurd r
ready_at w (Creating next) ok r = absurd r
ready_at w (Claiming i next claimed) ok r = absurd r
ready_at w (Writing boot took) ok r = absurd r
ready_at w (Ready next) ok r = (ok.some, ok.settled)

-- what knows the last table's number knows each one, and where that is none above this table's own, so is no other
numbers_at : (w : Core) (i : ℕ) (read : Spot → Bool) → Base w → i < length w.family → IsLive w.firm i → Reads w i read → (p : Spot) × (read p ≡ true) × KnowsNumbers w i p
numbers_at w i read b hi live reads =
    let last = length w.family - 1 in
    let top : (u : ℕ) → u < length w.family → boot_at w.family u ≤ boot_at w.family last
    = λ u hu. boots_rise w.set w.family b.tables u last (omega (arith, hu)) (omega (arith, hi)) in
    let knows = knows_above w.family w.places (table_at w.family i) in
    elim (b.places.numbers i last read knows hi (omega (arith, hi)) live reads) [
      | inl least ↦
          let one = reads_have_one (table_at w.family i) read knows reads in
          (one.0, one.1, λ u hu above. absurd (omega (arith, least, above, top u hu)))
      | inr known ↦ (
        known.0,
        known.1,
        λ u hu above. elim known.2 [ inl claimed ↦ inl (omega (arith, claimed, top u hu)) | inr shown ↦ inr (omega (arith, shown, top u hu)) ],
      )
    ]

pub stands : (w : Core) → Inv w → Standing w
stands w i =
    let b = i.base in
    record {
      family = record {
        shown = b.places.shows;
        marks = λ j k h hk. below_is (table_at w.family j).mark (table_at w.family k).mark (b.tables.marks j k h hk);
        made = λ j h. made_is w j (table_at w.family j).parent (b.tables.made j h);
      };
      descent = record {
        known = b.places.firm_in;
        acknowledged = λ f e. b.plans.holds_told f (b.places.firm_in f e) (firm_live w.firm f f e (omega arith));
        nothing = b.plans.nothing;
        descends = b.plans.descends;
        issued = λ f j e le h. b.plans.issued j h (firm_live w.firm f j e le);
      };
      held = λ f e there.
          let c = b.places.covered f e there in
          (c.0, c.1, λ p took. (let k = c.2 p took in record { formed = k.held; table = k.table; shows = k.shows; above = k.above }));
      placed = b.places.listed_in;
      beaten = λ f j read e below reads.
          let x = b.places.beaten f j e below read (knows_above w.family w.places (table_at w.family j)) reads in
          elim x.above [
            | inl above ↦ inl (record {
              place = x.place;
              kind = elim x.late [
                | inl late ↦ late.0
                | inr seat ↦ absurd (false≢true (sym seat.1 ∙ above_known w.set w.family w.places j x.place b.tables (b.places.shows x.place) above))
              ];
              was_read = x.was_read;
              shows = λ r. above_some (newest w.places x.place) j above;
            })
            | inr stale ↦ elim (cases_Bool (holds w.places x.place && is_up w.lost x.place)) [
              | inl is ↦
                  let parts = and_parts (holds w.places x.place) (is_up w.lost x.place) is in
                  inr (x.place, x.was_read, record { place = stale.0; formed = parts.0; up = parts.1 }, stale_vote w j x.place x.named stale.1 stale.2)
              | inr isnt ↦ inl (record {
                place = x.place;
                kind = stale.0;
                was_read = x.was_read;
                shows = λ r. absurd (false≢true (sym isnt ∙ and_from (holds w.places x.place) (is_up w.lost x.place) r.formed r.up));
              })
            ]
          ];
      stale = λ j q vote.
          let below = stale_below w j q vote in
          let low = b.places.low q (omega (arith, below)) in
          (low.0, low.1, omega (arith, below, low.2));
      numbers = λ f j read e le hj reads. numbers_at w j read b hj (firm_live w.firm f j e le) reads;
      boots = boots_at w w.stage b i.stage;
      ready = ready_at w w.stage i.stage;
    }

pub stands_always : (set : Bool) (events : List Event) → StandsAlways set events
stands_always set events may = stands (after_all (start set) events) (reached_ok set events may)
