-- Places are blanked behind a crash.
use Rattle.std.proofs.Common.{◌≡◌, true, false, List, [], ◌∷◌, refl, sym, ◌∙◌, ap, subst, not}
use Rattle.std.proofs.lemmas.Bool.{and_from, not_from_false, or_left, or_right}
use Rattle.mdv_quorum.specs.May.{MayAll, is_firm_in, may_wipe}
use Rattle.mdv_quorum.specs.World.{wiped_at, without}
use Rattle.mdv_shown.specs.Wipes.{wiped_all}
use Rattle.mdv_votes.specs.Spots.{same_spot}
use Rattle.mdv_votes.proofs.Meeting.{same_self}
use Rattle.mdv_standing.specs.Below.{Core, Reading, Spot, Stage, after_all, is_in}
use Rattle.mdv_standing.proofs.Creating.{wipe_each}

pub cut_is : (spots : List Spot) (w : Core) → w.stage ≡ Reading [] → after_all w (wiped_all spots) ≡ record w { places = wipe_each w.places spots }
cut_is [] w e = refl
cut_is (p ∷ ps) w e = ap (λ (v : Core). after_all v (wiped_all ps)) (ap (wiped_at w p) e) ∙ cut_is ps (without w p) e

-- no seats, and none that the firm table names, are blanked behind a crash
pub cut_loose : (spots : List Spot) (w : Core) → w.stage ≡ Reading [] → ((q : Spot) → is_in spots q ≡ true → (q.mediator ≡ false) × (is_firm_in w.family w.firm q ≡ false)) → MayAll w (wiped_all spots)
cut_loose [] w e are = tt
cut_loose (p ∷ ps) w e are =
    let mine = are p (or_left (same_spot p p) (is_in ps p) (same_self p)) in (
      subst (λ (s : Stage). may_wipe w p s ≡ true) (sym e) (and_from (not p.mediator) (not (is_firm_in w.family w.firm p)) (not_from_false p.mediator mine.0) (not_from_false (is_firm_in w.family w.firm p) mine.1)),
      subst (λ (v : Core). MayAll v (wiped_all ps)) (sym (ap (wiped_at w p) e)) (cut_loose ps (without w p) e (λ q has. are q (or_right (same_spot p q) (is_in ps q) has))),
    )
