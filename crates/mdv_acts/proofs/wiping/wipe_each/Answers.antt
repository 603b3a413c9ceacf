use Rattle.std.proofs.Common.{◌≤◌, ◌&&◌, List, [], ◌∷◌, ◌++◌, ℕ, Bool, length, take, slice_index_or, sym, ◌∙◌, ap, subst}
use Rattle.std.proofs.lemmas.List.{take_more}
use Rattle.std.proofs.lemmas.List.Elements.{Contains-get_or}
use Rattle.mdv_acts.specs.Below.{Place}
use Rattle.mdv_acts.specs.Wipes.{IsLaidOn, WereWiped}
use Rattle.mdv_acts.proofs.Trying.{no_place, wiped_none, wiped_push}
use Rattle.mdv_acts.proofs.wiping.wipe_each.Goals as goal
use Rattle.mdv_acts.proofs.wiping.wipe_each.Goals.{After-wipe_place-wiped, then-clean, else-clean}

pub loop-dropped-init : goal.loop-dropped-init
loop-dropped-init g c = wiped_none g.S.Shelf c.args.geometry.now c.args.shelf.now c.args.lost.now

pub wipe_place-wiped-requires : goal.wipe_place-wiped-requires
wipe_place-wiped-requires g c = record {
  few = subst (λ (sizes : List ℕ). length sizes ≤ 256) (sym c.loop-dropped.invariant.tried.kept.keeps.same_sizes) c.requires.few;
  laid = subst (λ (sizes : List ℕ). IsLaidOn sizes c.args.geometry.now (slice_index_or c.args.places.now c.loop-dropped.dropped-index no_place)) (sym c.loop-dropped.invariant.tried.kept.keeps.same_sizes)
      (c.requires.laid _ (Contains-get_or c.args.places.now c.loop-dropped.dropped-index no_place c.loop-dropped-test.true));
}

abbrev Now : (g : _) → After-wipe_place-wiped g → Bool → Type 0
Now g c clean = WereWiped g.S.Shelf c.args.geometry.now c.args.shelf.now c.wipe_place-wiped.new.shelf (take c.loop-dropped.dropped-index c.args.places.now ++ slice_index_or c.args.places.now c.loop-dropped.dropped-index no_place ∷ []) c.args.lost.now c.wipe_place-wiped.new.lost clean

pub loop-dropped-preserved : goal.loop-dropped-preserved
loop-dropped-preserved g c =
    let places = c.args.places.now in
    let i = c.loop-dropped.dropped-index in
    let next = wiped_push g.S.Shelf c.args.geometry.now c.args.shelf.now c.loop-dropped.shelf c.wipe_place-wiped.new.shelf (take i places) c.args.lost.now c.loop-dropped.lost c.wipe_place-wiped.new.lost c.loop-dropped.clean (slice_index_or places i no_place) c.wipe_place-wiped.result c.loop-dropped.invariant c.wipe_place-wiped.ensures in
    subst (λ (ps : List Place). WereWiped g.S.Shelf c.args.geometry.now c.args.shelf.now c.wipe_place-wiped.new.shelf ps c.args.lost.now c.wipe_place-wiped.new.lost c.if-clean.clean) (sym (take_more places i no_place c.loop-dropped-test.true))
    (elim c.if-clean.branch [
      | then-clean w ↦ subst (Now g (goal.at.loop-dropped-preserved g c).After-wipe_place-wiped) (ap (λ (b : Bool). b && c.wipe_place-wiped.result) w.if-clean.true ∙ sym w.clean-is) next
      | else-clean w ↦ subst (Now g (goal.at.loop-dropped-preserved g c).After-wipe_place-wiped) (ap (λ (b : Bool). b && c.wipe_place-wiped.result) w.if-clean.false ∙ sym w.if-clean.false ∙ sym w.clean-is) next
    ])
