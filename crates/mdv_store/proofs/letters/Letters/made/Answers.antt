use Rattle.std.proofs.Common.{◌≡◌, ◌∙◌, ◌||◌, not, Bool, true, false, slice_index_or, refl, ap}
use Rattle.mdv_base.specs.declared.place.Place.{Place}
use Rattle.mdv_store.specs.Letters.{made_flags, places_seen}
use Rattle.mdv_store.proofs.Lettering.{seen_places, so_far_all, so_far_more}
use Rattle.mdv_store.proofs.letters.Letters.made.Goals as goal

one_or_other : (b : Bool) → true ≡ (b || not b)
one_or_other true = refl
one_or_other false = refl

abbrev no_place : Place
no_place = record { slice = record { drive = record { controller = 0; target = 0; disk = 0 }; slice = 0 }; start = 0; blocks = 0 }

pub loop-place-preserved : goal.loop-place-preserved
loop-place-preserved c =
    so_far_more (λ was place. made_flags was) c.args.places.now c.loop-place.place-index no_place c.loop-place.was true c.loop-place.seen c.push.new.self
    (record { place = slice_index_or c.args.places.now c.loop-place.place-index no_place; flags = made_flags c.loop-place.was })
    c.loop-place-test.true c.loop-place.invariant refl (rw (← c.made_flags.ensures) c.in_ok-push.ensures.ok) (one_or_other c.loop-place.was)

pub returns-clause-of : goal.returns-clause-of
returns-clause-of c =
    ap places_seen (so_far_all (λ was place. made_flags was) c.args.places.now c.loop-place.place-index c.loop-place.was c.loop-place.seen c.loop-place-test.false c.loop-place.invariant)
    ∙ seen_places (λ was place. made_flags was) false c.args.places.now
