use Rattle.std.proofs.Common.{◌≡◌, Option, Some, None, refl, subst, arith}
use Rattle.std.specs.Prelude.{IfNone, IfSome}
use Rattle.std.specs.Option.{IsSome}
use Rattle.mdv_name.specs.SliceIndex.{HasNoSlice, HasSlice}
use Rattle.mdv_acts.specs.Below.{Geometry, Place, SliceAt}
use Rattle.mdv_acts.proofs.wiping.place_in.Goals as goal

there : (g : Geometry) (p : Place) (found : Option SliceAt) → ((at : SliceAt) × HasSlice g.slices p.slice at) → IfNone found (HasNoSlice g.slices p.slice) → IsSome found
there g p (Some at) listed none = refl
there g p None listed none = absurd (none listed.0 listed.1)

has_it : (g : Geometry) (p : Place) (found : Option SliceAt) (at : SliceAt) → IfSome found (HasSlice g.slices p.slice) → found ≡ Some at → HasSlice g.slices p.slice at
has_it g p found at has is = subst (λ (o : Option SliceAt). IfSome o (HasSlice g.slices p.slice)) is has

pub unwrap-at-requires : goal.unwrap-at-requires
unwrap-at-requires c = there c.args.geometry.now c.args.place c.slice.result c.requires.listed c.slice.ensures.none

pub overflow_add-result : goal.overflow_add-result
overflow_add-result c = (let short = c.requires.short c.unwrap-at.result (has_it c.args.geometry.now c.args.place c.slice.result c.unwrap-at.result c.slice.ensures.value c.unwrap-at.ensures) in let start = c.from.ensures in omega (arith, short, start))
