use Rattle.std.proofs.Common.{◌≡◌, Some, inl, inr, sym, subst}
use Rattle.mdv_layout_law.specs.Below.{IsKindOf, volume_of}
use Rattle.mdv_layout.proofs.InTable.{kind_is}
use Rattle.mdv_layout.proofs.laying.lay_out.Goals as goal

pub lay_rows-requires-clause-rows : goal.lay_rows-requires-clause-rows
lay_rows-requires-clause-rows c =
    let found : volume_of c.args.table.now.plan c.args.volume ≡ Some c.in_ok-volume.volume.now = sym c.in_ok-volume.ensures in
    subst (IsKindOf c.args.geometry.now) c.in-Stripe.is (kind_is c.args.geometry.now c.args.table.now c.args.volume c.in_ok-volume.volume.now c.requires.table found)

pub unreachable-requires : goal.unreachable-requires
unreachable-requires c =
    let found : volume_of c.args.table.now.plan c.args.volume ≡ Some c.in_ok-volume.volume.now = sym c.in_ok-volume.ensures in
    let kind = kind_is c.args.geometry.now c.args.table.now c.args.volume c.in_ok-volume.volume.now c.requires.table found in
    elim c.in-Mirror.is [
      | inl mirror ↦ subst (IsKindOf c.args.geometry.now) mirror.1 kind
      | inr (inl raid) ↦ subst (IsKindOf c.args.geometry.now) raid.1 kind
      | inr (inr soft) ↦ subst (IsKindOf c.args.geometry.now) soft.1 kind
    ]
