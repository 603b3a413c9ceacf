use Rattle.std.proofs.Common.{subst, sym}
use Rattle.std.specs.Bool.{MatchBool}
use Rattle.mdv_name.specs.declared.entry.Entry.{Entry}
use Rattle.mdv_name.specs.declared.geometry.Geometry.{Geometry}
use Rattle.mdv_name.specs.Geometry.{Adds}
use Rattle.mdv_name.proofs.geometry.Geometry.add.Goals as goal

pub returns-in_ok-added-in-Slice : goal.returns-in_ok-added-in-Slice
returns-in_ok-added-in-Slice c =
    subst (λ (e : Entry). MatchBool c.in_ok-added-in-Slice.added (Adds c.args.self.now e c.add_slice.new.self) ((h : Geometry) → Adds c.args.self.now e h → ⊥)) (sym c.in-Slice.is) c.in_ok-added-in-Slice.ensures
